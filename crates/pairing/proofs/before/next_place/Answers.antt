-- `pairing::before::next_place` meets its contract.
-- Assumes nothing.
use Rattle.pairing.proofs.InBlocks.{few}
use Rattle.pairing.proofs.ToldBy.{place_in, number_held, next_told}
use native.Mathlib.Omega.{arith}
use Rattle.pairing.proofs.before.next_place.Goals as goal

pub overflow_add-i : goal.overflow_add-i
overflow_add-i c =
    omega (arith, place_in c.requires.0 c.args.i c.args.p.0 c.requires.1 c.requires.2, few c.requires.0, c.requires.1)

pub word-requires : goal.word-requires
word-requires c =
    let mesh = c.args.mesh.now in
    let i = c.args.i in
    let p' = c.args.p.0 in
    number_held mesh i p' c.requires.1 (place_in c.requires.0 i p' c.requires.1 c.requires.2)

pub returns : goal.returns
returns c =
    next_told c.requires.0 c.args.i c.args.p.0 c.requires.1 c.requires.2 c.word.ensures
