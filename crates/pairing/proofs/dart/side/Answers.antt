-- `pairing::dart::side` meets its contract.
-- Assumes nothing.
use Rattle.pairing.proofs.ToldBy.{read_next, read_before, side_told}
use native.Mathlib.Omega.{arith}
use Rattle.pairing.proofs.dart.side.Goals as goal

pub word-after-requires : goal.word-after-requires
word-after-requires c =
    read_next c.requires.0 c.requires.2 c.next.ensures 4 (omega arith)

pub word-last-requires : goal.word-last-requires
word-last-requires c =
    read_before c.requires.0 c.requires.3 c.requires.1 c.previous.ensures 4 (omega arith)

pub returns : goal.returns
returns c =
    let mesh = c.args.mesh.now in
    let table = c.args.table.now in
    let g = c.args.g in
    let h = c.args.h in
    side_told mesh table g h c.word.ensures c.other_of-named.ensures c.next.ensures c.word-after.ensures c.previous.ensures c.word-last.ensures
