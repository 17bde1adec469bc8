-- `balance::surplus::count_part` meets its contract. Assumes nothing.
use Prim.Native.Nat.{ℕ}
use mathlib.Core.Path.{◌≡◌, sym, ap, subst, ◌∙◌}
use mathlib.Core.Bool.{true}
use mathlib.Core.List.{List}
use lib.ListN.{length}
use Rattle.model.specs.Image.{block_in, holds_block}
use Rattle.model.specs.Balance.{picked}
use Rattle.oracle.specs.Oracle.{oracle_of}
use native.Mathlib.Omega.{arith}
use Rattle.balance.proofs.surplus.count_part.Goals as goal

pub count-requires : goal.count-requires
count-requires c =
    subst (λ (l : List ℕ). holds_block l ≡ true) (sym c.part_of.ensures) (c.requires.0.image c.args.i c.requires.1)

pub overflow_cast-result : goal.overflow_cast-result
overflow_cast-result c =
    omega arith

pub returns : goal.returns
returns c =
    let o = c.args.o in
    (c.count.ensures.0 ∙ ap (λ (l : List ℕ). length (picked (oracle_of o) (block_in l).darts)) c.part_of.ensures, c.count.ensures.1)
