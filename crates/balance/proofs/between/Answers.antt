-- `balance::between` meets its contract. Assumes nothing.
use Prim.Native.Nat.{ℕ, ◌≤◌}
use mathlib.Core.Path.{◌≡◌, sym, subst}
use mathlib.Core.Bool.{true}
use mathlib.Core.List.{List}
use lib.ListN.{length, get_or}
use Rattle.model.specs.Image.{holds_block}
use Rattle.balance.proofs.MovesLaws.{between_there}
use Rattle.balance.proofs.between.Goals as goal

pub left_for-left-requires : goal.left_for-left-requires
left_for-left-requires c =
    (c.requires.0, c.requires.2)

pub first_leaving-requires : goal.first_leaving-requires
first_leaving-requires c =
    let sizes = c.args.sizes.now in (
      subst (λ (l : List ℕ). holds_block l ≡ true) (sym c.part_of.ensures) (c.requires.0.image _ c.requires.1),
      subst (λ (l : List ℕ). get_or l 2 0 ≤ length sizes) (sym c.part_of.ensures) c.requires.3,
    )

pub returns : goal.returns
returns c =
    let b = between_there c.args.sizes.now c.part_of.ensures c.left_for-left.ensures c.first_leaving.ensures.candidate
    c.first_leaving.ensures.untried in
    record { candidate = b.0; untried = b.1 }
