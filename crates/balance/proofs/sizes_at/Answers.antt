-- `balance::sizes_at` meets its contract. Assumes nothing.
use Prim.Native.Nat.{ℕ, ◌≤◌}
use mathlib.Core.Path.{◌≡◌, sym, subst}
use mathlib.Core.Bool.{true}
use mathlib.Core.List.{List}
use lib.ListN.{length, get_or}
use Rattle.model.specs.Image.{holds_block}
use Rattle.balance.proofs.MovesLaws.{sizes_there}
use Rattle.balance.proofs.sizes_at.Goals as goal

pub sizes_of-requires : goal.sizes_of-requires
sizes_of-requires c =
    let sizes = c.args.sizes.now in (
      subst (λ (l : List ℕ). holds_block l ≡ true) (sym c.part_of.ensures) (c.requires.0.image c.args.i c.requires.1),
      subst (λ (l : List ℕ). get_or l 2 0 ≤ length sizes) (sym c.part_of.ensures) c.requires.2,
    )

pub returns : goal.returns
returns c =
    sizes_there c.sizes_of.ensures c.part_of.ensures
