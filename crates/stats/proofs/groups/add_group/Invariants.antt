-- `stats::groups::add_group` meets its contract. The loop's invariant (`Going`): what is queued from `tail` on is of the group and in it, and
-- the links of what stands before `head` lead to what is in a group. The measure is what is left of the places. Assumes nothing.
use mathlib.Core.Path.{◌≡◌}
use mathlib.Core.List.{List}
use Prim.Native.Nat.{ℕ, ◌-◌}
use lib.ListN.{length, get_or}
use Rattle.stats.specs.Groups.{links_at, group_of, Queued, GroupEntered}
use Rattle.stats.proofs.Numbering.{Going}
use Rattle.stats.proofs.groups.add_group.Given as goal

abbrev pub invariant-loop-head : goal.invariant-loop-head
invariant-loop-head l =
    (length l.order ≡ length l.initial.order) × (length l.groups ≡ length l.initial.groups)
    ×
    ((G o : List ℕ) → Queued (get_or l.block 2 0) G o l.tail → GroupEntered l.first l.group G o l.tail l.initial.groups l.initial.order l.initial.end
    → Going (get_or l.block 2 0) (links_at l.third l.block) l.group l.first (group_of l.third l.block l.first) G l.tail l.groups l.order l.end l.head)

abbrev pub decreases-loop-head : goal.decreases-loop-head
decreases-loop-head l =
    4096 - l.head
