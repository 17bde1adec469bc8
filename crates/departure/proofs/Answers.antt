-- Questions 10 to 14 one by one: what each answer, by places, says of the block that the memory holds. Assumes nothing.
use Rattle.std.specs.Prelude.{None, Option, Some}
use mathlib.Core.Path.{◌≡◌, sym, ◌∙◌, ap}
use mathlib.Core.Bool.{true, false, not}
use mathlib.Core.List.{List}
use Prim.Native.Nat.{ℕ, ◌≤◌, ◌<◌}
use native.Mathlib.Omega.{arith}
use lib.Dec.{leb}
use lib.ListN.{length, get_or, take}
use lib.Seq.{get_or-take, length-take-le}
use borrow.Author.Tests.{le-leb, lt-leb}
use Rattle.laws.proofs.Members.{getD_in}
use Rattle.model.specs.Lists.{all, any}
use Rattle.model.specs.Values.{room}
use Rattle.model.specs.Cells.{held, next_in, opposite_in, third_at, volume_in}
use Rattle.model.specs.Image.{count_in, column}
use Rattle.model.specs.Departure.{is_sewn_into}
use Rattle.model.specs.Links.{pairs_once, vertex_pairs}
use Rattle.memory.specs.Lookup.{place_in}
use Rattle.memory.specs.declared.record.Place.{Place}
use Rattle.memory.proofs.Lookups.{place_at, held_at, held_nothing}
use Rattle.cells.specs.Places.{InOrder, Marked, Numbered, WholeCells, ends_once, places_in, sewn_in, volume_of}
use Rattle.cells.proofs.Sited.{Sited, darts_in}
use Rattle.cells.proofs.Serials.{volume_size}
use Rattle.cells.proofs.SewnLaws.{question_12}
use Rattle.cells.proofs.VolumeReady.{out_few, out_long, out_below, out_marked, out_any}
use Rattle.cells.proofs.VolumeArrays.{out_count, pairs_answer}
use Rattle.departure.specs.Asked.{faces_at}
use Rattle.departure.specs.Questions.{VolumeWalked}

-- 10: a dart of the block, by its serial and its place
pub record HeldAt (m : List ℕ) (s p : ℕ) : Type 0 where
  pub below : p < count_in m
  pub serial_is : column m 0 p ≡ s
  pub is_held : held (darts_in m) s ≡ true

-- what 13 asks of a list by its places
module _ (out : List ℕ) (darts : ℕ) {n : ℕ} {nx op : ℕ → ℕ} (w : WholeCells n nx op (take darts out)) (long : darts ≤ length out) where
  pub taken : length (take darts out) ≡ darts
  taken = length-take-le darts out long

  pub whole_few : darts ≤ room
  whole_few = omega (arith, taken, w.few)

  pub whole_below : (k : ℕ) → k < darts → get_or out k 0 < n
  whole_below k j =
      let r = w.below (get_or (take darts out) k 0) (getD_in (take darts out) k (omega (arith, taken))) in
      omega (arith, get_or-take darts out k 0 j)

module _ (m : List ℕ) (s : ℕ) {look : Option Place} (ten : look ≡ place_in (column m 0) (count_in m) s) where
  pub held_no : look ≡ None → held (darts_in m) s ≡ false
  held_no e = held_nothing m s (sym ten ∙ e)

  pub held_yes : Sited m → {at : Place} → look ≡ Some at → HeldAt m s at.0
  held_yes site e =
      let found = sym ten ∙ e in
      let there = place_at (column m 0) (count_in m) s found in
      record { below = there.0; serial_is = there.1; is_held = held_at m s site.ascends found }

-- of the volume of the dart at place p
module _ {m : List ℕ} {p : ℕ} (site : Sited m) (below : p < count_in m) where
  -- 11
  pub within_no : (most : ℕ) → most < length (places_in (count_in m) (volume_of m p)) → leb (length (volume_in (darts_in m) (column m 0 p))) most ≡
      false
  within_no most few = lt-leb (length (volume_in (darts_in m) (column m 0 p))) most (omega (arith, volume_size site p below))

  pub within_yes : {most t : ℕ} {marks out : List ℕ} → VolumeWalked m p t marks out → t ≤ most → leb (length (volume_in (darts_in m) (column m 0 p)))
      most ≡ true
  within_yes {most} w few = le-leb (length (volume_in (darts_in m) (column m 0 p))) most (omega (arith, volume_size site p below, w.size_is))

  module _ {marks : List ℕ} (mk : Marked (volume_of m p) marks) {out starts : List ℕ} {darts count : ℕ}
      (o : InOrder (faces_at m marks) out starts darts count) where
    pub as_many : {t : ℕ} {out' : List ℕ} → VolumeWalked m p t marks out' → darts ≡ t
    as_many w = out_count site p below mk o ∙ volume_size site p below ∙ sym w.size_is

    -- what 12 and `unmark-both` ask of the list
    pub list_ready : (darts ≤ room) × (darts ≤ length out) × ((k : ℕ) → k < darts → get_or out k 0 < count_in m)
    list_ready =
        let l = site.linked in
        (omega (arith, out_few l below mk o, l.few), out_long l below mk o, out_below l below mk o)

    pub unmark_both_ready : {seen : List ℕ} → Marked (take darts out) seen → count_in m ≤ length marks → count_in m ≤ length seen
        → (darts ≤ room) × (darts ≤ length out) × ((k : ℕ) → k < darts → (get_or out k 0 < length marks) × (get_or out k 0 < length seen))
        × Marked (take darts out) marks × Marked (take darts out) seen
    unmark_both_ready sm lm ls =
        let ready = list_ready in
        (ready.0, ready.1, (λ k j. (omega (arith, ready.2 k j), omega (arith, ready.2 k j))), out_marked site.linked below mk o, sm)

    -- 12
    pub sewn_answer : all (λ x. not (is_sewn_into (volume_in (darts_in m) (column m 0 p)) (third_at (darts_in m) x)))
        (volume_in (darts_in m) (column m 0 p))
        ≡ not (any (sewn_in m marks) (take darts out))
    sewn_answer = question_12 site p below mk ∙ ap not (sym (out_any site.linked below mk o (sewn_in m marks)))

    -- 13
    pub pairs_told : {numbers firsts : List ℕ} {vs : ℕ} → Numbered (column m 1) (column m 2) (take darts out) numbers firsts vs
        → pairs_once (vertex_pairs (next_in (darts_in m)) (opposite_in (darts_in m)) (volume_in (darts_in m) (column m 0 p))) ≡ ends_once (column m 1)
        (column m 2) numbers firsts vs
    pairs_told nb = sym (pairs_answer site p below mk o nb)
