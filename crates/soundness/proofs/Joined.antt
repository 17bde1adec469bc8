-- The darts of a transfer beside those of a sound block, before any face is linked: a sound block. Assumes nothing.
use mathlib.Core.Path.{◌≡◌, refl, sym, ◌∙◌, ap, subst}
use mathlib.Core.Logic.{◌⊎◌, inl, inr}
use mathlib.Core.Bool.{true, false, true≢false}
use mathlib.Core.List.{List, [], ◌∷◌, map}
use mathlib.Core.Option.{Option, none, some}
use Prim.Native.Nat.{ℕ, suc, ◌+◌, ◌≤◌}
use native.Mathlib.Omega.{arith}
use lib.Dec.{ltb}
use lib.ListN.{length, length-map}
use Rattle.model.specs.Lists.{mem, distinct, ascending, find, insert}
use Rattle.model.specs.Values.{free, Dart, Block, Limits}
use Rattle.model.specs.Cells.{dart_at, next_in, opposite_in, third_at, serials}
use Rattle.model.specs.Sound.{sound_block}
use Rattle.model.specs.Messages.{Transfer, size_all}
use Rattle.model.specs.Arrival.{new_darts, insert_all}
use Rattle.laws.proofs.Members.{In}
use Rattle.laws.proofs.Tests.{by_cases}
use Rattle.theory.proofs.BlockLaws.{held_found}
use Rattle.theory.proofs.ImageLaws.{parts_of, ranges_of}
use Rattle.agreement.proofs.Described.{found_there, absent_not_found}
use Rattle.agreement.proofs.Received.{or_else, find_insert_all, insert_all_ascends}
use Rattle.soundness.proofs.Beside.{frame_cong, frame_join, good_join}
use Rattle.soundness.proofs.ByDarts.{Frame, point_of, frame_of, good_of, sound_back}
use Rattle.soundness.proofs.NewDarts.{new_serials, serials_new_are, new_side, free_side}
use Rattle.soundness.proofs.Starts.{count_serials}

-- INSERTING
insert_length : (d : Dart) (l : List Dart) → length (insert (λ e. e.serial) d l) ≡ suc (length l)
insert_length d [] = refl
insert_length d (e ∷ l) = by_cases (ltb d.serial e.serial) (λ t. rw t) (λ t. rw t (ap suc (insert_length d l)))

insert_all_length : (ns es : List Dart) → length (insert_all ns es) ≡ length ns + length es
insert_all_length [] es = omega arith
insert_all_length (n ∷ ns) es = insert_length n (insert_all ns es) ∙ (let r = insert_all_length ns es in omega arith)

-- what keeps serials goes past inserting
module _ (f : Dart → Dart) (same : (d : Dart) → (f d).serial ≡ d.serial) where
  insert_map : (d : Dart) (l : List Dart) → map f (insert (λ e. e.serial) d l) ≡ insert (λ e. e.serial) (f d) (map f l)
  insert_map d [] = refl
  insert_map d (e ∷ l) =
      let q : ltb (f d).serial (f e).serial ≡ ltb d.serial e.serial = ap (λ (x : ℕ). ltb x (f e).serial) (same d) ∙ ap (ltb d.serial) (same e) in
      by_cases (ltb d.serial e.serial) (λ k. rw (k, q ∙ k)) (λ k. rw (k, q ∙ k) (ap (λ (r : List Dart). f e ∷ r) (insert_map d l)))

  pub insert_all_map : (ns es : List Dart) → map f (insert_all ns es) ≡ insert_all (map f ns) (map f es)
  insert_all_map [] es = refl
  insert_all_map (n ∷ ns) es = insert_map n (insert_all ns es) ∙ ap (insert (λ e. e.serial) (f n)) (insert_all_map ns es)

-- THE BLOCK WITH THE NEW DARTS
module _ (lim : Limits) (b : Block) (t : Transfer) (s : sound_block lim b ≡ true) (once : distinct (new_serials t) ≡ true)
    (apart : (x : ℕ) → In x (new_serials t) → mem x (serials b.darts) ≡ false)
    (frame : Frame (new_serials t) (next_in (new_darts t)) (opposite_in (new_darts t)) (point_of (new_darts t)))
    (room : length b.darts + size_all t.faces ≤ lim.block_darts) where
  abbrev pub joined_darts : List Dart
  joined_darts = insert_all (new_darts t) b.darts

  abbrev pub joined : Block
  joined = record { number = b.number; counter = b.counter; darts = insert_all (new_darts t) b.darts }

  once_new : distinct (serials (new_darts t)) ≡ true
  once_new = rw (serials_new_are t) once

  absent_old : (x : ℕ) → In x (serials (new_darts t)) → find (λ d. d.serial) x b.darts ≡ none
  absent_old x h = absent_not_found x b.darts (apart x (rw (serials_new_are t) at h))

  found_joined : (x : ℕ) → find (λ d. d.serial) x joined_darts ≡ or_else (find (λ d. d.serial) x (new_darts t)) (find (λ d. d.serial) x b.darts)
  found_joined = find_insert_all (new_darts t) b.darts once_new absent_old

  not_new : (x : ℕ) → In x (serials b.darts) → mem x (serials (new_darts t)) ≡ false
  not_new x h = by_cases (mem x (serials (new_darts t))) (λ e. absurd (true≢false (sym h ∙ apart x (rw (serials_new_are t) at e)))) (λ e. e)

  pub old_at : (x : ℕ) → In x (serials b.darts) → dart_at joined_darts x ≡ dart_at b.darts x
  unfolding dart_at
  old_at x h = rw (found_joined x, absent_not_found x (new_darts t) (not_new x h))

  pub new_at : (x : ℕ) → In x (new_serials t) → dart_at joined_darts x ≡ dart_at (new_darts t) x
  unfolding dart_at
  new_at x h = let r = held_found x (new_darts t) (rw (serials_new_are t) h) in rw (found_joined x, r.1)

  pub old_in : (x : ℕ) → In x (serials b.darts) → In x (serials joined_darts)
  old_in x h = let r = held_found x b.darts h in found_there x joined_darts r.0 (found_joined x ∙ rw (absent_not_found x (new_darts t) (not_new x h)) r.1)

  pub new_in : (x : ℕ) → In x (new_serials t) → In x (serials joined_darts)
  new_in x h = let r = held_found x (new_darts t) (rw (serials_new_are t) h) in found_there x joined_darts r.0 (found_joined x ∙ rw r.1)

  pub old_or_new : (x : ℕ) → In x (serials joined_darts) → In x (serials b.darts) ⊎ In x (new_serials t)
  old_or_new x h = let r = held_found x joined_darts h in go (find (λ d. d.serial) x (new_darts t)) refl r.0 r.1
    where
      go : (o : Option Dart) → find (λ d. d.serial) x (new_darts t) ≡ o → (d : Dart) → find (λ d. d.serial) x joined_darts ≡ some d → In x (serials b.darts) ⊎ In x (new_serials t)
      go none e d f = inl (found_there x b.darts d (rw e at (sym (found_joined x)) ∙ f))
      go (some n) e d f = inr (subst (In x) (serials_new_are t) (found_there x (new_darts t) n e))

  in_order : ascending (serials joined_darts) ≡ true
  in_order = insert_all_ascends (new_darts t) b.darts once_new absent_old (ranges_of lim b (parts_of lim b s).ranges).in_order

  pub free_new : (x : ℕ) → In x (new_serials t) → third_at joined_darts x ≡ free
  free_new x h = ap (λ (d : Dart). d.third) (new_at x h) ∙ (let r = new_side t x h in ap (third_at (new_darts t)) r.2 ∙ free_side t once r.0 r.1)

  frame_new : Frame (new_serials t) (next_in joined_darts) (opposite_in joined_darts) (point_of joined_darts)
  frame_new =
      frame_cong (new_serials t) _ _ _ _ _ _ (λ x h. ap (λ (d : Dart). d.next) (new_at x h))
      (λ x h. ap (λ (d : Dart). d.opposite) (new_at x h)) (λ x h. ap (λ (d : Dart). d.point) (new_at x h)) frame

  frame_old : Frame (serials b.darts) (next_in joined_darts) (opposite_in joined_darts) (point_of joined_darts)
  frame_old =
      frame_cong (serials b.darts) _ _ _ _ _ _ (λ x h. ap (λ (d : Dart). d.next) (old_at x h))
      (λ x h. ap (λ (d : Dart). d.opposite) (old_at x h)) (λ x h. ap (λ (d : Dart). d.point) (old_at x h)) (frame_of lim b s)

  few : length joined_darts ≤ lim.block_darts
  few = let r = insert_all_length (new_darts t) b.darts in
      let n = sym (length-map (new_darts t) (λ (d : Dart). d.serial)) ∙ ap length (serials_new_are t) ∙ count_serials t in
      omega arith

  pub joined_sound : sound_block lim joined ≡ true
  joined_sound =
      let r = ranges_of lim b (parts_of lim b s).ranges in
      sound_back lim joined r.number_small r.counter_small few in_order
      (frame_join (serials b.darts) (new_serials t) (serials joined_darts) old_or_new old_in new_in _ _ _ frame_old frame_new)
      (third_at joined_darts) (λ x h. refl)
      (good_join (serials b.darts) (new_serials t) (serials joined_darts) old_or_new old_in new_in _ _ _ _ _ _ b.number b.counter
      (λ x h. ap (λ (d : Dart). d.next) (old_at x h)) (λ x h. ap (λ (d : Dart). d.point) (old_at x h)) (λ x h. ap (λ (d : Dart). d.third) (old_at x h))
      (frame_of lim b s).next_stays frame_new.next_stays free_new (good_of lim b s))
