-- The messages block by block are the updates of the volume, one after the other. Assumes nothing.
use mathlib.Core.Path.{◌≡◌, refl, sym, ◌∙◌, ap}
use mathlib.Core.Bool.{true, false, cond}
use mathlib.Core.List.{List, [], ◌∷◌, ◌++◌, map, append_assoc}
use mathlib.Core.Option.{Option, none, some}
use Prim.Native.Nat.{ℕ, zero, suc, ◌+◌, ◌≤◌, ◌<◌}
use native.Mathlib.Omega.{arith}
use lib.Dec.{eqb}
use lib.ListN.{length, get_or, length-map, get_or-map}
use borrow.Author.Tests.{lt-ltb}
use Rattle.model.specs.Values.{Label}
use Rattle.model.specs.Lists.{keep, collect, concat, least, more, tab}
use Rattle.model.specs.Cells.{start_of}
use Rattle.model.specs.Image.{column, label_in, holds_block}
use Rattle.model.specs.Layouts.{group, such_that, at_most, exactly, times, counted, put_all, framed, ◌⊗◌, ◌⊕◌, as_type}
use Rattle.model.specs.Messages.{Update, label, update}
use Rattle.laws.proofs.Tests.{by_cases}
use Rattle.theory.proofs.ImageLaws.{tab_list}
use Rattle.cells.specs.Places.{InOrder}
use Rattle.departure.specs.ByPlaces.{critical_with, least_at, update_at, updates_at}
use Rattle.departure.specs.Asked.{Surveyed, faces_at}
use Rattle.departure.specs.declared.Counts.{Counts}
use Rattle.departure.proofs.FirstNo.{ranges_in}
use Rattle.outbox.specs.Runs.{run, tally}
use Rattle.outbox.specs.Bytes.{in_part2, size_of_face, start_at}
use Rattle.theory.proofs.GroupLaws.{one_group}
use Rattle.outbox.proofs.ByFaces.{count_faces, first_is, place_is, size_is}
use Rattle.outbox.proofs.Ready.{some_face}
use Rattle.outbox.proofs.RunLists.{put_kept, run_cong, run_first}
use Rattle.outbox.specs.ByBlocks.{head_bytes, least_code, least_put, relative, rest_for, told_put}
use Rattle.outbox.proofs.UpdateLaws.{six_lengths, told_none, told_some, update_of}

abbrev message_of : Option Update → List ℕ
message_of none = []
message_of (some u) = framed update u

first_message : (o : Option Update) (us : List Update) → concat (map (framed update) (more o us)) ≡ message_of o ++ concat (map (framed update) us)
unfolding concat
first_message none us = refl
first_message (some u) us = refl

collected : (g : ℕ → Option Update) (e : ℕ → ℕ) (n : ℕ) → concat (map (framed update) (collect g (tab e n))) ≡ run (λ k. message_of (g (e k))) n
unfolding concat run
collected g e zero = refl
collected g e (suc n) = first_message (g (e 0)) (collect g (tab (λ k. e (suc k)) n))
    ∙ ap (λ (l : List ℕ). message_of (g (e 0)) ++ l) (collected g (λ k. e (suc k)) n) ∙ run_first (λ k. message_of (g (e k))) n

-- ONE UPDATE by its layout
layout_bytes : (u : Update)
    → update.put u
    ≡ group.put 2
    ++ (group.put u.from
    ++ (group.put u.to ++ (group.put u.block ++ (group.put (length u.labels) ++ put_all label u.labels))))
unfolding update as_type ◌⊗◌ ◌⊕◌ exactly at_most such_that counted times
layout_bytes u = refl

after_head : (r a b c d e f : List ℕ) → r ++ (a ++ (b ++ (c ++ (d ++ (e ++ f))))) ≡ (r ++ (a ++ (b ++ (c ++ (d ++ e))))) ++ f
after_head r a b c d e f = simp append_assoc

module _ (m : List ℕ) (j k : ℕ) (us : List Label) (x : get_or m 0 0 ≤ 15) (y : k ≤ 15) (z : j ≤ 15) where
  abbrev the_update : Update
  the_update = record { from = get_or m 0 0; to = k; block = j; labels = us }

  rest_is : {n : ℕ} {l : List ℕ} → n ≡ length us → l ≡ put_all label us → length (update.put the_update) ≡ rest_for n (length l)
  unfolding rest_for
  rest_is {n} {l} p q = ap length (layout_bytes the_update)
      ∙ six_lengths (group.put 2) (group.put (get_or m 0 0)) (group.put k) (group.put j) (group.put (length us)) (put_all label us)
      ∙ omega (arith, one_group 2 (omega arith), one_group (get_or m 0 0) (omega arith), one_group k (omega arith), one_group j (omega arith), ap (λ (i : ℕ). length (group.put i)) p, ap length q)

  message_is : {n : ℕ} {l : List ℕ} → n ≡ length us → l ≡ put_all label us → framed update the_update ≡ head_bytes m j k n (rest_for n (length l)) ++ l
  unfolding framed head_bytes
  message_is {n} {l} p q =
      ap (λ (i : ℕ). group.put i ++ update.put the_update) (rest_is p q)
      ∙ ap (λ (t : List ℕ). group.put (rest_for n (length l)) ++ t) (layout_bytes the_update)
      ∙ after_head (group.put (rest_for n (length l))) (group.put 2) (group.put (get_or m 0 0)) (group.put k) (group.put j) (group.put (length us)) (put_all label us)
      ∙ rw (← p, ← q)

-- FACE BY FACE
module _ (m : List ℕ) {fs : List (List ℕ)} {order starts : List ℕ} {darts count : ℕ} (o : InOrder fs order starts darts count)
    (some_dart : (k : ℕ) → k < count → 0 < length (get_or fs k [])) where
  code_is : (f : ℕ) → f < count → least (map (column m 4) (get_or fs f [])) ≡ least_code m order (get_or starts f 0) (size_of_face starts count darts f)
  unfolding least_code
  code_is f h =
      let F = get_or fs f [] in
      let c : ℕ → ℕ = λ t. column m 4 (get_or order (get_or starts f 0 + t) 0) in
      let same : length (map (column m 4) F) ≡ size_of_face starts count darts f = length-map F (column m 4) ∙ sym (size_is o f h) in
      ap least (sym (tab_list (column m 4 0) (map (column m 4) F) c (λ t l. ap (column m 4) (place_is o f h t (omega (arith, length-map F (column m 4)))) ∙ sym (get_or-map (column m 4) F t 0))))
      ∙ ap (λ (n : ℕ). least (tab c n)) same

  module _ (k : ℕ) where
    abbrev shared : List (List ℕ)
    shared = keep (λ f. critical_with m k (start_of f)) fs

    count_is : length shared ≡ tally (in_part2 m k order starts) count
    count_is = count_faces m [] o some_dart (critical_with m k)

    face_is : (f : ℕ) → f < count → cond (critical_with m k (start_of (get_or fs f []))) (label.put (least_at m (get_or fs f []))) [] ≡ least_put m k order starts darts count f
    unfolding least_put
    face_is f h = ap (λ (p : ℕ). cond (critical_with m k p) (label.put (least_at m (get_or fs f []))) []) (first_is o f h (some_dart f h))
        ∙ ap (λ (w : ℕ). cond (critical_with m k (start_at order starts f)) (label.put (label_in w)) []) (code_is f h)

    labels_are : put_all label (map (least_at m) shared) ≡ run (least_put m k order starts darts count) count
    labels_are = put_kept [] label (least_at m) (λ f. critical_with m k (start_of f)) fs ∙ ap (run _) (sym o.count_is) ∙ run_cong _ _ count face_is

    module _ (j : ℕ) (x : get_or m 0 0 ≤ 15) (y : k ≤ 15) (z : j ≤ 15) where
      -- by what is shared
      told_is : (gs : List (List ℕ)) → length gs ≡ tally (in_part2 m k order starts) count → put_all label (map (least_at m) gs) ≡ run (least_put m k order starts darts count) count
          → message_of (update_at m j k gs) ≡ told_put m j order starts darts count k
      told_is [] n l = sym (told_none m j order starts darts count k n refl)
      told_is (g ∷ gs) n l = by_cases (eqb k j)
          (λ e. rw e (sym (told_none m j order starts darts count k n (other e))))
          (λ e. rw e (message_is m j k (map (least_at m) (g ∷ gs)) x y z (sym (length-map (g ∷ gs) (least_at m))) refl
          ∙ sym
          (told_some m j order starts darts count k n (told e) ∙ update_of m j order starts darts count k n (ap length l) ∙ ap (λ (t : List ℕ). head_bytes m j k (length (g ∷ gs)) (rest_for (length (g ∷ gs)) (length (put_all label (map (least_at m) (g ∷ gs))))) ++ t) (sym l))))
        where
          other : eqb k j ≡ true → relative j k (length (g ∷ gs)) ≡ false
          other e = rw (e, lt-ltb 0 (length (g ∷ gs)) (omega arith))

          told : eqb k j ≡ false → relative j k (length (g ∷ gs)) ≡ true
          told e = rw (e, lt-ltb 0 (length (g ∷ gs)) (omega arith))

  pub updates_run : (j : ℕ) → get_or m 0 0 ≤ 15 → j ≤ 15 → concat (map (framed update) (updates_at m j fs)) ≡ run (told_put m j order starts darts count) 16
  unfolding updates_at
  updates_run j x z = collected (λ k. update_at m j k (shared k)) (λ k. k) 16
      ∙ run_cong (λ k. message_of (update_at m j k (shared k))) _ 16 (λ k h. told_is k j x (omega arith) z (shared k) (count_is k) (labels_are k))

-- OF A SURVEYED VOLUME
pub updates_bytes : (m : List ℕ) → holds_block m ≡ true → (j : ℕ) → j ≤ 15 → {c : Counts} {marks order starts numbers firsts : List ℕ} → Surveyed m c marks order starts numbers firsts
    → concat (map (framed update) (updates_at m j (faces_at m marks))) ≡ run (told_put m j order starts c.darts c.faces) 16
updates_bytes m ok j z s = updates_run m s.order (some_face m ok s) j (ranges_in m ok).number_small z
