-- A transfer that send writes passes question 20 at its destination, and 21 is the undivided run's. Assumes nothing.
use mathlib.Core.Path.{◌≡◌, refl, sym, ◌∙◌, ap, subst}
use mathlib.Core.Logic.{◌⊎◌, inl, inr, ◌≢◌}
use mathlib.Core.Bool.{Bool, true, false, true≢false, cond, not, ◌&&◌, ◌||◌}
use mathlib.Core.List.{List, [], ◌∷◌, ◌++◌, map}
use mathlib.Core.Option.{Option, none, some, some-injective}
use Prim.Native.Nat.{ℕ, suc, ◌+◌, ◌<◌}
use native.Mathlib.Omega.{arith}
use native.Mathlib.Nat.{zero-add, add-zero}
use lib.Dec.{leb, ltb, eqb}
use lib.ListN.{length, length-map}
use borrow.Author.Tests.{eqb-true, eqb-false, eq-eqb, ne_eqb, lt-ltb, not-true, not-false}
use Rattle.model.specs.Lists.{all, keep, concat, more, collect, concat_map, zip, mem, distinct, ascending, least, index_of, find}
use Rattle.model.specs.Values.{Label, Third, free, sewn, critical, Dart, Limits, code, label_of, is_critical_with}
use Rattle.model.specs.Cells.{around, cycle, faces, start_of, dart_at, next_in, labels, labelled}
use Rattle.model.specs.Sound.{Fit}
use Rattle.model.specs.Image.{label_in}
use Rattle.model.specs.Messages.{Transfer, size_all}
use Rattle.model.specs.Departure.{part2_entry, part3_from}
use Rattle.model.specs.Links.{Placed, placed, Link, label_links, label_faces}
use Rattle.model.specs.Arrival.{new_darts, placed_faces, face_from, part3_links, part4_links, critical_links, indices_right, points_meet, part2_right, part2_apart, consecutive, label_new, labels_new, parts_right}
use Rattle.model.specs.Runs.{Request}
use Rattle.model.specs.UndividedRun.{State, nx, th, cell}
use Rattle.laws.proofs.Faces.{face_stays, face_trans, face_sym, is_start, start_unique, faces_only, along_face}
use Rattle.laws.proofs.Members.{In, in_here, in_there, in_cons, in_eq, all_from, keep_in, in_append_left, in_append_right, append_in, distinct_append, each_weaken, all_each}
use Rattle.laws.proofs.Members.{distinct_not, distinct_left, distinct_right, distinct_apart, keep_ascending, ascending_distinct, Each, all_map, map_append}
use Rattle.laws.proofs.Members.{map_map, least_among, distinct_map}
use Rattle.laws.proofs.Tests.{by_cases, and_intro, and_left, and_right, not_equal}
use Rattle.theory.proofs.BlockLaws.{same_point_self}
use Rattle.theory.proofs.ImageLaws.{label_back}
use Rattle.agreement.proofs.AfterMove.{crosses, label_after}
use Rattle.agreement.proofs.Arrived.{all_some, faces_again, Meeting, meeting_crossing, across_there, met_face, labelled_there, face_meeting, by_start, links3, cut_dart, kept_links, part4_face}
use Rattle.agreement.proofs.BlockSound.{label_range, code_one, code_from}
use Rattle.agreement.proofs.Described.{pt, third_by, dart_by, members, block_by, Crossing, Map, Inv, Mine, member_mine, darts_by, next_at, point_at, kind_free, kind_sewn, kind_critical, by_kind, next_mine, third_back_linked, crossing_third}
use Rattle.agreement.proofs.Moved.{Served, wider, moved_cell, state_after, labels_after, inv_wider}
use Rattle.agreement.proofs.MovedCell.{Cell}
use Rattle.agreement.proofs.NewLabels.{fresh_of, fresh_maker, fresh_low, Facing, next_one_cell, facing_next, facing_starts, facing_are, start_there, facing_distinct}
use Rattle.agreement.proofs.Passes.{order_length, new_at}
use Rattle.agreement.proofs.Rebuilt.{face_dart_of}
use Rattle.agreement.proofs.Received.{placed_low, placed_find, faces_back}
use Rattle.theory.proofs.FaceIndices.{placed_keep, placed_each, size_concat}
use Rattle.agreement.proofs.Redirected.{block_face_self, block_face_is, face_across}
use Rattle.agreement.proofs.Sent.{cell_faces, number_in, IsFace, all_faces, start_is, in_face_cell, face_faces, part4_by, is_inner_face, transfer_by}

-- INDICES
ascending_kept : {A : Type 0} (f : A → ℕ) (p : A → Bool) (l : List A) → ascending (map f l) ≡ true → ascending (map f (keep p l)) ≡ true
unfolding ascending
ascending_kept f p [] a = refl
ascending_kept f p (x ∷ l) a =
    let rest = ascending_kept f p l (and_right (all (ltb (f x)) (map f l)) _ a) in
    by_cases (p x) (λ e. rw e (and_intro (all_kept (ltb (f x)) l (and_left (all (ltb (f x)) (map f l)) _ a)) rest)) (λ e. rw e rest)
  where
    all_kept : (q : ℕ → Bool) (m : List _) → all q (map f m) ≡ true → all q (map f (keep p m)) ≡ true
    all_kept q [] h = refl
    all_kept q (y ∷ m) h = by_cases (p y) (λ e. rw e (and_intro (and_left (q (f y)) _ h) (all_kept q m (and_right (q (f y)) _ h)))) (λ e. rw e (all_kept q m (and_right (q (f y)) _ h)))

placed_ascend : (n : ℕ) (fs : List (List ℕ)) → Each (λ f. 0 < length f) fs → ascending (map (λ p. p.at) (placed n fs)) ≡ true
unfolding placed ascending
placed_ascend n [] e = refl
placed_ascend n (f ∷ fs) e = and_intro (above (n + length f) fs (let m = e.0 in omega arith)) (placed_ascend (n + length f) fs e.1)
  where
    above : (a : ℕ) (gs : List (List ℕ)) → n < a → all (ltb n) (map (λ p. p.at) (placed a gs)) ≡ true
    above a gs h = all_map (ltb n) (λ p. p.at) (placed a gs) ∙ all_each (λ p. ltb n p.at) (placed a gs) (each_weaken (placed a gs) (placed_low a gs) (λ q m. lt-ltb n q.at (omega arith)))

kept_mem : (p : Placed → Bool) (l : List Placed) (i : ℕ) → In i (map (λ q. q.at) (keep p l)) → In i (map (λ q. q.at) l)
kept_mem p [] i h = h
kept_mem p (q ∷ l) i h = by_cases (p q)
    (λ e. in_cons i q.at (map (λ q. q.at) (keep p l)) (rw e at h)
    (λ s. in_eq i q.at (q.at ∷ map (λ q. q.at) l) s (in_here q.at (map (λ q. q.at) l)))
    (λ s. in_there i q.at (map (λ q. q.at) l) (kept_mem p l i s)))
    (λ e. in_there i q.at (map (λ q. q.at) l) (kept_mem p l i (rw e at h)))

-- the face of an index that is kept
kept_at : (P : Placed → Type 0) (all_Placed : List Placed) (p : Placed → Bool) (l : List Placed) (i : ℕ) → Each (λ q. find (λ p. p.at) q.at all_Placed ≡ some q) l → Each P l
    → In i (map (λ q. q.at) (keep p l)) → (q : Placed) × (find (λ p. p.at) i all_Placed ≡ some q) × (p q ≡ true) × P q
kept_at P all_Placed p [] i e f h = absurd (true≢false (sym h))
kept_at P all_Placed p (q ∷ l) i e f h = by_cases (p q)
    (λ t. in_cons i q.at (map (λ q. q.at) (keep p l)) (rw t at h) (λ s. (q, ap (λ (n : ℕ). find (λ p. p.at) n all_Placed) s ∙ e.0, t, f.0)) (λ s. kept_at P all_Placed p l i e.1 f.1 s))
    (λ t. kept_at P all_Placed p l i e.1 f.1 (rw t at h))

-- tests that exclude each other keep no index twice
kept_apart : (P : Placed → Type 0) (all_Placed : List Placed) (p q : Placed → Bool) → Each (λ w. find (λ p. p.at) w.at all_Placed ≡ some w) all_Placed → Each P all_Placed
    → ((w : Placed) → P w → p w ≡ true → q w ≡ true → ⊥)
    → (i : ℕ) → In i (map (λ w. w.at) (keep p all_Placed)) → mem i (map (λ w. w.at) (keep q all_Placed)) ≡ false
kept_apart P all_Placed p q e f x i h = go (mem i (map (λ w. w.at) (keep q all_Placed))) refl
  where
    go : (o : Bool) → mem i (map (λ w. w.at) (keep q all_Placed)) ≡ o → mem i (map (λ w. w.at) (keep q all_Placed)) ≡ false
    go false m = m
    go true m =
        let a = kept_at P all_Placed p all_Placed i e f h in
        let b = kept_at P all_Placed q all_Placed i e f m in
        absurd (x a.0 a.3 a.2 (subst (λ (w : Placed). q w ≡ true) (some-injective b.0 a.0 (sym b.1 ∙ a.1)) b.2))

part3_indices : (c : ℕ) (l : List ℕ) → map (λ m. m.index) (part3_from c l) ≡ l
unfolding part3_from
part3_indices c [] = refl
part3_indices c (i ∷ l) = ap (λ (t : List ℕ). i ∷ t) (part3_indices (suc c) l)

part3_consecutive : (c : ℕ) (l : List ℕ) → consecutive (part3_from c l) ≡ true
unfolding part3_from
part3_consecutive c [] = refl
part3_consecutive c (i ∷ []) = refl
part3_consecutive c (i ∷ n ∷ l) = and_intro (eq-eqb (suc c) (suc c) refl) (part3_consecutive (suc c) (n ∷ l))

module _ (lims : ℕ → Limits) (fit : Fit lims) (k : ℕ) (u : State) (label : ℕ → Label) (I : Inv lims k u label) (r : Request) (S : Served lims k u r) where
  abbrev M₅ : Map u
  M₅ = I.map_sound

  abbrev v₅ : List ℕ
  v₅ = cell u r.serial

  abbrev C₅ : Cell u r.from r.serial v₅
  C₅ = moved_cell lims fit k u label I r S

  abbrev es₅ : List Dart
  es₅ = darts_by u label r.to

  abbrev t₅ : Transfer
  t₅ = transfer_by lims fit k u label I r S

  abbrev F₅ : List (List ℕ)
  F₅ = cell_faces lims fit k u label I r S

  abbrev PF₅ : List Placed
  PF₅ = placed 0 F₅

  abbrev Face₅ : List ℕ → Type 0
  Face₅ f = IsFace lims fit k u label I r S f

  one₅ : (x y : ℕ) → In x v₅ → In y v₅ → nx u x ≡ nx u y → x ≡ y
  one₅ = next_one_cell u M₅ r.from r.serial v₅ C₅

  -- 21
  pub size_is : size_all t₅.faces ≡ length v₅
  unfolding transfer_by
  size_is = size_concat (face_dart_of (nx u) (number_in lims fit k u label I r S)) F₅ ∙ order_length lims fit k u label I r S

  -- which part a face is in, by the third link of its start
  abbrev is2 : Third → Bool
  is2 free = false
  is2 (sewn y) = false
  is2 (critical o l) = eqb o r.to

  abbrev is4 : Third → Bool
  is4 free = false
  is4 (sewn y) = false
  is4 (critical o l) = not (eqb o r.to)

  abbrev in2 : List ℕ → Bool
  in2 f = is2 (third_by u label (start_of f))

  abbrev in3 : List ℕ → Bool
  in3 = is_inner_face lims fit k u label I r S

  abbrev in4 : List ℕ → Bool
  in4 f = is4 (third_by u label (start_of f))

  indices2 : (ps : List Placed) → map (λ m. m.index) (collect (λ p. part2_entry r.to p.at (third_by u label (start_of p.face))) ps) ≡ map (λ p. p.at) (keep (λ p. in2 p.face) ps)
  indices2 [] = refl
  indices2 (p ∷ ps) = go (third_by u label (start_of p.face)) (indices2 ps)
    where
      go : (x : Third) → map (λ m. m.index) (collect (λ p. part2_entry r.to p.at (third_by u label (start_of p.face))) ps) ≡ map (λ p. p.at) (keep (λ p. in2 p.face) ps)
          → map (λ m. m.index) (more (part2_entry r.to p.at x) (collect (λ p. part2_entry r.to p.at (third_by u label (start_of p.face))) ps))
          ≡ map (λ p. p.at) (cond (is2 x) (p ∷ keep (λ p. in2 p.face) ps) (keep (λ p. in2 p.face) ps))
      go free ih = ih
      go (sewn y) ih = ih
      go (critical o l) ih = by_cases (eqb o r.to) (λ e. rw e (ap (λ (t : List ℕ). p.at ∷ t) ih)) (λ e. rw e ih)

  indices4 : (ps : List Placed) → map (λ m. m.index) (collect (λ p. part4_by lims fit k u label I r S p (third_by u label (start_of p.face))) ps) ≡ map (λ p. p.at) (keep (λ p. in4 p.face) ps)
  indices4 [] = refl
  indices4 (p ∷ ps) = go (third_by u label (start_of p.face)) (indices4 ps)
    where
      go : (x : Third) → map (λ m. m.index) (collect (λ p. part4_by lims fit k u label I r S p (third_by u label (start_of p.face))) ps) ≡ map (λ p. p.at) (keep (λ p. in4 p.face) ps)
          → map (λ m. m.index) (more (part4_by lims fit k u label I r S p x) (collect (λ p. part4_by lims fit k u label I r S p (third_by u label (start_of p.face))) ps))
          ≡ map (λ p. p.at) (cond (is4 x) (p ∷ keep (λ p. in4 p.face) ps) (keep (λ p. in4 p.face) ps))
      go free ih = ih
      go (sewn y) ih = ih
      go (critical o l) ih = by_cases (eqb o r.to) (λ e. rw e ih) (λ e. rw e (ap (λ (t : List ℕ). p.at ∷ t) ih))

  abbrev at2 : List ℕ
  at2 = map (λ p. p.at) (keep (λ p. in2 p.face) PF₅)

  abbrev at3 : List ℕ
  at3 = map (λ p. p.at) (keep (λ p. in3 p.face) PF₅)

  abbrev at4 : List ℕ
  at4 = map (λ p. p.at) (keep (λ p. in4 p.face) PF₅)

  two_indices : map (λ m. m.index) t₅.part2 ≡ at2
  unfolding transfer_by
  two_indices = indices2 PF₅

  three_indices : map (λ m. m.index) t₅.part3 ≡ at3
  unfolding transfer_by
  three_indices = part3_indices (u.count r.from) at3

  four_indices : map (λ m. m.index) t₅.part4 ≡ at4
  unfolding transfer_by
  four_indices = indices4 PF₅

  placed_same : placed_faces t₅ ≡ PF₅
  unfolding placed_faces transfer_by
  placed_same = ap (placed 0) (faces_back (nx u) (number_in lims fit k u label I r S) F₅)

  -- no face is in two parts
  not_2_4 : (f : List ℕ) → in2 f ≡ true → in4 f ≡ true → ⊥
  not_2_4 f a b = go (third_by u label (start_of f)) a b
    where
      go : (x : Third) → is2 x ≡ true → is4 x ≡ true → ⊥
      go free a b = true≢false (sym a)
      go (sewn y) a b = true≢false (sym a)
      go (critical o l) a b = true≢false (sym a ∙ not-true (eqb o r.to) b)

  -- an inner face is sewn, so it is in neither of the others
  inner_kind : (f : List ℕ) → Face₅ f → in3 f ≡ true → (in2 f ≡ false) × (in4 f ≡ false)
  inner_kind f q e =
      let st = q.from_dart in
      let same = start_is lims fit k u label I r S f q in
      let two = not (eqb (th u (start_of f)) 0) && not (mem (th u (start_of f)) v₅) in
      let t : th u (start_of f) ≢ 0 = eqb-false (th u (start_of f)) 0 (not-true _ (and_left (not (eqb (th u (start_of f)) 0)) _ (and_left two _ e))) in
      let b : u.number (th u (start_of f)) ≡ r.from = eqb-true _ _ (and_right two _ e) in
      let home : u.number (start_of f) ≡ r.from = ap u.number same ∙ (C₅.mine st q.in_cell).block in
      let sewn_there = kind_sewn u label (start_of f) t (b ∙ sym home) in
      (ap is2 sewn_there, ap is4 sewn_there)

  placed_found : Each (λ w. find (λ p. p.at) w.at PF₅ ≡ some w) PF₅
  placed_found = placed_find 0 F₅ (all_some lims fit k u label I r S)

  placed_faces₅ : Each (λ w. Face₅ w.face) PF₅
  placed_faces₅ = placed_each Face₅ 0 F₅ (all_faces lims fit k u label I r S)

  all_ascend : ascending (map (λ p. p.at) PF₅) ≡ true
  all_ascend = placed_ascend 0 F₅ (all_some lims fit k u label I r S)

  apart_parts : (p q : List ℕ → Bool) → ((f : List ℕ) → Face₅ f → p f ≡ true → q f ≡ true → ⊥)
      → (i : ℕ) → In i (map (λ w. w.at) (keep (λ w. p w.face) PF₅)) → mem i (map (λ w. w.at) (keep (λ w. q w.face) PF₅)) ≡ false
  apart_parts p q x = kept_apart (λ w. Face₅ w.face) PF₅ (λ w. p w.face) (λ w. q w.face) placed_found placed_faces₅ (λ w. x w.face)

  part_ascends : (p : List ℕ → Bool) → ascending (map (λ w. w.at) (keep (λ w. p w.face) PF₅)) ≡ true
  part_ascends p = ascending_kept (λ w. w.at) (λ w. p w.face) PF₅ all_ascend

  not_2_3 : (f : List ℕ) → Face₅ f → in2 f ≡ true → in3 f ≡ true → ⊥
  not_2_3 f q a b = true≢false (sym a ∙ (inner_kind f q b).0)

  not_3_4 : (f : List ℕ) → Face₅ f → in3 f ≡ true → in4 f ≡ true → ⊥
  not_3_4 f q a b = true≢false (sym b ∙ (inner_kind f q a).1)

  indices_apart : distinct (at2 ++ at3 ++ at4) ≡ true
  indices_apart = distinct_append (at2 ++ at3) at4
      (distinct_append at2 at3 (ascending_distinct at2 (part_ascends in2)) (ascending_distinct at3 (part_ascends in3)) (apart_parts in2 in3 not_2_3))
      (ascending_distinct at4 (part_ascends in4))
      (λ i h. go i (append_in i at2 at3 h))
    where
      go : (i : ℕ) → In i at2 ⊎ In i at3 → mem i at4 ≡ false
      go i (inl m) = apart_parts in2 in4 (λ f q. not_2_4 f) i m
      go i (inr m) = apart_parts in3 in4 not_3_4 i m

  indices_there : all (λ i. mem i (map (λ p. p.at) PF₅)) (at2 ++ at3 ++ at4) ≡ true
  indices_there = all_from (λ i. mem i (map (λ p. p.at) PF₅)) (at2 ++ at3 ++ at4) (λ i h. go i (append_in i (at2 ++ at3) at4 h))
    where
      two : (i : ℕ) → In i at2 ⊎ In i at3 → In i (map (λ p. p.at) PF₅)
      two i (inl m) = kept_mem (λ w. in2 w.face) PF₅ i m
      two i (inr m) = kept_mem (λ w. in3 w.face) PF₅ i m

      go : (i : ℕ) → In i (at2 ++ at3) ⊎ In i at4 → In i (map (λ p. p.at) PF₅)
      go i (inl m) = two i (append_in i at2 at3 m)
      go i (inr m) = kept_mem (λ w. in4 w.face) PF₅ i m

  right_indices : indices_right t₅ ≡ true
  unfolding indices_right
  right_indices = rw (two_indices, three_indices, four_indices, placed_same)
      (and_intro (and_intro (and_intro (and_intro indices_there (part_ascends in2)) (part_ascends in3)) (part_ascends in4)) indices_apart)

  -- PART 2
  abbrev Meets₅ : ℕ → Type 0
  Meets₅ x = Meeting lims fit k u label I r S x

  points_right : (x : ℕ) → Meets₅ x → points_meet es₅ t₅ x (th u x) ≡ true
  unfolding points_meet
  points_right x m =
      let h = m.in_cell in
      let d = (C₅.mine x h).here in
      let y = across_there lims fit k u label I r S x m in
      let t = m.facing.linked in
      let back = M₅.third_twice x d t in
      let here : (dart_at (new_darts t₅) x).point ≡ pt u x = ap (λ (e : Dart). e.point) (new_at lims fit k u label I r S x h) in
      let after-here : (dart_at (new_darts t₅) (next_in (new_darts t₅) x)).point ≡ pt u (nx u x) =
      ap (λ (z : ℕ). (dart_at (new_darts t₅) z).point) (ap (λ (e : Dart). e.next) (new_at lims fit k u label I r S x h))
      ∙ ap (λ (e : Dart). e.point) (new_at lims fit k u label I r S (nx u x) (C₅.next_closed x h)) in
      let after-there : (dart_at es₅ (next_in es₅ (th u x))).point ≡ pt u (nx u (th u x)) =
      ap (λ (z : ℕ). (dart_at es₅ z).point) (next_at u label r.to (th u x) y) ∙ point_at u label r.to (nx u (th u x)) (next_mine u M₅ r.to (th u x) y) in
      and_intro (same_point_self _ _ (here ∙ M₅.point_third x d t ∙ sym after-there))
      (same_point_self _ _ (point_at u label r.to (th u x) y ∙ M₅.point_third (th u x) y.here (third_back_linked u M₅ x d t) ∙ ap (λ (z : ℕ). pt u (nx u z)) back ∙ sym after-here))

  zip_points : (f : List ℕ) → ((x : ℕ) → In x f → Meets₅ x) → all (λ p. points_meet es₅ t₅ p.0 p.1) (zip f (map (th u) f)) ≡ true
  zip_points [] h = refl
  zip_points (x ∷ f) h = and_intro (points_right x (h x (in_here x f))) (zip_points f (λ y m. h y (in_there y x f m)))

  names_sender : (x : ℕ) → Meets₅ x → is_critical_with r.from (third_by u label (th u x)) ≡ true
  names_sender x m =
      let d = (C₅.mine x m.in_cell).here in
      let ct = crossing_third u M₅ x (meeting_crossing lims fit k u label I r S x m) in
      rw (kind_critical u label (th u x) ct.linked ct.other)
      (eq-eqb r.from (u.number (th u (th u x)))
      (sym (ap u.number (M₅.third_twice x d m.facing.linked) ∙ (C₅.mine x m.in_cell).block)))

  face2 : (p : Placed) → face_from t₅ p.at ≡ p.face → (q : Face₅ p.face) → Meets₅ q.from_dart → part2_right es₅ t₅ (record { label = label q.from_dart; index = p.at }) ≡ true
  unfolding part2_right dart_by transfer_by
  face2 p again q m = rw (labelled_there lims fit k u label I r S q.from_dart m, again, met_face lims fit k u label I r S q.from_dart m, ← q.is_cycle)
      (and_intro (and_intro (names_sender q.from_dart m) (eq-eqb (length p.face) (length (map (th u) p.face)) (sym (length-map p.face (th u)))))
      (zip_points p.face (face_meeting lims fit k u label I r S p q m)))

  all2 : (ps : List Placed) → Each (λ q. face_from t₅ q.at ≡ q.face) ps → Each (λ q. Face₅ q.face) ps
      → all (part2_right es₅ t₅) (collect (λ p. part2_entry r.to p.at (third_by u label (start_of p.face))) ps) ≡ true
  all2 [] a f = refl
  all2 (p ∷ ps) a f = by_start lims fit k u label I r S {A = Unit {0}}
      (λ x w. all (part2_right es₅ t₅) (more (part2_entry r.to p.at x) (collect (λ p. part2_entry r.to p.at (third_by u label (start_of p.face))) ps)) ≡ true) p.face f.0 tt
      (λ e. all2 ps a.1 f.1)
      (λ t e. all2 ps a.1 f.1)
      (λ t e. by_cases (eqb (u.number (th u f.0.from_dart)) r.to)
      (λ c. rw c (and_intro (face2 p a.0 f.0 (record { in_cell = f.0.in_cell; facing = record { linked = t; block = eqb-true _ _ c } })) (all2 ps a.1 f.1)))
      (λ c. rw c (all2 ps a.1 f.1)))

  right2 : all (part2_right es₅ t₅) t₅.part2 ≡ true
  unfolding transfer_by
  right2 = all2 PF₅ (faces_again lims fit k u label I r S) placed_faces₅

  -- on different faces
  abbrev all_starts : List ℕ
  all_starts = keep (λ x. all (leb x) (cycle (nx u) x)) v₅

  labels2 : (n : ℕ) (l : List ℕ)
      → map (λ m. m.label)
      (collect (λ p. part2_entry r.to p.at (third_by u label (start_of p.face))) (placed n (map (cycle (nx u)) l)))
      ≡ map label (keep (λ x. is2 (third_by u label x)) l)
  unfolding placed cycle around
  labels2 n [] = refl
  labels2 n (x ∷ l) = by_kind u label x
      (λ e. rw (kind_free u label x e) (labels2 (n + length (cycle (nx u) x)) l))
      (λ t e. rw (kind_sewn u label x t e) (labels2 (n + length (cycle (nx u) x)) l))
      (λ t e. rw (kind_critical u label x t e) (by_cases (eqb (u.number (th u x)) r.to)
      (λ c. rw c (ap (λ (w : List Label). label x ∷ w) (labels2 (n + length (cycle (nx u) x)) l)))
      (λ c. rw c (labels2 (n + length (cycle (nx u) x)) l))))

  starts2 : List ℕ
  starts2 = keep (λ x. is2 (third_by u label x)) all_starts

  two_labels : map (λ m. m.label) t₅.part2 ≡ map label starts2
  unfolding transfer_by faces starts2
  two_labels = labels2 0 all_starts

  starts2_meet : (x : ℕ) → In x starts2 → Meets₅ x × (is_start (nx u) v₅ C₅.next_closed one₅ C₅.few x ≡ true)
  unfolding starts2 cycle
  starts2_meet x h =
      let a = keep_in (λ x. is2 (third_by u label x)) all_starts x h in
      let b = keep_in (λ x. all (leb x) (cycle (nx u) x)) v₅ x a.0 in (
        by_kind u label x
            (λ e. absurd (true≢false (sym a.1 ∙ ap is2 (kind_free u label x e))))
            (λ t e. absurd (true≢false (sym a.1 ∙ ap is2 (kind_sewn u label x t e))))
            (λ t e. record { in_cell = b.0; facing = record { linked = t; block = eqb-true _ _ (sym (ap is2 (kind_critical u label x t e)) ∙ a.1) } }),
        b.1,
      )

  abbrev met_least : Label → ℕ
  met_least l = least (cycle (next_in es₅) (labelled l es₅).serial)

  met_least_is : (x : ℕ) → Meets₅ x → met_least (label x) ≡ least (cycle (nx u) (th u x))
  unfolding dart_by
  met_least_is x m =
      ap least
      (ap (λ (d : Dart). cycle (next_in es₅) d.serial) (labelled_there lims fit k u label I r S x m)
      ∙ block_face_is lims fit k u label I r.to S.to_below (th u x) (across_there lims fit k u label I r S x m))

  -- faces that meet one face are one face
  met_one : (x y : ℕ) → In x starts2 → In y starts2 → met_least (label x) ≡ met_least (label y) → x ≡ y
  unfolding cycle
  met_one x y h m e =
      let a = starts2_meet x h in
      let b = starts2_meet y m in
      let ax = across_there lims fit k u label I r S x a.0 in
      let ay = across_there lims fit k u label I r S y b.0 in
      let same : least (cycle (nx u) (th u x)) ≡ least (cycle (nx u) (th u y)) = sym (met_least_is x a.0) ∙ e ∙ met_least_is y b.0 in
      -- the least dart across is in both faces across, so its third link is in both faces here
      let w = least (cycle (nx u) (th u x)) in
      let wx : In w (cycle (nx u) (th u x)) = least_among (cycle (nx u) (th u x)) (th u x) (block_face_self lims fit k u label I r.to S.to_below (th u x) ax) in
      let wy : In w (cycle (nx u) (th u y)) =
      in_eq w (least (cycle (nx u) (th u y))) (cycle (nx u) (th u y)) same
      (least_among (cycle (nx u) (th u y)) (th u y) (block_face_self lims fit k u label I r.to S.to_below (th u y) ay))
      in
      let zx = back x a.0 w wx in
      let zy = back y b.0 w wy in
      start_unique (nx u) v₅ C₅.next_closed one₅ C₅.few x y a.0.in_cell b.0.in_cell a.1 b.1
      (face_trans (nx u) v₅ C₅.next_closed one₅ C₅.few x (th u w) y a.0.in_cell zx (face_sym (nx u) v₅ C₅.next_closed one₅ C₅.few y (th u w) b.0.in_cell zy))
    where
      back : (z : ℕ) → Meets₅ z → (w : ℕ) → In w (around (nx u) (th u z) 4096 (th u z)) → In (th u w) (around (nx u) z 4096 z)
      back z c w n =
          let d = (C₅.mine z c.in_cell).here in
          let t = c.facing.linked in
          let q = face_across lims fit k u label I (th u z) w (M₅.third_in_map z d t) (third_back_linked u M₅ z d t) (unfold cycle in n) in
          subst (λ (y : ℕ). In (th u w) (around (nx u) y 4096 y)) (M₅.third_twice z d t) (unfold cycle in q.there)

  apart2 : part2_apart es₅ t₅.part2 ≡ true
  unfolding part2_apart
  apart2 = rw (← map_map (λ m. m.label) met_least t₅.part2, two_labels, map_map label met_least starts2)
      (distinct_map (λ x. met_least (label x)) starts2 (ascending_distinct starts2 (starts2_ascend)) met_one)
    where
      starts2_ascend : ascending starts2 ≡ true
      starts2_ascend = unfold starts2 in (keep_ascending (λ x. is2 (third_by u label x)) all_starts (keep_ascending (λ x. all (leb x) (cycle (nx u) x)) v₅ C₅.in_order))

  -- PARTS 3 AND 4: labels that are new
  abbrev u₅ : State
  u₅ = state_after lims fit k u label I r S

  abbrev label₅ : ℕ → Label
  label₅ = labels_after lims fit k u label I r S

  abbrev I₅ : Inv (wider lims) k u₅ label₅
  I₅ = inv_wider lims fit k u label I r S

  -- the darts that become or stay critical
  abbrev kept_darts : List ℕ
  kept_darts = concat (keep in3 F₅) ++ concat (keep in4 F₅)

  abbrev link_label : Link → Option Label
  link_label l = label_of l.third

  collect_append : (ks js : List Link) → collect link_label (ks ++ js) ≡ collect link_label ks ++ collect link_label js
  collect_append [] js = refl
  collect_append (x ∷ ks) js = go (link_label x) (collect_append ks js)
    where
      go : (o : Option Label) → collect link_label (ks ++ js) ≡ collect link_label ks ++ collect link_label js
          → more o (collect link_label (ks ++ js)) ≡ more o (collect link_label ks) ++ collect link_label js
      go none e = e
      go (some l) e = ap (λ (t : List Label). l ∷ t) e

  labels_line : (n pos : ℕ) (f : List ℕ) → distinct f ≡ true → ((x : ℕ) → In x f → label₅ x ≡ record { maker = r.from; number = n; position = pos + index_of x f })
      → collect link_label (label_links (λ x. x) r.from r.from n pos f) ≡ map label₅ f
  unfolding label_links index_of
  labels_line n pos [] d h = refl
  labels_line n pos (x ∷ f) d h = rw (h x (in_here x f), eq-eqb x x refl, add-zero pos) (ap (λ (t : List Label). record { maker = r.from; number = n; position = pos } ∷ t)
      (labels_line n (suc pos) f (and_right (not (mem x f)) _ d) (λ y m. h y (in_there y x f m) ∙ rw (ne_eqb y x (distinct_not x f d y m)) (ap (λ (q : ℕ). record { maker = r.from; number = n; position = q }) (omega arith)))))

  labels_lines : (c : ℕ) (gs : List (List ℕ)) → distinct (concat gs) ≡ true → ((x : ℕ) → In x (concat gs) → label₅ x ≡ fresh_of r.from c gs x)
      → collect link_label (label_faces (λ x. x) r.from r.from c gs) ≡ map label₅ (concat gs)
  unfolding label_faces concat fresh_of
  labels_lines c [] d h = refl
  labels_lines c (f ∷ gs) d h = collect_append (label_links (λ x. x) r.from r.from c 0 f) (label_faces (λ x. x) r.from r.from (suc c) gs)
      ∙ rw (
        labels_line c 0 f (distinct_left f (concat gs) d)
            (λ x m. h x (in_append_left x f (concat gs) m) ∙ rw (m, zero-add (index_of x f))),
        labels_lines (suc c) gs (distinct_right f (concat gs) d)
            (λ x m. h x (in_append_right x f (concat gs) m) ∙ rw (distinct_apart f (concat gs) d x m)),
      )
      (sym (map_append label₅ f (concat gs)))

  kept_line : (o : ℕ) (f : List ℕ) → ((x : ℕ) → In x f → label₅ x ≡ label x) → collect link_label (kept_links lims fit k u label I r S o f) ≡ map label₅ f
  kept_line o [] h = refl
  kept_line o (x ∷ f) h = rw (h x (in_here x f)) (ap (λ (t : List Label). label x ∷ t) (kept_line o f (λ y m. h y (in_there y x f m))))

  -- a dart that faces a third block keeps its label
  keeps_label : (x : ℕ) → In x v₅ → u.number (th u x) ≢ r.from → label₅ x ≡ label x
  unfolding label_after
  keeps_label x h n = rw (ne_eqb (u.number (th u x)) (u.number x) (λ q. n (q ∙ (C₅.mine x h).block)))

  abbrev faces_in4 : List Placed → List (List ℕ)
  faces_in4 ps = map (λ p. p.face) (keep (λ p. in4 p.face) ps)

  labels4 : (ps : List Placed) → Each (λ q. face_from t₅ q.at ≡ q.face) ps → Each (λ q. Face₅ q.face) ps
      → collect link_label (concat_map (part4_links t₅) (collect (λ p. part4_by lims fit k u label I r S p (third_by u label (start_of p.face))) ps)) ≡ map label₅ (concat (faces_in4 ps))
  unfolding concat
  labels4 [] a f = refl
  labels4 (p ∷ ps) a f = by_start lims fit k u label I r S {A = Unit {0}}
      (λ x w. collect link_label
      (concat_map (part4_links t₅)
      (more (part4_by lims fit k u label I r S p x)
      (collect (λ p. part4_by lims fit k u label I r S p (third_by u label (start_of p.face))) ps)))
      ≡ map label₅ (concat (map (λ p. p.face) (cond (is4 x) (p ∷ keep (λ p. in4 p.face) ps) (keep (λ p. in4 p.face) ps))))) p.face f.0 tt
      (λ e. labels4 ps a.1 f.1)
      (λ t e. labels4 ps a.1 f.1)
      (λ t e. by_cases (eqb (u.number (th u f.0.from_dart)) r.to)
      (λ c. rw c (labels4 ps a.1 f.1))
      (λ c. rw c (collect_append (part4_links t₅ (record { index = p.at; other = u.number (th u f.0.from_dart); labels = map label p.face })) _
      ∙ rw (part4_face lims fit k u label I r S p (u.number (th u f.0.from_dart)) a.0, labels4 ps a.1 f.1, kept_line (u.number (th u f.0.from_dart)) p.face (keeps t e))
      (sym (map_append label₅ p.face (concat (faces_in4 ps)))))))
    where
      keeps : th u f.0.from_dart ≢ 0 → u.number (th u f.0.from_dart) ≢ r.from → (x : ℕ) → In x p.face → label₅ x ≡ label x
      keeps t e x m =
          let c = face_faces lims fit k u label I r S p.face f.0 (u.number (th u f.0.from_dart)) (record { linked = t; block = refl }) x m in
          keeps_label x (in_face_cell lims fit k u label I r S p.face f.0 x m) (λ q. e (sym c.block ∙ q))

  new_label_of : (x : ℕ) → In x (concat (keep in3 F₅)) → label₅ x ≡ fresh_of r.from (u.count r.from) (keep in3 F₅) x
  unfolding label_after
  new_label_of x m = let c = cut_dart lims fit k u label I r S x m in
      rw (eq-eqb (u.number (th u x)) (u.number x) (c.1.block ∙ sym (C₅.mine x c.0).block), c.0)

  labels_brought : collect link_label (critical_links t₅) ≡ map label₅ kept_darts
  unfolding critical_links transfer_by
  labels_brought = collect_append (concat_map (part3_links t₅) t₅.part3) _
      ∙ rw (
        links3 lims fit k u label I r S,
        labels_lines (u.count r.from) (keep in3 F₅) (facing_distinct u M₅ r.from r.serial v₅ C₅ in3) new_label_of,
        labels4 PF₅ (faces_again lims fit k u label I r S) placed_faces₅,
        placed_keep in4 0 F₅,
      )
      (sym (map_append label₅ (concat (keep in3 F₅)) (concat (keep in4 F₅))))

  -- who they are
  in4_facing : (x : ℕ) → In x (concat (keep in4 F₅)) → In x v₅ × (th u x ≢ 0) × (u.number (th u x) ≢ r.from) × (u.number (th u x) ≢ r.to)
  unfolding cycle around
  in4_facing x h =
      let q = faces_only (nx u) v₅ C₅.next_closed one₅ C₅.few (facing_starts u M₅ r.from r.serial v₅ C₅ in4) x (rw (facing_are u M₅ r.from r.serial v₅ C₅ in4) at h) in
      let a = start_there u M₅ r.from r.serial v₅ C₅ in4 q.0 q.1 in
      let st = q.0 in
      let home = (C₅.mine st a.0).block in
      let inside = face_stays (nx u) v₅ C₅.next_closed one₅ C₅.few st x a.0 q.2 in
      by_kind u label st
      (λ e. absurd (true≢false (sym a.2 ∙ ap is4 (kind_free u label st e))))
      (λ t e. absurd (true≢false (sym a.2 ∙ ap is4 (kind_sewn u label st t e))))
      (λ t e. let c = along_face (nx u) v₅ C₅.next_closed one₅ C₅.few (Facing u (u.number (th u st))) (facing_next u M₅ r.from r.serial v₅ C₅ (u.number (th u st))) st x a.0 (record { linked = t; block = refl }) q.2 in
      let not_to = eqb-false _ _ (not-true _ (sym (ap is4 (kind_critical u label st t e)) ∙ a.2)) in
      (inside, c.linked, λ w. e (sym c.block ∙ w ∙ sym home), λ w. not_to (sym c.block ∙ w)))

  -- they cross after the move
  kept_crossing : (x : ℕ) → In x kept_darts → In x v₅ × Crossing u₅ x × (u.number (th u x) ≢ r.to)
  kept_crossing x h = go (append_in x (concat (keep in3 F₅)) (concat (keep in4 F₅)) h)
    where
      crossing_after : In x v₅ → th u x ≢ 0 → u.number (th u x) ≢ r.to → Crossing u₅ x
      crossing_after i t n = record { here = (C₅.mine x i).here; linked = t; other = λ q. n (rw (S.leaves x i, i) at q) }

      go : In x (concat (keep in3 F₅)) ⊎ In x (concat (keep in4 F₅)) → In x v₅ × Crossing u₅ x × (u.number (th u x) ≢ r.to)
      go (inl m) = let c = cut_dart lims fit k u label I r S x m in
          let n : u.number (th u x) ≢ r.to = λ q. S.apart_blocks (sym c.1.block ∙ q) in
          (c.0, crossing_after c.0 c.1.linked n, n)
      go (inr m) = let c = in4_facing x m in (c.0, crossing_after c.0 c.1 c.3, c.3)

  kept_distinct : distinct kept_darts ≡ true
  kept_distinct = distinct_append (concat (keep in3 F₅)) (concat (keep in4 F₅)) (facing_distinct u M₅ r.from r.serial v₅ C₅ in3) (facing_distinct u M₅ r.from r.serial v₅ C₅ in4)
      (λ x h. go x h (mem x (concat (keep in4 F₅))) refl)
    where
      go : (x : ℕ) → In x (concat (keep in3 F₅)) → (o : Bool) → mem x (concat (keep in4 F₅)) ≡ o → mem x (concat (keep in4 F₅)) ≡ false
      go x h false e = e
      go x h true e = absurd ((in4_facing x e).2 (cut_dart lims fit k u label I r S x h).1.block)

  -- distinct
  key_one : (x y : ℕ) → In x kept_darts → In y kept_darts → code (label₅ x) ≡ code (label₅ y) → x ≡ y
  key_one x y h m e =
      let a = kept_crossing x h in
      let b = kept_crossing y m in
      go (I₅.labelled.apart x y a.1 b.1 (code_one (wider lims) k u₅ label₅ I₅ x y a.1 b.1 e))
    where
      go : (x ≡ y) ⊎ (th u x ≡ y) → x ≡ y
      go (inl q) = q
      go (inr q) = absurd (true≢false (sym (in_eq (th u x) y v₅ q (kept_crossing y m).0) ∙ S.leaves x (kept_crossing x h).0))

  -- not held by the block as given
  not_held_label : (x : ℕ) → In x kept_darts → (y : ℕ) → Mine u r.to y → Crossing u y → code (label₅ x) ≡ code (label y) → ⊥
  unfolding label_after
  not_held_label x h y m c e =
      let a = kept_crossing x h in
      let rx = label_range (wider lims) k u₅ label₅ I₅ x a.1 in
      let ry = label_range lims k u label I y c in
      let same : label₅ x ≡ label y = sym (label_back (label₅ x) rx.number_range rx.position_range) ∙ ap label_in e ∙ label_back (label y) ry.number_range ry.position_range in
      by_cases (crosses u x)
      (λ o. let cx : Crossing u x = record { here = a.1.here; linked = a.1.linked; other = eqb-false _ _ (not-true _ o) } in
      let q : label x ≡ label y = rw o at same in
      which a.0 a.2 (I.labelled.apart x y cx c q))
      (λ o. let level : u.number (th u x) ≡ u.number x = eqb-true _ _ (not-false (eqb (u.number (th u x)) (u.number x)) o) in
      let q : fresh_of r.from (u.count r.from) (keep in3 F₅) (cond (mem x v₅) x (th u x)) ≡ label y = rw o at same in
      fresh_not (cond (mem x v₅) x (th u x)) q)
    where
      which : In x v₅ → u.number (th u x) ≢ r.to → (x ≡ y) ⊎ (th u x ≡ y) → ⊥
      which i n (inl q) = S.apart_blocks (sym (C₅.mine x i).block ∙ ap u.number q ∙ m.block)
      which i n (inr q) = n (ap u.number q ∙ m.block)

      fresh_not : (z : ℕ) → fresh_of r.from (u.count r.from) (keep in3 F₅) z ≡ label y → ⊥
      fresh_not z q =
          let maker : (label y).maker ≡ r.from = ap (λ (l : Label). l.maker) (sym q) ∙ fresh_maker r.from (u.count r.from) (keep in3 F₅) z in
          let low = fresh_low r.from (u.count r.from) (keep in3 F₅) z in
          let number : (fresh_of r.from (u.count r.from) (keep in3 F₅) z).number ≡ (label y).number = ap (λ (l : Label). l.number) q in
          let below : (label y).number < u.count r.from = rw maker at (I.labelled.number_small y c) in
          omega arith

  own_below : (x : ℕ) → In x kept_darts → (not (eqb (label₅ x).maker r.to) || ltb (label₅ x).number (u.count r.to)) ≡ true
  own_below x h = by_cases (eqb (label₅ x).maker r.to)
      (λ e. rw e (lt-ltb (label₅ x).number (u.count r.to) (below (eqb-true (label₅ x).maker r.to e))))
      (λ e. rw e)
    where
      below : (label₅ x).maker ≡ r.to → (label₅ x).number < u.count r.to
      below q = rw (ne_eqb r.to r.from (λ w. S.apart_blocks (sym w))) at (subst (λ (n : ℕ). (label₅ x).number < u₅.count n) q (I₅.labelled.number_small x (kept_crossing x h).1))

  label_is_new : (x : ℕ) → In x kept_darts → label_new (block_by u label r.to) (label₅ x) ≡ true
  unfolding label_new block_by labels
  label_is_new x h = and_intro (go (mem (code (label₅ x)) (map code (collect (λ d. label_of d.third) es₅))) refl) (own_below x h)
    where
      go : (o : Bool) → mem (code (label₅ x)) (map code (collect (λ d. label_of d.third) es₅)) ≡ o → not (mem (code (label₅ x)) (map code (collect (λ d. label_of d.third) es₅))) ≡ true
      go false e = rw e
      go true e =
          let q = code_from lims k u label I r.to S.to_below (members u r.to) (λ y n. member_mine u r.to y n) (code (label₅ x)) e in
          absurd (not_held_label x h q.0 (member_mine u r.to q.0 q.1) q.2 q.3)

  new_labels : labels_new (block_by u label r.to) t₅ ≡ true
  unfolding labels_new
  new_labels = rw labels_brought (and_intro
      (all_map (label_new (block_by u label r.to)) label₅ kept_darts ∙ all_from (λ x. label_new (block_by u label r.to) (label₅ x)) kept_darts label_is_new)
      (ap distinct (map_map label₅ code kept_darts) ∙ distinct_map (λ x. code (label₅ x)) kept_darts kept_distinct key_one))

  -- "part 4 blocks neither end"
  ends4 : (ps : List Placed) → Each (λ q. Face₅ q.face) ps
      → all (λ m. not (eqb m.other r.from) && not (eqb m.other r.to)) (collect (λ p. part4_by lims fit k u label I r S p (third_by u label (start_of p.face))) ps) ≡ true
  ends4 [] f = refl
  ends4 (p ∷ ps) f = by_start lims fit k u label I r S {A = Unit {0}}
      (λ x w. all (λ m. not (eqb m.other r.from) && not (eqb m.other r.to))
      (more (part4_by lims fit k u label I r S p x)
      (collect (λ p. part4_by lims fit k u label I r S p (third_by u label (start_of p.face))) ps)) ≡ true) p.face f.0 tt
      (λ e. ends4 ps f.1)
      (λ t e. ends4 ps f.1)
      (λ t e. by_cases (eqb (u.number (th u f.0.from_dart)) r.to)
      (λ c. rw c (ends4 ps f.1))
      (λ c. rw c (and_intro (and_intro (not_equal _ r.from e) (not_equal _ r.to (eqb-false _ _ c))) (ends4 ps f.1))))

  other_ends : all (λ m. not (eqb m.other t₅.from) && not (eqb m.other t₅.to)) t₅.part4 ≡ true
  unfolding transfer_by
  other_ends = ends4 PF₅ placed_faces₅

  in_a_row : consecutive t₅.part3 ≡ true
  unfolding transfer_by
  in_a_row = part3_consecutive (u.count r.from) at3

  pub twenty : parts_right (block_by u label r.to) t₅ ≡ true
  unfolding parts_right block_by
  twenty = and_intro (and_intro (and_intro (and_intro (and_intro right_indices right2) apart2) in_a_row) new_labels) other_ends
