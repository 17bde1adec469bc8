-- How long the messages of a volume are. Assumes nothing.
use mathlib.Core.Path.{◌≡◌, refl, sym, ◌∙◌}
use mathlib.Core.Logic.{◌≢◌}
use mathlib.Core.Bool.{Bool, true, true≢false, cond, not}
use mathlib.Core.List.{List, [], ◌∷◌, ◌++◌, map}
use mathlib.Core.Option.{Option, none, some}
use Prim.Native.Nat.{ℕ, suc, ◌+◌, ◌*◌, ◌<◌, ◌≤◌}
use native.Mathlib.Omega.{arith}
use lib.Dec.{leb, eqb}
use lib.ListN.{length, length-append, length-map}
use borrow.Author.Tests.{eqb-true}
use Rattle.model.specs.Lists.{all, keep, concat, concat_map, collect, more, mem, distinct, tab, sum, first_no}
use Rattle.model.specs.Values.{Third, free, sewn, critical, Dart, Block, Limits, code, label_of, is_critical_with}
use Rattle.model.specs.Cells.{around, cycle, faces, start_of, next_in, opposite_in, third_at, vertex, vertices, volume_in, faces_in, labels_along, least_label, dart_at}
use Rattle.laws.proofs.Faces.{faces_distinct, order_only}
use Rattle.laws.proofs.Members.{In, in_here, in_there, keep_in, keep_ascending, ascending_distinct, distinct_not, Each, distinct_fewer, firsts_fewer, keep_le}
use Rattle.laws.proofs.Tests.{by_cases, and_right}
use Rattle.model.specs.Departure.{is_sewn_out_of, departure_checks, part2_entry, part3_from, part4_entry, transfer_of, least_labels, update_for, updates_of, messages}
use Rattle.model.specs.Links.{Placed, placed}
use Rattle.model.specs.Demands.{outbox_bytes}
use Rattle.model.specs.Sound.{sound_block}
use Rattle.model.specs.Layouts.{Layout, group, ◌⊗◌, ◌⊕◌, as_type, such_that, at_most, exactly, put_all, times, counted, framed}
use Rattle.model.specs.Messages.{FaceDart, Part4, Transfer, Update, point, face_dart, part1, part2, part3, part4, transfer, update}
use Rattle.laws.proofs.Orbits.{around_some}
use Rattle.theory.proofs.FaceIndices.{collect_fewer, placed_count, part3_count, faces_fewer}
use Rattle.theory.proofs.LayoutLengths.{group_short, counted_short, point_short, at_most_short, exactly_short, face_dart_short, part2_short, part3_short, each_of, part4_short, update_short}
use Rattle.theory.proofs.Leaving.{asked, closed_next, in_order, v_few, v_one}

-- EACH FACE IS IN ONE UPDATE AT MOST
module _ (third : List ℕ → Third) where
  abbrev shared : ℕ → List ℕ → Bool
  shared k f = is_critical_with k (third f)

  -- how many darts the faces have that are shared with k
  abbrev darts_with : List (List ℕ) → ℕ → ℕ
  darts_with fs k = length (concat (keep (shared k) fs))

  abbrev one_face : List ℕ → ℕ → ℕ
  one_face f k = cond (shared k f) (length f) 0

  with_more : (f : List ℕ) (fs : List (List ℕ)) (k : ℕ) → darts_with (f ∷ fs) k ≡ one_face f k + darts_with fs k
  unfolding concat
  with_more f fs k = by_cases (shared k f) (λ e. rw e (length-append f (concat (keep (shared k) fs)))) (λ e. rw e (omega arith))

  abbrev total : (ℕ → ℕ) → List ℕ → ℕ
  total g l = sum (map g l)

  total_sum : (g h e : ℕ → ℕ) (l : List ℕ) → ((k : ℕ) → g k ≡ h k + e k) → total g l ≡ total h l + total e l
  total_sum g h e [] q = refl
  total_sum g h e (k ∷ l) q = let a = q k in let b = total_sum g h e l q in omega arith

  not_shared : (f : List ℕ) (k : ℕ) (l : List ℕ) → shared k f ≡ true → ((y : ℕ) → In y l → y ≢ k) → total (one_face f) l ≡ 0
  not_shared f k [] s h = refl
  not_shared f k (y ∷ l) s h =
      let ih = not_shared f k l s (λ z m. h z (in_there z y l m)) in
      let no : one_face f y ≡ 0 = by_cases (shared y f) (λ e. absurd (h y (in_here y l) (two (third f) y k e s))) (λ e. rw e) in
      omega arith
    where
      two : (t : Third) (y k : ℕ) → is_critical_with y t ≡ true → is_critical_with k t ≡ true → y ≡ k
      two free y k a b = absurd (true≢false (sym a))
      two (sewn z) y k a b = absurd (true≢false (sym a))
      two (critical o m) y k a b = eqb-true y o a ∙ sym (eqb-true k o b)

  once : (f : List ℕ) (l : List ℕ) → distinct l ≡ true → total (one_face f) l ≤ length f
  once f [] d = omega arith
  once f (k ∷ l) d = by_cases (shared k f)
      (λ e. rw e (let z = not_shared f k l e (distinct_not k l d) in omega arith))
      (λ e. rw e (let ih = once f l (and_right (not (mem k l)) _ d) in omega arith))

  pub all_once : (fs : List (List ℕ)) (l : List ℕ) → distinct l ≡ true → total (darts_with fs) l ≤ length (concat fs)
  unfolding concat
  all_once [] l d = nothing l
    where
      nothing : (l : List ℕ) → total (darts_with []) l ≤ 0
      nothing [] = omega arith
      nothing (k ∷ l) = let i = nothing l in omega arith
  all_once (f ∷ fs) l d =
      let a = total_sum (darts_with (f ∷ fs)) (one_face f) (darts_with fs) l (with_more f fs) in
      let b = once f l d in
      let c = all_once fs l d in
      omega (arith, length-append f (concat fs))

-- LENGTHS, in terms of the faces: n darts, k faces
module _ (ds : List Dart) where
  along_few : (f : List ℕ) → length (labels_along ds f) ≤ length f
  unfolding labels_along
  along_few f = collect_fewer (λ x. label_of (third_at ds x)) f

  least_few : (f : List ℕ) → length (least_labels ds f) ≤ length f
  unfolding least_labels
  least_few f = let a = keep_le (λ l. eqb (code l) (least_label ds f)) (labels_along ds f) in let b = along_few f in omega arith

  pub least_all : (fs : List (List ℕ)) → length (concat_map (least_labels ds) fs) ≤ length (concat fs)
  unfolding concat
  least_all [] = omega arith
  least_all (f ∷ fs) = let a = least_few f in let b = least_all fs in omega (arith, length-append (least_labels ds f) (concat_map (least_labels ds) fs), length-append f (concat fs))

framed_long : (w : Update) → length (framed update w) ≤ 30 + length w.labels * 15
unfolding framed
framed_long w = let a = update_short w in let b = group_short (length (update.put w)) in omega (arith, length-append (group.put (length (update.put w))) (update.put w))

module _ (b : Block) (j : ℕ) where
  abbrev third_of_face : List ℕ → Third
  third_of_face f = third_at b.darts (start_of f)

  abbrev update_to : List (List ℕ) → ℕ → Option Update
  update_to F k = update_for b j k (keep (λ f. is_critical_with k (third_of_face f)) F)

  updates_long : (F : List (List ℕ)) (l : List ℕ) → length (concat (map (framed update) (collect (update_to F) l))) ≤ length l * 30 + sum (map (darts_with third_of_face F) l) * 15
  unfolding concat update_for
  updates_long F [] = omega arith
  updates_long F (k ∷ l) = go (keep (λ f. is_critical_with k (third_of_face f)) F) refl (updates_long F l)
    where
      go : (gs : List (List ℕ)) → keep (λ f. is_critical_with k (third_of_face f)) F ≡ gs
          → length (concat (map (framed update) (collect (update_to F) l))) ≤ length l * 30 + sum (map (darts_with third_of_face F) l) * 15
          → length
          (concat
          (map (framed update)
          (more (update_for b j k (keep (λ f. is_critical_with k (third_of_face f)) F)) (collect (update_to F) l)))) ≤ suc
          (length l) * 30 +
          (length (concat (keep (λ f. is_critical_with k (third_of_face f)) F)) + sum (map (darts_with third_of_face F) l)) * 15
      go [] e ih = rw e (omega arith)
      go (f ∷ gs) e ih = rw e (by_cases (eqb k j)
          (λ q. rw q (omega arith))
          (λ q. rw q (let w : Update = record { from = b.number; to = k; block = j; labels = concat_map (least_labels b.darts) (f ∷ gs) } in
          let a = framed_long w in
          let c = least_all b.darts (f ∷ gs) in
          omega (arith, length-append (framed update w) (concat (map (framed update) (collect (update_to F) l)))))))

-- THE TRANSFER
faces_put : (g : ℕ → FaceDart) (F : List (List ℕ)) → length (put_all (counted face_dart) (map (λ f. map g f) F)) ≤ length F * 5 + length (concat F) * 10
unfolding put_all concat
faces_put g [] = omega arith
faces_put g (f ∷ F) =
    let a = counted_short face_dart 10 (map g f) (each_of (map g f) face_dart_short) in
    let b = faces_put g F in
    omega (arith, length-map f g, length-append ((counted face_dart).put (map g f)) (put_all (counted face_dart) (map (λ f. map g f) F)), length-append f (concat F))

module _ (ds : List Dart) (j : ℕ) (X : List (List FaceDart)) where
  abbrev entry : Placed → Option Part4
  entry p = part4_entry ds j p (third_at ds (start_of p.face))

  abbrev longest : Option Part4 → ℕ
  longest none = 0
  longest (some m) = length ((part4 X).put m)

  one_entry : (p : Placed) (t : Third) → longest (part4_entry ds j p t) ≤ 10 + length p.face * 15
  one_entry p free = omega arith
  one_entry p (sewn y) = omega arith
  one_entry p (critical o l) = by_cases (eqb o j) (λ e. rw e (omega arith)) (λ e. rw e
      (let a = part4_short X (record { index = p.at; other = o; labels = labels_along ds p.face }) in let b = along_few ds p.face in omega arith))

  parts4_put : (i : ℕ) (F : List (List ℕ)) → length (put_all (part4 X) (collect entry (placed i F))) ≤ length F * 10 + length (concat F) * 15
  unfolding put_all concat placed
  parts4_put i [] = omega arith
  parts4_put i (f ∷ F) = go (entry (record { at = i; face = f })) (one_entry (record { at = i; face = f }) (third_at ds (start_of f))) (parts4_put (i + length f) F)
    where
      go : (o : Option Part4) → longest o ≤ 10 + length f * 15 → length (put_all (part4 X) (collect entry (placed (i + length f) F))) ≤ length F * 10 + length (concat F) * 15
          → length (put_all (part4 X) (more o (collect entry (placed (i + length f) F)))) ≤ suc (length F) * 10 + length (f ++ concat F) * 15
      go none a b = omega (arith, length-append f (concat F))
      go (some m) a b = omega (arith, length-append f (concat F), length-append ((part4 X).put m) (put_all (part4 X) (collect entry (placed (i + length f) F))))

-- a count, and what is counted
counted_long : {A : Type 0} (l : Layout A) (as' : List A) (m : ℕ) → length (put_all l as') ≤ m → length ((counted l).put as') ≤ 5 + m
unfolding counted as_type ◌⊗◌ times
counted_long l as' m h = let b = group_short (length as') in omega (arith, length-append (group.put (length as')) (put_all l as'))

transfer_long : (t : Transfer) (p f a b c : ℕ) → length ((counted point).put t.points) ≤ p → length ((counted (counted face_dart)).put t.faces) ≤ f
    → length ((counted part2).put t.part2) ≤ a → length ((counted part3).put t.part3) ≤ b → length ((counted (part4 t.faces)).put t.part4) ≤ c
    → length (transfer.put t) ≤ 15 + p + f + a + b + c
unfolding transfer part1 as_type ◌⊕◌ ◌⊗◌ such_that
transfer_long t p f a b c hp hf ha hb hc =
    let k = exactly_short 1 1 in
    let x = at_most_short 15 t.from in
    let y = at_most_short 15 t.to in
    let p1 = (exactly 1).put 1 ++ ((at_most 15).put t.from ++ ((at_most 15).put t.to ++ ((counted point).put t.points ++ (counted (counted face_dart)).put t.faces))) in
    omega (
      arith,
      length-append ((exactly 1).put 1) ((at_most 15).put t.from ++ ((at_most 15).put t.to ++ ((counted point).put t.points ++ (counted (counted face_dart)).put t.faces))),
      length-append ((at_most 15).put t.from) ((at_most 15).put t.to ++ ((counted point).put t.points ++ (counted (counted face_dart)).put t.faces)),
      length-append ((at_most 15).put t.to) ((counted point).put t.points ++ (counted (counted face_dart)).put t.faces),
      length-append ((counted point).put t.points) ((counted (counted face_dart)).put t.faces),
      length-append p1 ((counted part2).put t.part2 ++ ((counted part3).put t.part3 ++ (counted (part4 t.faces)).put t.part4)),
      length-append ((counted part2).put t.part2) ((counted part3).put t.part3 ++ (counted (part4 t.faces)).put t.part4),
      length-append ((counted part3).put t.part3) ((counted (part4 t.faces)).put t.part4),
    )

-- OF A VOLUME
module _ (lim : Limits) (b : Block) (fits : lim.block_darts ≤ 4096) (few_sent : lim.volume_darts ≤ 512) (sound : sound_block lim b ≡ true) (j s : ℕ)
    (asks : first_no (departure_checks lim.volume_darts b j s) ≡ 0) where
  abbrev ds : List Dart
  ds = b.darts

  abbrev v : List ℕ
  v = volume_in ds s

  abbrev F : List (List ℕ)
  F = faces_in ds s

  stays : (x : ℕ) → In x v → In (next_in ds x) v
  stays = closed_next lim b fits sound j s asks

  one : (x y : ℕ) → In x v → In y v → next_in ds x ≡ next_in ds y → x ≡ y
  one = v_one lim b fits sound j s asks

  small : length v ≤ 4096
  small = v_few lim b fits sound j s asks

  ordered : distinct (concat F) ≡ true
  unfolding faces_in faces cycle
  ordered =
      let l = keep (λ x. all (leb x) (around (next_in ds) x 4096 x)) v in
      faces_distinct (next_in ds) v stays one small l (λ x h. keep_in (λ x. all (leb x) (around (next_in ds) x 4096 x)) v x h)
      (ascending_distinct l (keep_ascending (λ x. all (leb x) (around (next_in ds) x 4096 x)) v (in_order lim b fits sound j s asks)))

  pub darts_few : length (concat F) ≤ 512
  unfolding faces_in
  darts_few = let a = distinct_fewer (concat F) v ordered (order_only (next_in ds) v stays one small) in let c = (asked lim b fits sound j s asks).few_moved in omega arith

  some_dart : (l : List ℕ) → Each (λ f. 0 < length f) (map (cycle (next_in ds)) l)
  unfolding cycle
  some_dart [] = tt
  some_dart (x ∷ l) = (around_some (next_in ds) x 4095 x, some_dart l)

  pub faces_some : Each (λ f. 0 < length f) F
  unfolding faces_in faces
  faces_some = some_dart (keep (λ x. all (leb x) (cycle (next_in ds) x)) v)

  pub faces_few : length F ≤ 512
  faces_few = let a = faces_fewer F faces_some in let c = darts_few in omega arith

  points_put : length ((counted point).put (transfer_of b j s).points) ≤ 5 + length (concat F) * 24
  unfolding transfer_of vertices
  points_put =
      let vs = vertices (next_in ds) (opposite_in ds) (concat F) in
      let a = counted_short point 24 (map (λ x. (dart_at ds x).point) vs) (each_of (map (λ x. (dart_at ds x).point) vs) point_short) in
      let c = firsts_fewer (map (vertex (next_in ds) (opposite_in ds)) (concat F)) in
      omega (arith, length-map vs (λ x. (dart_at ds x).point), length-map (concat F) (vertex (next_in ds) (opposite_in ds)))

  parts2_put : length ((counted part2).put (transfer_of b j s).part2) ≤ 5 + length F * 20
  unfolding transfer_of
  parts2_put =
      let ps = (transfer_of b j s).part2 in
      let a = counted_short part2 20 ps (each_of ps part2_short) in
      let c = collect_fewer (λ p. part2_entry j p.at (third_at ds (start_of p.face))) (placed 0 F) in
      omega (arith, placed_count 0 F)

  parts3_put : length ((counted part3).put (transfer_of b j s).part3) ≤ 5 + length F * 10
  unfolding transfer_of
  parts3_put =
      let sent = keep (λ p. is_sewn_out_of v (third_at ds (start_of p.face))) (placed 0 F) in
      let ps = part3_from b.counter (map (λ p. p.at) sent) in
      let a = counted_short part3 10 ps (each_of ps part3_short) in
      let c = keep_le (λ p. is_sewn_out_of v (third_at ds (start_of p.face))) (placed 0 F) in
      omega (arith, part3_count b.counter (map (λ p. p.at) sent), length-map sent (λ p. p.at), placed_count 0 F)

  faces_long : length ((counted (counted face_dart)).put (transfer_of b j s).faces) ≤ 5 + (length F * 5 + length (concat F) * 10)
  unfolding transfer_of
  faces_long = counted_long (counted face_dart) (transfer_of b j s).faces (length F * 5 + length (concat F) * 10) (faces_put _ F)

  parts4_long : length ((counted (part4 (transfer_of b j s).faces)).put (transfer_of b j s).part4) ≤ 5 + (length F * 10 + length (concat F) * 15)
  unfolding transfer_of
  parts4_long = counted_long (part4 (transfer_of b j s).faces) (transfer_of b j s).part4 (length F * 10 + length (concat F) * 15) (parts4_put ds j (transfer_of b j s).faces 0 F)

  pub transfer_fits : length (transfer.put (transfer_of b j s)) ≤ 48168
  transfer_fits =
      let a =
      transfer_long (transfer_of b j s) (5 + length (concat F) * 24) (5 + (length F * 5 + length (concat F) * 10))
      (5 + length F * 20) (5 + length F * 10) (5 + (length F * 10 + length (concat F) * 15)) points_put faces_long parts2_put
      parts3_put parts4_long
      in
      let c = darts_few in
      let d = faces_few in
      omega arith

  sixteen : length (tab (λ k. k) 16) ≡ 16
  sixteen = refl

  apart_sixteen : distinct (tab (λ k. k) 16) ≡ true
  apart_sixteen = refl

  updates_fit : length (concat (map (framed update) (updates_of b j s))) ≤ 8160
  unfolding updates_of
  updates_fit =
      let a = updates_long b j F (tab (λ k. k) 16) in
      let c = all_once (λ f. third_at ds (start_of f)) F (tab (λ k. k) 16) apart_sixteen in
      let d = darts_few in
      omega (arith, sixteen)

  pub messages_fit : length (concat (messages b j s)) ≤ outbox_bytes
  unfolding messages framed concat
  messages_fit =
      let body = transfer.put (transfer_of b j s) in
      let a = transfer_fits in
      let c = updates_fit in
      let d = group_short (length body) in
      omega (arith, length-append (group.put (length body)) body, length-append (group.put (length body) ++ body) (concat (map (framed update) (updates_of b j s))))
