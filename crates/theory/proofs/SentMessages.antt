-- The messages of a volume that may leave a sound block have a layout each: its transfer, and an update for each relative.
-- Assumes nothing.
use mathlib.Core.Path.{◌≡◌, refl, sym, ◌∙◌, ap, subst}
use mathlib.Core.Bool.{Bool, true, true≢false, ◌&&◌}
use mathlib.Core.List.{List, [], ◌∷◌, ◌++◌, map}
use mathlib.Core.Option.{Option}
use Prim.Native.Nat.{ℕ, suc, ◌+◌, ◌-◌, ◌^◌, ◌<◌, ◌≤◌}
use native.Mathlib.Omega.{arith}
use lib.Dec.{leb, ltb, eqb}
use lib.ListN.{length, length-append, length-map}
use borrow.Author.Tests.{eqb-true, eq-eqb, lt-ltb, le-leb}
use Rattle.model.specs.Lists.{all, keep, concat, concat_map, collect, tab, first_no}
use Rattle.model.specs.Values.{Label, Third, free, sewn, critical, Dart, Block, Limits, is_critical_with, label_of, code}
use Rattle.model.specs.Cells.{around, cycle, ring, vertex, faces, start_of, vertices, vertex_number, serials, dart_at, next_in, opposite_in, third_at, volume_in, faces_in, labels_along, least_label}
use Rattle.model.specs.Sound.{third_in_range, third_right, thirds_right, sound_block}
use Rattle.model.specs.Layouts.{◌⊗◌, ◌⊕◌, as_type, such_that, at_most, exactly, times, counted}
use Rattle.model.specs.Messages.{FaceDart, Part4, Transfer, Update, critical_link, point, label, face_dart, part2, part3, part4, part1, size_all, size_at, transfer, update}
use Rattle.model.specs.Departure.{is_sewn_out_of, sewn_faces, departure_checks, part2_entry, part3_from, part4_entry, transfer_of, least_labels, update_for, updates_of}
use Rattle.model.specs.Links.{Placed, placed}
use Rattle.laws.proofs.Faces.{face_stays, face_self, face_few, along_face, order_has, order_only}
use Rattle.laws.proofs.Members.{In, in_here, in_there, in_eq, keep_in, all_from, all_map, map_in, in_map, least_among, Each, each_both, each_weaken, each_keep, each_map, each_tab, all_each, firsts_fewer, firsts_have, firsts_only}
use Rattle.laws.proofs.Tests.{by_cases, and_intro, and_left, and_right}
use Rattle.theory.proofs.BlockLaws.{at_held}
use Rattle.theory.proofs.DemandTwo.{small_ok, point_ok, critical_ok}
use Rattle.theory.proofs.FaceIndices.{Passing, collect_all, collect_fewer, Holding, collected_each, placed_count, placed_high, placed_size, placed_keep, placed_each, size_concat, part3_count, each_mapped}
use Rattle.theory.proofs.ImageLaws.{place_back}
use Rattle.theory.proofs.Leaving as leaving
use Rattle.theory.proofs.SentLengths.{darts_few, faces_some, faces_few, least_all}
use Rattle.theory.proofs.Written.{counted_ok, group_ok, serial_ok}

-- LISTS
all_kept : {A : Type 0} (p q : A → Bool) (l : List A) → all p l ≡ true → all p (keep q l) ≡ true
all_kept p q [] h = refl
all_kept p q (a ∷ l) h = by_cases (q a) (λ e. rw e (and_intro (and_left (p a) _ h) (all_kept p q l (and_right (p a) _ h)))) (λ e. rw e (all_kept p q l (and_right (p a) _ h)))

all_append : {A : Type 0} (p : A → Bool) (s t : List A) → all p s ≡ true → all p t ≡ true → all p (s ++ t) ≡ true
all_append p [] t h k = k
all_append p (a ∷ s) t h k = and_intro (and_left (p a) _ h) (all_append p s t (and_right (p a) _ h) k)

kept_fewer : (q : List ℕ → Bool) (l : List (List ℕ)) → length (concat (keep q l)) ≤ length (concat l)
unfolding concat
kept_fewer q [] = omega arith
kept_fewer q (f ∷ l) = let i = kept_fewer q l in by_cases (q f)
    (λ e. rw e (omega (arith, length-append f (concat (keep q l)), length-append f (concat l))))
    (λ e. rw e (omega (arith, length-append f (concat l))))

some_length : (l : List ℕ) (x : ℕ) → In x l → 1 ≤ length l
some_length [] x h = absurd (true≢false (sym h))
some_length (y ∷ l) x h = omega arith

part3_ok : (c : ℕ) (l : List ℕ) → c + length l < 2 ^ 32 → Each (λ i. i < 2 ^ 32) l → all part3.ok (part3_from c l) ≡ true
unfolding part3_from part3 as_type ◌⊕◌ ◌⊗◌
part3_ok c [] h e = refl
part3_ok c (i ∷ l) h e = and_intro (and_intro (group_ok c (omega arith)) (group_ok i e.0)) (part3_ok (suc c) l (omega arith) e.1)

-- A critical link in range
critical_parts : (o : ℕ) (l : Label) → third_in_range (critical o l) ≡ true → ((at_most 15).ok o ≡ true) × (label.ok l ≡ true)
unfolding critical_link ◌⊕◌ ◌⊗◌
critical_parts o l h = let k = critical_ok o l h in (and_left ((at_most 15).ok o) _ k, and_right ((at_most 15).ok o) _ k)

abbrev LabelFine : Option Label → Type 0
LabelFine = Passing label.ok

label_fine : (t : Third) → third_in_range t ≡ true → LabelFine (label_of t)
label_fine free h = tt
label_fine (sewn y) h = tt
label_fine (critical o l) h = (critical_parts o l h).1

module _ (lim : Limits) (b : Block) (fits : lim.block_darts ≤ 4096) (sound : sound_block lim b ≡ true) where
  abbrev ds : List Dart
  ds = b.darts

  -- LABELS of darts that are held have a layout
  along_fine : (f : List ℕ) → ((x : ℕ) → In x f → In x (serials ds)) → all label.ok (labels_along ds f) ≡ true
  unfolding labels_along
  along_fine f h = collect_all (λ x. label_of (third_at ds x)) label.ok f (each f h)
    where
      each : (f : List ℕ) → ((x : ℕ) → In x f → In x (serials ds)) → Each (λ x. LabelFine (label_of (third_at ds x))) f
      each [] h = tt
      each (x ∷ f) h = (label_fine (third_at ds x) (leaving.dart_right lim b fits sound x (h x (in_here x f))).1, each f (λ y m. h y (in_there y x f m)))

  least_fine : (fs : List (List ℕ)) → Each (λ f. (x : ℕ) → In x f → In x (serials ds)) fs → all label.ok (concat_map (least_labels ds) fs) ≡ true
  unfolding least_labels
  least_fine [] e = refl
  least_fine (f ∷ fs) e = all_append label.ok (least_labels ds f) (concat_map (least_labels ds) fs)
      (all_kept label.ok (λ l. eqb (code l) (least_label ds f)) (labels_along ds f) (along_fine f e.0)) (least_fine fs e.1)

  -- AN UPDATE with the least labels of some faces
  pub update_ok : (j k : ℕ) (fs : List (List ℕ)) → j ≤ 15 → k ≤ 15 → Each (λ f. (x : ℕ) → In x f → In x (serials ds)) fs → length (concat_map (least_labels ds) fs) < 2 ^ 32
      → update.ok (record { from = b.number; to = k; block = j; labels = concat_map (least_labels ds) fs }) ≡ true
  unfolding update as_type ◌⊕◌ ◌⊗◌ exactly such_that
  update_ok j k fs hj hk e short =
      and_intro (and_intro (group_ok 2 (omega arith)) refl)
      (and_intro (small_ok b.number 15 (omega arith) (le-leb b.number 15 (leaving.ranges lim b fits sound).number_small))
      (and_intro (small_ok k 15 (omega arith) (le-leb k 15 hk))
      (and_intro (small_ok j 15 (omega arith) (le-leb j 15 hj)) (counted_ok label (concat_map (least_labels ds) fs) short (least_fine fs e)))))

  -- A FACE critical at its start is so all along: it has as many labels as darts
  critical_on : (o x : ℕ) → In x (serials ds) → is_critical_with o (third_at ds x) ≡ true → is_critical_with o (third_at ds (next_in ds x)) ≡ true
  unfolding thirds_right third_right
  critical_on o x h c = go (third_at ds x) c (at_held (λ d. third_right ds d d.third) ds (leaving.parts lim b fits sound).thirds x h).0
    where
      go : (t : Third) → is_critical_with o t ≡ true → third_right ds (dart_at ds x) t ≡ true → is_critical_with o (third_at ds (next_in ds x)) ≡ true
      go free c r = absurd (true≢false (sym c))
      go (sewn y) c r = absurd (true≢false (sym c))
      go (critical p l) c r = subst (λ (n : ℕ). is_critical_with n (third_at ds (next_in ds x)) ≡ true) (sym (eqb-true o p c)) (unfold third_right in r)

  as_many : (o : ℕ) (f : List ℕ) → ((x : ℕ) → In x f → is_critical_with o (third_at ds x) ≡ true) → length (labels_along ds f) ≡ length f
  unfolding labels_along
  as_many o [] h = refl
  as_many o (x ∷ f) h = go (third_at ds x) refl (h x (in_here x f)) (as_many o f (λ y m. h y (in_there y x f m)))
    where
      go : (t : Third) → third_at ds x ≡ t → is_critical_with o t ≡ true → length (collect (λ x. label_of (third_at ds x)) f) ≡ length f
          → length (collect (λ x. label_of (third_at ds x)) (x ∷ f)) ≡ suc (length f)
      go free e c more = absurd (true≢false (sym c))
      go (sewn y) e c more = absurd (true≢false (sym c))
      go (critical p l) e c more = rw e (ap suc more)

  -- OF A VOLUME THAT MAY LEAVE
  module _ (few_sent : lim.volume_darts ≤ 512) (j s : ℕ) (asks : first_no (departure_checks lim.volume_darts b j s) ≡ 0) where
    abbrev v : List ℕ
    v = volume_in ds s

    abbrev F : List (List ℕ)
    F = faces_in ds s

    abbrev PF : List Placed
    PF = placed 0 F

    abbrev nx : ℕ → ℕ
    nx = next_in ds

    abbrev op : ℕ → ℕ
    op = opposite_in ds

    abbrev t : Transfer
    t = transfer_of b j s

    stays : (x : ℕ) → In x v → In (nx x) v
    stays = leaving.closed_next lim b fits sound j s asks

    one : (x y : ℕ) → In x v → In y v → nx x ≡ nx y → x ≡ y
    one = leaving.v_one lim b fits sound j s asks

    small : length v ≤ 4096
    small = leaving.v_few lim b fits sound j s asks

    here : (x : ℕ) → In x v → In x (serials ds)
    here = leaving.in_block lim b fits sound j s asks

    order_in : (x : ℕ) → In x (concat F) → In x v
    unfolding faces_in
    order_in = order_only nx v stays one small

    in_order : (x : ℕ) → In x v → In x (concat F)
    unfolding faces_in
    in_order = order_has nx v stays one small

    order_few : length (concat F) ≤ 512
    order_few = darts_few lim b fits few_sent sound j s asks

    few_faces : length F ≤ 512
    few_faces = faces_few lim b fits few_sent sound j s asks

    -- VERTICES stay in the volume
    turn : ℕ → ℕ
    turn x = nx (op x)

    vertex_in : (x : ℕ) → In x v → In (vertex nx op x) v
    unfolding vertex ring cycle turn
    vertex_in x h = face_stays turn v turn_stays turn_one small x (vertex nx op x) h (least_among (around turn x 4096 x) x (face_self turn v turn_stays turn_one small x h))
      where
        turn_stays : (x : ℕ) → In x v → In (turn x) v
        turn_stays x h = stays (op x) (leaving.closed_opposite lim b fits sound j s asks x h)

        turn_one : (x y : ℕ) → In x v → In y v → turn x ≡ turn y → x ≡ y
        turn_one x y h m e =
            let L = leaving.links lim b fits sound in
            let q = one (op x) (op y) (leaving.closed_opposite lim b fits sound j s asks x h) (leaving.closed_opposite lim b fits sound j s asks y m) e in
            sym (L.opposite_opposite x (here x h)) ∙ ap op q ∙ L.opposite_opposite y (here y m)

    abbrev vs : List ℕ
    vs = vertices nx op (concat F)

    vertices_few : length vs ≤ 512
    unfolding vertices
    vertices_few = let a = firsts_fewer (map (vertex nx op) (concat F)) in let c = order_few in omega (arith, length-map (concat F) (vertex nx op))

    vertices_in : (w : ℕ) → In w vs → In w v
    unfolding vertices
    vertices_in w m =
        let a = map_in (vertex nx op) (concat F) w (firsts_only w (map (vertex nx op) (concat F)) m) in
        in_eq w (vertex nx op a.0) v a.2 (vertex_in a.0 (order_in a.0 a.1))

    points_ok : (counted point).ok t.points ≡ true
    unfolding transfer_of
    points_ok = counted_ok point (map (λ x. (dart_at ds x).point) vs) (let c = vertices_few in omega (arith, length-map vs (λ x. (dart_at ds x).point)))
        (all_map point.ok (λ x. (dart_at ds x).point) vs ∙ all_from (λ w. point.ok (dart_at ds w).point) vs
        (λ w m. point_ok (dart_at ds w).point (leaving.point_finite lim b fits sound w (here w (vertices_in w m)))))

    -- FACES
    record Face (f : List ℕ) : Type 0 where
      from_dart : ℕ
      in_volume : In from_dart v
      is_cycle : f ≡ cycle nx from_dart

    all_faces : Each Face F
    unfolding faces_in faces
    all_faces = each_map Face (cycle nx) (keep (λ x. all (leb x) (cycle nx x)) v)
        (λ x m. record { from_dart = x; in_volume = (keep_in (λ x. all (leb x) (cycle nx x)) v x m).0; is_cycle = refl })

    face_in : (f : List ℕ) → Face f → (x : ℕ) → In x f → In x v
    unfolding cycle
    face_in f q x m = face_stays nx v stays one small q.from_dart x q.in_volume (rw q.is_cycle at m)

    face_small : (f : List ℕ) → Face f → length f ≤ 4096
    unfolding cycle
    face_small f q = rw q.is_cycle (face_few nx v stays one small q.from_dart q.in_volume)

    start_is : (f : List ℕ) (q : Face f) → start_of f ≡ q.from_dart
    unfolding cycle around
    start_is f q = rw q.is_cycle

    start_range : (f : List ℕ) → Face f → third_in_range (third_at ds (start_of f)) ≡ true
    start_range f q = rw (start_is f q) (leaving.dart_right lim b fits sound q.from_dart (here q.from_dart q.in_volume)).1

    face_critical : (o : ℕ) (f : List ℕ) → Face f → is_critical_with o (third_at ds (start_of f)) ≡ true → (x : ℕ) → In x f → is_critical_with o (third_at ds x) ≡ true
    unfolding cycle
    face_critical o f q c x m =
        along_face nx v stays one small (λ y. is_critical_with o (third_at ds y) ≡ true) (λ y h. critical_on o y (here y h)) q.from_dart x q.in_volume
        (rw (start_is f q) at c) (rw q.is_cycle at m)

    -- a dart of a face as the transfer has it
    abbrev as_face_dart : ℕ → FaceDart
    as_face_dart x = record { vertex = vertex_number nx op (concat F) x; serial = x }

    dart_ok : (x : ℕ) → In x v → face_dart.ok (as_face_dart x) ≡ true
    unfolding face_dart as_type ◌⊕◌ ◌⊗◌ vertex_number vertices
    dart_ok x h =
        let there = firsts_have (vertex nx op x) (map (vertex nx op) (concat F)) (in_map (vertex nx op) x (concat F) (in_order x h)) in
        let low = (place_back (vertex nx op x) vs there).1 in
        let c = vertices_few in
        and_intro (group_ok _ (omega arith)) (serial_ok x (leaving.dart_right lim b fits sound x (here x h)).0)

    face_ok : (f : List ℕ) → Face f → (counted face_dart).ok (map as_face_dart f) ≡ true
    face_ok f q = counted_ok face_dart (map as_face_dart f) (let a = face_small f q in omega (arith, length-map f as_face_dart))
        (all_map face_dart.ok as_face_dart f ∙ all_from (λ x. face_dart.ok (as_face_dart x)) f (λ x m. dart_ok x (face_in f q x m)))

    sizes_ok : (leb 1 (size_all (map (λ f. map as_face_dart f) F)) && leb (size_all (map (λ f. map as_face_dart f) F)) 512) ≡ true
    sizes_ok =
        let start = in_order s (leaving.has_start lim b fits sound j s asks) in
        rw (size_concat as_face_dart F) (and_intro (le-leb 1 (length (concat F)) (some_length (concat F) s start)) (le-leb (length (concat F)) 512 order_few))

    faces_ok : ((counted (counted face_dart)).ok t.faces && (leb 1 (size_all t.faces) && leb (size_all t.faces) 512)) ≡ true
    unfolding transfer_of
    faces_ok = and_intro
        (counted_ok (counted face_dart) (map (λ f. map as_face_dart f) F) (let c = few_faces in omega (arith, length-map F (λ f. map as_face_dart f)))
        (all_map (counted face_dart).ok (λ f. map as_face_dart f) F ∙ all_each (λ f. (counted face_dart).ok (map as_face_dart f)) F (each_weaken F all_faces face_ok)))
        sizes_ok

    -- PARTS
    -- a face with the index of its start, and its size there
    record Known (p : Placed) : Type 0 where
      is_face : Face p.face
      some_dart : 0 < length p.face
      high : p.at + length p.face ≤ length (concat F)
      size : size_at p.at t.faces ≡ length p.face

    known : Each Known PF
    unfolding transfer_of
    known =
        let some = faces_some lim b fits few_sent sound j s asks in
        let sized : Each (λ q. (q.at + length q.face ≤ length (concat F)) × (size_at q.at t.faces ≡ length q.face)) PF =
        each_both PF (placed_high 0 F) (placed_size as_face_dart 0 F some)
        (λ q h z. let same : q.at - 0 ≡ q.at = omega arith in (omega arith, rw same at z.1)) in
        let filled : Each (λ q. Face q.face × (0 < length q.face)) PF =
        each_both PF (placed_each Face 0 F all_faces) (placed_each (λ f. 0 < length f) 0 F some) (λ q f h. (f, h)) in
        each_both PF filled sized (λ q f z. record { is_face = f.0; some_dart = f.1; high = z.0; size = z.1 })

    at_small : (p : Placed) → Known p → p.at < 2 ^ 32
    at_small p q = let h = q.high in let c = order_few in omega arith

    entry2_ok : (p : Placed) → Known p → (w : Third) → third_in_range w ≡ true → Passing part2.ok (part2_entry j p.at w)
    unfolding part2 as_type ◌⊕◌ ◌⊗◌
    entry2_ok p q free r = tt
    entry2_ok p q (sewn y) r = tt
    entry2_ok p q (critical o l) r = by_cases (eqb o j) (λ c. rw c (and_intro (critical_parts o l r).1 (group_ok p.at (at_small p q)))) (λ c. rw c tt)

    parts2_ok : (counted part2).ok t.part2 ≡ true
    unfolding transfer_of
    parts2_ok =
        let entry : Placed → Option _ = λ p. part2_entry j p.at (third_at ds (start_of p.face)) in
        counted_ok part2 (collect entry PF) (let a = collect_fewer entry PF in let c = few_faces in omega (arith, placed_count 0 F))
        (collect_all entry part2.ok PF (each_weaken PF known (λ p q. entry2_ok p q (third_at ds (start_of p.face)) (start_range p.face q.is_face))))

    abbrev leaves_out : List ℕ → Bool
    leaves_out f = is_sewn_out_of v (third_at ds (start_of f))

    parts3_ok : (counted part3).ok t.part3 ≡ true
    unfolding transfer_of sewn_faces
    parts3_ok =
        let sent = keep (λ p. leaves_out p.face) PF in
        let at = map (λ p. p.at) sent in
        let fitting = (leaving.asked lim b fits sound j s asks).counter in
        let many : length at ≡ length (keep leaves_out F) =
        length-map sent (λ p. p.at) ∙ sym (length-map sent (λ p. p.face)) ∙ ap length (placed_keep leaves_out 0 F) in
        counted_ok part3 (part3_from b.counter at) (omega (arith, part3_count b.counter at, many, fitting))
        (part3_ok b.counter at (omega (arith, many, fitting))
        (each_mapped (λ i. i < 2 ^ 32) (λ p. p.at) sent (each_keep (λ p. p.at < 2 ^ 32) (λ p. leaves_out p.face) PF (each_weaken PF known at_small))))

    entry4_ok : (p : Placed) → Known p → (w : Third) → third_at ds (start_of p.face) ≡ w → third_in_range w ≡ true → Passing (part4 t.faces).ok (part4_entry ds j p w)
    unfolding part4 as_type ◌⊕◌ ◌⊗◌ such_that times
    entry4_ok p q free e r = tt
    entry4_ok p q (sewn y) e r = tt
    entry4_ok p q (critical o l) e r = by_cases (eqb o j) (λ c. rw c tt)
        (λ c. rw c (and_intro (and_intro (group_ok p.at (at_small p q)) below)
        (and_intro (critical_parts o l r).0 (and_intro (eq-eqb (length (labels_along ds p.face)) (size_at p.at t.faces) count) fine))))
      where
        below : ltb p.at (size_all t.faces) ≡ true
        below = unfold transfer_of in (rw (size_concat as_face_dart F) (lt-ltb p.at (length (concat F)) (let h = q.high in let n = q.some_dart in omega arith)))

        count : length (labels_along ds p.face) ≡ size_at p.at t.faces
        count = as_many o p.face (face_critical o p.face q.is_face (rw e (eq-eqb o o refl))) ∙ sym q.size

        fine : all label.ok (labels_along ds p.face) ≡ true
        fine = along_fine p.face (λ x m. here x (face_in p.face q.is_face x m))

    abbrev entry4 : Placed → Option Part4
    entry4 p = part4_entry ds j p (third_at ds (start_of p.face))

    parts4_are : collect entry4 PF ≡ t.part4
    unfolding transfer_of
    parts4_are = refl

    parts4_ok : (counted (part4 t.faces)).ok t.part4 ≡ true
    parts4_ok = subst (λ (l : List Part4). (counted (part4 t.faces)).ok l ≡ true) parts4_are
        (counted_ok (part4 t.faces) (collect entry4 PF) (let a = collect_fewer entry4 PF in let c = few_faces in omega (arith, placed_count 0 F))
        (collect_all entry4 (part4 t.faces).ok PF (each_weaken PF known (λ p q. entry4_ok p q (third_at ds (start_of p.face)) refl (start_range p.face q.is_face)))))

    -- THE TRANSFER
    pub transfer_ok : transfer.ok t ≡ true
    unfolding transfer part1 as_type ◌⊕◌ ◌⊗◌ such_that
    transfer_ok = and_intro (and_intro one_ok (and_intro ends.0 (and_intro ends.1 (and_intro points_ok faces_ok)))) (and_intro parts2_ok (and_intro parts3_ok parts4_ok))
      where
        one_ok : (exactly 1).ok 1 ≡ true
        one_ok = unfold exactly in unfold such_that in (and_intro (group_ok 1 (omega arith)) refl)

        ends : ((at_most 15).ok t.from ≡ true) × ((at_most 15).ok t.to ≡ true)
        ends = unfold transfer_of in (
          small_ok b.number 15 (omega arith) (le-leb b.number 15 (leaving.ranges lim b fits sound).number_small),
          small_ok j 15 (omega arith) (le-leb j 15 (leaving.asked lim b fits sound j s asks).small),
        )

    -- THE UPDATES
    pub record Fine (w : Update) : Type 0 where
      pub has_layout : update.ok w ≡ true
      pub few_labels : length w.labels ≤ 512

    abbrev shared_with : ℕ → List (List ℕ)
    shared_with k = keep (λ f. is_critical_with k (third_at ds (start_of f))) F

    shared_few : (k : ℕ) → length (concat_map (least_labels ds) (shared_with k)) ≤ 512
    shared_few k = let a = least_all ds (shared_with k) in let c = kept_fewer (λ f. is_critical_with k (third_at ds (start_of f))) F in let d = order_few in omega arith

    update_fine : (k : ℕ) → k ≤ 15 → Holding Fine (update_for b j k (shared_with k))
    update_fine k h = go (shared_with k) (shared_few k) (each_weaken (shared_with k) (each_keep Face _ F all_faces) (λ f q x m. here x (face_in f q x m)))
      where
        go : (fs : List (List ℕ)) → length (concat_map (least_labels ds) fs) ≤ 512 → Each (λ f. (x : ℕ) → In x f → In x (serials ds)) fs → Holding Fine (update_for b j k fs)
        go [] n e = unfold update_for in tt
        go (f ∷ fs) n e = unfold update_for in (by_cases (eqb k j) (λ c. rw c tt)
            (λ c. rw c (record { has_layout = update_ok j k (f ∷ fs) (leaving.asked lim b fits sound j s asks).small h e (omega arith); few_labels = n })))

    pub updates_ok : Each Fine (updates_of b j s)
    unfolding updates_of
    updates_ok = collected_each Fine (λ k. update_for b j k (shared_with k)) (tab (λ k. k) 16)
        (each_tab (λ k. Holding Fine (update_for b j k (shared_with k))) (λ k. k) 16 (λ k h. update_fine k (omega arith)))
