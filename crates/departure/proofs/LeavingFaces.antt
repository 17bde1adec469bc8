-- The faces of a volume that leaves, as places: each has one kind, and its third links by place are those by serial. Assumes nothing.
use mathlib.Core.Path.{◌≡◌, refl, sym, ◌∙◌, ap, subst}
use mathlib.Core.Logic.{◌≢◌}
use mathlib.Core.Bool.{Bool, true, true≢false, cond, not, ◌&&◌}
use mathlib.Core.List.{List, [], ◌∷◌, ◌++◌, map}
use mathlib.Core.Option.{none, some}
use Prim.Native.Nat.{ℕ, zero, suc, ◌+◌, ◌*◌, ◌/◌, ◌<◌}
use native.Mathlib.Omega.{arith}
use lib.Dec.{leb, eqb}
use lib.ListN.{length}
use borrow.Author.Tests.{eqb-true, eqb-false, eq-eqb, ne_eqb}
use Rattle.model.specs.Lists.{all, keep, collect, distinct, least}
use Rattle.model.specs.Values.{Label, Dart, code, label_of, is_critical_with}
use Rattle.model.specs.Cells.{cycle, faces, start_of, third_at, labels_along, least_label}
use Rattle.model.specs.Image.{count_in, column, is_critical_word, third_in, label_in}
use Rattle.model.specs.Departure.{part2_entry, part4_entry, least_labels}
use Rattle.model.specs.Links.{Placed}
use Rattle.laws.proofs.Tests.{by_cases, and_left, eqb_swap}
use Rattle.laws.proofs.Members.{In, in_here, in_there, in_eq, in_append_left, in_append_right, distinct_left, distinct_apart, in_map, map_in, Each, each_map, keep_in, least_in, one_kept, keep_map, map_map, map_cong, collect_map}
use Rattle.laws.proofs.Faces.{face_stays, along_face, face_distinct}
use Rattle.laws.proofs.Labels.{code_in}
use Rattle.columns.specs.Columns.{Kind, kind_free, kind_sewn, kind_critical, codes, third_test}
use Rattle.columns.proofs.Thirds.{critical_two, third_free, third_sewn, third_critical}
use Rattle.columns.proofs.Question.{Passed}
use Rattle.cells.specs.Places.{Marked, marked, volume_of}
use Rattle.cells.proofs.Reached.{places, in_places, places_below, within_places}
use Rattle.cells.proofs.Paths.{round, apart_places, few_places}
use Rattle.cells.proofs.FaceSerials.{marked_below}
use Rattle.cells.proofs.StartLaws.{cycle_start}
use Rattle.cells.proofs.Sited.{Sited, darts_in}
use Rattle.departure.specs.ByPlaces.{label_at, least_at}

-- FACES of a block's memory
pub record Face (m f : List ℕ) : Type 0 where
  pub some : 0 < length f
  pub below : (q : ℕ) → In q f → q < count_in m
  pub one_kind : (q : ℕ) → In q f → column m 3 q ≡ column m 3 (start_of f)
  pub once : distinct f ≡ true

start_in : (f : List ℕ) → 0 < length f → In (start_of f) f
start_in [] h = absurd (omega arith)
start_in (x ∷ f) h = in_here x f

pub start_below : {m f : List ℕ} → Face m f → start_of f < count_in m
start_below {m} {f} w = w.below (start_of f) (start_in f w.some)

module _ {m : List ℕ} (site : Sited m) (ok : Passed m) where
  next_kind : (y : ℕ) → y < count_in m → column m 3 (column m 1 y) ≡ column m 3 y
  unfolding third_test
  next_kind y h = eqb-true _ _ (and_left (eqb (column m 3 (column m 1 y)) (column m 3 y)) _ (ok.thirds y h))

  cycle_face : (x : ℕ) → x < count_in m → Face m (cycle (column m 1) x)
  unfolding cycle
  cycle_face x h =
      let l = site.linked in
      let r = round l.few l.next_within l.next_apart x h in
      let n = count_in m in
      let within = within_places l.next_within in
      let apart = apart_places l.next_apart in
      let few = few_places l.few in
      record {
        some = r.some;
        below = λ q k. places_below n q (face_stays (column m 1) (places n) within apart few x q (in_places n x h) k);
        one_kind = λ q k. along_face (column m 1) (places n) within apart few (λ y. column m 3 y ≡ column m 3 x) (λ y i e. next_kind y (places_below n y i) ∙ e) x q (in_places n x h) refl k
            ∙ sym (ap (column m 3) (cycle_start r));
        once = face_distinct (column m 1) (places n) within apart few x (in_places n x h);
      }

  pub faces_are : (p : ℕ) (h : p < count_in m) {marks : List ℕ} (mk : Marked (volume_of m p) marks) → Each (Face m) (faces (column m 1) (marked (count_in m) marks))
  unfolding faces
  faces_are p h {marks} mk = each_map (Face m) (cycle (column m 1)) (keep (λ x. all (leb x) (cycle (column m 1) x)) (marked (count_in m) marks))
      (λ x k. cycle_face x (marked_below site p h mk x (keep_in (λ x. all (leb x) (cycle (column m 1) x)) (marked (count_in m) marks) x k).0))

-- LABELS stand once in a block's memory
pub in_codes : (m : List ℕ) (n p : ℕ) → p < n → is_critical_word (column m 3 p) ≡ true → In (column m 4 p) (codes m n)
unfolding codes
in_codes m zero p h c = absurd (omega arith)
in_codes m (suc n) p h c = by_cases (eqb p n)
    (λ e. let w = eqb-true p n e in rw (subst (λ (x : ℕ). is_critical_word (column m 3 x) ≡ true) w c) (rw w (in_append_right (column m 4 n) (codes m n) (column m 4 n ∷ []) (in_here (column m 4 n) []))))
    (λ e. let less : p < n = omega (arith, eqb-false p n e) in
    by_cases (is_critical_word (column m 3 n)) (λ k. rw k (in_append_left (column m 4 p) (codes m n) (column m 4 n ∷ []) (in_codes m n p less c))) (λ k. rw k (in_codes m n p less c)))

fewer_codes : (m : List ℕ) (n : ℕ) → distinct (codes m (suc n)) ≡ true → distinct (codes m n) ≡ true
unfolding codes
fewer_codes m n d = by_cases (is_critical_word (column m 3 n)) (λ k. distinct_left (codes m n) (column m 4 n ∷ []) (rw k at d)) (λ k. rw k at d)

last_apart : (m : List ℕ) (n q : ℕ) → distinct (codes m (suc n)) ≡ true → q < n → is_critical_word (column m 3 n) ≡ true → is_critical_word (column m 3 q) ≡ true → column m 4 q ≢ column m 4 n
unfolding codes
last_apart m n q d h cn cq e =
    let d' : distinct (codes m n ++ column m 4 n ∷ []) ≡ true = rw cn at d in
    true≢false (sym (in_eq (column m 4 n) (column m 4 q) (codes m n) (sym e) (in_codes m n q h cq)) ∙ distinct_apart (codes m n) (column m 4 n ∷ []) d' (column m 4 n) (in_here (column m 4 n) []))

pub labels_apart : (m : List ℕ) (n p q : ℕ) → distinct (codes m n) ≡ true → p < n → q < n → is_critical_word (column m 3 p) ≡ true → is_critical_word (column m 3 q) ≡ true → column m 4 p ≡ column m 4 q → p ≡ q
labels_apart m zero p q d hp hq cp cq e = absurd (omega arith)
labels_apart m (suc n) p q d hp hq cp cq e = by_cases (eqb p n)
    (λ a. let ep = eqb-true p n a in by_cases (eqb q n)
    (λ b. ep ∙ sym (eqb-true q n b))
    (λ b. absurd (last_apart m n q d (omega (arith, eqb-false q n b)) (subst (λ (x : ℕ). is_critical_word (column m 3 x) ≡ true) ep cp) cq (sym e ∙ ap (column m 4) ep))))
    (λ a. let less : p < n = omega (arith, eqb-false p n a) in by_cases (eqb q n)
    (λ b. let eq = eqb-true q n b in absurd (last_apart m n p d less (subst (λ (x : ℕ). is_critical_word (column m 3 x) ≡ true) eq cq) cp (e ∙ ap (column m 4) eq)))
    (λ b. labels_apart m n p q (fewer_codes m n d) less (omega (arith, eqb-false q n b)) cp cq e))

-- THIRD LINKS by their words
same_other : (k j : ℕ) → is_critical_word k ≡ true → eqb (k / 4) j ≡ eqb k (2 + 4 * j)
same_other k j e = let two = critical_two k e in by_cases (eqb (k / 4) j)
    (λ a. let w = eqb-true (k / 4) j a in rw a (sym (eq-eqb k (2 + 4 * j) (omega arith))))
    (λ a. let w = eqb-false (k / 4) j a in rw a (sym (ne_eqb k (2 + 4 * j) (λ x. w (omega arith)))))

pub critical_is : (s : ℕ → ℕ) (k a j : ℕ) → Kind k a → is_critical_with j (third_in s k a) ≡ eqb k (2 + 4 * j)
critical_is s k a j (kind_free e f) = rw (third_free s k a e, ne_eqb k (2 + 4 * j) (λ x. omega arith))
critical_is s k a j (kind_sewn e) = rw (third_sewn s k a e, ne_eqb k (2 + 4 * j) (λ x. omega arith))
critical_is s k a j (kind_critical e f g) = rw (third_critical s k a e) (eqb_swap j (k / 4) ∙ same_other k j e)

pub part2_is : (s : ℕ → ℕ) (k a j i : ℕ) → Kind k a → part2_entry j i (third_in s k a) ≡ cond (eqb k (2 + 4 * j)) (some (record { label = label_in a; index = i })) none
part2_is s k a j i (kind_free e f) = rw (third_free s k a e, ne_eqb k (2 + 4 * j) (λ x. omega arith))
part2_is s k a j i (kind_sewn e) = rw (third_sewn s k a e, ne_eqb k (2 + 4 * j) (λ x. omega arith))
part2_is s k a j i (kind_critical e f g) = rw (third_critical s k a e) (ap (λ (c : Bool). cond c (some (record { label = label_in a; index = i })) none) (same_other k j e))

pub part4_is : (s : ℕ → ℕ) (ds : List Dart) (k a j : ℕ) (f : Placed) → Kind k a
    → part4_entry ds j f (third_in s k a) ≡ cond (is_critical_word k && not (eqb k (2 + 4 * j))) (some (record { index = f.at; other = k / 4; labels = labels_along ds f.face })) none
part4_is s ds k a j f (kind_free e g) = rw (third_free s k a e, ap is_critical_word e)
part4_is s ds k a j f (kind_sewn e) = rw (third_sewn s k a e, ap is_critical_word e)
part4_is s ds k a j f (kind_critical e g h) = rw (third_critical s k a e, e, same_other k j e) (by_cases (eqb k (2 + 4 * j)) (λ c. rw c) (λ c. rw c))

label_is : (s : ℕ → ℕ) (k a : ℕ) → Kind k a → is_critical_word k ≡ true → label_of (third_in s k a) ≡ some (label_in a)
label_is s k a (kind_free e f) h = absurd (omega (arith, critical_two k h))
label_is s k a (kind_sewn e) h = absurd (omega (arith, critical_two k h))
label_is s k a (kind_critical e f g) h = rw (third_critical s k a e)

-- ALONG A CRITICAL FACE
module _ {m : List ℕ} (site : Sited m) (ok : Passed m) where
  labels_by : (f : List ℕ) → ((q : ℕ) → In q f → (q < count_in m) × (is_critical_word (column m 3 q) ≡ true)) → collect (λ q. label_of (third_at (darts_in m) (column m 0 q))) f ≡ map (label_at m) f
  labels_by [] h = refl
  labels_by (x ∷ f) h = let w = h x (in_here x f) in
      rw (site.third_is x w.0, label_is (column m 0) (column m 3 x) (column m 4 x) (ok.range.kinds x w.0) w.1)
      (ap (λ (l : List Label). label_at m x ∷ l) (labels_by f (λ q k. h q (in_there q x f k))))

  module _ (f : List ℕ) (w : Face m f) (c : is_critical_word (column m 3 (start_of f)) ≡ true) where
    critical_all : (q : ℕ) → In q f → is_critical_word (column m 3 q) ≡ true
    critical_all q k = ap is_critical_word (w.one_kind q k) ∙ c

    pub labels_are : labels_along (darts_in m) (map (column m 0) f) ≡ map (label_at m) f
    unfolding labels_along
    labels_are = collect_map (column m 0) (λ x. label_of (third_at (darts_in m) x)) f ∙ labels_by f (λ q k. (w.below q k, critical_all q k))

    codes_are : map code (map (label_at m) f) ≡ map (column m 4) f
    codes_are = map_map (label_at m) code f ∙ map_cong (λ q. code (label_at m q)) (column m 4) f (λ q k. code_in (column m 4 q))

    least_place : (y : ℕ) × In y f × (least (map (column m 4) f) ≡ column m 4 y)
    least_place = map_in (column m 4) f (least (map (column m 4) f)) (least_of (map (column m 4) f) (column m 4 (start_of f)) (in_map (column m 4) (start_of f) f (start_in f w.some)))
      where
        least_of : (l : List ℕ) (x : ℕ) → In x l → In (least l) l
        least_of [] x k = absurd (true≢false (sym k))
        least_of (y ∷ l) x k = least_in y l

    pub least_is : least_labels (darts_in m) (map (column m 0) f) ≡ least_at m f ∷ []
    unfolding least_labels least_label
    least_is =
        let c' = least (map (column m 4) f) in
        let y = least_place.0 in
        let hy = least_place.1 in
        let ey = least_place.2 in
        let test : ℕ → Bool = λ q. eqb (code (label_at m q)) c' in
        ap (λ (l : List Label). keep (λ x. eqb (code x) (least (map code l))) l) labels_are
        ∙ ap (λ (l : List ℕ). keep (λ x. eqb (code x) (least l)) (map (label_at m) f)) codes_are
        ∙ keep_map (λ x. eqb (code x) c') (label_at m) f
        ∙ ap (map (label_at m)) (one_kept test y f w.once hy (eq-eqb _ _ (code_in (column m 4 y) ∙ sym ey))
        (λ z hz e. labels_apart m (count_in m) z y ok.differ (w.below z hz) (w.below y hy) (critical_all z hz) (critical_all y hy) (sym (code_in (column m 4 z)) ∙ eqb-true _ _ e ∙ ey)))
        ∙ ap (λ (a : ℕ). label_in a ∷ []) (sym ey)
