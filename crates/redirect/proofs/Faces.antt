-- The faces of a block's memory by places: one kind and one least label each. Assumes nothing.
use mathlib.Core.Path.{◌≡◌, refl, sym, ◌∙◌, ap}
use mathlib.Core.Bool.{true}
use mathlib.Core.List.{List, map}
use Prim.Native.Nat.{ℕ, ◌≤◌, ◌<◌}
use native.Mathlib.Omega.{arith}
use lib.Dec.{eqb}
use borrow.Author.Tests.{eqb-true}
use Rattle.model.specs.Lists.{least, distinct}
use Rattle.model.specs.Values.{code}
use Rattle.model.specs.Cells.{cycle, next_in, least_label}
use Rattle.model.specs.Image.{count_in, column, is_critical_word}
use Rattle.laws.proofs.Tests.{and_left}
use Rattle.laws.proofs.Members.{In, in_map, map_in, map_map, map_cong, least_below, least_among}
use Rattle.laws.proofs.Faces.{face_self, face_stays, face_sym, face_trans, along_face, face_distinct}
use Rattle.laws.proofs.Labels.{code_in}
use Rattle.columns.specs.Columns.{third_test}
use Rattle.columns.proofs.Question.{Passed}
use Rattle.cells.specs.Places.{Linked}
use Rattle.cells.proofs.Reached.{places, in_places, places_below, within_places}
use Rattle.cells.proofs.Paths.{round, apart_places, few_places}
use Rattle.cells.proofs.StartLaws.{cycle_start}
use Rattle.cells.proofs.FaceSerials.{cycle_carried}
use Rattle.cells.proofs.Sited.{Sited, darts_in}
use Rattle.departure.specs.ByPlaces.{label_at}
use Rattle.departure.proofs.LeavingFaces.{Face, labels_are}
use Rattle.redirect.specs.ByPlaces.{face_code}

-- A FACE, from any of its darts
module _ {m : List ℕ} {n : ℕ} (l : Linked m n) where
  pub self_in : (x : ℕ) → x < n → In x (cycle (column m 1) x)
  unfolding cycle
  self_in x h = face_self (column m 1) (places n) (within_places l.next_within) (apart_places l.next_apart) (few_places l.few) x (in_places n x h)

  pub stays_in : (x y : ℕ) → x < n → In y (cycle (column m 1) x) → y < n
  unfolding cycle
  stays_in x y h k = places_below n y (face_stays (column m 1) (places n) (within_places l.next_within) (apart_places l.next_apart) (few_places l.few) x y (in_places n x h) k)

  pub sym_in : (x y : ℕ) → x < n → In y (cycle (column m 1) x) → In x (cycle (column m 1) y)
  unfolding cycle
  sym_in x y h k = face_sym (column m 1) (places n) (within_places l.next_within) (apart_places l.next_apart) (few_places l.few) x y (in_places n x h) k

  pub trans_in : (x y z : ℕ) → x < n → In y (cycle (column m 1) x) → In z (cycle (column m 1) y) → In z (cycle (column m 1) x)
  unfolding cycle
  trans_in x y z h k j = face_trans (column m 1) (places n) (within_places l.next_within) (apart_places l.next_apart) (few_places l.few) x y z (in_places n x h) k j

  once_in : (x : ℕ) → x < n → distinct (cycle (column m 1) x) ≡ true
  unfolding cycle
  once_in x h = face_distinct (column m 1) (places n) (within_places l.next_within) (apart_places l.next_apart) (few_places l.few) x (in_places n x h)

  -- its least label stands at one of its darts, and is that of each
  pub code_there : (x : ℕ) → x < n → (y : ℕ) × In y (cycle (column m 1) x) × (face_code m x ≡ column m 4 y)
  unfolding face_code
  code_there x h =
      map_in (column m 4) (cycle (column m 1) x) (face_code m x)
      (least_among (map (column m 4) (cycle (column m 1) x)) (column m 4 x)
      (in_map (column m 4) x (cycle (column m 1) x) (self_in x h)))

  code_least : (x y : ℕ) → In y (cycle (column m 1) x) → face_code m x ≤ column m 4 y
  unfolding face_code
  code_least x y k = least_below (map (column m 4) (cycle (column m 1) x)) (column m 4 y) (in_map (column m 4) y (cycle (column m 1) x) k)

  pub one_code : (x y : ℕ) → x < n → In y (cycle (column m 1) x) → face_code m y ≡ face_code m x
  one_code x y h k =
      let hy = stays_in x y h k in
      let a = code_there x h in
      let b = code_there y hy in
      let p = code_least x b.0 (trans_in x y b.0 h k b.1) in
      let q = code_least y a.0 (trans_in y x a.0 hy (sym_in x y h k) a.1) in
      omega (arith, a.2, b.2)

module _ {m : List ℕ} (site : Sited m) (ok : Passed m) where
  next_kind : (y : ℕ) → y < count_in m → column m 3 (column m 1 y) ≡ column m 3 y
  unfolding third_test
  next_kind y h = eqb-true _ _ (and_left (eqb (column m 3 (column m 1 y)) (column m 3 y)) _ (ok.thirds y h))

  pub one_kind : (x y : ℕ) → x < count_in m → In y (cycle (column m 1) x) → column m 3 y ≡ column m 3 x
  unfolding cycle
  one_kind x y h k =
      let l = site.linked in
      let n = count_in m in
      along_face (column m 1) (places n) (within_places l.next_within) (apart_places l.next_apart) (few_places l.few)
      (λ z. column m 3 z ≡ column m 3 x) (λ z i e. next_kind z (places_below n z i) ∙ e) x y (in_places n x h) refl k

  face_of : (x : ℕ) → x < count_in m → Face m (cycle (column m 1) x)
  face_of x h =
      let l = site.linked in
      let r = round l.few l.next_within l.next_apart x h in
      record {
        some = r.some;
        below = λ q k. stays_in site.linked x q h k;
        one_kind = λ q k. one_kind x q h k ∙ sym (ap (column m 3) (cycle_start r));
        once = once_in site.linked x h;
      }

  -- the model's least label of a critical face
  pub least_is : (x : ℕ) → x < count_in m → is_critical_word (column m 3 x) ≡ true → least_label (darts_in m) (cycle (next_in (darts_in m)) (column m 0 x)) ≡ face_code m x
  unfolding least_label face_code
  least_is x h c =
      let l = site.linked in
      let f = cycle (column m 1) x in
      let r = round l.few l.next_within l.next_apart x h in
      ap (least_label (darts_in m)) (sym (cycle_carried site x h))
      ∙ ap (λ (ls : List _). least (map code ls)) (labels_are site ok f (face_of x h) (ap (λ (y : ℕ). is_critical_word (column m 3 y)) (cycle_start r) ∙ c))
      ∙ ap least (map_map (label_at m) code f ∙ map_cong (λ q. code (label_at m q)) (column m 4) f (λ q k. code_in (column m 4 q)))
