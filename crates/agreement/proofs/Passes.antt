-- A transfer that send writes passes questions 17, 18 and 19 at its destination. Assumes nothing.
use mathlib.Core.Path.{◌≡◌, refl, sym, ◌∙◌, ap, subst}
use mathlib.Core.Logic.{◌≢◌}
use mathlib.Core.Bool.{Bool, true, false, true≢false, cond, not, ◌&&◌}
use mathlib.Core.List.{List, [], ◌∷◌, map}
use mathlib.Core.Option.{none, some}
use Prim.Native.Nat.{ℕ}
use native.Mathlib.Omega.{arith}
use lib.Dec.{leb, ltb, eqb}
use lib.ListN.{length, length-map}
use borrow.Author.Tests.{eqb-true, eqb-false, eq-eqb, ne_eqb, lt-ltb, le-leb, not-true}
use Rattle.model.specs.Lists.{all, any, keep, concat, mem, distinct, ascending, firsts, index_of, find}
use Rattle.model.specs.Values.{Label, free, Dart, Limits, finite}
use Rattle.model.specs.Cells.{around, cycle, volume, vertex, faces, start_of, vertices, vertex_number, held, dart_at, next_in, opposite_in}
use Rattle.model.specs.Sound.{Fit}
use Rattle.model.specs.Messages.{Transfer}
use Rattle.model.specs.Links.{same_pair, pairs_once, vertex_pairs}
use Rattle.model.specs.Arrival.{Side, sides, reverses, first_serial, new_darts, face_serials, serials_new, faces_ordered, pairs_right, one_volume, vertices_right, volume_right, addressed}
use Rattle.model.specs.Runs.{Request}
use Rattle.model.specs.UndividedRun.{State, nx, op, cell}
use Rattle.laws.proofs.Carry.{volume_cong, vertex_cong}
use Rattle.laws.proofs.Faces.{order_has, order_only}
use Rattle.laws.proofs.Members.{In, in_here, in_there, in_cons, in_eq, all_from, any_in, keep_ascending, ascending_distinct, all_map, any_map, map_map, map_cong, in_map, map_in, distinct_fewer, each_weaken, all_each, firsts_have, firsts_only}
use Rattle.laws.proofs.Tests.{by_cases, and_intro, and_left, and_right, not_equal, same_list_self}
use Rattle.laws.proofs.Volumes.{Volume, volume_is}
use Rattle.agreement.proofs.Arrived.{some_dart, once_only, new_are, order_distinct}
use Rattle.agreement.proofs.Described.{pt, block_by, Map, Inv, darts_by, held_by}
use Rattle.agreement.proofs.Moved.{Served, moved_cell}
use Rattle.agreement.proofs.MovedCell.{Cell, round_again, reached_from}
use Rattle.agreement.proofs.NewLabels.{index_one, next_one_cell}
use Rattle.agreement.proofs.Rebuilt.{side_of, reverse_there, sides_order}
use Rattle.agreement.proofs.Received.{faces_back}
use Rattle.agreement.proofs.Rings.{vertex_turn, vertex_opposite, vertex_in, vertex_point}
use Rattle.agreement.proofs.Sent.{cell_faces, number_in, IsFace, all_faces, start_is, transfer_by}

-- PAIRS
pub pairs_from : (f : ℕ → ℕ × ℕ) (l : List ℕ) → distinct l ≡ true → ((x : ℕ) → In x l → (f x).0 ≢ (f x).1) → ((x y : ℕ) → In x l → In y l → (f x).0 ≡ (f y).0 → (f x).1 ≡ (f y).1 → x ≡ y)
    → pairs_once (map f l) ≡ true
unfolding pairs_once
pairs_from f [] d e o = refl
pairs_from f (x ∷ l) d e o = and_intro (and_intro (not_equal (f x).0 (f x).1 (e x (in_here x l))) (go (any (same_pair (f x)) (map f l)) refl))
    (pairs_from f l (and_right (not (mem x l)) _ d) (λ y m. e y (in_there y x l m)) (λ y z m n. o y z (in_there y x l m) (in_there z x l n)))
  where
    found : (m : List ℕ) → any (λ y. same_pair (f x) (f y)) m ≡ true → (y : ℕ) × In y m × (same_pair (f x) (f y) ≡ true)
    found [] h = absurd (true≢false (sym h))
    found (y ∷ m) h = by_cases (same_pair (f x) (f y)) (λ t. (y, in_here y m, t)) (λ t. let q = found m (rw t at h) in (q.0, in_there q.0 y m q.1, q.2))

    go : (t : Bool) → any (same_pair (f x)) (map f l) ≡ t → not (any (same_pair (f x)) (map f l)) ≡ true
    go false h = rw h
    go true h =
        let q = found l (sym (any_map (same_pair (f x)) f l) ∙ h) in
        let s =
        o x q.0 (in_here x l) (in_there q.0 x l q.1) (eqb-true _ _ (and_left (eqb (f x).0 (f q.0).0) _ q.2))
        (eqb-true _ _ (and_right (eqb (f x).0 (f q.0).0) _ q.2))
        in
        absurd (true≢false (sym (in_eq x q.0 l s q.1) ∙ not-true (mem x l) (and_left _ _ d)))

pub pair_ends : (f : ℕ → ℕ × ℕ) (l : List ℕ) → pairs_once (map f l) ≡ true → (x : ℕ) → In x l → (f x).0 ≢ (f x).1
unfolding pairs_once
pair_ends f [] p x h = absurd (true≢false (sym h))
pair_ends f (z ∷ l) p x h = in_cons x z l h
    (λ q. rw q (eqb-false (f z).0 (f z).1 (not-true _ (and_left (not (eqb (f z).0 (f z).1)) _ (and_left (not (eqb (f z).0 (f z).1) && not (any (same_pair (f z)) (map f l))) _ p)))))
    (λ q. pair_ends f l (and_right (not (eqb (f z).0 (f z).1) && not (any (same_pair (f z)) (map f l))) _ p) x q)

module _ (lims : ℕ → Limits) (fit : Fit lims) (k : ℕ) (u : State) (label : ℕ → Label) (I : Inv lims k u label) (r : Request) (S : Served lims k u r) where
  abbrev M₄ : Map u
  M₄ = I.map_sound

  abbrev v₄ : List ℕ
  v₄ = cell u r.serial

  abbrev C₄ : Cell u r.from r.serial v₄
  C₄ = moved_cell lims fit k u label I r S

  abbrev es₄ : List Dart
  es₄ = darts_by u label r.to

  abbrev t₄ : Transfer
  t₄ = transfer_by lims fit k u label I r S

  abbrev F₄ : List (List ℕ)
  F₄ = cell_faces lims fit k u label I r S

  abbrev order₄ : List ℕ
  order₄ = concat F₄

  abbrev num : ℕ → ℕ
  num = number_in lims fit k u label I r S

  one₄ : (x y : ℕ) → In x v₄ → In y v₄ → nx u x ≡ nx u y → x ≡ y
  one₄ = next_one_cell u M₄ r.from r.serial v₄ C₄

  in_v : (x : ℕ) → In x order₄ → In x v₄
  in_v = order_only (nx u) v₄ C₄.next_closed one₄ C₄.few

  v_in : (x : ℕ) → In x v₄ → In x order₄
  v_in = order_has (nx u) v₄ C₄.next_closed one₄ C₄.few

  pub order_length : length order₄ ≡ length v₄
  order_length =
      let a = distinct_fewer order₄ v₄ (order_distinct lims fit k u label I r S) in_v in
      let b = distinct_fewer v₄ order₄ (ascending_distinct v₄ C₄.in_order) v_in in
      omega arith

  -- the sides of the transfer
  pub sides_are : sides t₄ ≡ map (side_of (nx u) num) order₄
  unfolding transfer_by vertex_number vertices
  sides_are = sides_order (nx u) (op u) (vertex (nx u) (op u)) (pt u) v₄ C₄.next_closed one₄ C₄.few C₄.opposite_closed
      (λ x h. vertex_opposite u M₄ r.from r.serial v₄ C₄ x h) (λ x h. vertex_turn u M₄ r.from r.serial v₄ C₄ x h)
      (once_only lims fit k u label I r S) (λ x h. vertex_point u M₄ r.from r.serial v₄ C₄ x h) t₄ refl

  pub side_serials : map (λ a. a.serial) (sides t₄) ≡ order₄
  side_serials = rw sides_are (map_map (side_of (nx u) num) (λ a. a.serial) order₄ ∙ map_same order₄)
    where
      map_same : (l : List ℕ) → map (λ x. x) l ≡ l
      map_same [] = refl
      map_same (x ∷ l) = ap (λ (t : List ℕ). x ∷ t) (map_same l)

  -- a test of every side
  all_sides : (p : Side → Bool) → ((x : ℕ) → In x v₄ → p (side_of (nx u) num x) ≡ true) → all p (sides t₄) ≡ true
  all_sides p h = rw sides_are (all_map p (side_of (nx u) num) order₄ ∙ all_from (λ x. p (side_of (nx u) num x)) order₄ (λ x m. h x (in_v x m)))

  -- 17
  pub seventeen : addressed t₄.from t₄.to (block_by u label r.to) ≡ true
  unfolding transfer_by block_by
  seventeen = and_intro (eq-eqb r.to r.to refl) (not_equal r.from r.to S.apart_blocks)

  -- 18
  not_held : (x : ℕ) → In x v₄ → not (held es₄ x) ≡ true
  not_held x h = rw (held_by u label r.to x, ne_eqb (u.number x) r.to (λ q. S.apart_blocks (sym (C₄.mine x h).block ∙ q))) (both_false (mem x u.darts))
    where
      both_false : (b : Bool) → not (b && false) ≡ true
      both_false true = refl
      both_false false = refl

  vertices_in : (w : ℕ) → In w (vertices (nx u) (op u) order₄) → In w v₄
  unfolding vertices
  vertices_in w m =
      let a = map_in (vertex (nx u) (op u)) order₄ w (firsts_only w (map (vertex (nx u) (op u)) order₄) m) in
      in_eq w (vertex (nx u) (op u) a.0) v₄ a.2 (vertex_in u M₄ r.from r.serial v₄ C₄ a.0 (in_v a.0 a.1))

  points_finite : all finite t₄.points ≡ true
  unfolding transfer_by
  points_finite =
      all_map finite (pt u) (vertices (nx u) (op u) order₄)
      ∙ all_from (λ w. finite (pt u w)) (vertices (nx u) (op u) order₄)
      (λ w m. M₄.point_finite w (C₄.mine w (vertices_in w m)).here)

  pub eighteen : serials_new es₄ t₄ ≡ true
  unfolding serials_new
  eighteen = and_intro (and_intro points_finite (all_sides (λ a. leb 1 a.serial && not (held es₄ a.serial)) (λ x h. and_intro (le-leb 1 x (M₄.positive x (C₄.mine x h).here)) (not_held x h))))
      (rw side_serials (order_distinct lims fit k u label I r S))

  -- 19: faces in order
  faces_serials : map face_serials t₄.faces ≡ F₄
  unfolding transfer_by
  faces_serials = faces_back (nx u) num F₄

  face_first : (f : List ℕ) → IsFace lims fit k u label I r S f → (ltb 0 (length f) && all (leb (start_of f)) f) ≡ true
  unfolding cycle
  face_first f q = and_intro (lt-ltb 0 (length f) (some_dart lims fit k u label I r S f q)) (rw (start_is lims fit k u label I r S f q, q.is_cycle) q.starts_face)

  starts_ascend : ascending (map start_of F₄) ≡ true
  unfolding faces cycle around
  starts_ascend =
      rw (
        map_map (cycle (nx u)) start_of (keep (λ x. all (leb x) (cycle (nx u) x)) v₄),
        starts_self (keep (λ x. all (leb x) (cycle (nx u) x)) v₄),
      ) (keep_ascending (λ x. all (leb x) (cycle (nx u) x)) v₄ C₄.in_order)
    where
      starts_self : (l : List ℕ) → map (λ x. start_of (cycle (nx u) x)) l ≡ l
      starts_self [] = refl
      starts_self (x ∷ l) = ap (λ (t : List ℕ). x ∷ t) (starts_self l)

  ordered_faces : faces_ordered t₄ ≡ true
  unfolding faces_ordered
  ordered_faces = rw faces_serials (and_intro (all_each _ F₄ (each_weaken F₄ (all_faces lims fit k u label I r S) face_first)) starts_ascend)

  -- pairs
  vertex_there₄ : (x : ℕ) → In x v₄ → In (vertex (nx u) (op u) x) (vertices (nx u) (op u) order₄)
  unfolding vertices
  vertex_there₄ x h = firsts_have (vertex (nx u) (op u) x) (map (vertex (nx u) (op u)) order₄) (in_map (vertex (nx u) (op u)) x order₄ (v_in x h))

  number_tells : (x y : ℕ) → In x v₄ → In y v₄ → num x ≡ num y → vertex (nx u) (op u) x ≡ vertex (nx u) (op u) y
  unfolding vertex_number
  number_tells x y h m e = index_one _ _ (vertices (nx u) (op u) order₄) (vertex_there₄ x h) (vertex_there₄ y m) e

  ends_differ : (x : ℕ) → In x v₄ → vertex (nx u) (op u) x ≢ vertex (nx u) (op u) (nx u x)
  unfolding vertex_pairs
  ends_differ x h = pair_ends (λ z. (vertex (nx u) (op u) z, vertex (nx u) (op u) (nx u z))) v₄ S.pairs x h

  pairs_numbered : pairs_once (map (λ x. (num x, num (nx u x))) order₄) ≡ true
  pairs_numbered = pairs_from (λ x. (num x, num (nx u x))) order₄ (order_distinct lims fit k u label I r S)
      (λ x m e. ends_differ x (in_v x m) (number_tells x (nx u x) (in_v x m) (C₄.next_closed x (in_v x m)) e))
      (λ x y m n a b. once_only lims fit k u label I r S x y (in_v x m) (in_v y n) (number_tells x y (in_v x m) (in_v y n) a)
      (number_tells (nx u x) (nx u y) (C₄.next_closed x (in_v x m)) (C₄.next_closed y (in_v y n)) b))

  reverse_present : (x : ℕ) → In x v₄ → any (reverses (side_of (nx u) num x)) (map (side_of (nx u) num) order₄) ≡ true
  unfolding vertex_number
  reverse_present x h =
      any_map (reverses (side_of (nx u) num x)) (side_of (nx u) num) order₄
      ∙ any_in (λ y. reverses (side_of (nx u) num x) (side_of (nx u) num y)) order₄ (op u x)
      (v_in (op u x) (C₄.opposite_closed x h))
      (reverse_there (nx u) num (op u) v₄ C₄.opposite_closed
      (λ y m. ap (λ (w : ℕ). index_of w (vertices (nx u) (op u) order₄)) (vertex_opposite u M₄ r.from r.serial v₄ C₄ y m))
      (λ y m. ap (λ (w : ℕ). index_of w (vertices (nx u) (op u) order₄)) (vertex_turn u M₄ r.from r.serial v₄ C₄ y m))
      (λ y z m n a b. once_only lims fit k u label I r S y z m n (number_tells y z m n a) (number_tells (nx u y) (nx u z) (C₄.next_closed y m) (C₄.next_closed z n) b)) x h)

  right_pairs : pairs_right (sides t₄) ≡ true
  unfolding pairs_right
  right_pairs = rw sides_are (and_intro (ap pairs_once (map_map (side_of (nx u) num) (λ a. (a.tail, a.head)) order₄) ∙ pairs_numbered)
      (all_map (λ a. any (reverses a) (map (side_of (nx u) num) order₄)) (side_of (nx u) num) order₄ ∙ all_from (λ x. any (reverses (side_of (nx u) num x)) (map (side_of (nx u) num) order₄)) order₄ (λ x m. reverse_present x (in_v x m))))

  -- the darts of the transfer, looked up
  abbrev new₄ : List Dart
  new₄ = new_darts t₄

  abbrev again₄ : ℕ → Dart
  again₄ x = record { serial = x; next = nx u x; opposite = op u x; third = free; point = pt u x }

  find_again : (l : List ℕ) (x : ℕ) → find (λ d. d.serial) x (map again₄ l) ≡ cond (mem x l) (some (again₄ x)) none
  find_again [] x = refl
  find_again (y ∷ l) x = by_cases (eqb x y) (λ e. rw (e, eqb-true x y e)) (λ e. rw e (find_again l x))

  pub new_at : (x : ℕ) → In x v₄ → dart_at new₄ x ≡ again₄ x
  unfolding dart_at
  new_at x h = rw (new_are lims fit k u label I r S, find_again order₄ x, v_in x h)

  new_next : (x : ℕ) → In x v₄ → next_in new₄ x ≡ nx u x
  new_next x h = ap (λ (d : Dart). d.next) (new_at x h)

  new_opposite : (x : ℕ) → In x v₄ → opposite_in new₄ x ≡ op u x
  new_opposite x h = ap (λ (d : Dart). d.opposite) (new_at x h)

  -- one volume: every dart of the cell is reached from any other
  module _ (x₀ : ℕ) (h₀ : In x₀ v₄) where
    abbrev W : List ℕ
    W = volume (nx u) (op u) x₀

    W_is : Volume (nx u) (op u) x₀ W
    W_is = volume_is (nx u) (op u) v₄ C₄.next_closed C₄.opposite_closed C₄.few x₀ h₀

    W_back : (y : ℕ) → In y u.darts → In (nx u y) W → In y W
    W_back = round_again u M₄ (λ z. In z W) W_is.closed_f

    s_there : In r.serial W
    s_there = (reached_from lims fit k u label I r.from S.from_below r.serial S.start_mine (λ y. In y u.darts × (In y W → In r.serial W))
        (S.start_mine.here, λ m. m)
        (λ y p. (M₄.next_in_map y p.0, λ m. p.1 (W_back y p.0 m)))
        (λ y p. (M₄.opposite_in_map y p.0, λ m. p.1 (subst (λ (z : ℕ). In z W) (M₄.opposite_twice y p.0) (W_is.closed_g (op u y) m))))
        x₀ h₀).1 W_is.here

    pub one_all : (y : ℕ) → In y v₄ → In y W
    one_all y h = reached_from lims fit k u label I r.from S.from_below r.serial S.start_mine (λ z. In z W) s_there W_is.closed_f W_is.closed_g y h

  volume_new : (x₀ : ℕ) → In x₀ v₄ → volume (next_in new₄) (opposite_in new₄) x₀ ≡ volume (nx u) (op u) x₀
  volume_new x₀ h =
      volume_cong (next_in new₄) (nx u) (λ x. In x v₄) (λ x m. rw (new_next x m) (C₄.next_closed x m)) new_next
      (opposite_in new₄) (op u) (λ x m. rw (new_opposite x m) (C₄.opposite_closed x m)) new_opposite x₀ h

  first_in : In (first_serial (sides t₄)) v₄
  first_in = rw sides_are (go order₄ in_v (v_in r.serial C₄.has_start))
    where
      go : (l : List ℕ) → ((x : ℕ) → In x l → In x v₄) → In r.serial l → In (first_serial (map (side_of (nx u) num) l)) v₄
      go [] f h = absurd (true≢false (sym h))
      go (x ∷ l) f h = f x (in_here x l)

  whole_volume : one_volume t₄ ≡ true
  unfolding one_volume
  whole_volume = all_sides _ (λ x h. rw (volume_new (first_serial (sides t₄)) first_in) (one_all (first_serial (sides t₄)) first_in x h))

  -- numbering
  new_vertex : (x : ℕ) → In x v₄ → vertex (next_in new₄) (opposite_in new₄) x ≡ vertex (nx u) (op u) x
  new_vertex =
      vertex_cong (next_in new₄) (nx u) (opposite_in new₄) (op u) (λ x. In x v₄) (λ x m. rw (new_next x m) (C₄.next_closed x m))
      (λ x m. rw (new_opposite x m) (C₄.opposite_closed x m)) new_next new_opposite

  new_vertices : vertices (next_in new₄) (opposite_in new₄) order₄ ≡ vertices (nx u) (op u) order₄
  unfolding vertices
  new_vertices = ap firsts (map_cong _ _ order₄ (λ x m. new_vertex x (in_v x m)))

  new_number : (x : ℕ) → In x v₄ → vertex_number (next_in new₄) (opposite_in new₄) order₄ x ≡ num x
  unfolding vertex_number
  new_number x h = rw (new_vertices, new_vertex x h)

  points_count : length t₄.points ≡ length (vertices (nx u) (op u) order₄)
  unfolding transfer_by
  points_count = length-map (vertices (nx u) (op u) order₄) (pt u)

  tails_are : map (λ a. a.tail) (sides t₄) ≡ map num order₄
  tails_are = rw sides_are (map_map (side_of (nx u) num) (λ a. a.tail) order₄)

  numbers_are : map (vertex_number (next_in new₄) (opposite_in new₄) order₄) order₄ ≡ map num order₄
  numbers_are = map_cong _ _ order₄ (λ x m. new_number x (in_v x m))

  right_vertices : vertices_right t₄ ≡ true
  unfolding vertices_right
  right_vertices = rw (side_serials, tails_are, numbers_are, new_vertices, points_count)
      (and_intro (same_list_self (map num order₄)) (eq-eqb (length (vertices (nx u) (op u) order₄)) (length (vertices (nx u) (op u) order₄)) refl))

  pub nineteen : volume_right t₄ ≡ true
  unfolding volume_right
  nineteen = and_intro (and_intro (and_intro ordered_faces right_pairs) whole_volume) right_vertices
