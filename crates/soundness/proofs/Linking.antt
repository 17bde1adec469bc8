-- The faces of a transfer are linked one after the other: what holds at each stage. Assumes nothing.
use mathlib.Core.Path.{◌≡◌, refl, sym, ◌∙◌, ap, subst}
use mathlib.Core.Logic.{inl, inr, ⊎_elim, ◌≢◌}
use mathlib.Core.Bool.{true, false, true≢false, not, ◌&&◌}
use mathlib.Core.List.{List, [], ◌∷◌, ◌++◌, map, append_assoc}
use mathlib.Core.Option.{Option, none, some}
use Prim.Native.Nat.{ℕ, zero, suc, ◌<◌, ◌≤◌}
use native.Mathlib.Omega.{arith}
use lib.Dec.{eqb}
use lib.ListN.{length, length-map}
use borrow.Author.Tests.{eqb-true, eqb-false, not-true}
use Rattle.model.specs.Lists.{all, zip, concat_map, mem, distinct, least, find}
use Rattle.model.specs.Values.{Point, Label, Third, free, sewn, critical, Dart, Block, Limits, code, label_key, same_point, is_critical_with, no_dart, or_no_dart}
use Rattle.model.specs.Cells.{around, cycle, dart_at, next_in, opposite_in, previous_in, third_at, serials, labelled}
use Rattle.model.specs.Sound.{third_in_range, label_right, sound_block}
use Rattle.model.specs.Messages.{FaceDart, Part2, Transfer}
use Rattle.model.specs.Links.{Link, third_or, sew_both}
use Rattle.model.specs.Arrival.{Side, sides_of, sides, new_darts, face_serials, face_from, part2_links, points_meet, part2_right, insert_all}
use Rattle.laws.proofs.Faces.{face_self, face_trans, face_sym, face_distinct}
use Rattle.laws.proofs.Members.{In, in_eq, in_append_left, in_append_right, distinct_left, distinct_right, distinct_apart}
use Rattle.laws.proofs.Orbits.{iter, path, in_path, iter_stays, around_path, in_cycle, path_length}
use Rattle.laws.proofs.Tests.{by_cases, and_left, and_right}
use Rattle.theory.proofs.BlockLaws.{Links, found_in, found_self, same_point_is}
use Rattle.theory.proofs.ImageLaws.{parts_of, ranges_of}
use Rattle.agreement.proofs.Begins.{critical_is}
use Rattle.agreement.proofs.Redirected.{least_same}
use Rattle.soundness.proofs.ByDarts.{dart_held, Frame, point_of, Good, serials_once, good_of}
use Rattle.soundness.proofs.FaceSteps.{free_not_sewn, critical_not_sewn, critical_not_free, face_labelled, Paired, sewing, zip_at, sewing_after, faces_sewn}
use Rattle.soundness.proofs.Fits.{Fits}
use Rattle.soundness.proofs.Joined.{old_at, new_at, old_in, new_in, old_or_new, free_new, joined_sound}
use Rattle.soundness.proofs.NewDarts.{new_serials, side_elem, next_side, face_after, face_before, face_path, sides_serials, new_frame}
use Rattle.soundness.proofs.Passed.{Passed, high}
use Rattle.soundness.proofs.Pointwise.{links_of}
use Rattle.soundness.proofs.Relinked.{after, after_append}
use Rattle.soundness.proofs.Rows.{Elem, all_elem, elem_map, elem_key, key_row, elem_find, not_found, mem_false, codes, codes_append, codes_one, elem_codes, zero_not_suc}
use Rattle.soundness.proofs.Starts.{starts, faces_serials, in_concat, distinct_face, some_dart, start, start_one}

not_head : (x y : ℕ) (l : List ℕ) → mem x (y ∷ l) ≡ false → (x ≢ y) × (mem x l ≡ false)
not_head x y l e = by_cases (eqb x y) (λ q. absurd (true≢false (sym (rw q) ∙ e))) (λ q. (eqb-false x y q, rw q at e))

module _ (lim : Limits) (b : Block) (t : Transfer) (small : lim.block_darts ≤ 4096) (s : sound_block lim b ≡ true) (F : Fits t) (P : Passed lim b t) where
  abbrev ds : List Dart
  ds = b.darts

  abbrev old : List ℕ
  old = serials b.darts

  abbrev pub all_darts : List Dart
  all_darts = insert_all (new_darts t) b.darts

  abbrev pub S : List ℕ
  S = serials (insert_all (new_darts t) b.darts)

  abbrev nx : ℕ → ℕ
  nx = next_in (insert_all (new_darts t) b.darts)

  abbrev pt : ℕ → Point
  pt = point_of (insert_all (new_darts t) b.darts)

  frame : Frame (new_serials t) (next_in (new_darts t)) (opposite_in (new_darts t)) (point_of (new_darts t))
  frame = new_frame t P.once P.pairs P.points_finite P.low (high t F)

  abbrev pub unlinked : Block
  unlinked = record { number = b.number; counter = b.counter; darts = insert_all (new_darts t) b.darts }

  pub unlinked_sound : sound_block lim unlinked ≡ true
  unlinked_sound = joined_sound lim b t s P.once P.absent frame P.room

  at_old : (x : ℕ) → In x old → dart_at all_darts x ≡ dart_at ds x
  at_old = old_at lim b t s P.once P.absent frame P.room

  at_new : (x : ℕ) → In x (new_serials t) → dart_at all_darts x ≡ dart_at (new_darts t) x
  at_new = new_at lim b t s P.once P.absent frame P.room

  in_old : (x : ℕ) → In x old → In x S
  in_old = old_in lim b t s P.once P.absent frame P.room

  in_new : (x : ℕ) → In x (new_serials t) → In x S
  in_new = new_in lim b t s P.once P.absent frame P.room

  new_free : (x : ℕ) → In x (new_serials t) → third_at all_darts x ≡ free
  new_free = free_new lim b t s P.once P.absent frame P.room

  not_both : (x : ℕ) → In x old → In x (new_serials t) → ⊥
  not_both x h k = true≢false (sym h ∙ P.absent x k)

  one : (x y : ℕ) → In x S → In y S → nx x ≡ nx y → x ≡ y
  one x y h k e = let L = links_of lim unlinked unlinked_sound in sym (L.previous_next x h) ∙ ap (previous_in all_darts) e ∙ L.previous_next y k

  next_old : (x : ℕ) → In x old → nx x ≡ next_in ds x
  next_old x h = ap (λ (d : Dart). d.next) (at_old x h)

  -- NEW FACES
  -- a face as a path
  record Round (f : List ℕ) : Type 0 where
    size : ℕ
    first : ℕ
    is_path : f ≡ path nx size first
    round : iter nx size first ≡ first

  record Face (i : ℕ) : Type 0 where
    face_new : (x : ℕ) → In x (face_from t i) → In x (new_serials t)
    face_on : (x : ℕ) → In x (face_from t i) → In (nx x) (face_from t i)
    face_back : (x : ℕ) → In x S → In (nx x) (face_from t i) → In x (face_from t i)
    face_once : distinct (face_from t i) ≡ true
    along : Round (face_from t i)

  next_new : (f : List FaceDart) → Elem f t.faces → (a : Side) → Elem a (sides_of f) → nx a.serial ≡ a.next
  next_new f h a k = let there = side_elem t f h a k in ap (λ (d : Dart). d.next) (at_new a.serial (elem_key (λ a. a.serial) a (sides t) there)) ∙ next_side t P.once a there

  round_face : (f : List FaceDart) → Elem f t.faces → 0 < length f → Round (face_serials f)
  round_face [] h l = absurd (omega arith)
  round_face (c ∷ cs) h l = let r = face_path nx c cs (next_new (c ∷ cs) h) in record { size = suc (length cs); first = c.serial; is_path = r.0; round = r.1 }

  face_of : (i : ℕ) → In i (starts t) → Face i
  face_of i h = record {
    face_new = λ x k. rw (faces_serials t) (in_concat (face_serials f) (map face_serials t.faces) x (elem_map face_serials f t.faces there) (rw is at k));
    face_on = λ x k.
        let r = side_at x (rw is at k) in
        let n = face_after f r.0 r.1 in
        in_eq (nx x) n.then_side.serial (face_from t i) (ap nx r.2 ∙ next_new f there r.0 r.1 ∙ sym n.serial_is) (side_in n.then_side n.there);
    face_back = λ x h k.
        let r = side_at (nx x) (rw is at k) in
        let n = face_before f r.0 r.1 in
        in_eq x n.then_side.serial (face_from t i)
        (one x n.then_side.serial h (in_new n.then_side.serial (elem_key (λ a. a.serial) n.then_side (sides t) (side_elem t f there n.then_side n.there)))
        (r.2 ∙ sym n.next_is ∙ sym (next_new f there n.then_side n.there)))
        (side_in n.then_side n.there);
    face_once = rw is (distinct_face (face_serials f) (map face_serials t.faces) (elem_map face_serials f t.faces there) (rw (← faces_serials t) P.once));
    along = rw is (round_face f there (some_dart t P.ordered P.once f there));
  }
    where
      f : List FaceDart
      f = (start t P.ordered P.once i h).face_darts

      there : Elem f t.faces
      there = (start t P.ordered P.once i h).in_faces

      is : face_from t i ≡ face_serials f
      is = (start t P.ordered P.once i h).face_is

      side_at : (x : ℕ) → In x (face_serials f) → (a : Side) × Elem a (sides_of f) × (x ≡ a.serial)
      side_at x k = key_row (λ a. a.serial) x (sides_of f) (rw (sides_serials f) k)

      side_in : (a : Side) → Elem a (sides_of f) → In a.serial (face_from t i)
      side_in a k = rw (is, ← sides_serials f) (elem_key (λ a. a.serial) a (sides_of f) k)

  -- OLD FACES, known by their least dart
  abbrev pub least_of : ℕ → ℕ
  least_of y = least (cycle (next_in ds) y)

  -- A STAGE: faces is of the transfer and the old faces rs are linked, K holds the codes of all labels
  pub record Stage (T : ℕ → Third) (is rs K : List ℕ) : Type 0 where
    pub good : Good S nx pt b.number b.counter T
    pub still_free : (i x : ℕ) → In i (starts t) → mem i is ≡ false → In x (face_from t i) → T x ≡ free
    pub still_old : (y : ℕ) → In y old → mem (least_of y) rs ≡ false → T y ≡ third_at ds y
    pub known : (x v : ℕ) → In x S → label_key (T x) ≡ suc v → In v K

  -- before any face is linked
  pub first_stage : Stage (third_at all_darts) [] [] (codes (λ d. d.third) b.darts)
  first_stage = record {
    good = good_of lim unlinked unlinked_sound;
    still_free = λ i x h e k. new_free x ((face_of i h).face_new x k);
    still_old = λ y h e. ap (λ (d : Dart). d.third) (at_old y h);
    known = λ x v h e. ⊎_elim
        (λ k. elem_codes (λ d. d.third) v ds (dart_at ds x) (dart_held ds (serials_once lim b s) x k) (ap (λ (d : Dart). label_key d.third) (sym (at_old x k)) ∙ e))
        (λ k. absurd (zero_not_suc v (ap label_key (sym (new_free x k)) ∙ e)))
        (old_or_new lim b t s P.once P.absent frame P.room x h);
  }

  -- ONE FACE IS LABELLED
  pub record LabelPart (i : ℕ) (ks : List Link) : Type 0 where
    pub a_start : In i (starts t)
    pub keys : map (λ k. k.dart) ks ≡ face_from t i
    pub other : ℕ
    pub is_critical : (k : Link) → Elem k ks → (l : Label) × (k.third ≡ critical other l)
    pub range : (k : Link) → Elem k ks → third_in_range k.third ≡ true
    pub own_right : (k : Link) → Elem k ks → label_right b.number b.counter k.third ≡ true

  module _ (T : ℕ → Third) (is rs K : List ℕ) (G : Stage T is rs K) (i : ℕ) (ks : List Link) (L : LabelPart i ks) (not_yet : mem i is ≡ false)
      (new-codes : distinct (codes (λ k. k.third) ks ++ K) ≡ true) where
    abbrev f : List ℕ
    f = face_from t i

    fi : Face i
    fi = face_of i L.a_start

    at_key : (x : ℕ) → In x f → (k : Link) × Elem k ks × (after ks T x ≡ k.third) × (x ≡ k.dart)
    at_key x h =
        let r = key_row (λ k. k.dart) x ks (rw L.keys h) in
        let found = ap (λ (y : ℕ). find (λ k. k.dart) y ks) r.2 ∙ elem_find (λ k. k.dart) ks (rw L.keys fi.face_once) r.0 r.1 in
        (r.0, r.1, ap (third_or (T x)) found, r.2)

    off : (x : ℕ) → mem x f ≡ false → after ks T x ≡ T x
    off x e = ap (third_or (T x)) (not_found (λ k. k.dart) x ks (λ k. true≢false (sym (subst (In x) L.keys k) ∙ e)))

    code_there : (x v : ℕ) → In x f → label_key (after ks T x) ≡ suc v → In v (codes (λ k. k.third) ks)
    code_there x v h e = let k = at_key x h in elem_codes (λ k. k.third) v ks k.0 k.1 (ap label_key (sym k.2) ∙ e)

    once_here : (x y v : ℕ) → In x f → In y f → label_key (after ks T x) ≡ suc v → label_key (after ks T y) ≡ suc v → x ≡ y
    once_here x y v h k e g =
        let a = at_key x h in
        let c = at_key y k in
        a.3
        ∙ codes_one (λ k. k.third) (λ k. k.dart) ks (distinct_left (codes (λ k. k.third) ks) K new-codes) v a.0 c.0 a.1
        c.1 (ap label_key (sym a.2) ∙ e) (ap label_key (sym c.2) ∙ g) ∙ sym c.3

    pub label_step : Stage (after ks T) (i ∷ is) rs (codes (λ k. k.third) ks ++ K)
    label_step = record {
      good = face_labelled S nx pt b.number b.counter T (after ks T) G.good f L.other fi.face_on fi.face_back (λ x h. G.still_free i x L.a_start not_yet h) off
          (λ x h. let k = at_key x h in let c = L.is_critical k.0 k.1 in (c.0, k.2 ∙ c.1))
          (λ x h. let k = at_key x h in subst (λ (u : Third). third_in_range u ≡ true) (sym k.2) (L.range k.0 k.1))
          (λ x h. let k = at_key x h in subst (λ (u : Third). label_right b.number b.counter u ≡ true) (sym k.2) (L.own_right k.0 k.1))
          once_here
          (λ x y v h k e g. true≢false (sym (code_there x v h e) ∙ distinct_apart (codes (λ k. k.third) ks) K new-codes v (G.known y v k g)));
      still_free = λ j x h e k. let n = not_head j i is e in
          off x (mem_false x f (λ m. n.0 (start_one t P.ordered P.once j i x h L.a_start k m))) ∙ G.still_free j x h n.1 k;
      still_old = λ y h e. off y (mem_false y f (λ m. not_both y h (fi.face_new y m))) ∙ G.still_old y h e;
      known = λ x v h e. by_cases (mem x f)
          (λ m. in_append_left v (codes (λ k. k.third) ks) K (code_there x v m e))
          (λ m. in_append_right v (codes (λ k. k.third) ks) K (G.known x v h (ap label_key (sym (off x m)) ∙ e)));
    }

  -- all faces of a part, the last first
  pub label_parts : {M : Type 0} (index : M → ℕ) (links : M → List Link) (ms : List M) → ((m : M) → Elem m ms → LabelPart (index m) (links m))
      → (T : ℕ → Third) (is K : List ℕ) → Stage T is [] K → distinct (map index ms ++ is) ≡ true → distinct (codes (λ k. k.third) (concat_map links ms) ++ K) ≡ true
      → Stage (after (concat_map links ms) T) (map index ms ++ is) [] (codes (λ k. k.third) (concat_map links ms) ++ K)
  label_parts index links [] L T is K G d c = G
  label_parts index links (m ∷ ms) L T is K G d c =
      let rest = concat_map links ms in
      let e : codes (λ k. k.third) (links m ++ rest) ++ K ≡ codes (λ k. k.third) (links m) ++ (codes (λ k. k.third) rest ++ K) =
      ap (λ (l : List ℕ). l ++ K) (codes_append (λ k. k.third) (links m) rest) ∙ append_assoc (codes (λ k. k.third) (links m)) (codes (λ k. k.third) rest) K in
      let c' : distinct (codes (λ k. k.third) (links m) ++ (codes (λ k. k.third) rest ++ K)) ≡ true = subst (λ (l : List ℕ). distinct l ≡ true) e c in
      let later = label_parts index links ms (λ n h. L n (inr h)) T is K G (and_right (not (mem (index m) (map index ms ++ is))) _ d) (distinct_right (codes (λ k. k.third) (links m)) _ c') in
      let here =
      label_step (after rest T) (map index ms ++ is) [] (codes (λ k. k.third) rest ++ K) later (index m) (links m)
      (L m (inl refl)) (not-true (mem (index m) (map index ms ++ is)) (and_left _ _ d)) c'
      in
      subst (λ (l : List ℕ). Stage (after (links m ++ rest) T) (index m ∷ map index ms ++ is) [] l) (sym e)
      (subst (λ (U : ℕ → Third). Stage U (index m ∷ map index ms ++ is) [] (codes (λ k. k.third) (links m) ++ (codes (λ k. k.third) rest ++ K))) (after_append (links m) rest T) here)

  -- TWO FACES ARE SEWN
  LB : Links ds
  LB = links_of lim b s

  abbrev pv : ℕ → ℕ
  pv = previous_in b.darts

  few_old : length old ≤ 4096
  few_old = omega (arith, (ranges_of lim b (parts_of lim b s).ranges).few_darts, length-map ds (λ (d : Dart). d.serial))

  back_in : (x : ℕ) → In x old → In (previous_in ds x) old
  back_in = LB.previous_in_block

  back_one : (x y : ℕ) → In x old → In y old → previous_in ds x ≡ previous_in ds y → x ≡ y
  back_one x y h k e = sym (LB.next_previous x h) ∙ ap (next_in ds) e ∙ LB.next_previous y k

  next_one : (x y : ℕ) → In x old → In y old → next_in ds x ≡ next_in ds y → x ≡ y
  next_one x y h k e = sym (LB.previous_next x h) ∙ ap (previous_in ds) e ∙ LB.previous_next y k

  -- a dart and the one before it are on one face
  least_back : (y : ℕ) → In y old → least_of (previous_in ds y) ≡ least_of y
  unfolding cycle
  least_back y h =
      let z = previous_in ds y in
      let hz = back_in y h in
      let near : In y (around (next_in ds) z 4096 z) =
      in_eq y (next_in ds z) (around (next_in ds) z 4096 z) (sym (LB.next_previous y h))
      (in_cycle (next_in ds) old LB.next_in_block next_one 4096 z 1 few_old hz)
      in
      least_same _ _ z (face_self (next_in ds) old LB.next_in_block next_one few_old z hz)
      (λ w k. face_trans (next_in ds) old LB.next_in_block next_one few_old y z w h (face_sym (next_in ds) old LB.next_in_block next_one few_old z y hz near) k)
      (λ w k. face_trans (next_in ds) old LB.next_in_block next_one few_old z y w hz near k)

  -- so is the third link before a critical one
  abbrev Critical : ℕ → Type 0
  Critical y = (o : ℕ) × (l : Label) × (third_at ds y ≡ critical o l)

  critical_back : (y : ℕ) → In y old → Critical y → Critical (previous_in ds y)
  critical_back y h c = go (third_at ds (previous_in ds y)) refl
    where
      again : third_at ds (next_in ds (previous_in ds y)) ≡ critical c.0 c.1
      again = ap (third_at ds) (LB.next_previous y h) ∙ c.2

      go : (u : Third) → third_at ds (previous_in ds y) ≡ u → Critical (previous_in ds y)
      go free e = absurd (critical_not_free c.0 c.1 (sym again ∙ (good_of lim b s).right (previous_in ds y) (back_in y h) free e))
      go (sewn z) e = let r = (good_of lim b s).right (previous_in ds y) (back_in y h) (sewn z) e in absurd (critical_not_sewn c.0 c.1 r.3.0 (sym again ∙ r.3.1))
      go (critical o l) e = (o, l, e)

  -- the dart that part 2 names
  abbrev pub met_dart : Part2 → ℕ
  met_dart m = (labelled m.label b.darts).serial

  record Named (m : Part2) : Type 0 where
    there : In (met_dart m) old
    is_critical : Critical (met_dart m)

  named : (m : Part2) → is_critical_with t.from (labelled m.label ds).third ≡ true → Named m
  unfolding labelled no_dart
  named m e = go (find (λ d. label_key d.third) (suc (code m.label)) ds) refl
    where
      key : Dart → ℕ
      key d = label_key d.third

      go : (o : Option Dart) → find (λ d. label_key d.third) (suc (code m.label)) ds ≡ o → Named m
      go none q = absurd (true≢false (sym (subst (λ (o : Option Dart). is_critical_with t.from (or_no_dart o).third ≡ true) q e)))
      go (some d) q =
          let c = critical_is t.from d.third (subst (λ (o : Option Dart). is_critical_with t.from (or_no_dart o).third ≡ true) q e) in
          let same = found_self (λ d. label_key d.third) (suc (code m.label)) ds d (serials_once lim b s) q in
          record {
            there = subst (λ (o : Option Dart). In (or_no_dart o).serial old) (sym q) (found_in (λ d. label_key d.third) (suc (code m.label)) ds d q);
            is_critical = subst (λ (o : Option Dart). Critical (or_no_dart o).serial) (sym q) (t.from, c.0, ap (λ (e : Dart). e.third) same ∙ c.1);
          }

  module _ (m : Part2) (start_there : In m.index (starts t)) (right : part2_right ds t m ≡ true) where
    abbrev y₀ : ℕ
    y₀ = met_dart m

    fm : Face m.index
    fm = face_of m.index start_there

    abbrev face₀ : List ℕ
    face₀ = face_from t m.index

    abbrev met : List ℕ
    met = cycle (previous_in ds) (labelled m.label ds).serial

    record Asked : Type 0 where
      critical_there : is_critical_with t.from (labelled m.label ds).third ≡ true
      same_size : length face₀ ≡ length met
      all_meet : all (λ p. points_meet ds t p.0 p.1) (zip face₀ met) ≡ true

    asked : Asked
    unfolding part2_right
    asked =
        let one = is_critical_with t.from (labelled m.label ds).third in
        let two = one && eqb (length face₀) (length met) in
        let q = and_left two _ right in
        record { critical_there = and_left one _ q; same_size = eqb-true (length face₀) (length met) (and_right one _ q); all_meet = and_right two _ right }

    nm : Named m
    nm = named m asked.critical_there

    -- what it meets, as a path
    record Against : Type 0 where
      met_is : met ≡ path pv fm.along.size y₀
      met_round : iter pv fm.along.size y₀ ≡ y₀
      met_once : distinct (path pv fm.along.size y₀) ≡ true

    against : Against
    unfolding cycle
    against = go (around_path pv old back_in back_one 4096 y₀ few_old nm.there)
      where
        go : (p : ℕ) × (0 < p) × (p ≤ 4096) × (around pv y₀ 4096 y₀ ≡ path pv p y₀) × (iter pv p y₀ ≡ y₀) × ((k : ℕ) → 0 < k → k < p → iter pv k y₀ ≢ y₀) → Against
        go r =
            let e : r.0 ≡ fm.along.size =
            sym (path_length pv r.0 y₀) ∙ ap length (sym r.3) ∙ sym asked.same_size ∙ ap length fm.along.is_path
            ∙ path_length nx fm.along.size fm.along.first
            in
            let is : met ≡ path pv fm.along.size y₀ = r.3 ∙ ap (λ (n : ℕ). path pv n y₀) e in
            record {
              met_is = is;
              met_round = ap (λ (n : ℕ). iter pv n y₀) (sym e) ∙ r.4;
              met_once = subst (λ (l : List ℕ). distinct l ≡ true) is (face_distinct pv old back_in back_one few_old y₀ nm.there);
            }

    abbrev n₀ : ℕ
    n₀ = fm.along.size

    abbrev x₀ : ℕ
    x₀ = fm.along.first

    along_in : (k : ℕ) → k < n₀ → In (iter nx k x₀) face₀
    along_in k h = rw fm.along.is_path (in_path nx n₀ x₀ k h)

    along_new : (k : ℕ) → k < n₀ → In (iter nx k x₀) (new_serials t)
    along_new k h = fm.face_new _ (along_in k h)

    against_old : (k : ℕ) → In (iter pv k y₀) old
    against_old k = iter_stays pv old back_in back_one k y₀ nm.there

    -- what holds of the dart that is named and goes back along the face
    along_met : (Q : ℕ → Type 0) → Q y₀ → ((y : ℕ) → In y old → Q y → Q (pv y)) → (k : ℕ) → Q (iter pv k y₀)
    along_met Q q step k = go k y₀ nm.there q
      where
        go : (k y : ℕ) → In y old → Q y → Q (iter pv k y)
        go zero y h q = q
        go (suc k) y h q = go k (pv y) (back_in y h) (step y h q)

    met_critical : (k : ℕ) → Critical (iter pv k y₀)
    met_critical = along_met Critical nm.is_critical critical_back

    met_least : (k : ℕ) → least_of (iter pv k y₀) ≡ least_of y₀
    met_least = along_met (λ y. least_of y ≡ least_of y₀) refl (λ y h e. least_back y h ∙ e)

    next_back : (k : ℕ) → k < n₀ → nx (pv (iter pv k y₀)) ≡ iter pv k y₀
    next_back k h = next_old _ (back_in _ (against_old k)) ∙ LB.next_previous _ (against_old k)

    disjoint : (k j : ℕ) → k < n₀ → j < n₀ → iter nx k x₀ ≢ iter pv j y₀
    disjoint k j h l e = not_both _ (against_old j) (in_eq _ _ (new_serials t) (sym e) (along_new k h))

    links_are : part2_links ds t m ≡ sewing nx pv n₀ x₀ y₀
    unfolding part2_links
    links_are = ap sew_both (ap (λ (l : List ℕ). zip l met) fm.along.is_path ∙ ap (zip (path nx n₀ x₀)) against.met_is)

    meet_at : (k : ℕ) → k < n₀ → points_meet ds t (iter nx k x₀) (iter pv k y₀) ≡ true
    meet_at k h = all_elem (λ p. points_meet ds t p.0 p.1) (zip (path nx n₀ x₀) (path pv n₀ y₀))
        (subst (λ (l : List (ℕ × ℕ)). all (λ p. points_meet ds t p.0 p.1) l ≡ true)
        (ap (λ (l : List ℕ). zip l met) fm.along.is_path ∙ ap (zip (path nx n₀ x₀)) against.met_is) asked.all_meet)
        (iter nx k x₀, iter pv k y₀) (zip_at nx pv n₀ x₀ y₀ k h)

    -- the points of both
    points_both : (x y : ℕ) → In x (new_serials t) → In y old → points_meet ds t x y ≡ true → (pt x ≡ pt (nx y)) × (pt y ≡ pt (nx x))
    unfolding points_meet
    points_both x y h k e =
        let new = new_darts t in
        let a = same_point_is _ _ (and_left (same_point (dart_at new x).point (dart_at ds (next_in ds y)).point) _ e) in
        let c = same_point_is _ _ (and_right (same_point (dart_at new x).point (dart_at ds (next_in ds y)).point) _ e) in
        let next-x : nx x ≡ next_in new x = ap (λ (d : Dart). d.next) (at_new x h) in (
          ap (λ (d : Dart). d.point) (at_new x h) ∙ a ∙ sym (ap (λ (d : Dart). d.point) (at_old (next_in ds y) (LB.next_in_block y k))) ∙ ap pt (sym (next_old y k)),
          ap (λ (d : Dart). d.point) (at_old y k) ∙ c ∙ sym (ap (λ (d : Dart). d.point) (at_new (next_in new x) (frame.next_stays x h))) ∙ ap pt (sym next-x),
        )

    module _ (T : ℕ → Third) (is rs K : List ℕ) (G : Stage T is rs K) (not_yet : mem m.index is ≡ false) (not-met : mem (least_of y₀) rs ≡ false) where
      abbrev T' : ℕ → Third
      T' = after (sewing nx pv n₀ x₀ y₀) T

      point_pair : (a c : ℕ) → Paired nx pv n₀ x₀ y₀ a c → pt a ≡ pt (nx c)
      point_pair a c (k, h, inl e) = ap pt e.0 ∙ (points_both _ _ (along_new k h) (against_old k) (meet_at k h)).0 ∙ ap (λ (z : ℕ). pt (nx z)) (sym e.1)
      point_pair a c (k, h, inr e) = ap pt e.0 ∙ (points_both _ _ (along_new k h) (against_old k) (meet_at k h)).1 ∙ ap (λ (z : ℕ). pt (nx z)) (sym e.1)

      not_sewn : (a c z : ℕ) → Paired nx pv n₀ x₀ y₀ a c → T a ≡ sewn z → ⊥
      not_sewn a c z (k, h, inl e) q = free_not_sewn z (sym (G.still_free m.index _ start_there not_yet (along_in k h)) ∙ ap T (sym e.0) ∙ q)
      not_sewn a c z (k, h, inr e) q =
          let w = met_critical k in
          let here = G.still_old (iter pv k y₀) (against_old k) (rw (met_least k) not-met) in
          critical_not_sewn w.0 w.1 z (sym w.2 ∙ sym here ∙ ap T (sym e.0) ∙ q)

      pair_old : (y c : ℕ) → In y old → Paired nx pv n₀ x₀ y₀ y c → least_of y ≡ least_of y₀
      pair_old y c h (k, l, inl e) = absurd (not_both y h (in_eq _ _ (new_serials t) e.0 (along_new k l)))
      pair_old y c h (k, l, inr e) = ap least_of e.0 ∙ met_least k

      pair_new : (i x c : ℕ) → In i (starts t) → In x (face_from t i) → Paired nx pv n₀ x₀ y₀ x c → i ≡ m.index
      pair_new i x c h g (k, l, inl e) = start_one t P.ordered P.once i m.index x h start_there g (in_eq _ _ face₀ e.0 (along_in k l))
      pair_new i x c h g (k, l, inr e) = absurd (not_both x (in_eq _ _ old e.0 (against_old k)) ((face_of i h).face_new x g))

      sewn_stage : Stage T' (m.index ∷ is) (least_of y₀ ∷ rs) K
      sewn_stage = record {
        good =
            faces_sewn S nx pv one n₀ x₀ y₀ fm.along.round against.met_round (λ k h. in_new _ (along_new k h))
            (λ k h. in_old _ (against_old k)) next_back once_along against.met_once disjoint
            pt b.number b.counter T G.good point_pair not_sewn;
        still_free = λ i x h e g. let q = not_head i m.index is e in
            ⊎_elim (λ r. r.0 ∙ G.still_free i x h q.1 g) (λ r. absurd (q.0 (pair_new i x r.0 h g r.1))) (sewing_after nx pv n₀ x₀ y₀ T x);
        still_old = λ y h e. let q = not_head (least_of y) (least_of y₀) rs e in
            ⊎_elim (λ r. r.0 ∙ G.still_old y h q.1) (λ r. absurd (q.0 (pair_old y r.0 h r.1))) (sewing_after nx pv n₀ x₀ y₀ T y);
        known = λ x v h e.
            ⊎_elim (λ r. G.known x v h (ap label_key (sym r.0) ∙ e)) (λ r. absurd (zero_not_suc v (ap label_key (sym r.2) ∙ e))) (sewing_after nx pv n₀ x₀ y₀ T x);
      }
        where
          once_along : distinct (path nx n₀ x₀) ≡ true
          once_along = subst (λ (l : List ℕ). distinct l ≡ true) fm.along.is_path fm.face_once

      sew_step : Stage (after (part2_links ds t m) T) (m.index ∷ is) (least_of y₀ ∷ rs) K
      sew_step = rw links_are sewn_stage

  -- all faces of part 2, the last first
  pub sew_parts : (ms : List Part2) → ((m : Part2) → Elem m ms → In m.index (starts t)) → ((m : Part2) → Elem m ms → part2_right ds t m ≡ true)
      → (T : ℕ → Third) (is rs K : List ℕ) → Stage T is rs K → distinct (map (λ m. m.index) ms ++ is) ≡ true → distinct (map (λ m. least_of (met_dart m)) ms ++ rs) ≡ true
      → Stage (after (concat_map (part2_links ds t) ms) T) (map (λ m. m.index) ms ++ is) (map (λ m. least_of (met_dart m)) ms ++ rs) K
  sew_parts [] h r T is rs K G d c = G
  sew_parts (m ∷ ms) h r T is rs K G d c =
      let rest = concat_map (part2_links ds t) ms in
      let later_is = map (λ m. m.index) ms ++ is in
      let later-rs = map (λ m. least_of (met_dart m)) ms ++ rs in
      let later = sew_parts ms (λ n k. h n (inr k)) (λ n k. r n (inr k)) T is rs K G (and_right (not (mem m.index later_is)) _ d) (and_right (not (mem (least_of (met_dart m)) later-rs)) _ c) in
      let here =
      sew_step m (h m (inl refl)) (r m (inl refl)) (after rest T) later_is later-rs K later
      (not-true (mem m.index later_is) (and_left _ _ d)) (not-true (mem (least_of (met_dart m)) later-rs) (and_left _ _ c))
      in
      subst (λ (U : ℕ → Third). Stage U (m.index ∷ later_is) (least_of (met_dart m) ∷ later-rs) K) (after_append (part2_links ds t m) rest T) here
