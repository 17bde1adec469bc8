-- A sound mesh is what its own starting state and its labels describe: the invariant holds at the start. Assumes nothing.
use mathlib.Core.Path.{◌≡◌, refl, sym, ◌∙◌, ap, subst}
use mathlib.Core.Logic.{◌⊎◌, inl, inr, ◌≢◌}
use mathlib.Core.Bool.{Bool, true, false, true≢false, not, ◌&&◌}
use mathlib.Core.List.{List, [], ◌∷◌, map}
use mathlib.Core.Option
use mathlib.Core.Option.{Option, none, some, none-ne-some, some-injective}
use Prim.Native.Nat.{ℕ, suc, ◌^◌, ◌<◌, ◌≤◌}
use native.Mathlib.Omega.{arith}
use lib.Dec.{leb, ltb, eqb}
use lib.ListN.{length, length-map, get_or-eq_default}
use lib.Seq.{ext_get_or}
use borrow.Author.Tests.{eqb-true, eqb-false, eq-eqb, ltb-true, ltb-false, leb-true, not-true}
use Rattle.model.specs.Lists.{all, any, keep, mem, distinct, ascending, find}
use Rattle.model.specs.Values.{Label, Third, free, sewn, critical, Dart, Block, Limits, serial_bound, code, label_key, has_label, is_free, is_sewn_to, is_critical_with, same_point, finite, no_dart, or_no_dart, no_block}
use Rattle.model.specs.Cells.{serials, held, dart_at, next_in, opposite_in, third_at, previous_in, labelled}
use Rattle.model.specs.Sound.{third_in_range, dart_in_range, coordinates_finite, sewn_along, third_right, thirds_right, label_right, labels_right, sewn_points, points_agree, block_at, all_darts, share_label, paired, labels_paired, same_across, points_across, made_before, makers_right, Sound}
use Rattle.model.specs.Image.{label_in}
use Rattle.model.specs.UndividedRun.{Whole, other_with, third_of, whole_map, State, start, or_nothing, nx, op, th}
use Rattle.laws.proofs.Members.{In, or_left, or_right, in_eq, ascending_distinct, keep_map}
use Rattle.laws.proofs.Tables.{length_tab, getD_tab}
use Rattle.laws.proofs.Tests.{by_cases, and_intro, and_left, and_right, not_equal, found_key, all_at}
use Rattle.theory.proofs.BlockLaws.{held_found, at_held, Links, found_in, found_self, same_point_is}
use Rattle.theory.proofs.ImageLaws.{label_back, Parts, ranges_of}
use Rattle.theory.proofs.MeshLaws.{MeshParts, mesh_parts}
use Rattle.agreement.proofs.Arrived.{es}
use Rattle.agreement.proofs.Described.{pt, third_by, dart_by, members, block_by, mesh_by, Crossing, Map, Labelled, Inv, found_there, absent_not_found, table_unique, darts_by, found_by, in_order_by, kind_free, kind_sewn, kind_critical}
use Rattle.agreement.proofs.Homes.{sorted_in, in_sorted, sorted_ascends, Home, homes, one_of_two, distinct_all, block_number, block_counts, block_is_sound, block_links, home_of, holder_is, one_home}

-- a table with distinct serials is what its serials find
self_table : (ds es : List Dart) → distinct (serials ds) ≡ true
    → ((d : Dart) → find (λ e. e.serial) d.serial ds ≡ some d → find (λ e. e.serial) d.serial es ≡ some d)
    → map (dart_at es) (serials ds) ≡ ds
unfolding dart_at
self_table [] es u h = refl
self_table (d ∷ ds) es u h = cons_same (or_no_dart (find (λ e. e.serial) d.serial es)) d _ _ first
    (self_table ds es (and_right (not (mem d.serial (serials ds))) _ u) (λ e f. h e (later e f)))
  where
    cons_same : (x y : Dart) (s t : List Dart) → x ≡ y → s ≡ t → x ∷ s ≡ y ∷ t
    cons_same x y s t p q = rw (p, q)

    first : or_no_dart (find (λ e. e.serial) d.serial es) ≡ d
    first = ap or_no_dart (h d (rw (eq-eqb d.serial d.serial refl)))

    later : (e : Dart) → find (λ z. z.serial) e.serial ds ≡ some e → find (λ z. z.serial) e.serial (d ∷ ds) ≡ some e
    later e f = by_cases (eqb e.serial d.serial)
        (λ t. absurd
        (true≢false
        (sym
        (in_eq d.serial e.serial (serials ds) (sym (eqb-true e.serial d.serial t)) (found_there e.serial ds e f))
        ∙ not-true (mem d.serial (serials ds)) (and_left _ _ u))))
        (λ t. rw t f)

pub sewn_to_is : (x : ℕ) (t : Third) → is_sewn_to x t ≡ true → t ≡ sewn x
sewn_to_is x free h = absurd (true≢false (sym h))
sewn_to_is x (sewn y) h = ap sewn (sym (eqb-true x y h))
sewn_to_is x (critical o l) h = absurd (true≢false (sym h))

pub free_is : (t : Third) → is_free t ≡ true → t ≡ free
free_is free h = refl
free_is (sewn y) h = absurd (true≢false (sym h))
free_is (critical o l) h = absurd (true≢false (sym h))

pub along_is : (ds : List Dart) (y : ℕ) (t : Third) → sewn_along ds y t ≡ true → (z : ℕ) × (t ≡ sewn z) × (next_in ds z ≡ y)
along_is ds y free h = absurd (true≢false (sym h))
along_is ds y (sewn z) h = (z, refl, eqb-true (next_in ds z) y h)
along_is ds y (critical o l) h = absurd (true≢false (sym h))

pub critical_is : (o : ℕ) (t : Third) → is_critical_with o t ≡ true → (l : Label) × (t ≡ critical o l)
critical_is o free h = absurd (true≢false (sym h))
critical_is o (sewn y) h = absurd (true≢false (sym h))
critical_is o (critical p l) h = (l, ap (λ (n : ℕ). critical n l) (sym (eqb-true o p h)))

-- the label of a third link, and something where it has none
abbrev label_or : Third → Label
label_or free = record { maker = 0; number = 0; position = 0 }
label_or (sewn y) = record { maker = 0; number = 0; position = 0 }
label_or (critical o l) = l

module _ (lims : ℕ → Limits) (m : List Block) (sound : Sound lims m) where
  abbrev u : State
  u = start m

  abbrev k : ℕ
  k = length m

  abbrev D : List Dart
  D = all_darts m

  abbrev ds : ℕ → List Dart
  ds b = (block_at m b).darts

  abbrev P : MeshParts lims m
  P = mesh_parts lims m sound

  -- a dart of block b
  record At (b x : ℕ) : Type 0 where
    below : b < k
    held_there : In x (serials (ds b))

  home_at : (b x : ℕ) → At b x → Home m b x
  home_at b x a = home_of lims m sound b x a.below a.held_there

  found_at : (b x : ℕ) → At b x → find (λ d. d.serial) x (ds b) ≡ some (dart_at (ds b) x)
  unfolding dart_at
  found_at b x a = let f = held_found x (ds b) a.held_there in f.1 ∙ ap (λ (o : Option Dart). some (or_no_dart o)) (sym f.1)

  test_at : (p : Dart → Bool) (b x : ℕ) → all p (ds b) ≡ true → At b x → p (dart_at (ds b) x) ≡ true
  test_at p b x h a = (at_held p (ds b) h x a.held_there).0

  serial_at : (b x : ℕ) → At b x → (dart_at (ds b) x).serial ≡ x
  serial_at b x a = (at_held (λ d. true) (ds b) (all_true (ds b)) x a.held_there).1
    where
      all_true : (l : List Dart) → all (λ d. true) l ≡ true
      all_true [] = refl
      all_true (d ∷ l) = all_true l

  L : (b : ℕ) → b < k → Links (ds b)
  L = block_links lims m sound

  sound_at : (b : ℕ) → b < k → Parts (lims b) (block_at m b)
  sound_at = block_is_sound lims m sound

  -- the state, dart by dart
  links_at : (b x : ℕ) → At b x
      → u.links x
      ≡ some
      (record {
        next = (dart_at (ds b) x).next;
        opposite = (dart_at (ds b) x).opposite;
        third = third_of m x (dart_at (ds b) x).third;
        point = (dart_at (ds b) x).point;
      })
  unfolding start whole_map
  links_at b x a = ap (Option.map _) ((home_at b x a).looked_up ∙ found_at b x a)

  nx_at : (b x : ℕ) → At b x → nx u x ≡ next_in (ds b) x
  nx_at b x a = ap (λ (o : Option Whole). (or_nothing o).next) (links_at b x a)

  op_at : (b x : ℕ) → At b x → op u x ≡ opposite_in (ds b) x
  op_at b x a = ap (λ (o : Option Whole). (or_nothing o).opposite) (links_at b x a)

  pt_at : (b x : ℕ) → At b x → pt u x ≡ (dart_at (ds b) x).point
  pt_at b x a = ap (λ (o : Option Whole). (or_nothing o).point) (links_at b x a)

  th_at : (b x : ℕ) → At b x → th u x ≡ third_of m x (third_at (ds b) x)
  th_at b x a = ap (λ (o : Option Whole). (or_nothing o).third) (links_at b x a)

  number_at : (b x : ℕ) → At b x → u.number x ≡ b
  unfolding start
  number_at b x a = holder_is lims m sound b x a.below a.held_there

  in_start : (x : ℕ) → In x (serials D) → In x u.darts
  unfolding start
  in_start x h = in_sorted (serials D) x h

  start_in_mesh : (x : ℕ) → In x u.darts → In x (serials D)
  unfolding start
  start_in_mesh x h = sorted_in (serials D) x h

  here_at : (b x : ℕ) → At b x → In x u.darts
  here_at b x a = in_start x (home_at b x a).in_mesh

  where_at : (x : ℕ) → In x u.darts → (b : ℕ) × At b x
  where_at x h = let q = homes m x (start_in_mesh x h) in (q.0, record { below = q.1; held_there = q.2 })

  next_of_at : (b x : ℕ) → At b x → At b (nx u x)
  next_of_at b x a = record { below = a.below; held_there = rw (nx_at b x a) ((L b a.below).next_in_block x a.held_there) }

  opposite_of_at : (b x : ℕ) → At b x → At b (op u x)
  opposite_of_at b x a = record { below = a.below; held_there = rw (op_at b x a) ((L b a.below).opposite_in_block x a.held_there) }

  positive_at : (b x : ℕ) → At b x → (0 < x) × (x < serial_bound)
  unfolding dart_in_range
  positive_at b x a =
      let q = test_at dart_in_range b x (ranges_of (lims b) (block_at m b) (sound_at b a.below).ranges).each_dart a in
      let two = and_left (leb 1 (dart_at (ds b) x).serial && ltb (dart_at (ds b) x).serial serial_bound) _ q in
      let s = serial_at b x a in
      (rw s at (leb-true 1 (dart_at (ds b) x).serial (and_left _ _ two)), rw s at (ltb-true (dart_at (ds b) x).serial serial_bound (and_right (leb 1 (dart_at (ds b) x).serial) _ two)))

  range_at : (b x : ℕ) → At b x → third_in_range (third_at (ds b) x) ≡ true
  unfolding dart_in_range
  range_at b x a =
      and_right (leb 1 (dart_at (ds b) x).serial && ltb (dart_at (ds b) x).serial serial_bound) _
      (test_at dart_in_range b x (ranges_of (lims b) (block_at m b) (sound_at b a.below).ranges).each_dart a)

  -- SEWN
  third_test : (b x : ℕ) → At b x → third_right (ds b) (dart_at (ds b) x) (third_at (ds b) x) ≡ true
  unfolding thirds_right
  third_test b x a = test_at (λ d. third_right (ds b) d d.third) b x (sound_at b a.below).thirds a

  record Sewn (b x y : ℕ) : Type 0 where
    there : At b y
    back : third_at (ds b) y ≡ sewn x
    differs : y ≢ x
    after_third : ℕ
    next_sewn : third_at (ds b) (next_in (ds b) x) ≡ sewn after_third
    runs_against : next_in (ds b) after_third ≡ y

  sewn_at : (b x y : ℕ) → At b x → third_at (ds b) x ≡ sewn y → Sewn b x y
  unfolding third_right
  sewn_at b x y a e =
      let d = dart_at (ds b) x in
      let s = serial_at b x a in
      let q : third_right (ds b) d (sewn y) ≡ true = subst (λ (t : Third). third_right (ds b) d t ≡ true) e (third_test b x a) in
      let one = held (ds b) y in
      let two = one && is_sewn_to d.serial (third_at (ds b) y) in
      let three = two && not (eqb y d.serial) in
      let q3 = and_left three _ q in
      let q2 = and_left two _ q3 in
      let z = along_is (ds b) y (third_at (ds b) d.next) (and_right three _ q) in
      record {
        there = record { below = a.below; held_there = and_left one _ q2 };
        back = sewn_to_is d.serial (third_at (ds b) y) (and_right one _ q2) ∙ ap sewn s;
        differs = λ w. eqb-false y d.serial (not-true _ (and_right two _ q3)) (w ∙ sym s);
        after_third = z.0;
        next_sewn = z.1;
        runs_against = z.2;
      }

  -- CRITICAL
  same_labels : (l n : Label) → third_in_range (critical 0 l) ≡ true → third_in_range (critical 0 n) ≡ true → code l ≡ code n → l ≡ n
  same_labels l n p q e =
      let one = range_of l p in
      let two = range_of n q in
      sym (label_back l one.0 one.1) ∙ ap label_in e ∙ label_back n two.0 two.1
    where
      range_of : (l : Label) → third_in_range (critical 0 l) ≡ true → (l.number < 2 ^ 32) × (l.position ≤ 4095)
      range_of l p =
          let low = leb 0 15 && leb l.maker 15 in
          (ltb-true l.number (2 ^ 32) (and_right low _ (and_left (low && ltb l.number (2 ^ 32)) _ p)), leb-true l.position 4095 (and_right (low && ltb l.number (2 ^ 32)) _ p))

  drop_other : (o : ℕ) (l : Label) → third_in_range (critical o l) ≡ true → third_in_range (critical 0 l) ≡ true
  drop_other o l h =
      let a = leb o 15 in
      let b = a && leb l.maker 15 in
      let c = b && ltb l.number (2 ^ 32) in
      let hc = and_left c _ h in
      let hb = and_left b _ hc in
      and_intro (and_intro (and_intro refl (and_right a _ hb)) (and_right b _ hc)) (and_right c _ h)

  record Mate (b x o : ℕ) (l : Label) : Type 0 where
    mate : ℕ
    there : At o mate
    other_block : o ≢ b
    names_back : third_at (ds o) mate ≡ critical b l
    two_only : length (keep (λ c. has_label l c.third) D) ≡ 2
    along : share_label (third_at (ds b) (next_in (ds b) x)) (third_at (ds o) (previous_in (ds o) mate)) ≡ true
    found_by_label : labelled l (ds o) ≡ dart_at (ds o) mate

  paired_test : (b x : ℕ) → At b x → paired m (block_at m b) (dart_at (ds b) x) (third_at (ds b) x) ≡ true
  unfolding labels_paired block_at
  paired_test b x a = test_at (λ d. paired m (block_at m b) d d.third) b x (all_at (λ c. all (λ d. paired m c d d.third) c.darts) no_block m b P.paired_labels a.below) a

  label_test : (b x : ℕ) → At b x → label_right (block_at m b).number (block_at m b).counter (third_at (ds b) x) ≡ true
  unfolding labels_right
  label_test b x a = test_at (λ d. label_right (block_at m b).number (block_at m b).counter d.third) b x (and_left _ _ (sound_at b a.below).labels) a

  -- a dart that is found is in a block of the mesh
  in_block : (o y : ℕ) → In y (serials (ds o)) → o < k
  unfolding block_at no_block
  in_block o y h = by_cases (ltb o k) (λ t. ltb-true o k t) (λ t. absurd (true≢false (sym (subst (λ (c : Block). In y (serials c.darts)) (get_or-eq_default m no_block (ltb-false o k t)) h))))

  mate_at : (b x o : ℕ) (l : Label) → At b x → third_at (ds b) x ≡ critical o l → Mate b x o l
  unfolding paired labelled
  mate_at b x o l a e = go (find (λ d. label_key d.third) (suc (code l)) (ds o)) refl
    where
      q : paired m (block_at m b) (dart_at (ds b) x) (critical o l) ≡ true
      q = subst (λ (t : Third). paired m (block_at m b) (dart_at (ds b) x) t ≡ true) e (paired_test b x a)

      count_test : Bool
      count_test = eqb (length (keep (λ c. has_label l c.third) D)) 2

      two : (count_test && is_critical_with (block_at m b).number (labelled l (ds o)).third) ≡ true
      two = and_left (count_test && is_critical_with (block_at m b).number (labelled l (ds o)).third) _ q

      names : is_critical_with b (labelled l (ds o)).third ≡ true
      names = subst (λ (n : ℕ). is_critical_with n (labelled l (ds o)).third ≡ true) (block_number lims m sound b a.below) (and_right count_test _ two)

      along_test : share_label (third_at (ds b) (next_in (ds b) x)) (third_at (ds o) (previous_in (ds o) (labelled l (ds o)).serial)) ≡ true
      along_test = and_right (count_test && is_critical_with (block_at m b).number (labelled l (ds o)).third) _ q

      differs : o ≢ b
      differs w =
          let t : label_right (block_at m b).number (block_at m b).counter (critical o l) ≡ true =
          subst (λ (t : Third). label_right (block_at m b).number (block_at m b).counter t ≡ true) e (label_test b x a)
          in
          eqb-false o (block_at m b).number (not-true _ (and_left (not (eqb o (block_at m b).number)) _ t)) (w ∙ sym (block_number lims m sound b a.below))

      go : (f : Option Dart) → find (λ d. label_key d.third) (suc (code l)) (ds o) ≡ f → Mate b x o l
      go none f = absurd (true≢false (sym names ∙ ap (λ (w : Option Dart). is_critical_with b (or_no_dart w).third) f ∙ (unfold no_dart in refl)))
      go (some d) f =
          let inside = found_in (λ d. label_key d.third) (suc (code l)) (ds o) d f in
          let lo = in_block o d.serial inside in
          let own = found_self (λ d. label_key d.third) (suc (code l)) (ds o) d (ascending_distinct (serials (ds o)) (ranges_of (lims o) (block_at m o) (sound_at o lo).ranges).in_order) f in
          let is-d : labelled l (ds o) ≡ d = ap or_no_dart f in
          let ao : At o d.serial = record { below = lo; held_there = inside } in
          let c = critical_is b d.third (subst (λ (z : Dart). is_critical_with b z.third ≡ true) is-d names) in
          let key : label_key d.third ≡ suc (code l) = found_key (λ d. label_key d.third) (suc (code l)) (ds o) d f in
          let codes : suc (code c.0) ≡ suc (code l) = ap label_key (sym c.1) ∙ key in
          let rd : third_in_range (critical b c.0) ≡ true = subst (λ (t : Third). third_in_range t ≡ true) (ap (λ (z : Dart). z.third) own ∙ c.1) (range_at o d.serial ao) in
          let rx : third_in_range (critical o l) ≡ true = subst (λ (t : Third). third_in_range t ≡ true) e (range_at b x a) in
          let same : c.0 ≡ l = same_labels c.0 l (drop_other b c.0 rd) (drop_other o l rx) (omega arith) in
          record {
            mate = d.serial;
            there = ao;
            other_block = differs;
            names_back = ap (λ (z : Dart). z.third) own ∙ c.1 ∙ ap (critical b) same;
            two_only = eqb-true _ 2 (and_left count_test _ two);
            along = subst (λ (z : Dart). share_label (third_at (ds b) (next_in (ds b) x)) (third_at (ds o) (previous_in (ds o) z.serial)) ≡ true) is-d along_test;
            found_by_label = is-d ∙ sym own;
          }

  -- WHO HAS A LABEL
  whole_table : map (dart_at D) (serials D) ≡ D
  whole_table = self_table D D (distinct_all lims m sound) (λ d f. f)

  at_whole : (b x : ℕ) → At b x → dart_at D x ≡ dart_at (ds b) x
  unfolding dart_at
  at_whole b x a = ap or_no_dart (home_at b x a).looked_up

  abbrev bears : Label → ℕ → Bool
  bears l z = has_label l (third_at D z)

  two_bear : (l : Label) → length (keep (λ c. has_label l c.third) D) ≡ 2 → length (keep (bears l) (serials D)) ≡ 2
  two_bear l h =
      sym (length-map (keep (bears l) (serials D)) (dart_at D))
      ∙ ap length (sym (keep_map (λ c. has_label l c.third) (dart_at D) (serials D)))
      ∙ ap (λ (t : List Dart). length (keep (λ c. has_label l c.third) t)) whole_table ∙ h

  bears_at : (b x : ℕ) (o : ℕ) (l : Label) → At b x → third_at (ds b) x ≡ critical o l → bears l x ≡ true
  bears_at b x o l a e = ap (has_label l) (ap (λ (d : Dart). d.third) (at_whole b x a) ∙ e) ∙ eq-eqb (suc (code l)) (suc (code l)) refl

  -- only x and its mate
  only_two : (b x o : ℕ) (l : Label) → At b x → third_at (ds b) x ≡ critical o l → (w : Mate b x o l) → (z : ℕ) → In z (serials D) → bears l z ≡ true → (x ≡ z) ⊎ (w.mate ≡ z)
  only_two b x o l a e w z hz pz = one_of_two (bears l) x w.mate z (serials D) (two_bear l w.two_only) (home_at b x a).in_mesh (home_at o w.mate w.there).in_mesh hz
      (bears_at b x o l a e) (bears_at o w.mate b l w.there w.names_back) pz
      (λ q. w.other_block (one_home lims m sound o b x w.there.below a.below (in_eq x w.mate (serials (ds o)) q w.there.held_there) a.held_there))

  other_found : (l : Label) (x y : ℕ) (es : List Dart) → any (λ d. has_label l d.third && not (eqb d.serial x)) es ≡ true
      → ((d : Dart) → find (λ e. e.serial) d.serial es ≡ some d → has_label l d.third ≡ true → d.serial ≢ x → d.serial ≡ y) → distinct (serials es) ≡ true → other_with l x es ≡ y
  unfolding other_with
  other_found l x y [] h only d = absurd (true≢false (sym h))
  other_found l x y (c ∷ es) h only d = by_cases (has_label l c.third && not (eqb c.serial x))
      (λ t. rw t (only c (rw (eq-eqb c.serial c.serial refl)) (and_left _ _ t) (eqb-false c.serial x (not-true _ (and_right (has_label l c.third) _ t)))))
      (λ t. rw t (other_found l x y es (rw t at h) (λ e f. only e (later e f)) (and_right (not (mem c.serial (serials es))) _ d)))
    where
      later : (e : Dart) → find (λ z. z.serial) e.serial es ≡ some e → find (λ z. z.serial) e.serial (c ∷ es) ≡ some e
      later e f = by_cases (eqb e.serial c.serial)
          (λ t. absurd
          (true≢false
          (sym
          (in_eq c.serial e.serial (serials es) (sym (eqb-true e.serial c.serial t)) (found_there e.serial es e f))
          ∙ not-true (mem c.serial (serials es)) (and_left _ _ d))))
          (λ t. rw t f)

  any_of : (p : Dart → Bool) (x : ℕ) (es : List Dart) (d : Dart) → find (λ e. e.serial) x es ≡ some d → p d ≡ true → any p es ≡ true
  any_of p x [] d f t = absurd (none-ne-some d f)
  any_of p x (c ∷ es) d f t = by_cases (eqb x c.serial)
      (λ q. or_left (p c) _ (subst (λ (z : Dart). p z ≡ true) (sym (some-injective c d (rw q at f))) t))
      (λ q. or_right (p c) _ (any_of p x es d (rw q at f) t))

  at_found : (x : ℕ) (d : Dart) → find (λ z. z.serial) x D ≡ some d → dart_at D x ≡ d
  unfolding dart_at
  at_found x d f = ap or_no_dart f

  -- the third link of a critical dart leads to its mate
  th_critical : (b x o : ℕ) (l : Label) → (a : At b x) → third_at (ds b) x ≡ critical o l → (w : Mate b x o l) → th u x ≡ w.mate
  th_critical b x o l a e w = th_at b x a ∙ ap (third_of m x) e ∙ other_found l x w.mate D there_is unique (distinct_all lims m sound)
    where
      apart : w.mate ≢ x
      apart q = w.other_block (one_home lims m sound o b x w.there.below a.below (in_eq x w.mate (serials (ds o)) (sym q) w.there.held_there) a.held_there)

      there_is : any (λ d. has_label l d.third && not (eqb d.serial x)) D ≡ true
      there_is = any_of _ w.mate D (dart_at (ds o) w.mate) ((home_at o w.mate w.there).looked_up ∙ found_at o w.mate w.there)
          (rw w.names_back (and_intro (eq-eqb (suc (code l)) (suc (code l)) refl) (rw (serial_at o w.mate w.there) (not_equal w.mate x apart))))

      unique : (d : Dart) → find (λ z. z.serial) d.serial D ≡ some d → has_label l d.third ≡ true → d.serial ≢ x → d.serial ≡ w.mate
      unique d f h n = pick (only_two b x o l a e w d.serial (found_there d.serial D d f) (bear d f h))
        where
          pick : (x ≡ d.serial) ⊎ (w.mate ≡ d.serial) → d.serial ≡ w.mate
          pick (inl q) = absurd (n (sym q))
          pick (inr q) = sym q

          bear : (d : Dart) → find (λ z. z.serial) d.serial D ≡ some d → has_label l d.third ≡ true → bears l d.serial ≡ true
          bear d f h = subst (λ (z : Dart). has_label l z.third ≡ true) (sym (at_found d.serial d f)) h

  th_sewn : (b x y : ℕ) → (a : At b x) → third_at (ds b) x ≡ sewn y → th u x ≡ y
  th_sewn b x y a e = th_at b x a ∙ ap (third_of m x) e

  th_free : (b x : ℕ) → (a : At b x) → third_at (ds b) x ≡ free → th u x ≡ 0
  th_free b x a e = th_at b x a ∙ ap (third_of m x) e

  -- to go by a dart's third link
  by_third : (C : Type 0) (b x : ℕ) → At b x → (third_at (ds b) x ≡ free → C) → ((y : ℕ) → third_at (ds b) x ≡ sewn y → C) → ((o : ℕ) (l : Label) → third_at (ds b) x ≡ critical o l → C) → C
  by_third C b x a f s c = go (third_at (ds b) x) refl
    where
      go : (t : Third) → third_at (ds b) x ≡ t → C
      go free e = f e
      go (sewn y) e = s y e
      go (critical o l) e = c o l e

  mate_crosses : (b x o : ℕ) (l : Label) → (a : At b x) → (e : third_at (ds b) x ≡ critical o l) → Crossing u x
  mate_crosses b x o l a e =
      let w = mate_at b x o l a e in
      let t = th_critical b x o l a e w in
      record {
        here = here_at b x a;
        linked = λ z. let p = (positive_at o w.mate w.there).0 in let q = sym t ∙ z in omega arith;
        other = λ q. w.other_block (sym (number_at o w.mate w.there) ∙ ap u.number (sym t) ∙ q ∙ number_at b x a);
      }

  -- a mate's third link leads back
  mate_back : (b x o : ℕ) (l : Label) → (a : At b x) → third_at (ds b) x ≡ critical o l → (w : Mate b x o l) → th u w.mate ≡ x
  mate_back b x o l a e w =
      let w' = mate_at o w.mate b l w.there w.names_back in
      th_critical o w.mate b l w.there w.names_back w'
      ∙ pick
      (only_two b x o l a e w w'.mate (home_at b w'.mate w'.there).in_mesh
      (bears_at b w'.mate o l w'.there w'.names_back)) w' refl
    where
      pick : {y : ℕ} → (x ≡ y) ⊎ (w.mate ≡ y) → (w' : Mate o w.mate b l) → y ≡ w'.mate → w'.mate ≡ x
      pick (inl q) w' s = sym s ∙ sym q
      pick (inr q) w' s =
          absurd
          (w.other_block
          (one_home lims m sound o b w.mate w.there.below w'.there.below w.there.held_there
          (in_eq w.mate w'.mate (serials (ds b)) (q ∙ s) w'.there.held_there)))

  -- THE WHOLE MAP IS SOUND
  third_in_map_at : (b x : ℕ) → At b x → th u x ≢ 0 → In (th u x) u.darts
  third_in_map_at b x a t = by_third (In (th u x) u.darts) b x a
      (λ e. absurd (t (th_free b x a e)))
      (λ y e. rw (th_sewn b x y a e) (here_at b y (sewn_at b x y a e).there))
      (λ o l e. let w = mate_at b x o l a e in rw (th_critical b x o l a e w) (here_at o w.mate w.there))

  third_twice_at : (b x : ℕ) → At b x → th u x ≢ 0 → th u (th u x) ≡ x
  third_twice_at b x a t = by_third (th u (th u x) ≡ x) b x a
      (λ e. absurd (t (th_free b x a e)))
      (λ y e. let s = sewn_at b x y a e in ap (th u) (th_sewn b x y a e) ∙ th_sewn b y x s.there s.back)
      (λ o l e. let w = mate_at b x o l a e in ap (th u) (th_critical b x o l a e w) ∙ mate_back b x o l a e w)

  third_other_at : (b x : ℕ) → At b x → th u x ≢ x
  third_other_at b x a q = by_third ⊥ b x a
      (λ e. let p = (positive_at b x a).0 in let z = sym (th_free b x a e) ∙ q in omega arith)
      (λ y e. (sewn_at b x y a e).differs (sym (th_sewn b x y a e) ∙ q))
      (λ o l e. (mate_crosses b x o l a e).other (ap u.number q))

  next_third : (b x : ℕ) → At b x → third_at (ds b) (nx u x) ≡ third_at (ds b) (next_in (ds b) x)
  next_third b x a = ap (third_at (ds b)) (nx_at b x a)

  -- next of a free dart is free, and so on
  free_next : (b x : ℕ) → At b x → third_at (ds b) x ≡ free → third_at (ds b) (next_in (ds b) x) ≡ free
  unfolding third_right
  free_next b x a e = free_is _ (subst (λ (t : Third). third_right (ds b) (dart_at (ds b) x) t ≡ true) e (third_test b x a))

  critical_next : (b x o : ℕ) (l : Label) → At b x → third_at (ds b) x ≡ critical o l → (n : Label) × (third_at (ds b) (next_in (ds b) x) ≡ critical o n)
  unfolding third_right
  critical_next b x o l a e = critical_is o _ (subst (λ (t : Third). third_right (ds b) (dart_at (ds b) x) t ≡ true) e (third_test b x a))

  third_ends_at : (b x : ℕ) → At b x → th u x ≡ 0 → th u (nx u x) ≡ 0
  third_ends_at b x a z = by_third (th u (nx u x) ≡ 0) b x a
      (λ e. th_free b (nx u x) (next_of_at b x a) (next_third b x a ∙ free_next b x a e))
      (λ y e. absurd (let p = (positive_at b y (sewn_at b x y a e).there).0 in let q = sym (th_sewn b x y a e) ∙ z in omega arith))
      (λ o l e. absurd ((mate_crosses b x o l a e).linked z))

  third_goes_at : (b x : ℕ) → At b x → th u x ≢ 0 → th u (nx u x) ≢ 0
  third_goes_at b x a t z = by_third ⊥ b x a
      (λ e. t (th_free b x a e))
      (λ y e. let s = sewn_at b x y a e in
      let n = sewn_at b (nx u x) s.after_third (next_of_at b x a) (next_third b x a ∙ s.next_sewn) in
      let p = (positive_at b s.after_third n.there).0 in
      let q = sym (th_sewn b (nx u x) s.after_third (next_of_at b x a) (next_third b x a ∙ s.next_sewn)) ∙ z in
      omega arith)
      (λ o l e. let n = critical_next b x o l a e in (mate_crosses b (nx u x) o n.0 (next_of_at b x a) (next_third b x a ∙ n.1)).linked z)

  -- the mate of the next dart is the one before the mate
  mate_next : (b x o : ℕ) (l : Label) → (a : At b x) → (e : third_at (ds b) x ≡ critical o l) → nx u (th u (nx u x)) ≡ th u x
  mate_next b x o l a e =
      let w = mate_at b x o l a e in
      let n = critical_next b x o l a e in
      let an = next_of_at b x a in
      let en = next_third b x a ∙ n.1 in
      let wn = mate_at b (nx u x) o n.0 an en in
      let before = previous_in (ds o) w.mate in
      let ab : At o before = record { below = w.there.below; held_there = (L o w.there.below).previous_in_block w.mate w.there.held_there } in
      let keys : label_key (third_at (ds o) before) ≡ suc (code n.0) =
      sym (eqb-true _ _ (and_right (ltb 0 (label_key (third_at (ds b) (next_in (ds b) x)))) _ w.along)) ∙ ap label_key n.1 in
      let bearing : bears n.0 before ≡ true = ap (has_label n.0) (ap (λ (d : Dart). d.third) (at_whole o before ab)) ∙ eq-eqb (suc (code n.0)) _ (sym keys) in
      let is-mate : wn.mate ≡ before = pick (only_two b (nx u x) o n.0 an en wn before (home_at o before ab).in_mesh bearing) an ab w.other_block in
      ap (nx u) (th_critical b (nx u x) o n.0 an en wn ∙ is-mate) ∙ nx_at o before ab ∙ (L o w.there.below).next_previous w.mate w.there.held_there ∙ sym (th_critical b x o l a e w)
    where
      pick : {y z c : ℕ} → (y ≡ z) ⊎ (c ≡ z) → At b y → At o z → o ≢ b → c ≡ z
      pick {y} {z} {c} (inl q) ay az ne = absurd (ne (one_home lims m sound o b z az.below ay.below az.held_there (in_eq z y (serials (ds b)) (sym q) ay.held_there)))
      pick (inr q) ay az ne = q

  third_next_at : (b x : ℕ) → At b x → th u x ≢ 0 → nx u (th u (nx u x)) ≡ th u x
  third_next_at b x a t = by_third (nx u (th u (nx u x)) ≡ th u x) b x a
      (λ e. absurd (t (th_free b x a e)))
      (λ y e. let s = sewn_at b x y a e in
      let an = next_of_at b x a in
      let en = next_third b x a ∙ s.next_sewn in
      let n = sewn_at b (nx u x) s.after_third an en in
      ap (nx u) (th_sewn b (nx u x) s.after_third an en) ∙ nx_at b s.after_third n.there ∙ s.runs_against ∙ sym (th_sewn b x y a e))
      (λ o l e. mate_next b x o l a e)

  -- points
  points_test : (b x : ℕ) → At b x
      → (same_point (dart_at (ds b) x).point (dart_at (ds b) (next_in (ds b) (dart_at (ds b) x).opposite)).point
      && sewn_points (ds b) (dart_at (ds b) x) (third_at (ds b) x)) ≡ true
  unfolding points_agree
  points_test b x a = test_at (λ d. same_point d.point (dart_at (ds b) (next_in (ds b) d.opposite)).point && sewn_points (ds b) d d.third) b x (sound_at b a.below).points a

  point_ring_at : (b x : ℕ) → At b x → pt u x ≡ pt u (nx u (op u x))
  point_ring_at b x a =
      let ao = opposite_of_at b x a in
      let an = next_of_at b (op u x) ao in
      let q = same_point_is _ _ (and_left (same_point (dart_at (ds b) x).point (dart_at (ds b) (next_in (ds b) (dart_at (ds b) x).opposite)).point) _ (points_test b x a)) in
      pt_at b x a ∙ q ∙ ap (λ (y : ℕ). (dart_at (ds b) y).point) (ap (next_in (ds b)) (sym (op_at b x a)) ∙ sym (nx_at b (op u x) ao)) ∙ sym (pt_at b (nx u (op u x)) an)

  across_test : (b x : ℕ) → At b x → same_across m (dart_at (ds b) x) (third_at (ds b) x) ≡ true
  unfolding points_across block_at
  across_test b x a = test_at (λ d. same_across m d d.third) b x (all_at (λ c. all (λ d. same_across m d d.third) c.darts) no_block m b P.points a.below) a

  point_third_at : (b x : ℕ) → At b x → th u x ≢ 0 → pt u x ≡ pt u (nx u (th u x))
  unfolding same_across
  point_third_at b x a t = by_third (pt u x ≡ pt u (nx u (th u x))) b x a
      (λ e. absurd (t (th_free b x a e)))
      (λ y e. let s = sewn_at b x y a e in
      let q =
      same_point_is _ _
      (subst (λ (w : Third). sewn_points (ds b) (dart_at (ds b) x) w ≡ true) e
      (and_right (same_point (dart_at (ds b) x).point (dart_at (ds b) (next_in (ds b) (dart_at (ds b) x).opposite)).point) _
      (points_test b x a)))
      in
      pt_at b x a ∙ q ∙ ap (λ (z : ℕ). (dart_at (ds b) z).point) (sym (nx_at b y s.there))
      ∙ sym (pt_at b (nx u y) (next_of_at b y s.there)) ∙ ap (λ (z : ℕ). pt u (nx u z)) (sym (th_sewn b x y a e)))
      (λ o l e. let w = mate_at b x o l a e in
      let q = same_point_is _ _ (subst (λ (z : Third). same_across m (dart_at (ds b) x) z ≡ true) e (across_test b x a)) in
      pt_at b x a ∙ q ∙ ap (λ (d : Dart). (dart_at (ds o) d.next).point) w.found_by_label ∙ ap (λ (z : ℕ). (dart_at (ds o) z).point) (sym (nx_at o w.mate w.there))
      ∙ sym (pt_at o (nx u w.mate) (next_of_at o w.mate w.there)) ∙ ap (λ (z : ℕ). pt u (nx u z)) (sym (th_critical b x o l a e w)))

  finite_at : (b x : ℕ) → At b x → finite (pt u x) ≡ true
  unfolding coordinates_finite
  finite_at b x a = ap finite (pt_at b x a) ∙ test_at (λ d. finite d.point) b x (sound_at b a.below).finite a

  inside_at : (x : ℕ) → In x u.darts → (w : Whole) × (u.links x ≡ some w)
  inside_at x h = let q = where_at x h in (_, links_at q.0 x q.1)

  outside_at : (x : ℕ) → mem x u.darts ≡ false → u.links x ≡ none
  unfolding start whole_map
  outside_at x h = rw (absent_not_found x D (go (mem x (serials D)) refl))
    where
      go : (o : Bool) → mem x (serials D) ≡ o → mem x (serials D) ≡ false
      go false e = e
      go true e = absurd (true≢false (sym (in_sorted (serials D) x e) ∙ h))

  onto_at : (x : ℕ) → In x u.darts → (y : ℕ) × In y u.darts × (nx u y ≡ x)
  onto_at x h =
      let q = where_at x h in
      let b = q.0 in
      let l = L b q.1.below in
      let y = previous_in (ds b) x in
      let ay : At b y = record { below = q.1.below; held_there = l.previous_in_block x q.1.held_there } in
      (y, here_at b y ay, nx_at b y ay ∙ l.next_previous x q.1.held_there)

  one_at : (x y : ℕ) → In x u.darts → In y u.darts → nx u x ≡ nx u y → x ≡ y
  one_at x y h n e =
      let a = where_at x h in
      let c = where_at y n in
      let same : a.0 ≡ c.0 = one_home lims m sound a.0 c.0 (nx u x) a.1.below c.1.below (next_of_at a.0 x a.1).held_there
      (in_eq (nx u x) (nx u y) (serials (ds c.0)) e (next_of_at c.0 y c.1).held_there) in
      let ay : At a.0 y = subst (λ (b : ℕ). At b y) (sym same) c.1 in
      let l = L a.0 a.1.below in
      sym (l.previous_next x a.1.held_there) ∙ ap (previous_in (ds a.0)) (sym (nx_at a.0 x a.1) ∙ e ∙ nx_at a.0 y ay) ∙ l.previous_next y ay.held_there

  start_map : Map u
  start_map = record {
    ordered = order;
    inside = inside_at;
    outside = outside_at;
    positive = λ x h. let q = where_at x h in (positive_at q.0 x q.1).0;
    serial_small = λ x h. let q = where_at x h in (positive_at q.0 x q.1).1;
    next_in_map = λ x h. let q = where_at x h in here_at q.0 (nx u x) (next_of_at q.0 x q.1);
    next_onto = onto_at;
    next_one = one_at;
    opposite_in_map = λ x h. let q = where_at x h in here_at q.0 (op u x) (opposite_of_at q.0 x q.1);
    opposite_twice = λ x h. let q = where_at x h in let l = L q.0 q.1.below in
        op_at q.0 (op u x) (opposite_of_at q.0 x q.1) ∙ ap (opposite_in (ds q.0)) (op_at q.0 x q.1) ∙ l.opposite_opposite x q.1.held_there;
    opposite_other = λ x h e. let q = where_at x h in (L q.0 q.1.below).opposite_other x q.1.held_there (sym (op_at q.0 x q.1) ∙ e);
    third_in_map = λ x h. let q = where_at x h in third_in_map_at q.0 x q.1;
    third_twice = λ x h. let q = where_at x h in third_twice_at q.0 x q.1;
    third_other = λ x h. let q = where_at x h in third_other_at q.0 x q.1;
    third_next = λ x h. let q = where_at x h in third_next_at q.0 x q.1;
    third_ends = λ x h. let q = where_at x h in third_ends_at q.0 x q.1;
    third_goes_on = λ x h. let q = where_at x h in third_goes_at q.0 x q.1;
    point_finite = λ x h. let q = where_at x h in finite_at q.0 x q.1;
    point_ring = λ x h. let q = where_at x h in point_ring_at q.0 x q.1;
    point_third = λ x h. let q = where_at x h in point_third_at q.0 x q.1;
    cell_next = λ x h. let q = where_at x h in number_at q.0 (nx u x) (next_of_at q.0 x q.1) ∙ sym (number_at q.0 x q.1);
    cell_opposite = λ x h. let q = where_at x h in number_at q.0 (op u x) (opposite_of_at q.0 x q.1) ∙ sym (number_at q.0 x q.1);
  }
    where
      order : ascending u.darts ≡ true
      order = unfold start in (sorted_ascends (serials D) (distinct_all lims m sound))

  -- THE LABELS
  pub start_label : ℕ → Label
  start_label x = label_or (third_at D x)

  label_at : (b x o : ℕ) (l : Label) → At b x → third_at (ds b) x ≡ critical o l → start_label x ≡ l
  unfolding start_label
  label_at b x o l a e = ap label_or (ap (λ (d : Dart). d.third) (at_whole b x a) ∙ e)

  -- a dart that crosses is critical
  record Critical (x : ℕ) : Type 0 where
    block : ℕ
    place : At block x
    other : ℕ
    label : Label
    is : third_at (ds block) x ≡ critical other label

  crossing_critical : (x : ℕ) → Crossing u x → Critical x
  crossing_critical x c =
      let q = where_at x c.here in
      let b = q.0 in
      let a = q.1 in
      by_third (Critical x) b x a
      (λ e. absurd (c.linked (th_free b x a e)))
      (λ y e. absurd (c.other (ap u.number (th_sewn b x y a e) ∙ number_at b y (sewn_at b x y a e).there ∙ sym (number_at b x a))))
      (λ o l e. record { block = b; place = a; other = o; label = l; is = e })

  made_test : (b x : ℕ) → At b x → made_before m (third_at (ds b) x) ≡ true
  unfolding makers_right block_at
  made_test b x a = test_at (λ d. made_before m d.third) b x (all_at (λ c. all (λ d. made_before m d.third) c.darts) no_block m b P.makers a.below) a

  made_at : (x : ℕ) (c : Critical x) → ((start_label x).maker < k) × ((start_label x).number < (block_at m (start_label x).maker).counter) × ((start_label x).position ≤ 4095)
  unfolding made_before
  made_at x c =
      let l = c.label in
      let t : made_before m (critical c.other l) ≡ true = subst (λ (z : Third). made_before m z ≡ true) c.is (made_test c.block x c.place) in
      let g : third_in_range (critical c.other l) ≡ true = subst (λ (z : Third). third_in_range z ≡ true) c.is (range_at c.block x c.place) in
      rw (label_at c.block x c.other l c.place c.is) (
        ltb-true l.maker k (and_left (ltb l.maker k) _ t),
        ltb-true l.number (block_at m l.maker).counter (and_right (ltb l.maker k) _ t),
        leb-true l.position 4095 (and_right (leb c.other 15 && leb l.maker 15 && ltb l.number (2 ^ 32)) _ g),
      )

  start_labelled : Labelled k u start_label
  unfolding start
  start_labelled = record {
    paired = λ x h. let c = crossing_critical x h in
        let w = mate_at c.block x c.other c.label c.place c.is in
        ap start_label (th_critical c.block x c.other c.label c.place c.is w)
        ∙ label_at c.other w.mate c.block c.label w.there w.names_back
        ∙ sym (label_at c.block x c.other c.label c.place c.is);
    apart = apart_labels;
    maker_small = λ x h. (made_at x (crossing_critical x h)).0;
    number_small = λ x h. (made_at x (crossing_critical x h)).1;
    position_small = λ x h. (made_at x (crossing_critical x h)).2;
  }
    where
      apart_labels : (x y : ℕ) → Crossing u x → Crossing u y → start_label x ≡ start_label y → (x ≡ y) ⊎ (th u x ≡ y)
      apart_labels x y hx hy e =
          let c = crossing_critical x hx in
          let d = crossing_critical y hy in
          let same : c.label ≡ d.label = sym (label_at c.block x c.other c.label c.place c.is) ∙ e ∙ label_at d.block y d.other d.label d.place d.is in
          let w = mate_at c.block x c.other c.label c.place c.is in
          let bearing : bears c.label y ≡ true = subst (λ (l : Label). bears l y ≡ true) (sym same) (bears_at d.block y d.other d.label d.place d.is) in
          go (th_critical c.block x c.other c.label c.place c.is w)
          (only_two c.block x c.other c.label c.place c.is w y (home_at d.block y d.place).in_mesh bearing)
        where
          go : {n : ℕ} → th u x ≡ n → (x ≡ y) ⊎ (n ≡ y) → (x ≡ y) ⊎ (th u x ≡ y)
          go t (inl q) = inl q
          go t (inr q) = inr (t ∙ q)

  -- THE MESH IS DESCRIBED
  dart_is : (b x : ℕ) → (a : At b x) → dart_at (ds b) x ≡ dart_by u start_label x
  unfolding dart_by
  dart_is b x a = λ n. record { serial = serial_at b x a n; next = sym (nx_at b x a) n; opposite = sym (op_at b x a) n; third = thirds n; point = sym (pt_at b x a) n }
    where
      thirds : third_at (ds b) x ≡ third_by u start_label x
      thirds = by_third (third_at (ds b) x ≡ third_by u start_label x) b x a
          (λ e. e ∙ sym (kind_free u start_label x (th_free b x a e)))
          (λ y e. let s = sewn_at b x y a e in
          let t = th_sewn b x y a e in
          e ∙ ap sewn (sym t)
          ∙ sym
          (kind_sewn u start_label x (λ z. let p = (positive_at b y s.there).0 in let q = sym t ∙ z in omega arith) (ap u.number t ∙ number_at b y s.there ∙ sym (number_at b x a))))
          (λ o l e. let w = mate_at b x o l a e in
          let c = mate_crosses b x o l a e in
          let number : o ≡ u.number (th u x) = sym (ap u.number (th_critical b x o l a e w) ∙ number_at o w.mate w.there) in
          e ∙ ap (λ (n : ℕ). critical n l) number ∙ ap (critical (u.number (th u x))) (sym (label_at b x o l a e)) ∙ sym (kind_critical u start_label x c.linked c.other))

  found_same : (b : ℕ) → b < k → (x : ℕ) → find (λ d. d.serial) x (ds b) ≡ find (λ d. d.serial) x (darts_by u start_label b)
  found_same b below x = by_cases (mem x (serials (ds b)))
      (λ h. let a : At b x = record { below = below; held_there = h } in
      found_at b x a ∙ ap {B = Option Dart} some (dart_is b x a) ∙ sym (found_by u start_label b x ∙ rw (here_at b x a, number_at b x a, eq-eqb b b refl)))
      (λ h. absent_not_found x (ds b) h ∙ sym (found_by u start_label b x ∙ rw (no_one h)))
    where
      no_one : mem x (serials (ds b)) ≡ false → (mem x u.darts && eqb (u.number x) b) ≡ false
      no_one h = go (mem x u.darts && eqb (u.number x) b) refl
        where
          go : (o : Bool) → (mem x u.darts && eqb (u.number x) b) ≡ o → (mem x u.darts && eqb (u.number x) b) ≡ false
          go false e = e
          go true e =
              let q = where_at x (and_left (mem x u.darts) _ e) in
              let same : q.0 ≡ b = sym (number_at q.0 x q.1) ∙ eqb-true (u.number x) b (and_right (mem x u.darts) _ e) in
              absurd (true≢false (sym (subst (λ (c : ℕ). In x (serials (ds c))) same q.1.held_there) ∙ h))

  darts_same : (b : ℕ) → b < k → ds b ≡ darts_by u start_label b
  darts_same b below =
      table_unique (ds b) (darts_by u start_label b) (ranges_of (lims b) (block_at m b) (sound_at b below).ranges).in_order
      (in_order_by u start_label b start_map.ordered) (found_same b below)

  block_same : (b : ℕ) → b < k → block_at m b ≡ block_by u start_label b
  unfolding block_by start
  block_same b below = λ n. record { number = block_number lims m sound b below n; counter = (block_at m b).counter; darts = darts_same b below n }

  pub described : m ≡ mesh_by k u start_label
  unfolding block_at
  described = ext_get_or no_block m (mesh_by k u start_label) (sym (length_tab (block_by u start_label) k)) (λ b h. block_same b h ∙ sym (getD_tab (block_by u start_label) k b no_block h))

  pub start_inv : Inv lims k u start_label
  start_inv = record {
    some_blocks = (block_counts lims m sound).0;
    few_blocks = (block_counts lims m sound).1;
    map_sound = start_map;
    labelled = start_labelled;
    in_a_block = λ x h. let q = where_at x h in rw (number_at q.0 x q.1) q.1.below;
    counts_small = λ b h. small b h;
    blocks_fit =
        λ b h. let a = (ranges_of (lims b) (block_at m b) (sound_at b h).ranges).few_darts in let c = ap length (darts_same b h)
        in let n = length-map (members u b) (dart_by u start_label) in omega arith;
  }
    where
      small : (b : ℕ) → b < k → u.count b < 2 ^ 32
      small b h = unfold start in (ranges_of (lims b) (block_at m b) (sound_at b h).ranges).counter_small
