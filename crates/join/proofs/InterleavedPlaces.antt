-- The block with new darts among its own, by places: where each dart stands, and what a caller may rest on to go on. Assumes nothing.
--   stands         each dart at its new place, with its links there
--   interleaved_sited    the memory is that of darts in ascending serial whose links are places
--   interleaved_block    the block that is read from it
use mathlib.Core.Path.{◌≡◌, refl, sym, ◌∙◌, ap, subst}
use mathlib.Core.Bool.{true}
use mathlib.Core.List.{List, map}
use mathlib.Core.Logic.{◌⊎◌, inl, inr, ⊎_elim}
use Prim.Native.Nat.{ℕ, ◌+◌, ◌/◌, ◌%◌, ◌≤◌, ◌<◌}
use native.Mathlib.Omega.{arith}
use lib.ListN.{length, get_or}
use borrow.Author.Tests.{eq-eqb}
use Rattle.model.specs.Lists.{distinct, tab}
use Rattle.model.specs.Values.{Dart, critical, sewn, no_dart}
use Rattle.model.specs.Cells.{serials, dart_at}
use Rattle.model.specs.Image.{count_in, column, is_sewn_word, is_critical_word, block_in, dart_in, dart_words, third_in, label_in}
use Rattle.model.specs.Arrival.{insert_all}
use Rattle.laws.specs.Order.{Ascending}
use Rattle.laws.proofs.Tests.{lt_or_ge}
use Rattle.laws.proofs.Members.{In}
use Rattle.laws.proofs.Tables.{one_place, dart_place}
use Rattle.theory.proofs.ImageLaws.{column_is, image_length}
use Rattle.columns.specs.Columns.{Kind, kind_free, kind_sewn, kind_critical}
use Rattle.columns.proofs.Thirds.{critical_unsewn, third_free, third_sewn, third_critical}
use Rattle.cells.specs.Places.{Within, Apart, Linked}
use Rattle.cells.proofs.Sited.{Sited, darts_in}
use Rattle.release.specs.LetGo.{moved_words}
use Rattle.place.proofs.Renumbering.{link_sewn, link_other}
use Rattle.release.specs.Asks.{Tabled}
use Rattle.join.specs.Interleave.{up, interleaved_at}
use Rattle.join.proofs.Interleaving.{by_table}
use Rattle.join.specs.Interleaved.{Drafted, MovedTo, Stands}
use Rattle.join.proofs.Inserted.{all_there}
use Rattle.join.proofs.InterleavedImage.{all_darts, darts_at, darts_ascend, darts_tab, old_words, new_words, both, image_both, darts_both}

-- ONE RECORD
moved_to : (m x : List ℕ) (t : ℕ → ℕ) (p q : ℕ) → ((g : ℕ) → g < 8 → column x g q ≡ get_or (moved_words t m p) g 0) → MovedTo m x t p q
unfolding moved_words
moved_to m x t p q e = record {
  serial = e 0 (omega arith);
  next = e 1 (omega arith);
  opposite = e 2 (omega arith);
  kind = e 3 (omega arith);
  link = e 4 (omega arith);
  on_x = e 5 (omega arith);
  on_y = e 6 (omega arith);
  on_z = e 7 (omega arith);
}

-- it is the same dart, where serials have moved alike
module _ {m x : List ℕ} {t : ℕ → ℕ} {p q : ℕ} (r : MovedTo m x t p q) where
  third_same : Kind (column m 3 p) (column m 4 p) → (column m 3 p ≡ 1 → column x 0 (t (column m 4 p)) ≡ column m 0 (column m 4 p))
      → third_in (column x 0) (column x 3 q) (column x 4 q) ≡ third_in (column m 0) (column m 3 p) (column m 4 p)
  third_same (kind_free e f) h = third_free (column x 0) (column x 3 q) (column x 4 q) (r.kind ∙ e) ∙ sym (third_free (column m 0) (column m 3 p) (column m 4 p) e)
  third_same (kind_sewn e) h =
      third_sewn (column x 0) (column x 3 q) (column x 4 q) (r.kind ∙ e)
      ∙ ap sewn (ap (column x 0) (r.link ∙ sym (link_sewn t (column m 3 p) (column m 4 p) (ap is_sewn_word e))) ∙ h e)
      ∙ sym (third_sewn (column m 0) (column m 3 p) (column m 4 p) e)
  third_same (kind_critical e f g) h =
      let same : column x 4 q ≡ column m 4 p = r.link ∙ sym (link_other t (column m 3 p) (column m 4 p) (critical_unsewn (column m 3 p) e)) in
      third_critical (column x 0) (column x 3 q) (column x 4 q) (ap is_critical_word r.kind ∙ e)
      ∙ (λ i. critical (r.kind i / 4) (label_in (same i)))
      ∙ sym (third_critical (column m 0) (column m 3 p) (column m 4 p) e)

  dart_same : Kind (column m 3 p) (column m 4 p) → column x 0 (t (column m 1 p)) ≡ column m 0 (column m 1 p) → column x 0 (t (column m 2 p)) ≡ column m 0 (column m 2 p)
      → (column m 3 p ≡ 1 → column x 0 (t (column m 4 p)) ≡ column m 0 (column m 4 p)) → dart_in x q ≡ dart_in m p
  dart_same kind next opposite link =
      let a = ap (column x 0) r.next ∙ next in
      let b = ap (column x 0) r.opposite ∙ opposite in
      let c = third_same kind link in
      λ i. record { serial = r.serial i; next = a i; opposite = b i; third = c i; point = record { x = r.on_x i; y = r.on_y i; z = r.on_z i } }

module _ {m c : List ℕ} {n k : ℕ} (a : Drafted m c n k) where
  abbrev s : ℕ → ℕ
  s = column m 0

  abbrev f : ℕ → ℕ
  f = column c 0

  abbrev to_old : ℕ → ℕ
  to_old = up s f k

  abbrev to_new : ℕ → ℕ
  to_new = up f s n

  abbrev x : List ℕ
  x = interleaved_at m n c k

  -- THE WORDS
  column_at : (t g : ℕ) → t < n + k → g < 8 → column x g t ≡ get_or (dart_words (serials (all_darts a)) (get_or (all_darts a) t no_dart)) g 0
  column_at t g h b = ap (λ (l : List ℕ). column l g t) (sym (image_both a)) ∙ column_is (length m) (both a) t g (omega (arith, (darts_at a).count)) b

  old_word : (p g : ℕ) → p < n → g < 8 → column x g (to_old p) ≡ get_or (moved_words to_old m p) g 0
  old_word p g h b = column_at (to_old p) g ((darts_at a).old_lt p h) b
      ∙ ap (λ (d : Dart). get_or (dart_words (serials (all_darts a)) d) g 0) ((darts_at a).old_at p h) ∙ ap (λ (l : List ℕ). get_or l g 0) (old_words a p h)

  new_word : (q g : ℕ) → q < k → g < 8 → column x g (to_new q) ≡ get_or (moved_words to_new c q) g 0
  new_word q g h b = column_at (to_new q) g ((darts_at a).new_lt q h) b
      ∙ ap (λ (d : Dart). get_or (dart_words (serials (all_darts a)) d) g 0) ((darts_at a).new_at q h) ∙ ap (λ (l : List ℕ). get_or l g 0) (new_words a q h)

  old_record : (p : ℕ) → p < n → MovedTo m x to_old p (to_old p)
  old_record p h = moved_to m x to_old p (to_old p) (λ g b. old_word p g h b)

  new_record : (q : ℕ) → q < k → MovedTo c x to_new q (to_new q)
  new_record q h = moved_to c x to_new q (to_new q) (λ g b. new_word q g h b)

  old_serial : (p : ℕ) → p < n → column x 0 (to_old p) ≡ s p
  old_serial p h = (old_record p h).serial

  new_serial : (q : ℕ) → q < k → column x 0 (to_new q) ≡ f q
  new_serial q h = (new_record q h).serial

  -- THE DARTS
  old_dart : (p : ℕ) → p < n → dart_in x (to_old p) ≡ dart_in m p
  old_dart p h = let b = a.interleaves.block in
      dart_same (old_record p h) (a.kinds p h) (old_serial (column m 1 p) (b.next_lt p h)) (old_serial (column m 2 p) (b.opposite_lt p h)) (λ e. old_serial (column m 4 p) (b.sewn_lt p h (ap is_sewn_word e)))

  new_dart : (q : ℕ) → q < k → dart_in x (to_new q) ≡ dart_in c q
  new_dart q h = let b = a.interleaves.draft in
      dart_same (new_record q h) (kind_free (a.free q h).0 (a.free q h).1) (new_serial (column c 1 q) (b.next_lt q h))
      (new_serial (column c 2 q) (b.opposite_lt q h)) (λ e. new_serial (column c 4 q) (b.sewn_lt q h (ap is_sewn_word e)))

  dart_is : (t : ℕ) → t < n + k → dart_in x t ≡ get_or (all_darts a) t no_dart
  dart_is t h = ⊎_elim
      (λ r. ap (dart_in x) r.2 ∙ old_dart r.0 r.1 ∙ sym ((darts_at a).old_at r.0 r.1) ∙ ap (λ (z : ℕ). get_or (all_darts a) z no_dart) (sym r.2))
      (λ r. ap (dart_in x) r.2 ∙ new_dart r.0 r.1 ∙ sym ((darts_at a).new_at r.0 r.1) ∙ ap (λ (z : ℕ). get_or (all_darts a) z no_dart) (sym r.2))
      ((darts_at a).from t h)

  serials_ascend : Ascending (n + k) (column x 0)
  serials_ascend t u l h = omega (arith, ap (λ (d : Dart). d.serial) (dart_is t (omega arith)), ap (λ (d : Dart). d.serial) (dart_is u h), darts_ascend a t u l h)

  -- THE PLACES
  -- places of one side ascend, since serials do
  places_ascend : (b : ℕ) (g to : ℕ → ℕ) → Ascending b g → ((p : ℕ) → p < b → column x 0 (to p) ≡ g p) → ((p : ℕ) → p < b → to p < n + k) → Ascending b to
  places_ascend b g to g-up same low p q l h = ⊎_elim (λ r. r) (λ r. absurd (not_after r)) (lt_or_ge (to p) (to q))
    where
      not_after : to q ≤ to p → ⊥
      not_after r = ⊎_elim
          (λ z. omega (arith, serials_ascend (to q) (to p) z (low p (omega arith)), same p (omega arith), same q h, g-up p q l h))
          (λ z. let e : to p ≡ to q = omega arith in omega (arith, ap (column x 0) e, same p (omega arith), same q h, g-up p q l h))
          (lt_or_ge (to q) (to p))

  old_ascend : Ascending n to_old
  old_ascend = places_ascend n s to_old a.interleaves.keys.s_up old_serial (darts_at a).old_lt

  new_ascend : Ascending k to_new
  new_ascend = places_ascend k f to_new a.interleaves.keys.f_up new_serial (darts_at a).new_lt

  never_meet : (p q : ℕ) → p < n → q < k → to_old p ≡ to_new q → ⊥
  never_meet p q h b e = a.interleaves.keys.differ p q h b (sym (old_serial p h) ∙ ap (column x 0) e ∙ new_serial q b)

  -- THE HEADER
  pub number_is : get_or x 0 0 ≡ get_or m 0 0
  unfolding interleaved_at
  number_is = refl

  pub counter_is : get_or x 1 0 ≡ get_or m 1 0
  unfolding interleaved_at
  counter_is = refl

  pub count_is : count_in x ≡ n + k
  unfolding interleaved_at
  count_is = refl

  pub size_is : length x ≡ length m
  size_is = ap length (sym (image_both a)) ∙ image_length (length m) (both a) (omega (arith, (darts_at a).count, a.interleaves.holds))

  -- THE LINKS of one kind, next or opposite, by their columns
  module _ (g : ℕ) (old-is : (p : ℕ) → p < n → column x g (to_old p) ≡ to_old (column m g p))
      (New-is : (q : ℕ) → q < k → column x g (to_new q) ≡ to_new (column c g q)) (old_in : Within n (column m g))
      (new_in : Within k (column c g)) where
    link_within : Within (n + k) (column x g)
    link_within t h = ⊎_elim
        (λ r. omega (arith, ap (column x g) r.2, old-is r.0 r.1, (darts_at a).old_lt (column m g r.0) (old_in r.0 r.1)))
        (λ r. omega (arith, ap (column x g) r.2, New-is r.0 r.1, (darts_at a).new_lt (column c g r.0) (new_in r.0 r.1)))
        ((darts_at a).from t h)

    link_apart : Apart n (column m g) → Apart k (column c g) → Apart (n + k) (column x g)
    link_apart old_one new_one t u h b e = go ((darts_at a).from t h) ((darts_at a).from u b)
      where
        go : ((p : ℕ) × (p < n) × (t ≡ to_old p)) ⊎ ((q : ℕ) × (q < k) × (t ≡ to_new q)) → ((p : ℕ) × (p < n) × (u ≡ to_old p)) ⊎ ((q : ℕ) × (q < k) × (u ≡ to_new q)) → t ≡ u
        go (inl y) (inl z) =
            let same : to_old (column m g y.0) ≡ to_old (column m g z.0) = sym (old-is y.0 y.1) ∙ sym (ap (column x g) y.2) ∙ e ∙ ap (column x g) z.2 ∙ old-is z.0 z.1 in
            y.2 ∙ ap to_old (old_one y.0 z.0 y.1 z.1 (one_place old_ascend (old_in y.0 y.1) (old_in z.0 z.1) same)) ∙ sym z.2
        go (inl y) (inr z) = absurd (never_meet (column m g y.0) (column c g z.0) (old_in y.0 y.1) (new_in z.0 z.1)
            (sym (old-is y.0 y.1) ∙ sym (ap (column x g) y.2) ∙ e ∙ ap (column x g) z.2 ∙ New-is z.0 z.1))
        go (inr y) (inl z) = absurd (never_meet (column m g z.0) (column c g y.0) (old_in z.0 z.1) (new_in y.0 y.1)
            (sym (old-is z.0 z.1) ∙ sym (ap (column x g) z.2) ∙ sym e ∙ ap (column x g) y.2 ∙ New-is y.0 y.1))
        go (inr y) (inr z) =
            let same : to_new (column c g y.0) ≡ to_new (column c g z.0) = sym (New-is y.0 y.1) ∙ sym (ap (column x g) y.2) ∙ e ∙ ap (column x g) z.2 ∙ New-is z.0 z.1 in
            y.2 ∙ ap to_new (new_one y.0 z.0 y.1 z.1 (one_place new_ascend (new_in y.0 y.1) (new_in z.0 z.1) same)) ∙ sym z.2

  sewn_within : (t : ℕ) → t < n + k → column x 3 t % 4 ≡ 1 → column x 4 t < n + k
  sewn_within t h e = ⊎_elim
      (λ r. let w = old_record r.0 r.1 in
      let sewn_here = eq-eqb (column m 3 r.0 % 4) 1 (omega (arith, ap (column x 3) r.2, w.kind)) in
      omega
      (arith, ap (column x 4) r.2, w.link, link_sewn to_old (column m 3 r.0) (column m 4 r.0) sewn_here, (darts_at a).old_lt (column m 4 r.0) (a.interleaves.block.sewn_lt r.0 r.1 sewn_here)))
      (λ r. let w = new_record r.0 r.1 in absurd (omega (arith, ap (column x 3) r.2, w.kind, (a.free r.0 r.1).0)))
      ((darts_at a).from t h)

  pub interleaved_linked : Linked x (n + k)
  interleaved_linked =
      let b = a.block_linked in
      let d = a.draft_linked in
      let old-next : (p : ℕ) → p < n → column x 1 (to_old p) ≡ to_old (column m 1 p) = λ p h. (old_record p h).next in
      let new_next : (q : ℕ) → q < k → column x 1 (to_new q) ≡ to_new (column c 1 q) = λ q h. (new_record q h).next in
      let old-opposite : (p : ℕ) → p < n → column x 2 (to_old p) ≡ to_old (column m 2 p) = λ p h. (old_record p h).opposite in
      let new_opposite : (q : ℕ) → q < k → column x 2 (to_new q) ≡ to_new (column c 2 q) = λ q h. (new_record q h).opposite in
      record {
        few = a.interleaves.fits;
        size = omega (arith, size_is, a.interleaves.holds);
        next_within = link_within 1 old-next new_next b.next_within d.next_within;
        next_apart = link_apart 1 old-next new_next b.next_within d.next_within b.next_apart d.next_apart;
        opposite_within = link_within 2 old-opposite new_opposite b.opposite_within d.opposite_within;
        opposite_apart = link_apart 2 old-opposite new_opposite b.opposite_within d.opposite_within b.opposite_apart d.opposite_apart;
        sewn_within = sewn_within;
      }

  site : Sited x
  site =
      let order = subst (λ (z : ℕ). Ascending z (column x 0)) (sym count_is) serials_ascend in
      let at : (p : ℕ) → p < count_in x → dart_at (darts_in x) (column x 0 p) ≡ dart_in x p = λ p h. dart_place (dart_in x) (count_in x) p order h in
      record {
        linked = subst (Linked x) (sym count_is) interleaved_linked;
        ascends = order;
        next_is = λ p h. sym (ap (λ (d : Dart). d.next) (at p h));
        opposite_is = λ p h. sym (ap (λ (d : Dart). d.opposite) (at p h));
        third_is = λ p h. ap (λ (d : Dart). d.third) (at p h);
      }

  -- the memory that the code leaves
  pub interleaved_sited : {y : List ℕ} → y ≡ x → Sited y
  interleaved_sited e = subst Sited (sym e) site

  -- THE TABLES
  standing : (old new : List ℕ) → Tabled to_old n old → Tabled to_new k new → Stands m c x n k old new
  standing old new o w = record {
    old_lt = λ p h. omega (arith, o p h, (darts_at a).old_lt p h);
    new_lt = λ q h. omega (arith, w q h, (darts_at a).new_lt q h);
    old_dart = λ p h. ap (dart_in x) (o p h) ∙ old_dart p h;
    new_dart = λ q h. ap (dart_in x) (w q h) ∙ new_dart q h;
    old_moved =
        λ p h. moved_to m x (λ y. get_or old y 0) p (get_or old p 0)
        (λ g b. ap (column x g) (o p h) ∙ old_word p g h b ∙ ap (λ (l : List ℕ). get_or l g 0) (sym (by_table m old to_old n p a.interleaves.block o h)));
    new_moved =
        λ q h. moved_to c x (λ y. get_or new y 0) q (get_or new q 0)
        (λ g b. ap (column x g) (w q h) ∙ new_word q g h b ∙ ap (λ (l : List ℕ). get_or l g 0) (sym (by_table c new to_new k q a.interleaves.draft w h)));
    old_up = λ p q l h. omega (arith, o p (omega arith), o q h, old_ascend p q l h);
    new_up = λ p q l h. omega (arith, w p (omega arith), w q h, new_ascend p q l h);
    apart = λ p q h b e. never_meet p q h b (sym (o p h) ∙ e ∙ w q b);
    every = λ t h. ⊎_elim (λ r. inl (r.0, r.1, r.2 ∙ sym (o r.0 r.1))) (λ r. inr (r.0, r.1, r.2 ∙ sym (w r.0 r.1))) ((darts_at a).from t h);
  }

  pub stands : (old new : List ℕ) {y : List ℕ} → y ≡ x → Tabled to_old n old → Tabled to_new k new → Stands m c y n k old new
  stands old new e o w = subst (λ (y : List ℕ). Stands m c y n k old new) (sym e) (standing old new o w)

  -- THE BLOCK that is read from it
  block_both : block_in x ≡ both a
  block_both =
      let darts : tab (dart_in x) (count_in x) ≡ all_darts a = ap (tab (dart_in x)) count_is ∙ darts_tab a (dart_in x) dart_is in
      λ i. record { number = number_is i; counter = counter_is i; darts = darts i }

pub interleaved_block : {m c : List ℕ} (a : Drafted m c (count_in m) (count_in c)) (ps : List ℕ) → distinct ps ≡ true → length ps ≡ count_in c → ((q : ℕ) → In q ps → q < count_in c)
    → block_in (interleaved_at m (count_in m) c (count_in c)) ≡ record { number = get_or m 0 0; counter = get_or m 1 0; darts = insert_all (map (dart_in c) ps) (block_in m).darts }
interleaved_block {m} {c} a ps once size low =
    block_both a
    ∙ ap (λ (l : List Dart). record { number = get_or m 0 0; counter = get_or m 1 0; darts = l })
    (sym (darts_both a ps once low (all_there (count_in c) ps once size low)))
