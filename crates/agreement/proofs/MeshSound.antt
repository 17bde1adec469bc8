-- The mesh that a sound state and a labelling describe is sound, and its whole map and cells are the state's. Assumes nothing.
use mathlib.Core.Path.{◌≡◌, refl, sym, ◌∙◌, ap}
use mathlib.Core.Logic.{◌⊎◌, inl, inr, ◌≢◌}
use mathlib.Core.Bool.{Bool, true, false, true≢false, cond, not, ◌&&◌}
use mathlib.Core.List.{List, [], ◌∷◌, map}
use mathlib.Core.Option.{Option, none, some}
use Prim.Native.Nat.{ℕ, zero, suc, ◌+◌, ◌<◌, ◌≤◌}
use native.Mathlib.Omega.{arith}
use native.Mathlib.Nat.{not-suc-le-zero, zero-add, add-zero}
use lib.Dec.{eqb}
use lib.ListN.{length, length-map}
use borrow.Author.Tests.{eqb-true, eqb-false, eq-eqb, lt-ltb, le-leb, not-true}
use Rattle.model.specs.Lists.{all, keep, concat, tab, concat_map, mem, distinct, find}
use Rattle.model.specs.Values.{Label, Third, Dart, Block, Limits, code, label_key, has_label, is_critical_with, or_no_dart, no_block}
use Rattle.model.specs.Cells.{serials, third_at, previous_in, labelled}
use Rattle.model.specs.Sound.{sound_block, block_at, all_darts, numbered_from, blocks_right, serials_distinct, share_label, paired, labels_paired, same_across, points_across, made_before, makers_right, Sound}
use Rattle.model.specs.Image.{memory_of}
use Rattle.model.specs.UndividedRun.{Whole, other_with, third_of, whole_map, holder, State, or_nothing, nx, th}
use Rattle.model.specs.Demands.{Matches}
use Rattle.laws.proofs.Members.{In, in_here, in_there, in_cons, in_append_left, in_append_right, append_in, distinct_append, keep_ascending, ascending_distinct, keep_map, map_append, two_kept}
use Rattle.laws.proofs.Tables.{length_tab, getD_tab, tab_all}
use Rattle.laws.proofs.Tests.{by_cases, and_intro, and_left, and_right, not_equal}
use Rattle.theory.proofs.BlockLaws.{same_point_self}
use Rattle.theory.proofs.MeshLaws.{parts_mesh}
use Rattle.agreement.proofs.BlockSound.{code_one, block_sound}
use Rattle.agreement.proofs.Described.{pt, third_by, dart_by, members, block_by, mesh_by, Crossing, Map, Inv, find_by, Mine, mine_member, member_mine}
use Rattle.agreement.proofs.Described.{darts_by, held_by, third_is, point_at, all_mine, found_alone, previous_at, kind_free, kind_sewn, kind_critical}
use Rattle.agreement.proofs.Described.{by_kind, next_mine, third_level, crossing_next, crossing_third}

-- LISTS IN A ROW
module _ where
  pub in_rows : (f : ℕ → List ℕ) (n i x : ℕ) → i < n → In x (f i) → In x (concat (tab f n))
  unfolding concat
  in_rows f zero i x h m = absurd (not-suc-le-zero h)
  in_rows f (suc n) zero x h m = in_append_left x (f 0) (concat (tab (λ k. f (suc k)) n)) m
  in_rows f (suc n) (suc i) x h m = in_append_right x (f 0) (concat (tab (λ k. f (suc k)) n)) (in_rows (λ k. f (suc k)) n i x (omega arith) m)

  pub rows_in : (f : ℕ → List ℕ) (n x : ℕ) → In x (concat (tab f n)) → (i : ℕ) × (i < n) × In x (f i)
  unfolding concat
  rows_in f zero x h = absurd (true≢false (sym h))
  rows_in f (suc n) x h = go (append_in x (f 0) (concat (tab (λ k. f (suc k)) n)) h) (rows_in (λ k. f (suc k)) n x)
    where
      go : In x (f 0) ⊎ In x (concat (tab (λ k. f (suc k)) n)) → (In x (concat (tab (λ k. f (suc k)) n)) → (i : ℕ) × (i < n) × In x (f (suc i))) → (i : ℕ) × (i < suc n) × In x (f i)
      go (inl a) ih = (0, omega arith, a)
      go (inr a) ih = let r = ih a in (suc r.0, omega (arith, r.1), r.2)

  pub rows_distinct : (f : ℕ → List ℕ) (n : ℕ) → ((i : ℕ) → i < n → distinct (f i) ≡ true) → ((i j x : ℕ) → i < n → j < n → In x (f i) → In x (f j) → i ≡ j)
      → distinct (concat (tab f n)) ≡ true
  unfolding concat
  rows_distinct f zero d a = refl
  rows_distinct f (suc n) d a = distinct_append (f 0) (concat (tab (λ k. f (suc k)) n)) (d 0 (omega arith))
      (rows_distinct (λ k. f (suc k)) n (λ i h. d (suc i) (omega arith)) (λ i j x h l p q. let e = a (suc i) (suc j) x (omega arith) (omega arith) p q in omega arith))
      (λ x h. go x h (mem x (concat (tab (λ k. f (suc k)) n))) refl)
    where
      go : (x : ℕ) → In x (f 0) → (o : Bool) → mem x (concat (tab (λ k. f (suc k)) n)) ≡ o → mem x (concat (tab (λ k. f (suc k)) n)) ≡ false
      go x h false e = e
      go x h true e = let r = rows_in (λ k. f (suc k)) n x e in absurd (let z = a 0 (suc r.0) x (omega arith) (omega (arith, r.1)) h r.2 in omega arith)

-- ALL DARTS OF THE MESH
abbrev pub all_members : ℕ → State → List ℕ
all_members k u = concat (tab (members u) k)

rows_darts : (u : State) (label : ℕ → Label) (g : ℕ → ℕ) (n : ℕ)
    → concat_map (λ b. b.darts) (tab (λ i. block_by u label (g i)) n) ≡ map (dart_by u label) (concat (tab (λ i. members u (g i)) n))
unfolding concat block_by
rows_darts u label g zero = refl
rows_darts u label g (suc n) = rw (rows_darts u label (λ k. g (suc k)) n) (sym (map_append (dart_by u label) (members u (g 0)) (concat (tab (λ i. members u (g (suc i))) n))))

module _ (k : ℕ) (u : State) (label : ℕ → Label) where
  pub all_darts_are : all_darts (mesh_by k u label) ≡ map (dart_by u label) (all_members k u)
  unfolding all_darts
  all_darts_are = rows_darts u label (λ i. i) k

  pub block_at_by : (b : ℕ) → b < k → block_at (mesh_by k u label) b ≡ block_by u label b
  unfolding block_at
  block_at_by b h = getD_tab (block_by u label) k b no_block h

  pub found_all : (x : ℕ) → find (λ d. d.serial) x (all_darts (mesh_by k u label)) ≡ cond (mem x (all_members k u)) (some (dart_by u label x)) none
  found_all x = rw all_darts_are (find_by u label (all_members k u) x)

module _ (lims : ℕ → Limits) (k : ℕ) (u : State) (label : ℕ → Label) (I : Inv lims k u label) where
  abbrev M : Map u
  M = I.map_sound

  abbrev mesh : List Block
  mesh = mesh_by k u label

  pub in_all : (x : ℕ) → In x u.darts → In x (all_members k u)
  in_all x h = in_rows (members u) k (u.number x) x (I.in_a_block x h) (mine_member u (u.number x) x (record { here = h; block = refl }))

  pub all_in_map : (x : ℕ) → In x (all_members k u) → In x u.darts
  all_in_map x h = let r = rows_in (members u) k x h in (member_mine u r.0 x r.2).here

  pub all_distinct : distinct (all_members k u) ≡ true
  all_distinct = rows_distinct (members u) k
      (λ i h. ascending_distinct (members u i) (keep_ascending (λ y. eqb (u.number y) i) u.darts M.ordered))
      (λ i j x h l p q. sym (member_mine u i x p).block ∙ (member_mine u j x q).block)

  -- the blocks, test by test
  pub all_blocks : (p : Block → Bool) → ((b : ℕ) → b < k → p (block_by u label b) ≡ true) → all p mesh ≡ true
  all_blocks p h = tab_all p (block_by u label) k h

  -- 23
  numbered_by : (i n : ℕ) (g : ℕ → ℕ) → ((m : ℕ) → g m ≡ i + m) → numbered_from i (tab (λ m. block_by u label (g m)) n) ≡ true
  unfolding numbered_from block_by
  numbered_by i zero g e = refl
  numbered_by i (suc n) g e = and_intro (eq-eqb (g 0) i (e 0 ∙ add-zero i)) (numbered_by (suc i) n (λ m. g (suc m)) (λ m. let q = e (suc m) in omega arith))

  blocks_by : blocks_right mesh ≡ true
  unfolding blocks_right
  blocks_by =
      let n = length_tab (block_by u label) k in
      rw n (and_intro (and_intro (le-leb 1 k I.some_blocks) (le-leb k 16 I.few_blocks)) (numbered_by 0 k (λ m. m) (λ m. sym (zero-add m))))

  -- 24
  serials_by_map : (l : List ℕ) → serials (map (dart_by u label) l) ≡ l
  unfolding dart_by
  serials_by_map [] = refl
  serials_by_map (x ∷ l) = ap (λ (t : List ℕ). x ∷ t) (serials_by_map l)

  distinct_by : serials_distinct mesh ≡ true
  unfolding serials_distinct
  distinct_by = rw (all_darts_are k u label, serials_by_map (all_members k u)) all_distinct

  -- THE DARTS WITH A LABEL are x and the dart across
  key_critical : (x : ℕ) → Crossing u x → label_key (third_by u label x) ≡ suc (code (label x))
  key_critical x c = rw (kind_critical u label x c.linked c.other)

  key_crossing : (l : Label) (z : ℕ) → In z u.darts → label_key (third_by u label z) ≡ suc (code l) → Crossing u z
  key_crossing l z h e = by_kind u label z
      (λ f. absurd (let q : 0 ≡ suc (code l) = rw (kind_free u label z f) at e in omega arith))
      (λ t f. absurd (let q : 0 ≡ suc (code l) = rw (kind_sewn u label z t f) at e in omega arith))
      (λ t f. record { here = h; linked = t; other = f })

  pub who_has : (x z : ℕ) → Crossing u x → In z u.darts → label_key (third_by u label z) ≡ suc (code (label x)) → (x ≡ z) ⊎ (th u x ≡ z)
  who_has x z c h e =
      let cz = key_crossing (label x) z h e in
      let same : suc (code (label z)) ≡ suc (code (label x)) = sym (key_critical z cz) ∙ e in
      let codes : code (label x) ≡ code (label z) = omega arith in
      I.labelled.apart x z c cz (code_one lims k u label I x z c cz codes)

  key_across : (x : ℕ) → Crossing u x → label_key (third_by u label (th u x)) ≡ suc (code (label x))
  key_across x c = key_critical (th u x) (crossing_third u M x c) ∙ ap (λ (l : Label). suc (code l)) (I.labelled.paired x c)

  has_it : (x z : ℕ) → label_key (third_by u label z) ≡ suc (code (label x)) → has_label (label x) (third_by u label z) ≡ true
  has_it x z e = eq-eqb (suc (code (label x))) (label_key (third_by u label z)) (sym e)

  -- in the block across
  pub labelled_by : (x : ℕ) → Crossing u x → labelled (label x) (darts_by u label (u.number (th u x))) ≡ dart_by u label (th u x)
  unfolding labelled dart_by
  labelled_by x c =
      let y : Mine u (u.number (th u x)) (th u x) = record { here = M.third_in_map x c.here c.linked; block = refl } in
      ap or_no_dart (found_alone u label (u.number (th u x)) (λ d. label_key d.third) (suc (code (label x))) (th u x) y (key_across x c)
      (λ z m e. only z m (who_has x z c m.here e)))
    where
      only : (z : ℕ) → Mine u (u.number (th u x)) z → (x ≡ z) ⊎ (th u x ≡ z) → z ≡ th u x
      only z m (inl q) = absurd (c.other (sym m.block ∙ ap u.number (sym q)))
      only z m (inr q) = sym q

  abbrev other_darts : ℕ → List Dart
  other_darts x = darts_by u label (u.number (th u x))

  block_across : (x : ℕ) → Crossing u x → (block_at mesh (u.number (th u x))).darts ≡ other_darts x
  unfolding block_by
  block_across x c = ap (λ (b : Block). b.darts) (block_at_by k u label (u.number (th u x)) (I.in_a_block (th u x) (M.third_in_map x c.here c.linked)))

  -- 25
  two_have : (x : ℕ) → Crossing u x → length (keep (λ c. has_label (label x) c.third) (all_darts mesh)) ≡ 2
  unfolding dart_by
  two_have x c =
      let ct = crossing_third u M x c in
      rw (
        all_darts_are k u label,
        keep_map (λ d. has_label (label x) d.third) (dart_by u label) (all_members k u),
        length-map (keep (λ z. has_label (label x) (third_by u label z)) (all_members k u)) (dart_by u label),
      )
      (two_kept (λ z. has_label (label x) (third_by u label z)) x (th u x) (all_members k u) all_distinct (in_all x c.here) (in_all (th u x) ct.here)
      (λ q. M.third_other x c.here (sym q)) (has_it x x (key_critical x c)) (has_it x (th u x) (key_across x c))
      (λ z h e. who_has x z c (all_in_map z h) (sym (eqb-true (suc (code (label x))) (label_key (third_by u label z)) e))))

  pub previous_across : (x : ℕ) → Crossing u x → previous_in (other_darts x) (th u x) ≡ th u (nx u x)
  previous_across x c =
      let cn = crossing_next u M x c in
      let level = third_level u M x c.here c.linked in
      let there = M.third_in_map (nx u x) cn.here cn.linked in
      previous_at u label (u.number (th u x)) (th u x) (th u (nx u x)) (record { here = there; block = level }) (M.third_next x c.here c.linked)
      (λ z m e. M.next_one z (th u (nx u x)) m.here there (e ∙ sym (M.third_next x c.here c.linked)))

  shares : (s t : Third) (n : ℕ) → label_key s ≡ suc n → label_key t ≡ suc n → share_label s t ≡ true
  shares s t n a b = rw (a, b) (and_intro (lt-ltb 0 (suc n) (omega arith)) (eq-eqb (suc n) (suc n) refl))

  names_back : (b x : ℕ) → Mine u b x → (c : Crossing u x) → is_critical_with b (labelled (label x) (other_darts x)).third ≡ true
  unfolding dart_by
  names_back b x h c =
      let ct = crossing_third u M x c in
      rw (labelled_by x c, kind_critical u label (th u x) ct.linked ct.other)
      (eq-eqb b (u.number (th u (th u x))) (sym h.block ∙ ap u.number (sym (M.third_twice x c.here c.linked))))

  goes_along : (b x : ℕ) → Mine u b x → (c : Crossing u x)
      → share_label (third_at (darts_by u label b) (nx u x)) (third_at (other_darts x) (previous_in (other_darts x) (labelled (label x) (other_darts x)).serial)) ≡ true
  unfolding dart_by
  goes_along b x h c =
      let cn = crossing_next u M x c in
      let there : Mine u (u.number (th u x)) (th u (nx u x)) = record { here = M.third_in_map (nx u x) cn.here cn.linked; block = third_level u M x c.here c.linked } in
      rw (labelled_by x c, previous_across x c, third_is u label b (nx u x) (next_mine u M b x h), third_is u label (u.number (th u x)) (th u (nx u x)) there)
      (shares (third_by u label (nx u x)) (third_by u label (th u (nx u x))) (code (label (nx u x))) (key_critical (nx u x) cn) (key_across (nx u x) cn))

  paired_dart : (b x : ℕ) → Mine u b x → paired mesh (block_by u label b) (dart_by u label x) (third_by u label x) ≡ true
  unfolding paired dart_by block_by
  paired_dart b x h = by_kind u label x
      (λ e. rw (kind_free u label x e))
      (λ t e. rw (kind_sewn u label x t e))
      (λ t e. let c : Crossing u x = record { here = h.here; linked = t; other = e } in
      rw (kind_critical u label x t e, block_across x c)
      (and_intro (and_intro (eq-eqb _ 2 (two_have x c)) (names_back b x h c)) (goes_along b x h c)))

  paired_by : labels_paired mesh ≡ true
  unfolding labels_paired block_by dart_by
  paired_by = all_blocks _ (λ b below. all_mine u label b _ (λ x h. paired_dart b x h))

  -- 26
  across_dart : (b x : ℕ) → Mine u b x → same_across mesh (dart_by u label x) (third_by u label x) ≡ true
  unfolding same_across dart_by
  across_dart b x h = by_kind u label x
      (λ e. rw (kind_free u label x e))
      (λ t e. rw (kind_sewn u label x t e))
      (λ t e. let c : Crossing u x = record { here = h.here; linked = t; other = e } in
      let y : Mine u (u.number (th u x)) (th u x) = record { here = M.third_in_map x c.here c.linked; block = refl } in
      rw (kind_critical u label x t e, block_across x c, labelled_by x c)
      (same_point_self (pt u x) _ (M.point_third x h.here t ∙ sym (point_at u label (u.number (th u x)) (nx u (th u x)) (next_mine u M (u.number (th u x)) (th u x) y)))))

  across_by : points_across mesh ≡ true
  unfolding points_across block_by dart_by
  across_by = all_blocks _ (λ b below. all_mine u label b _ (λ x h. across_dart b x h))

  -- 27
  made_dart : (b x : ℕ) → Mine u b x → made_before mesh (third_by u label x) ≡ true
  unfolding made_before block_by
  made_dart b x h = by_kind u label x
      (λ e. rw (kind_free u label x e))
      (λ t e. rw (kind_sewn u label x t e))
      (λ t e. let c : Crossing u x = record { here = h.here; linked = t; other = e } in
      let below = I.labelled.maker_small x c in
      rw (kind_critical u label x t e, length_tab (block_by u label) k, block_at_by k u label (label x).maker below)
      (and_intro (lt-ltb (label x).maker k below) (lt-ltb (label x).number (u.count (label x).maker) (I.labelled.number_small x c))))

  made_by : makers_right mesh ≡ true
  unfolding makers_right block_by dart_by
  made_by = all_blocks _ (λ b below. all_mine u label b _ (λ x h. made_dart b x h))

  each_sound : (b : ℕ) → b < k → sound_block (lims (block_by u label b).number) (block_by u label b) ≡ true
  unfolding block_by
  each_sound b below = block_sound lims k u label I b below

  pub mesh_sound : Sound lims mesh
  mesh_sound = parts_mesh lims mesh (record {
    blocks_sound = all_blocks (λ b. sound_block (lims b.number) b) each_sound;
    blocks = blocks_by;
    distinct_serials = distinct_by;
    paired_labels = paired_by;
    points = across_by;
    makers = made_by;
  })

  -- THE WHOLE MAP
  other_one : (x : ℕ) → Crossing u x → (l : List ℕ) → In (th u x) l → ((z : ℕ) → In z l → In z u.darts) → other_with (label x) x (map (dart_by u label) l) ≡ th u x
  unfolding other_with dart_by
  other_one x c [] h m = absurd (true≢false (sym h))
  other_one x c (z ∷ l) h m = by_cases (has_label (label x) (third_by u label z) && not (eqb z x))
      (λ e. rw e
      (which
      (who_has x z c (m z (in_here z l)) (sym (eqb-true (suc (code (label x))) (label_key (third_by u label z)) (and_left _ _ e))))
      (eqb-false z x (not-true (eqb z x) (and_right (has_label (label x) (third_by u label z)) _ e)))))
      (λ e. rw e (other_one x c l (in_cons (th u x) z l h (λ q. absurd (here q e)) (λ j. j)) (λ y j. m y (in_there y z l j))))
    where
      which : (x ≡ z) ⊎ (th u x ≡ z) → z ≢ x → z ≡ th u x
      which (inl q) n = absurd (n (sym q))
      which (inr q) n = sym q

      here : th u x ≡ z → (has_label (label x) (third_by u label z) && not (eqb z x)) ≡ false → ⊥
      here q f = true≢false (sym (and_intro (has_it x z (ap (λ (w : ℕ). label_key (third_by u label w)) (sym q) ∙ key_across x c)) (not_equal z x (λ r. M.third_other x c.here (q ∙ r)))) ∙ f)

  third_whole : (x : ℕ) → In x u.darts → third_of mesh x (third_by u label x) ≡ th u x
  third_whole x h = by_kind u label x
      (λ e. rw (kind_free u label x e) (sym e))
      (λ t e. rw (kind_sewn u label x t e))
      (λ t e. let c : Crossing u x = record { here = h; linked = t; other = e } in
      rw (kind_critical u label x t e, all_darts_are k u label) (other_one x c (all_members k u) (in_all (th u x) (M.third_in_map x h t)) (λ z j. all_in_map z j)))

  rebuilt : (o : Option Whole) (w : Whole) → o ≡ some w
      → some (record { next = (or_nothing o).next; opposite = (or_nothing o).opposite; third = (or_nothing o).third; point = (or_nothing o).point }) ≡ o
  rebuilt o w e = rw e

  pub whole_same : (x : ℕ) → whole_map mesh x ≡ u.links x
  unfolding whole_map dart_by
  whole_same x = by_cases (mem x u.darts)
      (λ h. let w = M.inside x h in rw (found_all k u label x, in_all x h, third_whole x h) (rebuilt (u.links x) w.0 w.1))
      (λ h. rw (found_all k u label x, absent_all x (mem x (all_members k u)) refl h) (sym (M.outside x h)))
    where
      absent_all : (x : ℕ) (o : Bool) → mem x (all_members k u) ≡ o → mem x u.darts ≡ false → mem x (all_members k u) ≡ false
      absent_all x false e h = e
      absent_all x true e h = absurd (true≢false (sym (all_in_map x e) ∙ h))

  -- CELLS
  holder_by : (i n : ℕ) (g : ℕ → ℕ) (x : ℕ) → In x u.darts → ((m : ℕ) → g m ≡ i + m) → i ≤ u.number x → u.number x < i + n
      → holder (tab (λ m. block_by u label (g m)) n) x ≡ u.number x
  unfolding holder block_by
  holder_by i zero g x h e low high = absurd (omega arith)
  holder_by i (suc n) g x h e low high = rw (held_by u label (g 0) x, h) (by_cases (eqb (u.number x) (g 0))
      (λ q. rw q (sym (eqb-true (u.number x) (g 0) q)))
      (λ q. rw q (holder_by (suc i) n (λ m. g (suc m)) x h (λ m. let r = e (suc m) in omega arith)
      (let ne : u.number x ≢ i = λ z. eqb-false (u.number x) (g 0) q (z ∙ sym (add-zero i) ∙ sym (e 0)) in apart_low i (u.number x) low ne) (omega arith))))
    where
      apart_low : (a b : ℕ) → a ≤ b → b ≢ a → suc a ≤ b
      apart_low a b l n = by_cases (eqb b a) (λ q. absurd (n (eqb-true b a q))) (λ q. omega (arith, eqb-false b a q))

  pub cells_same : (x : ℕ) → mem x u.darts ≡ true → holder mesh x ≡ u.number x
  cells_same x h = holder_by 0 k (λ m. m) x h (λ m. sym (zero-add m)) (omega arith) (let below = I.in_a_block x h in omega arith)

  -- WHAT THE INVARIANT SAYS
  pub says : (ms : List (List ℕ)) → ms ≡ map (memory_of lims) mesh → Matches lims ms u
  unfolding block_by
  says ms e = record {
    mesh = mesh;
    images = e;
    sound = mesh_sound;
    same_map = whole_same;
    same_cells = cells_same;
    same_counts = λ b h. ap (λ (c : Block). c.counter) (block_at_by k u label b (rw (length_tab (block_by u label) k) at h));
  }
