-- The invariant of the two runs: the mesh is what the undivided state and a labelling say. Assumes nothing.
--   dart_by, block_by, mesh_by   the dart, block and mesh that a state and a labelling describe
--   Map          the whole map is sound, and cells lie in one block each
--   Labelled     labels stand on both sides of a link between blocks, on nothing else, and lie below the counts
--   Inv          both, within the limits
use mathlib.Core.Path.{◌≡◌, refl, sym, ◌∙◌, ap}
use mathlib.Core.Logic.{◌⊎◌, inl, inr, ◌≢◌}
use mathlib.Core.Bool.{Bool, true, false, true≢false, cond, ◌&&◌}
use mathlib.Core.List.{List, [], ◌∷◌, map}
use mathlib.Core.Option.{Option, none, some, none-ne-some, some-injective}
use Prim.Native.Nat.{ℕ, ◌^◌, ◌<◌, ◌≤◌}
use native.Mathlib.Omega.{arith}
use lib.Dec.{ltb, eqb}
use lib.ListN.{length}
use borrow.Author.Tests.{eqb-true, eqb-false, eq-eqb, ne_eqb, ltb-true, ltb-false, lt-ltb}
use Rattle.model.specs.Lists.{all, keep, tab, mem, ascending, find}
use Rattle.model.specs.Values.{Point, Label, Third, free, sewn, critical, Dart, Block, Limits, serial_bound, finite, or_no_dart}
use Rattle.model.specs.Cells.{serials, held, dart_at, next_in, opposite_in, third_at, previous_in}
use Rattle.model.specs.UndividedRun.{Whole, State, or_nothing, nx, op, th}
use Rattle.laws.proofs.Members.{In, in_here, in_there, in_keep, in_cons, in_eq, all_from, keep_in, mem_keep, absent, keep_ascending, all_map}
use Rattle.laws.proofs.Tests.{by_cases, and_intro, and_left, and_right}

-- WHAT A STATE AND A LABELLING DESCRIBE. `label x` matters where the third link of x leads to another block.
abbrev pub pt : State → ℕ → Point
pt u x = (or_nothing (u.links x)).point

unfoldable pub third_by : State → (ℕ → Label) → ℕ → Third
third_by u label x = cond (eqb (th u x) 0) free (cond (eqb (u.number (th u x)) (u.number x)) (sewn (th u x)) (critical (u.number (th u x)) (label x)))

unfoldable pub dart_by : State → (ℕ → Label) → ℕ → Dart
dart_by u label x = record { serial = x; next = nx u x; opposite = op u x; third = third_by u label x; point = pt u x }

-- the serials of the darts in block b, ascending
abbrev pub members : State → ℕ → List ℕ
members u b = keep (λ x. eqb (u.number x) b) u.darts

unfoldable pub block_by : State → (ℕ → Label) → ℕ → Block
block_by u label b = record { number = b; counter = u.count b; darts = map (dart_by u label) (members u b) }

abbrev pub mesh_by : ℕ → State → (ℕ → Label) → List Block
mesh_by k u label = tab (block_by u label) k

-- x's third link leads to another block
pub record Crossing (u : State) (x : ℕ) : Type 0 where
  pub here : In x u.darts
  pub linked : th u x ≢ 0
  pub other : u.number (th u x) ≢ u.number x

-- THE WHOLE MAP IS SOUND
pub record Map (u : State) : Type 0 where
  pub ordered : ascending u.darts ≡ true
  pub inside : (x : ℕ) → In x u.darts → (w : Whole) × (u.links x ≡ some w)
  pub outside : (x : ℕ) → mem x u.darts ≡ false → u.links x ≡ none
  pub positive : (x : ℕ) → In x u.darts → 0 < x
  pub serial_small : (x : ℕ) → In x u.darts → x < serial_bound
  pub next_in_map : (x : ℕ) → In x u.darts → In (nx u x) u.darts
  pub next_onto : (x : ℕ) → In x u.darts → (y : ℕ) × In y u.darts × (nx u y ≡ x)
  pub next_one : (x y : ℕ) → In x u.darts → In y u.darts → nx u x ≡ nx u y → x ≡ y
  pub opposite_in_map : (x : ℕ) → In x u.darts → In (op u x) u.darts
  pub opposite_twice : (x : ℕ) → In x u.darts → op u (op u x) ≡ x
  pub opposite_other : (x : ℕ) → In x u.darts → op u x ≢ x
  pub third_in_map : (x : ℕ) → In x u.darts → th u x ≢ 0 → In (th u x) u.darts
  pub third_twice : (x : ℕ) → In x u.darts → th u x ≢ 0 → th u (th u x) ≡ x
  pub third_other : (x : ℕ) → In x u.darts → th u x ≢ x
  pub third_next : (x : ℕ) → In x u.darts → th u x ≢ 0 → nx u (th u (nx u x)) ≡ th u x
  pub third_ends : (x : ℕ) → In x u.darts → th u x ≡ 0 → th u (nx u x) ≡ 0
  pub third_goes_on : (x : ℕ) → In x u.darts → th u x ≢ 0 → th u (nx u x) ≢ 0
  pub point_finite : (x : ℕ) → In x u.darts → finite (pt u x) ≡ true
  pub point_ring : (x : ℕ) → In x u.darts → pt u x ≡ pt u (nx u (op u x))
  pub point_third : (x : ℕ) → In x u.darts → th u x ≢ 0 → pt u x ≡ pt u (nx u (th u x))
  pub cell_next : (x : ℕ) → In x u.darts → u.number (nx u x) ≡ u.number x
  pub cell_opposite : (x : ℕ) → In x u.darts → u.number (op u x) ≡ u.number x

-- LABELS
pub record Labelled (k : ℕ) (u : State) (label : ℕ → Label) : Type 0 where
  pub paired : (x : ℕ) → Crossing u x → label (th u x) ≡ label x
  pub apart : (x y : ℕ) → Crossing u x → Crossing u y → label x ≡ label y → (x ≡ y) ⊎ (th u x ≡ y)
  pub maker_small : (x : ℕ) → Crossing u x → (label x).maker < k
  pub number_small : (x : ℕ) → Crossing u x → (label x).number < u.count (label x).maker
  pub position_small : (x : ℕ) → Crossing u x → (label x).position ≤ 4095

-- THE INVARIANT, of a state and a labelling; the mesh is mesh_by k u label
pub record Inv (lims : ℕ → Limits) (k : ℕ) (u : State) (label : ℕ → Label) : Type 0 where
  pub some_blocks : 1 ≤ k
  pub few_blocks : k ≤ 16
  pub map_sound : Map u
  pub labelled : Labelled k u label
  pub in_a_block : (x : ℕ) → In x u.darts → u.number x < k
  pub counts_small : (b : ℕ) → b < k → u.count b < 2 ^ 32
  pub blocks_fit : (b : ℕ) → b < k → length (members u b) ≤ (lims b).block_darts

-- LOOKING DARTS UP in what is described
pub serials_by : (u : State) (label : ℕ → Label) (l : List ℕ) → serials (map (dart_by u label) l) ≡ l
unfolding dart_by
serials_by u label [] = refl
serials_by u label (x ∷ l) = ap (λ (t : List ℕ). x ∷ t) (serials_by u label l)

pub find_by : (u : State) (label : ℕ → Label) (l : List ℕ) (x : ℕ) → find (λ d. d.serial) x (map (dart_by u label) l) ≡ cond (mem x l) (some (dart_by u label x)) none
unfolding dart_by
find_by u label [] x = refl
find_by u label (y ∷ l) x = by_cases (eqb x y) (λ e. rw (e, eqb-true x y e)) (λ e. rw e (find_by u label l x))

-- TABLES OF DARTS IN ASCENDING SERIAL are what their serials find
pub found_there : (x : ℕ) (ds : List Dart) (d : Dart) → find (λ d. d.serial) x ds ≡ some d → In x (serials ds)
found_there x [] d f = absurd (none-ne-some d f)
found_there x (c ∷ ds) d f = by_cases (eqb x c.serial) (λ k. in_eq x c.serial (c.serial ∷ serials ds) (eqb-true x c.serial k) (in_here c.serial (serials ds)))
    (λ k. in_there x c.serial (serials ds) (found_there x ds d (rw k at f)))

pub absent_not_found : (x : ℕ) (ds : List Dart) → mem x (serials ds) ≡ false → find (λ d. d.serial) x ds ≡ none
absent_not_found x [] h = refl
absent_not_found x (d ∷ ds) h = by_cases (eqb x d.serial) (λ e. absurd (true≢false (sym (rw e) ∙ h))) (λ e. rw e (absent_not_found x ds (rw e at h)))

higher : (b a : ℕ) (l : List ℕ) → a < b → all (ltb b) l ≡ true → all (ltb a) l ≡ true
higher b a l h k = all_from (ltb a) l (λ y m. let up = absent b l k y m in lt-ltb a y (omega arith))

above_not_found : (x : ℕ) (ds : List Dart) → all (ltb x) (serials ds) ≡ true → find (λ d. d.serial) x ds ≡ none
above_not_found x ds a = go (mem x (serials ds)) refl
  where
    go : (o : Bool) → mem x (serials ds) ≡ o → find (λ d. d.serial) x ds ≡ none
    go false e = absent_not_found x ds e
    go true e = absurd (let less = absent x (serials ds) a x e in omega arith)

-- two such tables that find the same are one
pub table_unique : (ds es : List Dart) → ascending (serials ds) ≡ true → ascending (serials es) ≡ true
    → ((x : ℕ) → find (λ d. d.serial) x ds ≡ find (λ d. d.serial) x es) → ds ≡ es
unfolding ascending
table_unique [] [] a b h = refl
table_unique [] (e ∷ es) a b h = absurd (none-ne-some e (h e.serial ∙ rw (eq-eqb e.serial e.serial refl)))
table_unique (d ∷ ds) [] a b h = absurd (none-ne-some d (sym (h d.serial) ∙ rw (eq-eqb d.serial d.serial refl)))
table_unique (d ∷ ds) (e ∷ es) a b h = go (by_cases (ltb d.serial e.serial) (λ t. inl (inl (ltb-true d.serial e.serial t)))
    (λ t. by_cases (ltb e.serial d.serial) (λ s. inl (inr (ltb-true e.serial d.serial s)))
    (λ s. let p = ltb-false d.serial e.serial t in let q = ltb-false e.serial d.serial s in inr (omega arith))))
    (table_unique ds es (and_right (all (ltb d.serial) (serials ds)) _ a) (and_right (all (ltb e.serial) (serials es)) _ b))
  where
    up_d : all (ltb d.serial) (serials ds) ≡ true
    up_d = and_left (all (ltb d.serial) (serials ds)) _ a

    up_e : all (ltb e.serial) (serials es) ≡ true
    up_e = and_left (all (ltb e.serial) (serials es)) _ b

    self_d : find (λ d. d.serial) d.serial (d ∷ ds) ≡ some d
    self_d = rw (eq-eqb d.serial d.serial refl)

    self_e : find (λ d. d.serial) e.serial (e ∷ es) ≡ some e
    self_e = rw (eq-eqb e.serial e.serial refl)

    below_es : d.serial < e.serial → find (λ d. d.serial) d.serial (e ∷ es) ≡ none
    below_es l = above_not_found d.serial (e ∷ es) (and_intro (lt-ltb d.serial e.serial l) (higher e.serial d.serial (serials es) l up_e))

    below_ds : e.serial < d.serial → find (λ d. d.serial) e.serial (d ∷ ds) ≡ none
    below_ds l = above_not_found e.serial (d ∷ ds) (and_intro (lt-ltb e.serial d.serial l) (higher d.serial e.serial (serials ds) l up_d))

    heads : d.serial ≡ e.serial → d ≡ e
    heads s = some-injective d e (sym self_d ∙ h d.serial ∙ rw (eq-eqb d.serial e.serial s))

    tails : d.serial ≡ e.serial → (x : ℕ) → find (λ d. d.serial) x ds ≡ find (λ d. d.serial) x es
    tails s x = by_cases (eqb x d.serial)
        (λ t. let q = eqb-true x d.serial t in rw q (above_not_found d.serial ds up_d ∙ sym (rw s (above_not_found e.serial es up_e))))
        (λ t. rw (t, ← s, t) at (h x))

    go : ((d.serial < e.serial) ⊎ (e.serial < d.serial)) ⊎ (d.serial ≡ e.serial)
        → (((x : ℕ) → find (λ d. d.serial) x ds ≡ find (λ d. d.serial) x es) → ds ≡ es) → d ∷ ds ≡ e ∷ es
    go (inl (inl l)) ih = absurd (none-ne-some d (sym (below_es l) ∙ sym (h d.serial) ∙ self_d))
    go (inl (inr l)) ih = absurd (none-ne-some e (sym (below_ds l) ∙ h e.serial ∙ self_e))
    go (inr same) ih = rw (heads same) (ap (λ (t : List Dart). e ∷ t) (ih (tails same)))

-- A DART OF BLOCK b
pub record Mine (u : State) (b x : ℕ) : Type 0 where
  pub here : In x u.darts
  pub block : u.number x ≡ b

pub mine_member : (u : State) (b x : ℕ) → Mine u b x → In x (members u b)
mine_member u b x h = in_keep (λ y. eqb (u.number y) b) x u.darts h.here (eq-eqb (u.number x) b h.block)

pub member_mine : (u : State) (b x : ℕ) → In x (members u b) → Mine u b x
member_mine u b x h = let r = keep_in (λ y. eqb (u.number y) b) u.darts x h in record { here = r.0; block = eqb-true (u.number x) b r.1 }

-- THE BLOCK THAT IS DESCRIBED
module _ (u : State) (label : ℕ → Label) (b : ℕ) where
  abbrev pub darts_by : List Dart
  darts_by = map (dart_by u label) (members u b)

  pub serials_are : serials darts_by ≡ members u b
  serials_are = serials_by u label (members u b)

  pub found_by : (x : ℕ) → find (λ d. d.serial) x darts_by ≡ cond (mem x u.darts && eqb (u.number x) b) (some (dart_by u label x)) none
  found_by x = find_by u label (members u b) x ∙ ap (λ (t : Bool). cond t (some (dart_by u label x)) none) (mem_keep (λ y. eqb (u.number y) b) x u.darts)

  pub held_by : (x : ℕ) → held darts_by x ≡ (mem x u.darts && eqb (u.number x) b)
  held_by x = ap (mem x) serials_are ∙ mem_keep (λ y. eqb (u.number y) b) x u.darts

  pub held_mine : (x : ℕ) → Mine u b x → held darts_by x ≡ true
  held_mine x h = rw (held_by x, h.here, eq-eqb (u.number x) b h.block)

  pub at_mine : (x : ℕ) → Mine u b x → dart_at darts_by x ≡ dart_by u label x
  unfolding dart_at
  at_mine x h = rw (found_by x, h.here, eq-eqb (u.number x) b h.block)

  -- its links
  pub next_at : (x : ℕ) → Mine u b x → next_in darts_by x ≡ nx u x
  unfolding dart_by
  next_at x h = ap (λ (d : Dart). d.next) (at_mine x h)

  pub opposite_at : (x : ℕ) → Mine u b x → opposite_in darts_by x ≡ op u x
  unfolding dart_by
  opposite_at x h = ap (λ (d : Dart). d.opposite) (at_mine x h)

  pub third_is : (x : ℕ) → Mine u b x → third_at darts_by x ≡ third_by u label x
  unfolding dart_by
  third_is x h = ap (λ (d : Dart). d.third) (at_mine x h)

  pub point_at : (x : ℕ) → Mine u b x → (dart_at darts_by x).point ≡ pt u x
  unfolding dart_by
  point_at x h = ap (λ (d : Dart). d.point) (at_mine x h)

  -- a test of every dart
  pub all_mine : (p : Dart → Bool) → ((x : ℕ) → Mine u b x → p (dart_by u label x) ≡ true) → all p darts_by ≡ true
  all_mine p h = all_map p (dart_by u label) (members u b) ∙ all_from (λ x. p (dart_by u label x)) (members u b) (λ x k. h x (member_mine u b x k))

  -- a dart found by a key that it alone has
  pub found_alone : (key : Dart → ℕ) (v y : ℕ) → Mine u b y → key (dart_by u label y) ≡ v → ((z : ℕ) → Mine u b z → key (dart_by u label z) ≡ v → z ≡ y)
      → find key v darts_by ≡ some (dart_by u label y)
  found_alone key v y m e only = go (members u b) (mine_member u b y m) (λ z k. only z (member_mine u b z k))
    where
      go : (l : List ℕ) → In y l → ((z : ℕ) → In z l → key (dart_by u label z) ≡ v → z ≡ y) → find key v (map (dart_by u label) l) ≡ some (dart_by u label y)
      go [] h o = absurd (true≢false (sym h))
      go (x ∷ l) h o = by_cases (eqb v (key (dart_by u label x)))
          (λ t. rw t (ap (λ (w : ℕ). some (dart_by u label w)) (o x (in_here x l) (sym (eqb-true v (key (dart_by u label x)) t)))))
          (λ t. rw t (go l (in_cons y x l h (λ q. absurd (eqb-false v (key (dart_by u label x)) t (sym e ∙ ap (λ (w : ℕ). key (dart_by u label w)) q))) (λ k. k)) (λ z k. o z (in_there z x l k))))

  pub previous_at : (x y : ℕ) → Mine u b y → nx u y ≡ x → ((z : ℕ) → Mine u b z → nx u z ≡ x → z ≡ y) → previous_in darts_by x ≡ y
  unfolding previous_in dart_by
  previous_at x y m e only = ap (λ (o : Option Dart). (or_no_dart o).serial) (found_alone (λ d. d.next) x y m e only)

  pub in_order_by : ascending u.darts ≡ true → ascending (serials darts_by) ≡ true
  in_order_by a = rw serials_are (keep_ascending (λ y. eqb (u.number y) b) u.darts a)

-- THE THREE KINDS OF THIRD LINK
module _ (u : State) (label : ℕ → Label) (x : ℕ) where
  pub kind_free : th u x ≡ 0 → third_by u label x ≡ free
  unfolding third_by
  kind_free e = rw (eq-eqb (th u x) 0 e)

  pub kind_sewn : th u x ≢ 0 → u.number (th u x) ≡ u.number x → third_by u label x ≡ sewn (th u x)
  unfolding third_by
  kind_sewn t e = rw (ne_eqb (th u x) 0 t, eq-eqb (u.number (th u x)) (u.number x) e)

  pub kind_critical : th u x ≢ 0 → u.number (th u x) ≢ u.number x → third_by u label x ≡ critical (u.number (th u x)) (label x)
  unfolding third_by
  kind_critical t e = rw (ne_eqb (th u x) 0 t, ne_eqb (u.number (th u x)) (u.number x) e)

  -- to go by the kind
  pub by_kind {ℓ} : {C : Type ℓ} → (th u x ≡ 0 → C) → (th u x ≢ 0 → u.number (th u x) ≡ u.number x → C) → (th u x ≢ 0 → u.number (th u x) ≢ u.number x → C) → C
  by_kind f s c = by_cases (eqb (th u x) 0)
      (λ e. f (eqb-true (th u x) 0 e))
      (λ e. by_cases (eqb (u.number (th u x)) (u.number x))
      (λ q. s (eqb-false (th u x) 0 e) (eqb-true (u.number (th u x)) (u.number x) q))
      (λ q. c (eqb-false (th u x) 0 e) (eqb-false (u.number (th u x)) (u.number x) q)))

-- STEPS WITHIN A BLOCK
module _ (u : State) (M : Map u) (b x : ℕ) (h : Mine u b x) where
  pub next_mine : Mine u b (nx u x)
  next_mine = record { here = M.next_in_map x h.here; block = M.cell_next x h.here ∙ h.block }

  pub opposite_mine : Mine u b (op u x)
  opposite_mine = record { here = M.opposite_in_map x h.here; block = M.cell_opposite x h.here ∙ h.block }

  pub third_mine : th u x ≢ 0 → u.number (th u x) ≡ u.number x → Mine u b (th u x)
  third_mine t e = record { here = M.third_in_map x h.here t; block = e ∙ h.block }

-- a face meets one block
module _ (u : State) (M : Map u) (x : ℕ) (h : In x u.darts) where
  pub third_level : th u x ≢ 0 → u.number (th u (nx u x)) ≡ u.number (th u x)
  third_level t = sym (M.cell_next (th u (nx u x)) (M.third_in_map (nx u x) (M.next_in_map x h) (M.third_goes_on x h t))) ∙ ap u.number (M.third_next x h t)

  pub third_back_linked : th u x ≢ 0 → th u (th u x) ≢ 0
  third_back_linked t q = let pos = M.positive x h in let same = M.third_twice x h t in omega arith

pub crossing_next : (u : State) (M : Map u) (x : ℕ) → Crossing u x → Crossing u (nx u x)
crossing_next u M x c = record {
  here = M.next_in_map x c.here;
  linked = M.third_goes_on x c.here c.linked;
  other = λ q. c.other (sym (third_level u M x c.here c.linked) ∙ q ∙ M.cell_next x c.here);
}

pub crossing_third : (u : State) (M : Map u) (x : ℕ) → Crossing u x → Crossing u (th u x)
crossing_third u M x c = record {
  here = M.third_in_map x c.here c.linked;
  linked = third_back_linked u M x c.here c.linked;
  other = λ q. c.other (sym q ∙ ap u.number (M.third_twice x c.here c.linked));
}
