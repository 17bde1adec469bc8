-- A block that a sound state and a labelling describe is sound: questions 3 to 8, one by one. Assumes nothing.
use mathlib.Core.Path.{◌≡◌, refl, sym, ◌∙◌, ap}
use mathlib.Core.Logic.{◌⊎◌, inl, inr, ◌≢◌}
use mathlib.Core.Bool.{Bool, true, false, true≢false, not, ◌||◌}
use mathlib.Core.List.{List, [], ◌∷◌, map}
use Prim.Native.Nat.{ℕ, ◌^◌, ◌<◌, ◌≤◌}
use native.Mathlib.Omega.{arith}
use lib.Dec.{ltb, eqb}
use lib.ListN.{length, length-map}
use borrow.Author.Tests.{eqb-true, eq-eqb, ne_eqb, lt-ltb, le-leb, not-true}
use Rattle.model.specs.Lists.{any, collect, mem, distinct}
use Rattle.model.specs.Values.{Label, sewn, Dart, Limits, serial_bound, code, label_of, same_point, finite}
use Rattle.model.specs.Cells.{dart_at, next_in, opposite_in, labels}
use Rattle.model.specs.Sound.{third_in_range, dart_in_range, ranges_right, coordinates_finite, link_right, links_right, third_right, thirds_right, label_right, labels_right, sewn_points, points_agree, sound_block}
use Rattle.model.specs.Image.{label_in}
use Rattle.model.specs.UndividedRun.{State, nx, op, th}
use Rattle.laws.proofs.Members.{In, in_here, in_there, in_cons, in_eq, any_in, keep_ascending, ascending_distinct, any_map}
use Rattle.laws.proofs.Tests.{by_cases, and_intro, and_left, and_right, not_equal}
use Rattle.theory.proofs.BlockLaws.{same_point_self}
use Rattle.theory.proofs.ImageLaws.{label_back, parts_sound}
use Rattle.agreement.proofs.Described.{pt, third_by, dart_by, members, block_by, Crossing, Map, Inv, Mine, mine_member, member_mine, darts_by}
use Rattle.agreement.proofs.Described.{held_mine, next_at, opposite_at, third_is, point_at, all_mine, in_order_by, kind_free, kind_sewn, kind_critical}
use Rattle.agreement.proofs.Described.{by_kind, next_mine, opposite_mine, third_mine, third_level, third_back_linked, crossing_next}

module _ (lims : ℕ → Limits) (k : ℕ) (u : State) (label : ℕ → Label) (I : Inv lims k u label) where
  abbrev M : Map u
  M = I.map_sound

  -- the ranges of a label that stands somewhere
  pub record LabelRange (x : ℕ) : Type 0 where
    pub maker_range : (label x).maker ≤ 15
    pub number_range : (label x).number < 2 ^ 32
    pub position_range : (label x).position ≤ 4095

  pub label_range : (x : ℕ) → Crossing u x → LabelRange x
  label_range x c =
      let mk = I.labelled.maker_small x c in
      let few = I.few_blocks in
      let below = I.labelled.number_small x c in
      let small = I.counts_small (label x).maker mk in
      record { maker_range = omega arith; number_range = omega arith; position_range = I.labelled.position_small x c }

  -- a label is known by its code
  pub code_one : (x y : ℕ) → Crossing u x → Crossing u y → code (label x) ≡ code (label y) → label x ≡ label y
  code_one x y cx cy e =
      let rx = label_range x cx in
      let ry = label_range y cy in
      sym (label_back (label x) rx.number_range rx.position_range) ∙ ap label_in e ∙ label_back (label y) ry.number_range ry.position_range

  module _ (b : ℕ) (below : b < k) where
    abbrev ds : List Dart
    ds = darts_by u label b

    -- 3
    third_range : (x : ℕ) → Mine u b x → third_in_range (third_by u label x) ≡ true
    third_range x h = by_kind u label x
        (λ e. rw (kind_free u label x e))
        (λ t e. rw (kind_sewn u label x t e))
        (λ t e. let c : Crossing u x = record { here = h.here; linked = t; other = e } in
        let r = label_range x c in
        let o = I.in_a_block (th u x) (M.third_in_map x h.here t) in
        let few = I.few_blocks in
        rw (kind_critical u label x t e) (and_intro (and_intro (and_intro (le-leb (u.number (th u x)) 15 (omega arith)) (le-leb (label x).maker 15 r.maker_range))
        (lt-ltb (label x).number (2 ^ 32) r.number_range)) (le-leb (label x).position 4095 r.position_range)))

    range_dart : (x : ℕ) → Mine u b x → dart_in_range (dart_by u label x) ≡ true
    unfolding dart_in_range dart_by
    range_dart x h = and_intro (and_intro (le-leb 1 x (M.positive x h.here)) (lt-ltb x serial_bound (M.serial_small x h.here))) (third_range x h)

    pub ranges_by : ranges_right (lims b) (block_by u label b) ≡ true
    unfolding ranges_right block_by
    ranges_by =
        let few = I.few_blocks in
        let size : length ds ≤ (lims b).block_darts = omega (arith, length-map (members u b) (dart_by u label), I.blocks_fit b below) in
        and_intro (and_intro (and_intro (and_intro (le-leb b 15 (omega arith)) (lt-ltb (u.count b) (2 ^ 32) (I.counts_small b below))) (le-leb (length ds) (lims b).block_darts size))
        (all_mine u label b dart_in_range range_dart)) (in_order_by u label b M.ordered)

    -- 4
    pub coordinates_by : coordinates_finite ds ≡ true
    unfolding coordinates_finite dart_by
    coordinates_by = all_mine u label b (λ d. finite d.point) (λ x h. M.point_finite x h.here)

    -- 5
    any_mine : (p : Dart → Bool) (y : ℕ) → Mine u b y → p (dart_by u label y) ≡ true → any p ds ≡ true
    any_mine p y m e = any_map p (dart_by u label) (members u b) ∙ any_in (λ x. p (dart_by u label x)) (members u b) y (mine_member u b y m) e

    before : (x : ℕ) → Mine u b x → (y : ℕ) × Mine u b y × (nx u y ≡ x)
    before x h = let r = M.next_onto x h.here in
        (r.0, record { here = r.1; block = sym (M.cell_next r.0 r.1) ∙ ap u.number r.2 ∙ h.block }, r.2)

    link_dart : (x : ℕ) → Mine u b x → link_right ds (dart_by u label x) ≡ true
    unfolding link_right dart_by
    link_dart x h =
        let y = before x h in
        let o = opposite_mine u M b x h in
        and_intro (and_intro (and_intro (and_intro (held_mine u label b (nx u x) (next_mine u M b x h)) (any_mine (λ e. eqb e.next x) y.0 y.1 (eq-eqb (nx u y.0) x y.2)))
        (held_mine u label b (op u x) o)) (eq-eqb (opposite_in ds (op u x)) x
        (opposite_at u label b (op u x) o ∙ M.opposite_twice x h.here))) (rw (ne_eqb (op u x) x
        (M.opposite_other x h.here)))

    pub links_by : links_right ds ≡ true
    unfolding links_right
    links_by = all_mine u label b (link_right ds) link_dart

    -- 6
    sewn_dart : (x : ℕ) → Mine u b x → th u x ≢ 0 → u.number (th u x) ≡ u.number x → third_right ds (dart_by u label x) (sewn (th u x)) ≡ true
    unfolding third_right dart_by
    sewn_dart x h t e =
        let y = third_mine u M b x h t e in
        let n = next_mine u M b x h in
        let on = M.third_goes_on x h.here t in
        let level : u.number (th u (nx u x)) ≡ u.number (nx u x) = third_level u M x h.here t ∙ e ∙ sym (M.cell_next x h.here) in
        let twice = M.third_twice x h.here t in
        let back : u.number (th u (th u x)) ≡ u.number (th u x) = ap u.number twice ∙ sym e in
        and_intro (and_intro (and_intro (held_mine u label b (th u x) y)
        (rw (third_is u label b (th u x) y, kind_sewn u label (th u x) (third_back_linked u M x h.here t) back) (eq-eqb x (th u (th u x)) (sym twice))))
        (rw (ne_eqb (th u x) x (M.third_other x h.here))))
        (rw (third_is u label b (nx u x) n, kind_sewn u label (nx u x) on level)
        (eq-eqb (next_in ds (th u (nx u x))) (th u x) (next_at u label b (th u (nx u x)) (third_mine u M b (nx u x) n on level) ∙ M.third_next x h.here t)))

    third_dart : (x : ℕ) → Mine u b x → third_right ds (dart_by u label x) (third_by u label x) ≡ true
    unfolding third_right dart_by
    third_dart x h = by_kind u label x
        (λ e. rw (kind_free u label x e, third_is u label b (nx u x) (next_mine u M b x h), kind_free u label (nx u x) (M.third_ends x h.here e)))
        (λ t e. rw (kind_sewn u label x t e) (sewn_dart x h t e))
        (λ t e. let c = crossing_next u M x (record { here = h.here; linked = t; other = e }) in
        rw (kind_critical u label x t e, third_is u label b (nx u x) (next_mine u M b x h), kind_critical u label (nx u x) c.linked c.other)
        (eq-eqb (u.number (th u x)) (u.number (th u (nx u x))) (sym (third_level u M x h.here t))))

    pub thirds_by : thirds_right ds ≡ true
    unfolding thirds_right dart_by
    thirds_by = all_mine u label b (λ d. third_right ds d d.third) third_dart

    -- 7
    label_dart : (x : ℕ) → Mine u b x → label_right b (u.count b) (third_by u label x) ≡ true
    label_dart x h = by_kind u label x
        (λ e. rw (kind_free u label x e))
        (λ t e. rw (kind_sewn u label x t e))
        (λ t e. let c : Crossing u x = record { here = h.here; linked = t; other = e } in
        rw (kind_critical u label x t e) (and_intro (not_equal (u.number (th u x)) b (λ q. e (q ∙ sym h.block))) (own x c)))
      where
        own : (x : ℕ) → Crossing u x → (not (eqb (label x).maker b) || ltb (label x).number (u.count b)) ≡ true
        own x c = by_cases (eqb (label x).maker b)
            (λ m. rw m (lt-ltb (label x).number (u.count b) (rw (← eqb-true (label x).maker b m) (I.labelled.number_small x c))))
            (λ m. rw m)

    -- the labels of some darts
    abbrev codes : List ℕ → List ℕ
    codes l = map code (collect (λ d. label_of d.third) (map (dart_by u label) l))

    pub code_from : (l : List ℕ) → ((x : ℕ) → In x l → Mine u b x) → (v : ℕ) → In v (codes l) → (x : ℕ) × In x l × Crossing u x × (v ≡ code (label x))
    unfolding dart_by
    code_from [] m v h = absurd (true≢false (sym h))
    code_from (x ∷ l) m v h =
        let later = code_from l (λ y k. m y (in_there y x l k)) v in
        let mx = m x (in_here x l) in
        by_kind u label x
        (λ e. skip later (rw (kind_free u label x e) at h))
        (λ t e. skip later (rw (kind_sewn u label x t e) at h))
        (λ t e. in_cons v (code (label x)) (codes l) (rw (kind_critical u label x t e) at h)
        (λ q. (x, in_here x l, record { here = mx.here; linked = t; other = e }, q))
        (λ q. skip later q))
      where
        skip : (In v (codes l) → (y : ℕ) × In y l × Crossing u y × (v ≡ code (label y))) → In v (codes l) → (y : ℕ) × In y (x ∷ l) × Crossing u y × (v ≡ code (label y))
        skip f q = let r = f q in (r.0, in_there r.0 x l r.1, r.2, r.3)

    codes_distinct : (l : List ℕ) → distinct l ≡ true → ((x : ℕ) → In x l → Mine u b x) → distinct (codes l) ≡ true
    unfolding dart_by
    codes_distinct [] d m = refl
    codes_distinct (x ∷ l) d m =
        let rest = codes_distinct l (and_right (not (mem x l)) _ d) (λ y k. m y (in_there y x l k)) in
        by_kind u label x
        (λ e. rw (kind_free u label x e) rest)
        (λ t e. rw (kind_sewn u label x t e) rest)
        (λ t e. rw (kind_critical u label x t e) (and_intro (new t e (mem (code (label x)) (codes l)) refl) rest))
      where
        clash : (t : th u x ≢ 0) (e : u.number (th u x) ≢ u.number x) (y : ℕ) → In y l → Crossing u y → (x ≡ y) ⊎ (th u x ≡ y) → ⊥
        clash t e y k c (inl q) = true≢false (sym (in_eq x y l q k) ∙ not-true (mem x l) (and_left _ _ d))
        clash t e y k c (inr q) = e (ap u.number q ∙ (m y (in_there y x l k)).block ∙ sym (m x (in_here x l)).block)

        new : (t : th u x ≢ 0) (e : u.number (th u x) ≢ u.number x) (o : Bool) → mem (code (label x)) (codes l) ≡ o → not (mem (code (label x)) (codes l)) ≡ true
        new t e false q = rw q
        new t e true q =
            let r = code_from l (λ y k. m y (in_there y x l k)) (code (label x)) q in
            let cx : Crossing u x = record { here = (m x (in_here x l)).here; linked = t; other = e } in
            absurd (clash t e r.0 r.1 r.2 (I.labelled.apart x r.0 cx r.2 (code_one x r.0 cx r.2 r.3)))

    pub labels_by : labels_right (block_by u label b) ≡ true
    unfolding labels_right labels block_by dart_by
    labels_by = and_intro (all_mine u label b (λ d. label_right b (u.count b) d.third) label_dart)
        (codes_distinct (members u b) (ascending_distinct (members u b) (keep_ascending (λ y. eqb (u.number y) b) u.darts M.ordered)) (λ x h. member_mine u b x h))

    -- 8
    sewn_point : (x : ℕ) → Mine u b x → sewn_points ds (dart_by u label x) (third_by u label x) ≡ true
    unfolding dart_by
    sewn_point x h = by_kind u label x
        (λ e. rw (kind_free u label x e))
        (λ t e. let y = third_mine u M b x h t e in
        rw (kind_sewn u label x t e, next_at u label b (th u x) y) (same_point_self (pt u x) _ (M.point_third x h.here t ∙ sym (point_at u label b (nx u (th u x)) (next_mine u M b (th u x) y)))))
        (λ t e. rw (kind_critical u label x t e))

    ring_point : (x : ℕ) → Mine u b x → same_point (pt u x) (dart_at ds (next_in ds (op u x))).point ≡ true
    ring_point x h = let o = opposite_mine u M b x h in
        rw (next_at u label b (op u x) o) (same_point_self (pt u x) _ (M.point_ring x h.here ∙ sym (point_at u label b (nx u (op u x)) (next_mine u M b (op u x) o))))

    pub points_by : points_agree ds ≡ true
    unfolding points_agree dart_by
    points_by = all_mine u label b _ (λ x h. and_intro (ring_point x h) (sewn_point x h))

    pub block_sound : sound_block (lims b) (block_by u label b) ≡ true
    unfolding block_by
    block_sound = parts_sound (lims b) (block_by u label b)
        (record { ranges = ranges_by; finite = coordinates_by; links = links_by; thirds = thirds_by; labels = labels_by; points = points_by })
