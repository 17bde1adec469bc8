-- A move keeps the invariant: the state after it, with the labels of the cut faces, is sound again. Assumes nothing.
use mathlib.Core.Path.{◌≡◌, refl, sym, ◌∙◌, ap, subst}
use mathlib.Core.Logic.{◌⊎◌, inl, inr, ◌≢◌}
use mathlib.Core.Bool.{Bool, true, false, cond, not, ◌||◌}
use mathlib.Core.List.{List, [], ◌∷◌}
use Prim.Native.Nat.{ℕ, ◌+◌, ◌<◌, ◌≤◌}
use native.Mathlib.Omega.{arith}
use lib.Dec.{eqb}
use lib.ListN.{length}
use borrow.Author.Tests.{eqb-true, eqb-false, eq-eqb, not-true, not-false}
use Rattle.model.specs.Lists.{keep, mem}
use Rattle.model.specs.Values.{Label}
use Rattle.model.specs.Runs.{Request}
use Rattle.model.specs.UndividedRun.{State, nx, op, th, cell, inner_faces, after_move}
use Rattle.laws.proofs.Members.{In, in_here, in_there}
use Rattle.laws.proofs.Tests.{by_cases, same_truth}
use Rattle.agreement.proofs.Described.{Crossing, Map, Labelled, third_back_linked}
use Rattle.agreement.proofs.MovedCell.{Cell}
use Rattle.agreement.proofs.NewLabels.{Facing}

-- COUNTING
pub keep_fewer : (p q : ℕ → Bool) (l : List ℕ) → ((x : ℕ) → In x l → p x ≡ true → q x ≡ true) → length (keep p l) ≤ length (keep q l)
keep_fewer p q [] h = omega arith
keep_fewer p q (x ∷ l) h = let ih = keep_fewer p q l (λ y m. h y (in_there y x l m)) in by_cases (p x)
    (λ e. rw (e, h x (in_here x l) e) (omega arith))
    (λ e. rw e (by_cases (q x) (λ f. rw f (omega arith)) (λ f. rw f ih)))

-- one or the other, never both
pub keep_either : (p q r : ℕ → Bool) (l : List ℕ) → ((x : ℕ) → In x l → p x ≡ (q x || r x)) → ((x : ℕ) → In x l → q x ≡ true → r x ≡ false)
    → length (keep p l) ≡ length (keep q l) + length (keep r l)
keep_either p q r [] h d = refl
keep_either p q r (x ∷ l) h d =
    let ih = keep_either p q r l (λ y m. h y (in_there y x l m)) (λ y m. d y (in_there y x l m)) in
    let hx = h x (in_here x l) in
    by_cases (q x)
    (λ e. rw (hx, e, d x (in_here x l) e) (omega arith))
    (λ e. rw (hx, e) (by_cases (r x) (λ f. rw f (omega arith)) (λ f. rw f ih)))

abbrev pub after : State → List ℕ → ℕ → ℕ → ℕ → State
after u v i j g = record { darts = u.darts; links = u.links; number = λ x. cond (mem x v) j (u.number x); count = λ b. cond (eqb b i) (u.count b + g) (u.count b) }

pub after_is : (u : State) (r : Request) → after_move u r ≡ after u (cell u r.serial) r.from r.to (inner_faces u r.from (cell u r.serial))
unfolding after_move
after_is u r = refl

-- LABELS AFTERWARDS: old ones stay, cut faces get new ones on both sides
abbrev pub crosses : State → ℕ → Bool
crosses u x = not (eqb (u.number (th u x)) (u.number x))

abbrev pub moved_side : State → List ℕ → ℕ → ℕ
moved_side u v x = cond (mem x v) x (th u x)

unfoldable pub label_after : State → (ℕ → Label) → List ℕ → (ℕ → Label) → ℕ → Label
label_after u label v fresh x = cond (crosses u x) (label x) (fresh (moved_side u v x))

module _ (u : State) (M : Map u) (i j s g : ℕ) (v : List ℕ) (C : Cell u i s v) (other : i ≢ j) (leaves : (x : ℕ) → In x v → mem (th u x) v ≡ false) where
  abbrev u' : State
  u' = after u v i j g

  next_member : (x : ℕ) → In x u.darts → mem (nx u x) v ≡ mem x v
  next_member x h = same_truth (mem (nx u x) v) (mem x v) (C.next_back x h) (C.next_closed x)

  opposite_member : (x : ℕ) → In x u.darts → mem (op u x) v ≡ mem x v
  opposite_member x h = same_truth (mem (op u x) v) (mem x v) (C.opposite_back x h) (C.opposite_closed x)

  pub map_after : Map u'
  map_after = record {
    ordered = M.ordered;
    inside = M.inside;
    outside = M.outside;
    positive = M.positive;
    serial_small = M.serial_small;
    next_in_map = M.next_in_map;
    next_onto = M.next_onto;
    next_one = M.next_one;
    opposite_in_map = M.opposite_in_map;
    opposite_twice = M.opposite_twice;
    opposite_other = M.opposite_other;
    third_in_map = M.third_in_map;
    third_twice = M.third_twice;
    third_other = M.third_other;
    third_next = M.third_next;
    third_ends = M.third_ends;
    third_goes_on = M.third_goes_on;
    point_finite = M.point_finite;
    point_ring = M.point_ring;
    point_third = M.point_third;
    cell_next = λ x h. rw (next_member x h, M.cell_next x h);
    cell_opposite = λ x h. rw (opposite_member x h, M.cell_opposite x h);
  }

  -- a link that crosses afterwards crossed before, or is cut by the move: then one side is in the cell
  pub record Fresh (x : ℕ) : Type 0 where
    pub inside : In (moved_side u v x) v
    pub cut : Facing u i (moved_side u v x)
    pub side : (moved_side u v x ≡ x) ⊎ (moved_side u v x ≡ th u x)

  pub new_crossing : (x : ℕ) → Crossing u' x → crosses u x ≡ false → Fresh x
  new_crossing x c e =
      let level : u.number (th u x) ≡ u.number x = eqb-true _ _ (not-false (eqb (u.number (th u x)) (u.number x)) e) in
      by_cases (mem x v)
      (λ a. record { inside = rw a a; cut = rw a (record { linked = c.linked; block = level ∙ (C.mine x a).block }); side = rw a (inl refl) })
      (λ a. by_cases (mem (th u x) v)
      (λ b. record {
        inside = rw a b;
        cut = rw a (record { linked = third_back_linked u M x c.here c.linked; block = ap u.number (M.third_twice x c.here c.linked) ∙ sym level ∙ (C.mine (th u x) b).block });
        side = rw a (inr refl);
      })
      (λ b. absurd (c.other (rw (a, b) level))))

  pub old_crossing : (x : ℕ) → Crossing u' x → crosses u x ≡ true → Crossing u x
  old_crossing x c e = record { here = c.here; linked = c.linked; other = eqb-false _ _ (not-true _ e) }

  crosses_back : (x : ℕ) → In x u.darts → th u x ≢ 0 → crosses u (th u x) ≡ crosses u x
  crosses_back x h t = rw (M.third_twice x h t) (ap not (eqb_swap (u.number x) (u.number (th u x))))
    where
      eqb_swap : (a b : ℕ) → eqb a b ≡ eqb b a
      eqb_swap a b = same_truth (eqb a b) (eqb b a) (λ e. eq-eqb b a (sym (eqb-true a b e))) (λ e. eq-eqb a b (sym (eqb-true b a e)))

  side_back : (x : ℕ) → Crossing u' x → Fresh x → moved_side u v (th u x) ≡ moved_side u v x
  side_back x c f = by_cases (mem x v)
      (λ a. rw (a, leaves x a, M.third_twice x c.here c.linked))
      (λ a. let b : In (th u x) v = rw a at f.inside in rw (a, b))

  count_grows : (m n : ℕ) → n < u.count m → n < u'.count m
  count_grows m n h = by_cases (eqb m i) (λ e. rw e (omega arith)) (λ e. rw e h)

  module _ (k : ℕ) (label fresh : ℕ → Label) (L : Labelled k u label) (i-below : i < k)
      (fresh_made : (x : ℕ) → In x v → Facing u i x → ((fresh x).maker ≡ i) × (u.count i ≤ (fresh x).number) × ((fresh x).number < u.count i + g) × ((fresh x).position ≤ 4095))
      (fresh_apart : (x y : ℕ) → In x v → In y v → Facing u i x → Facing u i y → fresh x ≡ fresh y → x ≡ y) where
    abbrev label' : ℕ → Label
    label' = label_after u label v fresh

    is_old : (x : ℕ) → crosses u x ≡ true → label' x ≡ label x
    unfolding label_after
    is_old x e = rw e

    is_new : (x : ℕ) → crosses u x ≡ false → label' x ≡ fresh (moved_side u v x)
    unfolding label_after
    is_new x e = rw e

    -- an old label is no new one: its number lies below the count
    old_new : (x w : ℕ) → Crossing u x → In w v → Facing u i w → label x ≢ fresh w
    old_new x w c h cut e =
        let f = fresh_made w h cut in
        let maker : (label x).maker ≡ i = ap (λ (l : Label). l.maker) e ∙ f.0 in
        let number : (label x).number ≡ (fresh w).number = ap (λ (l : Label). l.number) e in
        let below : (label x).number < u.count i = rw maker at (L.number_small x c) in
        let above = f.1 in
        omega arith

    both_new : (x y : ℕ) → Crossing u' x → Crossing u' y → Fresh x → Fresh y → moved_side u v x ≡ moved_side u v y → (x ≡ y) ⊎ (th u x ≡ y)
    both_new x y cx cy fx fy e = go fx.side fy.side
      where
        go : (moved_side u v x ≡ x) ⊎ (moved_side u v x ≡ th u x) → (moved_side u v y ≡ y) ⊎ (moved_side u v y ≡ th u y) → (x ≡ y) ⊎ (th u x ≡ y)
        go (inl a) (inl b) = inl (sym a ∙ e ∙ b)
        go (inl a) (inr b) = inr (ap (th u) (sym a ∙ e ∙ b) ∙ M.third_twice y cy.here cy.linked)
        go (inr a) (inl b) = inr (sym a ∙ e ∙ b)
        go (inr a) (inr b) = inl (sym (M.third_twice x cx.here cx.linked) ∙ ap (th u) (sym a ∙ e ∙ b) ∙ M.third_twice y cy.here cy.linked)

    paired' : (x : ℕ) → Crossing u' x → label' (th u x) ≡ label' x
    paired' x c = by_cases (crosses u x)
        (λ e. is_old (th u x) (crosses_back x c.here c.linked ∙ e) ∙ L.paired x (old_crossing x c e) ∙ sym (is_old x e))
        (λ e. is_new (th u x) (crosses_back x c.here c.linked ∙ e) ∙ ap fresh (side_back x c (new_crossing x c e)) ∙ sym (is_new x e))

    apart' : (x y : ℕ) → Crossing u' x → Crossing u' y → label' x ≡ label' y → (x ≡ y) ⊎ (th u x ≡ y)
    apart' x y cx cy e = by_cases (crosses u x)
        (λ a. by_cases (crosses u y)
        (λ b. L.apart x y (old_crossing x cx a) (old_crossing y cy b) (sym (is_old x a) ∙ e ∙ is_old y b))
        (λ b. let f = new_crossing y cy b in absurd (old_new x (moved_side u v y) (old_crossing x cx a) f.inside f.cut (sym (is_old x a) ∙ e ∙ is_new y b))))
        (λ a. let f = new_crossing x cx a in by_cases (crosses u y)
        (λ b. absurd (old_new y (moved_side u v x) (old_crossing y cy b) f.inside f.cut (sym (is_old y b) ∙ sym e ∙ is_new x a)))
        (λ b. let h = new_crossing y cy b in both_new x y cx cy f h (fresh_apart (moved_side u v x) (moved_side u v y) f.inside h.inside f.cut h.cut (sym (is_new x a) ∙ e ∙ is_new y b))))

    -- what holds of old labels and of new ones
    either_label : (P : Label → Type 0) → ((x : ℕ) → Crossing u x → P (label x)) → ((x : ℕ) → In x v → Facing u i x → P (fresh x)) → (x : ℕ) → Crossing u' x → P (label' x)
    either_label P old new x c = by_cases (crosses u x)
        (λ a. subst P (sym (is_old x a)) (old x (old_crossing x c a)))
        (λ a. let f = new_crossing x c a in subst P (sym (is_new x a)) (new (moved_side u v x) f.inside f.cut))

    pub labelled_after : Labelled k u' label'
    labelled_after = record {
      paired = paired';
      apart = apart';
      maker_small = either_label (λ l. l.maker < k) L.maker_small (λ x h c. rw (fresh_made x h c).0 i-below);
      number_small = either_label (λ l. l.number < u'.count l.maker) (λ x c. count_grows (label x).maker (label x).number (L.number_small x c))
          (λ x h c. let f = fresh_made x h c in rw (f.0, eq-eqb i i refl) f.2);
      position_small = either_label (λ l. l.position ≤ 4095) L.position_small (λ x h c. (fresh_made x h c).3);
    }
