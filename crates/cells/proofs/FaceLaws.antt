-- Message order by place: a marked place that no face so far holds starts a face, and any other does not. Assumes nothing.
use mathlib.Core.Path.{◌≡◌, refl, sym, ◌∙◌, ap, subst}
use mathlib.Core.Logic.{◌≢◌}
use mathlib.Core.Bool.{Bool, true, false, true≢false, cond, not, ◌&&◌, ◌||◌}
use mathlib.Core.List.{List, [], ◌∷◌, ◌++◌, map, append_assoc, append-nil}
use Prim.Native.Nat.{ℕ, zero, suc, ◌+◌, ◌-◌, ◌≤◌, ◌<◌}
use native.Mathlib.Omega.{arith}
use native.Mathlib.Nat.{add-zero, add_assoc, zero-add}
use native.Mathlib.Numerals.{add-one}
use lib.Dec.{leb, eqb}
use lib.ListN.{length, get_or, set, take, length-append, length-set}
use lib.Seq.{take-suc-set}
use borrow.Author.Tests.{eqb-true, eqb-false, eq-eqb, ne_eqb, leb-true}
use Rattle.model.specs.Lists.{all, ascending, keep, concat, distinct, mem}
use Rattle.model.specs.Cells.{cycle, faces}
use Rattle.model.specs.Values.{room}
use Rattle.model.specs.Links.{placed}
use Rattle.laws.proofs.Tests.{by_cases, and_left, and_right}
use Rattle.laws.proofs.Members.{In, in_keep, keep_in, all_in, keep_ascending, ascending_distinct, distinct_not, map_append, none_kept, distinct_fewer, getD_in}
use Rattle.laws.proofs.Faces.{face_sym, face_stays, face_start, start_in, start_starts, in_faces, faces_only, faces_distinct, order_has, order_only, along_face}
use Rattle.laws.proofs.Tables.{length_tab, tab_ascending, tab_more}
use Rattle.cells.specs.Places.{Within, Apart, Clear, Closed, InOrder, Marked, Assigned, Put, bit, marked}
use Rattle.cells.proofs.Walks.{eq_or_ne}
use Rattle.cells.proofs.Reached.{places, in_places, places_below, within_places}
use Rattle.cells.proofs.Paths.{apart_places, few_places, mem_append, round}

-- LISTS that grow at the end
pub keep_append : {A : Type 0} (q : A → Bool) (l r : List A) → keep q (l ++ r) ≡ keep q l ++ keep q r
keep_append q [] r = refl
keep_append q (x ∷ l) r = by_cases (q x) (λ e. rw (e, keep_append q l r)) (λ e. rw (e, keep_append q l r))

concat_append : {A : Type 0} (l r : List (List A)) → concat (l ++ r) ≡ concat l ++ concat r
unfolding concat
concat_append [] r = refl
concat_append (x ∷ l) r = rw (concat_append l r, append_assoc)

concat_one : {A : Type 0} (l : List A) → concat (l ∷ []) ≡ l
unfolding concat
concat_one l = append-nil l

placed_more : (i : ℕ) (fs : List (List ℕ)) (f : List ℕ) → placed i (fs ++ f ∷ []) ≡ placed i fs ++ record { at = i + length (concat fs); face = f } ∷ []
unfolding placed concat
placed_more i [] f = rw add-zero
placed_more i (g ∷ fs) f = rw (placed_more (i + length g) fs f, length-append, add_assoc)

pub distinct_at : (l : List ℕ) → distinct l ≡ true → (a b : ℕ) → a < b → b < length l → get_or l a 0 ≢ get_or l b 0
distinct_at [] d a b h k e = absurd (omega arith)
distinct_at (x ∷ l) d a zero h k e = absurd (omega arith)
distinct_at (x ∷ l) d zero (suc b) h k e = distinct_not x l d (get_or l b 0) (getD_in l b (omega arith)) (sym e)
distinct_at (x ∷ l) d (suc a) (suc b) h k e = distinct_at l (and_right (not (mem x l)) _ d) a b (omega arith) (omega arith) e

-- different numbers below n are at most n
pub distinct_few : (l : List ℕ) (n : ℕ) → distinct l ≡ true → ((x : ℕ) → In x l → x < n) → length l ≤ n
distinct_few l n d h = omega (arith, distinct_fewer l (places n) d (λ x k. in_places n x (h x k)), length_tab (λ (p : ℕ). p) n)

-- one marked place more, or none
pub marked_more : (n : ℕ) (marks : List ℕ) → marked (n + 1) marks ≡ marked n marks ++ cond (eqb (get_or marks n 0) 1) (n ∷ []) []
unfolding marked
marked_more n marks = ap (λ (k : ℕ). keep (λ p. eqb (get_or marks p 0) 1) (places k)) (add-one n)
    ∙ ap (keep (λ p. eqb (get_or marks p 0) 1)) (tab_more (λ p. p) n) ∙ keep_append (λ p. eqb (get_or marks p 0) 1) (places n) (n ∷ [])

faces_more : (f : ℕ → ℕ) (l : List ℕ) (x : ℕ) → faces f (l ++ x ∷ []) ≡ faces f l ++ cond (all (leb x) (cycle f x)) (cycle f x ∷ []) []
unfolding faces
faces_more f l x = rw (keep_append (λ y. all (leb y) (cycle f y)) l (x ∷ []), map_append) (by_cases (all (leb x) (cycle f x)) (λ e. rw e) (λ e. rw e))

pub marked_in : (n : ℕ) (marks : List ℕ) (p : ℕ) → In p (marked n marks) → (p < n) × (get_or marks p 0 ≡ 1)
unfolding marked
marked_in n marks p h = let r = keep_in (λ q. eqb (get_or marks q 0) 1) (places n) p h in (places_below n p r.0, eqb-true _ 1 r.1)

pub in_marked : (n : ℕ) (marks : List ℕ) (p : ℕ) → p < n → get_or marks p 0 ≡ 1 → In p (marked n marks)
unfolding marked
in_marked n marks p h e = in_keep (λ q. eqb (get_or marks q 0) 1) p (places n) (in_places n p h) (eq-eqb _ 1 e)

pub marked_ascending : (n : ℕ) (marks : List ℕ) → ascending (marked n marks) ≡ true
unfolding marked
marked_ascending n marks = keep_ascending (λ q. eqb (get_or marks q 0) 1) (places n) (tab_ascending (λ q. q) n (λ i j l k. l))

-- ONE PLACE MORE: a marked one that starts its face adds it, any other adds none
module _ (f : ℕ → ℕ) (marks : List ℕ) (p : ℕ) where
  unmarked_adds_none : eqb (get_or marks p 0) 1 ≡ false → faces f (marked (p + 1) marks) ≡ faces f (marked p marks)
  unmarked_adds_none m = ap (faces f) (marked_more p marks ∙ ap (λ (b : Bool). marked p marks ++ cond b (p ∷ []) []) m ∙ append-nil (marked p marks))

  by_start : {b : Bool} → eqb (get_or marks p 0) 1 ≡ true → all (leb p) (cycle f p) ≡ b → faces f (marked (p + 1) marks) ≡ faces f (marked p marks) ++ cond b (cycle f p ∷ []) []
  by_start m e = ap (faces f) (marked_more p marks ∙ ap (λ (b : Bool). marked p marks ++ cond b (p ∷ []) []) m) ∙ faces_more f (marked p marks) p
      ∙ ap (λ (b : Bool). faces f (marked p marks) ++ cond b (cycle f p ∷ []) []) e

  no_start_adds_none : eqb (get_or marks p 0) 1 ≡ true → all (leb p) (cycle f p) ≡ false → faces f (marked (p + 1) marks) ≡ faces f (marked p marks)
  no_start_adds_none m e = by_start m e ∙ append-nil (faces f (marked p marks))

  face_longer : faces f (marked (p + 1) marks) ≡ faces f (marked p marks) ++ cycle f p ∷ [] → concat (faces f (marked (p + 1) marks)) ≡ concat (faces f (marked p marks)) ++ cycle f p
  face_longer e = ap concat e ∙ concat_append (faces f (marked p marks)) (cycle f p ∷ []) ∙ ap (λ (l : List ℕ). concat (faces f (marked p marks)) ++ l) (concat_one (cycle f p))

-- WHAT IS PUT SO FAR: the faces that the marked places below p start
pub record Ordering (n : ℕ) (f : ℕ → ℕ) (marks : List ℕ) (p : ℕ) (out starts seen : List ℕ) (darts count : ℕ) : Type 0 where
  pub so_far : InOrder (faces f (marked p marks)) out starts darts count
  pub p_le : p ≤ n
  pub count_le : count ≤ p
  pub out_long : n ≤ length out
  pub starts_long : n ≤ length starts
  pub seen_long : n ≤ length seen
  pub seen_is : (q : ℕ) → get_or seen q 0 ≡ bit (mem q (concat (faces f (marked p marks))))

module _ (n : ℕ) (f : ℕ → ℕ) (marks : List ℕ) (few : n ≤ room) (wf : Within n f) (af : Apart n f) (closed : Closed n f marks) where
  -- a marked place that is seen does not start its face
  seen_no_start : (p : ℕ) → p < n → In p (concat (faces f (marked p marks))) → all (leb p) (cycle f p) ≡ false
  unfolding faces cycle
  seen_no_start p h k = by_cases (all (leb p) (cycle f p))
      (λ e. let r = faces_only f (places n) (within_places wf) (apart_places af) (few_places few) (keep (λ x. all (leb x) (cycle f x)) (marked p marks)) p k in
      let s = marked_in p marks r.0 (keep_in (λ x. all (leb x) (cycle f x)) (marked p marks) r.0 r.1).0 in
      absurd (omega (
        arith,
        s.0,
        leb-true p r.0 (all_in (leb p) (cycle f p) e r.0
            (face_sym f (places n) (within_places wf) (apart_places af) (few_places few) r.0 p (in_places n r.0 (omega (arith, s.0))) r.2)),
      )))
      (λ e. e)

  -- a marked place that is not seen starts its face
  new_start : (p : ℕ) → p < n → get_or marks p 0 ≡ 1 → mem p (concat (faces f (marked p marks))) ≡ false → all (leb p) (cycle f p) ≡ true
  unfolding faces cycle
  new_start p h one k = eq_or_ne s p (λ e. rw e at starts) (λ e. absurd (true≢false (sym (seen (omega (arith, s_le))) ∙ k)))
    where
      hp : In p (places n)
      hp = in_places n p h

      s : ℕ
      s = face_start f (places n) (within_places wf) (apart_places af) (few_places few) p

      there : In s (cycle f p)
      there = start_in f (places n) (within_places wf) (apart_places af) (few_places few) p hp

      starts : all (leb s) (cycle f s) ≡ true
      starts = start_starts f (places n) (within_places wf) (apart_places af) (few_places few) p hp

      back : In p (cycle f s)
      back = face_sym f (places n) (within_places wf) (apart_places af) (few_places few) p s hp there

      s_le : s ≤ p
      s_le = leb-true s p (all_in (leb s) (cycle f s) starts p back)

      s_marked : get_or marks s 0 ≡ 1
      s_marked = along_face f (places n) (within_places wf) (apart_places af) (few_places few) (λ x. get_or marks x 0 ≡ 1) (λ y j. closed y (places_below n y j)) p s hp one there

      seen : s < p → In p (concat (map (cycle f) (keep (λ x. all (leb x) (cycle f x)) (marked p marks))))
      seen less = in_faces f (places n) (within_places wf) (apart_places af) (few_places few) (keep (λ x. all (leb x) (cycle f x)) (marked p marks)) s p
          (in_keep (λ x. all (leb x) (cycle f x)) s (marked p marks) (in_marked p marks s less s_marked) starts) back

  -- MARKED PLACES are closed under f
  pub stays : (x : ℕ) → In x (marked n marks) → In (f x) (marked n marks)
  stays x h = let r = marked_in n marks x h in in_marked n marks (f x) (wf x r.0) (closed x r.0 r.1)

  apart : (x y : ℕ) → In x (marked n marks) → In y (marked n marks) → f x ≡ f y → x ≡ y
  apart x y i j e = af x y (marked_in n marks x i).0 (marked_in n marks y j).0 e

  pub marked_distinct : distinct (marked n marks) ≡ true
  marked_distinct = ascending_distinct _ (marked_ascending n marks)

  marked_few : length (marked n marks) ≤ n
  marked_few = distinct_few (marked n marks) n marked_distinct (λ x h. (marked_in n marks x h).0)

  small : length (marked n marks) ≤ 4096
  small = omega (arith, marked_few, few)

  -- so that message order has each of them once
  pub has : (x : ℕ) → In x (marked n marks) → In x (concat (faces f (marked n marks)))
  has = order_has f (marked n marks) stays apart small

  pub only : (x : ℕ) → In x (concat (faces f (marked n marks))) → In x (marked n marks)
  only = order_only f (marked n marks) stays apart small

  sooner : (p : ℕ) → p ≤ n → (x : ℕ) → In x (marked p marks) → In x (marked n marks)
  sooner p h x k = let r = marked_in p marks x k in in_marked n marks x (omega (arith, r.0)) r.1

  faces_distinct_to : (p : ℕ) → p ≤ n → distinct (concat (faces f (marked p marks))) ≡ true
  unfolding faces cycle
  faces_distinct_to p h = faces_distinct f (marked n marks) stays apart small (keep (λ x. all (leb x) (cycle f x)) (marked p marks))
      (λ x k. let r = keep_in (λ x. all (leb x) (cycle f x)) (marked p marks) x k in (sooner p h x r.0, r.1))
      (ascending_distinct _ (keep_ascending (λ x. all (leb x) (cycle f x)) (marked p marks) (marked_ascending p marks)))

  pub order_distinct : distinct (concat (faces f (marked n marks))) ≡ true
  order_distinct = faces_distinct_to n (omega arith)

  -- the faces of marked places have at most their darts in all
  faces_fit : (p : ℕ) → p ≤ n → length (concat (faces f (marked p marks))) ≤ length (marked n marks)
  unfolding faces cycle
  faces_fit p h = distinct_fewer (concat (faces f (marked p marks))) (marked n marks) (faces_distinct_to p h)
      (λ x k. let r = faces_only f (marked n marks) stays apart small (keep (λ x. all (leb x) (cycle f x)) (marked p marks)) x k in
      face_stays f (marked n marks) stays apart small r.0 x (sooner p h r.0 (keep_in (λ x. all (leb x) (cycle f x)) (marked p marks) r.0 r.1).0) r.2)

  -- nothing is put at the start: no place below it is marked
  none_marked : (low : ℕ) → ((q : ℕ) → q < low → get_or marks q 0 ≡ 1 → ⊥) → marked low marks ≡ []
  unfolding marked
  none_marked low h = none_kept (λ p. eqb (get_or marks p 0) 1) (places low) (λ p k. ne_eqb (get_or marks p 0) 1 (h p (places_below low p k)))

  no_faces : (low : ℕ) → ((q : ℕ) → q < low → get_or marks q 0 ≡ 1 → ⊥) → faces f (marked low marks) ≡ []
  unfolding faces
  no_faces low h = ap (faces f) (none_marked low h)

  pub ordering_start : (low : ℕ) (out starts seen : List ℕ) → low ≤ n → ((q : ℕ) → q < low → get_or marks q 0 ≡ 1 → ⊥) → n ≤ length out
      → n ≤ length starts → n ≤ length seen → Clear seen → Ordering n f marks low out starts seen 0 0
  unfolding concat placed
  ordering_start low out starts seen le none a b c clear = record {
    so_far =
        subst (λ (fs : List (List ℕ)). InOrder fs out starts 0 0) (sym (no_faces low none))
        (record { out_size = omega arith; starts_size = omega arith; order = refl; darts_are = refl; indices = refl; count_is = refl });
    p_le = le;
    count_le = omega arith;
    out_long = a;
    starts_long = b;
    seen_long = c;
    seen_is = λ q. clear q ∙ ap (λ (fs : List (List ℕ)). bit (mem q (concat fs))) (sym (no_faces low none));
  }

  module _ {p darts count : ℕ} {out starts seen : List ℕ} (o : Ordering n f marks p out starts seen darts count) (h : p < n) where
    -- the same faces, one place on
    stay : faces f (marked (p + 1) marks) ≡ faces f (marked p marks) → Ordering n f marks (p + 1) out starts seen darts count
    stay e = record {
      so_far = rw e o.so_far;
      p_le = omega arith;
      count_le = omega (arith, o.count_le);
      out_long = o.out_long;
      starts_long = o.starts_long;
      seen_long = o.seen_long;
      seen_is = λ q. rw e (o.seen_is q);
    }

    seen_bit : (b : Bool) → get_or seen p 0 ≡ bit b → (get_or seen p 0 ≡ 0 → ⊥) → b ≡ true
    seen_bit true e ne = refl
    seen_bit false e ne = absurd (ne e)

    unseen_bit : (b : Bool) → get_or seen p 0 ≡ bit b → get_or seen p 0 ≡ 0 → b ≡ false
    unseen_bit true e z = absurd (omega arith)
    unseen_bit false e z = refl

    pub ordering_skip : (eqb (get_or marks p 0) 1 && eqb (get_or seen p 0) 0) ≡ false → Ordering n f marks (p + 1) out starts seen darts count
    ordering_skip e = by_cases (eqb (get_or marks p 0) 1)
        (λ m. let z : eqb (get_or seen p 0) 0 ≡ false = rw m at e in
        let there = seen_bit (mem p (concat (faces f (marked p marks)))) (o.seen_is p) (eqb-false (get_or seen p 0) 0 z) in
        stay (no_start_adds_none f marks p m (seen_no_start p h there)))
        (λ m. stay (unmarked_adds_none f marks p m))

    -- p starts a face
    module _ (e : (eqb (get_or marks p 0) 1 && eqb (get_or seen p 0) 0) ≡ true) where
      new_face : faces f (marked (p + 1) marks) ≡ faces f (marked p marks) ++ cycle f p ∷ []
      new_face =
          let m = and_left (eqb (get_or marks p 0) 1) _ e in
          let z = and_right (eqb (get_or marks p 0) 1) _ e in
          let absent = unseen_bit (mem p (concat (faces f (marked p marks)))) (o.seen_is p) (eqb-true (get_or seen p 0) 0 z) in
          by_start f marks p m (new_start p h (eqb-true (get_or marks p 0) 1 m) absent)

      longer : concat (faces f (marked (p + 1) marks)) ≡ concat (faces f (marked p marks)) ++ cycle f p
      longer = face_longer f marks p new_face

      pub face_room : darts + length (cycle f p) ≤ n
      face_room = omega (
        arith,
        faces_fit (p + 1) (omega arith),
        o.so_far.darts_are,
        ap length longer,
        length-append (concat (faces f (marked p marks))) (cycle f p),
        marked_few,
      )

      pub ordering_put : {end : ℕ} {out' seen' : List ℕ} → Put (cycle f p) darts out out' end → Assigned 1 (cycle f p) seen seen'
          → Ordering n f marks (p + 1) out' (set starts count darts) seen' end (count + 1)
      ordering_put {end} {out'} {seen'} w s = record {
        so_far = record {
          out_size = omega (arith, w.size, w.end, face_room, o.out_long);
          starts_size = simp length-set (omega (arith, o.count_le, o.starts_long));
          order = w.front ∙ ap (λ (l : List ℕ). l ++ cycle f p) o.so_far.order ∙ sym longer;
          darts_are = omega (arith, w.end, o.so_far.darts_are, ap length longer, length-append (concat (faces f (marked p marks))) (cycle f p));
          indices =
              rw (
                new_face,
                placed_more 0 (faces f (marked p marks)) (cycle f p),
                map_append,
                ← o.so_far.indices,
                add-one,
                zero-add,
                ← o.so_far.darts_are,
              ) (take-suc-set starts count darts (omega (arith, o.starts_long, o.count_le)));
          count_is = omega (arith, o.so_far.count_is, ap length new_face, length-append (faces f (marked p marks)) (cycle f p ∷ []));
        };
        p_le = omega arith;
        count_le = omega (arith, o.count_le);
        out_long = omega (arith, w.size, o.out_long);
        starts_long = simp length-set o.starts_long;
        seen_long = omega (arith, s.size, o.seen_long);
        seen_is = λ q. rw (longer, mem_append q (concat (faces f (marked p marks))) (cycle f p), s.value q, o.seen_is q) (either (mem q (concat (faces f (marked p marks)))) (mem q (cycle f p)));
      }
        where
          either : (a b : Bool) → cond b 1 (bit a) ≡ bit (a || b)
          either true true = refl
          either true false = refl
          either false true = refl
          either false false = refl

  -- PLACES PASSED OVER: none of them is marked
  passed_over : (k p : ℕ) → ((q : ℕ) → p ≤ q → q < p + k → get_or marks q 0 ≡ 1 → ⊥) → faces f (marked (p + k) marks) ≡ faces f (marked p marks)
  passed_over zero p none = ap (λ (j : ℕ). faces f (marked j marks)) (add-zero p)
  passed_over (suc k) p none =
      let more : p + suc k ≡ (p + k) + 1 = omega arith in
      ap (λ (j : ℕ). faces f (marked j marks)) more
      ∙ unmarked_adds_none f marks (p + k) (ne_eqb (get_or marks (p + k) 0) 1 (none (p + k) (omega arith) (omega arith)))
      ∙ passed_over k p (λ q a b. none q a (omega arith))

  pub ordering_pass : {p q darts count : ℕ} {out starts seen : List ℕ} → Ordering n f marks p out starts seen darts count → p ≤ q → q ≤ n
      → ((x : ℕ) → p ≤ x → x < q → get_or marks x 0 ≡ 1 → ⊥) → Ordering n f marks q out starts seen darts count
  ordering_pass {p} {q} {darts} {count} {out} {starts} {seen} o le small none =
      let whole : p + (q - p) ≡ q = omega arith in
      let same : faces f (marked q marks) ≡ faces f (marked p marks) = ap (λ (j : ℕ). faces f (marked j marks)) (sym whole) ∙ passed_over (q - p) p (λ x a b. none x a (omega arith)) in
      record {
        so_far = subst (λ (fs : List (List ℕ)). InOrder fs out starts darts count) (sym same) o.so_far;
        p_le = small;
        count_le = omega (arith, o.count_le);
        out_long = o.out_long;
        starts_long = o.starts_long;
        seen_long = o.seen_long;
        seen_is = λ x. o.seen_is x ∙ ap (λ (fs : List (List ℕ)). bit (mem x (concat fs))) (sym same);
      }

  -- THE END: as many darts are put as are marked
  full_stays : (p : ℕ) → p < n → length (marked n marks) ≤ length (concat (faces f (marked p marks))) → faces f (marked (p + 1) marks) ≡ faces f (marked p marks)
  full_stays p h full = by_cases (eqb (get_or marks p 0) 1)
      (λ m. by_cases (all (leb p) (cycle f p))
      (λ e. absurd
      (omega (
        arith,
        faces_fit (p + 1) (omega arith),
        ap length (face_longer f marks p (by_start f marks p m e)),
        length-append (concat (faces f (marked p marks))) (cycle f p),
        (round few wf af p h).some,
      )))
      (λ e. no_start_adds_none f marks p m e))
      (λ m. unmarked_adds_none f marks p m)

  full_end : (k p : ℕ) → p + k ≡ n → length (marked n marks) ≤ length (concat (faces f (marked p marks))) → faces f (marked n marks) ≡ faces f (marked p marks)
  full_end zero p e full = ap (λ (j : ℕ). faces f (marked j marks)) (sym e ∙ add-zero p)
  full_end (suc k) p e full =
      let same = full_stays p (omega arith) full in
      full_end k (p + 1) (omega arith) (omega (arith, ap (λ (fs : List (List ℕ)). length (concat fs)) same)) ∙ same

  module _ {p darts count : ℕ} {out starts seen : List ℕ} (o : Ordering n f marks p out starts seen darts count) where
    pub ordering_end : length (marked n marks) ≤ darts → InOrder (faces f (marked n marks)) out starts darts count
    ordering_end full = rw (full_end (n - p) p (omega (arith, o.p_le)) (omega (arith, o.so_far.darts_are))) o.so_far

    pub ordering_seen : Marked (take darts out) seen
    ordering_seen = record { mark = λ q. o.seen_is q ∙ ap (λ (l : List ℕ). bit (mem q l)) (sym o.so_far.order) }

    -- before that a place is left
    pub ordering_on : darts < length (marked n marks) → p < n
    ordering_on less = eq_or_ne p n
        (λ e. absurd
        (omega (
          arith,
          distinct_fewer (marked n marks) (concat (faces f (marked n marks))) marked_distinct has,
          o.so_far.darts_are,
          ap (λ (j : ℕ). length (concat (faces f (marked j marks)))) e,
        )))
        (λ e. omega (arith, o.p_le))
