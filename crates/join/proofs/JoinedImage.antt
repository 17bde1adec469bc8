-- The memory of a block with new darts sewn in is the image of the model's block. Assumes nothing.
use mathlib.Core.Path.{◌≡◌, sym, ◌∙◌, ap, subst}
use mathlib.Core.Bool.{Bool, true, true≢false, cond, ◌&&◌}
use mathlib.Core.List.{List, map}
use mathlib.Core.Logic.{⊎_elim}
use Prim.Native.Nat.{ℕ, zero, suc, ◌+◌, ◌*◌, ◌-◌, ◌/◌, ◌%◌, ◌≤◌, ◌<◌}
use native.Mathlib.Omega.{arith}
use lib.Dec.{eqb}
use lib.ListN.{length, get_or}
use borrow.Author.Tests.{eqb-true, eq-eqb, ne_eqb}
use Rattle.model.specs.Lists.{any, tab}
use Rattle.model.specs.Values.{Dart, room}
use Rattle.model.specs.Image.{words_for, image, column, is_sewn_word, dart_in, block_in}
use Rattle.model.specs.Links.{Link, relink}
use Rattle.laws.proofs.Tests.{by_cases, and_intro, and_left, and_right, eq_or_ne}
use Rattle.laws.proofs.Tables.{any_tab, tab_any, map_tab, tab_cong}
use Rattle.columns.specs.Columns.{Kind, kind_sewn, Ranged, Places, before}
use Rattle.columns.proofs.Thirds.{kind_one}
use Rattle.columns.proofs.Images.{image_back}
use Rattle.join.specs.Thirds.{place_of, Sewn}
use Rattle.join.specs.Interleaved.{Stands}
use Rattle.join.specs.Join.{JoinIndexed, Linking}
use Rattle.join.proofs.JoinedDarts.{old_one, new_one, dart_joined}

module _ {m c w kinds links ranks old new x : List ℕ} {n k : ℕ} {ls : List Link} (fits : n + k ≤ room)
    (at : Stands m c w n k old new) (by : JoinIndexed c x ranks k) (ln : Linking m n k x kinds links ls) {y : List ℕ} (sew : Sewn w kinds links ranks old new k y) where
  -- both words of a dart: as before, sewn, or labelled
  data Words (t : ℕ) : Type 0 where
    same : column y 3 t ≡ column w 3 t → column y 4 t ≡ column w 4 t → Words t
    sewed : column y 3 t ≡ 1 → column y 4 t < n + k → Words t
    labelled : Kind (column y 3 t) (column y 4 t) → (column y 3 t ≡ 1 → ⊥) → Words t

  old_words : (p : ℕ) → p < n → Words (get_or old p 0)
  old_words p h = by_cases (any (λ i. eqb (get_or kinds i 0) 1 && eqb (get_or links i 0) p) (tab (λ i. i) k))
      (λ e. let r = any_tab (λ i. eqb (get_or kinds i 0) 1 && eqb (get_or links i 0) p) (λ i. i) k e in
      let one = eqb-true (get_or kinds r.0 0) 1 (and_left (eqb (get_or kinds r.0 0) 1) _ r.2) in
      let there = eqb-true (get_or links r.0 0) p (and_right (eqb (get_or kinds r.0 0) 1) _ r.2) in
      subst (λ (z : ℕ). Words (get_or old z 0)) there
      (sewed (sew.met_kind r.0 r.1 one) (let b = at.new_lt (get_or ranks r.0 0) (by.rank_below r.0 r.1) in let l = sew.met_link r.0 r.1 one in omega (arith, b, l))))
      (λ e. let stay : (f : ℕ) → f < 8 → column y f (get_or old p 0) ≡ column w f (get_or old p 0) = λ f l. sew.stays f (get_or old p 0) l
      (λ j u d g. at.apart p (get_or ranks j 0) h (by.rank_below j u) g)
      (λ j u d g. true≢false
      (sym
      (tab_any (λ i. eqb (get_or kinds i 0) 1 && eqb (get_or links i 0) p) (λ i. i) k j u
      (and_intro (eq-eqb (get_or kinds j 0) 1 d)
      (eq-eqb (get_or links j 0) p (sym (old_one at p (get_or links j 0) h (ln.link_below j u d) g))))) ∙ e)) in
      same (stay 3 (omega arith)) (stay 4 (omega arith)))

  new_words : (i : ℕ) → i < k → Words (place_of ranks new i)
  new_words i h = ⊎_elim
      (λ (e : get_or kinds i 0 ≡ 0).
      let stay : (f : ℕ) → f < 8 → column y f (place_of ranks new i) ≡ column w f (place_of ranks new i) = λ f l. sew.stays f (place_of ranks new i) l
      (λ j u d g. let one = by.rank_apart i j h u (new_one at (get_or ranks i 0) (get_or ranks j 0) (by.rank_below i h) (by.rank_below j u) g) in d (ap (λ (z : ℕ). get_or kinds z 0) (sym one) ∙ e))
      (λ j u d g. at.apart (get_or links j 0) (get_or ranks i 0) (ln.link_below j u d) (by.rank_below i h) (sym g)) in
      same (stay 3 (omega arith)) (stay 4 (omega arith)))
      (λ (d : get_or kinds i 0 ≡ 0 → ⊥). ⊎_elim
      (λ (e : get_or kinds i 0 ≡ 1). sewed (sew.new_kind i h d ∙ e)
      (let l = sew.new_link i h d ∙ ap (λ (b : Bool). cond b (get_or old (get_or links i 0) 0) (get_or links i 0))
      (eq-eqb (get_or kinds i 0) 1 e) in let b = at.old_lt (get_or links i 0) (ln.link_below i h e) in omega (arith, l, b)))
      (λ (e : get_or kinds i 0 ≡ 1 → ⊥).
      let link : column y 4 (place_of ranks new i) ≡ get_or links i 0 = sew.new_link i h d ∙ ap (λ (b : Bool). cond b (get_or old (get_or links i 0) 0) (get_or links i 0)) (ne_eqb (get_or kinds i 0) 1 e) in
      labelled
      (subst (λ (a : ℕ). Kind (column y 3 (place_of ranks new i)) a) (sym link)
      (subst (λ (a : ℕ). Kind a (get_or links i 0)) (sym (sew.new_kind i h d)) (ln.kind_right i h)))
      (λ one. e (sym (sew.new_kind i h d) ∙ one)))
      (eq_or_ne (get_or kinds i 0) 1))
      (eq_or_ne (get_or kinds i 0) 0)

  words_at : (t : ℕ) → t < n + k → Words t
  words_at t h = ⊎_elim
      (λ r. subst Words (sym r.2) (old_words r.0 r.1))
      (λ r. let i = by.index_of r.0 r.1 in subst Words (ap (λ (z : ℕ). get_or new z 0) i.2 ∙ sym r.2) (new_words i.0 i.1))
      (at.every t h)

  -- what is past the darts stays
  past : (t f : ℕ) → n + k ≤ t → f < 8 → column y f t ≡ column w f t
  past t f h l = sew.stays f t l
      (λ j u d g. let b = at.new_lt (get_or ranks j 0) (by.rank_below j u) in omega (arith, b, g, h))
      (λ j u d g. let b = at.old_lt (get_or links j 0) (ln.link_below j u d) in omega (arith, b, g, h))

  module _ (ranged : Ranged w) (size : words_for (n + k) ≤ length w) (count : get_or w 2 0 ≡ n + k) (places : Places w (n + k))
      (sewn_in : (t : ℕ) → t < n + k → is_sewn_word (column w 3 t) ≡ true → column w 4 t < n + k) where
    count_now : get_or y 2 0 ≡ n + k
    count_now = sew.head 2 (omega arith) ∙ count

    serial_now : (p : ℕ) → column y 0 p ≡ column w 0 p
    serial_now p = sew.others 0 p (omega arith) (λ e. omega (arith, e)) (λ e. omega (arith, e))

    kind_now : (t : ℕ) → t < n + k → Kind (column y 3 t) (column y 4 t)
    kind_now t h = go (words_at t h)
      where
        go : Words t → Kind (column y 3 t) (column y 4 t)
        go (same e f) = subst (λ (a : ℕ). Kind (column y 3 t) a) (sym f) (subst (λ (a : ℕ). Kind a (column w 4 t)) (sym e) (ranged.kinds t (omega (arith, h, count))))
        go (sewed e f) = kind_sewn e
        go (labelled q d) = q

    sewn_now : (t : ℕ) → t < n + k → is_sewn_word (column y 3 t) ≡ true → column y 4 t < n + k
    sewn_now t h one = go (words_at t h)
      where
        go : Words t → column y 4 t < n + k
        go (same e f) = let b = sewn_in t h (ap is_sewn_word (sym e) ∙ one) in omega (arith, b, f)
        go (sewed e f) = f
        go (labelled q d) = absurd (d (kind_one q one))

    ranged_now : Ranged y
    ranged_now = record {
      number_small = (let a = ranged.number_small in let e = sew.head 0 (omega arith) in omega (arith, a, e));
      counter_small = (let a = ranged.counter_small in let e = sew.head 1 (omega arith) in omega (arith, a, e));
      few = omega (arith, count_now, fits);
      head =
          (sew.head 3 (omega arith) ∙ ranged.head.0, sew.head 4 (omega arith) ∙ ranged.head.1, sew.head 5 (omega arith) ∙ ranged.head.2, sew.head 6 (omega arith) ∙ ranged.head.3, sew.head 7 (omega arith) ∙ ranged.head.4);
      above = λ p h. above p (omega (arith, h, count_now));
      serial_small = λ p h. (let a = ranged.serial_small p (omega (arith, h, count_now, count)) in let e = serial_now p in omega (arith, a, e));
      kinds = λ p h. kind_now p (omega (arith, h, count_now));
      rest = λ i h. rest i (omega (arith, h, count_now));
    }
      where
        above : (p : ℕ) → p < n + k → before (column y 0) p < column y 0 p
        above zero h = let e = serial_now 0 in let a = ranged.above 0 (omega (arith, h, count)) in omega (arith, a, e)
        above (suc p) h = let e = serial_now p in let f = serial_now (suc p) in let a = ranged.above (suc p) (omega (arith, h, count)) in omega (arith, a, e, f)

        rest : (i : ℕ) → 8 + (n + k) * 8 ≤ i → get_or y i 0 ≡ 0
        rest i h = go ((i - 8) / 8) ((i - 8) % 8) (omega (arith, h)) (omega arith) (omega (arith, h))
          where
            go : (p f : ℕ) → i ≡ 8 + p * 8 + f → f < 8 → n + k ≤ p → get_or y i 0 ≡ 0
            go p f e l b = ap (λ (j : ℕ). get_or y j 0) e ∙ past p f b l ∙ ap (λ (j : ℕ). get_or w j 0) (sym e) ∙ ranged.rest i (omega (arith, h, count))

    -- the memory is the image of the block that it holds
    image_now : image (length y) (block_in y) ≡ y
    image_now = image_back y ranged_now (omega (arith, sew.size, size, count_now))
        (record {
          next_lt =
              λ p h.
              (let e = sew.others 1 p (omega arith) (λ e. omega (arith, e)) (λ e. omega (arith, e)) in let b = places.next_lt p (omega (arith, h, count_now)) in omega (arith, e, b, count_now));
          opposite_lt =
              λ p h.
              (let e = sew.others 2 p (omega arith) (λ e. omega (arith, e)) (λ e. omega (arith, e)) in let b = places.opposite_lt p (omega (arith, h, count_now)) in omega (arith, e, b, count_now));
        })
        (λ p h one. let b = sewn_now p (omega (arith, h, count_now)) one in omega (arith, b, count_now))

    -- which has the darts of before, each with the link that it gets
    pub image_joined : (ds : List Dart) → tab (dart_in w) (n + k) ≡ ds → image (length y) (record { number = get_or w 0 0; counter = get_or w 1 0; darts = map (relink ls) ds }) ≡ y
    image_joined ds e = sym (ap (image (length y)) block_now) ∙ image_now
      where
        darts_now : tab (dart_in y) (get_or y 2 0) ≡ map (relink ls) ds
        darts_now =
            ap (tab (dart_in y)) count_now
            ∙ tab_cong (dart_in y) (λ t. relink ls (dart_in w t)) (n + k) (dart_joined fits at by ln sew)
            ∙ sym (map_tab (relink ls) (dart_in w) (n + k)) ∙ ap (map (relink ls)) e

        block_now : block_in y ≡ record { number = get_or w 0 0; counter = get_or w 1 0; darts = map (relink ls) ds }
        block_now = let a = sew.head 0 (omega arith) in let b = sew.head 1 (omega arith) in λ i. record { number = a i; counter = b i; darts = darts_now i }
