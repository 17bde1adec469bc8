-- Question 3: the parts of a file that are read one after the other make the whole, and the memory is filled with it. Assumes nothing.
use Rattle.std.specs.Prelude.{None, Some}
use mathlib.Core.Path.{◌≡◌, refl, sym, ap, ◌∙◌}
use mathlib.Core.Bool.{true, false, ◌&&◌}
use mathlib.Core.List.{List, [], ◌∷◌, ◌++◌}
use mathlib.Core.Option.{none, some, none-ne-some, some-injective}
use Prim.Native.Nat.{ℕ, zero, suc, ◌-◌, ◌<◌, ◌≤◌}
use native.Mathlib.Omega.{arith}
use lib.Dec.{leb, ltb}
use lib.ListN.{length, drop, replicate, length-drop}
use borrow.Author.Tests.{le-leb, lt-leb, lt-ltb, ltb-true}
use Rattle.laws.proofs.Tests.{by_cases, and_intro, and_left, and_right, same_truth}
use Rattle.laws.proofs.Members.{all_map}
use Rattle.model.specs.Lists.{all, ascending}
use Rattle.model.specs.Values.{Dart, Block, Limits}
use Rattle.model.specs.Cells.{serials}
use Rattle.model.specs.Layouts.{Layout, Read, then, when, group, ◌⊗◌, ◌⊕◌, as_type, such_that, at_most, get_all, times, counted, ended, at_end, whole}
use Rattle.model.specs.Messages.{a_dart, file}
use Rattle.model.specs.Image.{words_of}
use Rattle.theory.proofs.LayoutLaws.{get_all_length, then_some, when_some}
use Rattle.memory.specs.Header.{header_words}
use Rattle.groups.proofs.Ends.{Ends, same_rest}
use Rattle.codec.specs.Taken.{Took}
use Rattle.codec.proofs.Taking.{Lacks, dependent_lacks, dependent_then_lacks, pair_lacks, pair_then_lacks, as_lacks}
use Rattle.codec.proofs.DartReads.{dart_ends}
use Rattle.newblock.specs.Serials.{raw}
use Rattle.newblock.proofs.Stored.{stored_raw}
use Rattle.readfile.specs.Parts.{climbs, climbing, placed_end, DartsStored, RawRead}

-- ORDER: each above the one before is all above the first, and ascending
climbs_first : (last : ℕ) (xs : List ℕ) → climbs last xs ≡ true → all (ltb last) xs ≡ true
unfolding climbs
climbs_first last [] e = refl
climbs_first last (x ∷ xs) e =
    let low = ltb-true last x (and_left (ltb last x) _ e) in
    and_intro (and_left (ltb last x) _ e) (lower xs low (climbs_first x xs (and_right (ltb last x) _ e)))
  where
    lower : (ys : List ℕ) → last < x → all (ltb x) ys ≡ true → all (ltb last) ys ≡ true
    lower [] l h = refl
    lower (y ∷ ys) l h = and_intro (lt-ltb last y (omega (arith, ltb-true x y (and_left (ltb x y) _ h)))) (lower ys l (and_right (ltb x y) _ h))

climbs_ascends : (last : ℕ) (xs : List ℕ) → climbs last xs ≡ true → ascending xs ≡ true
unfolding climbs ascending
climbs_ascends last [] e = refl
climbs_ascends last (x ∷ xs) e = let on = and_right (ltb last x) _ e in and_intro (climbs_first x xs on) (climbs_ascends x xs on)

ascends_climbs : (last : ℕ) (xs : List ℕ) → all (ltb last) xs ≡ true → ascending xs ≡ true → climbs last xs ≡ true
unfolding climbs ascending
ascends_climbs last [] a e = refl
ascends_climbs last (x ∷ xs) a e = and_intro (and_left (ltb last x) _ a) (ascends_climbs x xs (and_left (all (ltb x) xs) _ e) (and_right (all (ltb x) xs) _ e))

in_order_is : (ds : List Dart) → climbs 0 (serials ds) ≡ (all (λ d. leb 1 d.serial) ds && ascending (serials ds))
in_order_is ds = same_truth (climbs 0 (serials ds)) (all (λ d. leb 1 d.serial) ds && ascending (serials ds))
    (λ e. and_intro (sym (all_map (ltb 0) (λ (d : Dart). d.serial) ds) ∙ climbs_first 0 (serials ds) e) (climbs_ascends 0 (serials ds) e))
    (λ e. ascends_climbs 0 (serials ds) (all_map (ltb 0) (λ (d : Dart). d.serial) ds ∙ and_left (all (λ d. leb 1 d.serial) ds) _ e) (and_right (all (λ d. leb 1 d.serial) ds) _ e))

-- and what is left is part of what was there
all_short : {A : Type 0} (l : Layout A) → Ends l → (n : ℕ) (bs : List ℕ) (v : List A) (rest : List ℕ) → get_all l n bs ≡ some (v, rest) → length rest ≤ length bs
unfolding get_all
all_short l E zero bs v rest e = omega (arith, ap length (same_rest e))
all_short {A} l E (suc n) bs v rest e = go (then_some (l.get bs) _ _ e) (all_short l E n)
  where
    go : (a : A) × (s : List ℕ) × (l.get bs ≡ some (a, s)) × (then (get_all l n s) (λ w t. some (a ∷ w, t)) ≡ some (v, rest))
        → ((s : List ℕ) (w : List A) (t : List ℕ) → get_all l n s ≡ some (w, t) → length t ≤ length s) → length rest ≤ length bs
    go t ih =
        let u = then_some (get_all l n t.1) _ _ t.3 in
        let o = E bs t.0 t.1 t.2 in
        omega (arith, ap length (same_rest u.3), ih t.1 u.0 u.1 u.2, ap length o.left ∙ length-drop o.count bs)

climbing_all : (n : ℕ) (bs : List ℕ) (ds : List Dart) (rest : List ℕ) → (climbing n).get bs ≡ some (ds, rest) → get_all a_dart n bs ≡ some (ds, rest)
unfolding climbing such_that times
climbing_all n bs ds rest e =
    let t = then_some (get_all a_dart n bs) _ _ e in
    t.2 ∙ (when_some (climbs 0 (serials t.0)) _ _ t.3).1

-- THE PARTS
abbrev inner : Layout (ℕ × (ℕ × List Dart))
inner = at_most 15 ⊕ group ⊕ counted a_dart

counted_lacks : {s : List ℕ} {at : ℕ} → Lacks (group ⊗ (λ n. times n a_dart)) s at → Lacks (counted a_dart) s at
unfolding counted
counted_lacks e = as_lacks (λ p. p.1) (λ v. (length v, v)) (group ⊗ (λ n. times n a_dart)) e

-- by any limits
module _ (lim : Limits) where
  unread : {s : List ℕ} → Lacks inner s 0 → whole (file lim) s ≡ none
  unfolding whole file such_that as_type
  unread e = rw e.value

  pub no_number : {s : List ℕ} → Lacks (at_most 15) s 0 → whole (file lim) s ≡ none
  no_number e = unread (pair_lacks (at_most 15) (group ⊕ counted a_dart) e)

  module _ {s : List ℕ} {number a : ℕ} (p : Took (at_most 15) s 0 number a) where
    pub no_counter : Lacks group s a → whole (file lim) s ≡ none
    no_counter e = unread (pair_then_lacks (at_most 15) (group ⊕ counted a_dart) p (pair_lacks group (counted a_dart) e))

    module _ {counter b : ℕ} (q : Took group s a counter b) where
      pub no_count : Lacks group s b → whole (file lim) s ≡ none
      no_count e = unread (pair_then_lacks (at_most 15) (group ⊕ counted a_dart) p (pair_then_lacks group (counted a_dart) q (counted_lacks (dependent_lacks group (λ n. times n a_dart) e))))

      module _ {n c : ℕ} (r : Took group s b n c) where
        abbrev block_of : List Dart → Block
        block_of ds = record { number = number; counter = counter; darts = ds }

        abbrev kept : Read (List Dart) → Read Block
        kept w = then w (λ ds rest. when (leb (length ds) lim.block_darts && all (λ d. leb 1 d.serial) ds && ascending (serials ds)) (some (block_of ds, rest)))

        by_darts : (w : Read (List Dart)) → get_all a_dart n (drop c s) ≡ w → whole (file lim) s ≡ at_end (kept w)
        by_darts none e = unread (pair_then_lacks (at_most 15) (group ⊕ counted a_dart) p (pair_then_lacks group (counted a_dart) q
            (counted_lacks (dependent_then_lacks group (λ n. times n a_dart) r (record { value = unfold times in e })))))
        by_darts (some w) e = unfold whole file such_that as_type ◌⊕◌ ◌⊗◌ counted times in (rw (p.value, q.value, r.value, e) refl)

        -- no more darts than the limits say
        pub too_many : lim.block_darts < n → whole (file lim) s ≡ none
        too_many h = go (get_all a_dart n (drop c s)) refl
          where
            go : (w : Read (List Dart)) → get_all a_dart n (drop c s) ≡ w → whole (file lim) s ≡ none
            go none e = by_darts none e
            go (some w) e =
                let l = get_all_length a_dart n (drop c s) w.0 w.1 e in
                by_darts (some w) e ∙ rw (lt-leb (length w.0) lim.block_darts (omega arith)) refl

        -- darts in order, and nothing after them
        by_climbing : n ≤ lim.block_darts → (w : Read (List Dart)) → (climbing n).get (drop c s) ≡ w → whole (file lim) s ≡ at_end (then w (λ ds rest. some (block_of ds, rest)))
        unfolding climbing such_that times
        by_climbing h w f = go (get_all a_dart n (drop c s)) refl ∙ ap (λ (v : Read (List Dart)). at_end (then v (λ ds rest. some (block_of ds, rest)))) f
          where
            tested : (ds : List Dart) (rest : List ℕ) → length ds ≡ n
                → when (leb (length ds) lim.block_darts && all (λ d. leb 1 d.serial) ds && ascending (serials ds)) (some (block_of ds, rest))
                ≡ then (when (climbs 0 (serials ds)) (some (ds, rest))) (λ es rest. some (block_of es, rest))
            tested ds rest l = rw (le-leb (length ds) lim.block_darts (omega arith), ← in_order_is ds) (by_cases (climbs 0 (serials ds)) (λ t. rw t refl) (λ t. rw t refl))

            go : (v : Read (List Dart)) → get_all a_dart n (drop c s) ≡ v
                → whole (file lim) s ≡ at_end (then (then (get_all a_dart n (drop c s)) (λ ds rest. when (climbs 0 (serials ds)) (some (ds, rest)))) (λ ds rest. some (block_of ds, rest)))
            go none e = rw e (by_darts none e)
            go (some v) e = rw e (by_darts (some v) e ∙ ap at_end (tested v.0 v.1 (get_all_length a_dart n (drop c s) v.0 v.1 e)))

        pub no_darts : n ≤ lim.block_darts → None ≡ placed_end (length s) ((climbing n).get (drop c s)) → whole (file lim) s ≡ none
        no_darts h k = go ((climbing n).get (drop c s)) refl k
          where
            go : (w : Read (List Dart)) → (climbing n).get (drop c s) ≡ w → None ≡ placed_end (length s) w → whole (file lim) s ≡ none
            go none e q = by_climbing h none e
            go (some w) e q = let z : ◌≡◌ {A = ℕ} 0 1 = cc in absurd (omega arith)

        record Darts (next : ℕ) : Type 0 where
          darts : List Dart
          rest : List ℕ
          value : (climbing n).get (drop c s) ≡ some (darts, rest)
          next_is : next ≡ length s - length rest

        some_darts : {next : ℕ} → Some next ≡ placed_end (length s) ((climbing n).get (drop c s)) → Darts next
        some_darts {next} k = go ((climbing n).get (drop c s)) refl k
          where
            go : (w : Read (List Dart)) → (climbing n).get (drop c s) ≡ w → Some next ≡ placed_end (length s) w → Darts next
            go none e q = let z : ◌≡◌ {A = ℕ} 0 1 = cc in absurd (omega arith)
            go (some w) e q = let en : next ≡ length s - length w.1 = cc in record { darts = w.0; rest = w.1; value = e; next_is = en }

        rest_short : {next : ℕ} (d : Darts next) → length d.rest ≤ length s
        rest_short d = omega (arith, all_short a_dart dart_ends n (drop c s) d.darts d.rest (climbing_all n (drop c s) d.darts d.rest d.value), length-drop c s)

        pub left_over : n ≤ lim.block_darts → {next : ℕ} → Some next ≡ placed_end (length s) ((climbing n).get (drop c s)) → (next ≡ length s → ⊥) → whole (file lim) s ≡ none
        left_over h k ne = let d = some_darts k in by_climbing h (some (d.darts, d.rest)) d.value ∙ more d.darts d.rest (λ e. ne (d.next_is ∙ e))
          where
            more : (ds : List Dart) (rest : List ℕ) → (length s - length rest ≡ length s → ⊥) → ended (block_of ds) rest ≡ none
            more ds [] f = absurd (f (omega arith))
            more ds (y ∷ ys) f = refl

        pub record AllRead : Type 0 where
          pub darts : List Dart
          pub rest : List ℕ
          pub value : (climbing n).get (drop c s) ≡ some (darts, rest)
          pub count : length darts ≡ n
          pub whole_is : whole (file lim) s ≡ some (block_of darts)

        pub all_read : n ≤ lim.block_darts → {next : ℕ} → Some next ≡ placed_end (length s) ((climbing n).get (drop c s)) → next ≡ length s → AllRead
        all_read h k e =
            let d = some_darts k in
            record {
              darts = d.darts;
              rest = d.rest;
              value = d.value;
              count = get_all_length a_dart n (drop c s) d.darts d.rest (climbing_all n (drop c s) d.darts d.rest d.value);
              whole_is = by_climbing h (some (d.darts, d.rest)) d.value ∙ none_left d.darts d.rest (omega (arith, rest_short d, d.next_is, e));
            }
          where
            none_left : (ds : List Dart) (rest : List ℕ) → length rest ≡ 0 → ended (block_of ds) rest ≡ some (block_of ds)
            none_left ds [] f = refl
            none_left ds (y ∷ ys) f = absurd (omega arith)

-- THE ANSWER
pub raw_refused : {lim : Limits} {s after : List ℕ} → whole (file lim) s ≡ none → RawRead lim s after false
raw_refused e = record { answer = rw e; memory = λ b q. absurd (none-ne-some b (sym e ∙ q)) }

pub raw_served : (lim : Limits) {s : List ℕ} {number a counter b n c : ℕ} (p : Took (at_most 15) s 0 number a) (q : Took group s a counter b) (r : Took group s b n c)
    → n ≤ lim.block_darts → (m : List ℕ) → m ≡ replicate (words_of lim) 0 → {x y : List ℕ} {next : ℕ} → DartsStored s c n m x (Some next) → next ≡ length s
    → y ≡ header_words (record { number = number; counter = counter; darts = n }) ++ drop 8 x → RawRead lim s y true
raw_served lim {s} {number} {a} {counter} {b} {n} {c} p q r h m em {x} {y} {next} k e f =
    let t = all_read lim p q r h k.answer e in
    let whole-block : Block = record { number = number; counter = counter; darts = t.darts } in
    let filled : y ≡ raw (words_of lim) whole-block = f ∙ ap (λ (i : ℕ). header_words (record { number = number; counter = counter; darts = i }) ++ drop 8 x) (sym t.count)
    ∙ ap (λ (l : List ℕ). header_words (record { number = number; counter = counter; darts = length t.darts }) ++ drop 8 l) (k.memory t.darts t.rest t.value)
    ∙ stored_raw (words_of lim) m whole-block em (omega (arith, t.count)) in
    record { answer = rw t.whole_is; memory = λ d g. filled ∙ ap (raw (words_of lim)) (some-injective whole-block d (sym t.whole_is ∙ g)) }
