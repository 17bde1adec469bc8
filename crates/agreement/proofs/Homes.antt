-- A sound mesh, dart by dart: where each dart is, and what a lookup in the whole mesh gives. Assumes nothing.
use mathlib.Core.Path.{◌≡◌, refl, sym, ◌∙◌, subst}
use mathlib.Core.Logic.{◌⊎◌, inl, inr, ◌≢◌}
use mathlib.Core.Bool.{Bool, true, false, true≢false, not, ◌&&◌}
use mathlib.Core.List.{List, [], ◌∷◌, ◌++◌}
use Prim.Native.Nat.{ℕ, zero, suc, ◌+◌, ◌<◌, ◌≤◌}
use native.Mathlib.Omega.{arith}
use native.Mathlib.Nat.{not-suc-le-zero, zero-add, add-zero}
use lib.Dec.{leb, ltb, eqb}
use lib.ListN.{length, get_or}
use borrow.Author.Tests.{eqb-true, eqb-false, ne_eqb, ltb-true, ltb-false, lt-ltb, leb-true, not-true}
use Rattle.model.specs.Lists.{all, keep, more, mem, distinct, ascending, find, insert, sorted}
use Rattle.model.specs.Values.{Dart, Block, Limits, no_block}
use Rattle.model.specs.Cells.{serials}
use Rattle.model.specs.Sound.{sound_block, block_at, all_darts, numbered_from, blocks_right, serials_distinct, Sound}
use Rattle.model.specs.UndividedRun.{holder}
use Rattle.laws.proofs.Members.{In, in_here, in_there, in_keep, in_cons, in_eq, all_from, in_append_left, in_append_right, append_in, distinct_right, distinct_apart, absent, ascending_distinct, map_append, distinct_fewer}
use Rattle.laws.proofs.Tests.{by_cases, and_intro, and_left, and_right, all_at}
use Rattle.theory.proofs.BlockLaws.{Links, links_from}
use Rattle.theory.proofs.ImageLaws.{Parts, parts_of, ranges_of}
use Rattle.theory.proofs.MeshLaws.{MeshParts, mesh_parts}

-- SORTED LISTS
insert_num_in : (x : ℕ) (l : List ℕ) (y : ℕ) → In y (insert (λ z. z) x l) → (y ≡ x) ⊎ In y l
insert_num_in x [] y h = in_cons y x [] h (λ e. inl e) (λ q. inr q)
insert_num_in x (z ∷ l) y h = by_cases (ltb x z)
    (λ t. in_cons y x (z ∷ l) (rw t at h) (λ e. inl e) (λ q. inr q))
    (λ t. in_cons y z (insert (λ z. z) x l) (rw t at h) (λ e. inr (in_eq y z (z ∷ l) e (in_here z l))) (λ q. on (insert_num_in x l y q)))
  where
    on : (y ≡ x) ⊎ In y l → (y ≡ x) ⊎ In y (z ∷ l)
    on (inl e) = inl e
    on (inr q) = inr (in_there y z l q)

in_insert_num : (x : ℕ) (l : List ℕ) (y : ℕ) → (y ≡ x) ⊎ In y l → In y (insert (λ z. z) x l)
in_insert_num x [] y (inl e) = in_eq y x (x ∷ []) e (in_here x [])
in_insert_num x [] y (inr h) = absurd (true≢false (sym h))
in_insert_num x (z ∷ l) y h = by_cases (ltb x z) (λ t. rw t (first h)) (λ t. rw t (rest h (in_insert_num x l y)))
  where
    first : (y ≡ x) ⊎ In y (z ∷ l) → In y (x ∷ z ∷ l)
    first (inl e) = in_eq y x (x ∷ z ∷ l) e (in_here x (z ∷ l))
    first (inr q) = in_there y x (z ∷ l) q

    rest : (y ≡ x) ⊎ In y (z ∷ l) → ((y ≡ x) ⊎ In y l → In y (insert (λ z. z) x l)) → In y (z ∷ insert (λ z. z) x l)
    rest (inl e) ih = in_there y z (insert (λ z. z) x l) (ih (inl e))
    rest (inr q) ih = in_cons y z l q (λ e. in_eq y z (z ∷ insert (λ z. z) x l) e (in_here z (insert (λ z. z) x l))) (λ w. in_there y z (insert (λ z. z) x l) (ih (inr w)))

strictly : (a b : ℕ) → a ≤ b → a ≢ b → a < b
strictly a b l n = by_cases (eqb a b) (λ q. absurd (n (eqb-true a b q))) (λ q. omega (arith, eqb-false a b q))

insert_num_ascends : (x : ℕ) (l : List ℕ) → ascending l ≡ true → mem x l ≡ false → ascending (insert (λ z. z) x l) ≡ true
unfolding ascending
insert_num_ascends x [] a n = refl
insert_num_ascends x (z ∷ l) a n = by_cases (ltb x z)
    (λ t. let less = ltb-true x z t in rw t (and_intro (and_intro t (all_from (ltb x) l (λ y m. let up = absent z l (and_left _ _ a) y m in lt-ltb x y (omega arith)))) a))
    (λ t. let more = ltb-false x z t in by_cases (eqb x z)
    (λ s. absurd (true≢false (sym (rw s) ∙ n)))
    (λ s. rw t (and_intro (all_from (ltb z) (insert (λ z. z) x l) (λ y m. above y (insert_num_in x l y m) (strictly z x more (λ q. eqb-false x z s (sym q)))))
    (insert_num_ascends x l (and_right (all (ltb z) l) _ a) (rw s at n)))))
  where
    above : (y : ℕ) → (y ≡ x) ⊎ In y l → z < x → ltb z y ≡ true
    above y (inl q) more = rw q (lt-ltb z x more)
    above y (inr q) more = lt-ltb z y (absent z l (and_left _ _ a) y q)

pub sorted_in : (l : List ℕ) (y : ℕ) → In y (sorted l) → In y l
sorted_in [] y h = h
sorted_in (x ∷ l) y h = go (insert_num_in x (sorted l) y h) (sorted_in l y)
  where
    go : (y ≡ x) ⊎ In y (sorted l) → (In y (sorted l) → In y l) → In y (x ∷ l)
    go (inl e) ih = in_eq y x (x ∷ l) e (in_here x l)
    go (inr q) ih = in_there y x l (ih q)

pub in_sorted : (l : List ℕ) (y : ℕ) → In y l → In y (sorted l)
in_sorted [] y h = h
in_sorted (x ∷ l) y h = in_insert_num x (sorted l) y (in_cons y x l h (λ e. inl e) (λ q. inr (in_sorted l y q)))

pub sorted_ascends : (l : List ℕ) → distinct l ≡ true → ascending (sorted l) ≡ true
unfolding ascending
sorted_ascends [] d = refl
sorted_ascends (x ∷ l) d = insert_num_ascends x (sorted l) (sorted_ascends l (and_right (not (mem x l)) _ d)) (go (mem x (sorted l)) refl)
  where
    go : (o : Bool) → mem x (sorted l) ≡ o → mem x (sorted l) ≡ false
    go false e = e
    go true e = absurd (true≢false (sym (sorted_in l x e) ∙ not-true (mem x l) (and_left _ _ d)))

-- DARTS OF A LIST OF BLOCKS
find_left : (x : ℕ) (l r : List Dart) → In x (serials l) → find (λ d. d.serial) x (l ++ r) ≡ find (λ d. d.serial) x l
find_left x [] r h = absurd (true≢false (sym h))
find_left x (d ∷ l) r h = by_cases (eqb x d.serial) (λ e. rw e) (λ e. rw e (find_left x l r (rw e at h)))

find_right : (x : ℕ) (l r : List Dart) → mem x (serials l) ≡ false → find (λ d. d.serial) x (l ++ r) ≡ find (λ d. d.serial) x r
find_right x [] r h = refl
find_right x (d ∷ l) r h = by_cases (eqb x d.serial) (λ e. absurd (true≢false (sym (rw e) ∙ h))) (λ e. rw e (find_right x l r (rw e at h)))

-- where a dart is
pub record Home (m : List Block) (b x : ℕ) : Type 0 where
  pub looked_up : find (λ d. d.serial) x (all_darts m) ≡ find (λ d. d.serial) x (block_at m b).darts
  pub holds : holder m x ≡ (block_at m b).number
  pub in_mesh : In x (serials (all_darts m))

pub home : (m : List Block) → distinct (serials (all_darts m)) ≡ true → (b x : ℕ) → b < length m → In x (serials (block_at m b).darts) → Home m b x
unfolding all_darts block_at holder
home [] d b x l h = absurd (not-suc-le-zero l)
home (c ∷ m) d zero x l h = record {
  looked_up = find_left x c.darts (all_darts m) h;
  holds = rw h;
  in_mesh = rw (map_append (λ e. e.serial) c.darts (all_darts m)) (in_append_left x (serials c.darts) (serials (all_darts m)) h);
}
home (c ∷ m) d (suc b) x l h =
    let d' : distinct (serials c.darts ++ serials (all_darts m)) ≡ true = rw (map_append (λ e. e.serial) c.darts (all_darts m)) at d in
    let ih = home m (distinct_right (serials c.darts) (serials (all_darts m)) d') b x (omega arith) h in
    let out : mem x (serials c.darts) ≡ false = distinct_apart (serials c.darts) (serials (all_darts m)) d' x ih.in_mesh in
    record {
      looked_up = find_right x c.darts (all_darts m) out ∙ ih.looked_up;
      holds = rw out ih.holds;
      in_mesh = rw (map_append (λ e. e.serial) c.darts (all_darts m)) (in_append_right x (serials c.darts) (serials (all_darts m)) ih.in_mesh);
    }

pub homes : (m : List Block) (x : ℕ) → In x (serials (all_darts m)) → (b : ℕ) × (b < length m) × In x (serials (block_at m b).darts)
unfolding all_darts block_at
homes [] x h = absurd (true≢false (sym h))
homes (c ∷ m) x h = go (append_in x (serials c.darts) (serials (all_darts m)) (rw (map_append (λ e. e.serial) c.darts (all_darts m)) at h)) (homes m x)
  where
    go : In x (serials c.darts) ⊎ In x (serials (all_darts m)) → (In x (serials (all_darts m)) → (b : ℕ) × (b < length m) × In x (serials (get_or m b no_block).darts))
        → (b : ℕ) × (b < suc (length m)) × In x (serials (get_or (c ∷ m) b no_block).darts)
    go (inl a) ih = (0, omega arith, a)
    go (inr a) ih = let q = ih a in (suc q.0, omega (arith, q.1), q.2)

numbered_at : (i : ℕ) (m : List Block) (b : ℕ) → numbered_from i m ≡ true → b < length m → (block_at m b).number ≡ i + b
unfolding numbered_from block_at
numbered_at i [] b h l = absurd (not-suc-le-zero l)
numbered_at i (c ∷ m) zero h l = eqb-true c.number i (and_left _ _ h) ∙ sym (add-zero i)
numbered_at i (c ∷ m) (suc b) h l = numbered_at (suc i) m b (and_right (eqb c.number i) _ h) (omega arith) ∙ omega arith

-- three different elements are not among two
pub one_of_two : (q : ℕ → Bool) (x e y : ℕ) (l : List ℕ) → length (keep q l) ≡ 2 → In x l → In e l → In y l → q x ≡ true → q e ≡ true → q y ≡ true → x ≢ e → (x ≡ y) ⊎ (e ≡ y)
one_of_two q x e y l two hx he hy px pe py ne = by_cases (eqb x y)
    (λ a. inl (eqb-true x y a))
    (λ a. by_cases (eqb e y) (λ b. inr (eqb-true e y b)) (λ b. absurd (three (eqb-false x y a) (eqb-false e y b))))
  where
    three : x ≢ y → e ≢ y → ⊥
    three xy ey =
        let d : distinct (x ∷ e ∷ y ∷ []) ≡ true = rw (ne_eqb x e ne, ne_eqb x y xy, ne_eqb e y ey) in
        let more = distinct_fewer (x ∷ e ∷ y ∷ []) (keep q l) d (λ z h. in_cons z x (e ∷ y ∷ []) h (λ s. rw s (in_keep q x l hx px))
        (λ h2. in_cons z e (y ∷ []) h2 (λ s. rw s (in_keep q e l he pe)) (λ h3. in_cons z y [] h3 (λ s. rw s (in_keep q y l hy py)) (λ h4. absurd (true≢false (sym h4)))))) in
        omega arith

module _ (lims : ℕ → Limits) (m : List Block) (sound : Sound lims m) where
  abbrev pub parts : MeshParts lims m
  parts = mesh_parts lims m sound

  pub distinct_all : distinct (serials (all_darts m)) ≡ true
  unfolding serials_distinct
  distinct_all = parts.distinct_serials

  pub block_number : (b : ℕ) → b < length m → (block_at m b).number ≡ b
  unfolding blocks_right
  block_number b h = numbered_at 0 m b (and_right (leb 1 (length m) && leb (length m) 16) _ parts.blocks) h ∙ zero-add b

  pub block_counts : (1 ≤ length m) × (length m ≤ 16)
  unfolding blocks_right
  block_counts =
      let two = and_left (leb 1 (length m) && leb (length m) 16) _ parts.blocks in
      (leb-true 1 (length m) (and_left (leb 1 (length m)) _ two), leb-true (length m) 16 (and_right (leb 1 (length m)) _ two))

  pub block_is_sound : (b : ℕ) → b < length m → Parts (lims b) (block_at m b)
  unfolding block_at
  block_is_sound b h =
      let s = all_at (λ c. sound_block (lims c.number) c) no_block m b parts.blocks_sound h in
      parts_of (lims b) (block_at m b) (subst (λ (n : ℕ). sound_block (lims n) (get_or m b no_block) ≡ true) (block_number b h) s)

  pub block_links : (b : ℕ) → b < length m → Links (block_at m b).darts
  block_links b h =
      let p = block_is_sound b h in links_from (block_at m b).darts
      (ascending_distinct (serials (block_at m b).darts) (ranges_of (lims b) (block_at m b) p.ranges).in_order) p.links

  pub home_of : (b x : ℕ) → b < length m → In x (serials (block_at m b).darts) → Home m b x
  home_of = home m distinct_all

  pub holder_is : (b x : ℕ) → b < length m → In x (serials (block_at m b).darts) → holder m x ≡ b
  holder_is b x l h = (home_of b x l h).holds ∙ block_number b l

  pub one_home : (b c x : ℕ) → b < length m → c < length m → In x (serials (block_at m b).darts) → In x (serials (block_at m c).darts) → b ≡ c
  one_home b c x l n h p = sym (holder_is b x l h) ∙ holder_is c x n p
