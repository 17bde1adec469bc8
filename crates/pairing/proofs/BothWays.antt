-- Questions 25 and 26 of a mesh are the tests of its keys in order, two by two. Assumes nothing.
use mathlib.Core.Path.{◌≡◌, refl, sym, ap, ◌∙◌}
use mathlib.Core.Bool.{Bool, true, false, true≢false, ◌&&◌}
use mathlib.Core.List.{List}
use Prim.Native.Nat.{ℕ, ◌+◌, ◌*◌, ◌/◌, ◌%◌, ◌<◌}
use native.Mathlib.Omega.{arith}
use lib.Dec.{eqb}
use lib.ListN.{get_or}
use borrow.Author.Tests.{eqb-true, eq-eqb}
use Rattle.model.specs.Lists.{all, sorted}
use Rattle.model.specs.Values.{Dart, Block, same_point}
use Rattle.model.specs.Sound.{paired, labels_paired, same_across, points_across}
use Rattle.model.specs.Image.{column, is_critical_word, other_in, third_in, dart_in, block_in}
use Rattle.laws.proofs.Tests.{by_cases, and_intro, and_left, and_right, same_truth}
use Rattle.laws.proofs.Members.{In}
use Rattle.laws.proofs.Tables.{all_tab, tab_all}
use Rattle.columns.specs.Columns.{count, Kind, kind_free, kind_sewn, kind_critical}
use Rattle.columns.proofs.Thirds.{third_free, third_sewn}
use Rattle.sort.specs.Order.{Sorted}
use Rattle.sort.proofs.Order.{sorted_in_order, sorted_keys}
use Rattle.mesh.specs.Parts.{block_count, part}
use Rattle.mesh.proofs.Parts.{mesh_tab}
use Rattle.pairing.specs.Numbers.{MeshAsked, word, next_number, before_of, PlacesBefore, side_test, meet_test}
use Rattle.pairing.specs.Keys.{dart_key, all_keys, in_pairs, each_pair, label_pair, point_pair}
use Rattle.pairing.proofs.InPairs.{times, twins, Mate, mates, both_tests, same_members, same_back}
use Rattle.pairing.proofs.Members.{Origin, all_in, in_all, key_code}
use Rattle.pairing.proofs.InBlocks.{third_of, kind_at, before_at, next_lt}
use Rattle.pairing.proofs.InBlocks.{names_other, mesh_of, few, passed, number_is}
use Rattle.pairing.proofs.Facing.{Facing, paired_is, across_is, stands_twice, facing}

-- DARTS BY NUMBER
-- a number is that of the dart at place p of block i
pub record Sits (g i p : ℕ) : Type 0 where
  pub in_block : g / 4096 ≡ i
  pub at_place : g % 4096 ≡ p

pub word_at : (m : List ℕ) (f : ℕ) {g i p : ℕ} → Sits g i p → word m f g ≡ column (part m i) f p
word_at m f {g} {i} {p} s = ap (λ (x : ℕ). column (part m x) f (g % 4096)) s.in_block ∙ ap (column (part m i) f) s.at_place

pub sits_next : (m : List ℕ) {g i p : ℕ} → Sits g i p → column (part m i) 1 p < 4096 → Sits (next_number m g) i (column (part m i) 1 p)
sits_next m {g} {i} {p} s h = record { in_block = block w h ∙ s.in_block; at_place = place w h }
  where
    w : word m 1 g ≡ column (part m i) 1 p
    w = word_at m 1 s

    block : {x y : ℕ} → x ≡ y → y < 4096 → (g / 4096 * 4096 + x) / 4096 ≡ g / 4096
    block u v = omega arith

    place : {x y : ℕ} → x ≡ y → y < 4096 → (g / 4096 * 4096 + x) % 4096 ≡ y
    place u v = omega arith

pub sits_before : (t : List ℕ) {g i q r : ℕ} → Sits g i q → get_or t (i * 4096 + q) 0 ≡ r → r < 4096 → Sits (before_of t g) i r
sits_before t {g} {i} {q} {r} s e h = record { in_block = block w h ∙ s.in_block; at_place = place w h }
  where
    w : get_or t g 0 ≡ r
    w = ap (λ (x : ℕ). get_or t x 0) (whole s.in_block s.at_place) ∙ e
      where
        whole : g / 4096 ≡ i → g % 4096 ≡ q → g ≡ i * 4096 + q
        whole a b = omega arith

    block : {x y : ℕ} → x ≡ y → y < 4096 → (g / 4096 * 4096 + x) / 4096 ≡ g / 4096
    block u v = omega arith

    place : {x y : ℕ} → x ≡ y → y < 4096 → (g / 4096 * 4096 + x) % 4096 ≡ y
    place u v = omega arith

-- the number in a key
key_sits : {v : ℕ} (a i p : ℕ) → v ≡ a * 65536 + (i * 4096 + p) → i < 16 → p < 4096 → Sits (v % 65536) i p
key_sits {v} a i p e h l = record { in_block = one; at_place = two }
  where
    one : v % 65536 / 4096 ≡ i
    one = omega arith

    two : v % 65536 % 4096 ≡ p
    two = omega arith

-- THE TESTS by places
module _ (m t : List ℕ) {g h i p j q r : ℕ} (s : Sits g i p) (u : Sits h j q) where
  side_is : column (part m i) 1 p < 4096 → get_or t (j * 4096 + q) 0 ≡ r → r < 4096
      → side_test m t g h ≡ (eqb (other_in (column (part m i) 3 p)) j && eqb (column (part m i) 4 (column (part m i) 1 p)) (column (part m j) 4 r))
  unfolding side_test
  side_is n e l =
      let s' = sits_next m s n in
      let u' = sits_before t u e l in
      ap (λ (x : ℕ). eqb (other_in x) (h / 4096) && eqb (word m 4 (next_number m g)) (word m 4 (before_of t h))) (word_at m 3 s)
      ∙ ap (λ (x : ℕ). eqb (other_in (column (part m i) 3 p)) x && eqb (word m 4 (next_number m g)) (word m 4 (before_of t h))) u.in_block
      ∙ ap (λ (x : ℕ). eqb (other_in (column (part m i) 3 p)) j && eqb x (word m 4 (before_of t h))) (word_at m 4 s')
      ∙ ap (λ (x : ℕ). eqb (other_in (column (part m i) 3 p)) j && eqb (column (part m i) 4 (column (part m i) 1 p)) x) (word_at m 4 u')

module _ (m : List ℕ) {g h i p j q : ℕ} (s : Sits g i p) (u : Sits h j q) where
  meet_is : column (part m j) 1 q < 4096 → meet_test m g h ≡ same_point (dart_in (part m i) p).point (dart_in (part m j) (column (part m j) 1 q)).point
  unfolding meet_test same_point
  meet_is n =
      let u' = sits_next m u n in
      points (word_at m 5 s) (word_at m 6 s) (word_at m 7 s)
      (word_at m 5 u') (word_at m 6 u') (word_at m 7 u')
    where
      points : {a a' b b' c c' d d' e e' f f' : ℕ} → a ≡ a' → b ≡ b' → c ≡ c' → d ≡ d' → e ≡ e' → f ≡ f'
          → (eqb a d && eqb b e && eqb c f) ≡ (eqb a' d' && eqb b' e' && eqb c' f')
      points p1 p2 p3 p4 p5 p6 = λ i. eqb (p1 i) (p4 i) && eqb (p2 i) (p5 i) && eqb (p3 i) (p6 i)

-- A DART THAT IS NOT CRITICAL passes
easy_label : (M : List Block) (b : Block) (d : Dart) (s : ℕ → ℕ) (k x : ℕ) → Kind k x → is_critical_word k ≡ false → paired M b d (third_in s k x) ≡ true
unfolding paired
easy_label M b d s k x (kind_free e f) n = ap (paired M b d) (third_free s k x e)
easy_label M b d s k x (kind_sewn e) n = ap (paired M b d) (third_sewn s k x e)
easy_label M b d s k x (kind_critical e f g) n = absurd (true≢false (sym e ∙ n))

easy_point : (M : List Block) (d : Dart) (s : ℕ → ℕ) (k x : ℕ) → Kind k x → is_critical_word k ≡ false → same_across M d (third_in s k x) ≡ true
unfolding same_across
easy_point M d s k x (kind_free e f) n = ap (same_across M d) (third_free s k x e)
easy_point M d s k x (kind_sewn e) n = ap (same_across M d) (third_sewn s k x e)
easy_point M d s k x (kind_critical e f g) n = absurd (true≢false (sym e ∙ n))

-- ALL DARTS
module _ (m : List ℕ) (q : Block → Dart → Bool) where
  abbrev every : List Block → Bool
  every M = all (λ b. all (q b) b.darts) M

  every_at : every (mesh_of m) ≡ true → (i p : ℕ) → i < block_count m → p < count (part m i) → q (block_in (part m i)) (dart_in (part m i) p) ≡ true
  every_at e i p h l = all_tab (q (block_in (part m i))) (dart_in (part m i)) (count (part m i))
      (all_tab (λ b. all (q b) b.darts) (λ j. block_in (part m j)) (block_count m) (ap every (sym (mesh_tab m)) ∙ e) i h) p l

  at_every : ((i p : ℕ) → i < block_count m → p < count (part m i) → q (block_in (part m i)) (dart_in (part m i) p) ≡ true) → every (mesh_of m) ≡ true
  at_every each = ap every (mesh_tab m) ∙ tab_all (λ b. all (q b) b.darts) (λ j. block_in (part m j)) (block_count m)
      (λ i h. tab_all (q (block_in (part m i))) (dart_in (part m i)) (count (part m i)) (λ p l. each i p h l))

-- BOTH WAYS
module _ {m : List ℕ} (a : MeshAsked m) where
  abbrev keys : List ℕ
  keys = sorted (all_keys m (block_count m))

  in_order : Sorted keys
  in_order = sorted_in_order (all_keys m (block_count m))

  small : (i p : ℕ) → i < block_count m → p < count (part m i) → p < 4096
  small i p hi hp = let f = (passed a i hi).range.few in omega (arith, hp, f)

  next_small : (i p : ℕ) → i < block_count m → p < count (part m i) → column (part m i) 1 p < 4096
  next_small i p hi hp = small i (column (part m i) 1 p) hi (next_lt (passed a i hi) p hp)

  block_small : (i : ℕ) → i < block_count m → i < 16
  block_small i hi = omega (arith, few a, hi)

  -- a key that is there
  pub origin : (v : ℕ) → In v keys → Origin m (block_count m) v
  origin v h = all_in m (block_count m) v (same_members (all_keys m (block_count m)) keys (sorted_keys (all_keys m (block_count m))) v h)

  there : (i p : ℕ) → i < block_count m → p < count (part m i) → is_critical_word (column (part m i) 3 p) ≡ true → In (dart_key (part m i) i p) keys
  there i p hi hp c = same_back (all_keys m (block_count m)) keys (sorted_keys (all_keys m (block_count m))) (dart_key (part m i) i p) (in_all m (block_count m) i p hi hp c)

  pub sits : (v i p : ℕ) → i < block_count m → p < count (part m i) → v ≡ dart_key (part m i) i p → Sits (v % 65536) i p
  sits v i p hi hp e = key_sits (column (part m i) 4 p) i p e (block_small i hi) (small i p hi hp)

  code_is : (v i p : ℕ) → i < block_count m → p < count (part m i) → v ≡ dart_key (part m i) i p → v / 65536 ≡ column (part m i) 4 p
  code_is v i p hi hp e = ap (λ (x : ℕ). x / 65536) e ∙ key_code (column (part m i) 4 p) i p (block_small i hi) (small i p hi hp)

  times_same : (x : ℕ) → times x (all_keys m (block_count m)) ≡ times x keys
  times_same x = sorted_keys (all_keys m (block_count m)) (λ y. eqb x (y / 65536))

  -- the other way round
  turned : {i p j q : ℕ} → i < block_count m → p < count (part m i) → is_critical_word (column (part m i) 3 p) ≡ true → Facing m i p j q → Facing m j q i p
  turned hi hp c f = record { block_lt = hi; place_lt = hp; critical_there = c; same = sym f.same; names = f.named; named = f.names }

  meets : {g h i p j q : ℕ} → j < block_count m → q < count (part m j) → Sits g i p → Sits h j q
      → meet_test m g h ≡ same_point (dart_in (part m i) p).point (dart_in (part m j) (column (part m j) 1 q)).point
  meets {g} {h} {i} {p} {j} {q} hj hq s u = meet_is m s u (next_small j q hj hq)

  module _ {t : List ℕ} (b : PlacesBefore m t) where
    abbrev labels_right : Bool
    labels_right = labels_paired (mesh_of m)

    module _ {g h i p j q : ℕ} (hi : i < block_count m) (hp : p < count (part m i)) (hj : j < block_count m) (hq : q < count (part m j)) (s : Sits g i p) (u : Sits h j q) where
      abbrev last : ℕ
      last = (before_at (passed a j hj) q hq).0

      sides : side_test m t g h ≡ (eqb (other_in (column (part m i) 3 p)) j && eqb (column (part m i) 4 (column (part m i) 1 p)) (column (part m j) 4 last))
      sides =
          let r = before_at (passed a j hj) q hq in
          side_is m t s u (next_small i p hi hp) (ap (λ (x : ℕ). get_or t (j * 4096 + x) 0) (sym r.2) ∙ b.at j r.0 hj r.1) (small j r.0 hj r.1)

      paired_side : is_critical_word (column (part m i) 3 p) ≡ true → Facing m i p j q
          → paired (mesh_of m) (block_in (part m i)) (dart_in (part m i) p) (third_of (part m i) p) ≡ (eqb (times (column (part m i) 4 p) (all_keys m (block_count m))) 2 && side_test m t g h)
      paired_side c f =
          let r = before_at (passed a j hj) q hq in
          paired_is a i p hi hp c f r.0 r.1 r.2
          ∙ ap (λ (x : Bool). eqb (times (column (part m i) 4 p) (all_keys m (block_count m))) 2 && x)
          (sym (sides ∙ first (eqb (other_in (column (part m i) 3 p)) j) (eq-eqb (other_in (column (part m i) 3 p)) j f.names)))
        where
          first : (x : Bool) {y : Bool} → x ≡ true → (x && y) ≡ y
          first x e = rw e refl

    -- A YES TO 25 gives each key its mate
    labels_at : labels_right ≡ true → (i p : ℕ) → i < block_count m → p < count (part m i) → paired (mesh_of m) (block_in (part m i)) (dart_in (part m i) p) (third_of (part m i) p) ≡ true
    unfolding labels_paired
    labels_at e i p h l = every_at m (λ b d. paired (mesh_of m) b d d.third) e i p h l

    record Met (v : ℕ) : Type 0 where
      from : Origin m (block_count m) v
      block : ℕ
      place : ℕ
      faces : Facing m from.block from.place block place
      twice : times (v / 65536) keys ≡ 2
      so : label_pair m t v (dart_key (part m block) block place) ≡ true

    met : labels_right ≡ true → (v : ℕ) → In v keys → Met v
    unfolding label_pair
    met e v h =
        let o = origin v h in
        let i = o.block in
        let p = o.place in
        let yes = labels_at e i p o.block_lt o.place_lt in
        let f = facing a i p o.block_lt o.place_lt o.labelled yes in
        let j = other_in (column (part m i) 3 p) in
        let q = f.0 in
        let F = f.1 in
        let w = dart_key (part m j) j q in
        let s = sits v i p o.block_lt o.place_lt o.is in
        let u = sits w j q F.block_lt F.place_lt refl in
        let back = labels_at e j q F.block_lt F.place_lt in
        record {
          from = o;
          block = j;
          place = q;
          faces = F;
          twice =
              sym (times_same (v / 65536))
              ∙ ap (λ (x : ℕ). times x (all_keys m (block_count m))) (code_is v i p o.block_lt o.place_lt o.is)
              ∙ stands_twice a i p o.block_lt o.place_lt o.labelled yes;
          so = and_intro
              (and_right (eqb (times (column (part m i) 4 p) (all_keys m (block_count m))) 2) _ (sym (paired_side o.block_lt o.place_lt F.block_lt F.place_lt s u o.labelled F) ∙ yes))
              (and_right (eqb (times (column (part m j) 4 q) (all_keys m (block_count m))) 2) _ (sym (paired_side F.block_lt F.place_lt o.block_lt o.place_lt u s F.critical_there (turned o.block_lt o.place_lt o.labelled F)) ∙ back));
        }

    mate_by : (r : ℕ → ℕ → Bool) (v : ℕ) (k : Met v) → r v (dart_key (part m k.block) k.block k.place) ≡ true → Mate r keys v
    mate_by r v k e =
        let o = k.from in
        let F = k.faces in
        let w = dart_key (part m k.block) k.block k.place in
        let s = sits v o.block o.place o.block_lt o.place_lt o.is in
        let u = sits w k.block k.place F.block_lt F.place_lt refl in
        record {
          mate = w;
          there = there k.block k.place F.block_lt F.place_lt F.critical_there;
          other = λ x. names_other (passed a o.block o.block_lt) o.place o.place_lt o.labelled
              (F.names ∙ sym u.in_block ∙ ap (λ (y : ℕ). y % 65536 / 4096) x ∙ s.in_block ∙ sym (number_is a o.block o.block_lt));
          same = code_is w k.block k.place F.block_lt F.place_lt refl ∙ F.same ∙ sym (code_is v o.block o.place o.block_lt o.place_lt o.is);
          so = e;
          twice = k.twice;
        }

    -- THE TESTS give each critical dart one that faces it
    record Faced (i p v w : ℕ) : Type 0 where
      block : ℕ
      place : ℕ
      faces : Facing m i p block place
      is : w ≡ dart_key (part m block) block place

    faced : (i p : ℕ) → i < block_count m → p < count (part m i) → is_critical_word (column (part m i) 3 p) ≡ true → (w : ℕ) → In w keys → w / 65536 ≡ dart_key (part m i) i p / 65536
        → label_pair m t (dart_key (part m i) i p) w ≡ true → Faced i p (dart_key (part m i) i p) w
    unfolding label_pair
    faced i p hi hp c w h e l =
        let v = dart_key (part m i) i p in
        let o = origin w h in
        let j = o.block in
        let q = o.place in
        let s = sits v i p hi hp refl in
        let u = sits w j q o.block_lt o.place_lt o.is in
        let x = sym (sides hi hp o.block_lt o.place_lt s u) ∙ and_left (side_test m t (v % 65536) (w % 65536)) _ l in
        let y = sym (sides o.block_lt o.place_lt hi hp u s) ∙ and_right (side_test m t (v % 65536) (w % 65536)) _ l in
        record {
          block = j;
          place = q;
          faces = record {
            block_lt = o.block_lt;
            place_lt = o.place_lt;
            critical_there = o.labelled;
            same = sym (code_is w j q o.block_lt o.place_lt o.is) ∙ e ∙ code_is v i p hi hp refl;
            names = eqb-true (other_in (column (part m i) 3 p)) j (and_left (eqb (other_in (column (part m i) 3 p)) j) _ x);
            named = eqb-true (other_in (column (part m j) 3 q)) i (and_left (eqb (other_in (column (part m j) 3 q)) i) _ y);
          };
          is = o.is;
        }

    label_flip : (x y : ℕ) → label_pair m t x y ≡ true → label_pair m t y x ≡ true
    unfolding label_pair
    label_flip x y e = and_intro (and_right (side_test m t (x % 65536) (y % 65536)) _ e) (and_left (side_test m t (x % 65536) (y % 65536)) _ e)

    point_flip : (x y : ℕ) → point_pair m x y ≡ true → point_pair m y x ≡ true
    unfolding point_pair
    point_flip x y e = and_intro (and_right (meet_test m (x % 65536) (y % 65536)) _ e) (and_left (meet_test m (x % 65536) (y % 65536)) _ e)

    -- 25
    tests_labels : in_pairs (label_pair m t) keys ≡ true → (i p : ℕ) → i < block_count m → p < count (part m i)
        → paired (mesh_of m) (block_in (part m i)) (dart_in (part m i) p) (third_of (part m i) p) ≡ true
    unfolding label_pair
    tests_labels e i p hi hp = by_cases (is_critical_word (column (part m i) 3 p))
        yes
        (λ k. easy_label (mesh_of m) (block_in (part m i)) (dart_in (part m i) p) (column (part m i) 0) (column (part m i) 3 p) (column (part m i) 4 p) (kind_at (passed a i hi) p hp) k)
      where
        v : ℕ
        v = dart_key (part m i) i p

        yes : is_critical_word (column (part m i) 3 p) ≡ true → paired (mesh_of m) (block_in (part m i)) (dart_in (part m i) p) (third_of (part m i) p) ≡ true
        yes c =
            let w = twins (label_pair m t) label_flip keys in_order e v (there i p hi hp c) in
            let f = faced i p hi hp c w.twin w.there w.same w.so in
            let F = f.faces in
            let s = sits v i p hi hp refl in
            let u = sits w.twin f.block f.place F.block_lt F.place_lt f.is in
            paired_side hi hp F.block_lt F.place_lt s u c F
            ∙ and_intro
            (eq-eqb _ 2
            (times_same (column (part m i) 4 p) ∙ ap (λ (x : ℕ). times x keys) (sym (code_is v i p hi hp refl)) ∙ w.twice))
            (and_left (side_test m t (v % 65536) (w.twin % 65536)) _ w.so)

    pub labels_are : in_pairs (label_pair m t) keys ≡ labels_paired (mesh_of m)
    unfolding labels_paired
    labels_are = same_truth (in_pairs (label_pair m t) keys) (labels_paired (mesh_of m))
        (λ e. at_every m (λ b d. paired (mesh_of m) b d d.third) (tests_labels e))
        (λ e. mates (label_pair m t) keys in_order (λ v h. mate_by (label_pair m t) v (met e v h) (met e v h).so))

    -- 26
    abbrev both : ℕ → ℕ → Bool
    both x y = label_pair m t x y && point_pair m x y

    both_flip : (x y : ℕ) → both x y ≡ true → both y x ≡ true
    both_flip x y e = and_intro (label_flip x y (and_left (label_pair m t x y) _ e)) (point_flip x y (and_right (label_pair m t x y) _ e))

    points_at : points_across (mesh_of m) ≡ true → (i p : ℕ) → i < block_count m → p < count (part m i) → same_across (mesh_of m) (dart_in (part m i) p) (third_of (part m i) p) ≡ true
    unfolding points_across
    points_at e i p h l = every_at m (λ b d. same_across (mesh_of m) d d.third) e i p h l

    met_points : labels_right ≡ true → points_across (mesh_of m) ≡ true → (v : ℕ) (k : Met v) → both v (dart_key (part m k.block) k.block k.place) ≡ true
    unfolding point_pair
    met_points e f v k =
        let o = k.from in
        let F = k.faces in
        let i = o.block in
        let p = o.place in
        let j = k.block in
        let q = k.place in
        let s = sits v i p o.block_lt o.place_lt o.is in
        let u = sits (dart_key (part m j) j q) j q F.block_lt F.place_lt refl in
        and_intro k.so (and_intro
        (meets F.block_lt F.place_lt s u ∙ sym (across_is a i p o.block_lt o.place_lt o.labelled F) ∙ points_at f i p o.block_lt o.place_lt)
        (meets o.block_lt o.place_lt u s ∙ sym (across_is a j q F.block_lt F.place_lt F.critical_there (turned o.block_lt o.place_lt o.labelled F)) ∙ points_at f j q F.block_lt F.place_lt))

    tests_points : in_pairs both keys ≡ true → (i p : ℕ) → i < block_count m → p < count (part m i) → same_across (mesh_of m) (dart_in (part m i) p) (third_of (part m i) p) ≡ true
    unfolding point_pair
    tests_points e i p hi hp = by_cases (is_critical_word (column (part m i) 3 p))
        yes
        (λ k. easy_point (mesh_of m) (dart_in (part m i) p) (column (part m i) 0) (column (part m i) 3 p) (column (part m i) 4 p) (kind_at (passed a i hi) p hp) k)
      where
        v : ℕ
        v = dart_key (part m i) i p

        yes : is_critical_word (column (part m i) 3 p) ≡ true → same_across (mesh_of m) (dart_in (part m i) p) (third_of (part m i) p) ≡ true
        yes c =
            let w = twins both both_flip keys in_order e v (there i p hi hp c) in
            let f = faced i p hi hp c w.twin w.there w.same (and_left (label_pair m t v w.twin) _ w.so) in
            let F = f.faces in
            let s = sits v i p hi hp refl in
            let u = sits w.twin f.block f.place F.block_lt F.place_lt f.is in
            across_is a i p hi hp c F ∙ sym (meets F.block_lt F.place_lt s u)
            ∙ and_left (meet_test m (v % 65536) (w.twin % 65536)) _ (and_right (label_pair m t v w.twin) _ w.so)

    pub points_are : labels_paired (mesh_of m) ≡ true → each_pair (point_pair m) keys ≡ points_across (mesh_of m)
    unfolding points_across
    points_are e = both_tests (label_pair m t) (point_pair m) keys (labels_are ∙ e)
        ∙ same_truth (in_pairs both keys) (points_across (mesh_of m))
        (λ f. at_every m (λ b d. same_across (mesh_of m) d d.third) (tests_points f))
        (λ f. mates both keys in_order (λ v h. mate_by both v (met e v h) (met_points e f v (met e v h))))
