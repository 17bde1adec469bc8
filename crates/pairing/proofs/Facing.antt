-- Two darts that share a label across blocks, and what the model tests of such a dart. Assumes nothing.
use mathlib.Core.Path.{◌≡◌, refl, sym, ap, subst, ◌∙◌}
use mathlib.Core.Bool.{Bool, true, false, true≢false, ◌&&◌}
use mathlib.Core.List.{List}
use mathlib.Core.Logic.{⊎_elim}
use Prim.Native.Nat.{ℕ, suc, ◌<◌}
use native.Mathlib.Omega.{arith}
use lib.Dec.{eqb, ltb}
use lib.ListN.{length, get_or}
use borrow.Author.Tests.{eqb-true, eq-eqb, lt-ltb}
use Rattle.model.specs.Lists.{keep}
use Rattle.model.specs.Values.{Label, Third, critical, Dart, Block, no_dart, no_block, label_key, has_label, is_critical_with, same_point}
use Rattle.model.specs.Cells.{dart_at, third_at, previous_in, labelled}
use Rattle.model.specs.Sound.{block_at, all_darts, share_label, paired, same_across}
use Rattle.model.specs.Image.{column, is_critical_word, other_in, label_in, dart_in, block_in}
use Rattle.laws.proofs.Tests.{lt_or_ge, and_left, and_right}
use Rattle.laws.proofs.Labels.{code_in}
use Rattle.columns.specs.Columns.{count}
use Rattle.columns.proofs.Held.{darts, dart_is}
use Rattle.columns.proofs.Question.{Passed}
use Rattle.mesh.specs.Parts.{block_count, part}
use Rattle.mesh.proofs.Parts.{mesh_tab}
use Rattle.pairing.specs.Numbers.{MeshAsked}
use Rattle.pairing.specs.Keys.{all_keys}
use Rattle.pairing.proofs.InPairs.{times}
use Rattle.pairing.proofs.Members.{all_times, suc_eqb}
use Rattle.pairing.proofs.InBlocks.{third_of, kind_at, key_critical, labelled_is, labelled_there, previous_is, next_lt, third_is}
use Rattle.pairing.proofs.InBlocks.{kind_along, critical_third, mesh_of, block_is, block_none, few, passed, number_is}

-- the dart at place q of block j shares the label of the one at place p of block i, and each names the other's block
pub record Facing (m : List ℕ) (i p j q : ℕ) : Type 0 where
  pub block_lt : j < block_count m
  pub place_lt : q < count (part m j)
  pub critical_there : is_critical_word (column (part m j) 3 q) ≡ true
  pub same : column (part m j) 4 q ≡ column (part m i) 4 p
  pub names : other_in (column (part m i) 3 p) ≡ j
  pub named : other_in (column (part m j) 3 q) ≡ i

-- THE MODEL'S TESTS of a critical dart, from what is found
paired_by : (M : List Block) (b : Block) (d : Dart) (o : ℕ) (l : Label) {es : List Dart} {e : Dart} {n : ℕ}
    → (block_at M o).darts ≡ es → labelled l es ≡ e → length (keep (λ c. has_label l c.third) (all_darts M)) ≡ n
    → paired M b d (critical o l) ≡ (eqb n 2 && is_critical_with b.number e.third && share_label (third_at b.darts d.next) (third_at es (previous_in es e.serial)))
unfolding paired
paired_by M b d o l {es} {e} {n} f g h =
    ap
    (λ (x : List Dart). eqb (length (keep (λ c. has_label l c.third) (all_darts M))) 2 && is_critical_with b.number
    (labelled l x).third && share_label (third_at b.darts d.next) (third_at x (previous_in x (labelled l x).serial))) f
    ∙ ap
    (λ (x : Dart). eqb (length (keep (λ c. has_label l c.third) (all_darts M))) 2 && is_critical_with b.number x.third &&
    share_label (third_at b.darts d.next) (third_at es (previous_in es x.serial))) g
    ∙ ap (λ (x : ℕ). eqb x 2 && is_critical_with b.number e.third && share_label (third_at b.darts d.next) (third_at es (previous_in es e.serial))) h

across_by : (M : List Block) (d : Dart) (o : ℕ) (l : Label) {es : List Dart} {e : Dart} → (block_at M o).darts ≡ es → labelled l es ≡ e
    → same_across M d (critical o l) ≡ same_point d.point (dart_at es e.next).point
unfolding same_across
across_by M d o l {es} {e} f g =
    ap (λ (x : List Dart). same_point d.point (dart_at x (labelled l x).next).point) f
    ∙ ap (λ (x : Dart). same_point d.point (dart_at es x.next).point) g

share_by : (s t : Third) {x y : ℕ} → label_key s ≡ suc x → label_key t ≡ suc y → share_label s t ≡ eqb x y
share_by s t {x} {y} e f =
    ap (λ (k : ℕ). ltb 0 k && eqb k (label_key t)) e ∙ ap (λ (k : ℕ). ltb 0 (suc x) && eqb (suc x) k) f ∙ positive (ltb 0 (suc x)) (lt-ltb 0 (suc x) (omega arith)) ∙ suc_eqb x y
  where
    positive : (b : Bool) → b ≡ true → (b && eqb (suc x) (suc y)) ≡ eqb (suc x) (suc y)
    positive b q = rw q refl

-- nobody has a label where there are no darts
nobody : (o : ℕ) (l : Label) {es : List Dart} → es ≡ no_block.darts → is_critical_with o (labelled l es).third ≡ true → ⊥
unfolding labelled no_block no_dart
nobody o l e t = true≢false (sym (sym (ap (λ (x : List Dart). is_critical_with o (labelled l x).third) e) ∙ t))

middle : (a b c : Bool) → b ≡ true → (a && b && c) ≡ (a && c)
middle true b c e = rw e refl
middle false b c e = refl

module _ {m : List ℕ} (a : MeshAsked m) (i p : ℕ) (hi : i < block_count m) (hp : p < count (part m i)) (c : is_critical_word (column (part m i) 3 p) ≡ true) where
  abbrev here : Passed (part m i)
  here = passed a i hi

  abbrev label : Label
  label = label_in (column (part m i) 4 p)

  abbrev other : ℕ
  other = other_in (column (part m i) 3 p)

  count_is : length (keep (λ d. has_label label d.third) (all_darts (mesh_of m))) ≡ times (column (part m i) 4 p) (all_keys m (block_count m))
  count_is =
      ap (λ (M : List Block). length (keep (λ d. has_label label d.third) (all_darts M))) (mesh_tab m)
      ∙ all_times label m (block_count m) (few a) (λ j h. (passed a j h).range.few) (λ j q h l. kind_at (passed a j h) q l)
      ∙ ap (λ (x : ℕ). times x (all_keys m (block_count m))) (code_in (column (part m i) 4 p))

  module _ {j q : ℕ} (f : Facing m i p j q) where
    found : labelled label (darts (part m j)) ≡ dart_in (part m j) q
    found = labelled_is (passed a j f.block_lt) q (column (part m i) 4 p) f.place_lt f.critical_there f.same

    there : (block_at (mesh_of m) other).darts ≡ darts (part m j)
    there = ap (λ (k : ℕ). (block_at (mesh_of m) k).darts) f.names ∙ ap (λ (b : Block). b.darts) (block_is m j f.block_lt)

    back : is_critical_with (block_in (part m i)).number (third_of (part m j) q) ≡ true
    back = ap (is_critical_with (get_or (part m i) 0 0)) (critical_third (passed a j f.block_lt) q f.place_lt f.critical_there)
        ∙ eq-eqb (get_or (part m i) 0 0) (other_in (column (part m j) 3 q)) (number_is a i hi ∙ sym f.named)

    -- 25, where r stands before q
    pub paired_is : (r : ℕ) → r < count (part m j) → column (part m j) 1 r ≡ q
        → paired (mesh_of m) (block_in (part m i)) (dart_in (part m i) p) (third_of (part m i) p)
        ≡ (eqb (times (column (part m i) 4 p) (all_keys m (block_count m))) 2 && eqb (column (part m i) 4 (column (part m i) 1 p)) (column (part m j) 4 r))
    paired_is r hr e =
        ap (paired (mesh_of m) (block_in (part m i)) (dart_in (part m i) p)) (critical_third here p hp c)
        ∙ paired_by (mesh_of m) (block_in (part m i)) (dart_in (part m i) p) other label there found count_is
        ∙ middle (eqb (times (column (part m i) 4 p) (all_keys m (block_count m))) 2) _ _ back
        ∙ ap (λ (x : Bool). eqb (times (column (part m i) 4 p) (all_keys m (block_count m))) 2 && x) share
      where
        w : Passed (part m j)
        w = passed a j f.block_lt

        next_key : label_key (third_at (darts (part m i)) (column (part m i) 0 (column (part m i) 1 p))) ≡ suc (column (part m i) 4 (column (part m i) 1 p))
        next_key = ap label_key (third_is here (column (part m i) 1 p) (next_lt here p hp))
            ∙ key_critical here (column (part m i) 1 p) (next_lt here p hp) (ap is_critical_word (kind_along here p hp) ∙ c)

        last_key : label_key (third_at (darts (part m j)) (previous_in (darts (part m j)) (column (part m j) 0 q))) ≡ suc (column (part m j) 4 r)
        last_key = ap (λ (s : ℕ). label_key (third_at (darts (part m j)) s)) (previous_is w r q hr e)
            ∙ ap label_key (third_is w r hr)
            ∙ key_critical w r hr (ap is_critical_word (sym (ap (column (part m j) 3) (sym e) ∙ kind_along w r hr)) ∙ f.critical_there)

        share : share_label (third_at (darts (part m i)) (column (part m i) 0 (column (part m i) 1 p))) (third_at (darts (part m j)) (previous_in (darts (part m j)) (column (part m j) 0 q)))
            ≡ eqb (column (part m i) 4 (column (part m i) 1 p)) (column (part m j) 4 r)
        share =
            share_by (third_at (darts (part m i)) (column (part m i) 0 (column (part m i) 1 p)))
            (third_at (darts (part m j)) (previous_in (darts (part m j)) (column (part m j) 0 q))) next_key last_key

    -- 26
    pub across_is : same_across (mesh_of m) (dart_in (part m i) p) (third_of (part m i) p) ≡ same_point (dart_in (part m i) p).point (dart_in (part m j) (column (part m j) 1 q)).point
    across_is =
        ap (same_across (mesh_of m) (dart_in (part m i) p)) (critical_third here p hp c)
        ∙ across_by (mesh_of m) (dart_in (part m i) p) other label there found
        ∙ ap (λ (d : Dart). same_point (dart_in (part m i) p).point d.point)
        (dart_is (part m j) (passed a j f.block_lt).range (column (part m j) 1 q)
        (next_lt (passed a j f.block_lt) q f.place_lt))

  -- WHAT A YES TO 25 SAYS
  module _ (yes : paired (mesh_of m) (block_in (part m i)) (dart_in (part m i) p) (third_of (part m i) p) ≡ true) where
    abbrev es : List Dart
    es = (block_at (mesh_of m) other).darts

    tests : (eqb (times (column (part m i) 4 p) (all_keys m (block_count m))) 2 && is_critical_with (get_or (part m i) 0 0) (labelled label es).third
        && share_label (third_at (darts (part m i)) (column (part m i) 0 (column (part m i) 1 p))) (third_at es (previous_in es (labelled label es).serial))) ≡ true
    tests = sym (ap (paired (mesh_of m) (block_in (part m i)) (dart_in (part m i) p)) (critical_third here p hp c)
        ∙ paired_by (mesh_of m) (block_in (part m i)) (dart_in (part m i) p) other label refl refl count_is) ∙ yes

    pub stands_twice : times (column (part m i) 4 p) (all_keys m (block_count m)) ≡ 2
    stands_twice =
        eqb-true _ _
        (and_left (eqb (times (column (part m i) 4 p) (all_keys m (block_count m))) 2) _
        (and_left
        (eqb (times (column (part m i) 4 p) (all_keys m (block_count m))) 2
        && is_critical_with (get_or (part m i) 0 0) (labelled label es).third) _ tests))

    names_back : is_critical_with (get_or (part m i) 0 0) (labelled label es).third ≡ true
    names_back =
        and_right (eqb (times (column (part m i) 4 p) (all_keys m (block_count m))) 2) _
        (and_left
        (eqb (times (column (part m i) 4 p) (all_keys m (block_count m))) 2
        && is_critical_with (get_or (part m i) 0 0) (labelled label es).third) _ tests)

    known : other < block_count m
    known = ⊎_elim (λ h. h) (λ h. absurd (nobody (get_or (part m i) 0 0) label (ap (λ (b : Block). b.darts) (block_none m other h)) names_back)) (lt_or_ge other (block_count m))

    there_is : es ≡ darts (part m other)
    there_is = ap (λ (b : Block). b.darts) (block_is m other known)

    pub facing : (q : ℕ) × Facing m i p other q
    facing =
        let w = passed a other known in
        let e = subst (λ (x : List Dart). is_critical_with (get_or (part m i) 0 0) (labelled label x).third ≡ true) there_is names_back in
        let r = labelled_there w (get_or (part m i) 0 0) (column (part m i) 4 p) e in (
          r.0,
          record {
            block_lt = known;
            place_lt = r.1;
            critical_there = r.2;
            same = r.3;
            names = refl;
            named = sym (sym (number_is a i hi) ∙ eqb-true (get_or (part m i) 0 0) (other_in (column (part m other) 3 r.0))
                (sym (ap (λ (d : Dart). is_critical_with (get_or (part m i) 0 0) d.third) (labelled_is w r.0 (column (part m i) 4 p) r.1 r.2 r.3)
                ∙ ap (is_critical_with (get_or (part m i) 0 0)) (critical_third w r.0 r.1 r.2)) ∙ e));
          },
        )
