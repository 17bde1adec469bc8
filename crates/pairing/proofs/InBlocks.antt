-- Darts of a block by place: the one with a label, the one before, and what a mesh's blocks are. Assumes nothing.
use mathlib.Core.Path.{◌≡◌, refl, sym, ap, ◌∙◌}
use mathlib.Core.Bool.{Bool, true, false, true≢false, cond, not, ◌&&◌, ◌||◌}
use mathlib.Core.List.{List, map}
use mathlib.Core.Option.{Option, none, some, none-ne-some}
use Prim.Native.Nat.{ℕ, zero, suc, ◌+◌, ◌/◌, ◌%◌, ◌≤◌, ◌<◌, ◌^◌}
use native.Mathlib.Omega.{arith}
use lib.Dec.{leb, eqb, ltb}
use lib.ListN.{length, get_or, get_or-eq_default}
use borrow.Author.Tests.{eqb-true, eqb-false, not-true}
use Rattle.model.specs.Lists.{tab, find}
use Rattle.model.specs.Values.{Third, critical, Dart, Block, no_dart, no_block, or_no_dart, code, label_key, is_critical_with}
use Rattle.model.specs.Cells.{third_at, previous_in, labelled}
use Rattle.model.specs.Sound.{block_at, blocks_right, numbered_from}
use Rattle.model.specs.Image.{words, column, is_critical_word, other_in, label_in, third_in, dart_in, block_in, holds_block}
use Rattle.model.specs.Calls.{memories}
use Rattle.laws.proofs.Tests.{by_cases, and_left, and_right}
use Rattle.laws.proofs.Tables.{all_tab, length_tab, getD_tab, find_only}
use Rattle.laws.proofs.Labels.{code_in}
use Rattle.columns.specs.Columns.{count, Kind, label_test}
use Rattle.columns.proofs.Thirds.{third_critical, label_word}
use Rattle.columns.proofs.Held.{darts, dart_is, one_serial, onto}
use Rattle.columns.proofs.Links.{linked}
use Rattle.columns.proofs.ThirdLinks.{same_kind}
use Rattle.columns.proofs.Question.{Passed, image_passed}
use Rattle.departure.proofs.LeavingFaces.{labels_apart}
use Rattle.mesh.specs.Parts.{block_count, part}
use Rattle.mesh.proofs.Parts.{mesh_tab, numbered_at}
use Rattle.mesh.proofs.Gathers.{few_blocks}
use Rattle.pairing.specs.Numbers.{MeshAsked}

-- ROWS BY PLACE
-- a row that is found stands at a place
found_at : {A : Type 0} (key : A → ℕ) (f : ℕ → A) (n x : ℕ) (d : A) → find key x (tab f n) ≡ some d → (p : ℕ) × (p < n) × (key (f p) ≡ x)
found_at key f zero x d e = absurd (none-ne-some d e)
found_at key f (suc n) x d e = by_cases (eqb x (key (f 0)))
    (λ t. (0, omega arith, sym (eqb-true x (key (f 0)) t)))
    (λ t. let r = found_at key (λ k. f (suc k)) n x d (rw t at e) in (suc r.0, omega (arith, r.1), r.2))

-- A BLOCK that passed question 2
abbrev pub third_of : List ℕ → ℕ → Third
third_of b p = third_in (column b 0) (column b 3 p) (column b 4 p)

module _ {b : List ℕ} (w : Passed b) where
  pub kind_at : (p : ℕ) → p < count b → Kind (column b 3 p) (column b 4 p)
  kind_at p h = w.range.kinds p h

  pub key_at : (p : ℕ) → p < count b → label_key (third_of b p) ≡ cond (is_critical_word (column b 3 p)) (suc (column b 4 p)) 0
  key_at p h = label_word (column b 0) (column b 3 p) (column b 4 p) (kind_at p h)

  pub key_critical : (p : ℕ) → p < count b → is_critical_word (column b 3 p) ≡ true → label_key (third_of b p) ≡ suc (column b 4 p)
  key_critical p h c = key_at p h ∙ chosen (is_critical_word (column b 3 p)) c
    where
      chosen : (t : Bool) → t ≡ true → cond t (suc (column b 4 p)) 0 ≡ suc (column b 4 p)
      chosen t e = rw e refl

  -- a dart with a label is critical, and its word is the code
  pub critical_key : (p a : ℕ) → p < count b → label_key (third_of b p) ≡ suc a → (is_critical_word (column b 3 p) ≡ true) × (column b 4 p ≡ a)
  critical_key p a h e = by_cases (is_critical_word (column b 3 p))
      (λ t. (t, yes t))
      (λ t. absurd (not_it t))
    where
      chosen : cond (is_critical_word (column b 3 p)) (suc (column b 4 p)) 0 ≡ suc a
      chosen = sym (key_at p h) ∙ e

      yes : is_critical_word (column b 3 p) ≡ true → column b 4 p ≡ a
      yes t = let q : suc (column b 4 p) ≡ suc a = rw t at chosen in omega (arith, q)

      not_it : is_critical_word (column b 3 p) ≡ false → ⊥
      not_it t = let q : 0 ≡ suc a = rw t at chosen in omega (arith, q)

  -- THE DART WITH A LABEL
  pub labelled_is : (q a : ℕ) → q < count b → is_critical_word (column b 3 q) ≡ true → column b 4 q ≡ a → labelled (label_in a) (darts b) ≡ dart_in b q
  unfolding labelled
  labelled_is q a h c e = ap or_no_dart (ap (λ (x : ℕ). find (λ d. label_key d.third) x (darts b)) same ∙ find_only (λ d. label_key d.third) (dart_in b) (count b) q h only)
    where
      same : suc (code (label_in a)) ≡ label_key (third_of b q)
      same = ap suc (code_in a ∙ sym e) ∙ sym (key_critical q h c)

      only : (i : ℕ) → i < count b → label_key (third_of b i) ≡ label_key (third_of b q) → i ≡ q
      only i l u = let r = critical_key i (column b 4 q) l (u ∙ key_critical q h c) in labels_apart b (count b) i q w.differ l h r.0 c r.1

  -- where it is critical with a block, it is there
  pub labelled_there : (o a : ℕ) → is_critical_with o (labelled (label_in a) (darts b)).third ≡ true → (q : ℕ) × (q < count b) × (is_critical_word (column b 3 q) ≡ true) × (column b 4 q ≡ a)
  unfolding labelled no_dart
  labelled_there o a e = go (find (λ d. label_key d.third) (suc (code (label_in a))) (darts b)) refl e
    where
      go : (f : Option Dart) → find (λ d. label_key d.third) (suc (code (label_in a))) (darts b) ≡ f → is_critical_with o (or_no_dart f).third ≡ true
          → (q : ℕ) × (q < count b) × (is_critical_word (column b 3 q) ≡ true) × (column b 4 q ≡ a)
      go none g t = absurd (true≢false (sym t))
      go (some d) g t =
          let r = found_at (λ d. label_key d.third) (dart_in b) (count b) (suc (code (label_in a))) d g in
          let k = critical_key r.0 a r.1 (r.2 ∙ ap suc (code_in a)) in
          (r.0, r.1, k.0, k.1)

  -- THE DART BEFORE
  pub before_at : (q : ℕ) → q < count b → (r : ℕ) × (r < count b) × (column b 1 r ≡ q)
  before_at q h = onto (count b) (column b 1) (λ p l. (linked b (count b) p (w.links p l)).next_lt) w.apart q h

  pub previous_is : (r q : ℕ) → r < count b → column b 1 r ≡ q → previous_in (darts b) (column b 0 q) ≡ column b 0 r
  unfolding previous_in
  previous_is r q h e = ap (λ (f : Option Dart). (or_no_dart f).serial) (ap (λ (x : ℕ). find (λ d. d.next) (column b 0 x) (darts b)) (sym e) ∙ find_only (λ d. d.next) (dart_in b) (count b) r h only)
    where
      next_lt : (p : ℕ) → p < count b → column b 1 p < count b
      next_lt p l = (linked b (count b) p (w.links p l)).next_lt

      only : (i : ℕ) → i < count b → column b 0 (column b 1 i) ≡ column b 0 (column b 1 r) → i ≡ r
      only i l u = w.apart i r l h (one_serial b w.range (next_lt i l) (next_lt r h) u)

  pub next_lt : (p : ℕ) → p < count b → column b 1 p < count b
  next_lt p l = (linked b (count b) p (w.links p l)).next_lt

  pub third_is : (p : ℕ) → p < count b → third_at (darts b) (column b 0 p) ≡ third_of b p
  third_is p h = ap (λ (d : Dart). d.third) (dart_is b w.range p h)

  -- a face is of one kind
  pub kind_along : (p : ℕ) → p < count b → column b 3 (column b 1 p) ≡ column b 3 p
  kind_along p h = same_kind b (count b) p (w.thirds p h)

  -- a critical dart names another block
  pub names_other : (p : ℕ) → p < count b → is_critical_word (column b 3 p) ≡ true → other_in (column b 3 p) ≡ get_or b 0 0 → ⊥
  unfolding label_test
  names_other p h c e =
      let k = column b 3 p in
      let t : (not (is_critical_word k) || (not (eqb (other_in k) (get_or b 0 0)) && (not (eqb (column b 4 p / 4096 / 2 ^ 32) (get_or b 0 0)) || ltb (column b 4 p / 4096 % 2 ^ 32) (get_or b 1 0)))) ≡ true = w.labels p h in
      let u : (not (eqb (other_in k) (get_or b 0 0)) && (not (eqb (column b 4 p / 4096 / 2 ^ 32) (get_or b 0 0)) || ltb (column b 4 p / 4096 % 2 ^ 32) (get_or b 1 0))) ≡ true =
      rw c at t
      in
      eqb-false (other_in k) (get_or b 0 0) (not-true _ (and_left (not (eqb (other_in k) (get_or b 0 0))) _ u)) e

  pub critical_third : (p : ℕ) → p < count b → is_critical_word (column b 3 p) ≡ true → third_of b p ≡ critical (other_in (column b 3 p)) (label_in (column b 4 p))
  critical_third p h c = third_critical (column b 0) (column b 3 p) (column b 4 p) c

-- THE BLOCKS OF A MESH
abbrev pub mesh_of : List ℕ → List Block
mesh_of m = map block_in (memories m)

in_order : (g : ℕ → Block) (n : ℕ) → blocks_right (tab g n) ≡ true → numbered_from 0 (tab g n) ≡ true
unfolding blocks_right
in_order g n e = and_right (leb 1 (length (tab g n)) && leb (length (tab g n)) 16) _ e

pub block_is : (m : List ℕ) (i : ℕ) → i < block_count m → block_at (mesh_of m) i ≡ block_in (part m i)
unfolding block_at
block_is m i h = ap (λ (M : List Block). get_or M i no_block) (mesh_tab m) ∙ getD_tab (λ j. block_in (part m j)) (block_count m) i no_block h

pub block_none : (m : List ℕ) (i : ℕ) → block_count m ≤ i → block_at (mesh_of m) i ≡ no_block
unfolding block_at
block_none m i h =
    ap (λ (M : List Block). get_or M i no_block) (mesh_tab m)
    ∙ get_or-eq_default (tab (λ j. block_in (part m j)) (block_count m)) no_block
    (past (length_tab (λ j. block_in (part m j)) (block_count m)) h)
  where
    past : {k n : ℕ} → k ≡ n → n ≤ i → k ≤ i
    past e l = omega arith

module _ {m : List ℕ} (a : MeshAsked m) where
  pub few : block_count m ≤ 16
  few = few_blocks m a.numbered

  pub passed : (i : ℕ) → i < block_count m → Passed (part m i)
  unfolding memories
  passed i h = image_passed (part m i) (all_tab (λ b. holds_block b) (part m) (length m / words) a.images i h)

  pub number_is : (i : ℕ) → i < block_count m → get_or (part m i) 0 0 ≡ i
  number_is i h =
      eqb-true _ _
      (numbered_at (λ j. block_in (part m j)) (block_count m) 0
      (in_order (λ j. block_in (part m j)) (block_count m) (ap blocks_right (sym (mesh_tab m)) ∙ a.numbered)) i h) ∙ from_zero i
    where
      from_zero : (p : ℕ) → 0 + p ≡ p
      from_zero p = omega arith
