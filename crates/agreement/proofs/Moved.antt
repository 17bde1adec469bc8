-- A request that the undivided run serves: its cell, the cut faces, the new labels, and the invariant afterwards. Assumes nothing.
use mathlib.Core.Path.{◌≡◌, refl, sym, ◌∙◌, ap}
use mathlib.Core.Logic.{◌≢◌}
use mathlib.Core.Bool.{Bool, true, false, ◌||◌}
use mathlib.Core.List.{List}
use Prim.Native.Nat.{ℕ, ◌+◌, ◌^◌, ◌<◌, ◌≤◌}
use native.Mathlib.Omega.{arith}
use lib.Dec.{eqb}
use lib.ListN.{length}
use borrow.Author.Tests.{eqb-true, eqb-false, eq-eqb}
use Rattle.model.specs.Lists.{keep, mem}
use Rattle.model.specs.Values.{Label, Limits}
use Rattle.model.specs.Sound.{Fit}
use Rattle.model.specs.Links.{pairs_once, vertex_pairs}
use Rattle.model.specs.Runs.{Request}
use Rattle.model.specs.UndividedRun.{State, nx, op, th, cell, inner_faces}
use Rattle.laws.proofs.Members.{In, in_keep, keep_in, ascending_unique, keep_ascending}
use Rattle.laws.proofs.Tests.{by_cases}
use Rattle.agreement.proofs.AfterMove.{keep_fewer, keep_either, after, label_after, map_after, labelled_after}
use Rattle.agreement.proofs.Described.{members, Map, Inv, Mine}
use Rattle.agreement.proofs.MovedCell.{Cell, cell_is}
use Rattle.agreement.proofs.NewLabels.{fresh_of, fresh_maker, fresh_low, fresh_high, fresh_position, fresh_one, Facing, cut_faces, in_cut, cut_few}

-- what is known of a request that 9 to 14 let pass
pub record Served (lims : ℕ → Limits) (k : ℕ) (u : State) (r : Request) : Type 0 where
  pub from_below : r.from < k
  pub to_below : r.to < k
  pub apart_blocks : r.from ≢ r.to
  pub start_mine : Mine u r.from r.serial
  pub few_darts : length (cell u r.serial) ≤ (lims r.from).volume_darts
  pub leaves : (x : ℕ) → In x (cell u r.serial) → mem (th u x) (cell u r.serial) ≡ false
  pub pairs : pairs_once (vertex_pairs (nx u) (op u) (cell u r.serial)) ≡ true
  pub counter_fits : u.count r.from + inner_faces u r.from (cell u r.serial) < 2 ^ 32

-- limits with room for one cell more
abbrev pub wider : (ℕ → Limits) → ℕ → Limits
wider lims b = record { block_darts = (lims b).block_darts + 4096; volume_darts = (lims b).volume_darts }

module _ (lims : ℕ → Limits) (fit : Fit lims) (k : ℕ) (u : State) (label : ℕ → Label) (I : Inv lims k u label) (r : Request) (S : Served lims k u r) where
  abbrev pub M : Map u
  M = I.map_sound

  abbrev pub i : ℕ
  i = r.from

  abbrev pub j : ℕ
  j = r.to

  abbrev pub s : ℕ
  s = r.serial

  abbrev pub v : List ℕ
  v = cell u s

  abbrev pub moved_cell : Cell u i s v
  moved_cell = cell_is lims fit k u label I i S.from_below s S.start_mine

  abbrev pub g : ℕ
  g = inner_faces u i v

  -- the faces that are cut, in message order
  abbrev pub cuts : List (List ℕ)
  cuts = cut_faces u M i s v moved_cell S.leaves

  pub g_is : g ≡ length cuts
  unfolding inner_faces
  g_is = refl

  abbrev pub IsCut : ℕ → Type 0
  IsCut x = Facing u i x

  -- what the darts of the cut faces are labelled
  abbrev pub new_label : ℕ → Label
  new_label = fresh_of i (u.count i) cuts

  fresh_made : (x : ℕ) → In x v → IsCut x → ((new_label x).maker ≡ i) × (u.count i ≤ (new_label x).number) × ((new_label x).number < u.count i + g) × ((new_label x).position ≤ 4095)
  fresh_made x h c = (
    fresh_maker i (u.count i) cuts x,
    fresh_low i (u.count i) cuts x,
    rw g_is (fresh_high i (u.count i) cuts x (in_cut u M i s v moved_cell S.leaves x h c)),
    fresh_position i (u.count i) cuts x (cut_few u M i s v moved_cell S.leaves),
  )

  fresh_apart : (x y : ℕ) → In x v → In y v → IsCut x → IsCut y → new_label x ≡ new_label y → x ≡ y
  fresh_apart x y h m c d e = fresh_one i (u.count i) cuts x y (in_cut u M i s v moved_cell S.leaves x h c) (in_cut u M i s v moved_cell S.leaves y m d) e

  abbrev pub state_after : State
  state_after = after u v i j g

  abbrev pub labels_after : ℕ → Label
  labels_after = label_after u label v new_label

  pub M' : Map state_after
  M' = map_after u M i j s g v moved_cell S.apart_blocks S.leaves

  -- WHO IS WHERE
  pub in_cell_there : (x : ℕ) → In x v → state_after.number x ≡ j
  in_cell_there x h = rw h

  pub elsewhere_stays : (x : ℕ) → mem x v ≡ false → state_after.number x ≡ u.number x
  elsewhere_stays x h = rw h

  -- the cell again, out of all darts
  cell_kept : keep (λ x. mem x v) u.darts ≡ v
  cell_kept = ascending_unique (keep (λ x. mem x v) u.darts) v (keep_ascending (λ x. mem x v) u.darts M.ordered) moved_cell.in_order
      (λ x h. (keep_in (λ y. mem y v) u.darts x h).1) (λ x h. in_keep (λ y. mem y v) x u.darts (moved_cell.mine x h).here h)

  pub size_there : length (members state_after j) ≡ length (members u j) + length v
  size_there =
      keep_either (λ x. eqb (state_after.number x) j) (λ x. eqb (u.number x) j) (λ x. mem x v) u.darts
      (λ x h. by_cases (mem x v) (λ e. rw (e, eq-eqb j j refl) (sym (or_true (eqb (u.number x) j)))) (λ e. rw e (sym (or_false (eqb (u.number x) j)))))
      (λ x h e. not_both x (mem x v) refl (eqb-true (u.number x) j e))
      ∙ ap (λ (l : List ℕ). length (members u j) + length l) cell_kept
    where
      or_true : (b : Bool) → (b || true) ≡ true
      or_true true = refl
      or_true false = refl

      or_false : (b : Bool) → (b || false) ≡ b
      or_false true = refl
      or_false false = refl

      not_both : (x : ℕ) (o : Bool) → mem x v ≡ o → u.number x ≡ j → mem x v ≡ false
      not_both x false e q = e
      not_both x true e q = absurd (S.apart_blocks (sym (moved_cell.mine x e).block ∙ q))

  size_other : (b : ℕ) → b ≢ j → length (members state_after b) ≤ length (members u b)
  size_other b n = keep_fewer (λ x. eqb (state_after.number x) b) (λ x. eqb (u.number x) b) u.darts
      (λ x h e. by_cases (mem x v) (λ a. absurd (n (sym (eqb-true j b (rw a at e))))) (λ a. rw a at e))

  -- THE INVARIANT AFTERWARDS, within any limits that the blocks keep to
  inv_within : (wide : ℕ → Limits) → ((b : ℕ) → b < k → length (members state_after b) ≤ (wide b).block_darts) → Inv wide k state_after labels_after
  inv_within wide few = record {
    some_blocks = I.some_blocks;
    few_blocks = I.few_blocks;
    map_sound = M';
    labelled = labelled_after u M i j s g v moved_cell S.apart_blocks S.leaves k label new_label I.labelled S.from_below fresh_made fresh_apart;
    in_a_block = λ x h. by_cases (mem x v) (λ e. rw e S.to_below) (λ e. rw e (I.in_a_block x h));
    counts_small = λ b h. by_cases (eqb b i) (λ e. rw (e, eqb-true b i e) S.counter_fits) (λ e. rw e (I.counts_small b h));
    blocks_fit = few;
  }

  pub inv_wider : Inv (wider lims) k state_after labels_after
  inv_wider = inv_within (wider lims) (λ b h. by_cases (eqb b j)
      (λ e. rw (eqb-true b j e) (let a = size_there in let c = I.blocks_fit j S.to_below in let d = moved_cell.few in omega arith))
      (λ e. let a = size_other b (eqb-false b j e) in let c = I.blocks_fit b h in omega arith))

  -- 21: the cell fits into block j
  pub inv_after : length (members u j) + length v ≤ (lims j).block_darts → Inv lims k state_after labels_after
  inv_after fits = inv_within lims (λ b h. by_cases (eqb b j)
      (λ e. rw (eqb-true b j e) (let a = size_there in omega arith))
      (λ e. let a = size_other b (eqb-false b j e) in let c = I.blocks_fit b h in omega arith))
