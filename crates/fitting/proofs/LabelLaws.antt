-- Question 20 in two halves, and labels of part 2 that are one. Assumes nothing.
use mathlib.Core.Path.{◌≡◌, refl, sym, ◌∙◌, ap}
use mathlib.Core.Bool.{Bool, true, false, true≢false, not, ◌&&◌}
use mathlib.Core.List.{List, [], ◌∷◌, map}
use Prim.Native.Nat.{ℕ, suc, ◌≤◌}
use lib.ListN.{length, get_or}
use Rattle.model.specs.Lists.{all, mem, distinct, find, least}
use Rattle.model.specs.Values.{Dart, Block, label_key, or_no_dart, message_darts}
use Rattle.model.specs.Cells.{cycle, labelled, next_in}
use Rattle.model.specs.Messages.{Part2, Transfer}
use Rattle.model.specs.Arrival.{indices_right, part2_right, part2_apart, consecutive, labels_new, parts_right}
use Rattle.laws.proofs.Tests.{by_cases, and_intro, and_right, and_false}
use Rattle.laws.proofs.Members.{in_map, distinct_not, map_map}
use Rattle.parts.specs.Entries.{code2}
use Rattle.parts.specs.Critical.{rest_right}
use Rattle.parts.specs.Locate.{Located}
use Rattle.parts.specs.Meets.{Meetable}
use Rattle.parts.specs.Sewing.{Sewable, Part2Told}
use Rattle.fitting.specs.Fitting.{CodesRanked, Part2Ready, Part2Done}

-- TWO HALVES
reordered : (a b c d e f : Bool) → (a && b && c && d && e && f) ≡ (((a && d && f) && e) && (b && c))
reordered false b c d e f = refl
reordered true false c d e f = sym (and_false ((d && f) && e))
reordered true true false d e f = sym (and_false ((d && f) && e))
reordered true true true false e f = refl
reordered true true true true true true = refl
reordered true true true true true false = refl
reordered true true true true false true = refl
reordered true true true true false false = refl

pub parts_split : (b : Block) (t : Transfer) → parts_right b t ≡ (rest_right b t && (all (part2_right b.darts t) t.part2 && part2_apart b.darts t.part2))
unfolding parts_right
parts_split b t = reordered (indices_right t) (all (part2_right b.darts t) t.part2) (part2_apart b.darts t.part2) (consecutive t.part3) (labels_new b t) _

-- ONE LABEL TWICE names one face twice
distinct_map : (g : ℕ → ℕ) (l : List ℕ) → distinct (map g l) ≡ true → distinct l ≡ true
distinct_map g [] e = refl
distinct_map g (x ∷ l) e = by_cases (mem x l)
    (λ i. absurd (distinct_not (g x) (map g l) e (g x) (in_map g x l i) refl))
    (λ i. and_intro (ap not i) (distinct_map g l (and_right (not (mem (g x) (map g l))) _ e)))

pub codes_differ : (ds : List Dart) (ms : List Part2) → part2_apart ds ms ≡ true → distinct (map code2 ms) ≡ true
unfolding part2_apart labelled
codes_differ ds ms e = distinct_map face (map code2 ms) (ap distinct (map_map code2 face ms) ∙ e)
  where
    face : ℕ → ℕ
    face c = least (cycle (next_in ds) (or_no_dart (find (λ d. label_key d.third) (suc c) ds)).serial)

-- PART 2, from what was asked of it
module _ {m d ranks z codes indices : List ℕ} {k from c : ℕ} (ready : Part2Ready m d ranks z codes indices k from c) where
  pub few_entries : c ≤ message_darts
  few_entries = (ready.sewable codes ready.codes_size).few

  pub beside : Meetable m (get_or m 2 0) d k ranks
  beside = (ready.sewable codes ready.codes_size).beside

  -- the places that were found are as many as the entries
  pub sewable_at : {n : ℕ} {places : List ℕ} → Located m codes c n places → c ≤ length places → Sewable m d ranks z places indices (get_or m 2 0) k from c
  sewable_at {n} {places} l h = ready.sewable places h

module _ {m d ranks z codes indices : List ℕ} {from c : ℕ} {keys rows : List ℕ} {r : Bool} (ranked : CodesRanked codes c keys rows r) where
  pub same_no : {kinds links : List ℕ} → r ≡ false → Part2Done m d ranks z codes indices from c kinds kinds links links false
  same_no e = record { same_code = λ y. refl; places = []; located = λ y. absurd (true≢false (sym y ∙ sym ranked.is ∙ e)); told = λ y. absurd (true≢false (sym y ∙ sym ranked.is ∙ e)) }

  pub part2_done : r ≡ true → {kinds kinds' links links' places : List ℕ} {q : Bool} → Located m codes c (get_or m 2 0) places
      → Part2Told m d ranks z places indices (get_or m 2 0) from c kinds kinds' links links' q
      → Part2Done m d ranks z codes indices from c kinds kinds' links links' q
  part2_done e {places = places} l t = record { same_code = λ y. absurd (true≢false (sym e ∙ ranked.is ∙ y)); places = places; located = λ y. l; told = λ y. t }
