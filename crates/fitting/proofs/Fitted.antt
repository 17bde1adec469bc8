-- Question 20 by its two halves: what each answer tells. Assumes nothing.
use mathlib.Core.Path.{◌≡◌, refl, sym, ◌∙◌, ap, subst}
use mathlib.Core.Bool.{Bool, true, false, true≢false, not, ◌&&◌}
use mathlib.Core.List.{List, [], map}
use mathlib.Core.Logic.{inl, inr}
use Prim.Native.Nat.{ℕ, ◌+◌, ◌*◌, ◌-◌, ◌≤◌, ◌<◌, ◌^◌}
use native.Mathlib.Omega.{arith}
use lib.Dec.{ltb, eqb}
use lib.ListN.{length, get_or, take, length-map}
use lib.Seq.{get_or-take, length-take-le}
use borrow.Author.Tests.{eqb-true, ltb-true}
use Rattle.model.specs.Lists.{all, distinct, tab}
use Rattle.model.specs.Cells.{cycle}
use Rattle.model.specs.Image.{count_in, column, is_critical_word, block_in, holds_block}
use Rattle.model.specs.Messages.{Transfer}
use Rattle.model.specs.Arrival.{indices_right, consecutive, part2_right, part2_apart, labels_new, parts_right, transfer_links}
use Rattle.laws.proofs.Tests.{by_cases, and_left, and_right}
use Rattle.laws.proofs.Orbits.{iter}
use Rattle.laws.proofs.Tables.{all_tab}
use Rattle.cells.proofs.Sited.{sited, darts_in}
use Rattle.inbox.specs.declared.message.Front.{Front}
use Rattle.inbox.specs.declared.message.Tail.{Tail}
use Rattle.inbox.specs.Arrived.{TransferOutlined}
use Rattle.parts.specs.Entries.{code2, index2}
use Rattle.parts.specs.Indices.{part_fits}
use Rattle.parts.specs.Critical.{few_entries, Arrives, rest_right, CriticalTold, CriticalRight}
use Rattle.parts.specs.Locate.{Located, LocatedAt}
use Rattle.parts.specs.Meets.{Meetable, met_at, meets_at, entry_right}
use Rattle.parts.specs.Sewing.{clear_of, face_size, passes_at, Sewable, Part2Told}
use Rattle.parts.proofs.Ranges.{took_codes}
use Rattle.parts.proofs.Assembled.{too_many}
use Rattle.parts.proofs.CriticalLaws.{few2}
use Rattle.parts.proofs.Trails as trails
use Rattle.parts.proofs.PartTwo.{three_yes}
use Rattle.parts.proofs.PartTwoTold.{meetable, index_fits, sewable, part2_answer}
use Rattle.join.specs.Join.{Linking}
use Rattle.fitting.specs.Bringing.{Placing2}
use Rattle.fitting.proofs.Transfers.{drafted_apart, met_once, brought, steps_iter}
use Rattle.fitting.specs.Fitting.{Part2Ready, Part2Done, NewVolume, Parted}
use Rattle.fitting.proofs.LabelLaws.{parts_split, codes_differ}
use Rattle.fitting.proofs.Outlined.{told_of, full, vertices_below, arrives, points_finite}

-- THE PLACES that part 2 meets, where every entry passes
module _ {m d ranks z codes places indices kinds kinds' links links' : List ℕ} {from c : ℕ} {r : Bool} (ok : holds_block m ≡ true) (located : Located m codes c (count_in m) places)
    (told : Part2Told m d ranks z places indices (count_in m) from c kinds kinds' links links' r) (yes : r ≡ true) where
  abbrev place : ℕ → ℕ
  place e = get_or places e 0

  passed : (e : ℕ) → e < c → (ltb (place e) (count_in m) ≡ true) × (clear_of m places e (place e) ≡ true) × (entry_right m d ranks from (place e) (get_or indices e 0) (face_size z indices e) ≡ true)
  passed e h = three_yes (ltb (place e) (count_in m)) (clear_of m places e (place e)) (entry_right m d ranks from (place e) (get_or indices e 0) (face_size z indices e))
      (all_tab (passes_at m d ranks z places indices (count_in m) from) (λ e. e) c (sym told.said ∙ yes) e h)

  below : (e : ℕ) → e < c → place e < count_in m
  below e h = ltb-true (place e) (count_in m) (passed e h).0

  there : (e : ℕ) → e < c → (place e < count_in m) × (is_critical_word (column m 3 (place e)) ≡ true) × (column m 4 (place e) ≡ get_or codes e 0)
  there e h = go (located.each e h)
    where
      go : LocatedAt m (get_or codes e 0) (count_in m) (get_or places e 0) → (get_or places e 0 < count_in m) × (is_critical_word (column m 3 (get_or places e 0)) ≡ true) × (column m 4 (get_or places e 0) ≡ get_or codes e 0)
      go (inl f) = f
      go (inr f) = absurd (let few = (sited m ok).linked.few in let y = f.0 in let l = below e h in omega (arith, few, y, l))

  size : (e : ℕ) → e < c → face_size z indices e ≡ length (cycle (column m 1) (place e))
  size e h = eqb-true (face_size z indices e) (length (cycle (column m 1) (place e)))
      (three_yes (eqb (column m 3 (place e)) (2 + 4 * from)) (eqb (face_size z indices e) (length (cycle (column m 1) (place e))))
      (all (meets_at m d ranks (get_or indices e 0) (face_size z indices e) (cycle (column m 1) (place e)))
      (tab (λ j. j) (face_size z indices e))) (passed e h).2).1

  placing : Placing2 m codes indices places z c (λ e. met_at (cycle (column m 1) (get_or places e 0)) (face_size z indices e))
  placing = record {
    place_below = below;
    is_critical = λ e h. (there e h).1;
    code_is = λ e h. (there e h).2;
    size_is = size;
    met_is = λ e j h u.
        ap (λ (n : ℕ). met_at (cycle (column m 1) (place e)) n j) (size e h) ∙ trails.met_is (sited m ok).linked (below e h) j (let n = size e h in omega (arith, n, u))
        ∙ ap (λ (n : ℕ). iter (column m 1) (n - j) (place e)) (sym (size e h)) ∙ sym (steps_iter (column m 1) (face_size z indices e - j) (place e));
  }

last_no : (a b c : Bool) → c ≡ false → (a && (b && c)) ≡ false
last_no true true c e = e
last_no true false c e = refl
last_no false b c e = refl

module _ {m s v x b z : List ℕ} {f : Front} {l : Tail} {ranks d : List ℕ} (ok : holds_block m ≡ true) (new : NewVolume m s v x b z f l ranks d)
    {codes indices kinds links : List ℕ} {r : Bool} (first : CriticalRight m s b z f.darts f.from f.to l codes indices kinds links r) where
  abbrev halves : Transfer → Bool
  halves t = all (part2_right (darts_in m) t) t.part2 && part2_apart (darts_in m) t.part2

  -- THE FIRST HALF says no
  pub critical_no : r ≡ false → Parted m s v x b z f l kinds links false
  critical_no e = record {
    is = λ t w. sym (parts_split (block_in m) t ∙ ap (λ (q : Bool). q && halves t) (sym (first.answer t v x (arrives w (new.right t w))) ∙ e));
    linking = λ y. absurd (true≢false (sym y));
  }

  -- it says yes
  module _ (yes : r ≡ true) (codes_size : f.darts ≤ length codes) (indices_size : f.darts ≤ length indices) (sizes_size : f.darts ≤ length z) (ranks_size : f.darts ≤ length ranks) (sender : f.from ≤ 15) where
    module _ {t : Transfer} (w : TransferOutlined t s v x b z f l) where
      a : Arrives t v x b z s f.darts f.from f.to l
      a = arrives w (new.right t w)

      told : CriticalTold t x b z f.darts l codes indices kinds links
      told = first.told yes t v x a

      rest : rest_right (block_in m) t ≡ true
      rest = sym (first.answer t v x a) ∙ yes

      few : l.count2 ≤ f.darts
      few = by_cases (few_entries l f.darts) (λ e. few2 l e) (λ e. absurd (true≢false (sym rest ∙ sym (too_many a e (block_in m)))))

      count : length t.part2 ≡ l.count2
      count = sym (length-map t.part2 code2) ∙ ap length (sym told.codes_are) ∙ length-take-le l.count2 codes (omega (arith, codes_size, few))

      indexed : indices_right t ≡ true
      indexed =
          and_left (indices_right t) _
          (and_left (indices_right t && consecutive t.part3) _
          (and_left
          (indices_right t && consecutive t.part3
          && all (λ k. not (eqb k.other t.from) && not (eqb k.other t.to)) t.part4) (labels_new (block_in m) t)
          rest))

      codes_are : take (length t.part2) codes ≡ map code2 t.part2
      codes_are = ap (λ (c : ℕ). take c codes) count ∙ told.codes_are

      indices_are : take (length t.part2) indices ≡ map index2 t.part2
      indices_are = ap (λ (c : ℕ). take c indices) count ∙ told.indices_are

      fits : part_fits b f.darts [] (take (length t.part2) indices) ≡ true
      fits = index_fits new.draft t w.inside (full w (new.right t w)) w.darts_are (sym w.points_are) (vertices_below w (new.right t w)) m ok indices indices_are indexed

      beside : Meetable m (count_in m) d f.darts ranks
      beside =
          meetable new.draft t w.inside (full w (new.right t w)) w.darts_are (sym w.points_are)
          (vertices_below w (new.right t w)) m ok (points_finite w (new.right t w) m new.fresh) ranks_size

      sewn : (places : List ℕ) → l.count2 ≤ length places → Sewable m d ranks z places indices (count_in m) f.darts f.from l.count2
      sewn places n = subst (λ (c : ℕ). Sewable m d ranks z places indices (count_in m) f.darts f.from c) count
          (subst (λ (o : ℕ). Sewable m d ranks z places indices (count_in m) f.darts o (length t.part2)) (sym w.from_is)
          (sewable new.draft t w.inside (full w (new.right t w)) w.darts_are (sym w.points_are) (vertices_below w (new.right t w)) m ok indices
          indices_are (omega (arith, count, few, indices_size)) (omega (arith, count, few, (told_of w).few)) fits beside
          (omega (arith, sender, w.from_is)) sizes_size (omega (arith, count, n))))

      code_small : (e : ℕ) → e < l.count2 → get_or codes e 0 < 2 ^ 54
      code_small e h =
          let q : get_or codes e 0 ≡ get_or (map code2 t.part2) e 0 = sym (get_or-take l.count2 codes e 0 h) ∙ ap (λ (c : List ℕ). get_or c e 0) told.codes_are in
          let u = took_codes l.count2 w.part2_in e in
          omega (arith, q, u)

    -- THE SECOND HALF may be asked
    pub ready : Part2Ready m d ranks z codes indices f.darts f.from l.count2
    ready = record { codes_size = omega (arith, few new.outlined, codes_size); codes_small = code_small new.outlined; sewable = sewn new.outlined }

    pub few_second : l.count2 ≤ f.darts
    few_second = few new.outlined

    -- and has answered
    module _ {kinds' links' : List ℕ} {q : Bool} (second : Part2Done m d ranks z codes indices f.from l.count2 kinds kinds' links links' q) where
      second_is : distinct (take l.count2 codes) ≡ true → (t : Transfer) → TransferOutlined t s v x b z f l → q ≡ halves t
      second_is e t w =
          part2_answer new.draft t w.inside (full w (new.right t w)) w.darts_are (sym w.points_are)
          (vertices_below w (new.right t w)) m ok indices (indices_are w) (omega (arith, count w, few w, indices_size)) (omega (arith, count w, few w, (told_of w).few)) (fits w)
          (codes_are w)
          (subst (λ (c : ℕ). Located m codes c (count_in m) second.places) (sym (count w)) (second.located e))
          (subst (λ (o : ℕ). Part2Told m d ranks z second.places indices (count_in m) o (length t.part2) kinds kinds' links links' q) w.from_is
          (subst (λ (c : ℕ). Part2Told m d ranks z second.places indices (count_in m) f.from c kinds kinds' links links' q) (sym (count w)) (second.told e)))

      rest_then : (t : Transfer) → TransferOutlined t s v x b z f l → parts_right (block_in m) t ≡ halves t
      rest_then t w = parts_split (block_in m) t ∙ ap (λ (h : Bool). h && halves t) (rest w)

      one_twice : distinct (take l.count2 codes) ≡ false → (t : Transfer) → TransferOutlined t s v x b z f l → part2_apart (darts_in m) t.part2 ≡ false
      one_twice e t w = by_cases (part2_apart (darts_in m) t.part2) (λ y. absurd (true≢false (sym (codes_differ (darts_in m) t.part2 y) ∙ ap distinct (sym (told w).codes_are) ∙ e))) (λ y. y)

      answer : (t : Transfer) → TransferOutlined t s v x b z f l → q ≡ parts_right (block_in m) t
      answer t w = by_cases (distinct (take l.count2 codes))
          (λ e. second_is e t w ∙ sym (rest_then t w))
          (λ e. second.same_code e ∙ sym
          (parts_split (block_in m) t
          ∙ last_no (rest_right (block_in m) t) (all (part2_right (darts_in m) t) t.part2) (part2_apart (darts_in m) t.part2)
          (one_twice e t w)))

      linked : q ≡ true → distinct (take l.count2 codes) ≡ true → (t : Transfer) → TransferOutlined t s v x b z f l
          → Linking m (get_or m 2 0) f.darts x kinds' links' (transfer_links (darts_in m) t)
      linked y e t w =
          let place2 = placing ok (second.located e) (second.told e) y in
          let apart : part2_apart (darts_in m) t.part2 ≡ true = and_right (all (part2_right (darts_in m) t) t.part2) _ (sym (second_is e t w) ∙ y) in
          brought m ok (a w) (told w) (indexed w) (told_of w).few (omega (arith, indices_size, few w)) place2
          (met_once m ok (a w) (told w) (indexed w) (told_of w).few (omega (arith, indices_size, few w)) place2 apart)
          (drafted_apart m (sited m ok) new.draft new.fresh refl) (told w).words_right ((second.told e).kinds_are y) ((second.told e).links_are y)

      pub parted : Parted m s v x b z f l kinds' links' q
      parted = record {
        is = answer;
        linking = λ y. by_cases (distinct (take l.count2 codes)) (λ e. linked y e) (λ e. absurd (true≢false (sym y ∙ second.same_code e)));
      }
