-- The moves by places are the model's: between two blocks, from a block, and of the whole mesh. Assumes nothing.
use Rattle.std.specs.Prelude.{None, Option, Some}
use mathlib.Core.Path.{◌≡◌, refl, sym, ap, ◌∙◌, subst}
use mathlib.Core.Bool.{Bool, true, false, true≢false, cond, not, ◌&&◌}
use mathlib.Core.List.{List, [], ◌∷◌, ◌++◌, map}
use Prim.Native.Nat.{ℕ, zero, suc, ◌+◌, ◌*◌, ◌-◌, ◌≤◌, ◌<◌, min}
use native.Mathlib.Omega.{arith}
use lib.Dec.{leb, ltb, eqb}
use lib.ListN.{length, get_or, drop, length-map}
use lib.Seq.{get_or-take, get_or-drop}
use mathlib.Core.Logic.{inl}
use borrow.Author.Tests.{le-leb, lt-leb, leb-true, leb-false, ltb-true, eqb-true, not-true}
use Rattle.model.specs.Lists.{all, any, keep, tab, concat_map, first_no}
use Rattle.model.specs.Values.{Block, no_block, Limits, is_viewer, limits_in}
use Rattle.model.specs.Sound.{block_at, numbered_from, blocks_right, volume_limit}
use Rattle.model.specs.Cells.{held, volume_in}
use Rattle.model.specs.Departure.{departure_checks}
use Rattle.model.specs.Image.{words, column, block_in, dart_in, holds_block}
use Rattle.model.specs.Balance.{Oracle, Move, level, blocked, move, picked, counts, may_give, recipients, candidates, can_move, first_or, is_level, next_of}
use Rattle.model.specs.Calls.{served, memories}
use Rattle.laws.proofs.Tests.{by_cases, and_left, and_right}
use Rattle.laws.proofs.Members.{keep_le, keep_map, keep_twice, keep_cong}
use Rattle.laws.proofs.Tables.{length_tab, getD_tab, tab_any, any_tab, tab_all, all_tab}
use Rattle.memory.specs.Header.{limits_of}
use Rattle.memory.specs.declared.header.Limits as header
use Rattle.columns.proofs.Below.{below_at}
use Rattle.cells.proofs.FaceLaws.{keep_append}
use Rattle.cells.proofs.Reached.{places, places_below}
use Rattle.cells.proofs.Sited.{sited, darts_in}
use Rattle.selection.specs.Picked.{picked_size, Sizes}
use Rattle.selection.proofs.PickedPlaces.{picked_places, size_is}
use Rattle.mesh.specs.Parts.{block_count, part}
use Rattle.mesh.proofs.Parts.{mesh_tab}
use Rattle.mesh.proofs.Among.{rack_sound}
use Rattle.balance.specs.Moves.{can_leave, fits, leaves_at, UntriedIn, going, candidate_of, at}
use Rattle.balance.specs.Moves.{SoundParts, mesh_in, count_at, picked_count, CellsCounted, Least, left_for, moves_between, moves_from, all_moves, move_found}
use Rattle.balance.proofs.Strikes.{leaves_any, untried_more, fits_same}
use Rattle.balance.proofs.Searches.{joined, all_joined, none_from, Searching, searching_start, searching_skip, searching_none, search_found, search_end}
use Rattle.balance.proofs.SurplusLaws.{counts_are}

keep_concat : (q : Move → Bool) (f : ℕ → List Move) (l : List ℕ) → keep q (concat_map f l) ≡ concat_map (λ x. keep q (f x)) l
keep_concat q f [] = refl
keep_concat q f (x ∷ l) = keep_append q (f x) (concat_map f l) ∙ ap (λ (r : List Move). keep q (f x) ++ r) (keep_concat q f l)

-- ALL MOVES are the candidates that can be made
pub moves_are : (viewers : ℕ) (o : Oracle) (mesh : List ℕ) → keep (can_move (limits_in viewers) (mesh_in mesh)) (candidates o (mesh_in mesh) (counts o (mesh_in mesh))) ≡ all_moves viewers o mesh
unfolding candidates
moves_are viewers o mesh =
    keep_concat can (λ d. concat_map (pairs d) (takers d)) (tab (λ b. b) (length (counts o (mesh_in mesh))))
    ∙ ap (λ (f : ℕ → List Move). concat_map f (tab (λ b. b) (length (counts o (mesh_in mesh))))) (λ i d. keep_concat can (pairs d) (takers d) i)
  where
    can : Move → Bool
    can = can_move (limits_in viewers) (mesh_in mesh)

    takers : ℕ → List ℕ
    takers d = recipients (counts o (mesh_in mesh)) (picked_count o mesh d)

    pairs : ℕ → ℕ → List Move
    pairs d r = map (λ s. record { donor = d; recipient = r; serial = s }) (picked o (block_at (mesh_in mesh) d).darts)

pub block_is : (mesh : List ℕ) (i : ℕ) → i < block_count mesh → block_at (mesh_in mesh) i ≡ block_in (part mesh i)
unfolding block_at
block_is mesh i h = getD_tab (λ j. block_in (part mesh j)) (block_count mesh) i no_block h

-- 11 WITH A LIMIT of 512 at the most is 11 with 512 and the limit
within_limit : (most : ℕ) (x : Block) (r s : ℕ) → most ≤ 512
    → eqb (first_no (departure_checks most x r s)) 0 ≡ (leb (length (volume_in x.darts s)) most && eqb (first_no (departure_checks 512 x r s)) 0)
unfolding departure_checks first_no
within_limit most x r s h = by_cases (leb (length (volume_in x.darts s)) most)
    (λ e. let l = leb-true (length (volume_in x.darts s)) most e in rw (e, le-leb (length (volume_in x.darts s)) 512 (omega arith)) refl)
    (λ e. rw e (refused_first (leb r 15 && not (eqb r x.number)) (held x.darts s)))
  where
    refused_first : (a b : Bool) → eqb (cond a (cond b 11 10) 9) 0 ≡ false
    refused_first true true = refl
    refused_first true false = refl
    refused_first false b = refl

few_sent : (viewers d r : ℕ) → volume_limit (limits_in viewers) d r ≤ 512
unfolding limits_in
few_sent viewers d r = by_cases (is_viewer viewers d) (λ e. rw e (omega arith)) (λ e. rw e (omega arith))

-- BETWEEN TWO BLOCKS
module _ (viewers : ℕ) (o : Oracle) (mesh : List ℕ) (sp : SoundParts mesh) (d r : ℕ) (hd : d < block_count mesh) (hr : r < block_count mesh) (apart : r ≡ d → ⊥) where
  abbrev b : List ℕ
  b = part mesh d

  abbrev c : List ℕ
  c = part mesh r

  abbrev z : ℕ → ℕ
  z = picked_size o b

  abbrev mv : ℕ → Move
  mv s = record { donor = d; recipient = r; serial = s }

  -- 11 of both
  abbrev most : ℕ
  most = volume_limit (limits_in viewers) d r

  -- 21 of the recipient
  abbrev room_there : ℕ
  room_there = (limits_in viewers r).block_darts

  -- 9 to 14, and 21
  can_is : (s : ℕ) → can_move (limits_in viewers) (mesh_in mesh) (mv s)
      ≡ ((leb (length (volume_in (darts_in b) s)) most && can_leave b s) && leb (get_or c 2 0 + length (volume_in (darts_in b) s)) room_there)
  unfolding can_move
  can_is s = go (block_at (mesh_in mesh) d) (block_at (mesh_in mesh) r) (block_is mesh d hd) (block_is mesh r hr)
    where
      go : (x y : Block) → x ≡ block_in b → y ≡ block_in c
          → (eqb (first_no (departure_checks most x r s)) 0 && leb (length y.darts + length (volume_in x.darts s)) room_there)
          ≡ ((leb (length (volume_in (darts_in b) s)) most && can_leave b s) && leb (get_or c 2 0 + length (volume_in (darts_in b) s)) room_there)
      go x y e f = rw (
        e,
        f,
        within_limit most (block_in b) r s (few_sent viewers d r),
        leaves_any b r s (omega (arith, sp.few)) (λ q. apart (q ∙ sp.number d hd)),
        length_tab (dart_in c) (get_or c 2 0),
      ) refl

  -- of a volume that is there
  left_is : (a : ℕ) → 0 < a → (k : Bool) → ((leb a most && k) && leb (get_or c 2 0 + a) room_there) ≡ (leb a (left_for viewers mesh d r) && k)
  left_is a h k = by_cases (leb a (left_for viewers mesh d r))
      (λ e. let l = leb-true a (left_for viewers mesh d r) e in rw (e, le-leb a most (omega arith), le-leb (get_or c 2 0 + a) room_there (omega arith)) (and_true k))
      (λ e. rw e (by_cases (leb a most)
      (λ t. let l = leb-true a most t in let g = leb-false a (left_for viewers mesh d r) e in rw (t, lt-leb (get_or c 2 0 + a) room_there (omega arith)) (and_false k))
      (λ t. rw t refl)))
    where
      and_true : (k : Bool) → (k && true) ≡ k
      and_true true = refl
      and_true false = refl

      and_false : (k : Bool) → (k && false) ≡ false
      and_false true = refl
      and_false false = refl

  test_is : (p : ℕ) → p < get_or b 2 0 → (ltb 0 (z p) && can_move (limits_in viewers) (mesh_in mesh) (mv (column b 0 p))) ≡ fits z (leaves_at b) (left_for viewers mesh d r) p
  test_is p h = by_cases (ltb 0 (z p))
      (λ e. rw e (can_is (column b 0 p) ∙ sized (size_is o b (sp.image d hd) p h e) ∙ left_is (z p) (ltb-true 0 (z p) e) (can_leave b (column b 0 p))))
      (λ e. rw e refl)
    where
      sized : {x y : ℕ} → x ≡ y → ((leb x most && can_leave b (column b 0 p)) && leb (get_or c 2 0 + x) room_there) ≡ ((leb y most && can_leave b (column b 0 p)) && leb (get_or c 2 0 + y) room_there)
      sized q = ap (λ (k : ℕ). (leb k most && can_leave b (column b 0 p)) && leb (get_or c 2 0 + k) room_there) q

  pub between_is : moves_between viewers o mesh d r ≡ map mv (going z b (left_for viewers mesh d r))
  unfolding going
  between_is =
      ap (λ (x : Block). keep can (map mv (picked o x.darts))) (block_is mesh d hd)
      ∙ ap (λ (l : List ℕ). keep can (map mv l)) (picked_places o b (sp.image d hd))
      ∙ keep_map can mv (map (column b 0) kept)
      ∙ ap (map mv) (keep_map (λ s. can (mv s)) (column b 0) kept
      ∙ ap (map (column b 0)) (keep_twice (λ p. can (mv (column b 0 p))) (λ p. ltb 0 (z p)) (places (get_or b 2 0))
      ∙ keep_cong (λ p. ltb 0 (z p) && can (mv (column b 0 p))) (fits z (leaves_at b) (left_for viewers mesh d r)) (places (get_or b 2 0))
      (λ p k. test_is p (places_below (get_or b 2 0) p k))))
    where
      can : Move → Bool
      can = can_move (limits_in viewers) (mesh_in mesh)

      kept : List ℕ
      kept = keep (λ p. ltb 0 (z p)) (places (get_or b 2 0))

-- A PART lent to a callee
pub sizes_there : {o : Oracle} {l m s : List ℕ} → Sizes o l s → l ≡ m → Sizes o m s
sizes_there {o} {l} {m} {s} z e = subst (λ (x : List ℕ). Sizes o x s) e z

count_word : (mesh : List ℕ) (i : ℕ) → get_or (part mesh i) 2 0 ≡ get_or mesh (i * words + 2) 0
count_word mesh i = get_or-take words (drop (i * words) mesh) 2 0 (omega arith) ∙ get_or-drop (i * words) mesh 2 0

-- the limits of both blocks, by value
module _ (viewers : ℕ) (mesh : List ℕ) (d r : ℕ) (from there : header.Limits) (e : limits_of from ≡ limits_in viewers d) (f : limits_of there ≡ limits_in viewers r) where
  of_both : min (min from.volume there.volume) (there.block - get_or mesh (r * words + 2) 0) ≡ left_for viewers mesh d r
  of_both = ap (λ (l : Limits). min (min l.volume_darts there.volume) (there.block - get_or mesh (r * words + 2) 0)) e
      ∙ ap (λ (l : Limits). min (min (limits_in viewers d).volume_darts l.volume_darts) (l.block_darts - get_or mesh (r * words + 2) 0)) f
      ∙ ap (λ (n : ℕ). min (volume_limit (limits_in viewers) d r) ((limits_in viewers r).block_darts - n)) (sym (count_word mesh r))

  pub left_none : there.block < get_or mesh (r * words + 2) 0 → 0 ≡ left_for viewers mesh d r
  left_none h = none_left (min from.volume there.volume) there.block (get_or mesh (r * words + 2) 0) h ∙ of_both
    where
      none_left : (m a c : ℕ) → a < c → 0 ≡ min m (a - c)
      none_left m a c h = omega arith

  pub left_some : {most x : ℕ} → most ≡ min from.volume there.volume → x ≡ min most (there.block - get_or mesh (r * words + 2) 0) → x ≡ left_for viewers mesh d r
  left_some p q = q ∙ ap (λ (m : ℕ). min m (there.block - get_or mesh (r * words + 2) 0)) p ∙ of_both

pub between_there : (s : List ℕ) {l m s' : List ℕ} {r : Option ℕ} {a b : ℕ} → l ≡ m → a ≡ b → r ≡ candidate_of (going (at s) l a) → UntriedIn (at s) l s'
    → (r ≡ candidate_of (going (at s) m b)) × UntriedIn (at s) m s'
between_there s {l} {m} {s'} {r} {a} {b} e f g u =
    (g ∙ ap (λ (x : List ℕ). candidate_of (going (at s) x a)) e ∙ ap (λ (x : ℕ). candidate_of (going (at s) m x)) f, subst (λ (x : List ℕ). UntriedIn (at s) x s') e u)

-- counts are small
picked_few : (o : Oracle) (m : List ℕ) → holds_block m ≡ true → length (picked o (darts_in m)) ≤ 4096
picked_few o m ok =
    few_of (ap length (picked_places o m ok) ∙ length-map kept (column m 0))
    (keep_le (λ p. ltb 0 (picked_size o m p)) (places (get_or m 2 0))) (length_tab (λ (p : ℕ). p) (get_or m 2 0))
    (sited m ok).linked.few
  where
    kept : List ℕ
    kept = keep (λ p. ltb 0 (picked_size o m p)) (places (get_or m 2 0))

    few_of : {a b c n : ℕ} → a ≡ b → b ≤ c → c ≡ n → n ≤ 4096 → a ≤ 4096
    few_of e f g h = omega arith

pub counted_small : {o : Oracle} {mesh cs : List ℕ} → SoundParts mesh → CellsCounted o mesh cs → (i : ℕ) → i < block_count mesh → get_or cs i 0 ≤ 4096
counted_small {o} {mesh} {cs} sp c i h = small_of (c.entry i h) (picked_few o (part mesh i) (sp.image i h))
  where
    small_of : {a b : ℕ} → a ≡ b → b ≤ 4096 → a ≤ 4096
    small_of e f = omega arith

-- WHICH MAY GO, by a table of which some are struck off
pub going_same : {z : ℕ → ℕ} (m : List ℕ) {s : List ℕ} → UntriedIn z m s → (left : ℕ) → going (at s) m left ≡ going z m left
unfolding going
going_same {z} m {s} u left = ap (map (column m 0)) (keep_cong (fits (at s) (leaves_at m) left) (fits z (leaves_at m) left) (places (get_or m 2 0))
    (λ p k. fits_same u left p (places_below (get_or m 2 0) p k)))

-- what the first of them says of the list
pub none_goes : (l : List ℕ) → None ≡ candidate_of l → l ≡ []
none_goes [] e = refl
none_goes (x ∷ l) e = let z : ◌≡◌ {A = ℕ} 0 1 = cc in absurd (omega arith)

pub one_goes : (l : List ℕ) (s : ℕ) → Some s ≡ candidate_of l → (rest : List ℕ) × (l ≡ s ∷ rest)
one_goes [] s e = let z : ◌≡◌ {A = ℕ} 0 1 = cc in absurd (omega arith)
one_goes (x ∷ l) s e = let same : s ≡ x = cc in (l, ap (λ (y : ℕ). y ∷ l) (sym same))

-- and of moves
pub no_move : (l : List Move) → blocked ≡ first_or blocked l → l ≡ []
no_move [] e = refl
no_move (t ∷ l) e = let z : ◌≡◌ {A = ℕ} 0 1 = cc in absurd (omega arith)

pub one_move : (l : List Move) (t : Move) → move t ≡ first_or blocked l → (ts : List Move) × (l ≡ t ∷ ts)
one_move [] t e = let z : ◌≡◌ {A = ℕ} 0 1 = cc in absurd (omega arith)
one_move (x ∷ l) t e = let same : t ≡ x = cc in (l, ap (λ (y : Move). y ∷ l) (sym same))

-- WHO GIVES TO WHOM
abbrev pub gives_to : Oracle → List ℕ → ℕ → ℕ → Bool
gives_to o mesh d r = may_give (picked_count o mesh d) (picked_count o mesh r)

module _ (o : Oracle) (mesh : List ℕ) where
  counts_length : length (counts o (mesh_in mesh)) ≡ block_count mesh
  counts_length = ap length (counts_are o mesh) ∙ length_tab (count_at o mesh) (block_count mesh)

  counted_is : {cs : List ℕ} → CellsCounted o mesh cs → (i : ℕ) → i < block_count mesh → get_or cs i 0 ≡ picked_count o mesh i
  counted_is c i h = c.entry i h ∙ sym (ap (λ (l : List ℕ). get_or l i 0) (counts_are o mesh) ∙ getD_tab (count_at o mesh) (block_count mesh) i 0 h)

  pub gives_told : {cs : List ℕ} → CellsCounted o mesh cs → (d r : ℕ) → d < block_count mesh → r < block_count mesh → {t : Bool} → t ≡ may_give (get_or cs d 0) (get_or cs r 0) → t ≡ gives_to o mesh d r
  gives_told {cs} c d r hd hr e = e ∙ ap (λ (x : ℕ). may_give x (get_or cs r 0)) (counted_is c d hd) ∙ ap (may_give (picked_count o mesh d)) (counted_is c r hr)

  pub blocks_apart : (d r : ℕ) → gives_to o mesh d r ≡ true → r ≡ d → ⊥
  blocks_apart d r e same = let l = leb-true (picked_count o mesh r + 2) (picked_count o mesh d) e in let q = ap (picked_count o mesh) same in omega (arith, l, q)

  pub from_is : (viewers d : ℕ) → moves_from viewers o mesh d ≡ joined (gives_to o mesh d) (moves_between viewers o mesh d) (block_count mesh)
  from_is viewers d = ap (λ (n : ℕ). joined (gives_to o mesh d) (moves_between viewers o mesh d) n) counts_length

-- THE LOOP over recipients of block d
pub record Giving (viewers : ℕ) (o : Oracle) (mesh : List ℕ) (d : ℕ) (s : List ℕ) (r : ℕ) : Type 0 where
  pub untried : UntriedIn (picked_size o (part mesh d)) (part mesh d) s
  pub search : Searching (gives_to o mesh d) (moves_between viewers o mesh d) (block_count mesh) r

pub giving_start : {viewers : ℕ} {o : Oracle} {mesh : List ℕ} {d : ℕ} {s : List ℕ} → Sizes o (part mesh d) s → Giving viewers o mesh d s 0
giving_start {viewers} {o} {mesh} {d} {s} z = record {
  untried = record { len = z.len; entry = λ p h. inl (z.entry p h) };
  search = searching_start (gives_to o mesh d) (moves_between viewers o mesh d) (block_count mesh);
}

module _ {viewers : ℕ} {o : Oracle} {mesh : List ℕ} {d : ℕ} {s : List ℕ} {r : ℕ} (w : Giving viewers o mesh d s r) (h : r < block_count mesh) where
  pub giving_skip : gives_to o mesh d r ≡ false → Giving viewers o mesh d s (r + 1)
  giving_skip e = record { untried = w.untried; search = searching_skip w.search h e }

  module _ (sp : SoundParts mesh) (hd : d < block_count mesh) (apart : r ≡ d → ⊥) {c : Option ℕ}
      (e : c ≡ candidate_of (going (at s) (part mesh d) (left_for viewers mesh d r))) where
    abbrev there : List ℕ
    there = going (picked_size o (part mesh d)) (part mesh d) (left_for viewers mesh d r)

    first_is : c ≡ candidate_of there
    first_is = e ∙ ap candidate_of (going_same (part mesh d) w.untried (left_for viewers mesh d r))

    pub giving_none : c ≡ None → {s' : List ℕ} → UntriedIn (at s) (part mesh d) s' → Giving viewers o mesh d s' (r + 1)
    giving_none q u = record {
      untried = untried_more w.untried u;
      search = searching_none w.search h (between_is viewers o mesh sp d r hd h apart
          ∙ ap (map (λ x. record { donor = d; recipient = r; serial = x })) (none_goes there (sym q ∙ first_is)));
    }

    pub giving_found : {serial : ℕ} → c ≡ Some serial → gives_to o mesh d r ≡ true → move_found d (Some (r, serial)) ≡ first_or blocked (moves_from viewers o mesh d)
    giving_found {serial} q b =
        let g = one_goes there serial (sym q ∙ first_is) in
        let f = search_found w.search h b (record { donor = d; recipient = r; serial = serial }) (map (λ x. record { donor = d; recipient = r; serial = x }) g.0)
        (between_is viewers o mesh sp d r hd h apart ∙ ap (map (λ x. record { donor = d; recipient = r; serial = x })) g.1) in
        sym (ap (first_or blocked) (from_is o mesh viewers d ∙ f.1))

pub giving_end : {viewers : ℕ} {o : Oracle} {mesh : List ℕ} {d : ℕ} {s : List ℕ} {r : ℕ} → Giving viewers o mesh d s r → block_count mesh ≤ r → move_found d None ≡ first_or blocked (moves_from viewers o mesh d)
giving_end {viewers} {o} {mesh} {d} w h = sym (ap (first_or blocked) (from_is o mesh viewers d ∙ search_end w.search h))

-- THE NEXT MOVE, by the counts and the least of them
next_is : (viewers : ℕ) (o : Oracle) (mesh : List ℕ) → next_of (limits_in viewers) o (mesh_in mesh) ≡ first_or (cond (is_level (counts o (mesh_in mesh))) level blocked) (all_moves viewers o mesh)
unfolding next_of
next_is viewers o mesh = ap (first_or (cond (is_level (counts o (mesh_in mesh))) level blocked)) (moves_are viewers o mesh)

module _ (viewers : ℕ) (o : Oracle) (mesh : List ℕ) {cs : List ℕ} (C : CellsCounted o mesh cs) {low : ℕ} (L : Least cs (block_count mesh) low) where
  abbrev k : ℕ
  k = block_count mesh

  abbrev f : ℕ → ℕ
  f = count_at o mesh

  -- a donor, by what it has more than the least
  abbrev is_donor : ℕ → Bool
  is_donor d = may_give (picked_count o mesh d) low

  pub donor_told : (d : ℕ) → d < k → {t : Bool} → t ≡ may_give (get_or cs d 0) low → t ≡ is_donor d
  donor_told d h e = e ∙ ap (λ (x : ℕ). may_give x low) (counted_is o mesh C d h)

  low_is : (r : ℕ) → r < k → low ≤ picked_count o mesh r
  low_is r h = omega (arith, L.not_above r h, counted_is o mesh C r h)

  nothing_from : (d : ℕ) → is_donor d ≡ false → moves_from viewers o mesh d ≡ []
  nothing_from d e = from_is o mesh viewers d ∙ none_from (gives_to o mesh d) (moves_between viewers o mesh d) (λ b. b) k
      (λ r h t. absurd (no_more (picked_count o mesh d) (picked_count o mesh r) (leb-false (low + 2) (picked_count o mesh d) e) (leb-true (picked_count o mesh r + 2) (picked_count o mesh d) t) (low_is r h)))
    where
      no_more : (d r : ℕ) → d < low + 2 → r + 2 ≤ d → low ≤ r → ⊥
      no_more d r a b c = omega arith

  all_are : all_moves viewers o mesh ≡ joined is_donor (moves_from viewers o mesh) k
  all_are = ap (λ (n : ℕ). concat_map (moves_from viewers o mesh) (tab (λ b. b) n)) (counts_length o mesh) ∙ all_joined is_donor (moves_from viewers o mesh) k (λ d h e. nothing_from d e)

  abbrev some_gives : Bool
  some_gives = any (λ x. may_give x low) (tab (λ i. get_or cs i 0) k)

  none_gives : some_gives ≡ false → (d : ℕ) → d < k → may_give (get_or cs d 0) low ≡ false
  none_gives e d h = by_cases (may_give (get_or cs d 0) low) (λ t. absurd (true≢false (sym (tab_any (λ x. may_give x low) (λ i. get_or cs i 0) k d h t) ∙ e))) (λ t. t)

  is_level_if : some_gives ≡ false → is_level (tab f k) ≡ true
  unfolding is_level
  is_level_if e = tab_all (λ c. all (λ d. not (may_give c d)) (tab f k)) f k (λ i hi. tab_all (λ d. not (may_give (f i) d)) f k (λ j hj.
      within (f i) (f j) (let n = leb-false (low + 2) (get_or cs i 0) (none_gives e i hi) in omega (arith, n, C.entry i hi)) (omega (arith, L.not_above j hj, C.entry j hj))))
    where
      within : (x y : ℕ) → x < low + 2 → low ≤ y → not (may_give x y) ≡ true
      within x y a b = ap not (lt-leb (y + 2) x (omega arith))

  not_level_if : some_gives ≡ true → is_level (tab f k) ≡ false
  unfolding is_level
  not_level_if e = by_cases (is_level (tab f k))
      (λ t. let p = any_tab (λ x. may_give x low) (λ i. get_or cs i 0) k e in
      let row = all_tab (λ c. all (λ d. not (may_give c d)) (tab f k)) f k t p.0 p.1 in
      let no = leb-false (f L.place + 2) (f p.0) (not-true _ (all_tab (λ d. not (may_give (f p.0) d)) f k row L.place L.below)) in
      let yes = leb-true (low + 2) (get_or cs p.0 0) p.2 in
      absurd (omega (arith, no, yes, C.entry p.0 p.1, C.entry L.place L.below, L.there)))
      (λ t. t)

  level_here : (b : Bool) → is_level (tab f k) ≡ b → is_level (counts o (mesh_in mesh)) ≡ b
  level_here b e = ap is_level (counts_are o mesh) ∙ e

  pub nobody_gives : {r : Bool} → r ≡ some_gives → r ≡ false → served level ≡ served (next_of (limits_in viewers) o (mesh_in mesh))
  nobody_gives {r} e h = ap served (sym (next_is viewers o mesh ∙ level_if (is_level (counts o (mesh_in mesh))) (all_moves viewers o mesh) (level_here true (is_level_if none))
      (all_are ∙ none_from is_donor (moves_from viewers o mesh) (λ b. b) k (λ d l t. nothing_from d (sym (donor_told d l refl) ∙ none_gives none d l)))))
    where
      none : some_gives ≡ false
      none = sym e ∙ h

      level_if : (b : Bool) (l : List Move) → b ≡ true → l ≡ [] → first_or (cond b level blocked) l ≡ level
      level_if b l e q = rw (e, q) refl

  pub somebody_gives : {r : Bool} → r ≡ some_gives → r ≡ true → served (first_or blocked (all_moves viewers o mesh)) ≡ served (next_of (limits_in viewers) o (mesh_in mesh))
  somebody_gives {r} e h = ap served (sym (next_is viewers o mesh ∙ ap (λ (b : Bool). first_or (cond b level blocked) (all_moves viewers o mesh)) (level_here false (not_level_if (sym e ∙ h)))))

  -- THE LOOP over donors
  pub donor_found : {d to serial : ℕ} {w : Option (ℕ × ℕ)} → Searching is_donor (moves_from viewers o mesh) k d → d < k → is_donor d ≡ true
      → move_found d w ≡ first_or blocked (moves_from viewers o mesh d) → w ≡ Some (to, serial)
      → served (move (record { donor = d; recipient = to; serial = serial })) ≡ served (first_or blocked (all_moves viewers o mesh))
  donor_found {d} {to} {serial} s h a e q =
      let g = one_move (moves_from viewers o mesh d) (record { donor = d; recipient = to; serial = serial }) (sym (ap (move_found d) q) ∙ e) in
      let r = search_found s h a (record { donor = d; recipient = to; serial = serial }) g.0 g.1 in
      ap served (sym (ap (first_or blocked) (all_are ∙ r.1)))

  pub donor_end : {d : ℕ} → Searching is_donor (moves_from viewers o mesh) k d → k ≤ d → served blocked ≡ served (first_or blocked (all_moves viewers o mesh))
  donor_end s h = ap served (sym (ap (first_or blocked) (all_are ∙ search_end s h)))

pub donor_none : (viewers : ℕ) (o : Oracle) (mesh : List ℕ) (d : ℕ) {f : Option (ℕ × ℕ)} → move_found d f ≡ first_or blocked (moves_from viewers o mesh d) → f ≡ None → moves_from viewers o mesh d ≡ []
donor_none viewers o mesh d e q = no_move (moves_from viewers o mesh d) (sym (ap (move_found d) q) ∙ e)

numbered_at : (g : ℕ → Block) (n i : ℕ) → numbered_from i (tab g n) ≡ true → (p : ℕ) → p < n → (g p).number ≡ i + p
unfolding numbered_from
numbered_at g zero i e p h = absurd (omega arith)
numbered_at g (suc n) i e zero h = omega (arith, eqb-true (g 0).number i (and_left _ _ e))
numbered_at g (suc n) i e (suc p) h = omega (arith, numbered_at (λ k. g (suc k)) n (suc i) (and_right (eqb (g 0).number i) _ e) p (omega arith))

right_says : (m : List Block) → blocks_right m ≡ true → (1 ≤ length m) × (length m ≤ 16) × (numbered_from 0 m ≡ true)
unfolding blocks_right
right_says m e =
    let two = and_left (leb 1 (length m) && leb (length m) 16) _ e in
    (leb-true 1 (length m) (and_left (leb 1 (length m)) _ two), leb-true (length m) 16 (and_right (leb 1 (length m)) _ two), and_right (leb 1 (length m) && leb (length m) 16) _ e)

-- what the questions 2 and 23 say of the parts
pub sound_parts : (mesh : List ℕ) → all (λ b. holds_block b) (memories mesh) ≡ true → blocks_right (map block_in (memories mesh)) ≡ true → SoundParts mesh
sound_parts mesh images right =
    let q = right_says (mesh_in mesh) (sym (ap blocks_right (mesh_tab mesh)) ∙ right) in
    let n = length_tab (λ i. block_in (part mesh i)) (block_count mesh) in
    record {
      some = omega (arith, q.0);
      few = omega (arith, q.1);
      image = below_at (λ i. holds_block (part mesh i)) (block_count mesh) (rack_sound mesh ∙ images);
      number = λ i h. omega (arith, numbered_at (λ i. block_in (part mesh i)) (block_count mesh) 0 q.2 i h);
    }

-- the least count is small
pub least_small : {o : Oracle} {mesh cs : List ℕ} → SoundParts mesh → CellsCounted o mesh cs → {low : ℕ} → Least cs (block_count mesh) low → low ≤ 4096
least_small sp c l = omega (arith, counted_small sp c l.place l.below, l.there)
