-- A mesh in memory by the memories of its blocks: each is the front of its room, and behind a viewer's its room is zero. Assumes nothing.
use mathlib.Core.Path.{◌≡◌, refl, sym, ◌∙◌, ap}
use mathlib.Core.Bool.{Bool, true, false, ◌&&◌}
use mathlib.Core.List.{List, [], ◌∷◌, ◌++◌, map, append_assoc, append-nil}
use Prim.Native.Nat.{ℕ, zero, suc, ◌+◌, ◌*◌, ◌-◌, ◌/◌, ◌%◌, ◌≤◌, ◌<◌}
use native.Mathlib.Omega.{arith}
use lib.Dec.{ltb}
use lib.ListN.{length, get_or, take, drop, replicate, length-drop, length-map, take-append-drop, replicate-append-replicate}
use lib.Seq.{take-take, take_at, drop_at, take-add, length-take-le, get_or-take, get_or-drop, ext_get_or}
use borrow.Author.Tests.{le-ltb}
use Rattle.model.specs.Lists.{concat, tab}
use Rattle.model.specs.Values.{Block, no_block, Limits, limits_in}
use Rattle.model.specs.Sound.{Sound, sound_block, block_at}
use Rattle.model.specs.Cells.{serials}
use Rattle.model.specs.Image.{words, words_for, words_of, dart_words, image, memory_of}
use Rattle.model.specs.Calls.{memories}
use Rattle.model.specs.UndividedRun.{start}
use Rattle.laws.proofs.Lists.{concat_snoc}
use Rattle.laws.proofs.Maps.{map_at}
use Rattle.laws.proofs.Tests.{all_at}
use Rattle.laws.proofs.Tables.{tab_cong, tab_more, length_tab, getD_tab}
use Rattle.theory.proofs.ImageLaws.{tab_list, parts_of, ranges_of, image_length}
use Rattle.theory.proofs.MeshLaws.{mesh_parts, memories_are, images_pass}
use Rattle.agreement.proofs.Agreement.{limits_fit}
use Rattle.agreement.proofs.Begins.{start_label, described}
use Rattle.agreement.proofs.Described.{block_by}
use Rattle.agreement.proofs.MeshSound.{block_at_by}
use Rattle.mesh.specs.Parts.{part}
use Rattle.rounds.specs.Played.{own_memory, own_memories, owned, Elsewhere}
use Rattle.rounds.proofs.Placed.{own_fits}
use Rattle.rebalance.specs.Balanced.{left_over, with_memories}

-- A MESH is the rooms of its blocks, and what stands behind the last one
rooms_front : (n : ℕ) (m : List ℕ) → concat (tab (part m) n) ≡ take (n * 32776) m
unfolding concat
rooms_front zero m = refl
rooms_front (suc n) m =
    let e : n * 32776 + 32776 ≡ suc n * 32776 = omega arith in
    ap concat (tab_more (part m) n) ∙ concat_snoc (tab (part m) n) (part m n) ∙ ap (λ (l : List ℕ). l ++ part m n) (rooms_front n m)
    ∙ sym (take-add (n * 32776) 32776 m) ∙ ap (λ (k : ℕ). take k m) e

module _ (viewers : ℕ) where
  abbrev size_of : ℕ → ℕ
  size_of i = words_of (limits_in viewers i)

  -- a memory is the front of its room
  front_is : (m : List ℕ) (i : ℕ) → take (size_of i) (part m i) ≡ own_memory viewers m i
  front_is m i = take-take (size_of i) 32776 (drop (i * 32776) m) (own_fits viewers i)

  memory_at_is : (m : List ℕ) (i : ℕ) → i < length m / 32776 → get_or (own_memories viewers m) i [] ≡ take (size_of i) (part m i)
  unfolding own_memories
  memory_at_is m i h = getD_tab (own_memory viewers m) (length m / 32776) i [] h ∙ sym (front_is m i)

  pub whole_again : (m : List ℕ) → with_memories viewers m (own_memories viewers m) ≡ m
  unfolding with_memories
  whole_again m =
      ap (λ (l : List (List ℕ)). concat l ++ left_over m)
      (tab_cong (λ i. get_or (own_memories viewers m) i [] ++ drop (size_of i) (part m i)) (part m) (length m / 32776)
      (λ i h. ap (λ (l : List ℕ). l ++ drop (size_of i) (part m i)) (memory_at_is m i h) ∙ take-append-drop (size_of i) (part m i)))
      ∙ ap (λ (l : List ℕ). l ++ left_over m) (rooms_front (length m / 32776) m) ∙ take-append-drop (length m / 32776 * 32776) m

  -- THE WORDS OF NO BLOCK'S MEMORY stay
  module _ {m m' : List ℕ} (w : Elsewhere viewers m m') where
    abbrev k : ℕ
    k = length m / 32776

    room_at : (l : List ℕ) (i t : ℕ) → size_of i + t < 32776 → get_or (drop (size_of i) (part l i)) t 0 ≡ get_or l (i * 32776 + (size_of i + t)) 0
    room_at l i t h = get_or-drop (size_of i) (part l i) t 0 ∙ get_or-take 32776 (drop (i * 32776) l) (size_of i + t) 0 h ∙ get_or-drop (i * 32776) l (size_of i + t) 0

    room_size : (l : List ℕ) (i : ℕ) → i < length l / 32776 → length (drop (size_of i) (part l i)) ≡ 32776 - size_of i
    room_size l i h =
        let d = length-drop (i * 32776) l in
        length-drop (size_of i) (part l i) ∙ ap (λ (n : ℕ). n - size_of i) (length-take-le 32776 (drop (i * 32776) l) (omega (arith, d, h)))

    unowned : (i t : ℕ) → size_of i + t < 32776 → owned viewers k (i * 32776 + (size_of i + t)) ≡ false
    unfolding owned
    unowned i t h = go (i * 32776 + (size_of i + t)) (omega arith) (omega arith)
      where
        and_no : (a : Bool) → (a && false) ≡ false
        and_no true = refl
        and_no false = refl

        go : (x : ℕ) → x / 32776 ≡ i → x % 32776 ≡ size_of i + t → (ltb (x / 32776) k && ltb (x % 32776) (words_of (limits_in viewers (x / 32776)))) ≡ false
        go x e f = rw (e, f, le-ltb (size_of i + t) (size_of i) (omega arith)) (and_no (ltb i k))

    rooms_same : (i : ℕ) → i < k → drop (size_of i) (part m i) ≡ drop (size_of i) (part m' i)
    rooms_same i h =
        let s = w.size in
        let a = room_size m i h in
        let b = room_size m' i (rw s h) in
        ext_get_or 0 (drop (size_of i) (part m i)) (drop (size_of i) (part m' i)) (a ∙ sym b)
        (λ t l. let u : size_of i + t < 32776 = omega (arith, l, a) in room_at m i t u ∙ sym (w.same (i * 32776 + (size_of i + t)) (unowned i t u)) ∙ sym (room_at m' i t u))

    left_same : left_over m ≡ left_over m'
    left_same =
        let s = w.size in
        ext_get_or 0 (left_over m) (left_over m')
        (length-drop (k * 32776) m ∙ ap (λ (n : ℕ). n - n / 32776 * 32776) (sym s) ∙ sym (length-drop (length m' / 32776 * 32776) m'))
        (λ t l. get_or-drop (k * 32776) m t 0 ∙ sym (w.same (k * 32776 + t) (beyond (k * 32776 + t) (omega arith)))
        ∙ ap (λ (n : ℕ). get_or m' (n / 32776 * 32776 + t) 0) (sym s) ∙ sym (get_or-drop (length m' / 32776 * 32776) m' t 0))
      where
        beyond : (x : ℕ) → k ≤ x / 32776 → owned viewers k x ≡ false
        beyond x h = unfold owned in (rw (le-ltb (x / 32776) k h) refl)

    pub mesh_after : {ms : List (List ℕ)} → own_memories viewers m' ≡ ms → with_memories viewers m ms ≡ m'
    unfolding with_memories
    mesh_after e =
        ap (with_memories viewers m) (sym e)
        ∙ ap (λ (l : List ℕ). concat (tab (λ i. get_or (own_memories viewers m') i [] ++ drop (size_of i) (part m i)) k) ++ l) left_same
        ∙ ap (λ (l : List (List ℕ)). concat l ++ left_over m')
        (tab_cong (λ i. get_or (own_memories viewers m') i [] ++ drop (size_of i) (part m i)) (λ i. get_or (own_memories viewers m') i [] ++ drop (size_of i) (part m' i)) k
        (λ i h. ap (λ (l : List ℕ). get_or (own_memories viewers m') i [] ++ l) (rooms_same i h)))
        ∙ ap (λ (n : ℕ). concat (tab (λ i. get_or (own_memories viewers m') i [] ++ drop (size_of i) (part m' i)) (n / 32776)) ++ left_over m') (sym w.size)
        ∙ whole_again m'

-- AN IMAGE in a wider memory has zeros behind it
zeros_behind : (front middle : List ℕ) (a b : ℕ) → front ++ (middle ++ replicate (a + b) 0) ≡ (front ++ (middle ++ replicate a 0)) ++ replicate b 0
zeros_behind front middle a b =
    ap (λ (z : List ℕ). front ++ (middle ++ z)) (sym (replicate-append-replicate a b 0))
    ∙ ap (λ (z : List ℕ). front ++ z) (sym (append_assoc middle (replicate a 0) (replicate b 0)))
    ∙ sym (append_assoc front (middle ++ replicate a 0) (replicate b 0))

image_wide : (b : Block) (size big : ℕ) → words_for (length b.darts) ≤ size → size ≤ big → image big b ≡ image size b ++ replicate (big - size) 0
unfolding image
image_wide b size big h l =
    let n = words_for (length b.darts) in
    let e : big - n ≡ (size - n) + (big - size) = omega arith in
    let front = b.number ∷ b.counter ∷ length b.darts ∷ 0 ∷ 0 ∷ 0 ∷ 0 ∷ 0 ∷ [] in
    let middle = concat (map (dart_words (serials b.darts)) b.darts) in
    ap (λ (k : ℕ). front ++ (middle ++ replicate k 0)) e ∙ zeros_behind front middle (size - n) (big - size)

-- A SOUND MESH as it is lent
module _ (viewers : ℕ) (bs : List Block) (sound : Sound (limits_in viewers) bs) where
  abbrev lent : List ℕ
  lent = concat (map (image words) bs)

  number_at : (i : ℕ) → i < length bs → (block_at bs i).number ≡ i
  unfolding block_by
  number_at i h =
      let label = start_label (limits_in viewers) bs sound in
      ap (λ (m : List Block). (block_at m i).number) (described (limits_in viewers) bs sound)
      ∙ ap (λ (b : Block). b.number) (block_at_by (length bs) (start bs) label i h)

  fits_at : (i : ℕ) → i < length bs → words_for (length (block_at bs i).darts) ≤ size_of viewers i
  unfolding block_at
  fits_at i h =
      let s = all_at (λ b. sound_block (limits_in viewers b.number) b) no_block bs i (mesh_parts (limits_in viewers) bs sound).blocks_sound h in
      few_in (block_at bs i) (limits_in viewers (block_at bs i).number) (limits_in viewers i) s (ap (limits_in viewers) (number_at i h))
    where
      few_in : (b : Block) (lim other : Limits) → sound_block lim b ≡ true → lim ≡ other → words_for (length b.darts) ≤ words_of other
      few_in b lim other s e = let f = (ranges_of lim b (parts_of lim b s).ranges).few_darts in let q = ap (λ (x : Limits). x.block_darts) e in omega (arith, f, q)

  pub memories_lent : memories lent ≡ map (image words) bs
  memories_lent =
      let r = images_pass (limits_in viewers) (limits_fit viewers) bs (mesh_parts (limits_in viewers) bs sound).blocks_sound in
      memories_are (map (image words) bs) r.2

  how_many : length lent / 32776 ≡ length bs
  unfolding memories
  how_many = sym (length_tab (part lent) (length lent / 32776)) ∙ ap length memories_lent ∙ length-map bs (image words)

  room_is : (i : ℕ) → i < length bs → part lent i ≡ image words (block_at bs i)
  unfolding memories block_at
  room_is i h =
      sym (getD_tab (part lent) (length lent / 32776) i [] (rw how_many h)) ∙ ap (λ (l : List (List ℕ)). get_or l i []) memories_lent
      ∙ map_at (image words) no_block [] bs i h

  room_split : (i : ℕ) → i < length bs → part lent i ≡ image (size_of viewers i) (block_at bs i) ++ replicate (32776 - size_of viewers i) 0
  room_split i h = room_is i h ∙ image_wide (block_at bs i) (size_of viewers i) 32776 (fits_at i h) (own_fits viewers i)

  memory_at_bs : (i : ℕ) → i < length bs → get_or (map (memory_of (limits_in viewers)) bs) i [] ≡ image (size_of viewers i) (block_at bs i)
  unfolding block_at
  memory_at_bs i h = map_at (memory_of (limits_in viewers)) no_block [] bs i h ∙ ap (λ (n : ℕ). image (words_of (limits_in viewers n)) (block_at bs i)) (number_at i h)

  pub own_lent : own_memories viewers lent ≡ map (memory_of (limits_in viewers)) bs
  unfolding own_memories
  own_lent = ext_get_or [] _ _ (length_tab (own_memory viewers lent) (length lent / 32776) ∙ how_many ∙ sym (length-map bs (memory_of (limits_in viewers))))
      (λ i l. each i (let n = length_tab (own_memory viewers lent) (length lent / 32776) in omega (arith, l, n, how_many)))
    where
      each : (i : ℕ) → i < length bs → get_or (tab (own_memory viewers lent) (length lent / 32776)) i [] ≡ get_or (map (memory_of (limits_in viewers)) bs) i []
      each i h =
          getD_tab (own_memory viewers lent) (length lent / 32776) i [] (rw how_many h) ∙ sym (front_is viewers lent i)
          ∙ ap (take (size_of viewers i)) (room_split i h)
          ∙ take_at (image (size_of viewers i) (block_at bs i)) _ (size_of viewers i) (image_length (size_of viewers i) (block_at bs i) (fits_at i h))
          ∙ sym (memory_at_bs i h)

  nothing_left : left_over lent ≡ []
  nothing_left =
      let e = ap length (rooms_front (length lent / 32776) lent) in
      let whole : concat (tab (part lent) (length lent / 32776)) ≡ lent = unfold memories in (ap concat memories_lent) in
      let f = length-take-le (length lent / 32776 * 32776) lent (omega arith) in
      let g = ap length whole in
      let d = length-drop (length lent / 32776 * 32776) lent in
      empty (left_over lent) (omega (arith, e, f, g, d))
    where
      empty : (l : List ℕ) → length l ≡ 0 → l ≡ []
      empty [] e = refl
      empty (x ∷ l) e = absurd (omega (arith, e))

-- ANOTHER MESH in its place
pub with_images : (viewers : ℕ) (bs : List Block) (sound : Sound (limits_in viewers) bs) (next : List Block) → Sound (limits_in viewers) next → length next ≡ length bs
    → with_memories viewers (concat (map (image words) bs)) (map (memory_of (limits_in viewers)) next) ≡ concat (map (image words) next)
unfolding with_memories
with_images viewers bs sound next ok many =
    ap (λ (l : List ℕ). concat (tab room (length m / 32776)) ++ l) (nothing_left viewers bs sound) ∙ append-nil (concat (tab room (length m / 32776)))
    ∙ ap (λ (n : ℕ). concat (tab room n)) (how_many viewers bs sound ∙ sym many ∙ sym (length-map next (image words)))
    ∙ ap concat (tab_list [] (map (image words) next) room each)
  where
    m : List ℕ
    m = concat (map (image words) bs)

    room : ℕ → List ℕ
    room i = get_or (map (memory_of (limits_in viewers)) next) i [] ++ drop (words_of (limits_in viewers i)) (part (concat (map (image words) bs)) i)

    one : (i : ℕ) → i < length next → i < length bs → room i ≡ get_or (map (image words) next) i []
    one i h g =
        ap (λ (x : List ℕ). x ++ drop (size_of viewers i) (part m i)) (memory_at_bs viewers next ok i h)
        ∙ ap (λ (x : List ℕ). image (size_of viewers i) (block_at next i) ++ x) (ap (drop (size_of viewers i)) (room_split viewers bs sound i g)
        ∙ drop_at (image (size_of viewers i) (block_at bs i)) _ (size_of viewers i) (image_length (size_of viewers i) (block_at bs i) (fits_at viewers bs sound i g)))
        ∙ sym (image_wide (block_at next i) (size_of viewers i) 32776 (fits_at viewers next ok i h) (own_fits viewers i))
        ∙ (unfold block_at in sym (map_at (image words) no_block [] next i h))

    each : (i : ℕ) → i < length (map (image words) next) → room i ≡ get_or (map (image words) next) i []
    each i l = let n = length-map next (image words) in one i (omega (arith, l, n)) (omega (arith, l, n, many))
