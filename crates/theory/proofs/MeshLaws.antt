-- Memory that passes questions 1, 2 and 23 to 27 is the images of a sound mesh one after the other, and such images pass.
-- Assumes nothing.
use mathlib.Core.Path.{◌≡◌, refl, sym, ◌∙◌, ap}
use mathlib.Core.Bool.{true}
use mathlib.Core.List.{List, [], ◌∷◌, ◌++◌, map}
use Prim.Native.Nat.{ℕ, zero, suc, ◌+◌, ◌*◌, ◌<◌, ◌≤◌, ◌/◌}
use native.Mathlib.Omega.{arith}
use lib.Dec.{eqb}
use lib.ListN.{length, get_or, take, drop, length-append, length-drop, take-append-drop}
use lib.Seq.{length-take-le, take_at, drop_at, drop-drop}
use borrow.Author.Tests.{eqb-true, eq-eqb}
use Rattle.model.specs.Lists.{all, concat, tab, first_no}
use Rattle.model.specs.Values.{Block, Limits}
use Rattle.model.specs.Sound.{sound_block, sound_mesh, Sound, Fit, blocks_right, serials_distinct, labels_paired, points_across, makers_right, mesh_checks}
use Rattle.model.specs.Image.{words, image, block_in, is_image}
use Rattle.model.specs.Calls.{memories, scratch_entries, mesh_lent, whole_mesh_checks}
use Rattle.laws.proofs.Tests.{and_left, and_right, and_intro, yes_then, yes_first, no_more}
use Rattle.laws.proofs.Members.{Each, each_tab}
use Rattle.theory.proofs.ImageLaws.{image_is, is_image_of, block_back, image_length, parts_of, ranges_of}

-- IMAGES ONE AFTER THE OTHER
tab_cong : {A : Type 0} (f g : ℕ → A) (n : ℕ) → ((i : ℕ) → f i ≡ g i) → tab f n ≡ tab g n
tab_cong f g zero h = refl
tab_cong f g (suc n) h = rw (h 0, tab_cong (λ k. f (suc k)) (λ k. g (suc k)) n (λ i. h (suc i)))

abbrev piece : List ℕ → ℕ → List ℕ
piece m i = take words (drop (i * words) m)

next_piece : (m : List ℕ) (i : ℕ) → piece m (suc i) ≡ piece (drop words m) i
next_piece m i = let e : suc i * words ≡ words + i * words = omega arith in rw (e, ← drop-drop (i * words) words m)

first_piece : (m : List ℕ) → piece m 0 ≡ take words m
first_piece m = refl

pieces_whole : (n : ℕ) (m : List ℕ) → length m ≡ n * words → concat (tab (piece m) n) ≡ m
unfolding concat
pieces_whole zero [] h = refl
pieces_whole zero (w ∷ m) h = absurd (omega arith)
pieces_whole (suc n) m h =
    let rest : length (drop words m) ≡ n * words = omega (arith, length-drop words m) in
    ap (λ (l : List ℕ). take words m ++ l) (ap concat (tab_cong (λ k. piece m (suc k)) (piece (drop words m)) n (next_piece m)) ∙ pieces_whole n (drop words m) rest)
    ∙ take-append-drop words m

pieces_are : (ms : List (List ℕ)) → Each (λ m. length m ≡ words) ms → tab (piece (concat ms)) (length ms) ≡ ms
unfolding concat
pieces_are [] h = refl
pieces_are (m ∷ ms) h =
    rw (
      tab_cong (λ k. piece (m ++ concat ms) (suc k)) (piece (concat ms)) (length ms) (λ i. next_piece (m ++ concat ms) i ∙ ap (λ (l : List ℕ). piece l i) (drop_at m (concat ms) words h.0)),
      pieces_are ms h.1,
      first_piece (m ++ concat ms),
      take_at m (concat ms) words h.0,
    )

pieces_length : (ms : List (List ℕ)) → Each (λ m. length m ≡ words) ms → length (concat ms) ≡ length ms * words
unfolding concat
pieces_length [] h = refl
pieces_length (m ∷ ms) h = omega (arith, length-append m (concat ms), h.0, pieces_length ms h.1)

pub memories_are : (ms : List (List ℕ)) → Each (λ m. length m ≡ words) ms → memories (concat ms) ≡ ms
unfolding memories
memories_are ms h =
    let n = pieces_length ms h in
    let count : length (concat ms) / words ≡ length ms = omega arith in
    rw count (pieces_are ms h)

pub memories_whole : (m : List ℕ) → length m / words * words ≡ length m → concat (memories m) ≡ m
unfolding memories
memories_whole m h = pieces_whole (length m / words) m (sym h)

-- each as long as a block's
piece_long : (m : List ℕ) (i : ℕ) → i < length m / words → length (piece m i) ≡ words
piece_long m i h =
    let rest : words ≤ length (drop (i * words) m) = omega (arith, length-drop (i * words) m) in
    length-take-le words (drop (i * words) m) rest

memories_long : (m : List ℕ) → Each (λ l. length l ≡ words) (memories m)
unfolding memories
memories_long m = each_tab (λ l. length l ≡ words) (piece m) (length m / words) (piece_long m)

-- A SOUND MESH, test by test
pub record MeshParts (lims : ℕ → Limits) (m : List Block) : Type 0 where
  pub blocks_sound : all (λ b. sound_block (lims b.number) b) m ≡ true
  pub blocks : blocks_right m ≡ true
  pub distinct_serials : serials_distinct m ≡ true
  pub paired_labels : labels_paired m ≡ true
  pub points : points_across m ≡ true
  pub makers : makers_right m ≡ true

pub mesh_parts : (lims : ℕ → Limits) (m : List Block) → Sound lims m → MeshParts lims m
unfolding sound_mesh mesh_checks
mesh_parts lims m s =
    let each = all (λ b. sound_block (lims b.number) b) m in
    let s23 = and_right each _ s in
    let s24 = and_right (blocks_right m) _ s23 in
    let s25 = and_right (serials_distinct m) _ s24 in
    let s26 = and_right (labels_paired m) _ s25 in
    let s27 = and_right (points_across m) _ s26 in
    record {
      blocks_sound = and_left each _ s;
      blocks = and_left (blocks_right m) _ s23;
      distinct_serials = and_left (serials_distinct m) _ s24;
      paired_labels = and_left (labels_paired m) _ s25;
      points = and_left (points_across m) _ s26;
      makers = and_left (makers_right m) _ s27;
    }

pub parts_mesh : (lims : ℕ → Limits) (m : List Block) → MeshParts lims m → Sound lims m
unfolding sound_mesh mesh_checks
parts_mesh lims m p = rw (p.blocks_sound, p.blocks, p.distinct_serials, p.paired_labels, p.points, p.makers)

-- MEMORY THAT PASSES
images_back : (lims : ℕ → Limits) (ms : List (List ℕ)) → Each (λ m. length m ≡ words) ms → all (λ m. is_image (lims (get_or m 0 0)) m) ms ≡ true
    → (map (image words) (map block_in ms) ≡ ms) × (all (λ b. sound_block (lims b.number) b) (map block_in ms) ≡ true)
images_back lims [] l h = (refl, refl)
images_back lims (m ∷ ms) l h =
    let i = image_is (lims (get_or m 0 0)) m (and_left (is_image (lims (get_or m 0 0)) m) _ h) in
    let r = images_back lims ms l.1 (and_right (is_image (lims (get_or m 0 0)) m) _ h) in
    (ap (λ (x : List ℕ). x ∷ map (image words) (map block_in ms)) (ap (λ (n : ℕ). image n (block_in m)) (sym l.0) ∙ i.0) ∙ ap (λ (xs : List (List ℕ)). m ∷ xs) r.0, and_intro i.1 r.1)

pub mesh_of : (lims : ℕ → Limits) (m scratch : List ℕ) → first_no (whole_mesh_checks lims m scratch) ≡ 0
    → Sound lims (map block_in (memories m)) × (concat (map (image words) (map block_in (memories m))) ≡ m)
unfolding whole_mesh_checks mesh_checks mesh_lent
mesh_of lims m scratch e =
    let bs = map block_in (memories m) in
    let q1 = yes_first 1 (mesh_lent scratch_entries m scratch) _ (λ z. omega arith) e in
    let q2 = yes_first 2 (all (λ b. is_image (lims (get_or b 0 0)) b) (memories m)) _ (λ z. omega arith) q1.1 in
    let q23 = yes_first 23 (blocks_right bs) _ (λ z. omega arith) q2.1 in
    let q24 = yes_first 24 (serials_distinct bs) _ (λ z. omega arith) q23.1 in
    let q25 = yes_first 25 (labels_paired bs) _ (λ z. omega arith) q24.1 in
    let q26 = yes_first 26 (points_across bs) _ (λ z. omega arith) q25.1 in
    let q27 = yes_first 27 (makers_right bs) _ (λ z. omega arith) q26.1 in
    let whole = eqb-true (length m / words * words) (length m) (and_left (eqb (length m / words * words) (length m)) _ (and_left _ _ q1.0)) in
    let i = images_back lims (memories m) (memories_long m) q2.0 in (
      parts_mesh lims bs (record { blocks_sound = i.1; blocks = q23.0; distinct_serials = q24.0; paired_labels = q25.0; points = q26.0; makers = q27.0 }),
      ap concat i.0 ∙ memories_whole m whole,
    )

-- IMAGES OF A SOUND MESH pass
module _ (lims : ℕ → Limits) (fit : Fit lims) where
  pub images_pass : (m : List Block) → all (λ b. sound_block (lims b.number) b) m ≡ true
      → (all (λ i. is_image (lims (get_or i 0 0)) i) (map (image words) m) ≡ true) × (map block_in (map (image words) m) ≡ m) × Each (λ i. length i ≡ words) (map (image words) m)
  unfolding image
  images_pass [] h = (refl, refl, tt)
  images_pass (b ∷ m) h =
      let s = and_left (sound_block (lims b.number) b) _ h in
      let r = images_pass m (and_right (sound_block (lims b.number) b) _ h) in
      let few = (ranges_of (lims b.number) b (parts_of (lims b.number) b s).ranges).few_darts in
      let fits = fit.block_fits b.number in (
        and_intro (is_image_of (lims b.number) words b (omega arith) s) r.0,
        rw (block_back (lims b.number) words b s, r.1),
        (image_length words b (omega arith), r.2),
      )

  pub sound_passes : (m : List Block) (scratch : List ℕ) → Sound lims m → length scratch ≡ scratch_entries → all (eqb 0) scratch ≡ true
      → first_no (whole_mesh_checks lims (concat (map (image words) m)) scratch) ≡ 0
  unfolding whole_mesh_checks mesh_checks mesh_lent
  sound_passes m scratch s size zeros =
      let p = mesh_parts lims m s in
      let r = images_pass m p.blocks_sound in
      let n = pieces_length (map (image words) m) r.2 in
      let whole : length (concat (map (image words) m)) / words * words ≡ length (concat (map (image words) m)) = omega arith in
      rw (memories_are (map (image words) m) r.2, r.1)
      (yes_then 1 _ _ (and_intro (and_intro (eq-eqb (length (concat (map (image words) m)) / words * words) (length (concat (map (image words) m))) whole) (eq-eqb (length scratch) scratch_entries size)) zeros)
      ∙ yes_then 2 _ _ r.0 ∙ yes_then 23 _ _ p.blocks ∙ yes_then 24 _ _ p.distinct_serials ∙ yes_then 25 _ _ p.paired_labels ∙ yes_then 26 _ _ p.points
      ∙ yes_then 27 _ _ p.makers ∙ no_more)
