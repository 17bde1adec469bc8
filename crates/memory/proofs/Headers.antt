-- The header stored, a part cleared, and the image of an empty block. Assumes nothing.
use Prim.Native.Nat.{ℕ, ◌-◌, ◌/◌, ◌%◌, ◌^◌, ◌≤◌, ◌<◌}
use mathlib.Core.Path.{◌≡◌, refl, sym, ap, ◌∙◌}
use mathlib.Core.List.{List, [], ◌∷◌, ◌++◌}
use native.Mathlib.Omega.{arith}
use lib.ListN.{length, drop, set, replicate}
use lib.Seq.{sets-eq}
use borrow.Author.Tests.{eq-eqb, ne_eqb, le-leb, lt-leb, lt-ltb, le-ltb}
use Rattle.laws.proofs.Lists.{drop_zeros}
use Rattle.model.specs.Lists.{concat}
use Rattle.model.specs.Cells.{labels}
use Rattle.model.specs.Image.{words_of, image, new_block}
use Rattle.model.specs.Values.{room, Limits, rack, viewer, is_viewer, limits_in}
use Rattle.memory.specs.Header.{empty_header, header_words, limits_of}
use Rattle.memory.specs.declared.header.Header.{Header}
use Rattle.memory.specs.declared.header.Limits as header
use Rattle.model.specs.Calls.{served, refused, storing, empty}
use Rattle.answers.specs.Answers.{Gives}
use Rattle.answers.proofs.Questions.{gives, ask_no, ask_yes, ask_end}

pub stores_are : (m : List ℕ) (a b c : ℕ) → 8 ≤ length m
    → set (set (set (set (set (set (set (set m 0 a) 1 b) 2 c) 3 0) 4 0) 5 0) 6 0) 7 0 ≡ (a ∷ b ∷ c ∷ 0 ∷ 0 ∷ 0 ∷ 0 ∷ 0 ∷ []) ++ drop 8 m
stores_are m a b c h = sets-eq (a ∷ b ∷ c ∷ 0 ∷ 0 ∷ 0 ∷ 0 ∷ 0 ∷ []) m 0 (omega arith)

-- zeros with the header of an empty block are its image
image_of_empty : (size n : ℕ) → image size (new_block n []) ≡ (n ∷ 0 ∷ 0 ∷ 0 ∷ 0 ∷ 0 ∷ 0 ∷ 0 ∷ []) ++ replicate (size - 8) 0
unfolding image new_block labels concat
image_of_empty size n = refl

pub empty_image : (n : ℕ) (m : List ℕ) {x y : List ℕ} {h : Header} → 8 ≤ length m → x ≡ replicate (length m) 0
    → h ≡ empty_header n → y ≡ header_words h ++ drop 8 x → y ≡ image (length m) (new_block n [])
empty_image n m {x} {y} {h} l e g f =
    f ∙ ap (λ (k : Header). header_words k ++ drop 8 x) g
    ∙ ap (λ (k : List ℕ). header_words (empty_header n) ++ k) (ap (drop 8) e ∙ drop_zeros 8 (length m - 8) (length m) (omega arith))
    ∙ sym (image_of_empty (length m) n)

-- the rack's blocks are the widest
pub rack_fits : (l : header.Limits) → limits_of l ≡ rack → l.block ≤ room
rack_fits l e = omega (arith, ap (λ (x : Limits). x.block_darts) e)

pub viewer_fits : (l : header.Limits) → limits_of l ≡ viewer → l.block ≤ room
viewer_fits l e = omega (arith, ap (λ (x : Limits). x.block_darts) e)

-- which limits a block has, by the viewers' bits
module _ (viewers n : ℕ) where
  pub none_from_16 : 16 ≤ n → limits_in viewers n ≡ rack
  unfolding limits_in is_viewer
  none_from_16 h = rw (le-ltb n 16 h)

  pub bit_set : n < 16 → viewers / 2 ^ n % 2 ≡ 1 → limits_in viewers n ≡ viewer
  unfolding limits_in is_viewer
  bit_set h e = rw (lt-ltb n 16 h, eq-eqb (viewers / 2 ^ n % 2) 1 e)

  pub bit_clear : n < 16 → (viewers / 2 ^ n % 2 ≡ 1 → ⊥) → limits_in viewers n ≡ rack
  unfolding limits_in is_viewer
  bit_clear h e = rw (lt-ltb n 16 h, ne_eqb (viewers / 2 ^ n % 2) 1 e)

-- the questions of an empty block, by any limits
module _ (lim : Limits) (n : ℕ) (m : List ℕ) where
  pub refused_size : (length m ≡ words_of lim → ⊥) → Gives (empty lim n m) (refused 1) m
  unfolding empty storing
  refused_size h = gives _ _ _ _ (ask_no refl (ne_eqb (length m) (words_of lim) h) refl)

  pub refused_number : length m ≡ words_of lim → 15 < n → Gives (empty lim n m) (refused 9) m
  unfolding empty storing
  refused_number h k = gives _ _ _ _ (ask_yes (eq-eqb (length m) (words_of lim) h) (ask_no refl (lt-leb n 15 k) refl))

  pub served_empty : {x : List ℕ} → length m ≡ words_of lim → n ≤ 15 → x ≡ image (length m) (new_block n []) → Gives (empty lim n m) (served tt) x
  unfolding empty storing
  served_empty h k e =
      gives _ _ _ _ (ask_yes (eq-eqb (length m) (words_of lim) h) (ask_yes (le-leb n 15 k) (ask_end (e ∙ ap (λ (size : ℕ). image size (new_block n [])) h))))
