-- All pages of a sound block's image: how long they are, and what the call gives. Assumes nothing.
use mathlib.Core.Path.{◌≡◌, refl, ◌∙◌, ap}
use mathlib.Core.Bool.{true, false}
use mathlib.Core.List.{List, ◌++◌}
use Prim.Native.Nat.{ℕ, ◌+◌, ◌*◌, ◌≤◌, ◌<◌}
use native.Mathlib.Omega.{arith}
use lib.ListN.{length, drop}
use lib.Seq.{sets-eq}
use borrow.Author.Tests.{eq-eqb, ne_eqb, le-leb, lt-leb}
use Rattle.model.specs.Values.{Limits}
use Rattle.model.specs.Image.{words_of, count_in, block_in, is_image, holds_block, memory_checks}
use Rattle.model.specs.Pages.{paged, page_bytes, page_count, pages_text, pages}
use Rattle.model.specs.Calls.{served, refused, write_pages}
use Rattle.answers.specs.Answers.{Gives}
use Rattle.answers.proofs.Questions.{gives, ask_no, ask_yes, ask_end}
use Rattle.groups.specs.Slices.{Stored}
use Rattle.theory.proofs.PageLaws.{text_length}
use Rattle.theory.proofs.PagedBlocks.{image_paged, rows_length}

pub pages_length : (m : List ℕ) → holds_block m ≡ true → length (pages_text (paged (block_in m))) ≡ page_bytes * page_count (count_in m)
pages_length m e = text_length (image_paged m e) ∙ ap (λ (n : ℕ). page_bytes * page_count n) (rows_length m)

-- THE CALL, question by question
module _ (lim : Limits) (m out : List ℕ) where
  pub refused_size : (length m ≡ words_of lim → ⊥) → Gives (write_pages lim m out) (refused 1) out
  unfolding write_pages memory_checks
  refused_size h = gives _ _ _ _ (ask_no refl (ne_eqb (length m) (words_of lim) h) refl)

  module _ (h : length m ≡ words_of lim) where
    pub refused_image : is_image lim m ≡ false → Gives (write_pages lim m out) (refused 2) out
    unfolding write_pages memory_checks
    refused_image e = gives _ _ _ _ (ask_yes (eq-eqb (length m) (words_of lim) h) (ask_no refl e refl))

    -- with so many pages
    module _ (e : is_image lim m ≡ true) (held : holds_block m ≡ true) {n : ℕ} (c : n ≡ page_count (count_in m)) where
      pub refused_output : length out < page_bytes * n → Gives (write_pages lim m out) (refused 30) out
      unfolding write_pages memory_checks pages
      refused_output l =
          let bytes = pages_text (paged (block_in m)) in
          let long : length out < length bytes = omega (arith, pages_length m held) in
          gives _ _ _ _ (ask_yes (eq-eqb (length m) (words_of lim) h) (ask_yes e (ask_no refl (lt-leb (length bytes) (length out) long) refl)))

      pub served_pages : page_bytes * n ≤ length out → {after : List ℕ} {past : ℕ} → Stored out 0 (pages_text (paged (block_in m))) after past → Gives (write_pages lim m out) (served past) after
      unfolding write_pages memory_checks pages
      served_pages l {after} s =
          let bytes = pages_text (paged (block_in m)) in
          let z : 0 + length bytes ≡ length bytes = omega arith in
          let fit : length bytes ≤ length out = omega (arith, pages_length m held) in
          let same : after ≡ bytes ++ drop (length bytes) out = s.slice ∙ sets-eq bytes out 0 (omega (arith, fit)) ∙ ap (λ (k : ℕ). bytes ++ drop k out) z in
          rw (s.past ∙ z) (gives _ _ _ _ (ask_yes (eq-eqb (length m) (words_of lim) h) (ask_yes e (ask_yes (le-leb (length bytes) (length out) fit) (ask_end same)))))
