-- The whole file of a sound block's image: how long it is, and what the call gives. Assumes nothing.
use mathlib.Core.Path.{◌≡◌, refl, sym, ◌∙◌, ap}
use mathlib.Core.Bool.{true, false}
use mathlib.Core.List.{List, ◌++◌}
use Prim.Native.Nat.{ℕ, ◌+◌, ◌*◌, ◌≤◌}
use native.Mathlib.Omega.{arith}
use lib.Dec.{leb}
use lib.ListN.{length, get_or, drop, length-append}
use lib.Seq.{sets-eq}
use borrow.Author.Tests.{eq-eqb, ne_eqb, le-leb, leb-true}
use Rattle.model.specs.Lists.{tab}
use Rattle.model.specs.Values.{Limits}
use Rattle.model.specs.Layouts.{put_all}
use Rattle.model.specs.Image.{words_of, dart_in, block_in, is_image, holds_block, memory_checks}
use Rattle.model.specs.Messages.{a_dart, file}
use Rattle.model.specs.Calls.{served, refused, writing, save_file}
use Rattle.answers.specs.Answers.{Gives}
use Rattle.answers.proofs.Questions.{gives, ask_no, ask_yes, ask_end}
use Rattle.groups.specs.Slices.{Stored}
use Rattle.theory.proofs.GroupLaws.{one_group, two_groups, group_most}
use Rattle.savefile.specs.Named.{header_bytes}
use Rattle.savefile.proofs.FileBytes.{darts_put, darts_most, file_put, header_length}
use Rattle.savefile.proofs.Sizes.{image_small, number_small, counter_small, count_small}

pub file_length : (lim : Limits) (m : List ℕ) → length ((file lim).put (block_in m)) ≡ length (header_bytes m) + length (put_all a_dart (tab (dart_in m) (get_or m 2 0)))
file_length lim m = rw (file_put lim m) (length-append (header_bytes m) (put_all a_dart (tab (dart_in m) (get_or m 2 0))))

-- HOW LONG IT IS AT THE MOST
pub header_most : (m : List ℕ) → holds_block m ≡ true → length (header_bytes m) ≤ 8
header_most m e =
    let number = one_group (get_or m 0 0) (omega (arith, number_small m e)) in
    let counter = group_most (get_or m 1 0) (counter_small m e) in
    let count = two_groups (get_or m 2 0) (omega (arith, count_small m e)) in
    omega (arith, header_length m)

pub file_within : (lim : Limits) (m : List ℕ) → holds_block m ≡ true → length ((file lim).put (block_in m)) ≤ 8 + get_or m 2 0 * 49
file_within lim m e =
    let short = darts_most (image_small m e) in
    let most : length (put_all a_dart (tab (dart_in m) (get_or m 2 0))) ≤ get_or m 2 0 * 49 = rw (darts_put m (get_or m 2 0)) short in
    omega (arith, file_length lim m, header_most m e)

-- the bytes that the interface names as those of the greatest file
pub file_most : (lim : Limits) (m : List ℕ) → holds_block m ≡ true → length ((file lim).put (block_in m)) ≤ 200712
file_most lim m e = omega (arith, file_within lim m e, count_small m e)

-- 15, where it is sure and where the file was counted
pub fits_surely : (lim : Limits) (m : List ℕ) (bytes : ℕ) → holds_block m ≡ true → 8 + get_or m 2 0 * 49 ≤ bytes → true ≡ leb (length ((file lim).put (block_in m))) bytes
fits_surely lim m bytes e h = sym (le-leb (length ((file lim).put (block_in m))) bytes (omega (arith, file_within lim m e, h)))

pub fits_counted : (lim : Limits) (m : List ℕ) (bytes : ℕ) {n : ℕ} → n ≡ 0 + length ((file lim).put (block_in m)) → leb n bytes ≡ leb (length ((file lim).put (block_in m))) bytes
fits_counted lim m bytes {n} c =
    let same : n ≡ length ((file lim).put (block_in m)) = omega (arith, c) in
    ap (λ (k : ℕ). leb k bytes) same

-- THE CALL, question by question
module _ (lim : Limits) (m out : List ℕ) where
  pub refused_size : (length m ≡ words_of lim → ⊥) → Gives (save_file lim m out) (refused 1) out
  unfolding save_file writing memory_checks
  refused_size h = gives _ _ _ _ (ask_no refl (ne_eqb (length m) (words_of lim) h) refl)

  module _ (h : length m ≡ words_of lim) where
    pub refused_image : is_image lim m ≡ false → Gives (save_file lim m out) (refused 2) out
    unfolding save_file writing memory_checks
    refused_image e = gives _ _ _ _ (ask_yes (eq-eqb (length m) (words_of lim) h) (ask_no refl e refl))

    module _ (e : is_image lim m ≡ true) where
      pub refused_output : leb (length ((file lim).put (block_in m))) (length out) ≡ false → Gives (save_file lim m out) (refused 15) out
      unfolding save_file writing memory_checks
      refused_output l = gives _ _ _ _ (ask_yes (eq-eqb (length m) (words_of lim) h) (ask_yes e (ask_no refl l refl)))

      pub served_file : leb (length ((file lim).put (block_in m))) (length out) ≡ true → {after : List ℕ} {n : ℕ} → Stored out 0 ((file lim).put (block_in m)) after n
          → Gives (save_file lim m out) (served n) after
      unfolding save_file writing memory_checks
      served_file l {after} s =
          let bytes = (file lim).put (block_in m) in
          let z : 0 + length bytes ≡ length bytes = omega arith in
          let fit = leb-true (length bytes) (length out) l in
          let same : after ≡ bytes ++ drop (length bytes) out = s.slice ∙ sets-eq bytes out 0 (omega (arith, fit)) ∙ ap (λ (k : ℕ). bytes ++ drop k out) z in
          rw (s.past ∙ z) (gives _ _ _ _ (ask_yes (eq-eqb (length m) (words_of lim) h) (ask_yes e (ask_yes l (ask_end same)))))
