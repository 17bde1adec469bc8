-- The call's answers: questions 1 and 3, then 4 to 8 of the block that the file holds. Assumes nothing.
use mathlib.Core.Path.{◌≡◌, refl, sym, ap, ◌∙◌}
use mathlib.Core.Bool.{Bool, true, false, true≢false}
use mathlib.Core.List.{List}
use mathlib.Core.Option.{Option, none, some}
use Prim.Native.Nat.{ℕ, ◌≤◌}
use native.Mathlib.Omega.{arith}
use lib.ListN.{length}
use borrow.Author.Tests.{eq-eqb, ne_eqb}
use Rattle.model.specs.Lists.{is_some}
use Rattle.model.specs.Values.{room, Block, Limits, widest}
use Rattle.model.specs.Sound.{ranges_right, block_checks}
use Rattle.model.specs.Layouts.{whole}
use Rattle.model.specs.Messages.{file}
use Rattle.model.specs.Image.{words_for, words_of, image}
use Rattle.model.specs.Calls.{Answer, refused, asked, storing, read_file}
use Rattle.model.specs.Demands.{Bytes}
use Rattle.theory.proofs.LayoutLaws.{whole_only}
use Rattle.theory.proofs.FileLaws.{file_lawful}
use Rattle.theory.proofs.DemandTwo.{ok_ranges}
use Rattle.theory.proofs.ImageLaws.{ranges_of, ranges_fit}
use Rattle.answers.specs.Answers.{Gives}
use Rattle.answers.proofs.Questions.{gives, ask_no, ask_yes}
use Rattle.newblock.specs.Serials.{raw, raw_block, InSerials}
use Rattle.newblock.specs.Checks.{storing_block}
use Rattle.newblock.proofs.Imaged.{raw_length, raw_back, in_serials}
use Rattle.readfile.specs.Parts.{RawRead}

-- QUESTION 3
some_block : (o : Option Block) → true ≡ is_some o → (b : Block) × (o ≡ some b)
some_block none e = absurd (true≢false e)
some_block (some b) e = (b, refl)

-- the same block, in memory of the same size
same_put : (m : List ℕ) (n size : ℕ) (c b : Block) → n ≡ size → c ≡ b → {given : Answer (Unit {0})} {lent : List ℕ}
    → Gives (asked (block_checks c) m tt (image n c)) given lent → Gives (asked (block_checks b) m tt (image size b)) given lent
same_put m n size c b en ec g = rw (en, ec) at g

module _ (lim : Limits) (s m : List ℕ) where
  pub size_refused : (length m ≡ words_of lim → ⊥) → Gives (read_file lim s m) (refused 1) m
  unfolding read_file storing
  size_refused h = gives _ _ _ _ (ask_no refl (ne_eqb (length m) (words_of lim) h) refl)

  module _ (size : length m ≡ words_of lim) {x : List ℕ} {r : Bool} (w : RawRead lim s x r) where
    pub layout_refused : r ≡ false → Gives (read_file lim s m) (refused 3) m
    unfolding read_file storing
    layout_refused e = gives _ _ _ _ (ask_yes (eq-eqb (length m) (words_of lim) size) (ask_no refl (sym w.answer ∙ e) refl))

    -- a block was read
    module _ (small : lim.block_darts ≤ room) (e : r ≡ true) (bytes : Bytes s) where
      held : (b : Block) × (whole (file lim) s ≡ some b)
      held = some_block (whole (file lim) s) (sym e ∙ w.answer)

      b : Block
      b = held.0

      in_limits : ranges_right lim b ≡ true
      unfolding b
      in_limits = ok_ranges lim held.0 (whole_only (file lim) (file_lawful lim) s held.0 bytes held.1).1

      few : length b.darts ≤ lim.block_darts
      few = (ranges_of lim b in_limits).few_darts

      in_range : ranges_right widest b ≡ true
      in_range = ranges_fit lim widest b (omega (arith, few, small)) in_limits

      is_raw : x ≡ raw (words_of lim) b
      unfolding b
      is_raw = w.memory held.0 held.1

      fits : words_for (length b.darts) ≤ words_of lim
      fits = omega (arith, few)

      stands_for : raw_block x ≡ b
      stands_for = ap raw_block is_raw ∙ raw_back (words_of lim) b in_range

      pub raw_long : length x ≡ words_of lim
      raw_long = ap length is_raw ∙ raw_length (words_of lim) b fits

      pub raw_ready : InSerials x
      raw_ready = rw is_raw (in_serials (words_of lim) b in_range fits)

      -- 4 to 8 of it were asked
      asked_on : {given : Answer (Unit {0})} {lent : List ℕ}
          → Gives (asked (block_checks b) m tt (image (words_of lim) b)) given lent → Gives (read_file lim s m) given lent
      unfolding b read_file storing block_checks
      asked_on g = rw held.1 (gives _ _ _ _ (ask_yes (eq-eqb (length m) (words_of lim) size) (ask_yes refl (record { result = g }))))

      pub block_put : {given : Answer (Unit {0})} {lent : List ℕ} → Gives (storing_block x m) given lent → Gives (read_file lim s m) given lent
      block_put g = asked_on (same_put m (length x) (words_of lim) (raw_block x) b raw_long stands_for g)
