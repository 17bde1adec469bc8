-- The transfer that send writes has a layout, so receive reads it. Assumes nothing.
use mathlib.Core.Path.{◌≡◌, sym, ◌∙◌, ap, subst}
use mathlib.Core.Bool.{true, not}
use mathlib.Core.List.{List, [], ◌∷◌}
use Prim.Native.Nat.{ℕ, ◌+◌, ◌^◌, ◌<◌}
use lib.Dec.{leb}
use lib.ListN.{length, length-map}
use borrow.Author.Tests.{eq-eqb, lt-ltb, le-leb}
use Rattle.model.specs.Lists.{first_no, mem}
use Rattle.model.specs.Values.{Label, Limits, Block}
use Rattle.model.specs.Sound.{Fit, sound_block}
use Rattle.model.specs.Layouts.{framed}
use Rattle.model.specs.Messages.{Transfer, size_all, transfer, a_transfer, message_in}
use Rattle.model.specs.Departure.{departure_checks}
use Rattle.model.specs.Arrival.{parts_right, addressed, receive_checks}
use Rattle.model.specs.Runs.{Request}
use Rattle.model.specs.UndividedRun.{State, th, cell}
use Rattle.laws.proofs.Members.{all_from}
use Rattle.laws.proofs.Tests.{no_here, by_cases, and_intro, yes_then, no_more, not_equal}
use Rattle.agreement.proofs.BlockSound.{block_sound}
use Rattle.agreement.proofs.Described.{dart_by, members, block_by, Inv, darts_by}
use Rattle.agreement.proofs.Moved.{Served}
use Rattle.agreement.proofs.MovedCell.{questions_agree}
use Rattle.agreement.proofs.Numbers.{first_six, last_two}
use Rattle.agreement.proofs.Parts.{size_is, twenty}
use Rattle.agreement.proofs.Passes.{seventeen, eighteen, nineteen}
use Rattle.agreement.proofs.Sent.{transfer_by, transfer_is}
use Rattle.theory.proofs.Written.{transfer_back}
use Rattle.theory.proofs.SentMessages as sent
use Rattle.theory.proofs.MessagesExact.{transfer_small}

module _ (lims : ℕ → Limits) (fit : Fit lims) (k : ℕ) (u : State) (label : ℕ → Label) (I : Inv lims k u label) (r : Request) (S : Served lims k u r) where
  abbrev v₆ : List ℕ
  v₆ = cell u r.serial

  abbrev t₆ : Transfer
  t₆ = transfer_by lims fit k u label I r S

  abbrev lim₆ : Limits
  lim₆ = lims r.from

  abbrev here₆ : Block
  here₆ = block_by u label r.from

  sound₆ : sound_block lim₆ here₆ ≡ true
  sound₆ = block_sound lims k u label I r.from S.from_below

  -- 9 to 14 of the block are answered yes
  pub leaving_asks : first_no (departure_checks lim₆.volume_darts here₆ r.to r.serial) ≡ 0
  leaving_asks = questions_agree lims fit k u label I r S.from_below S.to_below ∙ six
    where
      six : first_no (first_six lims u r) ≡ 0
      six =
          yes_then 9 _ _ (not_equal r.to r.from (λ e. S.apart_blocks (sym e)))
          ∙ yes_then 10 _ _ (and_intro S.start_mine.here (eq-eqb (u.number r.serial) r.from S.start_mine.block))
          ∙ yes_then 11 _ _ (le-leb (length v₆) lim₆.volume_darts S.few_darts)
          ∙ yes_then 12 _ _ (all_from (λ x. not (mem (th u x) v₆)) v₆ (λ x m. ap not (S.leaves x m)))
          ∙ yes_then 13 _ _ S.pairs
          ∙ yes_then 14 _ _ (lt-ltb _ _ S.counter_fits) ∙ no_more

  transfer_ok : transfer.ok t₆ ≡ true
  transfer_ok = subst (λ (t : Transfer). transfer.ok t ≡ true) (transfer_is lims fit k u label I r S)
      (sent.transfer_ok lim₆ here₆ (fit.block_fits r.from) sound₆ (fit.volume_fits r.from) r.to r.serial leaving_asks)

  transfer_short : length (transfer.put t₆) < 2 ^ 32
  transfer_short = subst (λ (t : Transfer). length (transfer.put t) < 2 ^ 32) (transfer_is lims fit k u label I r S)
      (transfer_small lim₆ (fit.block_fits r.from) (fit.volume_fits r.from) here₆ sound₆ r.to r.serial leaving_asks)

  -- the transfer is read back
  pub transfer_read : message_in (framed transfer t₆) ≡ a_transfer t₆
  transfer_read = transfer_back t₆ transfer_ok transfer_short

  -- THE RECEIVER'S QUESTIONS
  pub receive_asks : first_no (receive_checks (lims r.to) (block_by u label r.to) (a_transfer t₆)) ≡ first_no (last_two lims u r)
  unfolding receive_checks block_by
  receive_asks = yes_then 17 _ _ (seventeen_by) ∙ by_cases (leb (length v₆) (lims r.to).volume_darts)
      (λ t. yes_then 29 _ _ (few_same ∙ t) ∙ yes_then 18 _ _ (eighteen lims fit k u label I r S) ∙ yes_then 19 _ _ (nineteen lims fit k u label I r S) ∙ yes_then 20 _ _ twenty_by
      ∙ ap (λ (n : ℕ). first_no ((21, leb n (lims r.to).block_darts) ∷ [])) sizes_same ∙ sym (yes_then 29 _ _ t))
      (λ t. no_here 29 _ _ (few_same ∙ t) ∙ sym (no_here 29 _ _ t))
    where
      seventeen_by : addressed t₆.from t₆.to (record { number = r.to; counter = u.count r.to; darts = darts_by u label r.to }) ≡ true
      seventeen_by = unfold block_by in (seventeen lims fit k u label I r S)

      twenty_by : parts_right (record { number = r.to; counter = u.count r.to; darts = darts_by u label r.to }) t₆ ≡ true
      twenty_by = unfold block_by in (twenty lims fit k u label I r S)

      few_same : leb (size_all t₆.faces) (lims r.to).volume_darts ≡ leb (length v₆) (lims r.to).volume_darts
      few_same = ap (λ (n : ℕ). leb n (lims r.to).volume_darts) (size_is lims fit k u label I r S)

      sizes_same : length (darts_by u label r.to) + size_all t₆.faces ≡ length (members u r.to) + length v₆
      sizes_same = rw (length-map (members u r.to) (dart_by u label), size_is lims fit k u label I r S)
