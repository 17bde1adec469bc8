-- `inbox::message::counted_part` meets its contract: a count, then so many entries.
-- Assumes nothing.
use mathlib.Core.Path.{sym, ◌∙◌}
use Rattle.model.specs.Layouts.{group}
use Rattle.groups.proofs.Ends.{bad_at}
use Rattle.inbox.specs.Parts.{entry}
use Rattle.codec.proofs.Taking.{took_group}
use Rattle.inbox.proofs.Outlining.{counted_bad, counted_short, counted_good}
use Rattle.inbox.proofs.message.counted_part.Goals as goal

pub returns-in_err-count : goal.returns-in_err-count
returns-in_err-count c =
    rw c.from_residual.ensures (
    let s = c.args.s.now in
    let at = c.args.at in
    let part = c.args.part in
    λ fs z. counted_bad (entry part fs) s at (bad_at group _ _ (sym c.in_err-count.was ∙ c.read_group.ensures)))

pub pass_entries-requires : goal.pass_entries-requires
pass_entries-requires c =
    ((took_group (sym c.in_ok-count.was ∙ c.read_group.ensures)).within, c.requires)

pub returns-in_err-n : goal.returns-in_err-n
returns-in_err-n c =
    rw c.from_residual-in_err-n.ensures (
    let part = c.args.part in
    λ fs z. counted_short (entry part fs) (took_group (sym c.in_ok-count.was ∙ c.read_group.ensures)) c.in_err-n.was
    (c.pass_entries.ensures fs z))

pub returns : goal.returns
returns c =
    let part = c.args.part in
    λ fs z. counted_good (entry part fs) (took_group (sym c.in_ok-count.was ∙ c.read_group.ensures)) c.in_ok-n.was
    (c.pass_entries.ensures fs z)
