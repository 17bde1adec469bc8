-- `rounds::post::first_message` meets its contract.
-- Assumes nothing.
use mathlib.Core.Path.{sym, ◌∙◌}
use Rattle.model.specs.Layouts.{group}
use Rattle.groups.proofs.Ends.{bad_at}
use Rattle.codec.proofs.Taking.{took_group}
use Rattle.rounds.proofs.Cuts.{unread_length, first_length, cut_short}
use native.Mathlib.Omega.{arith}
use Rattle.rounds.proofs.post.first_message.Goals as goal

pub returns-in_default : goal.returns-in_default
returns-in_default c =
    unread_length _ (bad_at group _ _ (sym c.in_default.is ∙ c.read_group.ensures))

pub overflow_sub-bytes : goal.overflow_sub-bytes
overflow_sub-bytes c =
    let w = (took_group (sym c.in-Some.is ∙ c.read_group.ensures)).within in
    omega (arith, w)

pub returns-then-n-bytes : goal.returns-then-n-bytes
returns-then-n-bytes c =
    first_length (took_group (sym c.in-Some.is ∙ c.read_group.ensures)) c.if-n-bytes.true

pub returns : goal.returns
returns c =
    cut_short (took_group (sym c.in-Some.is ∙ c.read_group.ensures)) c.if-n-bytes.false
