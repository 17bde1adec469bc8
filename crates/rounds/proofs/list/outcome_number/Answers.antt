-- `rounds::list::outcome_number` meets its contract. Assumes nothing.
use mathlib.Core.Path.{sym, ◌∙◌, ap}
use Rattle.rounds.specs.Played.{outcome_of}
use Rattle.rounds.specs.Requests.{outcome_number}
use Rattle.rounds.specs.declared.Outcome.{Outcome}
use Rattle.rounds.proofs.list.outcome_number.Goals as goal

pub returns-in-Refused : goal.returns-in-Refused
returns-in-Refused c =
    c.from.ensures ∙ c.refusal_number.ensures ∙ sym (ap (λ (o : Outcome). outcome_number (outcome_of o)) c.in-Refused.is)
