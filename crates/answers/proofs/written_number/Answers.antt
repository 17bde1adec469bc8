-- `answers::written_number` meets its contract. A refusal has its question's number. Assumes nothing.
use mathlib.Core.Path.{sym, ap, ◌∙◌}
use Rattle.model.specs.Calls.{number_of}
use Rattle.answers.specs.Answers.{written_of}
use Rattle.answers.proofs.written_number.Goals as goal

pub returns-in-Err : goal.returns-in-Err
returns-in-Err c =
    c.refusal_number.ensures ∙ sym (ap (λ x. number_of (written_of x)) c.in-Err.is)
