-- `inbox::parts::pass_entry` meets its contract: each part by the function that passes its entries.
-- Assumes nothing.
use Rattle.codec.proofs.Passing.{label_pass}
use Rattle.inbox.proofs.Passing.{entry_as}
use Rattle.inbox.proofs.parts.pass_entry.Goals as goal

pub returns-in-Second : goal.returns-in-Second
returns-in-Second c =
    λ fs z. entry_as c.in-Second.is fs c.pass_part2.ensures

pub returns-in-Third : goal.returns-in-Third
returns-in-Third c =
    λ fs z. entry_as c.in-Third.is fs c.pass_part3.ensures

pub returns-in-Fourth : goal.returns-in-Fourth
returns-in-Fourth c =
    λ fs z. entry_as c.in-Fourth.is fs (c.pass_part4.ensures fs z)

pub returns-in-Labels : goal.returns-in-Labels
returns-in-Labels c =
    λ fs z. entry_as c.in-Labels.is fs (label_pass _ _ c.read_label.ensures)
