-- `parts::indices::indices_fit` meets its contract.
-- Assumes nothing.
use mathlib.Core.Path.{sym, ◌∙◌}
use Rattle.parts.proofs.IndexLaws.{marks_none, marks_more, part_told, told_below, second_no, third_no, fourth_is}
use native.Mathlib.Omega.{arith}
use Rattle.parts.proofs.indices.indices_fit.Goals as goal

pub fit-requires : goal.fit-requires
fit-requires c =
    (c.requires.0, c.requires.3, c.requires.4)

pub returns-then-not-fit : goal.returns-then-not-fit
returns-then-not-fit c =
    let starts = c.args.starts.now in
    let second = c.args.second.now in
    let third = c.args.third.now in
    let fourth = c.args.fourth.now in
    let k = c.args.k in
    let c2 = c.args.c2 in
    let c3 = c.args.c3 in
    let c4 = c.args.c4 in
    second_no starts second third fourth k c2 c3 c4 (sym (part_told c.fit.ensures c.requires.0 (marks_none _ c.requires.5)) ∙ c.if-not-fit.true)

pub mark-requires : goal.mark-requires
mark-requires c = (
  c.requires.0,
  λ e h. let r = told_below c.fit.ensures c.requires.0 (marks_none _ c.requires.5) c.if-not-fit.false e h in omega (arith, r, c.requires.4),
)

pub fit-requires-2 : goal.fit-requires-2
fit-requires-2 c =
    (c.requires.1, c.requires.3, omega (arith, c.mark.ensures.size, c.requires.4))

pub returns-then-not-fit-2 : goal.returns-then-not-fit-2
returns-then-not-fit-2 c =
    let starts = c.args.starts.now in
    let second = c.args.second.now in
    let third = c.args.third.now in
    let fourth = c.args.fourth.now in
    let k = c.args.k in
    let c2 = c.args.c2 in
    let c3 = c.args.c3 in
    let c4 = c.args.c4 in
    third_no starts second third fourth k c2 c3 c4
    (sym (part_told c.fit-2.ensures c.requires.1 (marks_more (marks_none _ c.requires.5) c.mark.ensures)) ∙ c.if-not-fit-2.true)

pub mark-requires-2 : goal.mark-requires-2
mark-requires-2 c = (
  c.requires.1,
  λ e h. let r = told_below c.fit-2.ensures c.requires.1 (marks_more (marks_none _ c.requires.5) c.mark.ensures) c.if-not-fit-2.false e h in
      omega (arith, r, c.mark.ensures.size, c.requires.4),
)

pub fit-requires-3 : goal.fit-requires-3
fit-requires-3 c =
    (c.requires.2, c.requires.3, omega (arith, c.mark.ensures.size, c.mark-2.ensures.size, c.requires.4))

pub returns : goal.returns
returns c =
    let starts = c.args.starts.now in
    let second = c.args.second.now in
    let third = c.args.third.now in
    let fourth = c.args.fourth.now in
    let k = c.args.k in
    let c2 = c.args.c2 in
    let c3 = c.args.c3 in
    let c4 = c.args.c4 in
    fourth_is starts second third fourth k c2 c3 c4
    (sym (part_told c.fit.ensures c.requires.0 (marks_none _ c.requires.5)) ∙ c.if-not-fit.false)
    (sym (part_told c.fit-2.ensures c.requires.1 (marks_more (marks_none _ c.requires.5) c.mark.ensures)) ∙ c.if-not-fit-2.false)
    (part_told c.fit-3.ensures c.requires.2 (marks_more (marks_more (marks_none _ c.requires.5) c.mark.ensures) c.mark-2.ensures))
