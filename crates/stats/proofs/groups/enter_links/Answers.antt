-- `stats::groups::enter_links` meets its contract: what each call of `enter` asks follows from the queue that the one before leaves.
-- Assumes nothing.
use Rattle.stats.proofs.Numbering.{enter_ready, next_below, opposite_below, third_below, after_next, after_opposite, links_entered}
use native.Mathlib.Omega.{arith}
use Rattle.stats.proofs.groups.enter_links.Goals as goal

pub field-requires : goal.field-requires
field-requires c =
    (omega (arith, c.requires.0.linked.size), omega arith)

pub enter-with_next-requires : goal.enter-with_next-requires
enter-with_next-requires c =
    let j = c.requires.0 in
    let pn = c.requires.1 in
    let gp = c.requires.2 in
    let q = c.requires.3 in
    enter_ready q j.linked.few _ (next_below j c.args.third pn gp q c.field.ensures)

pub field-requires-2 : goal.field-requires-2
field-requires-2 c =
    (omega (arith, c.requires.0.linked.size), omega arith)

pub enter-with_opposite-requires : goal.enter-with_opposite-requires
enter-with_opposite-requires c =
    let j = c.requires.0 in
    let pn = c.requires.1 in
    let gp = c.requires.2 in
    let q = c.requires.3 in
    let t = c.args.third in
    enter_ready (after_next j t pn gp q c.field.ensures c.enter-with_next.ensures) j.linked.few _
    (opposite_below j t pn gp q c.field.ensures c.enter-with_next.ensures c.field-2.ensures)

pub third_link-c-requires : goal.third_link-c-requires
third_link-c-requires c =
    omega (arith, c.requires.1, c.requires.0.linked.size)

pub enter-requires : goal.enter-requires
enter-requires c =
    let j = c.requires.0 in
    let pn = c.requires.1 in
    let gp = c.requires.2 in
    let q = c.requires.3 in
    let t = c.args.third in
    enter_ready (after_opposite j t pn gp q c.field.ensures c.enter-with_next.ensures c.field-2.ensures c.enter-with_opposite.ensures) j.linked.few _
    (third_below j t pn gp q c.field.ensures c.enter-with_next.ensures c.field-2.ensures c.enter-with_opposite.ensures c.third_link-c.ensures)

pub returns : goal.returns
returns c =
    let j = c.requires.0 in
    let pn = c.requires.1 in
    let gp = c.requires.2 in
    let q = c.requires.3 in
    links_entered j c.args.third pn gp q c.field.ensures c.enter-with_next.ensures c.field-2.ensures c.enter-with_opposite.ensures
    c.third_link-c.ensures c.enter.ensures
