-- `stats::rows::cell_figures` meets its contract. Assumes nothing.
use mathlib.Core.Path.{refl, sym, ◌∙◌}
use Rattle.model.specs.Values.{room}
use Rattle.cells.proofs.Resets.{zeros_clear, zeros_long}
use Rattle.cells.proofs.Sited.{sited}
use Rattle.stats.proofs.GroupLaws.{joined}
use Rattle.stats.proofs.RowLaws.{count_few, count_is, told_unsound, told_short, told_cells}
use native.Mathlib.Omega.{arith}
use Rattle.stats.proofs.rows.cell_figures.Goals as goal

pub returns-then-not-is_sound : goal.returns-then-not-is_sound
returns-then-not-is_sound c =
    let t = told_unsound c.args.block.now c.args.rows.now (sym c.is_sound.ensures ∙ c.if-not-is_sound.true) in
    record { answer = t.0; rows = t.1 }

pub number-count-requires : goal.number-count-requires
number-count-requires c =
    let j = joined c.args.block.now (sym c.is_sound.ensures ∙ c.if-not-is_sound.false) in
    let few = j.linked.few in
    record {
      joined = (j, zeros_long _ room refl few, zeros_clear room refl);
      block_in_bounds = (zeros_long _ room refl few, zeros_long _ room refl few);
    }

pub overflow_mul-count : goal.overflow_mul-count
overflow_mul-count c =
    let ok = sym c.is_sound.ensures ∙ c.if-not-is_sound.false in
    let m = c.args.block.now in
    omega (arith, count_few m ok c.number-count.ensures, (sited m ok).linked.few)

pub returns-then-rows-count : goal.returns-then-rows-count
returns-then-rows-count c =
    let ok = sym c.is_sound.ensures ∙ c.if-not-is_sound.false in
    let m = c.args.block.now in
    let t = told_short m c.args.rows.now ok (count_is m ok c.number-count.ensures) c.if-rows-count.true in
    record { answer = t.0; rows = t.1 }

pub tell-requires : goal.tell-requires
tell-requires c =
    record { block_value = (sym c.is_sound.ensures ∙ c.if-not-is_sound.false, c.number-count.ensures); count_in_bounds = c.if-rows-count.false }

pub returns : goal.returns
returns c =
    let ok = sym c.is_sound.ensures ∙ c.if-not-is_sound.false in
    let m = c.args.block.now in
    let t = told_cells m c.args.rows.now ok (count_is m ok c.number-count.ensures) c.if-rows-count.false c.tell.ensures in
    record { answer = t.0; rows = t.1 }
