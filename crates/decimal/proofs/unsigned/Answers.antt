-- `decimal::unsigned` meets its contract. Assumes nothing.
use Rattle.decimal.proofs.Texts.{digits_within, digits_capped}
use Rattle.decimal.proofs.Values.{unsigned_none, unsigned_some}
use Rattle.std.proofs.Common.{arith}
use Rattle.decimal.proofs.unsigned.Goals as goal

pub returns-then-count-eq0 : goal.returns-then-count-eq0
returns-then-count-eq0 c =
    unsigned_none _ c.args.text.now c.digits_in-d.ensures c.if-count-eq0.true

pub slice_bounds-behind-count : goal.slice_bounds-behind-count
slice_bounds-behind-count c =
    omega (arith, digits_within 0 c.args.text.now c.digits_in-d.ensures)

pub slice_bounds-behind-start : goal.slice_bounds-behind-start
slice_bounds-behind-start c =
    omega (arith, digits_within 0 c.args.text.now c.digits_in-d.ensures)

pub behind-requires : goal.behind-requires
behind-requires c =
    digits_capped 0 c.args.text.now c.digits_in-d.ensures

pub returns : goal.returns
returns c =
    unsigned_some _ c.args.text.now c.digits_in-d.ensures c.if-count-eq0.false c.behind.ensures
