-- `readpages::counter::set_least` meets its contract: one word is set, to the counter or to the greatest one.
-- Assumes nothing.
use Rattle.readpages.proofs.Counting.{set_small, set_large}
use Rattle.readpages.proofs.counter.set_least.Goals as goal

pub returns-then-c-lt-NUMBERS : goal.returns-then-c-lt-NUMBERS
returns-then-c-lt-NUMBERS c =
    set_small c.args.block.now c.if-c-lt-NUMBERS.true c.least_counter-c.ensures

pub returns-else-c-lt-NUMBERS : goal.returns-else-c-lt-NUMBERS
returns-else-c-lt-NUMBERS c =
    set_large c.args.block.now c.if-c-lt-NUMBERS.false c.least_counter-c.ensures
