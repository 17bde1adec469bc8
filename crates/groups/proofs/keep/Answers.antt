-- `groups::keep` meets its contract. Each branch by its test. Assumes nothing.
use borrow.Author.Tests.{lt-ltb, le-ltb}
use Rattle.groups.proofs.keep.Goals as goal

pub returns-then-v-bound : goal.returns-then-v-bound
returns-then-v-bound c =
    rw (lt-ltb _ _ c.if-v-bound.true)

pub returns-else-v-bound : goal.returns-else-v-bound
returns-else-v-bound c =
    rw (le-ltb _ _ c.if-v-bound.false)
