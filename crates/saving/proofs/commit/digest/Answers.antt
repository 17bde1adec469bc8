use Rattle.saving.proofs.Commits.{digest_none, digest_more, digest_all}
use Rattle.saving.proofs.commit.digest.Goals as goal

pub loop-b-init : goal.loop-b-init
loop-b-init c =
    digest_none _

pub loop-b-preserved : goal.loop-b-preserved
loop-b-preserved c =
    digest_more c.loop-b.invariant c.loop-b-test.true c.from.ensures

pub returns : goal.returns
returns c =
    digest_all c.loop-b.invariant c.loop-b-test.false
