use Rattle.stats.proofs.CountLaws.{word_ready, darts_start, darts_ready, darts_more, darts_all}
use native.Mathlib.Omega.{arith}
use Rattle.stats.proofs.rows.count_darts.Goals as goal

pub bounds-block-2 : goal.bounds-block-2
bounds-block-2 c =
    omega (arith, c.requires.0.size)

pub loop-p-init : goal.loop-p-init
loop-p-init c =
    darts_start _ _ _

pub word_at-requires : goal.word_at-requires
word_at-requires c =
    word_ready c.requires.1 c.requires.0.few c.loop-p-test.true 1 (omega arith)

pub add_one-requires : goal.add_one-requires
add_one-requires c =
    darts_ready c.requires.1 c.requires.0.few c.loop-p.invariant c.loop-p-test.true c.word_at.ensures

pub loop-p-preserved : goal.loop-p-preserved
loop-p-preserved c =
    darts_more c.requires.1 c.requires.0.few c.loop-p.invariant c.loop-p-test.true c.word_at.ensures c.add_one.ensures

pub shape_of-rows : goal.shape_of-rows
shape_of-rows c =
    c.loop-p.invariant.counted.len

pub returns : goal.returns
returns c =
    darts_all c.requires.1 c.requires.0.few c.loop-p.invariant c.loop-p-test.false
