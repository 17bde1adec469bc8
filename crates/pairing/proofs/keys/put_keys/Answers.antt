use Rattle.pairing.proofs.Steps.{putting_none, putting_more, putting_room, putting_end}
use Rattle.pairing.proofs.keys.put_keys.Goals as goal

pub loop-p-init : goal.loop-p-init
loop-p-init c =
    putting_none _ _ _ _

pub put_key-end-requires : goal.put_key-end-requires
put_key-end-requires c = (
  c.requires.0,
  c.requires.1,
  c.requires.2,
  c.requires.3,
  c.loop-p-test.true,
  putting_room c.loop-p.invariant c.loop-p-test.true c.requires.1 c.requires.4,
)

pub loop-p-preserved : goal.loop-p-preserved
loop-p-preserved c =
    putting_more c.loop-p.invariant c.loop-p-test.true c.put_key-end.ensures.0 c.put_key-end.ensures.1

pub shape_of-out : goal.shape_of-out
shape_of-out c =
    c.loop-p.invariant.done.len

pub returns : goal.returns
returns c =
    putting_end c.loop-p.invariant c.loop-p-test.false c.requires.1
