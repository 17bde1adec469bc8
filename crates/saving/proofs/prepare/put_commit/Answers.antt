-- `saving::prepare::put_commit` meets its contract. Assumes nothing.
use Rattle.saving.proofs.Committing.{too_few, too_many, no_room, one_missing, commit_put}
use Rattle.saving.proofs.prepare.put_commit.Goals as goal

pub returns-then-k-lt1 : goal.returns-then-k-lt1
returns-then-k-lt1 c =
    too_few _ _ c.if-k-lt1.true

pub returns-then-k-gt-BLOCKS : goal.returns-then-k-gt-BLOCKS
returns-then-k-gt-BLOCKS c =
    too_many _ _ c.if-k-gt-BLOCKS.true

pub returns-then-room-n : goal.returns-then-room-n
returns-then-room-n c =
    no_room _ _ c.if-room-n.true

pub returns-then-not-put_entries : goal.returns-then-not-put_entries
returns-then-not-put_entries c =
    one_missing _ _ c.if-k-lt1.false c.if-k-gt-BLOCKS.false c.put_entries.ensures c.if-not-put_entries.true

pub returns : goal.returns
returns c =
    commit_put _ _ c.if-k-lt1.false c.if-k-gt-BLOCKS.false c.put_entries.ensures c.if-not-put_entries.false c.if-room-n.false c.put_bytes.ensures
