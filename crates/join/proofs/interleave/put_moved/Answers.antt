-- `join::interleave::put_moved` meets its contract: the record with its places moved is stored. Assumes nothing.
use mathlib.Core.Path.{◌∙◌, ap}
use Rattle.memory.specs.Record.{put, record_words}
use Rattle.memory.specs.declared.record.Record.{Record}
use Rattle.join.proofs.interleave.put_moved.Goals as goal

pub returns : goal.returns
returns c =
    c.put_record.ensures ∙ ap (λ (r : Record). put c.args.block.now c.args.at.0 (record_words r)) c.renumbered.ensures
