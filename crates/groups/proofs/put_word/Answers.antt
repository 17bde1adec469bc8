use Rattle.groups.proofs.Coordinates.{word_stored}
use Rattle.groups.proofs.put_word.Goals as goal

pub returns : goal.returns
returns c =
    word_stored _ _ _ c.requires c.to_le_bytes.ensures c.copy_from_slice.ensures.after
