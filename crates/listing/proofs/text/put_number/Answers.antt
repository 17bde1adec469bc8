-- `listing::text::put_number` meets its contract: digits, then one byte.
-- Assumes nothing.
use Rattle.groups.proofs.Writing.{stored_then}
use Rattle.listing.proofs.text.put_number.Goals as goal

pub returns : goal.returns
returns c =
    stored_then c.put_decimal-past_digits.ensures c.put_byte.ensures
