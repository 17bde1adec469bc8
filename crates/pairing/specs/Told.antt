-- What questions 25 and 26 say, as one answer. Assumes nothing.
use Rattle.std.specs.Prelude.{Bool, true, false}
use Rattle.pairing.specs.declared.Pairing.{Pairing}
use Rattle.pairing.specs.declared.Pairing.TheVariants as pairing

abbrev pub pairing_of : Bool → Bool → Pairing
pairing_of false b = pairing.Unpaired
pairing_of true false = pairing.Apart
pairing_of true true = pairing.Right
