-- `readfile::read_file` meets its contract: the rack's limits.
-- Assumes nothing.
use mathlib.Core.Path.{ap, sym}
use native.Mathlib.Omega.{arith}
use Rattle.model.specs.Image.{words_of}
use Rattle.model.specs.Values.{Limits}
use Rattle.model.specs.Calls as calls
use Rattle.answers.proofs.Questions.{by_limits}
use Rattle.memory.proofs.Headers.{rack_fits}
use Rattle.readfile.proofs.read_file.Goals as goal

pub read_file_in-requires : goal.read_file_in-requires
read_file_in-requires c =
    (rack_fits _ c.rack.ensures, omega arith, ap words_of (sym c.rack.ensures))

pub returns : goal.returns
returns c =
    by_limits (λ (l : Limits). calls.read_file l c.args.file.now c.args.block.now) c.rack.ensures c.read_file_in.ensures
