-- `balance::leaving::first_leaving` meets its contract: its arrays are of a block's size, and nothing is marked.
-- Assumes nothing.
use mathlib.Core.Path.{refl}
use Rattle.model.specs.Values.{room}
use native.Mathlib.Omega.{arith}
use Rattle.cells.proofs.Resets.{zeros_clear, zeros_long}
use Rattle.cells.proofs.Sited.{sited}
use Rattle.balance.proofs.leaving.first_leaving.Goals as goal

pub first_asked-requires : goal.first_asked-requires
first_asked-requires c =
    let few = (sited c.args.block.now c.requires.0).linked.few in
    record {
      block_value = c.requires;
      asking = record {
        marks_size = zeros_long _ room refl few;
        unmarked = zeros_clear room refl;
        order_size = zeros_long _ room refl few;
        starts_size = zeros_long _ room refl few;
        seen_size = zeros_long _ room refl few;
        unseen = zeros_clear room refl;
        numbers_size = zeros_long _ room refl few;
        firsts_size = zeros_long _ room refl few;
        colours_size = zeros_long _ 512 refl (omega arith);
      };
    }

pub returns : goal.returns
returns c =
    record { candidate = c.first_asked.ensures.candidate; untried = c.first_asked.ensures.untried }
