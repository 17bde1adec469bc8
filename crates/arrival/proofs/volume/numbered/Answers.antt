-- `arrival::volume::numbered` meets its contract.
-- Assumes nothing.
use mathlib.Core.Path.{refl}
use native.Mathlib.Omega.{arith}
use Rattle.arrival.proofs.volume.numbered.Goals as goal

pub number_vertices-found-requires : goal.number_vertices-found-requires
number_vertices-found-requires c =
    record {
      linked = (
        c.requires.0,
        (let f = c.requires.3 in omega (arith, f)),
        c.requires.2,
        c.requires.4,
      );
      n_in_bounds = (c.requires.5, c.requires.6);
    }

pub returns : goal.returns
returns c =
    record {
      numbers = c.number_vertices-found.new.numbers;
      firsts = c.number_vertices-found.new.firsts;
      count = c.number_vertices-found.result;
      numbered = c.number_vertices-found.ensures;
      result = rw c.numbers_same.ensures refl;
    }
