-- `departure::questions::pairs_once` meets its contract: the vertices are numbered, and then asked. Assumes nothing.
use native.Mathlib.Omega.{arith}
use Rattle.model.specs.Image.{count_in, column}
use Rattle.answers.proofs.Questions.{said_no, said_yes}
use Rattle.cells.proofs.PairsNumbered.{ended}
use Rattle.departure.proofs.Answers.{taken, whole_few, whole_below}
use Rattle.departure.proofs.questions.pairs_once.Goals as goal

pub number_vertices-vertices-requires : goal.number_vertices-vertices-requires
number_vertices-vertices-requires c =
    let whole = c.requires.linked.1 in
    let long = c.requires.linked.2 in
    let out = c.args.out.now in
    let darts = c.args.darts in
    record {
      linked = (c.requires.linked.0, whole_few out darts whole long, long, whole_below out darts whole long);
      n_in_bounds = (c.requires.block_in_bounds.0, c.requires.block_in_bounds.1);
    }

pub pairs_once-requires : goal.pairs_once-requires
pairs_once-requires c =
    let m = c.args.block.now in
    let l = c.requires.linked.0 in
    let whole = c.requires.linked.1 in (
      l,
      ended (count_in m) (column m 1) (column m 2) l.few l.next_within l.next_apart l.opposite_within l.opposite_apart whole
          c.number_vertices-vertices.ensures,
      omega
          (arith, c.number_vertices-vertices.ensures.count_le, taken c.args.out.now c.args.darts whole c.requires.linked.2, c.requires.block_in_bounds.2),
    )

pub returns-then-not-pairs_once : goal.returns-then-not-pairs_once
returns-then-not-pairs_once c =
    record { vertices = _; numbering = c.number_vertices-vertices.ensures; twice = said_no c.pairs_once.ensures c.if-not-pairs_once.true }

pub returns : goal.returns
returns c =
    record { numbering = c.number_vertices-vertices.ensures; once = said_yes c.pairs_once.ensures c.if-not-pairs_once.false }
