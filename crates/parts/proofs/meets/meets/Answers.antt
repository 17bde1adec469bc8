-- `parts::meets::meets` meets its contract.
-- Assumes nothing.
use Rattle.parts.proofs.Trails.{ready, meets_told}
use native.Mathlib.Omega.{arith}
use Rattle.parts.proofs.meets.meets.Goals as goal

pub met-w-requires : goal.met-w-requires
met-w-requires c =
    (c.requires.3.len, c.requires.2)

pub overflow_add-i : goal.overflow_add-i
overflow_add-i c =
    let f = c.requires.0.few in
    omega (arith, f)

pub rank_at-p-requires : goal.rank_at-p-requires
rank_at-p-requires c =
    let f = c.requires.0.few in
    let s = c.requires.0.ranks_size in
    omega (arith, f, s)

pub meet_at-requires : goal.meet_at-requires
meet_at-requires c =
    let r = ready c.requires.0 c.args.at.0 c.requires.1 c.requires.2 c.requires.3 c.rank_at-p.ensures c.met-w.ensures in
    record { p_in_bounds = r.0; finite_at = r.1 }

pub returns : goal.returns
returns c =
    let block = c.args.block.now in
    let draft = c.args.draft.now in
    let ranks = c.args.ranks.now in
    let at = c.args.at.0 in
    let size = c.args.size in
    let j = c.args.j in
    let trail = c.args.trail.now in
    meets_told block draft ranks at size j trail c.rank_at-p.ensures c.met-w.ensures c.meet_at.ensures
