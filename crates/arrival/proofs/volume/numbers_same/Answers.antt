use mathlib.Core.Path.{sym, ◌∙◌, ap}
use Prim.Native.Nat.{ℕ}
use lib.Dec.{eqb}
use lib.ListN.{get_or}
use borrow.Author.Tests.{eq-eqb, ne_eqb}
use Rattle.arrival.proofs.Steps.{passing_none, passing_more, passing_all, passing_not}
use native.Mathlib.Omega.{arith}
use Rattle.arrival.proofs.volume.numbers_same.Goals as goal

pub loop-i-init : goal.loop-i-init
loop-i-init c =
    passing_none _

pub offset_bounds-numbers-p : goal.offset_bounds-numbers-p
offset_bounds-numbers-p c =
    let r = c.requires.3 c.loop-i.i (omega arith) in
    omega (arith, r, c.rank_at-place.ensures)

pub bounds-numbers-p : goal.bounds-numbers-p
bounds-numbers-p c =
    let r = c.requires.3 c.loop-i.i (omega arith) in
    omega (arith, r, c.rank_at-place.ensures)

pub returns-then-vertex-i : goal.returns-then-vertex-i
returns-then-vertex-i c =
    let vertex = c.args.vertex.now in
    let numbers = c.args.numbers.now in
    let ranks = c.args.ranks.now in
    let k = c.args.k in
    passing_not (λ j. eqb (get_or vertex j 0) (get_or numbers (get_or ranks j 0) 0)) c.loop-i.i k (omega arith)
    (ne_eqb _ _ (λ e. c.if-vertex-i.true (e ∙ ap (λ (p : ℕ). get_or numbers p 0) (sym c.rank_at-place.ensures))))

pub loop-i-preserved : goal.loop-i-preserved
loop-i-preserved c =
    passing_more c.loop-i.invariant (eq-eqb _ _ (c.if-vertex-i.false ∙ ap (λ (p : ℕ). get_or c.args.numbers.now p 0) c.rank_at-place.ensures))

pub returns : goal.returns
returns c =
    passing_all {k = c.args.k} c.loop-i.invariant (omega arith)
