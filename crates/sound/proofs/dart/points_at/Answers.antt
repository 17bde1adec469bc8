-- `sound::dart::points_at` meets its contract: each place that is read is that of a dart, whose point is finite.
-- Assumes nothing.
use mathlib.Core.Path.{sym, ap, ◌∙◌}
use Rattle.model.specs.Image.{is_sewn_word}
use Rattle.memory.proofs.Points.{finite_at}
use Rattle.sound.proofs.OneDart.{point_stop, point_only, point_go, next_place, opposite_place}
use native.Mathlib.Omega.{arith}
use borrow.Author.Rules.{rules}
use Rattle.sound.proofs.dart.points_at.Goals as goal

pub field-requires-2 : goal.field-requires-2
field-requires-2 c =
    (omega (arith, opposite_place _ _ c.requires.3 c.requires.0 c.field.ensures), omega arith)

pub same_at-requires : goal.same_at-requires
same_at-requires c =
    let b = opposite_place _ _ c.requires.3 c.requires.0 c.field.ensures in
    let v = next_place _ _ c.requires.3 b c.field-2.ensures in
    (omega (arith, c.requires.0), omega (arith, v), search rules, finite_at _ _ (c.requires.5 _ c.requires.0), finite_at _ _ (c.requires.5 _ v))

pub returns-then-not-same_at : goal.returns-then-not-same_at
returns-then-not-same_at c =
    point_stop _ 0 _ c.field.ensures c.field-2.ensures c.same_at.ensures c.if-not-same_at.true

pub returns-then-not-is_sewn : goal.returns-then-not-is_sewn
returns-then-not-is_sewn c =
    point_only _ 0 _ c.field.ensures c.field-2.ensures c.same_at.ensures c.if-not-same_at.false c.field-k.ensures
    (sym c.is_sewn.ensures ∙ c.if-not-is_sewn.true)

pub field-requires-4 : goal.field-requires-4
field-requires-4 c =
    let sewn = sym c.is_sewn.ensures ∙ c.if-not-is_sewn.false in
    let l = c.requires.4 _ c.requires.0 (ap is_sewn_word (sym c.field-k.ensures) ∙ sewn) in
    (omega (arith, l, c.field-3.ensures), omega arith)

pub same_at-requires-2 : goal.same_at-requires-2
same_at-requires-2 c =
    let sewn = sym c.is_sewn.ensures ∙ c.if-not-is_sewn.false in
    let l = rw (sym c.field-3.ensures) at (c.requires.4 _ c.requires.0 (ap is_sewn_word (sym c.field-k.ensures) ∙ sewn)) in
    let w = next_place _ _ c.requires.3 l c.field-4.ensures in
    (omega (arith, c.requires.0), omega (arith, w), search rules, finite_at _ _ (c.requires.5 _ c.requires.0), finite_at _ _ (c.requires.5 _ w))

pub returns : goal.returns
returns c =
    let sewn = sym c.is_sewn.ensures ∙ c.if-not-is_sewn.false in
    point_go _ 0 _ c.field.ensures c.field-2.ensures c.same_at.ensures c.if-not-same_at.false c.field-k.ensures sewn c.field-3.ensures
    c.field-4.ensures c.same_at-2.ensures
