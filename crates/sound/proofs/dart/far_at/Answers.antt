-- `sound::dart::far_at` meets its contract: each place that is read is that of a dart that is right by itself.
-- Assumes nothing.
use mathlib.Core.Path.{sym, ap, ◌∙◌}
use Rattle.model.specs.Image.{is_sewn_word}
use Rattle.sound.proofs.OneDart.{far_stop, far_kind, far_only, far_go, next_lt, opposite_lt, sewn_lt, finite_here}
use native.Mathlib.Omega.{arith}
use borrow.Author.Rules.{rules}
use Rattle.sound.proofs.dart.far_at.Goals as goal

pub field-c-requires : goal.field-c-requires
field-c-requires c =
    (omega (arith, opposite_lt _ _ c.requires.3 c.requires.0 c.field-2.ensures), omega arith)

pub field-j-requires : goal.field-j-requires
field-j-requires c =
    (omega (arith, next_lt _ _ c.requires.3 c.requires.0 c.field.ensures), omega arith)

pub field-requires-3 : goal.field-requires-3
field-requires-3 c =
    (omega (arith, opposite_lt _ _ c.requires.3 c.requires.0 c.field-2.ensures), omega arith)

pub same_at-s-requires : goal.same_at-s-requires
same_at-s-requires c =
    let b = opposite_lt _ _ c.requires.3 c.requires.0 c.field-2.ensures in
    let v = next_lt _ _ c.requires.3 b c.field-3.ensures in
    (omega (arith, c.requires.0), omega (arith, v), search rules, finite_here _ _ c.requires.3 c.requires.0, finite_here _ _ c.requires.3 v)

pub returns-then-not-c-p : goal.returns-then-not-c-p
returns-then-not-c-p c =
    far_stop _ 0 _ c.field.ensures c.field-2.ensures c.field-k.ensures c.field-c.ensures c.field-j.ensures c.field-3.ensures c.same_at-s.ensures
    c.if-not-c-p.true

pub returns-then-not-is_sewn : goal.returns-then-not-is_sewn
returns-then-not-is_sewn c =
    far_only _ 0 _ c.field.ensures c.field-2.ensures c.field-k.ensures c.field-c.ensures c.field-j.ensures c.field-3.ensures c.same_at-s.ensures
    c.if-not-c-p.false (sym c.is_sewn.ensures ∙ c.if-not-is_sewn.true)

pub field-requires-5 : goal.field-requires-5
field-requires-5 c =
    (omega (arith, next_lt _ _ c.requires.3 c.requires.0 c.field.ensures), omega arith)

pub field-requires-6 : goal.field-requires-6
field-requires-6 c =
    let sewn = sym c.is_sewn.ensures ∙ c.if-not-is_sewn.false in
    (omega (arith, sewn_lt _ _ c.requires.3 c.requires.0 c.field-k.ensures sewn c.field-4.ensures), omega arith)

pub sewn_at-t-requires : goal.sewn_at-t-requires
sewn_at-t-requires c =
    let block = c.args.block.now in
    let p' = c.args.p.0 in
    let sewn = sym c.is_sewn.ensures ∙ c.if-not-is_sewn.false in
    let a = next_lt _ _ c.requires.3 c.requires.0 c.field.ensures in
    let l = sewn_lt _ _ c.requires.3 c.requires.0 c.field-k.ensures sewn c.field-4.ensures in
    let j =
    far_kind block 0 p' c.field.ensures c.field-2.ensures c.field-k.ensures c.field-c.ensures c.field-j.ensures c.field-3.ensures
    c.same_at-s.ensures c.if-not-c-p.false in
    let z = sewn_lt _ _ c.requires.3 a c.field-j.ensures (ap is_sewn_word j ∙ sewn) c.field-5.ensures in
    (omega (arith, l), omega (arith, z), search rules)

pub same_at-u-requires : goal.same_at-u-requires
same_at-u-requires c =
    let sewn = sym c.is_sewn.ensures ∙ c.if-not-is_sewn.false in
    let l = sewn_lt _ _ c.requires.3 c.requires.0 c.field-k.ensures sewn c.field-4.ensures in
    let w = next_lt _ _ c.requires.3 l c.field-6.ensures in
    (omega (arith, c.requires.0), omega (arith, w), search rules, finite_here _ _ c.requires.3 c.requires.0, finite_here _ _ c.requires.3 w)

pub returns : goal.returns
returns c =
    let sewn = sym c.is_sewn.ensures ∙ c.if-not-is_sewn.false in
    far_go _ 0 _ c.field.ensures c.field-2.ensures c.field-k.ensures c.field-c.ensures c.field-j.ensures c.field-3.ensures c.same_at-s.ensures
    c.if-not-c-p.false sewn c.field-4.ensures c.field-5.ensures c.field-6.ensures c.sewn_at-t.ensures c.same_at-u.ensures
