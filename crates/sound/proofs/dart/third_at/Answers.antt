-- `sound::dart::third_at` meets its contract: a no to the kind or to a place is a no; a sewn dart goes on to `sewn_at`.
-- Assumes nothing.
use mathlib.Core.Path.{sym, ◌∙◌}
use Rattle.sound.proofs.OneDart.{both_lt, kind_stop, not_sewn, sewn_stop, sewn_go}
use native.Mathlib.Omega.{arith}
use borrow.Author.Rules.{rules}
use Rattle.sound.proofs.dart.third_at.Goals as goal

pub returns-then-j-k : goal.returns-then-j-k
returns-then-j-k c =
    kind_stop _ _ _ c.field.ensures c.field-k.ensures c.field-j.ensures c.if-j-k.true

pub returns-then-not-is_sewn : goal.returns-then-not-is_sewn
returns-then-not-is_sewn c =
    not_sewn _ _ _ c.field.ensures c.field-k.ensures c.field-j.ensures c.if-j-k.false (sym c.is_sewn.ensures ∙ c.if-not-is_sewn.true)

pub returns-then-not-l-n : goal.returns-then-not-l-n
returns-then-not-l-n c =
    let sewn = sym c.is_sewn.ensures ∙ c.if-not-is_sewn.false in
    sewn_stop _ _ _ c.field.ensures c.field-k.ensures c.field-j.ensures c.if-j-k.false sewn c.field-l.ensures c.field-z.ensures c.if-not-l-n.true

pub sewn_at-requires : goal.sewn_at-requires
sewn_at-requires c =
    let within = both_lt c.args.n c.field-l.ensures c.field-z.ensures c.if-not-l-n.false in
    (omega (arith, within.0), omega (arith, within.1), search rules)

pub returns : goal.returns
returns c =
    let sewn = sym c.is_sewn.ensures ∙ c.if-not-is_sewn.false in
    sewn_go _ _ _ c.field.ensures c.field-k.ensures c.field-j.ensures c.if-j-k.false sewn c.field-l.ensures c.field-z.ensures c.if-not-l-n.false
    c.sewn_at.ensures
