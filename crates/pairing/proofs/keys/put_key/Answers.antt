-- `pairing::keys::put_key` meets its contract.
-- Assumes nothing.
use mathlib.Core.Path.{sym, ◌∙◌}
use Rattle.pairing.proofs.Steps.{key_none, key_put}
use Rattle.pairing.proofs.ToldBy.{code_fits}
use native.Mathlib.Omega.{arith}
use Rattle.pairing.proofs.keys.put_key.Goals as goal

pub returns-then-not-is_critical : goal.returns-then-not-is_critical
returns-then-not-is_critical c =
    key_none c.args.block.now c.args.i c.args.p.0 c.args.at c.args.out.now c.field-kind.ensures
    (sym c.is_critical.ensures ∙ c.if-not-is_critical.true)

pub overflow_mul-out : goal.overflow_mul-out
overflow_mul-out c =
    let critical = sym c.is_critical.ensures ∙ c.if-not-is_critical.false in
    omega (arith, code_fits c.args.block.now c.args.p.0 c.requires.2 c.requires.4 c.field-kind.ensures critical c.field-link.ensures)

pub overflow_add-out-2 : goal.overflow_add-out-2
overflow_add-out-2 c =
    let critical = sym c.is_critical.ensures ∙ c.if-not-is_critical.false in
    omega (arith, code_fits c.args.block.now c.args.p.0 c.requires.2 c.requires.4 c.field-kind.ensures critical c.field-link.ensures)

pub returns : goal.returns
returns c =
    let block = c.args.block.now in
    let i = c.args.i in
    let p' = c.args.p.0 in
    let at = c.args.at in
    let out = c.args.out.now in
    let critical = sym c.is_critical.ensures ∙ c.if-not-is_critical.false in
    key_put block i p' at out c.requires.5 c.field-kind.ensures critical c.field-link.ensures
