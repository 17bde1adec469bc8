-- `readfile::raw::read_raw` meets its contract: number, counter, count and darts make the whole file where nothing is left over.
-- Assumes nothing.
use mathlib.Core.Path.{sym, ◌∙◌}
use Rattle.model.specs.Layouts.{group, at_most}
use Rattle.model.specs.Image.{words_of}
use Rattle.memory.specs.Header.{limits_of}
use Rattle.groups.proofs.Ends.{bad_at}
use Rattle.codec.proofs.Taking.{took_group, took_at_most}
use Rattle.readfile.proofs.Whole.{no_number, no_counter, no_count, too_many, no_darts, left_over, raw_refused, raw_served}
use Rattle.newblock.proofs.Stored.{zeros_length}
use native.Mathlib.Omega.{arith}
use Rattle.readfile.proofs.raw.read_raw.Goals as goal

pub returns-in_default : goal.returns-in_default
returns-in_default c =
    raw_refused (no_number (limits_of c.args.limits) (record { value = bad_at (at_most 15) _ _ (sym c.in_default.is ∙ c.read_at_most.ensures) }))

pub returns-in_default-read_group : goal.returns-in_default-read_group
returns-in_default-read_group c =
    raw_refused
    (no_counter (limits_of c.args.limits) (took_at_most 15 (sym c.in-Some.is ∙ c.read_at_most.ensures))
    (record { value = bad_at group _ _ (sym c.in_default-read_group.is ∙ c.read_group.ensures) }))

pub returns-in_default-read_group-2 : goal.returns-in_default-read_group-2
returns-in_default-read_group-2 c =
    raw_refused (no_count (limits_of c.args.limits) (took_at_most 15 (sym c.in-Some.is ∙ c.read_at_most.ensures))
    (took_group (sym c.in-Some-read_group.is ∙ c.read_group.ensures))
    (record { value = bad_at group _ _ (sym c.in_default-read_group-2.is ∙ c.read_group-2.ensures) }))

pub returns-then-limits-count : goal.returns-then-limits-count
returns-then-limits-count c =
    raw_refused (too_many (limits_of c.args.limits) (took_at_most 15 (sym c.in-Some.is ∙ c.read_at_most.ensures))
    (took_group (sym c.in-Some-read_group.is ∙ c.read_group.ensures))
    (took_group (sym c.in-Some-read_group-2.is ∙ c.read_group-2.ensures)) c.if-limits-count.true)

pub read_darts-requires : goal.read_darts-requires
read_darts-requires c = (
  (took_group (sym c.in-Some-read_group-2.is ∙ c.read_group-2.ensures)).within,
  omega (arith, zeros_length (words_of (limits_of c.args.limits)) _ c.requires),
)

pub returns-in_default-read_darts : goal.returns-in_default-read_darts
returns-in_default-read_darts c =
    raw_refused (no_darts (limits_of c.args.limits) (took_at_most 15 (sym c.in-Some.is ∙ c.read_at_most.ensures))
    (took_group (sym c.in-Some-read_group.is ∙ c.read_group.ensures))
    (took_group (sym c.in-Some-read_group-2.is ∙ c.read_group-2.ensures)) (omega arith)
    (sym c.in_default-read_darts.is ∙ c.read_darts.ensures.answer))

pub returns-then-past-file : goal.returns-then-past-file
returns-then-past-file c =
    raw_refused (left_over (limits_of c.args.limits) (took_at_most 15 (sym c.in-Some.is ∙ c.read_at_most.ensures))
    (took_group (sym c.in-Some-read_group.is ∙ c.read_group.ensures))
    (took_group (sym c.in-Some-read_group-2.is ∙ c.read_group-2.ensures)) (omega arith)
    (sym c.in-Some-read_darts.is ∙ c.read_darts.ensures.answer) c.if-past-file.true)

pub write-requires : goal.write-requires
write-requires c =
    omega (arith, c.read_darts.auto.block, zeros_length (words_of (limits_of c.args.limits)) _ c.requires)

pub returns : goal.returns
returns c =
    raw_served (limits_of c.args.limits) (took_at_most 15 (sym c.in-Some.is ∙ c.read_at_most.ensures))
    (took_group (sym c.in-Some-read_group.is ∙ c.read_group.ensures))
    (took_group (sym c.in-Some-read_group-2.is ∙ c.read_group-2.ensures)) (omega arith) _ c.requires
    (rw c.in-Some-read_darts.is at c.read_darts.ensures) (omega arith) c.write.ensures
