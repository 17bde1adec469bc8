use mathlib.Core.Path.{refl, sym, ◌∙◌}
use lib.ListN.{length-set}
use Rattle.parts.specs.Entries.{pair, first_number, index}
use Rattle.parts.proofs.Reading.{reading_start, reading_more, reading_bad, reading_end, no_first, no_index, took_pair}
use native.Mathlib.Omega.{arith}
use Rattle.parts.proofs.entries.read_pairs.Goals as goal

pub loop-i-init : goal.loop-i-init
loop-i-init c =
    let part = c.args.part in
    (reading_start (pair part) (first_number part) (index part) _ _ _ _ c.requires.0 c.requires.1 c.requires.2, refl, refl)

pub shape_of-firsts-in_default : goal.shape_of-firsts-in_default
shape_of-firsts-in_default c =
    c.loop-i.invariant.1

pub shape_of-indices-in_default : goal.shape_of-indices-in_default
shape_of-indices-in_default c =
    c.loop-i.invariant.2

pub returns-in_default : goal.returns-in_default
returns-in_default c =
    let part = c.args.part in
    reading_bad (pair part) (first_number part) (index part) c.loop-i.invariant.0 c.loop-i-test.true
    (no_first part _ _ (sym c.in_default.is ∙ c.read_first.ensures))

pub shape_of-firsts-in_default-read_group : goal.shape_of-firsts-in_default-read_group
shape_of-firsts-in_default-read_group c =
    c.loop-i.invariant.1

pub shape_of-indices-in_default-read_group : goal.shape_of-indices-in_default-read_group
shape_of-indices-in_default-read_group c =
    c.loop-i.invariant.2

pub returns-in_default-read_group : goal.returns-in_default-read_group
returns-in_default-read_group c =
    let part = c.args.part in
    reading_bad (pair part) (first_number part) (index part) c.loop-i.invariant.0 c.loop-i-test.true
    (no_index part _ _ _ _ (sym c.in-Some.is ∙ c.read_first.ensures) (sym c.in_default-read_group.is ∙ c.read_group.ensures))

pub offset_bounds-firsts-i : goal.offset_bounds-firsts-i
offset_bounds-firsts-i c =
    omega arith

pub bounds-firsts-i : goal.bounds-firsts-i
bounds-firsts-i c =
    omega arith

pub offset_bounds-indices-i : goal.offset_bounds-indices-i
offset_bounds-indices-i c =
    omega arith

pub bounds-indices-i : goal.bounds-indices-i
bounds-indices-i c =
    omega arith

pub loop-i-preserved : goal.loop-i-preserved
loop-i-preserved c =
    let part = c.args.part in
    let there = took_pair part (sym c.in-Some.is ∙ c.read_first.ensures) (sym c.in-Some-read_group.is ∙ c.read_group.ensures) in (
      reading_more (pair part) (first_number part) (index part) c.loop-i.invariant.0 c.loop-i-test.true there.took there.first_is there.index_is,
      length-set c.loop-i.firsts _ _ ∙ c.loop-i.invariant.1,
      length-set c.loop-i.indices _ _ ∙ c.loop-i.invariant.2,
    )

pub shape_of-firsts : goal.shape_of-firsts
shape_of-firsts c =
    c.loop-i.invariant.1

pub shape_of-indices : goal.shape_of-indices
shape_of-indices c =
    c.loop-i.invariant.2

pub returns : goal.returns
returns c =
    let part = c.args.part in
    reading_end (pair part) (first_number part) (index part) c.loop-i.invariant.0 c.loop-i-test.false
