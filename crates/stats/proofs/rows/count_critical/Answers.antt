use mathlib.Core.Path.{sym, ap, ◌∙◌}
use Prim.Native.Nat.{ℕ}
use Rattle.stats.specs.Counting.{cell_word}
use Rattle.stats.proofs.CountLaws.{word_ready, add_ready, word_there, faces_start, faces_few, face_below, faces_skip, faces_more, faces_all}
use native.Mathlib.Omega.{arith}
use Rattle.stats.proofs.rows.count_critical.Goals as goal

pub loop-f-init : goal.loop-f-init
loop-f-init c =
    faces_start _ _ _ _ _

pub start_at-p-requires : goal.start_at-p-requires
start_at-p-requires c =
    let s = c.requires.count_started.0 in
    (omega (arith, s.few), omega (arith, s.starts_there), s.index_below _ c.loop-f-test.true, s.index_there _ c.loop-f-test.true)

pub is_critical-requires : goal.is_critical-requires
is_critical-requires c =
    let below = face_below c.requires.count_started.0 c.loop-f.invariant c.loop-f-test.true c.start_at-p.ensures in
    omega (arith, c.requires.linked.0.size)

pub loop-f-preserved-then-not-is_critical : goal.loop-f-preserved-then-not-is_critical
loop-f-preserved-then-not-is_critical c =
    faces_skip c.requires.count_started.0 c.loop-f.invariant c.loop-f-test.true c.start_at-p.ensures
    (sym c.is_critical.ensures ∙ c.if-not-is_critical.true)

pub border_word-requires : goal.border_word-requires
border_word-requires c =
    let below = face_below c.requires.count_started.0 c.loop-f.invariant c.loop-f-test.true c.start_at-p.ensures in
    omega (arith, c.requires.linked.0.size)

pub word_at-requires : goal.word_at-requires
word_at-requires c =
    let below = face_below c.requires.count_started.0 c.loop-f.invariant c.loop-f-test.true c.start_at-p.ensures in
    let other = c.requires.count_started.1 _ below (sym c.is_critical.ensures ∙ c.if-not-is_critical.false) in
    word_ready c.requires.linked.1 c.requires.linked.0.few below _ (omega (arith, c.border_word.ensures))

pub add_one-requires : goal.add_one-requires
add_one-requires c =
    let below = face_below c.requires.count_started.0 c.loop-f.invariant c.loop-f-test.true c.start_at-p.ensures in
    let other = c.requires.count_started.1 _ below (sym c.is_critical.ensures ∙ c.if-not-is_critical.false) in
    let few = faces_few c.requires.count_started.0 c.loop-f.invariant in
    add_ready c.requires.linked.1 c.requires.linked.0.few below c.loop-f.invariant.counted few c.border_word.result _
    (omega (arith, c.border_word.ensures)) c.word_at.ensures

pub loop-f-preserved : goal.loop-f-preserved
loop-f-preserved c =
    let below = face_below c.requires.count_started.0 c.loop-f.invariant c.loop-f-test.true c.start_at-p.ensures in
    let yes-critical = sym c.is_critical.ensures ∙ c.if-not-is_critical.false in
    let other = c.requires.count_started.1 _ below yes-critical in
    let there = word_there c.requires.linked.1 c.requires.linked.0.few below c.border_word.result _ (omega (arith, c.border_word.ensures))
    c.word_at.ensures in
    faces_more c.requires.count_started.0 c.loop-f.invariant c.loop-f-test.true c.start_at-p.ensures yes-critical
    (c.word_at.ensures ∙ ap (λ (j : ℕ). cell_word c.args.numbers.now j c.start_at-p.result.0) c.border_word.ensures) there c.add_one.ensures

pub shape_of-rows : goal.shape_of-rows
shape_of-rows c =
    c.loop-f.invariant.counted.len

pub returns : goal.returns
returns c =
    faces_all c.requires.count_started.0 c.loop-f.invariant c.loop-f-test.false
