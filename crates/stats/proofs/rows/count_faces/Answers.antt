use mathlib.Core.Path.{refl, subst}
use mathlib.Core.List.{List}
use Prim.Native.Nat.{ℕ}
use Rattle.stats.specs.Counting.{cell_word, CountTold, face_starts}
use Rattle.stats.proofs.CountLaws.{keep_every, word_ready, add_ready, word_there, faces_start, faces_few, face_below, faces_more, faces_all}
use native.Mathlib.Omega.{arith}
use Rattle.stats.proofs.rows.count_faces.Goals as goal

pub loop-f-init : goal.loop-f-init
loop-f-init c =
    faces_start _ _ _ _ _

pub start_at-p-requires : goal.start_at-p-requires
start_at-p-requires c = (
  omega (arith, c.requires.count_started.few),
  omega (arith, c.requires.count_started.starts_there),
  c.requires.count_started.index_below _ c.loop-f-test.true,
  c.requires.count_started.index_there _ c.loop-f-test.true,
)

pub word_at-requires : goal.word_at-requires
word_at-requires c =
    word_ready c.requires.linked.1 c.requires.linked.0.few
    (face_below c.requires.count_started c.loop-f.invariant c.loop-f-test.true c.start_at-p.ensures) 2 (omega arith)

pub add_one-requires : goal.add_one-requires
add_one-requires c =
    let below = face_below c.requires.count_started c.loop-f.invariant c.loop-f-test.true c.start_at-p.ensures in
    add_ready c.requires.linked.1 c.requires.linked.0.few below c.loop-f.invariant.counted (faces_few c.requires.count_started c.loop-f.invariant) 2 _
    (omega arith) c.word_at.ensures

pub loop-f-preserved : goal.loop-f-preserved
loop-f-preserved c =
    let below = face_below c.requires.count_started c.loop-f.invariant c.loop-f-test.true c.start_at-p.ensures in
    let there = word_there c.requires.linked.1 c.requires.linked.0.few below 2 _ (omega arith) c.word_at.ensures in
    faces_more c.requires.count_started c.loop-f.invariant c.loop-f-test.true c.start_at-p.ensures refl c.word_at.ensures there c.add_one.ensures

pub shape_of-rows : goal.shape_of-rows
shape_of-rows c =
    c.loop-f.invariant.counted.len

pub returns : goal.returns
returns c =
    subst (λ (l : List ℕ). CountTold (cell_word c.args.numbers.now 2) l c.args.rows.now c.loop-f.rows)
    (keep_every (face_starts c.args.block.now)) (faces_all c.requires.count_started c.loop-f.invariant c.loop-f-test.false)
