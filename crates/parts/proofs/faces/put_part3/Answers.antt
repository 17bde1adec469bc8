use Prim.Native.Nat.{◌+◌, ◌*◌}
use Rattle.parts.specs.Faces.{numbered_code}
use Rattle.parts.proofs.Writing.{face_within, over_face, faced_none, faced_more, faced_all}
use native.Mathlib.Omega.{arith}
use Rattle.parts.proofs.faces.put_part3.Goals as goal

pub loop-e-init : goal.loop-e-init
loop-e-init c =
    (faced_none _ _ _ _, faced_none _ _ _ _, omega arith)

pub size_at-n-requires : goal.size_at-n-requires
size_at-n-requires c =
    let h = c.requires.by_index.1.below c.loop-e.e (omega arith) in
    omega (arith, h, c.entry_index-i.ensures, c.requires.by_index.2)

pub fill-requires : goal.fill-requires
fill-requires c =
    let sizes = c.args.sizes.now in
    let indices = c.args.indices.now in
    let within = face_within sizes indices c.loop-e.e c.entry_index-i.ensures c.size_at-n.ensures c.requires.by_index.1 (omega arith) in
    omega (arith, within, c.loop-e.invariant.0.size, c.requires.by_index.3)

pub overflow_add-from-in-loop-e : goal.overflow_add-from-in-loop-e
overflow_add-from-in-loop-e c =
    let h = c.requires.c_in_bounds.3 c.loop-e.e (omega arith) in
    omega arith

pub overflow_mul-from-in-loop-e-2 : goal.overflow_mul-from-in-loop-e-2
overflow_mul-from-in-loop-e-2 c =
    let h = c.requires.c_in_bounds.3 c.loop-e.e (omega arith) in
    omega arith

pub count_up-requires : goal.count_up-requires
count_up-requires c =
    let sizes = c.args.sizes.now in
    let indices = c.args.indices.now in
    let within = face_within sizes indices c.loop-e.e c.entry_index-i.ensures c.size_at-n.ensures c.requires.by_index.1 (omega arith) in (
      omega (arith, within, c.loop-e.invariant.1.size, c.requires.by_index.4),
      (let h = c.requires.c_in_bounds.3 c.loop-e.e (omega arith) in omega (arith, h)),
    )

pub loop-e-preserved : goal.loop-e-preserved
loop-e-preserved c =
    let sizes = c.args.sizes.now in
    let indices = c.args.indices.now in
    let from = c.args.from in
    let numbers = c.args.numbers.now in (
      faced_more c.requires.by_index.1 c.loop-e.invariant.0 (omega arith)
          (over_face sizes indices c.loop-e.e c.entry_index-i.ensures c.size_at-n.ensures (λ k j. 2 + 4 * from) c.fill.ensures),
      faced_more c.requires.by_index.1 c.loop-e.invariant.1 (omega arith)
          (over_face sizes indices c.loop-e.e c.entry_index-i.ensures c.size_at-n.ensures (λ k. numbered_code from numbers c.loop-e.e) c.count_up.ensures),
      omega arith,
    )

pub shape_of-kinds : goal.shape_of-kinds
shape_of-kinds c =
    c.loop-e.invariant.0.size

pub shape_of-links : goal.shape_of-links
shape_of-links c =
    c.loop-e.invariant.1.size

pub returns : goal.returns
returns c =
    (faced_all c.loop-e.invariant.0 c.loop-e.invariant.2 (omega arith), faced_all c.loop-e.invariant.1 c.loop-e.invariant.2 (omega arith))
