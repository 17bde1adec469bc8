use Prim.Native.Nat.{◌+◌, ◌*◌}
use mathlib.Core.Path.{sym, subst}
use lib.ListN.{get_or}
use Rattle.parts.specs.Entries.{LabelsThere}
use Rattle.parts.specs.Faces.{code_at}
use Rattle.parts.proofs.Writing.{face_size_is, face_within, over_face, faced_none, faced_more, faced_all}
use native.Mathlib.Omega.{arith}
use Rattle.parts.proofs.faces.put_part4.Goals as goal

pub loop-e-init : goal.loop-e-init
loop-e-init c =
    (faced_none _ _ _ _, faced_none _ _ _ _, omega arith)

pub size_at-n-requires : goal.size_at-n-requires
size_at-n-requires c =
    let h = c.requires.by_index.1.below c.loop-e.e (omega arith) in
    omega (arith, h, c.entry_index-i.ensures, c.requires.by_index.2)

pub overflow_mul-others : goal.overflow_mul-others
overflow_mul-others c =
    let h = c.requires.c_in_bounds.3 c.loop-e.e (omega arith) in
    omega arith

pub overflow_add-others : goal.overflow_add-others
overflow_add-others c =
    let h = c.requires.c_in_bounds.3 c.loop-e.e (omega arith) in
    omega arith

pub fill-requires : goal.fill-requires
fill-requires c =
    let sizes = c.args.sizes.now in
    let indices = c.args.indices.now in
    let within = face_within sizes indices c.loop-e.e c.entry_index-i.ensures c.size_at-n.ensures c.requires.by_index.1 (omega arith) in
    omega (arith, within, c.loop-e.invariant.0.size, c.requires.by_index.3)

pub put_codes-requires : goal.put_codes-requires
put_codes-requires c =
    let sizes = c.args.sizes.now in
    let indices = c.args.indices.now in
    let message = c.args.message.now in
    let places = c.args.places.now in
    let within = face_within sizes indices c.loop-e.e c.entry_index-i.ensures c.size_at-n.ensures c.requires.by_index.1 (omega arith) in (
      omega (arith, within, c.loop-e.invariant.1.size, c.requires.by_index.4),
      subst (LabelsThere message (get_or places c.loop-e.e 0))
          (sym (face_size_is sizes indices c.loop-e.e c.entry_index-i.ensures c.size_at-n.ensures))
          (c.requires.c_in_bounds.4 c.loop-e.e (omega arith)),
    )

pub loop-e-preserved : goal.loop-e-preserved
loop-e-preserved c =
    let sizes = c.args.sizes.now in
    let indices = c.args.indices.now in
    let message = c.args.message.now in
    let others = c.args.others.now in
    let places = c.args.places.now in (
      faced_more c.requires.by_index.1 c.loop-e.invariant.0 (omega arith)
          (over_face sizes indices c.loop-e.e c.entry_index-i.ensures c.size_at-n.ensures (λ k j. 2 + 4 * get_or others c.loop-e.e 0) c.fill.ensures),
      faced_more c.requires.by_index.1 c.loop-e.invariant.1 (omega arith)
          (over_face sizes indices c.loop-e.e c.entry_index-i.ensures c.size_at-n.ensures (code_at message (get_or places c.loop-e.e 0)) c.put_codes.ensures),
      omega arith,
    )

pub shape_of-kinds : goal.shape_of-kinds
shape_of-kinds c =
    c.loop-e.invariant.0.size

pub shape_of-links : goal.shape_of-links
shape_of-links c =
    c.loop-e.invariant.1.size

pub returns : goal.returns
returns c =
    (faced_all c.loop-e.invariant.0 c.loop-e.invariant.2 (omega arith), faced_all c.loop-e.invariant.1 c.loop-e.invariant.2 (omega arith))
