-- `checkmesh::mesh_asked` meets its contract: each answer is that of the first question that is answered no.
-- Assumes nothing.
use mathlib.Core.Path.{◌≡◌, refl, sym, subst, ◌∙◌}
use mathlib.Core.Bool.{true}
use mathlib.Core.List.{List}
use Prim.Native.Nat.{ℕ}
use Rattle.model.specs.Calls.{mesh_lent, scratch_entries}
use Rattle.answers.proofs.Questions.{said_yes}
use Rattle.mesh.proofs.Among.{parts_hold}
use Rattle.checkmesh.proofs.Chain.{size_no, image_no, numbers_no, serials_no, labels_no, points_no, makers_no, all_yes}
use Rattle.checkmesh.proofs.mesh_asked.Goals as goal

pub returns-then-not-mesh_lent : goal.returns-then-not-mesh_lent
returns-then-not-mesh_lent c =
    (size_no c.args.viewers c.args.mesh.now c.args.scratch.now c.mesh_lent.ensures c.if-not-mesh_lent.true, refl)

pub returns-then-not-all_sound : goal.returns-then-not-all_sound
returns-then-not-all_sound c = (
  image_no c.args.viewers c.args.mesh.now c.args.scratch.now (said_yes c.mesh_lent.ensures c.if-not-mesh_lent.false) c.all_sound.ensures
      c.if-not-all_sound.true,
  refl,
)

pub returns-then-not-blocks_right : goal.returns-then-not-blocks_right
returns-then-not-blocks_right c =
    let mesh = c.args.mesh.now in
    let scratch = c.args.scratch.now in (
      numbers_no c.args.viewers mesh scratch (said_yes c.mesh_lent.ensures c.if-not-mesh_lent.false)
          (said_yes c.all_sound.ensures c.if-not-all_sound.false) c.blocks_right.ensures c.if-not-blocks_right.true,
      refl,
    )

pub serials_distinct-requires : goal.serials_distinct-requires
serials_distinct-requires c = (
  said_yes c.mesh_lent.ensures c.if-not-mesh_lent.false,
  parts_hold _ c.args.mesh.now (said_yes c.all_sound.ensures c.if-not-all_sound.false),
  said_yes c.blocks_right.ensures c.if-not-blocks_right.false,
)

pub returns-then-not-serials_distinct : goal.returns-then-not-serials_distinct
returns-then-not-serials_distinct c =
    let mesh = c.args.mesh.now in
    let scratch = c.args.scratch.now in (
      serials_no c.args.viewers mesh scratch (said_yes c.mesh_lent.ensures c.if-not-mesh_lent.false)
          (said_yes c.all_sound.ensures c.if-not-all_sound.false)
          (said_yes c.blocks_right.ensures c.if-not-blocks_right.false) c.serials_distinct.ensures.0 c.if-not-serials_distinct.true,
      c.serials_distinct.ensures.1,
    )

pub paired-p-requires : goal.paired-p-requires
paired-p-requires c =
    let mesh = c.args.mesh.now in (
      subst (λ (x : List ℕ). mesh_lent scratch_entries mesh x ≡ true) (sym c.serials_distinct.ensures.1)
          (said_yes c.mesh_lent.ensures c.if-not-mesh_lent.false),
      record
          { images = parts_hold _ mesh (said_yes c.all_sound.ensures c.if-not-all_sound.false); numbered = said_yes c.blocks_right.ensures c.if-not-blocks_right.false },
    )

pub returns-in-Unpaired : goal.returns-in-Unpaired
returns-in-Unpaired c =
    let mesh = c.args.mesh.now in
    let scratch = c.args.scratch.now in (
      labels_no c.args.viewers mesh scratch
          (record {
            lent = said_yes c.mesh_lent.ensures c.if-not-mesh_lent.false;
            images = said_yes c.all_sound.ensures c.if-not-all_sound.false;
            numbered = said_yes c.blocks_right.ensures c.if-not-blocks_right.false;
            serials = said_yes c.serials_distinct.ensures.0 c.if-not-serials_distinct.false;
          }) c.paired-p.ensures.0 c.in-Unpaired.is,
      c.paired-p.ensures.1 ∙ c.serials_distinct.ensures.1,
    )

pub returns-in-Apart : goal.returns-in-Apart
returns-in-Apart c =
    let mesh = c.args.mesh.now in
    let scratch = c.args.scratch.now in (
      points_no c.args.viewers mesh scratch
          (record {
            lent = said_yes c.mesh_lent.ensures c.if-not-mesh_lent.false;
            images = said_yes c.all_sound.ensures c.if-not-all_sound.false;
            numbered = said_yes c.blocks_right.ensures c.if-not-blocks_right.false;
            serials = said_yes c.serials_distinct.ensures.0 c.if-not-serials_distinct.false;
          }) c.paired-p.ensures.0 c.in-Apart.is,
      c.paired-p.ensures.1 ∙ c.serials_distinct.ensures.1,
    )

pub makers_right-requires : goal.makers_right-requires
makers_right-requires c =
    parts_hold _ c.args.mesh.now (said_yes c.all_sound.ensures c.if-not-all_sound.false)

pub returns-then-not-makers_right : goal.returns-then-not-makers_right
returns-then-not-makers_right c =
    let mesh = c.args.mesh.now in
    let scratch = c.args.scratch.now in (
      makers_no c.args.viewers mesh scratch
          (record {
            lent = said_yes c.mesh_lent.ensures c.if-not-mesh_lent.false;
            images = said_yes c.all_sound.ensures c.if-not-all_sound.false;
            numbered = said_yes c.blocks_right.ensures c.if-not-blocks_right.false;
            serials = said_yes c.serials_distinct.ensures.0 c.if-not-serials_distinct.false;
          }) c.paired-p.ensures.0 c.in-Right.is c.makers_right.ensures c.if-not-makers_right.true,
      c.paired-p.ensures.1 ∙ c.serials_distinct.ensures.1,
    )

pub returns-in-Right : goal.returns-in-Right
returns-in-Right c =
    let mesh = c.args.mesh.now in
    let scratch = c.args.scratch.now in (
      all_yes c.args.viewers mesh scratch
          (record {
            lent = said_yes c.mesh_lent.ensures c.if-not-mesh_lent.false;
            images = said_yes c.all_sound.ensures c.if-not-all_sound.false;
            numbered = said_yes c.blocks_right.ensures c.if-not-blocks_right.false;
            serials = said_yes c.serials_distinct.ensures.0 c.if-not-serials_distinct.false;
          }) c.paired-p.ensures.0 c.in-Right.is c.makers_right.ensures c.if-not-makers_right.false,
      c.paired-p.ensures.1 ∙ c.serials_distinct.ensures.1,
    )
