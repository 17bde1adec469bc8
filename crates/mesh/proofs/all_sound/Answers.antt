-- `mesh::all_sound` meets its contract. Assumes nothing.
use borrow.Author.Tests.{tests}
use Rattle.std.proofs.Common.{◌/◌, ◌∙◌, length, refl, rules, arith}
use Rattle.std.proofs.lemmas.Iterator.{YieldsList-from_range}
use Rattle.std.proofs.lemmas.Iterator.Search.{all_from_yields_List}
use Rattle.mesh.proofs.Parts.{sound_test, sound_is, range_all}
use Rattle.mesh.proofs.all_sound.Goals as goal

pub returns : goal.returns
returns c =
    let mesh = c.args.mesh.now in
    let k = length mesh / 32776 in
    let test = sound_test c.args.viewers mesh in
    all_from_yields_List test _ _ _ c.all.ensures.ran (YieldsList-from_range 0 k k refl (omega arith)) (λ x b q k. search (rules, tests))
    ∙ range_all test k ∙ sound_is _ _
