-- `mesh::numbered` meets its contract. Assumes nothing.
use borrow.Author.Tests.{tests}
use Rattle.std.proofs.Common.{◌∙◌, refl, rules, arith}
use Rattle.std.proofs.lemmas.Iterator.{YieldsList-from_range}
use Rattle.std.proofs.lemmas.Iterator.Search.{all_from_yields_List}
use Rattle.mesh.specs.Parts.{number_test}
use Rattle.mesh.proofs.Parts.{range_all}
use Rattle.mesh.proofs.numbered.Goals as goal

pub returns : goal.returns
returns c =
    let k = c.args.k in
    let test = number_test c.args.mesh.now in
    all_from_yields_List test _ _ _ c.all.ensures.ran (YieldsList-from_range 0 k k refl (omega arith)) (λ x b q k. search (rules, tests))
    ∙ range_all test k
