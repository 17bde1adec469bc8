-- `writepages::page::page_count` meets its contract: one page at the least.
-- Assumes nothing.
use Rattle.model.specs.Pages as pages
use native.Mathlib.Omega.{arith}
use Rattle.writepages.proofs.page.page_count.Goals as goal

pub returns-then-pages-eq0 : goal.returns-then-pages-eq0
unfolding pages.page_count
returns-then-pages-eq0 c =
    omega arith

pub returns : goal.returns
unfolding pages.page_count
returns c =
    omega arith
