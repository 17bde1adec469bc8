-- `saving::prepare::prepare` meets its contract. Assumes nothing.
use mathlib.Core.Path.{sym}
use Rattle.saving.proofs.Prepares.{wrote, could_not, renames, removes, keeps, rests}
use Rattle.saving.proofs.prepare.prepare.Goals as goal

pub returns-in-Some : goal.returns-in-Some
returns-in-Some c =
    wrote c.in-Write.is (sym c.in-Some.is) c.put_contents.ensures c.name_of.ensures c.no_name.ensures

pub returns-in-None : goal.returns-in-None
returns-in-None c =
    could_not c.in-Write.is (sym c.in-None.is) c.put_contents.ensures c.no_name-in-None.ensures c.no_name-in-None-2.ensures

pub returns-in-Rename : goal.returns-in-Rename
returns-in-Rename c =
    renames c.in-Rename.is c.name_of-in-Rename.ensures c.name_of-in-Rename-2.ensures

pub returns-in-Remove : goal.returns-in-Remove
returns-in-Remove c =
    removes c.in-Remove.is c.name_of-in-Remove.ensures c.no_name-in-Remove.ensures

pub returns-in-Keep : goal.returns-in-Keep
returns-in-Keep c =
    keeps c.in-Keep.is c.no_name-in-Keep.ensures c.no_name-in-Keep-2.ensures

pub returns-in-Nothing : goal.returns-in-Nothing
returns-in-Nothing c =
    rests c.in-Nothing.is c.no_name-in-Nothing.ensures c.no_name-in-Nothing-2.ensures
