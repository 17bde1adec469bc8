-- Whether the files of a block are those that were committed. Assumes nothing.
use Rattle.std.specs.Prelude.{Bool, false, cond, ◌&&◌, eqb, None, Option, Some}
use Rattle.saving.specs.declared.commit.Entry.{Entry}
use Rattle.saving.specs.declared.look.Look.{Look}
use Rattle.saving.specs.declared.look.Look.TheVariants as look

unfoldable pub same_entry : Entry → Entry → Bool
same_entry a b = eqb a.size b.size && eqb a.digest b.digest

-- a new file is the committed one; without a new file the named one is
unfoldable pub look_of : Entry → Option Entry → Option Entry → Look
look_of e (Some n) named = cond (same_entry n e) look.Place look.Wrong
look_of e None (Some o) = cond (same_entry o e) look.Placed look.Wrong
look_of e None None = look.Wrong

-- IN CODE
abbrev pub look_found : Option Entry → Entry → Bool
look_found (Some f) e = same_entry f e
look_found None e = false
