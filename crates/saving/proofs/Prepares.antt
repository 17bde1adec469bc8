-- What a step hands to the disk, kind by kind. Assumes nothing.
use Rattle.std.specs.Prelude.{None, Option as Optional, Some}
use mathlib.Core.Path.{◌≡◌, refl, ◌∙◌}
use mathlib.Core.List.{List}
use mathlib.Core.Option.{Option, none, some}
use Prim.Native.Nat.{ℕ}
use native.Mathlib.Omega.{arith}
use lib.ListN.{length}
use Rattle.commands.specs.declared.names.File.{File}
use Rattle.commands.specs.declared.names.File.TheVariants as files
use Rattle.commands.specs.declared.names.Name.{Name}
use Rattle.commands.specs.Names.{file_named, nameless}
use Rattle.saving.specs.declared.plan.Step.{Step}
use Rattle.saving.specs.declared.plan.Step.TheVariants as step
use Rattle.saving.specs.declared.prepare.Act.TheVariants as act
use Rattle.saving.specs.declared.prepare.Deed.{Deed}
use Rattle.saving.specs.Prepare.{contents, fitting, deed_of, made_of, StepPut, Prepared}
use Rattle.saving.proofs.Contents.{put_none}

-- a file in its place and the commit are never written
pub never_block : (m room : List ℕ) (b : ℕ) → StepPut (contents m (files.Block b)) room room None
unfolding contents
never_block m room b = put_none refl

pub never_commit : (m room : List ℕ) → StepPut (contents m files.Commit) room room None
unfolding contents
never_commit m room = put_none refl

-- a deed with bytes, or without
bytes_deed : (f : File) (n : ℕ) (x : Option (List ℕ)) → Some n ≡ made_of x → ◌≡◌ {A = Deed} (record { act = act.Write n; name = file_named f; other = nameless }) (deed_of (step.Write f) x)
bytes_deed f n none e = let z : ◌≡◌ {A = ℕ} 0 1 = cc in absurd (omega arith)
bytes_deed f n (some bytes) e = let s : n ≡ length bytes = cc in rw s

no_deed : (f : File) (x : Option (List ℕ)) → None ≡ made_of x → ◌≡◌ {A = Deed} (record { act = act.Cannot; name = nameless; other = nameless }) (deed_of (step.Write f) x)
no_deed f none e = refl
no_deed f (some bytes) e = let z : ◌≡◌ {A = ℕ} 0 1 = cc in absurd (omega arith)

module _ {m before after : List ℕ} {s : Step} {one other : Name} where
  pub wrote : {f : File} → s ≡ step.Write f → {n : ℕ} {r : Optional ℕ} → Some n ≡ r → StepPut (contents m f) before after r → one ≡ file_named f → other ≡ nameless
      → Prepared m s before (record { act = act.Write n; name = one; other = other }) after
  wrote {f} es {n} e p eo et = rw (es, eo, et) (record { deed = bytes_deed f n (fitting before (contents m f)) (e ∙ p.answer); left = p.left })

  pub could_not : {f : File} → s ≡ step.Write f → {r : Optional ℕ} → None ≡ r → StepPut (contents m f) before after r → one ≡ nameless → other ≡ nameless
      → Prepared m s before (record { act = act.Cannot; name = one; other = other }) after
  could_not {f} es e p eo et = rw (es, eo, et) (record { deed = no_deed f (fitting before (contents m f)) (e ∙ p.answer); left = p.left })

module _ {m room : List ℕ} {s : Step} {one other : Name} where
  pub renames : {f g : File} → s ≡ step.Rename f g → one ≡ file_named f → other ≡ file_named g → Prepared m s room (record { act = act.Rename; name = one; other = other }) room
  renames es eo et = rw (es, eo, et) (record { deed = refl; left = refl })

  pub removes : {f : File} → s ≡ step.Remove f → one ≡ file_named f → other ≡ nameless → Prepared m s room (record { act = act.Remove; name = one; other = other }) room
  removes es eo et = rw (es, eo, et) (record { deed = refl; left = refl })

  pub keeps : s ≡ step.Keep → one ≡ nameless → other ≡ nameless → Prepared m s room (record { act = act.Keep; name = one; other = other }) room
  keeps es eo et = rw (es, eo, et) (record { deed = refl; left = refl })

  pub rests : s ≡ step.Nothing → one ≡ nameless → other ≡ nameless → Prepared m s room (record { act = act.Nothing; name = one; other = other }) room
  rests es eo et = rw (es, eo, et) (record { deed = refl; left = refl })
