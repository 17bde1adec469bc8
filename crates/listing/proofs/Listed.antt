-- What the listing program prints for a file, by what reading the file into zeros gives. Assumes nothing.
use mathlib.Core.Path.{◌≡◌, sym, ◌∙◌, subst}
use mathlib.Core.Bool.{true}
use mathlib.Core.List.{List, ◌++◌}
use Prim.Native.Nat.{ℕ, ◌<◌, ◌≤◌}
use native.Mathlib.Omega.{arith}
use lib.ListN.{length, replicate}
use borrow.Author.Tests.{lt-ltb, le-ltb}
use Rattle.model.specs.Values.{Limits, room}
use Rattle.model.specs.Image.{words_of, block_in, is_image}
use Rattle.model.specs.Calls.{served, refused, Result, read_file}
use Rattle.model.specs.Demands.{Bytes}
use Rattle.model.specs.Text.{bytes, decimal}
use Rattle.model.specs.Listing.{listing, listing_of, listed}
use Rattle.theory.proofs.ImageLaws.{is_image_of}
use Rattle.theory.proofs.DemandTwo.{read_as}
use Rattle.answers.specs.Answers.{Gives}

pub of_served : (r : Result (Unit {0})) {lent : List ℕ} → Gives r (served tt) lent → listing_of r ≡ listing (block_in lent)
of_served r g = rw (← g.answer, ← g.left)

pub of_refused : (r : Result (Unit {0})) {n : ℕ} {lent : List ℕ} → Gives r (refused n) lent → listing_of r ≡ bytes "refused " ++ decimal n ++ bytes "\n"
of_refused r g = rw (← g.answer)

module _ (lim : Limits) (file : List ℕ) where
  pub listed_long : 65536 < length file → listed lim file ≡ bytes "too long\n"
  unfolding listed
  listed_long h = rw (lt-ltb 65536 (length file) h)

  pub listed_short : length file ≤ 65536 → listed lim file ≡ listing_of (read_file lim file (replicate (words_of lim) 0))
  unfolding listed
  listed_short h = rw (le-ltb 65536 (length file) h)

  -- what is read may be listed
  pub served_image : (m : List ℕ) {lent : List ℕ} → lim.block_darts ≤ room → Bytes file → Gives (read_file lim file m) (served tt) lent → is_image lim lent ≡ true
  served_image m {lent} fits h g =
      let r = read_as lim fits file m h (sym g.answer) in
      subst (λ (l : List ℕ). is_image lim l ≡ true) (sym (g.left ∙ r.stored)) (is_image_of lim (words_of lim) r.block (omega arith) r.sound)
