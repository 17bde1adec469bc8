-- Different files have different names. Assumes nothing.
use mathlib.Core.Path.{◌≡◌, refl, sym, ap, ◌∙◌}
use mathlib.Core.Bool.{Bool, true, false, true≢false, ◌&&◌}
use Prim.Native.Nat.{ℕ, ◌+◌, ◌/◌, ◌%◌, ◌<◌}
use native.Mathlib.Omega.{arith}
use lib.Dec.{eqb}
use borrow.Author.Tests.{eqb-true, eq-eqb, ltb-true}
use Rattle.model.specs.Lists.{same_list}
use Rattle.model.specs.Text.{bytes}
use Rattle.laws.proofs.Tests.{and_left, and_right, and_intro, same_truth}
use Rattle.commands.specs.declared.names.File.{File}
use Rattle.commands.specs.declared.names.File.TheVariants as file
use Rattle.commands.specs.Names.{block_name, name_of, same_name, is_basins}

-- the two digits of a number tell it
digits : ℕ → ℕ → Bool
digits a b = eqb (48 + a / 10 % 10) (48 + b / 10 % 10) && eqb (48 + a % 10) (48 + b % 10)

digits_tell : (a b : ℕ) → a < 16 → b < 16 → digits a b ≡ eqb a b
unfolding digits
digits_tell a b l h = same_truth (digits a b) (eqb a b) one both
  where
    tens : Bool
    tens = eqb (48 + a / 10 % 10) (48 + b / 10 % 10)

    ones : Bool
    ones = eqb (48 + a % 10) (48 + b % 10)

    one : digits a b ≡ true → eqb a b ≡ true
    one e =
        let t = eqb-true (48 + a / 10 % 10) (48 + b / 10 % 10) (and_left tens ones e) in
        let o = eqb-true (48 + a % 10) (48 + b % 10) (and_right tens ones e) in
        eq-eqb a b (omega arith)

    both : eqb a b ≡ true → digits a b ≡ true
    both e =
        let s = eqb-true a b e in
        and_intro (eq-eqb (48 + a / 10 % 10) (48 + b / 10 % 10) (ap (λ (n : ℕ). 48 + n / 10 % 10) s)) (eq-eqb (48 + a % 10) (48 + b % 10) (ap (λ (n : ℕ). 48 + n % 10) s))

tails_same : (x y : Bool) → (x && (y && true)) ≡ (x && y)
tails_same true true = refl
tails_same true false = refl
tails_same false y = refl

tails_differ : (x y : Bool) → (x && (y && false)) ≡ false
tails_differ true true = refl
tails_differ true false = refl
tails_differ false y = refl

-- ONE FILE, by kind and number
abbrev pub one_file : File → File → Bool
one_file (file.Block a) (file.Block b) = eqb a b
one_file (file.Block a) (file.NewBlock b) = false
one_file (file.Block a) file.Commit = false
one_file (file.Block a) file.NewCommit = false
one_file (file.NewBlock a) (file.Block b) = false
one_file (file.NewBlock a) (file.NewBlock b) = eqb a b
one_file (file.NewBlock a) file.Commit = false
one_file (file.NewBlock a) file.NewCommit = false
one_file file.Commit (file.Block b) = false
one_file file.Commit (file.NewBlock b) = false
one_file file.Commit file.Commit = true
one_file file.Commit file.NewCommit = false
one_file file.NewCommit (file.Block b) = false
one_file file.NewCommit (file.NewBlock b) = false
one_file file.NewCommit file.Commit = false
one_file file.NewCommit file.NewCommit = true

-- the names of a basin's files tell them
pub names_tell : (f g : File) → is_basins f ≡ true → is_basins g ≡ true → same_name f g ≡ one_file f g
unfolding same_name same_list name_of block_name bytes digits
names_tell (file.Block a) (file.Block b) l h = tails_same (eqb (48 + a / 10 % 10) (48 + b / 10 % 10)) (eqb (48 + a % 10) (48 + b % 10)) ∙ digits_tell a b (ltb-true a 16 l) (ltb-true b 16 h)
names_tell (file.Block a) (file.NewBlock b) l h = tails_differ (eqb (48 + a / 10 % 10) (48 + b / 10 % 10)) (eqb (48 + a % 10) (48 + b % 10))
names_tell (file.Block a) file.Commit l h = refl
names_tell (file.Block a) file.NewCommit l h = refl
names_tell (file.NewBlock a) (file.Block b) l h = tails_differ (eqb (48 + a / 10 % 10) (48 + b / 10 % 10)) (eqb (48 + a % 10) (48 + b % 10))
names_tell (file.NewBlock a) (file.NewBlock b) l h = tails_same (eqb (48 + a / 10 % 10) (48 + b / 10 % 10)) (eqb (48 + a % 10) (48 + b % 10)) ∙ digits_tell a b (ltb-true a 16 l) (ltb-true b 16 h)
names_tell (file.NewBlock a) file.Commit l h = refl
names_tell (file.NewBlock a) file.NewCommit l h = refl
names_tell file.Commit (file.Block b) l h = refl
names_tell file.Commit (file.NewBlock b) l h = refl
names_tell file.Commit file.Commit l h = refl
names_tell file.Commit file.NewCommit l h = refl
names_tell file.NewCommit (file.Block b) l h = refl
names_tell file.NewCommit (file.NewBlock b) l h = refl
names_tell file.NewCommit file.Commit l h = refl
names_tell file.NewCommit file.NewCommit l h = refl

pub one_file_is : (f g : File) → one_file f g ≡ true → f ≡ g
one_file_is (file.Block a) (file.Block b) e = ap file.Block (eqb-true a b e)
one_file_is (file.Block a) (file.NewBlock b) e = absurd (true≢false (sym e))
one_file_is (file.Block a) file.Commit e = absurd (true≢false (sym e))
one_file_is (file.Block a) file.NewCommit e = absurd (true≢false (sym e))
one_file_is (file.NewBlock a) (file.Block b) e = absurd (true≢false (sym e))
one_file_is (file.NewBlock a) (file.NewBlock b) e = ap file.NewBlock (eqb-true a b e)
one_file_is (file.NewBlock a) file.Commit e = absurd (true≢false (sym e))
one_file_is (file.NewBlock a) file.NewCommit e = absurd (true≢false (sym e))
one_file_is file.Commit (file.Block b) e = absurd (true≢false (sym e))
one_file_is file.Commit (file.NewBlock b) e = absurd (true≢false (sym e))
one_file_is file.Commit file.Commit e = refl
one_file_is file.Commit file.NewCommit e = absurd (true≢false (sym e))
one_file_is file.NewCommit (file.Block b) e = absurd (true≢false (sym e))
one_file_is file.NewCommit (file.NewBlock b) e = absurd (true≢false (sym e))
one_file_is file.NewCommit file.Commit e = absurd (true≢false (sym e))
one_file_is file.NewCommit file.NewCommit e = refl

pub one_file_self : (f : File) → one_file f f ≡ true
one_file_self (file.Block b) = eq-eqb b b refl
one_file_self (file.NewBlock b) = eq-eqb b b refl
one_file_self file.Commit = refl
one_file_self file.NewCommit = refl

-- DIFFERENT FILES HAVE DIFFERENT NAMES
