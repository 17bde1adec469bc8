-- What is printed for a file, case by case. Assumes nothing.
use Rattle.std.specs.Prelude.{Err, Ok}
use mathlib.Core.Path.{◌≡◌, subst}
use mathlib.Core.List.{List, ◌++◌}
use Prim.Native.Nat.{ℕ}
use Rattle.model.specs.Calls.{served, refused, Result}
use Rattle.model.specs.Text.{bytes, decimal}
use Rattle.answers.specs.Answers.{Gives, OrRefused, answer_of, question}
use Rattle.answers.specs.declared.Refusal.{Refusal}
use Rattle.listing.specs.Printed.{Printed}

pub printed_as : {t u before after : List ℕ} {n : ℕ} → t ≡ u → Printed u before after n → Printed t before after n
printed_as {before = before} {after = after} {n = n} e p = rw e p

pub printed_number : {t before after : List ℕ} {m k n : ℕ} → k ≡ m → t ≡ bytes "refused " ++ decimal m ++ bytes "\n"
    → Printed (bytes "refused " ++ decimal k ++ bytes "\n") before after n → Printed t before after n
printed_number e f p = rw f (rw e at p)

pub gives_served : {R : Result (Unit {0})} {a : OrRefused (Unit {0})} {l : List ℕ} → a ≡ (Ok tt) → Gives R (answer_of a) l → Gives R (served tt) l
gives_served {R} {a} {l} e g = subst (λ (b : OrRefused (Unit {0})). Gives R (answer_of b) l) e g

pub gives_refused : {R : Result (Unit {0})} {a : OrRefused (Unit {0})} {r : Refusal} {l : List ℕ} → a ≡ Err r → Gives R (answer_of a) l → Gives R (refused (question r)) l
gives_refused {R} {a} {r} {l} e g = subst (λ (b : OrRefused (Unit {0})). Gives R (answer_of b) l) e g
