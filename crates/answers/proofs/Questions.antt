-- Questions in a row: a chain of yes, ended by a no or by the last yes, gives what the model's `asked` gives on the list of checks.
-- A call's proof is such a chain: `gives _ _ _ _ (ask_yes e (ask_yes f (ask_no refl g refl)))`. Assumes nothing.
use mathlib.Core.Path.{◌≡◌, refl, sym, ◌∙◌, subst}
use mathlib.Core.Bool.{Bool, true, false, cond, not}
use mathlib.Core.List.{List, [], ◌∷◌, ◌++◌}
use Prim.Native.Nat.{ℕ}
use native.Mathlib.Omega.{arith}
use lib.Dec.{eqb}
use borrow.Author.Tests.{not-true, eq-eqb, eqb-true}
use Rattle.model.specs.Lists.{all, Check, first_no}
use Rattle.model.specs.Values.{Limits}
use Rattle.model.specs.Calls.{Answer, served, refused, Result, asked}
use Rattle.laws.proofs.Tests.{and_left, and_right}
use Rattle.answers.specs.Answers.{Gives, answered}

-- the questions of a call were put, and gave this
pub record Asks {A : Type 0} (qs : List Check) (before : List ℕ) (value : A) (after : List ℕ) (given : Answer A) (lent : List ℕ) : Type 0 where
  pub result : Gives (asked qs before value after) given lent

pub gives : {A : Type 0} (qs : List Check) (before : List ℕ) (value : A) (after : List ℕ) {given : Answer A} {lent : List ℕ}
    → Asks qs before value after given lent → Gives (asked qs before value after) given lent
gives qs before value after a = a.result

-- a call by limits with another name
pub by_limits : {A : Type 0} (call : Limits → Result A) {lim other : Limits} {given : Answer A} {lent : List ℕ} → lim ≡ other → Gives (call lim) given lent → Gives (call other) given lent
by_limits call {given = given} {lent = lent} e = subst (λ (l : Limits). Gives (call l) given lent) e

-- questions alone
pub alone : (qs : List Check) {given : Answer (Unit {0})} → Asks qs [] tt [] given [] → given ≡ answered qs
unfolding answered
alone qs a = a.result.answer

-- ONE QUESTION
module _ {A : Type 0} {before after lent : List ℕ} {value : A} where
  -- its no gives its number, and what was lent stays
  pub ask_no : {n : ℕ} {t : Bool} {qs : List Check} → eqb n 0 ≡ false → t ≡ false → lent ≡ before → Asks ((n, t) ∷ qs) before value after (refused n) lent
  unfolding asked first_no
  ask_no p e l = record { result = record { answer = rw (e, p); left = rw (e, p) l } }

  -- its yes leads to the later ones
  pub ask_yes : {n : ℕ} {t : Bool} {qs : List Check} {given : Answer A} → t ≡ true → Asks qs before value after given lent → Asks ((n, t) ∷ qs) before value after given lent
  unfolding asked first_no
  ask_yes e a = record { result = record { answer = rw e a.result.answer; left = rw e a.result.left } }

  -- after the last yes
  pub ask_end : lent ≡ after → Asks [] before value after (served value) lent
  unfolding asked first_no
  ask_end l = record { result = record { answer = refl; left = l } }

-- what a callee said of a test
pub said_no : {r t : Bool} → r ≡ t → r ≡ false → t ≡ false
said_no e h = sym e ∙ h

pub said_yes : {r t : Bool} → r ≡ t → r ≡ true → t ≡ true
said_yes e h = sym e ∙ h

false_true : ◌≡◌ {A = Bool} false true → ⊥
false_true e = let z : ◌≡◌ {A = ℕ} 0 1 = cc in omega arith

-- QUESTIONS THAT A CALLEE PUT, before others
-- no question has the number 0
abbrev pub numbered : List Check → Bool
numbered qs = all (λ q. not (eqb q.0 0)) qs

-- what a first no of this number gives
abbrev outcome : {A : Type 0} → Bool → ℕ → List ℕ → A → List ℕ → Result A
outcome {A} b n before value after = cond {A = Result A} b (record { answer = served value; lent = after }) (record { answer = refused n; lent = before })

pub served_none : (qs : List Check) → served (tt {0}) ≡ answered qs → first_no qs ≡ 0
unfolding answered asked
served_none qs h = go (eqb (first_no qs) 0) refl h
  where
    go : (b : Bool) → eqb (first_no qs) 0 ≡ b → served (tt {0}) ≡ (outcome b (first_no qs) [] (tt {0}) []).answer → first_no qs ≡ 0
    go true e q = eqb-true (first_no qs) 0 e
    go false e q = let z : ◌≡◌ {A = ℕ} 0 1 = cc in absurd (omega arith)

refused_first : (qs : List Check) (n : ℕ) → refused n ≡ answered qs → (first_no qs ≡ n) × (eqb n 0 ≡ false)
unfolding answered asked
refused_first qs n h = go (eqb (first_no qs) 0) refl h
  where
    go : (b : Bool) → eqb (first_no qs) 0 ≡ b → refused n ≡ (outcome b (first_no qs) [] (tt {0}) []).answer → (first_no qs ≡ n) × (eqb n 0 ≡ false)
    go true e q = let z : ◌≡◌ {A = ℕ} 0 1 = cc in absurd (omega arith)
    go false e q = let z : first_no qs ≡ n = cc in (z, rw z at e)

after_yes : (qs rs : List Check) → numbered qs ≡ true → first_no qs ≡ 0 → first_no (qs ++ rs) ≡ first_no rs
unfolding first_no
after_yes [] rs p h = refl
after_yes ((n, true) ∷ qs) rs p h = after_yes qs rs (and_right (not (eqb n 0)) (numbered qs) p) h
after_yes ((n, false) ∷ qs) rs p h = let z = not-true (eqb n 0) (and_left (not (eqb n 0)) (numbered qs) p) in let y = eq-eqb n 0 h in absurd (false_true (sym z ∙ y))

after_no : (qs rs : List Check) (n : ℕ) → eqb n 0 ≡ false → first_no qs ≡ n → first_no (qs ++ rs) ≡ n
unfolding first_no
after_no [] rs n p h = let y = eq-eqb n 0 (sym h) in absurd (false_true (sym p ∙ y))
after_no ((m, true) ∷ qs) rs n p h = after_no qs rs n p h
after_no ((m, false) ∷ qs) rs n p h = h

module _ {A : Type 0} {before after lent : List ℕ} {value : A} where
  -- each of them was a yes
  pub ask_all : (qs rs : List Check) {given : Answer A} → numbered qs ≡ true → served tt ≡ answered qs → Asks rs before value after given lent
      → Asks (qs ++ rs) before value after given lent
  unfolding asked
  ask_all qs rs p h a = let e = after_yes qs rs p (served_none qs h) in record { result = record { answer = rw e a.result.answer; left = rw e a.result.left } }

  -- one was a no
  pub ask_first : (qs rs : List Check) {n : ℕ} → refused n ≡ answered qs → lent ≡ before → Asks (qs ++ rs) before value after (refused n) lent
  unfolding asked
  ask_first qs rs {n} h l =
      let r = refused_first qs n h in
      let e = after_no qs rs n r.1 r.0 in
      record { result = record { answer = rw (e, r.1); left = rw (e, r.1) l } }
