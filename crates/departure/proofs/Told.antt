-- What an answer of `leaves`, of `volume_leaves` or of one question tells, where a caller has looked which it is. Assumes nothing.
use Rattle.std.specs.Prelude.{Err, None, Ok, Option, Result, Some}
use mathlib.Core.Path.{◌≡◌, subst}
use mathlib.Core.Bool.{false}
use mathlib.Core.List.{List}
use Prim.Native.Nat.{ℕ, ◌+◌, ◌≤◌, ◌<◌, ◌^◌}
use lib.Dec.{ltb}
use lib.ListN.{length, get_or}
use Rattle.model.specs.Image.{block_in, count_in}
use Rattle.model.specs.Departure.{departure_checks}
use Rattle.model.specs.Calls.{refused}
use Rattle.answers.specs.Answers.{answered, question}
use Rattle.answers.specs.declared.Refusal.{Refusal}
use Rattle.cells.specs.Places.{Clear, places_in, volume_of}
use Rattle.departure.specs.Asked.{Departs, Forgotten, Leaves, VolumeDeparts, VolumeLeaves, volume_checks}
use Rattle.departure.specs.Questions.{VolumeWalked, WalkedWithin, PairsAsked, Unpaired, PairsOnce, CounterFits, sewn_away}
use Rattle.departure.specs.declared.Counts.{Counts}

module _ (most : ℕ) (m : List ℕ) (j s : ℕ) (marks order starts numbers firsts : List ℕ) {r : Result Counts Refusal} (h : Leaves most m j s r marks order starts numbers firsts) where
  pub departs_told : {c : Counts} → r ≡ Ok c → Departs most m j s c marks order starts numbers firsts
  departs_told e = subst (λ (x : Result Counts Refusal). Leaves most m j s x marks order starts numbers firsts) e h

  pub refused_told : {q : Refusal} → r ≡ Err q → refused (question q) ≡ answered (departure_checks most (block_in m) j s)
  refused_told e = subst (λ (x : Result Counts Refusal). Leaves most m j s x marks order starts numbers firsts) e h

-- of `volume_leaves`
module _ (most : ℕ) (m : List ℕ) (p : ℕ) (marks order starts numbers firsts : List ℕ) {r : Result Counts Refusal} (h : VolumeLeaves most m p r marks order starts numbers firsts) where
  pub volume_departs_told : {c : Counts} → r ≡ Ok c → VolumeDeparts most m p c marks order starts numbers firsts
  unfolding VolumeLeaves
  volume_departs_told e = subst (λ (x : Result Counts Refusal). VolumeLeaves most m p x marks order starts numbers firsts) e h

  pub volume_refused_told : {q : Refusal} → r ≡ Err q → refused (question q) ≡ answered (volume_checks most m p)
  unfolding VolumeLeaves
  volume_refused_told e = subst (λ (x : Result Counts Refusal). VolumeLeaves most m p x marks order starts numbers firsts) e h

-- and a refusal that nothing is marked
pub forgotten_told : (marks seen : List ℕ) {r : Result Counts Refusal} {q : Refusal} → Forgotten r marks seen → r ≡ Err q → Clear marks × Clear seen
forgotten_told marks seen h e = subst (λ (x : Result Counts Refusal). Forgotten x marks seen) e h

-- WHAT THE QUESTIONS TELL, where a caller has looked at the answer
module _ (most : ℕ) (m : List ℕ) (p : ℕ) (marks out : List ℕ) {r : Option ℕ} (h : WalkedWithin most m p r marks out) where
  pub walked_told : {t : ℕ} → r ≡ Some t → VolumeWalked m p t marks out × (t ≤ most)
  walked_told e = subst (λ (x : Option ℕ). WalkedWithin most m p x marks out) e h

  pub large_told : r ≡ None → (most < length (places_in (count_in m) (volume_of m p))) × Clear marks
  large_told e = subst (λ (x : Option ℕ). WalkedWithin most m p x marks out) e h

module _ (m out : List ℕ) (darts : ℕ) {r : Option ℕ} {numbers firsts : List ℕ} (h : PairsOnce m out darts r numbers firsts) where
  pub paired_told : {vs : ℕ} → r ≡ Some vs → PairsAsked m out darts numbers firsts vs
  paired_told e = subst (λ (x : Option ℕ). PairsOnce m out darts x numbers firsts) e h

  pub unpaired_told : r ≡ None → Unpaired m out darts numbers firsts
  unpaired_told e = subst (λ (x : Option ℕ). PairsOnce m out darts x numbers firsts) e h

module _ (m marks : List ℕ) {r : Option ℕ} (h : CounterFits m marks r) where
  pub counter_told : {k : ℕ} → r ≡ Some k → (k ≡ sewn_away m marks) × (get_or m 1 0 + k < 2 ^ 32)
  counter_told e = subst (λ (x : Option ℕ). CounterFits m marks x) e h

  pub full_told : r ≡ None → ltb (get_or m 1 0 + sewn_away m marks) (2 ^ 32) ≡ false
  full_told e = subst (λ (x : Option ℕ). CounterFits m marks x) e h
