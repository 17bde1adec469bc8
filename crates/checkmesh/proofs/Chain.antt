-- The questions of a whole mesh in a row: what each no answers, and what the last yes says. Assumes nothing.
use mathlib.Core.Path.{◌≡◌, refl, sym, ◌∙◌}
use mathlib.Core.Bool.{Bool, true, false, cond}
use mathlib.Core.List.{List, [], map}
use Prim.Native.Nat.{ℕ}
use native.Mathlib.Omega.{arith}
use lib.Dec.{eqb}
use Rattle.model.specs.Lists.{all, Check, first_no}
use Rattle.model.specs.Values.{limits_in}
use Rattle.model.specs.Sound.{blocks_right, serials_distinct, labels_paired, points_across, makers_right, mesh_checks}
use Rattle.model.specs.Image.{block_in}
use Rattle.model.specs.Calls.{Answer, served, refused, Result, asked, memories, mesh_lent, scratch_entries, whole_mesh_checks, check_mesh}
use Rattle.laws.proofs.Tests.{yes_first}
use Rattle.answers.specs.Answers.{Gives, answered}
use Rattle.answers.proofs.Questions.{alone, ask_no, ask_yes, ask_end, said_no, said_yes, served_none}
use Rattle.mesh.specs.Parts.{sound_memory}
use Rattle.pairing.specs.Told.{pairing_of}
use Rattle.pairing.specs.declared.Pairing.{Pairing}
use Rattle.pairing.specs.declared.Pairing.TheVariants.{Right, Unpaired, Apart}
use Rattle.checkmesh.specs.Right as mesh

-- WHAT 25 AND 26 SAID
unpaired_says : (x y : Bool) → pairing_of x y ≡ Unpaired → x ≡ false
unpaired_says false y e = refl
unpaired_says true true e = let z : ◌≡◌ {A = ℕ} 0 1 = cc in absurd (omega arith)
unpaired_says true false e = let z : ◌≡◌ {A = ℕ} 0 1 = cc in absurd (omega arith)

apart_says : (x y : Bool) → pairing_of x y ≡ Apart → (x ≡ true) × (y ≡ false)
apart_says true false e = (refl, refl)
apart_says true true e = let z : ◌≡◌ {A = ℕ} 0 1 = cc in absurd (omega arith)
apart_says false y e = let z : ◌≡◌ {A = ℕ} 0 1 = cc in absurd (omega arith)

right_says : (x y : Bool) → pairing_of x y ≡ Right → (x ≡ true) × (y ≡ true)
right_says true true e = (refl, refl)
right_says true false e = let z : ◌≡◌ {A = ℕ} 0 1 = cc in absurd (omega arith)
right_says false y e = let z : ◌≡◌ {A = ℕ} 0 1 = cc in absurd (omega arith)

module _ (viewers : ℕ) (m s : List ℕ) where
  abbrev checks : List Check
  checks = whole_mesh_checks (limits_in viewers) m s

  -- 1, 2, 23, 24
  pub size_no : {r : Bool} → r ≡ mesh_lent scratch_entries m s → r ≡ false → refused 1 ≡ answered checks
  unfolding whole_mesh_checks
  size_no e f = alone _ (ask_no refl (said_no e f) refl)

  pub image_no : mesh_lent scratch_entries m s ≡ true → {r : Bool} → r ≡ all (sound_memory viewers) (memories m) → r ≡ false → refused 2 ≡ answered checks
  unfolding whole_mesh_checks
  image_no a e f = alone _ (ask_yes a (ask_no refl (said_no e f) refl))

  pub numbers_no : mesh_lent scratch_entries m s ≡ true → all (sound_memory viewers) (memories m) ≡ true → {r : Bool}
      → r ≡ blocks_right (map block_in (memories m)) → r ≡ false → refused 23 ≡ answered checks
  unfolding whole_mesh_checks mesh_checks
  numbers_no a b e f = alone _ (ask_yes a (ask_yes b (ask_no refl (said_no e f) refl)))

  pub serials_no : mesh_lent scratch_entries m s ≡ true → all (sound_memory viewers) (memories m) ≡ true
      → blocks_right (map block_in (memories m)) ≡ true → {r : Bool} → r ≡ serials_distinct (map block_in (memories m))
      → r ≡ false
      → refused 24 ≡ answered checks
  unfolding whole_mesh_checks mesh_checks
  serials_no a b c e f = alone _ (ask_yes a (ask_yes b (ask_yes c (ask_no refl (said_no e f) refl))))

  -- 25, 26
  module _ (w : mesh.Begun viewers m s) {p : Pairing} (told : p ≡ pairing_of (labels_paired (map block_in (memories m))) (points_across (map block_in (memories m)))) where
    pub labels_no : p ≡ Unpaired → refused 25 ≡ answered checks
    unfolding whole_mesh_checks mesh_checks
    labels_no e = alone _ (ask_yes w.lent (ask_yes w.images (ask_yes w.numbered (ask_yes w.serials (ask_no refl (unpaired_says _ _ (sym told ∙ e)) refl)))))

    pub points_no : p ≡ Apart → refused 26 ≡ answered checks
    unfolding whole_mesh_checks mesh_checks
    points_no e =
        let k = apart_says _ _ (sym told ∙ e) in
        alone _ (ask_yes w.lent (ask_yes w.images (ask_yes w.numbered (ask_yes w.serials (ask_yes k.0 (ask_no refl k.1 refl))))))

    -- 27
    module _ (e : p ≡ Right) {r : Bool} (f : r ≡ makers_right (map block_in (memories m))) where
      pub makers_no : r ≡ false → refused 27 ≡ answered checks
      unfolding whole_mesh_checks mesh_checks
      makers_no g =
          let k = right_says _ _ (sym told ∙ e) in
          alone _ (ask_yes w.lent (ask_yes w.images (ask_yes w.numbered (ask_yes w.serials (ask_yes k.0 (ask_yes k.1 (ask_no refl (said_no f g) refl)))))))

      pub all_yes : r ≡ true → served tt ≡ answered checks
      unfolding whole_mesh_checks mesh_checks
      all_yes g =
          let k = right_says _ _ (sym told ∙ e) in
          alone _ (ask_yes w.lent (ask_yes w.images (ask_yes w.numbered (ask_yes w.serials (ask_yes k.0 (ask_yes k.1 (ask_yes (said_yes f g) (ask_end refl))))))))

-- A SERVED CALL
abbrev outcome : Bool → ℕ → List ℕ → Result (Unit {0})
outcome b n s = cond {A = Result (Unit {0})} b (record { answer = served tt; lent = s }) (record { answer = refused n; lent = s })

-- every question was answered yes
pub right : (viewers : ℕ) (m s : List ℕ) → served (tt {0}) ≡ answered (whole_mesh_checks (limits_in viewers) m s) → mesh.Right viewers m s
unfolding whole_mesh_checks mesh_checks
right viewers m s e =
    let bs = map block_in (memories m) in
    let q1 = yes_first 1 (mesh_lent scratch_entries m s) _ (λ z. omega arith) (served_none _ e) in
    let q2 = yes_first 2 (all (sound_memory viewers) (memories m)) _ (λ z. omega arith) q1.1 in
    let q23 = yes_first 23 (blocks_right bs) _ (λ z. omega arith) q2.1 in
    let q24 = yes_first 24 (serials_distinct bs) _ (λ z. omega arith) q23.1 in
    let q25 = yes_first 25 (labels_paired bs) _ (λ z. omega arith) q24.1 in
    let q26 = yes_first 26 (points_across bs) _ (λ z. omega arith) q25.1 in
    let q27 = yes_first 27 (makers_right bs) _ (λ z. omega arith) q26.1 in
    record { begun = record { lent = q1.0; images = q2.0; numbered = q23.0; serials = q24.0 }; labels = q25.0; points = q26.0; makers = q27.0 }

-- THE CALL gives the answer of the questions, and leaves the scratch
same_outcome : (b : Bool) (n : ℕ) (s : List ℕ) → ((outcome b n []).answer ≡ (outcome b n s).answer) × (s ≡ (outcome b n s).lent)
same_outcome true n s = (refl, refl)
same_outcome false n s = (refl, refl)

pub gives_mesh : (viewers : ℕ) (m s : List ℕ) {x : Answer (Unit {0})} {after : List ℕ} → x ≡ answered (whole_mesh_checks (limits_in viewers) m s) → after ≡ s → Gives (check_mesh (limits_in viewers) m s) x after
unfolding check_mesh answered asked
gives_mesh viewers m s e f =
    let o = same_outcome (eqb (first_no (whole_mesh_checks (limits_in viewers) m s)) 0) (first_no (whole_mesh_checks (limits_in viewers) m s)) s in
    record { answer = e ∙ o.0; left = f ∙ o.1 }
