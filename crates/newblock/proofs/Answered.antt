-- The answers to questions 4 to 8, and to 5 to 7 alone, of memory in serials: they are put to its image. Assumes nothing.
use Rattle.std.proofs.Common.{◌≡◌, ℕ, Bool, true, false, cond, eqb, List, [], ◌∷◌, length, refl, ap, ◌∙◌, arith}
use Rattle.laws.proofs.Tests.{by_cases}
use Rattle.model.specs.Lists.{Check, first_no}
use Rattle.model.specs.Values.{Block, widest}
use Rattle.model.specs.Sound.{coordinates_finite, links_right, thirds_right, labels_right, points_agree, ranges_right, block_checks}
use Rattle.model.specs.Image.{image, block_in}
use Rattle.model.specs.Calls.{served, refused, Result, asked}
use Rattle.answers.specs.Answers.{Gives, answered}
use Rattle.answers.proofs.Questions.{gives, alone, ask_no, ask_yes, ask_end, ask_all, ask_first}
use Rattle.newblock.specs.Serials.{raw_block, InSerials}
use Rattle.newblock.specs.Checks.{link_checks, storing_block, storing_links}
use Rattle.newblock.proofs.Unheld.{finite_same, links_same, thirds_same, block_same}

-- questions with the same first no have the same answer
answered_first : (ps qs : List Check) → first_no ps ≡ first_no qs → answered ps ≡ answered qs
unfolding answered asked
answered_first ps qs e = ap (λ (n : ℕ). (cond {A = Result (Unit {0})} (eqb n 0) (record { answer = served tt; lent = [] }) (record { answer = refused n; lent = [] })).answer) e

-- 5 and 6, each under the yes before, and what is asked after a yes to both
links_then : (l t l' t' : Bool) (qs qs' : List Check) → l' ≡ l → (l ≡ true → t' ≡ t) → (l ≡ true → t ≡ true → qs' ≡ qs)
    → first_no ((5, l') ∷ (6, t') ∷ qs') ≡ first_no ((5, l) ∷ (6, t) ∷ qs)
unfolding first_no
links_then l t l' t' qs qs' el et eq = rw el (by_cases l
    (λ hl. rw (et hl) (by_cases t (λ ht. rw (eq hl ht) refl) (λ ht. rw ht refl)))
    (λ hl. rw hl refl))

four_then : (f f' : Bool) (qs qs' : List Check) → f' ≡ f → first_no qs' ≡ first_no qs → first_no ((4, f') ∷ qs') ≡ first_no ((4, f) ∷ qs)
unfolding first_no
four_then f f' qs qs' ef eq = rw (ef, eq) refl

module _ (size : ℕ) (b : Block) (r : ranges_right widest b ≡ true) where
  abbrev back : Block
  back = block_in (image size b)

  pub link_answers_same : answered (link_checks (block_in (image size b))) ≡ answered (link_checks b)
  link_answers_same = answered_first (link_checks back) (link_checks b) (unfold link_checks in
      (links_then (links_right b.darts) (thirds_right b.darts) (links_right back.darts) (thirds_right back.darts) _ _
      (links_same size b r) (thirds_same size b r) (λ l t. ap (λ (c : Block). (7, labels_right c) ∷ []) (block_same size b r l t))))

  pub answers_same : answered (block_checks (block_in (image size b))) ≡ answered (block_checks b)
  answers_same = answered_first (block_checks back) (block_checks b) (unfold block_checks in
      (four_then (coordinates_finite b.darts) (coordinates_finite back.darts) _ _ (finite_same size b r)
      (links_then (links_right b.darts) (thirds_right b.darts) (links_right back.darts) (thirds_right back.darts) _ _
      (links_same size b r) (thirds_same size b r)
      (λ l t. ap (λ (c : Block). (7, labels_right c) ∷ (8, points_agree c.darts) ∷ []) (block_same size b r l t)))))

-- a yes to 5, 6 and 7
told : (l t a : Bool) → served (tt {0}) ≡ answered ((5, l) ∷ (6, t) ∷ (7, a) ∷ []) → (l ≡ true) × (t ≡ true)
unfolding answered asked first_no
told true true a q = (refl, refl)
told true false a q = let z : ◌≡◌ {A = ℕ} 0 1 = cc in absurd (omega arith)
told false t a q = let z : ◌≡◌ {A = ℕ} 0 1 = cc in absurd (omega arith)

module _ (b : Block) where
  pub links_told : served (tt {0}) ≡ answered (link_checks b) → (links_right b.darts ≡ true) × (thirds_right b.darts ≡ true)
  unfolding link_checks
  links_told q = told (links_right b.darts) (thirds_right b.darts) (labels_right b) q

  -- 4 to 8, with 5 to 7 by a callee
  pub coordinates_no : coordinates_finite b.darts ≡ false → refused 4 ≡ answered (block_checks b)
  unfolding block_checks
  coordinates_no e = alone _ (ask_no refl e refl)

  module _ (four : coordinates_finite b.darts ≡ true) where
    pub links_no : {n : ℕ} → refused n ≡ answered (link_checks b) → refused n ≡ answered (block_checks b)
    unfolding block_checks link_checks
    links_no q = alone _ (ask_yes four (ask_first (link_checks b) ((8, points_agree b.darts) ∷ []) q refl))

    module _ (linked : served (tt {0}) ≡ answered (link_checks b)) where
      pub points_no : points_agree b.darts ≡ false → refused 8 ≡ answered (block_checks b)
      unfolding block_checks link_checks
      points_no e = alone _ (ask_yes four (ask_all (link_checks b) ((8, points_agree b.darts) ∷ []) refl linked (ask_no refl e refl)))

      pub all_yes : points_agree b.darts ≡ true → served tt ≡ answered (block_checks b)
      unfolding block_checks link_checks
      all_yes e = alone _ (ask_yes four (ask_all (link_checks b) ((8, points_agree b.darts) ∷ []) refl linked (ask_yes e (ask_end refl))))

-- WHAT IS PUT INTO THE LENT MEMORY
module _ {m : List ℕ} (w : InSerials m) {x : List ℕ} (is_image : x ≡ image (length m) (raw_block m)) (before : List ℕ) where
  same_block : answered (block_checks (block_in x)) ≡ answered (block_checks (raw_block m))
  same_block = ap (λ (y : List ℕ). answered (block_checks (block_in y))) is_image ∙ answers_same (length m) (raw_block m) w.ranges

  same_links : answered (link_checks (block_in x)) ≡ answered (link_checks (raw_block m))
  same_links = ap (λ (y : List ℕ). answered (link_checks (block_in y))) is_image ∙ link_answers_same (length m) (raw_block m) w.ranges

  pub put_refused : {n : ℕ} → refused n ≡ answered (block_checks (block_in x)) → Gives (storing_block m before) (refused n) before
  unfolding block_checks
  put_refused q = gives _ _ _ _ (ask_first (block_checks (raw_block m)) [] (q ∙ same_block) refl)

  pub put_served : served tt ≡ answered (block_checks (block_in x)) → {y : List ℕ} → y ≡ x → Gives (storing_block m before) (served tt) y
  unfolding block_checks
  put_served q f = gives _ _ _ _ (ask_all (block_checks (raw_block m)) [] refl (q ∙ same_block) (ask_end (f ∙ is_image)))

  pub links_refused : {n : ℕ} → refused n ≡ answered (link_checks (block_in x)) → Gives (storing_links m before) (refused n) before
  unfolding link_checks
  links_refused q = gives _ _ _ _ (ask_first (link_checks (raw_block m)) [] (q ∙ same_links) refl)

  pub links_served : served tt ≡ answered (link_checks (block_in x)) → {y : List ℕ} → y ≡ x → Gives (storing_links m before) (served tt) y
  unfolding link_checks
  links_served q f = gives _ _ _ _ (ask_all (link_checks (raw_block m)) [] refl (q ∙ same_links) (ask_end (f ∙ is_image)))
