-- The questions of a round beside those of an undivided request: one is refused where the other is, and by the same number unless the sender
-- may send more darts than the destination may take. Assumes nothing.
use mathlib.Core.Path.{◌≡◌, refl, sym, ◌∙◌, ap}
use mathlib.Core.Logic.{◌≢◌}
use mathlib.Core.Bool.{Bool, true, false, true≢false}
use mathlib.Core.List.{List, [], ◌∷◌, ◌++◌}
use Prim.Native.Nat.{ℕ, ◌<◌, ◌≤◌}
use native.Mathlib.Omega.{arith}
use lib.Dec.{leb, ltb, eqb}
use lib.ListN.{length}
use borrow.Author.Tests.{eqb-true, eqb-false, leb-true, le-leb, lt-leb, lt-ltb, leb-false}
use Rattle.model.specs.Lists.{all, first_no, Check}
use Rattle.model.specs.Values.{Limits}
use Rattle.model.specs.Sound.{volume_limit}
use Rattle.model.specs.Runs.{Request}
use Rattle.model.specs.UndividedRun.{State, cell, leaving_checks, has_room, request_checks, round_checks}
use Rattle.model.specs.Demands.{too_large_there}
use Rattle.laws.proofs.Tests.{by_cases, and_intro, yes_then, no_here, first_no_append, first_no_stays}

-- a yes among questions is passed over
yes_among : (ps : List Check) (n : ℕ) (a : Bool) (qs : List Check) → a ≡ true → first_no (ps ++ (n, a) ∷ qs) ≡ first_no (ps ++ qs)
yes_among [] n a qs t = yes_then n a qs t
yes_among (p ∷ ps) n a qs t = by_cases p.1
    (λ y. yes_then p.0 p.1 _ y ∙ yes_among ps n a qs t ∙ sym (yes_then p.0 p.1 _ y))
    (λ y. no_here p.0 p.1 _ y ∙ sym (no_here p.0 p.1 _ y))

-- a no among questions refuses
no_among : (ps : List Check) (n : ℕ) (a : Bool) (qs : List Check) → all (λ q. ltb 0 q.0) ps ≡ true → n ≢ 0 → a ≡ false → first_no (ps ++ (n, a) ∷ qs) ≢ 0
no_among ps n a qs h z f e = by_cases (eqb (first_no ps) 0)
    (λ y. z (sym (no_here n a qs f) ∙ sym (first_no_append ps ((n, a) ∷ qs) (eqb-true (first_no ps) 0 y) h) ∙ e))
    (λ y. let q = eqb-false (first_no ps) 0 y in q (sym (first_no_stays ps ((n, a) ∷ qs) q) ∙ e))

module _ (lims : ℕ → Limits) (u : State) (r : Request) where
  abbrev size : ℕ
  size = length (cell u r.serial)

  abbrev sends : ℕ
  sends = (lims r.from).volume_darts

  abbrev takes : ℕ
  takes = (lims r.to).volume_darts

  -- 9 to 14, as the sender's limits have them
  abbrev pub first_six : List Check
  first_six = leaving_checks sends u r

  abbrev pub last_two : List Check
  last_two = (29, leb size takes) ∷ (21, has_room lims u r) ∷ []

  pub round_split : round_checks lims u r ≡ first_six ++ last_two
  unfolding round_checks
  round_split = refl

  request_split : request_checks lims u r ≡ leaving_checks (volume_limit lims r.from r.to) u r ++ (21, has_room lims u r) ∷ []
  unfolding request_checks
  request_split = refl

  -- with the same answer to 11 the questions are the same
  same_leaving : leb size (volume_limit lims r.from r.to) ≡ leb size sends → leaving_checks (volume_limit lims r.from r.to) u r ≡ first_six
  same_leaving e = rw e

  -- the destination may take what is sent
  taken_alike : size ≤ takes → first_no (round_checks lims u r) ≡ first_no (request_checks lims u r)
  taken_alike h =
      let same : leb size (volume_limit lims r.from r.to) ≡ leb size sends = by_cases (leb size sends)
      (λ t. le-leb size _ (let a = leb-true size sends t in omega arith) ∙ sym t)
      (λ t. lt-leb size _ (let a = leb-false size sends t in omega arith) ∙ sym t) in
      ap first_no round_split ∙ yes_among first_six 29 (leb size takes) ((21, has_room lims u r) ∷ []) (le-leb size takes h)
      ∙ ap (λ (l : List Check). first_no (l ++ (21, has_room lims u r) ∷ [])) (sym (same_leaving same)) ∙ ap first_no (sym request_split)

  -- the sender may not send it
  unsent_alike : sends < size → first_no (round_checks lims u r) ≡ first_no (request_checks lims u r)
  unsent_alike h =
      let no : leb size sends ≡ false = lt-leb size sends h in
      let same : leb size (volume_limit lims r.from r.to) ≡ leb size sends = lt-leb size _ (omega arith) ∙ sym no in
      let refused = no_among ((9, _) ∷ (10, _) ∷ []) 11 (leb size sends) _ refl (λ z. omega arith) no in
      ap first_no round_split ∙ first_no_stays first_six last_two refused
      ∙ sym (first_no_stays first_six ((21, has_room lims u r) ∷ []) refused)
      ∙ ap (λ (l : List Check). first_no (l ++ (21, has_room lims u r) ∷ [])) (sym (same_leaving same)) ∙ ap first_no (sym request_split)

  pub numbers_alike : too_large_there lims u r ≡ false → first_no (round_checks lims u r) ≡ first_no (request_checks lims u r)
  numbers_alike e = by_cases (leb size takes)
      (λ t. taken_alike (leb-true size takes t))
      (λ t. by_cases (leb size sends)
      (λ y. absurd (let a = leb-false size takes t in true≢false (sym (and_intro y (lt-ltb takes size (omega arith))) ∙ e)))
      (λ y. unsent_alike (let a = leb-false size sends y in omega arith)))

  -- where the destination may not take it both are refused
  pub both_refused : takes < size → (first_no (round_checks lims u r) ≢ 0) × (first_no (request_checks lims u r) ≢ 0)
  both_refused h = (
    (λ e. no_among first_six 29 (leb size takes) _ refl (λ z. omega arith) (lt-leb size takes h) (ap first_no (sym round_split) ∙ e)),
    (λ e. no_among ((9, _) ∷ (10, _) ∷ []) 11 (leb size (volume_limit lims r.from r.to)) _ refl (λ z. omega arith)
        (lt-leb size _ (omega arith)) (ap first_no (sym request_split) ∙ e)),
  )

  -- refused or not never differs
  pub refused_alike : (first_no (round_checks lims u r) ≢ 0 → first_no (request_checks lims u r) ≢ 0)
      × (first_no (round_checks lims u r) ≡ 0 → first_no (request_checks lims u r) ≡ 0)
  refused_alike = by_cases (leb size takes)
      (λ t. let e = taken_alike (leb-true size takes t) in ((λ n z. n (e ∙ z)), (λ z. sym e ∙ z)))
      (λ t. let b = both_refused (let a = leb-false size takes t in omega arith) in ((λ n. b.1), (λ z. absurd (b.0 z))))
