-- The faces along which a volume is cut off, as places: sewn as a whole, to darts that stay. Assumes nothing.
use mathlib.Core.Path.{◌≡◌, sym, ◌∙◌, ap}
use mathlib.Core.Bool.{Bool, true, false, true≢false}
use mathlib.Core.List.{List, map}
use Prim.Native.Nat.{ℕ, ◌%◌, ◌≤◌, ◌<◌}
use native.Mathlib.Omega.{arith}
use lib.Dec.{eqb}
use lib.ListN.{length, get_or}
use borrow.Author.Tests.{eqb-true, eqb-false, eq-eqb, ne_eqb}
use Rattle.model.specs.Lists.{any, concat, distinct, ascending}
use Rattle.model.specs.Cells.{cycle, start_of}
use Rattle.model.specs.Image.{count_in, column, is_sewn_word}
use Rattle.columns.proofs.Thirds.{kind_one}
use Rattle.laws.proofs.Tests.{by_cases, and_intro}
use Rattle.laws.proofs.Members.{In, any_in, keep_le, keep_ascending, distinct_map}
use Rattle.laws.proofs.Orbits.{in_cycle}
use Rattle.laws.proofs.Faces.{face_sym, along_face}
use Rattle.laws.proofs.KeptFaces.{kept_distinct, kept_in, in_kept}
use Rattle.laws.proofs.Tables.{length_tab, tab_ascending}
use Rattle.columns.proofs.Links.{linked}
use Rattle.columns.proofs.ThirdLinks.{Sewn, same_kind, sewn_says}
use Rattle.columns.proofs.Question.{Passed}
use Rattle.cells.specs.Places.{Marked, marked, sewn_in, sewn_out, volume_of}
use Rattle.cells.proofs.Reached.{places, in_places, places_below, within_places}
use Rattle.cells.proofs.Paths.{round, apart_places, few_places}
use Rattle.cells.proofs.StartLaws.{cycle_start}
use Rattle.cells.proofs.FaceLaws.{marked_in, in_marked}
use Rattle.cells.proofs.FaceSerials.{closed_next, closed_opposite}
use Rattle.cells.proofs.Sited.{Sited}
use Rattle.release.specs.LetGo.{let_go}

module _ {m : List ℕ} (site : Sited m) (pass : Passed m) (p : ℕ) (h : p < count_in m) {marks : List ℕ} (mk : Marked (volume_of m p) marks) where
  abbrev n : ℕ
  n = count_in m

  abbrev v : List ℕ
  v = marked n marks

  pub sewn : (q : ℕ) → q < n → column m 3 q ≡ 1 → Sewn m n q
  sewn q k e = sewn_says m n q (pass.thirds q k) (ap is_sewn_word e)

  -- WHAT STAYS is closed under next and opposite, too
  pub next_stays : (q : ℕ) → q < n → (get_or marks q 0 ≡ 1 → ⊥) → get_or marks (column m 1 q) 0 ≡ 1 → ⊥
  next_stays q k out e =
      let l = site.linked in
      let stays = within_places l.next_within in
      let inj = apart_places l.next_apart in
      let few = few_places l.few in
      let after = in_cycle (column m 1) (places n) stays inj 4096 q 1 few (in_places n q k) in
      out
      (along_face (column m 1) (places n) stays inj few (λ y. get_or marks y 0 ≡ 1) (λ y i. closed_next l h mk y (places_below n y i)) (column m 1 q) q (in_places n (column m 1 q) (l.next_within q k)) e
      (face_sym (column m 1) (places n) stays inj few q (column m 1 q) (in_places n q k) after))

  pub opposite_stays : (q : ℕ) → q < n → (get_or marks q 0 ≡ 1 → ⊥) → get_or marks (column m 2 q) 0 ≡ 1 → ⊥
  opposite_stays q k out e =
      out
      (sym (ap (λ (x : ℕ). get_or marks x 0) (linked m n q (pass.links q k)).back)
      ∙ closed_opposite site.linked h mk (column m 2 q) (site.linked.opposite_within q k) e)

  -- NO DART IS SEWN WITHIN THE VOLUME
  module _ (none : any (sewn_in m marks) v ≡ false) where
    pub away : (q : ℕ) → q < n → get_or marks q 0 ≡ 1 → column m 3 q ≡ 1 → get_or marks (column m 4 q) 0 ≡ 1 → ⊥
    away q k a e b = true≢false (sym (any_in (sewn_in m marks) v q (in_marked n marks q k a) (and_intro (eq-eqb (column m 3 q % 4) 1 (omega arith)) (eq-eqb (get_or marks (column m 4 q) 0) 1 b))) ∙ none)

    -- so a marked dart that is sewn is sewn to another volume
    pub test_is : (q : ℕ) → q < n → get_or marks q 0 ≡ 1 → sewn_out m marks q ≡ eqb (column m 3 q) 1
    test_is q k a = by_cases (eqb (column m 3 q) 1)
        (λ e. let one = eqb-true (column m 3 q) 1 e in rw (e, eq-eqb (column m 3 q % 4) 1 (omega arith), ne_eqb (get_or marks (column m 4 q) 0) 1 (away q k a one)))
        (λ e. rw (e, ne_eqb (column m 3 q % 4) 1 (λ z. eqb-false (column m 3 q) 1 e (kind_one (pass.range.kinds q k) (eq-eqb (column m 3 q % 4) 1 z)))))

    stays : (x : ℕ) → In x v → In (column m 1 x) v
    stays x k = let r = marked_in n marks x k in in_marked n marks (column m 1 x) (site.linked.next_within x r.0) (closed_next site.linked h mk x r.0 r.1)

    inj : (x y : ℕ) → In x v → In y v → column m 1 x ≡ column m 1 y → x ≡ y
    inj x y a b e = site.linked.next_apart x y (marked_in n marks x a).0 (marked_in n marks y b).0 e

    small : length v ≤ 4096
    unfolding marked
    small = omega (arith, keep_le (λ q. eqb (get_or marks q 0) 1) (places n), length_tab (λ (q : ℕ). q) n, site.linked.few)

    order : ascending v ≡ true
    unfolding marked
    order = keep_ascending (λ q. eqb (get_or marks q 0) 1) (places n) (tab_ascending (λ q. q) n (λ i j l k. l))

    abbrev test : List ℕ → Bool
    test f = sewn_out m marks (start_of f)

    test_cycle : (x : ℕ) → In x v → test (cycle (column m 1) x) ≡ eqb (column m 3 x) 1
    test_cycle x k =
        let r = marked_in n marks x k in
        ap (sewn_out m marks) (cycle_start (round site.linked.few site.linked.next_within site.linked.next_apart x r.0)) ∙ test_is x r.0 r.1

    goes : (x : ℕ) → In x v → column m 3 x ≡ 1 → column m 3 (column m 1 x) ≡ 1
    goes x k e = same_kind m n x (pass.thirds x (marked_in n marks x k).0) ∙ e

    -- THE DARTS OF THE CUT FACES are the marked ones that are sewn, each once
    pub record Cut (q : ℕ) : Type 0 where
      pub below : q < n
      pub inside : get_or marks q 0 ≡ 1
      pub kind : column m 3 q ≡ 1

    pub cut_is : (q : ℕ) → In q (concat (let_go m marks)) → Cut q
    cut_is q k =
        let r =
        kept_in (column m 1) v stays inj small order test (λ x. column m 3 x ≡ 1) goes
        (λ x i e. eqb-true (column m 3 x) 1 (sym (test_cycle x i) ∙ e)) (λ x i e. test_cycle x i ∙ eq-eqb (column m 3 x) 1 e)
        q k
        in
        let b = marked_in n marks q r.0 in
        record { below = b.0; inside = b.1; kind = r.1 }

    pub in_cut : (q : ℕ) → Cut q → In q (concat (let_go m marks))
    in_cut q k =
        in_kept (column m 1) v stays inj small order test (λ x. column m 3 x ≡ 1) goes
        (λ x i e. eqb-true (column m 3 x) 1 (sym (test_cycle x i) ∙ e)) (λ x i e. test_cycle x i ∙ eq-eqb (column m 3 x) 1 e)
        q (in_marked n marks q k.below k.inside) k.kind

    cut_distinct : distinct (concat (let_go m marks)) ≡ true
    cut_distinct = kept_distinct (column m 1) v stays inj small order test

    -- and so are the darts that they are sewn to
    pub left_distinct : distinct (map (column m 4) (concat (let_go m marks))) ≡ true
    left_distinct = distinct_map (column m 4) (concat (let_go m marks)) cut_distinct (λ x y a b e. let i = cut_is x a in let k = cut_is y b in
        sym (sewn x i.below i.kind).back ∙ ap (column m 4) e ∙ (sewn y k.below k.kind).back)
