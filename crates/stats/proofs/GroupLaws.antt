-- Groups by place: each is the least set that links do not lead out of, a dart is in the group of each dart of its group, and the groups
-- by place are those by serial: cells without third links, pieces with them. Assumes nothing.
use mathlib.Core.Path.{◌≡◌, refl, sym, ap, ◌∙◌, subst}
use mathlib.Core.Bool.{Bool, true, false, true≢false, cond, ◌&&◌}
use mathlib.Core.List.{List, [], ◌∷◌, map}
use Prim.Native.Nat.{ℕ, ◌%◌, ◌<◌}
use native.Mathlib.Omega.{arith}
use lib.Dec.{leb}
use lib.ListN.{length, get_or, length-map}
use borrow.Author.Tests.{eqb-true, eq-eqb, ne_eqb}
use Rattle.model.specs.Lists.{all, keep, mem}
use Rattle.model.specs.Values.{Dart}
use Rattle.model.specs.Cells.{serials, third_at, volume_in, volume_starts}
use Rattle.model.specs.Image.{count_in, column, is_sewn_word, dart_in, third_in, holds_block}
use Rattle.laws.proofs.Tests.{by_cases, same_truth, and_left, and_right}
use Rattle.laws.proofs.Members.{In, in_here, in_there, in_cons, all_map, all_cong, keep_map, keep_cong}
use Rattle.laws.proofs.Tables.{length_tab, map_tab}
use Rattle.columns.specs.Columns.{Kind, kind_free, kind_sewn, kind_critical}
use Rattle.columns.proofs.Thirds.{critical_two, third_free, third_sewn, third_critical}
use Rattle.columns.proofs.ThirdLinks.{sewn_says}
use Rattle.columns.proofs.Question.{image_passed}
use Rattle.cells.specs.Places.{places_in, volume_of}
use Rattle.cells.proofs.Reached.{places, in_places, places_below, volume_linked, places_in_in}
use Rattle.cells.proofs.Sited.{Sited, sited, darts_in}
use Rattle.cells.proofs.Serials.{mem_map, serials_apart, volume_serials}
use Rattle.cells.proofs.FaceSerials.{same_order}
use Rattle.selection.proofs.Symmetric.{volume_sym}
use Rattle.stats.specs.Pieces.{piece, sewn_or, piece_links, piece_in, piece_starts}
use Rattle.stats.specs.Groups.{third_link, links_at, group_of, is_first, firsts_below, Joined}
use Rattle.stats.proofs.Orbits.{Orbit, orbit_is, carry_piece}

-- A LINK is one of three
pub link_cases {ℓ} : {C : Type ℓ} (third : Bool) (m : List ℕ) (p z : ℕ) → In z (links_at third m p) → (z ≡ column m 1 p → C) → (z ≡ column m 2 p → C) → (z ≡ third_link third m p → C) → C
link_cases third m p z h a b c =
    in_cons z (column m 1 p) (column m 2 p ∷ third_link third m p ∷ []) h a
    (λ h₁. in_cons z (column m 2 p) (third_link third m p ∷ []) h₁ b
    (λ h₂. in_cons z (third_link third m p) [] h₂ c (λ h₃. absurd (true≢false (sym h₃)))))

-- whether the third link of p counts
abbrev counts : Bool → List ℕ → ℕ → Bool
counts third m p = third && is_sewn_word (column m 3 p)

pub third_taken : (third : Bool) (m : List ℕ) (p : ℕ) {k v : ℕ} {s : Bool} → k ≡ column m 3 p → s ≡ is_sewn_word k → v ≡ column m 4 p → (third && s) ≡ true → v ≡ third_link third m p
third_taken third m p e t f h = f ∙ sym (ap (λ (b : Bool). cond b (column m 4 p) p) (ap (λ (x : Bool). third && x) (sym (t ∙ ap is_sewn_word e)) ∙ h))

pub third_left : (third : Bool) (m : List ℕ) (p : ℕ) {k : ℕ} {s : Bool} → k ≡ column m 3 p → s ≡ is_sewn_word k → (third && s) ≡ false → p ≡ third_link third m p
third_left third m p e t h = sym (ap (λ (b : Bool). cond b (column m 4 p) p) (ap (λ (x : Bool). third && x) (sym (t ∙ ap is_sewn_word e)) ∙ h))

module _ {m : List ℕ} (j : Joined m) (third : Bool) where
  abbrev n : ℕ
  n = get_or m 2 0

  sewn_at : (p : ℕ) → counts third m p ≡ true → is_sewn_word (column m 3 p) ≡ true
  sewn_at p e = and_right third (is_sewn_word (column m 3 p)) e

  third_within : (p : ℕ) → p < n → third_link third m p < n
  third_within p h = by_cases (counts third m p) (λ e. rw e (j.linked.sewn_within p h (eqb-true (column m 3 p % 4) 1 (sewn_at p e)))) (λ e. rw e h)

  third_back : (p : ℕ) → p < n → third_link third m (third_link third m p) ≡ p
  third_back p h = by_cases (counts third m p) sewn_there (λ e. rw (e, e))
    where
      sewn_there : counts third m p ≡ true → third_link third m (third_link third m p) ≡ p
      sewn_there e =
          let r = j.sewn_back p h (sewn_at p e) in
          rw (e, and_left third (is_sewn_word (column m 3 p)) e, r.0) r.1

  pub links_within : (x z : ℕ) → x < n → In z (links_at third m x) → z < n
  links_within x z h k = link_cases third m x z k (λ e. rw e (j.linked.next_within x h)) (λ e. rw e (j.linked.opposite_within x h)) (λ e. rw e (third_within x h))

  -- THE LEAST SET
  pub group_linked : (p : ℕ) → p < n → Orbit (links_at third m) p (group_of third m p)
  group_linked p h = orbit_is (links_at third m) (places n) (λ x z k i. in_places n z (links_within x z (places_below n x k) i)) (λ x. refl)
      (omega (arith, length_tab (λ (q : ℕ). q) n, j.linked.few)) p (in_places n p h)

  pub group_below : (p : ℕ) → p < n → (y : ℕ) → In y (group_of third m p) → y < n
  group_below p h = (group_linked p h).least (λ y. y < n) h links_within

  pub next_in_links : (x : ℕ) → In (column m 1 x) (links_at third m x)
  next_in_links x = in_here (column m 1 x) (column m 2 x ∷ third_link third m x ∷ [])

  pub opposite_in_links : (x : ℕ) → In (column m 2 x) (links_at third m x)
  opposite_in_links x = in_there (column m 2 x) (column m 1 x) (column m 2 x ∷ third_link third m x ∷ []) (in_here (column m 2 x) (third_link third m x ∷ []))

  pub third_in_links : (x : ℕ) → In (third_link third m x) (links_at third m x)
  third_in_links x =
      let t = third_link third m x in
      in_there t (column m 1 x) (column m 2 x ∷ t ∷ []) (in_there t (column m 2 x) (t ∷ []) (in_here t []))

  -- a volume lies in a group
  pub volume_inside : (p : ℕ) → p < n → (y : ℕ) → In y (volume_of m p) → In y (group_of third m p)
  volume_inside p h =
      let g = group_linked p h in
      (volume_linked j.linked h).least (λ y. In y (group_of third m p)) g.here (λ x k. g.closed x (column m 1 x) k (next_in_links x)) (λ x k. g.closed x (column m 2 x) k (opposite_in_links x))

  -- BACK along a link
  link_back : (x z : ℕ) → x < n → In z (links_at third m x) → In x (group_of third m z)
  link_back x z h k = link_cases third m x z k
      (λ e. rw e (volume_inside (column m 1 x) (j.linked.next_within x h) x
      (volume_sym j.linked x (column m 1 x) h ((volume_linked j.linked h).closed_f x (volume_linked j.linked h).here))))
      (λ e. rw e (volume_inside (column m 2 x) (j.linked.opposite_within x h) x
      (volume_sym j.linked x (column m 2 x) h ((volume_linked j.linked h).closed_g x (volume_linked j.linked h).here))))
      (λ e. let y = third_link third m x in
      let g = group_linked y (third_within x h) in
      rw e (subst (λ (w : ℕ). In w (group_of third m y)) (third_back x h) (g.closed y (third_link third m y) g.here (third_in_links y))))

  group_within : (x y : ℕ) → x < n → y < n → In x (group_of third m y) → (z : ℕ) → In z (group_of third m x) → In z (group_of third m y)
  group_within x y hx hy i = (group_linked x hx).least (λ z. In z (group_of third m y)) i (group_linked y hy).closed

  record Back (d x : ℕ) : Type 0 where
    below : x < n
    there : In d (group_of third m x)

  pub group_sym : (d y : ℕ) → d < n → In y (group_of third m d) → In d (group_of third m y)
  group_sym d y h i = ((group_linked d h).least (Back d) (record { below = h; there = (group_linked d h).here })
      (λ x z r k. let hz = links_within x z r.below k in
      record { below = hz; there = group_within x z r.below hz (link_back x z r.below k) d r.there }) y i).there

  -- a set of places below n that links do not lead out of, and that has no dart of p's, has none of its group
  pub group_away : (P : ℕ → Type 0) → ((x z : ℕ) → P x → In z (links_at third m x) → P z) → (p : ℕ) → p < n → (P p → ⊥) → (y : ℕ) → In y (group_of third m p) → P y → ⊥
  group_away P step p h out y i py = out ((group_linked y (group_below p h y i)).least P py step p (group_sym p y h i))

-- A SOUND BLOCK'S MEMORY
pub joined : (m : List ℕ) → holds_block m ≡ true → Joined m
joined m ok = record {
  linked = (sited m ok).linked;
  sewn_back = λ p h e.
      let w = image_passed m ok in
      let t = sewn_says m (get_or m 2 0) p (w.thirds p h) e in
      (t.kind, t.back);
}

-- FROM PLACES TO SERIALS
-- the cell of a dart, or its piece where third links count
abbrev pub group_in : Bool → List Dart → ℕ → List ℕ
group_in true ds x = piece_in ds x
group_in false ds x = volume_in ds x

abbrev pub starts_in : Bool → List Dart → List ℕ
starts_in true ds = piece_starts ds
starts_in false ds = volume_starts ds

module _ (m : List ℕ) (ok : holds_block m ≡ true) where
  abbrev site : Sited m
  site = sited m ok

  abbrev s : ℕ → ℕ
  s = column m 0

  abbrev ds : List Dart
  ds = darts_in m

  third_carried : (p : ℕ) → p < count_in m → s (third_link true m p) ≡ sewn_or (s p) (third_at ds (s p))
  third_carried p h = rw (site.third_is p h) (go ((image_passed m ok).range.kinds p h))
    where
      go : Kind (column m 3 p) (column m 4 p) → s (third_link true m p) ≡ sewn_or (s p) (third_in s (column m 3 p) (column m 4 p))
      go (kind_free e f) = rw (third_free s (column m 3 p) (column m 4 p) e, ne_eqb (column m 3 p % 4) 1 (λ x. omega arith))
      go (kind_sewn e) = rw (third_sewn s (column m 3 p) (column m 4 p) e, eq-eqb (column m 3 p % 4) 1 (omega arith))
      go (kind_critical e f g) = rw (third_critical s (column m 3 p) (column m 4 p) e, ne_eqb (column m 3 p % 4) 1 (λ x. omega (arith, critical_two (column m 3 p) e)))

  links_carried : (p : ℕ) → p < count_in m → map s (links_at true m p) ≡ piece_links ds (s p)
  links_carried p h = rw (site.next_is p h, site.opposite_is p h, third_carried p h)

  piece_carried : (p : ℕ) → p < count_in m → map s (group_of true m p) ≡ piece (piece_links ds) (s p)
  piece_carried p h = carry_piece (λ x. x < count_in m) s (serials_apart site) (links_at true m) (piece_links ds) (links_within (joined m ok) true) links_carried p h

  serials_by_place : serials ds ≡ map s (places (count_in m))
  serials_by_place = map_tab (λ d. d.serial) (dart_in m) (count_in m) ∙ sym (map_tab s (λ p. p) (count_in m))

  piece_serials : (p : ℕ) → p < count_in m → map s (places_in (count_in m) (group_of true m p)) ≡ piece_in ds (s p)
  unfolding places_in piece_in
  piece_serials p h =
      sym (ap (λ (v : List ℕ). keep (λ x. mem x v) (serials ds)) (sym (piece_carried p h))
      ∙ ap (keep (λ x. mem x (map s (group_of true m p)))) serials_by_place
      ∙ keep_map (λ x. mem x (map s (group_of true m p))) s (places (count_in m))
      ∙ ap (map s) (keep_cong (λ x. mem (s x) (map s (group_of true m p))) (λ x. mem x (group_of true m p)) (places (count_in m))
      (λ x k. mem_map s x (group_of true m p) (λ y i e. serials_apart site x y (places_below (count_in m) x k) (group_below (joined m ok) true p h y i) e))))

  -- without third links a group is a cell
  pub cell_mem : (p : ℕ) → p < count_in m → (x : ℕ) → mem x (group_of false m p) ≡ mem x (volume_of m p)
  cell_mem p h x = same_truth (mem x (group_of false m p)) (mem x (volume_of m p)) (inside x) (volume_inside (joined m ok) false p h x)
    where
      inside : (x : ℕ) → In x (group_of false m p) → In x (volume_of m p)
      inside =
          let v = volume_linked site.linked h in
          (group_linked (joined m ok) false p h).least (λ x. In x (volume_of m p)) v.here
          (λ x z i k. link_cases false m x z k (λ e. rw e (v.closed_f x i)) (λ e. rw e (v.closed_g x i)) (λ e. rw e i))

  cell_places : (p : ℕ) → p < count_in m → places_in (count_in m) (group_of false m p) ≡ places_in (count_in m) (volume_of m p)
  unfolding places_in
  cell_places p h = keep_cong (λ x. mem x (group_of false m p)) (λ x. mem x (volume_of m p)) (places (count_in m)) (λ x k. cell_mem p h x)

  pub group_serials : (third : Bool) (p : ℕ) → p < count_in m → map s (places_in (count_in m) (group_of third m p)) ≡ group_in third ds (s p)
  group_serials true p h = piece_serials p h
  group_serials false p h = ap (map s) (cell_places p h) ∙ volume_serials site p h

  -- LEAST PLACES are least serials
  first_is : (third : Bool) (p : ℕ) → p < count_in m → all (leb (s p)) (group_in third ds (s p)) ≡ is_first third m p
  unfolding is_first
  first_is third p h = ap (all (leb (s p))) (sym (group_serials third p h)) ∙ all_map (leb (s p)) s (places_in (count_in m) (group_of third m p))
      ∙ all_cong (λ q. leb (s p) (s q)) (leb p) (places_in (count_in m) (group_of third m p))
      (λ q k. same_order site.ascends p q h (places_in_in (count_in m) (group_of third m p) q k).0)

  starts_are : (third : Bool) → starts_in third ds ≡ keep (λ x. all (leb x) (group_in third ds x)) (serials ds)
  unfolding piece_starts volume_starts
  starts_are true = refl
  starts_are false = refl

  pub firsts_serials : (third : Bool) → starts_in third ds ≡ map s (firsts_below third m (count_in m))
  firsts_serials third =
      starts_are third
      ∙ ap (keep (λ x. all (leb x) (group_in third ds x))) serials_by_place
      ∙ keep_map (λ x. all (leb x) (group_in third ds x)) s (places (count_in m))
      ∙ ap (map s) (keep_cong (λ p. all (leb (s p)) (group_in third ds (s p))) (is_first third m) (places (count_in m)) (λ p k. first_is third p (places_below (count_in m) p k)))

  pub group_count : (third : Bool) → length (firsts_below third m (count_in m)) ≡ length (starts_in third ds)
  group_count third = sym (ap length (firsts_serials third) ∙ length-map (firsts_below third m (count_in m)) s)
