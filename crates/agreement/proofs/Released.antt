-- Release leaves the block that the state after the move describes. Assumes nothing.
use mathlib.Core.Path.{◌≡◌, refl, sym, ◌∙◌, ap}
use mathlib.Core.Logic.{◌≢◌}
use mathlib.Core.Bool.{false, cond, not}
use mathlib.Core.List.{List, [], ◌∷◌, map}
use mathlib.Core.Option.{none}
use Prim.Native.Nat.{ℕ}
use lib.Dec.{eqb}
use borrow.Author.Tests.{eqb-true, eqb-false, eq-eqb, ne_eqb, not-true}
use Rattle.model.specs.Lists.{keep, concat, mem, find}
use Rattle.model.specs.Values.{Label, Third, free, sewn, critical, Dart, Limits, partner}
use Rattle.model.specs.Cells.{third_at}
use Rattle.model.specs.Sound.{Fit}
use Rattle.model.specs.Departure.{released}
use Rattle.model.specs.Links.{Link, relink, label_faces}
use Rattle.model.specs.Runs.{Request}
use Rattle.model.specs.UndividedRun.{State, nx, op, th, cell, inner_faces}
use Rattle.laws.proofs.Members.{In, in_eq, keep_in, keep_map, map_map, map_cong}
use Rattle.laws.proofs.Tests.{by_cases}
use Rattle.agreement.proofs.AfterMove.{label_after}
use Rattle.agreement.proofs.Described.{pt, third_by, dart_by, members, block_by, Map, Inv, Mine, member_mine, darts_by, third_is, kind_free, kind_sewn, third_back_linked}
use Rattle.agreement.proofs.Links.{relink_gives, faces_agree, faces_reach}
use Rattle.agreement.proofs.Moved.{Served, moved_cell, cuts, IsCut, new_label, state_after, labels_after}
use Rattle.agreement.proofs.MovedCell.{Cell, volume_same, sewn_same}
use Rattle.agreement.proofs.NewLabels.{cut_in, in_cut, cut_distinct}

module _ (lims : ℕ → Limits) (fit : Fit lims) (k : ℕ) (u : State) (label : ℕ → Label) (I : Inv lims k u label) (r : Request) (S : Served lims k u r) where
  abbrev pub third_after : ℕ → Third
  third_after = third_by (state_after lims fit k u label I r S) (labels_after lims fit k u label I r S)

  abbrev M₀ : Map u
  M₀ = I.map_sound

  abbrev v₀ : List ℕ
  v₀ = cell u r.serial

  abbrev C₀ : Cell u r.from r.serial v₀
  C₀ = moved_cell lims fit k u label I r S

  -- THIRD LINKS AFTERWARDS, by where the dart and the dart across are
  -- nothing moved: as before
  pub third_stays : (x : ℕ) → mem x v₀ ≡ false → mem (th u x) v₀ ≡ false → third_after x ≡ third_by u label x
  unfolding third_by label_after
  third_stays x a b = rw (a, b) (by_cases (eqb (th u x) 0) (λ e. rw e) (λ e. rw e (by_cases (eqb (u.number (th u x)) (u.number x)) (λ f. rw f) (λ f. rw f))))

  -- the cell across has left block i
  pub third_cut : (x : ℕ) → In x u.darts → mem x v₀ ≡ false → In (th u x) v₀ → th u x ≢ 0 → u.number x ≡ r.from → third_after x ≡ critical r.to (new_label lims fit k u label I r S (th u x))
  unfolding third_by label_after
  third_cut x h a b t e =
      rw (ne_eqb (th u x) 0 t, a, b, e, ne_eqb r.to r.from (λ q. S.apart_blocks (sym q)), (C₀.mine (th u x) b).block, eq-eqb r.from r.from refl)

  -- the cell across has come to block j
  pub third_met : (x : ℕ) → mem x v₀ ≡ false → In (th u x) v₀ → th u x ≢ 0 → u.number x ≡ r.to → third_after x ≡ sewn (th u x)
  unfolding third_by
  third_met x a b t e = rw (ne_eqb (th u x) 0 t, a, b, e, eq-eqb r.to r.to refl)

  -- the cell across has moved on, seen from a third block
  pub third_redirected : (x : ℕ) → mem x v₀ ≡ false → In (th u x) v₀ → th u x ≢ 0 → u.number x ≢ r.from → u.number x ≢ r.to → third_after x ≡ critical r.to (label x)
  unfolding third_by label_after
  third_redirected x a b t e f =
      rw (ne_eqb (th u x) 0 t, a, b, ne_eqb r.to (u.number x) (λ q. f (sym q)), (C₀.mine (th u x) b).block, ne_eqb r.from (u.number x) (λ q. e (sym q)))

  -- darts of the cell
  pub moved_free : (x : ℕ) → th u x ≡ 0 → third_after x ≡ free
  unfolding third_by
  moved_free x e = rw (eq-eqb (th u x) 0 e)

  pub moved_met : (x : ℕ) → In x v₀ → th u x ≢ 0 → u.number (th u x) ≡ r.to → third_after x ≡ sewn (th u x)
  unfolding third_by
  moved_met x a t e = rw (ne_eqb (th u x) 0 t, a, S.leaves x a, e, eq-eqb r.to r.to refl)

  pub moved_cut : (x : ℕ) → In x v₀ → th u x ≢ 0 → u.number (th u x) ≡ r.from → third_after x ≡ critical r.from (new_label lims fit k u label I r S x)
  unfolding third_by label_after
  moved_cut x a t e =
      rw (ne_eqb (th u x) 0 t, a, S.leaves x a, e, ne_eqb r.from r.to S.apart_blocks, (C₀.mine x a).block, eq-eqb r.from r.from refl)

  pub moved_other : (x : ℕ) → In x v₀ → th u x ≢ 0 → u.number (th u x) ≢ r.from → u.number (th u x) ≢ r.to → third_after x ≡ critical (u.number (th u x)) (label x)
  unfolding third_by label_after
  moved_other x a t e f =
      rw (ne_eqb (th u x) 0 t, a, S.leaves x a, ne_eqb (u.number (th u x)) r.to f, (C₀.mine x a).block, ne_eqb (u.number (th u x)) r.from e)

  -- THE BLOCK LEFT BEHIND
  abbrev ds : List Dart
  ds = darts_by u label r.from

  abbrev fs₀ : List (List ℕ)
  fs₀ = cuts lims fit k u label I r S

  abbrev across : ℕ → ℕ
  across x = partner (third_at ds x)

  cut_of : (x : ℕ) → In x (concat fs₀) → In x v₀ × IsCut lims fit k u label I r S x
  cut_of = cut_in u M₀ r.from r.serial v₀ C₀ S.leaves

  across_is : (x : ℕ) → In x (concat fs₀) → across x ≡ th u x
  across_is x h =
      let c = cut_of x h in
      let m = C₀.mine x c.0 in
      rw (third_is u label r.from x m, kind_sewn u label x c.1.linked (c.1.block ∙ sym m.block))

  -- across a cut face the dart left behind is critical with j
  gives_across : (x : ℕ) → In x (concat fs₀) → third_after (across x) ≡ critical r.to (new_label lims fit k u label I r S x)
  gives_across x h =
      let c = cut_of x h in
      let d = (C₀.mine x c.0).here in
      let back = M₀.third_twice x d c.1.linked in
      ap third_after (across_is x h)
      ∙ third_cut (th u x) (M₀.third_in_map x d c.1.linked) (S.leaves x c.0) (in_eq (th u (th u x)) x v₀ back c.0)
      (third_back_linked u M₀ x d c.1.linked) c.1.block
      ∙ ap (λ (y : ℕ). critical r.to (new_label lims fit k u label I r S y)) back

  abbrev links : List Link
  links = label_faces across r.to r.from (u.count r.from) fs₀

  left_third : (x : ℕ) → Mine u r.from x → mem x v₀ ≡ false → find (λ l. l.dart) x links ≡ none → third_by u label x ≡ third_after x
  left_third x m a f = by_cases (mem (th u x) v₀)
      (λ b. by_cases (eqb (th u x) 0)
      (λ z. let e = eqb-true (th u x) 0 z in kind_free u label x e ∙ sym (moved_free x e))
      (λ z. let t = eqb-false (th u x) 0 z in
      let back = M₀.third_twice x m.here t in
      let here = M₀.third_in_map x m.here t in
      let there : In (th u x) (concat fs₀) =
      in_cut u M₀ r.from r.serial v₀ C₀ S.leaves (th u x) b
      (record { linked = third_back_linked u M₀ x m.here t; block = ap u.number back ∙ m.block })
      in
      absurd (faces_reach across third_after r.to r.from (u.count r.from) fs₀ (th u x) there (rw (across_is (th u x) there, back) f))))
      (λ b. sym (third_stays x a b))

  left_dart : (x : ℕ) → Mine u r.from x → mem x v₀ ≡ false → relink links (dart_by u label x) ≡ dart_by (state_after lims fit k u label I r S) (labels_after lims fit k u label I r S) x
  unfolding relink dart_by
  left_dart x m a =
      let q =
      relink_gives links third_after
      (faces_agree across third_after r.to r.from (u.count r.from) fs₀
      (cut_distinct u M₀ r.from r.serial v₀ C₀ S.leaves) gives_across) (dart_by u label x) (left_third x m a)
      in
      λ n. record { serial = x; next = nx u x; opposite = op u x; third = q n; point = pt u x }

  members_left : members (state_after lims fit k u label I r S) r.from ≡ keep (λ x. not (mem x v₀)) (members u r.from)
  members_left = go u.darts
    where
      go : (l : List ℕ) → keep (λ x. eqb (cond (mem x v₀) r.to (u.number x)) r.from) l ≡ keep (λ x. not (mem x v₀)) (keep (λ x. eqb (u.number x) r.from) l)
      go [] = refl
      go (x ∷ l) = by_cases (mem x v₀)
          (λ a. rw (a, ne_eqb r.to r.from (λ q. S.apart_blocks (sym q)), eq-eqb (u.number x) r.from (C₀.mine x a).block) (rw a (go l)))
          (λ a. rw a (by_cases (eqb (u.number x) r.from) (λ b. rw b (rw a (ap (λ (t : List ℕ). x ∷ t) (go l)))) (λ b. rw b (go l))))

  darts_left : map (relink links) (keep (λ d. not (mem d.serial v₀)) ds)
      ≡ map (dart_by (state_after lims fit k u label I r S) (labels_after lims fit k u label I r S))
      (members (state_after lims fit k u label I r S) r.from)
  unfolding dart_by
  darts_left = ap (map (relink links)) (keep_map (λ d. not (mem d.serial v₀)) (dart_by u label) (members u r.from))
      ∙ map_map (dart_by u label) (relink links) (keep (λ x. not (mem x v₀)) (members u r.from))
      ∙ map_cong _ _ (keep (λ x. not (mem x v₀)) (members u r.from))
      (λ x h. let a = keep_in (λ y. not (mem y v₀)) (members u r.from) x h in left_dart x (member_mine u r.from x a.0) (not-true (mem x v₀) a.1))
      ∙ ap (map (dart_by (state_after lims fit k u label I r S) (labels_after lims fit k u label I r S))) (sym members_left)

  pub released_is : released (block_by u label r.from) r.to r.serial ≡ block_by (state_after lims fit k u label I r S) (labels_after lims fit k u label I r S) r.from
  unfolding released block_by inner_faces
  released_is = rw (
    volume_same lims fit k u label I r.from S.from_below r.serial S.start_mine,
    sewn_same lims fit k u label I r.from S.from_below r.serial S.start_mine,
    eq-eqb r.from r.from refl,
    darts_left,
  )
