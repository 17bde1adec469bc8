-- The updates that send writes: each is read at its relative and passes 17 and 22 there. Assumes nothing.
use mathlib.Core.Path.{◌≡◌, refl, sym, ◌∙◌, ap, subst}
use mathlib.Core.Logic.{◌⊎◌, inl, inr, ◌≢◌}
use mathlib.Core.Bool.{true, true≢false}
use mathlib.Core.List.{List, map}
use Prim.Native.Nat.{ℕ, ◌<◌, ◌≤◌}
use native.Mathlib.Omega.{arith}
use lib.ListN.{length, length-map}
use borrow.Author.Tests.{eq-eqb}
use Rattle.model.specs.Lists.{distinct, least, first_no}
use Rattle.model.specs.Values.{Label, critical, Dart, Limits, code}
use Rattle.model.specs.Cells.{cycle, serials, third_at, least_label}
use Rattle.model.specs.Sound.{Fit}
use Rattle.model.specs.Layouts.{framed}
use Rattle.model.specs.Messages.{Update, update, an_update, message_in}
use Rattle.model.specs.Arrival.{addressed, names_face, update_right, redirect_checks}
use Rattle.model.specs.Runs.{Request}
use Rattle.model.specs.UndividedRun.{State, nx, th, cell}
use Rattle.model.specs.DividedRun.{addressee}
use Rattle.laws.proofs.Faces.{face_stays}
use Rattle.laws.proofs.Members.{In, in_eq, Each, each_map, all_from, all_map, map_map, in_map, map_in, distinct_fewer, distinct_map}
use Rattle.laws.proofs.Tests.{and_intro, not_equal, yes_then, no_more}
use Rattle.theory.proofs.SentMessages.{update_ok}
use Rattle.agreement.proofs.BlockSound.{code_one, block_sound}
use Rattle.agreement.proofs.Described.{dart_by, block_by, Crossing, Map, Inv, Mine, darts_by, held_mine, third_is, kind_critical, third_back_linked, crossing_third}
use Rattle.agreement.proofs.Moved.{Served, moved_cell}
use Rattle.agreement.proofs.MovedCell.{Cell}
use Rattle.agreement.proofs.NewLabels.{Facing, next_one_cell, facing_starts, start_there}
use Rattle.agreement.proofs.Redirected.{labels_map, least_same, block_face_mine, block_face_sym, block_face_trans, face_across, shared, facing_crossing, chosen, told, picked_facing, across_mine, across_labelled, face_told, across_along}
use Rattle.theory.proofs.Written.{update_back, update_addressee}

-- ONE UPDATE
module _ (lims : ℕ → Limits) (fit : Fit lims) (k : ℕ) (u : State) (label : ℕ → Label) (I : Inv lims k u label) (r : Request) (S : Served lims k u r)
    (b : ℕ) (below : b < k) (not_from : b ≢ r.from) (not_to : b ≢ r.to) where
  abbrev M₇ : Map u
  M₇ = I.map_sound

  abbrev v₇ : List ℕ
  v₇ = cell u r.serial

  abbrev C₇ : Cell u r.from r.serial v₇
  C₇ = moved_cell lims fit k u label I r S

  abbrev es₇ : List Dart
  es₇ = darts_by u label b

  abbrev picked₇ : List ℕ
  picked₇ = (chosen lims fit k u label I r S b below not_from not_to).picked_darts

  abbrev told₇ : Update
  told₇ = told lims fit k u label I r S b below not_from not_to

  facing₇ : (z : ℕ) → In z picked₇ → In z v₇ × Facing u b z
  facing₇ = picked_facing lims fit k u label I r S b below not_from not_to

  crossing₇ : (z : ℕ) → In z v₇ → Facing u b z → Crossing u z
  crossing₇ = facing_crossing lims fit k u label I r S b below not_from not_to

  few_picked : length picked₇ ≤ 4096
  few_picked = let a = distinct_fewer picked₇ v₇ (chosen lims fit k u label I r S b below not_from not_to).apart (λ z m. (facing₇ z m).0) in let c = C₇.few in omega arith

  -- the least label here is the least label there
  least_across : (z : ℕ) → In z picked₇ → code (label z) ≡ least (map (λ y. code (label y)) (cycle (nx u) (th u z)))
  least_across z m =
      let w = (chosen lims fit k u label I r S b below not_from not_to).each z m in
      let q = facing₇ z m in
      let dz = (C₇.mine z q.0).here in
      let home : Mine u r.from z = C₇.mine z q.0 in
      let st = w.0 in
      let a = start_there u M₇ r.from r.serial v₇ C₇ (shared lims fit k u label I r S b below not_from not_to) st w.1 in
      let mst = C₇.mine st a.0 in
      w.2.is_least ∙ least_same (map (λ y. code (label y)) (cycle (nx u) st)) (map (λ y. code (label y)) (cycle (nx u) (th u z))) (code (label z))
      (in_map (λ y. code (label y)) z (cycle (nx u) st) w.2.in_face)
      (λ c n. let y = map_in (λ y. code (label y)) (cycle (nx u) st) c n in there z y.0 q (same_face st z y.0 mst w.2.in_face y.1) c y.2)
      (λ c n. let y = map_in (λ y. code (label y)) (cycle (nx u) (th u z)) c n in
      let back = across_back z y.0 q y.1 in
      in_eq c (code (label (th u y.0))) (map (λ y. code (label y)) (cycle (nx u) st)) (y.2 ∙ back.1)
      (in_map (λ y. code (label y)) (th u y.0) (cycle (nx u) st) (other_way st z (th u y.0) mst w.2.in_face back.0)))
    where
      -- x and z in the face of st: x is in the face of z
      same_face : (st z x : ℕ) → Mine u r.from st → In z (cycle (nx u) st) → In x (cycle (nx u) st) → In x (cycle (nx u) z)
      same_face st z x m p q =
          block_face_trans lims fit k u label I r.from S.from_below z st x
          (block_face_mine lims fit k u label I r.from S.from_below st z m p)
          (block_face_sym lims fit k u label I r.from S.from_below st z m p) q

      other_way : (st z x : ℕ) → Mine u r.from st → In z (cycle (nx u) st) → In x (cycle (nx u) z) → In x (cycle (nx u) st)
      other_way st z x m p q = block_face_trans lims fit k u label I r.from S.from_below st z x m p q

      there : (z x : ℕ) → In z v₇ × Facing u b z → In x (cycle (nx u) z) → (c : ℕ) → c ≡ code (label x) → In c (map (λ y. code (label y)) (cycle (nx u) (th u z)))
      there z x q m c e =
          let dz = (C₇.mine z q.0).here in
          let met = face_across lims fit k u label I z x dz q.1.linked m in
          let mx = block_face_mine lims fit k u label I r.from S.from_below z x (C₇.mine z q.0) m in
          let number : u.number (th u x) ≡ b =
          (block_face_mine lims fit k u label I b below (th u z) (th u x)
          (across_mine lims fit k u label I r S b below not_from not_to z q.0 q.1) met.there).block
          in
          let cx : Crossing u x = record { here = mx.here; linked = met.linked; other = λ w. not_from (sym number ∙ w ∙ mx.block) } in
          in_eq c (code (label (th u x))) (map (λ y. code (label y)) (cycle (nx u) (th u z)))
          (e ∙ ap code (sym (I.labelled.paired x cx)))
          (in_map (λ y. code (label y)) (th u x) (cycle (nx u) (th u z)) met.there)

      across_back : (z y : ℕ) → In z v₇ × Facing u b z → In y (cycle (nx u) (th u z)) → In (th u y) (cycle (nx u) z) × (code (label y) ≡ code (label (th u y)))
      across_back z y q m =
          let dz = (C₇.mine z q.0).here in
          let tz = third_back_linked u M₇ z dz q.1.linked in
          let met = face_across lims fit k u label I (th u z) y (M₇.third_in_map z dz q.1.linked) tz m in
          let a = across_along lims fit k u label I r S b below not_from not_to z q.0 q.1 y m in
          let cy : Crossing u y = record { here = a.here.here; linked = a.linked; other = λ w. not_from (sym a.here.block ∙ sym w ∙ (C₇.mine (th u y) a.left).block) } in
          (subst (λ (w : ℕ). In (th u y) (cycle (nx u) w)) (M₇.third_twice z dz q.1.linked) met.there, ap code (sym (I.labelled.paired y cy)))

  across_label : (z : ℕ) → In z v₇ → Facing u b z → (y : ℕ) → In y (cycle (nx u) (th u z)) → third_at es₇ y ≡ critical r.from (label y)
  across_label z h c y m =
      let a = across_along lims fit k u label I r S b below not_from not_to z h c y m in
      let number = (C₇.mine (th u y) a.left).block in
      third_is u label b y a.here ∙ kind_critical u label y a.linked (λ w. not_from (sym a.here.block ∙ sym w ∙ number)) ∙ ap (λ (o : ℕ). critical o (label y)) number

  names_right : (z : ℕ) → In z picked₇ → names_face es₇ r.from (label z) ≡ true
  unfolding names_face least_label dart_by
  names_right z m =
      let q = facing₇ z m in
      let ct = crossing_third u M₇ z (crossing₇ z q.0 q.1) in
      let sender : u.number (th u (th u z)) ≡ r.from = ap u.number (M₇.third_twice z (C₇.mine z q.0).here q.1.linked) ∙ (C₇.mine z q.0).block in
      rw (
        across_labelled lims fit k u label I r S b below not_from not_to z q.0 q.1,
        kind_critical u label (th u z) ct.linked ct.other,
        face_told lims fit k u label I r S b below not_from not_to z q.0 q.1,
        labels_map es₇ label r.from (cycle (nx u) (th u z)) (across_label z q.0 q.1),
        map_map label code (cycle (nx u) (th u z)),
      )
      (and_intro (eq-eqb r.from (u.number (th u (th u z))) (sym sender)) (eq-eqb (code (label z)) (least (map (λ y. code (label y)) (cycle (nx u) (th u z)))) (least_across z m)))

  codes_apart : distinct (map code (map label picked₇)) ≡ true
  codes_apart = rw (map_map label code picked₇) (distinct_map (λ x. code (label x)) picked₇ (chosen lims fit k u label I r S b below not_from not_to).apart one)
    where
      one : (x y : ℕ) → In x picked₇ → In y picked₇ → code (label x) ≡ code (label y) → x ≡ y
      one x y m n e =
          let a = facing₇ x m in
          let c = facing₇ y n in
          let cx = crossing₇ x a.0 a.1 in
          let cy = crossing₇ y c.0 c.1 in
          go a.0 c.0 (I.labelled.apart x y cx cy (code_one lims k u label I x y cx cy e))
        where
          go : In x v₇ → In y v₇ → (x ≡ y) ⊎ (th u x ≡ y) → x ≡ y
          go i j (inl q) = q
          go i j (inr q) = absurd (true≢false (sym (in_eq (th u x) y v₇ q j) ∙ S.leaves x i))

  -- 22
  right_update : update_right (block_by u label b) told₇ ≡ true
  unfolding update_right told block_by
  right_update = and_intro (and_intro (and_intro (not_equal r.to r.from (λ q. S.apart_blocks (sym q))) (not_equal r.to b (λ q. not_to (sym q))))
      (all_map (names_face es₇ r.from) label picked₇ ∙ all_from (λ z. names_face es₇ r.from (label z)) picked₇ names_right)) codes_apart

  -- the faces shared with b, in message order
  abbrev starts₇ : List ℕ
  starts₇ = facing_starts u M₇ r.from r.serial v₇ C₇ (shared lims fit k u label I r S b below not_from not_to)

  abbrev faces₇ : List (List ℕ)
  faces₇ = map (cycle (nx u)) starts₇

  abbrev Held : List ℕ → Type 0
  Held f = (x : ℕ) → In x f → In x (serials (darts_by u label r.from))

  held_faces : Each Held faces₇
  unfolding cycle
  held_faces = each_map Held (cycle (nx u)) starts₇ (λ st m x h.
      let q = start_there u M₇ r.from r.serial v₇ C₇ (shared lims fit k u label I r S b below not_from not_to) st m in
      held_mine u label r.from x (C₇.mine x (face_stays (nx u) v₇ C₇.next_closed (next_one_cell u M₇ r.from r.serial v₇ C₇) C₇.few st x q.0 h)))

  told_ok : update.ok told₇ ≡ true
  unfolding told block_by
  told_ok =
      let few = I.few_blocks in
      let tb = S.to_below in
      let sound = block_sound lims k u label I r.from S.from_below in
      let labels = (chosen lims fit k u label I r S b below not_from not_to).labels_are in
      subst (λ (l : List Label). update.ok (record { from = r.from; to = b; block = r.to; labels = l }) ≡ true) labels
      (update_ok (lims r.from) (block_by u label r.from) (fit.block_fits r.from) sound r.to b faces₇ (omega arith) (omega arith) held_faces
      (let n = ap length labels in let c = few_picked in omega (arith, length-map picked₇ label)))

  few_labels : length told₇.labels ≤ 4096
  unfolding told
  few_labels = let a = length-map picked₇ label in let c = few_picked in omega arith

  pub told_read : message_in (framed update told₇) ≡ an_update told₇
  told_read = update_back told₇ told_ok few_labels

  pub told_addressee : addressee (framed update told₇) ≡ b
  unfolding told
  told_addressee = update_addressee told₇ (let a = S.from_below in let c = I.few_blocks in omega arith) (let c = I.few_blocks in omega arith) few_labels

  pub told_asks : first_no (redirect_checks (block_by u label b) (an_update told₇)) ≡ 0
  unfolding redirect_checks
  told_asks = yes_then 17 _ _ addressed_there ∙ yes_then 22 _ _ right_update ∙ no_more
    where
      addressed_there : addressed told₇.from told₇.to (block_by u label b) ≡ true
      addressed_there = unfold told in unfold block_by in (and_intro (eq-eqb b b refl) (not_equal r.from b (λ q. not_from (sym q))))
