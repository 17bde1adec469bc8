-- Redirect leaves the block that the state after the move describes, and a block that nobody tells stays. Assumes nothing.
use mathlib.Core.Path.{◌≡◌, refl, sym, ◌∙◌, ap, subst}
use mathlib.Core.Logic.{◌⊎◌, inl, inr, ◌≢◌}
use mathlib.Core.Bool.{Bool, true, false, true≢false, cond, not}
use mathlib.Core.List.{List, [], ◌∷◌, map}
use mathlib.Core.Option.{none, none-ne-some}
use Prim.Native.Nat.{ℕ, ◌<◌, ◌≤◌}
use native.Mathlib.Omega.{arith}
use lib.Dec.{eqb}
use lib.ListN.{length}
use borrow.Author.Tests.{eqb-true, eqb-false, eq-eqb, ne_eqb, not-true}
use Rattle.model.specs.Lists.{keep, concat_map, mem, distinct, least, find}
use Rattle.model.specs.Values.{Label, Third, critical, Dart, Limits, code, is_critical_with, with_other}
use Rattle.model.specs.Cells.{around, cycle, start_of, next_in, third_at, labels_along, least_label, labelled}
use Rattle.model.specs.Sound.{Fit}
use Rattle.model.specs.Messages.{Update}
use Rattle.model.specs.Departure.{least_labels}
use Rattle.model.specs.Links.{Link, relink}
use Rattle.model.specs.Arrival.{face_with, update_links, redirected}
use Rattle.model.specs.Runs.{Request}
use Rattle.model.specs.UndividedRun.{State, nx, op, th, cell}
use Rattle.laws.proofs.Carry.{around_cong}
use Rattle.laws.proofs.Faces.{face, face_stays, face_self, face_trans, face_sym, is_start, start_unique, along_face, face_distinct}
use Rattle.laws.proofs.Members.{In, in_here, in_there, in_cons, in_eq, least_below, each_append, keep_map, map_map, map_cong, in_map, map_in, one_kept, least_among}
use Rattle.laws.proofs.Orbits.{in_cycle}
use Rattle.laws.proofs.Tests.{by_cases, and_intro, and_left, and_right}
use Rattle.agreement.proofs.BlockSound.{code_one}
use Rattle.agreement.proofs.Described.{pt, third_by, dart_by, members, block_by, Crossing, Map, Inv, Mine, mine_member, member_mine, darts_by, next_at, third_is, kind_free, kind_sewn, kind_critical, by_kind, next_mine, third_level, third_back_linked}
use Rattle.agreement.proofs.Links.{Gives, relink_gives, find_append}
use Rattle.agreement.proofs.MeshSound.{labelled_by}
use Rattle.agreement.proofs.Moved.{Served, moved_cell, state_after, labels_after}
use Rattle.agreement.proofs.MovedCell.{Cell}
use Rattle.agreement.proofs.NewLabels.{Facing, next_one_cell, facing_next, Tells, facing_starts, start_there, starts_distinct, start_facing}
use Rattle.agreement.proofs.Released.{third_after, third_stays, third_redirected, moved_free}

-- LABELS ALONG A CRITICAL FACE
pub labels_map : (ds : List Dart) (label : ℕ → Label) (o : ℕ) (f : List ℕ) → ((x : ℕ) → In x f → third_at ds x ≡ critical o (label x)) → labels_along ds f ≡ map label f
unfolding labels_along
labels_map ds label o [] h = refl
labels_map ds label o (x ∷ f) h = rw (h x (in_here x f)) (ap (λ (l : List Label). label x ∷ l) (labels_map ds label o f (λ y k. h y (in_there y x f k))))

-- lists with the same members have one least
pub least_same : (l r : List ℕ) (x : ℕ) → In x l → ((y : ℕ) → In y l → In y r) → ((y : ℕ) → In y r → In y l) → least l ≡ least r
least_same l r x h f g =
    let a = least_below r (least l) (f (least l) (least_among l x h)) in
    let b = least_below l (least r) (g (least r) (least_among r x (f x h))) in
    omega arith

-- A FACE WITHIN ONE BLOCK
module _ (lims : ℕ → Limits) (fit : Fit lims) (k : ℕ) (u : State) (label : ℕ → Label) (I : Inv lims k u label) (b : ℕ) (below : b < k) where
  stays_there : (x : ℕ) → In x (members u b) → In (nx u x) (members u b)
  stays_there x h = mine_member u b (nx u x) (next_mine u I.map_sound b x (member_mine u b x h))

  one_there : (x y : ℕ) → In x (members u b) → In y (members u b) → nx u x ≡ nx u y → x ≡ y
  one_there x y h m e = I.map_sound.next_one x y (member_mine u b x h).here (member_mine u b y m).here e

  few_there : length (members u b) ≤ 4096
  few_there = let a = I.blocks_fit b below in let c = fit.block_fits b in omega arith

  pub block_face_self : (x : ℕ) → Mine u b x → In x (cycle (nx u) x)
  unfolding cycle
  block_face_self x h = face_self (nx u) (members u b) stays_there one_there few_there x (mine_member u b x h)

  pub block_face_mine : (x y : ℕ) → Mine u b x → In y (cycle (nx u) x) → Mine u b y
  unfolding cycle
  block_face_mine x y h m = member_mine u b y (face_stays (nx u) (members u b) stays_there one_there few_there x y (mine_member u b x h) m)

  -- what goes on along next holds along the face
  pub block_face_along : (P : ℕ → Type 0) → ((y : ℕ) → Mine u b y → P y → P (nx u y)) → (x y : ℕ) → Mine u b x → P x → In y (cycle (nx u) x) → P y
  unfolding cycle
  block_face_along P step x y h p m = along_face (nx u) (members u b) stays_there one_there few_there P (λ z q. step z (member_mine u b z q)) x y (mine_member u b x h) p m

  -- a dart before one of the face is in it
  pub block_face_back : (x y : ℕ) → Mine u b x → Mine u b y → In (nx u y) (cycle (nx u) x) → In y (cycle (nx u) x)
  unfolding cycle
  block_face_back x y h m q =
      let my = mine_member u b y m in
      let mn = stays_there y my in
      let on : In (nx u y) (face (nx u) (members u b) stays_there one_there few_there y) = in_cycle (nx u) (members u b) stays_there one_there 4096 y 1 few_there my in
      face_trans (nx u) (members u b) stays_there one_there few_there x (nx u y) y (mine_member u b x h) q (face_sym (nx u) (members u b) stays_there one_there few_there y (nx u y) my on)

  pub block_face_sym : (x y : ℕ) → Mine u b x → In y (cycle (nx u) x) → In x (cycle (nx u) y)
  unfolding cycle
  block_face_sym x y h m = face_sym (nx u) (members u b) stays_there one_there few_there x y (mine_member u b x h) m

  pub block_face_trans : (x y z : ℕ) → Mine u b x → In y (cycle (nx u) x) → In z (cycle (nx u) y) → In z (cycle (nx u) x)
  unfolding cycle
  block_face_trans x y z h p q = face_trans (nx u) (members u b) stays_there one_there few_there x y z (mine_member u b x h) p q

  pub block_face_distinct : (x : ℕ) → Mine u b x → distinct (cycle (nx u) x) ≡ true
  unfolding cycle
  block_face_distinct x h = face_distinct (nx u) (members u b) stays_there one_there few_there x (mine_member u b x h)

  -- and it is the face in the block's own darts
  pub block_face_is : (x : ℕ) → Mine u b x → cycle (next_in (darts_by u label b)) x ≡ cycle (nx u) x
  unfolding cycle
  block_face_is x h = around_cong (next_in (darts_by u label b)) (nx u) (Mine u b) (λ y m. rw (next_at u label b y m) (next_mine u I.map_sound b y m)) (next_at u label b) x 4096 x h

-- FACES THAT MEET: the third links of a face's darts are the darts of one face
module _ (lims : ℕ → Limits) (fit : Fit lims) (k : ℕ) (u : State) (label : ℕ → Label) (I : Inv lims k u label) where
  abbrev M₀ : Map u
  M₀ = I.map_sound

  pub record Meets (z x : ℕ) : Type 0 where
    pub linked : th u x ≢ 0
    pub there : In (th u x) (cycle (nx u) (th u z))

  pub face_across : (z x : ℕ) → In z u.darts → th u z ≢ 0 → In x (cycle (nx u) z) → Meets z x
  face_across z x h t m =
      let third = M₀.third_in_map z h t in
      let b = u.number (th u z) in
      let mine : Mine u b (th u z) = record { here = third; block = refl } in
      block_face_along lims fit k u label I (u.number z) (I.in_a_block z h) (Meets z)
      (λ y my q.
      let ty = M₀.third_in_map y my.here q.linked in
      let on = M₀.third_goes_on y my.here q.linked in
      let my' = block_face_mine lims fit k u label I b (I.in_a_block (th u z) third) (th u z) (th u y) mine q.there in
      let w : Mine u b (th u (nx u y)) = record { here = M₀.third_in_map (nx u y) (M₀.next_in_map y my.here) on; block = third_level u M₀ y my.here q.linked ∙ my'.block } in
      record {
        linked =
            on;
        there = block_face_back lims fit k u label I b (I.in_a_block (th u z) third) (th u z) (th u (nx u y)) mine w
            (in_eq (nx u (th u (nx u y))) (th u y) (cycle (nx u) (th u z)) (M₀.third_next y my.here q.linked) q.there);
      })
      z x (record { here = h; block = refl }) (record { linked = t; there = block_face_self lims fit k u label I b (I.in_a_block (th u z) third) (th u z) mine }) m

-- A RELATIVE: a block that is neither end
module _ (lims : ℕ → Limits) (fit : Fit lims) (k : ℕ) (u : State) (label : ℕ → Label) (I : Inv lims k u label) (r : Request) (S : Served lims k u r)
    (b : ℕ) (below : b < k) (not_from : b ≢ r.from) (not_to : b ≢ r.to) where
  abbrev M₁ : Map u
  M₁ = I.map_sound

  abbrev v₁ : List ℕ
  v₁ = cell u r.serial

  abbrev C₁ : Cell u r.from r.serial v₁
  C₁ = moved_cell lims fit k u label I r S

  abbrev ds : List Dart
  ds = darts_by u label r.from

  abbrev es : List Dart
  es = darts_by u label b

  abbrev T₁ : ℕ → Third
  T₁ = third_after lims fit k u label I r S

  -- a face of the cell is shared with b if its start is critical with b
  abbrev pub shared : List ℕ → Bool
  shared f = is_critical_with b (third_at ds (start_of f))

  pub facing_crossing : (x : ℕ) → In x v₁ → Facing u b x → Crossing u x
  facing_crossing x h c = record { here = (C₁.mine x h).here; linked = c.linked; other = λ q. not_from (sym c.block ∙ q ∙ (C₁.mine x h).block) }

  facing_third : (x : ℕ) → In x v₁ → Facing u b x → third_at ds x ≡ critical b (label x)
  facing_third x h c = third_is u label r.from x (C₁.mine x h) ∙ kind_critical u label x c.linked (facing_crossing x h c).other ∙ ap (λ (o : ℕ). critical o (label x)) c.block

  pub shared_tells : Tells u M₁ r.from r.serial v₁ C₁ b shared
  unfolding cycle around
  shared_tells = record {
    says = λ x h e. let m = C₁.mine x h in by_kind u label x
        (λ f. absurd (true≢false (sym e ∙ ap (is_critical_with b) (third_is u label r.from x m ∙ kind_free u label x f))))
        (λ t f. absurd (true≢false (sym e ∙ ap (is_critical_with b) (third_is u label r.from x m ∙ kind_sewn u label x t f))))
        (λ t f. record { linked = t; block = sym (eqb-true b (u.number (th u x)) (sym (ap (is_critical_with b) (third_is u label r.from x m ∙ kind_critical u label x t f)) ∙ e)) });
    hears = λ x h c. rw (facing_third x h c) (eq-eqb b b refl);
  }

  abbrev ss : List ℕ
  ss = facing_starts u M₁ r.from r.serial v₁ C₁ shared

  abbrev face_of : ℕ → List ℕ
  face_of x = cycle (nx u) x

  abbrev key : ℕ → ℕ
  key x = code (label x)

  -- the dart of a shared face that has its least label
  pub record Least (st z : ℕ) : Type 0 where
    pub in_face : In z (face_of st)
    pub is_least : key z ≡ least (map key (face_of st))

  face_facing : (st : ℕ) → In st v₁ → Facing u b st → (x : ℕ) → In x (face_of st) → In x v₁ × Facing u b x
  unfolding cycle
  face_facing st h c x m = (
    face_stays (nx u) v₁ C₁.next_closed (next_one_cell u M₁ r.from r.serial v₁ C₁) C₁.few st x h m,
    along_face (nx u) v₁ C₁.next_closed (next_one_cell u M₁ r.from r.serial v₁ C₁) C₁.few (Facing u b) (facing_next u M₁ r.from r.serial v₁ C₁ b) st x h c m,
  )

  one_least : (st : ℕ) → In st v₁ → Facing u b st → (z : ℕ) × Least st z × (least_labels ds (face_of st) ≡ label z ∷ [])
  unfolding least_labels least_label
  one_least st h c = (
    pick.0,
    record { in_face = pick.1; is_least = sym pick.2 },
    rw (along, map_map label code (face_of st), keep_map (λ l. eqb (code l) (least (map key (face_of st)))) label (face_of st), kept),
  )
    where
      along : labels_along ds (face_of st) ≡ map label (face_of st)
      along = labels_map ds label b (face_of st) (λ x m. let q = face_facing st h c x m in facing_third x q.0 q.1)

      self : In st (face_of st)
      self = block_face_self lims fit k u label I r.from S.from_below st (C₁.mine st h)

      pick : (z : ℕ) × In z (face_of st) × (least (map key (face_of st)) ≡ key z)
      pick = map_in key (face_of st) (least (map key (face_of st))) (least_among (map key (face_of st)) (key st) (in_map key st (face_of st) self))

      same : (x : ℕ) → In x (face_of st) → eqb (code (label x)) (least (map key (face_of st))) ≡ true → x ≡ pick.0
      same x m e =
          let qx = face_facing st h c x m in
          let qz = face_facing st h c pick.0 pick.1 in
          let cx = facing_crossing x qx.0 qx.1 in
          let cz = facing_crossing pick.0 qz.0 qz.1 in
          one x pick.0 qx.0 qz.0 (I.labelled.apart x pick.0 cx cz (code_one lims k u label I x pick.0 cx cz (eqb-true (key x) _ e ∙ pick.2)))
        where
          one : (x z : ℕ) → In x v₁ → In z v₁ → (x ≡ z) ⊎ (th u x ≡ z) → x ≡ z
          one x z a d (inl q) = q
          one x z a d (inr q) = absurd (true≢false (sym (in_eq (th u x) z v₁ q d) ∙ S.leaves x a))

      kept : keep (λ x. eqb (code (label x)) (least (map key (face_of st)))) (face_of st) ≡ pick.0 ∷ []
      kept = one_kept (λ x. eqb (key x) (least (map key (face_of st)))) pick.0 (face_of st) (block_face_distinct lims fit k u label I r.from S.from_below st (C₁.mine st h)) pick.1
          (eq-eqb (key pick.0) (least (map key (face_of st))) (sym pick.2)) same

  -- one label for each shared face
  pub record Chosen (l : List ℕ) : Type 0 where
    pub picked_darts : List ℕ
    pub labels_are : concat_map (least_labels ds) (map face_of l) ≡ map label picked_darts
    pub each : (z : ℕ) → In z picked_darts → (st : ℕ) × In st l × Least st z
    pub every_face : (st : ℕ) → In st l → (z : ℕ) × In z picked_darts × Least st z
    pub apart : distinct picked_darts ≡ true

  choose : (l : List ℕ) → ((x : ℕ) → In x l → In x ss) → distinct l ≡ true → Chosen l
  choose [] h d = record { picked_darts = []; labels_are = refl; each = λ z m. absurd (true≢false (sym m)); every_face = λ st m. absurd (true≢false (sym m)); apart = refl }
  choose (st ∷ l) h d = go (choose l (λ x m. h x (in_there x st l m)) (and_right (not (mem st l)) _ d)) (one_least st (there st (in_here st l)).0 (there st (in_here st l)).1)
    where
      there : (x : ℕ) → In x (st ∷ l) → In x v₁ × Facing u b x
      there x m = let a = start_there u M₁ r.from r.serial v₁ C₁ shared x (h x m) in (a.0, shared_tells.says x a.0 a.2)

      starts : (x : ℕ) → In x (st ∷ l) → is_start (nx u) v₁ C₁.next_closed (next_one_cell u M₁ r.from r.serial v₁ C₁) C₁.few x ≡ true
      starts x m = (start_there u M₁ r.from r.serial v₁ C₁ shared x (h x m)).1

      -- a dart is in one face alone
      one_face : (z y : ℕ) → In y l → In z (face_of st) → In z (face_of y) → st ≡ y
      one_face z y m p q =
          let hs = (there st (in_here st l)).0 in
          let hy = (there y (in_there y st l m)).0 in
          start_unique (nx u) v₁ C₁.next_closed (next_one_cell u M₁ r.from r.serial v₁ C₁) C₁.few st y hs hy (starts st (in_here st l)) (starts y (in_there y st l m))
          (face_trans (nx u) v₁ C₁.next_closed (next_one_cell u M₁ r.from r.serial v₁ C₁) C₁.few st z y hs
          (unfold cycle in p)
          (face_sym (nx u) v₁ C₁.next_closed (next_one_cell u M₁ r.from r.serial v₁ C₁) C₁.few y z hy
          (unfold cycle in q)))

      go : Chosen l → (z : ℕ) × Least st z × (least_labels ds (face_of st) ≡ label z ∷ []) → Chosen (st ∷ l)
      go c p = record {
        picked_darts = p.0 ∷ c.picked_darts;
        labels_are = rw (p.2, c.labels_are);
        each = λ z m. in_cons z p.0 c.picked_darts m (λ q. (st, in_here st l, rw q p.1)) (λ q. let w = c.each z q in (w.0, in_there w.0 st l w.1, w.2));
        every_face =
            λ x m. in_cons x st l m (λ q. (p.0, in_here p.0 c.picked_darts, rw q p.1))
            (λ q. let w = c.every_face x q in (w.0, in_there w.0 p.0 c.picked_darts w.1, w.2));
        apart = and_intro (new (mem p.0 c.picked_darts) refl) c.apart;
      }
        where
          new : (o : Bool) → mem p.0 c.picked_darts ≡ o → not (mem p.0 c.picked_darts) ≡ true
          new false e = rw e
          new true e = let w = c.each p.0 e in
              absurd (true≢false (sym (in_eq st w.0 l (one_face p.0 w.0 w.1 p.1.in_face w.2.in_face) w.1) ∙ not-true (mem st l) (and_left _ _ d)))

  pub chosen : Chosen ss
  chosen = choose ss (λ x m. m) (starts_distinct u M₁ r.from r.serial v₁ C₁ shared)

  -- THE UPDATE that b gets
  unfoldable pub told : Update
  told = record { from = r.from; to = b; block = r.to; labels = map label chosen.picked_darts }

  -- a dart that has a chosen label, and the face across from it
  pub picked_facing : (z : ℕ) → In z chosen.picked_darts → In z v₁ × Facing u b z
  picked_facing z m =
      let w = chosen.each z m in
      let a = start_there u M₁ r.from r.serial v₁ C₁ shared w.0 w.1 in
      face_facing w.0 a.0 (shared_tells.says w.0 a.0 a.2) z w.2.in_face

  pub across_mine : (z : ℕ) → In z v₁ → Facing u b z → Mine u b (th u z)
  across_mine z h c = record { here = M₁.third_in_map z (C₁.mine z h).here c.linked; block = c.block }

  pub across_labelled : (z : ℕ) → In z v₁ → Facing u b z → labelled (label z) es ≡ dart_by u label (th u z)
  across_labelled z h c = ap (λ (n : ℕ). labelled (label z) (darts_by u label n)) (sym c.block) ∙ labelled_by lims k u label I z (facing_crossing z h c)

  pub face_told : (z : ℕ) → In z v₁ → Facing u b z → face_with es (label z) ≡ face_of (th u z)
  unfolding face_with dart_by
  face_told z h c = ap (λ (d : Dart). cycle (next_in es) d.serial) (across_labelled z h c) ∙ block_face_is lims fit k u label I b below (th u z) (across_mine z h c)

  -- darts of b across from the cell
  pub record Across (y : ℕ) : Type 0 where
    pub here : Mine u b y
    pub linked : th u y ≢ 0
    pub left : In (th u y) v₁

  pub across_along : (z : ℕ) → In z v₁ → Facing u b z → (y : ℕ) → In y (face_of (th u z)) → Across y
  across_along z h c y m =
      let d = (C₁.mine z h).here in
      block_face_along lims fit k u label I b below Across
      (λ w mw q.
      let on = M₁.third_goes_on w mw.here q.linked in
      let nw = M₁.next_in_map w mw.here in
      let tw = M₁.third_in_map (nx u w) nw on in
      record { here = next_mine u M₁ b w mw; linked = on; left = C₁.next_back (th u (nx u w)) tw (in_eq (nx u (th u (nx u w))) (th u w) v₁ (M₁.third_next w mw.here q.linked) q.left) })
      (th u z) y (across_mine z h c)
      (record { here = across_mine z h c; linked = third_back_linked u M₁ z d c.linked; left = in_eq (th u (th u z)) z v₁ (M₁.third_twice z d c.linked) h }) m

  stays_out : (y : ℕ) → Mine u b y → mem y v₁ ≡ false
  stays_out y m = go (mem y v₁) refl
    where
      go : (o : Bool) → mem y v₁ ≡ o → mem y v₁ ≡ false
      go false e = e
      go true e = absurd (not_from (sym m.block ∙ (C₁.mine y e).block))

  across_third : (y : ℕ) → Across y → with_other r.to (third_at es y) ≡ T₁ y
  across_third y a =
      let m = a.here in
      let across-number : u.number (th u y) ≡ r.from = (C₁.mine (th u y) a.left).block in
      let other : u.number (th u y) ≢ u.number y = λ q. not_from (sym m.block ∙ sym q ∙ across-number) in
      ap (with_other r.to) (third_is u label b y m ∙ kind_critical u label y a.linked other)
      ∙ sym (third_redirected lims fit k u label I r S y (stays_out y m) a.left a.linked (λ q. not_from (sym m.block ∙ q)) (λ q. not_to (sym m.block ∙ q)))

  -- THE LINKS
  abbrev link_to : ℕ → Link
  link_to x = record { dart = x; third = with_other r.to (third_at es x) }

  abbrev links_for : Label → List Link
  links_for l = map link_to (face_with es l)

  gives_face : (f : List ℕ) → ((y : ℕ) → In y f → Across y) → Gives (map link_to f) T₁
  gives_face [] h = tt
  gives_face (x ∷ f) h = (across_third x (h x (in_here x f)), gives_face f (λ y m. h y (in_there y x f m)))

  gives_all : (zs : List ℕ) → ((z : ℕ) → In z zs → In z v₁ × Facing u b z) → Gives (concat_map links_for (map label zs)) T₁
  gives_all [] h = tt
  gives_all (z ∷ zs) h =
      let c = h z (in_here z zs) in
      each_append _ (links_for (label z)) (concat_map links_for (map label zs))
      (rw (face_told z c.0 c.1) (gives_face (face_of (th u z)) (across_along z c.0 c.1))) (gives_all zs (λ y m. h y (in_there y z zs m)))

  found_face : (f : List ℕ) (y : ℕ) → In y f → find (λ l. l.dart) y (map link_to f) ≡ none → ⊥
  found_face [] y m e = true≢false (sym m)
  found_face (x ∷ f) y m e = by_cases (eqb y x) (λ t. none-ne-some _ (sym (rw t at e))) (λ t. found_face f y (rw t at m) (rw t at e))

  found_all_links : (zs : List ℕ) → ((z : ℕ) → In z zs → In z v₁ × Facing u b z) → (z y : ℕ) → In z zs → In y (face_of (th u z))
      → find (λ l. l.dart) y (concat_map links_for (map label zs)) ≡ none → ⊥
  found_all_links [] h z y m p e = true≢false (sym m)
  found_all_links (w ∷ zs) h z y m p e =
      let q = find_append y (links_for (label w)) (concat_map links_for (map label zs)) e in
      in_cons z w zs m
      (λ s. let c = h w (in_here w zs) in found_face (face_of (th u w)) y (subst (λ (t : ℕ). In y (face_of (th u t))) s p) (rw (face_told w c.0 c.1) at q.0))
      (λ s. found_all_links zs (λ x n. h x (in_there x w zs n)) z y s p q.1)

  -- every dart across from the cell is told
  is_told : (y : ℕ) → Across y → find (λ l. l.dart) y (concat_map links_for (map label chosen.picked_darts)) ≡ none → ⊥
  is_told y a e =
      let m = a.here in
      let x = th u y in
      let back = M₁.third_twice y m.here a.linked in
      let fx : Facing u b x = record { linked = third_back_linked u M₁ y m.here a.linked; block = ap u.number back ∙ m.block } in
      let st = start_facing u M₁ r.from r.serial v₁ C₁ b shared shared_tells x a.left fx in
      let w = chosen.every_face st.0 st.1 in
      let z = w.0 in
      let zc = picked_facing z w.1 in
      let sv = (start_there u M₁ r.from r.serial v₁ C₁ shared st.0 st.1).0 in
      -- x and z are in one face, so y is across from z's
      let xz : In x (face_of z) = same_face st.0 x z sv st.3 w.2.in_face in
      let met = face_across lims fit k u label I z x (C₁.mine z zc.0).here zc.1.linked xz in
      found_all_links chosen.picked_darts picked_facing z y w.1 (in_eq y (th u x) (face_of (th u z)) (sym back) met.there) e
    where
      same_face : (st x z : ℕ) → In st v₁ → In x (face (nx u) v₁ C₁.next_closed (next_one_cell u M₁ r.from r.serial v₁ C₁) C₁.few st) → In z (face_of st) → In x (face_of z)
      same_face st x z h p q = unfold cycle in (face_trans (nx u) v₁ C₁.next_closed (next_one_cell u M₁ r.from r.serial v₁ C₁) C₁.few z st x
          (face_stays (nx u) v₁ C₁.next_closed (next_one_cell u M₁ r.from r.serial v₁ C₁) C₁.few st z h q)
          (face_sym (nx u) v₁ C₁.next_closed (next_one_cell u M₁ r.from r.serial v₁ C₁) C₁.few st z h q) p)

  -- THE BLOCK THAT IS TOLD
  told_third : (y : ℕ) → Mine u b y → find (λ l. l.dart) y (concat_map links_for (map label chosen.picked_darts)) ≡ none → third_by u label y ≡ T₁ y
  told_third y m e = by_cases (mem (th u y) v₁)
      (λ a. by_cases (eqb (th u y) 0)
      (λ z. let q = eqb-true (th u y) 0 z in kind_free u label y q ∙ sym (moved_free lims fit k u label I r S y q))
      (λ z. absurd (is_told y (record { here = m; linked = eqb-false (th u y) 0 z; left = a }) e)))
      (λ a. sym (third_stays lims fit k u label I r S y (stays_out y m) a))

  members_same : members (state_after lims fit k u label I r S) b ≡ members u b
  members_same = go u.darts (λ x h. h)
    where
      go : (l : List ℕ) → ((x : ℕ) → In x l → In x u.darts) → keep (λ x. eqb (cond (mem x v₁) r.to (u.number x)) b) l ≡ keep (λ x. eqb (u.number x) b) l
      go [] h = refl
      go (x ∷ l) h = by_cases (mem x v₁)
          (λ a. rw (a, ne_eqb r.to b (λ q. not_to (sym q)), ne_eqb (u.number x) b (λ q. not_from (sym q ∙ (C₁.mine x a).block))) (go l (λ y m. h y (in_there y x l m))))
          (λ a. rw (a, go l (λ y m. h y (in_there y x l m))))

  abbrev links_told : List Link
  links_told = concat_map links_for (map label chosen.picked_darts)

  told_dart : (y : ℕ) → Mine u b y → relink links_told (dart_by u label y) ≡ dart_by (state_after lims fit k u label I r S) (labels_after lims fit k u label I r S) y
  unfolding relink dart_by
  told_dart y m =
      let q = relink_gives links_told T₁ (gives_all chosen.picked_darts picked_facing) (dart_by u label y) (told_third y m) in
      λ n. record { serial = y; next = nx u y; opposite = op u y; third = q n; point = pt u y }

  count_same : (state_after lims fit k u label I r S).count b ≡ u.count b
  count_same = rw (ne_eqb b r.from not_from)

  pub redirected_is : redirected (block_by u label b) told ≡ block_by (state_after lims fit k u label I r S) (labels_after lims fit k u label I r S) b
  unfolding redirected update_links block_by told
  redirected_is = rw (count_same, members_same, map_map (dart_by u label) (relink links_told) (members u b))
      (ap (λ (l : List Dart). record { number = b; counter = u.count b; darts = l }) (map_cong _ _ (members u b) (λ y h. told_dart y (member_mine u b y h))))
