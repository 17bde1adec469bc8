-- The cell of a request is the volume of its block, and the block's questions 9 to 14 are those of the undivided run. Assumes nothing.
use mathlib.Core.Path.{◌≡◌, refl, sym, ◌∙◌, ap, subst}
use mathlib.Core.Logic.{◌≢◌}
use mathlib.Core.Bool.{Bool, true, false, not, ◌&&◌}
use mathlib.Core.List.{List, [], ◌∷◌, map}
use Prim.Native.Nat.{ℕ, zero, suc, ◌<◌, ◌≤◌}
use native.Mathlib.Omega.{arith}
use native.Mathlib.Nat.{not-suc-le-zero}
use lib.Dec.{leb, eqb}
use lib.ListN.{length}
use borrow.Author.Tests.{eqb-true, eq-eqb, ne_eqb, le-leb}
use Rattle.model.specs.Lists.{all, keep, mem, ascending, first_no}
use Rattle.model.specs.Values.{Label, Dart, Limits}
use Rattle.model.specs.Cells.{around, cycle, volume, vertex, faces, start_of, serials, next_in, opposite_in, third_at, volume_in, faces_in}
use Rattle.model.specs.Sound.{Fit}
use Rattle.model.specs.Departure.{is_sewn_into, is_sewn_out_of, sewn_faces, departure_checks}
use Rattle.model.specs.Links.{vertex_pairs}
use Rattle.model.specs.Runs.{Request}
use Rattle.model.specs.UndividedRun.{State, nx, op, th, cell, inner_faces}
use Rattle.laws.proofs.Carry.{volume_cong, volume_twice, faces_cong, vertex_cong}
use Rattle.laws.proofs.Members.{In, in_here, in_there, in_keep, keep_le, all_cong, keep_in, keep_ascending, Each, map_cong}
use Rattle.laws.proofs.Orbits.{iter, around_path, Cyc}
use Rattle.laws.proofs.Tests.{by_cases, and_left, and_right}
use Rattle.laws.proofs.Volumes.{Volume, volume_is}
use Rattle.agreement.proofs.Described.{members, block_by, Map, Inv, Mine, mine_member, member_mine, darts_by, held_by, held_mine, next_at, opposite_at, third_is, in_order_by, kind_free, kind_sewn, kind_critical, by_kind, next_mine, opposite_mine}
use Rattle.agreement.proofs.Numbers.{first_six}

-- what is known of the cell v of a dart s in block i
pub record Cell (u : State) (i s : ℕ) (v : List ℕ) : Type 0 where
  pub in_order : ascending v ≡ true
  pub few : length v ≤ 4096
  pub has_start : In s v
  pub mine : (x : ℕ) → In x v → Mine u i x
  pub next_closed : (x : ℕ) → In x v → In (nx u x) v
  pub opposite_closed : (x : ℕ) → In x v → In (op u x) v
  pub next_back : (x : ℕ) → In x u.darts → In (nx u x) v → In x v
  pub opposite_back : (x : ℕ) → In x u.darts → In (op u x) v → In x v

module _ (u : State) (M : Map u) where
  next_stays : (x : ℕ) → In x u.darts → In (nx u x) u.darts
  next_stays = M.next_in_map

  -- the next dart leads back round the face
  pub round_again : (P : ℕ → Type 0) → ((x : ℕ) → P x → P (nx u x)) → (x : ℕ) → In x u.darts → P (nx u x) → P x
  round_again P step x h p = go (around_path (nx u) u.darts next_stays M.next_one (length u.darts) x (omega arith) h)
    where
      along : (n y : ℕ) → P y → P (iter (nx u) n y)
      along zero y q = q
      along (suc n) y q = along n (nx u y) (step y q)

      back : (n : ℕ) → 0 < n → iter (nx u) n x ≡ x → P x
      back zero l e = absurd (not-suc-le-zero l)
      back (suc n) l e = subst P e (along n (nx u x) p)

      go : Cyc (nx u) u.darts next_stays M.next_one (length u.darts) x → P x
      go r = back r.0 r.1 r.4

module _ (lims : ℕ → Limits) (fit : Fit lims) (k : ℕ) (u : State) (label : ℕ → Label) (I : Inv lims k u label) (i : ℕ) (below : i < k) where
  abbrev M : Map u
  M = I.map_sound

  abbrev ds : List Dart
  ds = darts_by u label i

  -- links of the block are those of the map
  next_same : (x : ℕ) → Mine u i x → next_in ds x ≡ nx u x
  next_same = next_at u label i

  opposite_same : (x : ℕ) → Mine u i x → opposite_in ds x ≡ op u x
  opposite_same = opposite_at u label i

  next_keeps : (x : ℕ) → Mine u i x → Mine u i (next_in ds x)
  next_keeps x h = rw (next_same x h) (next_mine u M i x h)

  opposite_keeps : (x : ℕ) → Mine u i x → Mine u i (opposite_in ds x)
  opposite_keeps x h = rw (opposite_same x h) (opposite_mine u M i x h)

  module _ (s : ℕ) (ms : Mine u i s) where
    abbrev v : List ℕ
    v = cell u s

    abbrev reached : List ℕ
    reached = volume (nx u) (op u) s

    members_stay_next : (x : ℕ) → In x (members u i) → In (nx u x) (members u i)
    members_stay_next x h = mine_member u i (nx u x) (next_mine u M i x (member_mine u i x h))

    members_stay_opposite : (x : ℕ) → In x (members u i) → In (op u x) (members u i)
    members_stay_opposite x h = mine_member u i (op u x) (opposite_mine u M i x (member_mine u i x h))

    reached_is : Volume (nx u) (op u) s reached
    reached_is = volume_is (nx u) (op u) (members u i) members_stay_next members_stay_opposite (let a = I.blocks_fit i below in let b = fit.block_fits i in omega arith) s (mine_member u i s ms)

    reached_mine : (x : ℕ) → In x reached → Mine u i x
    reached_mine = reached_is.least (Mine u i) ms (λ x h. next_mine u M i x h) (λ x h. opposite_mine u M i x h)

    in_cell : (x : ℕ) → In x reached → In x v
    unfolding cell
    in_cell x h = in_keep (λ y. mem y reached) x u.darts (reached_mine x h).here h

    cell_in : (x : ℕ) → In x v → In x reached
    unfolding cell
    cell_in x h = (keep_in (λ y. mem y reached) u.darts x h).1

    pub volume_same : volume_in ds s ≡ v
    unfolding volume_in cell
    volume_same = rw (volume_cong (next_in ds) (nx u) (Mine u i) next_keeps next_same (opposite_in ds) (op u) opposite_keeps opposite_same s ms)
        (volume_twice reached (serials ds) u.darts (in_order_by u label i M.ordered) M.ordered
        (λ x h. held_mine u label i x (reached_mine x h)) (λ x h. (reached_mine x h).here))

    fewer_darts : length v ≤ 4096
    unfolding cell
    fewer_darts =
        let same : v ≡ keep (λ x. mem x reached) (members u i) =
        volume_twice reached u.darts (members u i) M.ordered (keep_ascending (λ y. eqb (u.number y) i) u.darts M.ordered)
        (λ x h. (reached_mine x h).here) (λ x h. mine_member u i x (reached_mine x h)) in
        let a = ap length same in
        let b = keep_le (λ x. mem x reached) (members u i) in
        let c = I.blocks_fit i below in
        let d = fit.block_fits i in
        omega arith

    pub cell_is : Cell u i s v
    unfolding cell
    cell_is = record {
      in_order = keep_ascending (λ y. mem y reached) u.darts M.ordered;
      few = fewer_darts;
      has_start = in_cell s reached_is.here;
      mine = λ x h. reached_mine x (cell_in x h);
      next_closed = λ x h. in_cell (nx u x) (reached_is.closed_f x (cell_in x h));
      opposite_closed = λ x h. in_cell (op u x) (reached_is.closed_g x (cell_in x h));
      next_back = λ x h m. round_again u M (λ y. In y v) (λ y q. in_cell (nx u y) (reached_is.closed_f y (cell_in y q))) x h m;
      opposite_back = λ x h m. subst (λ (y : ℕ). In y v) (M.opposite_twice x h) (in_cell (op u (op u x)) (reached_is.closed_g (op u x) (cell_in (op u x) m)));
    }

    -- what holds of the start and goes on along both links holds of the cell
    pub reached_from : (P : ℕ → Type 0) → P s → ((x : ℕ) → P x → P (nx u x)) → ((x : ℕ) → P x → P (op u x)) → (y : ℕ) → In y v → P y
    reached_from P p f g y h = reached_is.least P p f g y (cell_in y h)

    -- faces of the cell
    pub faces_same : faces_in ds s ≡ faces (nx u) v
    unfolding faces_in
    faces_same = rw volume_same (faces_cong (next_in ds) (nx u) (Mine u i) next_keeps next_same v cell_is.mine)

    -- 12
    zero_not_in : mem 0 v ≡ false
    zero_not_in = go (mem 0 v) refl
      where
        go : (o : Bool) → mem 0 v ≡ o → mem 0 v ≡ false
        go false e = e
        go true e = absurd (let p = M.positive 0 (cell_is.mine 0 e).here in omega arith)

    other_not_in : (y : ℕ) → u.number y ≢ i → mem y v ≡ false
    other_not_in y n = go (mem y v) refl
      where
        go : (o : Bool) → mem y v ≡ o → mem y v ≡ false
        go false e = e
        go true e = absurd (n (cell_is.mine y e).block)

    within_same : (x : ℕ) → In x v → is_sewn_into v (third_at ds x) ≡ mem (th u x) v
    within_same x h = let m = cell_is.mine x h in rw (third_is u label i x m) (by_kind u label x
        (λ e. rw (kind_free u label x e, e) (sym zero_not_in))
        (λ t e. rw (kind_sewn u label x t e))
        (λ t e. rw (kind_critical u label x t e) (sym (other_not_in (th u x) (λ q. e (q ∙ sym m.block))))))

    pub twelve_same : all (λ x. not (is_sewn_into v (third_at ds x))) v ≡ all (λ x. not (mem (th u x) v)) v
    twelve_same = all_cong _ _ v (λ x h. ap not (within_same x h))

    -- 13
    pub vertex_same : (x : ℕ) → Mine u i x → vertex (next_in ds) (opposite_in ds) x ≡ vertex (nx u) (op u) x
    vertex_same = vertex_cong (next_in ds) (nx u) (opposite_in ds) (op u) (Mine u i) next_keeps opposite_keeps next_same opposite_same

    pub pairs_same : vertex_pairs (next_in ds) (opposite_in ds) v ≡ vertex_pairs (nx u) (op u) v
    unfolding vertex_pairs
    pairs_same = map_cong _ _ v (λ x h. let m = cell_is.mine x h in
        rw (next_same x m, vertex_same x m, vertex_same (nx u x) (next_mine u M i x m)))

    -- 14
    starts_in : (l : List ℕ) → ((x : ℕ) → In x l → In x v) → Each (λ f. In (start_of f) v) (map (cycle (nx u)) l)
    unfolding cycle around
    starts_in [] h = tt
    starts_in (x ∷ l) h = (h x (in_here x l), starts_in l (λ y m. h y (in_there y x l m)))

    pub face_starts : Each (λ f. In (start_of f) v) (faces (nx u) v)
    unfolding faces
    face_starts = starts_in (keep _ v) (λ x h. (keep_in _ v x h).0)

    keep_each : (p q : List ℕ → Bool) (l : List (List ℕ)) → Each (λ f. In (start_of f) v) l → ((f : List ℕ) → In (start_of f) v → p f ≡ q f) → keep p l ≡ keep q l
    keep_each p q [] e h = refl
    keep_each p q (f ∷ l) e h = rw (h f e.0, keep_each p q l e.1 h)

    abbrev pub is_inner : List ℕ → Bool
    is_inner f = let y = th u (start_of f) in not (eqb y 0) && not (mem y v) && eqb (u.number y) i

    pub out_same : (f : List ℕ) → In (start_of f) v → is_sewn_out_of v (third_at ds (start_of f)) ≡ is_inner f
    out_same f h = let x = start_of f in let m = cell_is.mine x h in rw (third_is u label i x m) (by_kind u label x
        (λ e. rw (kind_free u label x e, eq-eqb (th u x) 0 e))
        (λ t e. rw (kind_sewn u label x t e, ne_eqb (th u x) 0 t, eq-eqb (u.number (th u x)) i (e ∙ m.block)) (sym (and_true (not (mem (th u x) v)))))
        (λ t e. rw (kind_critical u label x t e, ne_eqb (th u x) 0 t, ne_eqb (u.number (th u x)) i (λ q. e (q ∙ sym m.block))) (sym (and_false (not (mem (th u x) v))))))
      where
        and_true : (b : Bool) → (b && true) ≡ b
        and_true true = refl
        and_true false = refl

        and_false : (b : Bool) → (b && false) ≡ false
        and_false true = refl
        and_false false = refl

    pub sewn_same : sewn_faces ds s ≡ keep is_inner (faces (nx u) v)
    unfolding sewn_faces
    sewn_same = rw (volume_same, faces_same) (keep_each _ is_inner (faces (nx u) v) face_starts out_same)

-- THE QUESTIONS, 9 to 14
module _ (lims : ℕ → Limits) (fit : Fit lims) (k : ℕ) (u : State) (label : ℕ → Label) (I : Inv lims k u label) (r : Request) (i-below : r.from < k) (j-below : r.to < k) where
  abbrev i : ℕ
  i = r.from

  abbrev j : ℕ
  j = r.to

  abbrev s : ℕ
  s = r.serial

  nine_same : (leb j 15 && not (eqb j i)) ≡ not (eqb j i)
  nine_same = let few = I.few_blocks in rw (le-leb j 15 (omega arith))

  -- in block i
  checks_mine : Mine u i s → departure_checks (lims i).volume_darts (block_by u label i) j s ≡ first_six lims u r
  unfolding departure_checks block_by inner_faces
  checks_mine m =
      let vs = volume_same lims fit k u label I i i-below s m in
      rw (nine_same, held_by u label i s, vs, twelve_same lims fit k u label I i i-below s m, pairs_same lims fit k u label I i i-below s m, sewn_same lims fit k u label I i i-below s m)

  -- elsewhere 10 is answered no
  checks_other : (mem s u.darts && eqb (u.number s) i) ≡ false → first_no (departure_checks (lims i).volume_darts (block_by u label i) j s) ≡ first_no (first_six lims u r)
  unfolding departure_checks block_by first_no
  checks_other n = rw (nine_same, held_by u label i s, n)

  pub questions_agree : first_no (departure_checks (lims i).volume_darts (block_by u label i) j s) ≡ first_no (first_six lims u r)
  questions_agree = by_cases (mem s u.darts && eqb (u.number s) i)
      (λ e. ap first_no (checks_mine (record { here = and_left (mem s u.darts) _ e; block = eqb-true (u.number s) i (and_right (mem s u.darts) _ e) })))
      (λ e. checks_other e)
