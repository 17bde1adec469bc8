-- The block that receives a cell is the one that the state after the move describes. Assumes nothing.
use mathlib.Core.Path.{◌≡◌, refl, sym, ◌∙◌, ap}
use mathlib.Core.Logic.{◌⊎◌, inl, inr, ◌≢◌}
use mathlib.Core.Bool.{Bool, true, false, true≢false, cond, not, ◌&&◌, ◌||◌}
use mathlib.Core.List.{List, [], ◌∷◌, ◌++◌, map}
use mathlib.Core.Option.{none, some, none-ne-some}
use Prim.Native.Nat.{ℕ, ◌+◌, ◌<◌}
use lib.Dec.{eqb}
use lib.ListN.{length}
use borrow.Author.Tests.{eqb-true, eqb-false, eq-eqb, ne_eqb, not-true}
use Rattle.model.specs.Lists.{any, keep, concat, more, collect, concat_map, zip, mem, distinct, find}
use Rattle.model.specs.Values.{Label, Third, free, sewn, critical, Dart, Limits}
use Rattle.model.specs.Cells.{cycle, vertex, start_of, vertices, vertex_number, serials, previous_in, labelled}
use Rattle.model.specs.Sound.{Fit}
use Rattle.model.specs.Messages.{Part2, Part4, Transfer}
use Rattle.model.specs.Departure.{part2_entry}
use Rattle.model.specs.Links.{same_pair, pairs_once, vertex_pairs, Placed, placed, Link, relink, label_faces, sew_both}
use Rattle.model.specs.Arrival.{new_darts, face_from, part2_links, part3_links, part4_links, critical_links, transfer_links, insert_all, received}
use Rattle.model.specs.Runs.{Request}
use Rattle.model.specs.UndividedRun.{State, nx, op, th, cell}
use Rattle.laws.proofs.Faces.{face_sym, along_face, order_has, order_only}
use Rattle.laws.proofs.Members.{In, or_left, or_right, in_here, in_there, in_cons, in_eq, any_in, append_in, keep_ascending, Each, each_append, any_map, map_map, map_cong, keep_true, each_weaken, each_keep}
use Rattle.laws.proofs.Tests.{by_cases, and_intro, and_left, and_right, or_cases, no_here, same_truth}
use Rattle.laws.proofs.Orbits.{around_some}
use Rattle.agreement.proofs.Described.{pt, third_by, dart_by, members, block_by, Crossing, Map, Inv, serials_by, find_by, table_unique, Mine, mine_member, member_mine, darts_by, in_order_by, kind_free, kind_sewn, kind_critical, by_kind, third_back_linked}
use Rattle.agreement.proofs.Links.{Gives, relink_gives, find_append, faces_agree, faces_reach}
use Rattle.agreement.proofs.MeshSound.{labelled_by, previous_across}
use Rattle.agreement.proofs.Moved.{Served, moved_cell, cuts, state_after, labels_after}
use Rattle.agreement.proofs.MovedCell.{Cell}
use Rattle.agreement.proofs.NewLabels.{Facing, next_one_cell, facing_next, facing_distinct, cut_in, in_cut, cut_distinct}
use Rattle.agreement.proofs.Rebuilt.{new_darts_are}
use Rattle.agreement.proofs.Received.{face_again, part3_is, around_map, sew_gives, NotLinked, sew_reach, or_else, find_insert_all, insert_all_ascends}
use Rattle.theory.proofs.FaceIndices.{placed_keep, placed_each}
use Rattle.agreement.proofs.Released.{third_after, third_stays, third_met, moved_free, moved_met, moved_cut, moved_other}
use Rattle.agreement.proofs.Rings.{vertex_turn, vertex_opposite, vertex_point}
use Rattle.agreement.proofs.Sent.{cell_faces, number_in, IsFace, all_faces, start_is, in_face_cell, face_faces, part4_by, is_inner_face, transfer_by}

placed_strip : (n : ℕ) (l : List (List ℕ)) → map (λ p. p.face) (placed n l) ≡ l
unfolding placed
placed_strip n [] = refl
placed_strip n (f ∷ l) = ap (λ (t : List (List ℕ)). f ∷ t) (placed_strip (n + length f) l)

-- where every pair occurs once, a pair tells its element
pub pair_one : (f : ℕ → ℕ × ℕ) (l : List ℕ) → pairs_once (map f l) ≡ true → (x y : ℕ) → In x l → In y l → (f x).0 ≡ (f y).0 → (f x).1 ≡ (f y).1 → x ≡ y
unfolding pairs_once
pair_one f [] p x y h m a b = absurd (true≢false (sym h))
pair_one f (z ∷ l) p x y h m a b =
    let here = not-true (any (same_pair (f z)) (map f l)) (and_right (not (eqb (f z).0 (f z).1)) _ (and_left (not (eqb (f z).0 (f z).1) && not (any (same_pair (f z)) (map f l))) _ p)) in
    in_cons x z l h
    (λ q. in_cons y z l m (λ s. q ∙ sym s) (λ s. absurd (true≢false (sym (again z y s (ap (λ (w : ℕ). (f w).0) (sym q) ∙ a) (ap (λ (w : ℕ). (f w).1) (sym q) ∙ b)) ∙ here))))
    (λ q. in_cons y z l m (λ s. absurd (true≢false (sym (again z x q (ap (λ (w : ℕ). (f w).0) (sym s) ∙ sym a) (ap (λ (w : ℕ). (f w).1) (sym s) ∙ sym b)) ∙ here)))
    (λ s. pair_one f l (and_right (not (eqb (f z).0 (f z).1) && not (any (same_pair (f z)) (map f l))) _ p) x y q s a b))
  where
    again : (z y : ℕ) → In y l → (f z).0 ≡ (f y).0 → (f z).1 ≡ (f y).1 → any (same_pair (f z)) (map f l) ≡ true
    again z y m a b = any_map (same_pair (f z)) f l ∙ any_in (λ w. same_pair (f z) (f w)) l y m (and_intro (eq-eqb (f z).0 (f y).0 a) (eq-eqb (f z).1 (f y).1 b))

some_cycle : (f : ℕ → ℕ) (x : ℕ) → 0 < length (cycle f x)
unfolding cycle
some_cycle f x = around_some f x 4095 x

module _ (lims : ℕ → Limits) (fit : Fit lims) (k : ℕ) (u : State) (label : ℕ → Label) (I : Inv lims k u label) (r : Request) (S : Served lims k u r) where
  abbrev M₃ : Map u
  M₃ = I.map_sound

  abbrev v₃ : List ℕ
  v₃ = cell u r.serial

  abbrev C₃ : Cell u r.from r.serial v₃
  C₃ = moved_cell lims fit k u label I r S

  abbrev pub es : List Dart
  es = darts_by u label r.to

  abbrev T₃ : ℕ → Third
  T₃ = third_after lims fit k u label I r S

  abbrev t₀ : Transfer
  t₀ = transfer_by lims fit k u label I r S

  abbrev F : List (List ℕ)
  F = cell_faces lims fit k u label I r S

  abbrev PF : List Placed
  PF = placed 0 F

  abbrev Face : List ℕ → Type 0
  Face f = IsFace lims fit k u label I r S f

  one_cell : (x y : ℕ) → In x v₃ → In y v₃ → nx u x ≡ nx u y → x ≡ y
  one_cell = next_one_cell u M₃ r.from r.serial v₃ C₃

  -- faces have darts
  pub some_dart : (f : List ℕ) → Face f → 0 < length f
  some_dart f q = rw q.is_cycle (some_cycle (nx u) q.from_dart)

  pub all_some : Each (λ f. 0 < length f) F
  all_some = each_weaken F (all_faces lims fit k u label I r S) some_dart

  pub faces_again : Each (λ q. face_from t₀ q.at ≡ q.face) PF
  unfolding transfer_by
  faces_again = face_again (nx u) (number_in lims fit k u label I r S) t₀ F refl all_some

  placed_are : Each (λ q. Face q.face) PF
  placed_are = placed_each Face 0 F (all_faces lims fit k u label I r S)

  -- a face that meets j, dart by dart
  pub record Meeting (x : ℕ) : Type 0 where
    pub in_cell : In x v₃
    pub facing : Facing u r.to x

  meeting_next : (x : ℕ) → Meeting x → Meeting (nx u x)
  meeting_next x m = record { in_cell = C₃.next_closed x m.in_cell; facing = facing_next u M₃ r.from r.serial v₃ C₃ r.to x m.in_cell m.facing }

  pub meeting_crossing : (x : ℕ) → Meeting x → Crossing u x
  meeting_crossing x m = record {
    here = (C₃.mine x m.in_cell).here;
    linked = m.facing.linked;
    other = λ q. S.apart_blocks (sym (C₃.mine x m.in_cell).block ∙ sym q ∙ m.facing.block);
  }

  pub across_there : (x : ℕ) → Meeting x → Mine u r.to (th u x)
  across_there x m = record { here = M₃.third_in_map x (C₃.mine x m.in_cell).here m.facing.linked; block = m.facing.block }

  previous_is : (x : ℕ) → Meeting x → previous_in es (th u x) ≡ th u (nx u x)
  previous_is x m = ap (λ (b : ℕ). previous_in (darts_by u label b) (th u x)) (sym m.facing.block) ∙ previous_across lims k u label I x (meeting_crossing x m)

  third_one : (x y : ℕ) → Meeting x → Meeting y → th u x ≡ th u y → x ≡ y
  third_one x y a b e =
      sym (M₃.third_twice x (C₃.mine x a.in_cell).here a.facing.linked) ∙ ap (th u) e ∙ M₃.third_twice y (C₃.mine y b.in_cell).here b.facing.linked

  -- the face that it meets goes against next
  pub met_face : (x : ℕ) → Meeting x → cycle (previous_in es) (th u x) ≡ map (th u) (cycle (nx u) x)
  unfolding cycle
  met_face x m = around_map (nx u) (previous_in es) (th u) Meeting meeting_next previous_is third_one x 4096 x m m

  pub labelled_there : (x : ℕ) → Meeting x → labelled (label x) es ≡ dart_by u label (th u x)
  labelled_there x m = ap (λ (b : ℕ). labelled (label x) (darts_by u label b)) (sym m.facing.block) ∙ labelled_by lims k u label I x (meeting_crossing x m)

  met_twice : (x : ℕ) → Meeting x → T₃ (th u x) ≡ sewn x
  met_twice x m =
      let d = (C₃.mine x m.in_cell).here in
      let back = M₃.third_twice x d m.facing.linked in
      third_met lims fit k u label I r S (th u x) (S.leaves x m.in_cell) (in_eq (th u (th u x)) x v₃ back m.in_cell) (third_back_linked u M₃ x d m.facing.linked) m.facing.block
      ∙ ap sewn back

  -- one face of part 2
  abbrev pub met_links : Placed → Label → List Link
  met_links p l = part2_links es t₀ (record { label = l; index = p.at })

  met_links_are : (p : Placed) → face_from t₀ p.at ≡ p.face → (q : Face p.face) → Meeting q.from_dart → met_links p (label q.from_dart) ≡ sew_both (zip p.face (map (th u) p.face))
  unfolding part2_links dart_by
  met_links_are p again q m = rw (again, labelled_there q.from_dart m, met_face q.from_dart m, ← q.is_cycle)

  pub face_meeting : (p : Placed) → (q : Face p.face) → Meeting q.from_dart → (x : ℕ) → In x p.face → Meeting x
  face_meeting p q m x h = record { in_cell = in_face_cell lims fit k u label I r S p.face q x h; facing = face_faces lims fit k u label I r S p.face q r.to m.facing x h }

  met_gives : (p : Placed) → face_from t₀ p.at ≡ p.face → (q : Face p.face) → Meeting q.from_dart → Gives (met_links p (label q.from_dart)) T₃
  met_gives p again q m = rw (met_links_are p again q m) (sew_gives (th u) T₃ p.face (λ x h.
      let w = face_meeting p q m x h in
      (moved_met lims fit k u label I r S x w.in_cell w.facing.linked w.facing.block, met_twice x w)))

  -- PART 2, all faces
  abbrev parts2 : List Placed → List Part2
  parts2 ps = collect (λ p. part2_entry r.to p.at (third_by u label (start_of p.face))) ps

  -- what the start of a face says
  pub by_start : {A : Type 0} (P : Third → A → Type 0) (f : List ℕ) (q : Face f) (a : A) → (th u q.from_dart ≡ 0 → P free a)
      → (th u q.from_dart ≢ 0 → u.number (th u q.from_dart) ≡ r.from → P (sewn (th u q.from_dart)) a)
      → (th u q.from_dart ≢ 0 → u.number (th u q.from_dart) ≢ r.from → P (critical (u.number (th u q.from_dart)) (label q.from_dart)) a)
      → P (third_by u label (start_of f)) a
  by_start P f q a x y z =
      let st = q.from_dart in
      let home = (C₃.mine st q.in_cell).block in
      rw (start_is lims fit k u label I r S f q) (by_kind u label st
      (λ e. rw (kind_free u label st e) (x e))
      (λ t e. rw (kind_sewn u label st t e) (y t (e ∙ home)))
      (λ t e. rw (kind_critical u label st t e) (z t (λ w. e (w ∙ sym home)))))

  parts2_give : (ps : List Placed) → Each (λ q. face_from t₀ q.at ≡ q.face) ps → Each (λ q. Face q.face) ps → Gives (concat_map (part2_links es t₀) (parts2 ps)) T₃
  parts2_give [] a f = tt
  parts2_give (p ∷ ps) a f = by_start {A = Unit {0}} (λ x w. Gives (concat_map (part2_links es t₀) (more (part2_entry r.to p.at x) (parts2 ps))) T₃) p.face f.0 tt
      (λ e. parts2_give ps a.1 f.1)
      (λ t e. parts2_give ps a.1 f.1)
      (λ t e. by_cases (eqb (u.number (th u f.0.from_dart)) r.to)
      (λ c. rw c (each_append _ (met_links p (label f.0.from_dart)) (concat_map (part2_links es t₀) (parts2 ps))
      (met_gives p a.0 f.0 (record { in_cell = f.0.in_cell; facing = record { linked = t; block = eqb-true _ _ c } })) (parts2_give ps a.1 f.1)))
      (λ c. rw c (parts2_give ps a.1 f.1)))

  -- every dart of a face that meets j, and the dart across, is linked
  parts2_reach : (ps : List Placed) → Each (λ q. face_from t₀ q.at ≡ q.face) ps → Each (λ q. Face q.face) ps → (x y : ℕ) → In x (concat (map (λ p. p.face) ps)) → Facing u r.to x
      → (y ≡ x) ⊎ (y ≡ th u x) → NotLinked y (concat_map (part2_links es t₀) (parts2 ps)) → ⊥
  unfolding concat
  parts2_reach [] a f x y h c w = λ e. true≢false (sym h)
  parts2_reach (p ∷ ps) a f x y h c w = by_start {A = Unit {0}} (λ z s. NotLinked y (concat_map (part2_links es t₀) (more (part2_entry r.to p.at z) (parts2 ps))) → ⊥) p.face f.0 tt
      (λ e n. later (λ m. absurd ((start_faces m).linked e)) (λ k. parts2_reach ps a.1 f.1 x y k c w n))
      (λ t e n. later (λ m. absurd (S.apart_blocks (sym e ∙ (start_faces m).block))) (λ k. parts2_reach ps a.1 f.1 x y k c w n))
      (λ t e. by_cases (eqb (u.number (th u f.0.from_dart)) r.to)
      (λ d. rw d (λ n.
      let m : Meeting f.0.from_dart = record { in_cell = f.0.in_cell; facing = record { linked = t; block = eqb-true _ _ d } } in
      let q = find_append y (met_links p (label f.0.from_dart)) (concat_map (part2_links es t₀) (parts2 ps)) n in
      go (append_in x p.face (concat (map (λ p. p.face) ps)) h)
      (λ k. sew_reach (th u) p.face x y k w (rw (met_links_are p a.0 f.0 m) at q.0))
      (λ k. parts2_reach ps a.1 f.1 x y k c w q.1)))
      (λ d. rw d (λ n. later (λ m. absurd (eqb-false _ _ d (start_faces m).block)) (λ k. parts2_reach ps a.1 f.1 x y k c w n))))
    where
      go : In x p.face ⊎ In x (concat (map (λ p. p.face) ps)) → (In x p.face → ⊥) → (In x (concat (map (λ p. p.face) ps)) → ⊥) → ⊥
      go (inl k) i j = i k
      go (inr k) i j = j k

      start_faces : In x p.face → Facing u r.to f.0.from_dart
      start_faces m = back
        where
          back : Facing u r.to f.0.from_dart
          back = unfold cycle in (along_face (nx u) v₃ C₃.next_closed one_cell C₃.few (Facing u r.to) (facing_next u M₃ r.from r.serial v₃ C₃ r.to) x f.0.from_dart
              (in_face_cell lims fit k u label I r S p.face f.0 x m) c
              (face_sym (nx u) v₃ C₃.next_closed one_cell C₃.few f.0.from_dart x f.0.in_cell (rw f.0.is_cycle at m)))

      later : (In x p.face → ⊥) → (In x (concat (map (λ p. p.face) ps)) → ⊥) → ⊥
      later no_here no-there = go (append_in x p.face (concat (map (λ p. p.face) ps)) h) no_here no-there

  -- PART 3
  abbrev cuts₃ : List (List ℕ)
  cuts₃ = cuts lims fit k u label I r S

  pub links3 : concat_map (part3_links t₀) t₀.part3 ≡ label_faces (λ x. x) r.from r.from (u.count r.from) cuts₃
  unfolding transfer_by
  links3 = part3_is t₀ (u.count r.from) (keep (λ p. is_inner_face lims fit k u label I r S p.face) PF) (each_keep _ _ PF faces_again)
      ∙ ap (label_faces (λ x. x) r.from r.from (u.count r.from)) (placed_keep (is_inner_face lims fit k u label I r S) 0 F)

  pub cut_dart : (x : ℕ) → In x (concat cuts₃) → In x v₃ × Facing u r.from x
  cut_dart = cut_in u M₃ r.from r.serial v₃ C₃ S.leaves

  parts3_give : Gives (concat_map (part3_links t₀) t₀.part3) T₃
  parts3_give = rw links3 (faces_agree (λ x. x) T₃ r.from r.from (u.count r.from) cuts₃ (cut_distinct u M₃ r.from r.serial v₃ C₃ S.leaves)
      (λ x h. let c = cut_dart x h in moved_cut lims fit k u label I r S x c.0 c.1.linked c.1.block))

  parts3_reach : (x : ℕ) → In x v₃ → Facing u r.from x → NotLinked x (concat_map (part3_links t₀) t₀.part3) → ⊥
  parts3_reach x h c n = faces_reach (λ y. y) T₃ r.from r.from (u.count r.from) cuts₃ x (in_cut u M₃ r.from r.serial v₃ C₃ S.leaves x h c) (rw links3 at n)

  -- PART 4
  abbrev parts4 : List Placed → List Part4
  parts4 ps = collect (λ p. part4_by lims fit k u label I r S p (third_by u label (start_of p.face))) ps

  abbrev pub kept_links : ℕ → List ℕ → List Link
  kept_links o f = map (λ q. record { dart = q.0; third = critical o q.1 }) (zip f (map label f))

  kept_give : (o : ℕ) (f : List ℕ) → ((x : ℕ) → In x f → T₃ x ≡ critical o (label x)) → Gives (kept_links o f) T₃
  kept_give o [] h = tt
  kept_give o (x ∷ f) h = (sym (h x (in_here x f)), kept_give o f (λ y m. h y (in_there y x f m)))

  kept_reach : (o : ℕ) (f : List ℕ) (x : ℕ) → In x f → NotLinked x (kept_links o f) → ⊥
  kept_reach o [] x m e = true≢false (sym m)
  kept_reach o (y ∷ f) x m e = by_cases (eqb x y) (λ t. none-ne-some _ (sym (rw t at e))) (λ t. kept_reach o f x (rw t at m) (rw t at e))

  pub part4_face : (p : Placed) (o : ℕ) → face_from t₀ p.at ≡ p.face → part4_links t₀ (record { index = p.at; other = o; labels = map label p.face }) ≡ kept_links o p.face
  unfolding part4_links
  part4_face p o again = rw again

  other_dart : (p : Placed) (q : Face p.face) → th u q.from_dart ≢ 0 → u.number (th u q.from_dart) ≢ r.from → u.number (th u q.from_dart) ≢ r.to
      → (x : ℕ) → In x p.face → T₃ x ≡ critical (u.number (th u q.from_dart)) (label x)
  other_dart p q t e d x m =
      let c = face_faces lims fit k u label I r S p.face q (u.number (th u q.from_dart)) (record { linked = t; block = refl }) x m in
      moved_other lims fit k u label I r S x (in_face_cell lims fit k u label I r S p.face q x m) c.linked (λ w. e (sym c.block ∙ w)) (λ w. d (sym c.block ∙ w))
      ∙ ap (λ (o : ℕ). critical o (label x)) c.block

  parts4_give : (ps : List Placed) → Each (λ q. face_from t₀ q.at ≡ q.face) ps → Each (λ q. Face q.face) ps → Gives (concat_map (part4_links t₀) (parts4 ps)) T₃
  parts4_give [] a f = tt
  parts4_give (p ∷ ps) a f = by_start {A = Unit {0}} (λ x w. Gives (concat_map (part4_links t₀) (more (part4_by lims fit k u label I r S p x) (parts4 ps))) T₃) p.face f.0 tt
      (λ e. parts4_give ps a.1 f.1)
      (λ t e. parts4_give ps a.1 f.1)
      (λ t e. by_cases (eqb (u.number (th u f.0.from_dart)) r.to)
      (λ c. rw c (parts4_give ps a.1 f.1))
      (λ c. rw c (each_append _ (part4_links t₀ (record { index = p.at; other = u.number (th u f.0.from_dart); labels = map label p.face })) (concat_map (part4_links t₀) (parts4 ps))
      (rw (part4_face p (u.number (th u f.0.from_dart)) a.0)
      (kept_give (u.number (th u f.0.from_dart)) p.face (other_dart p f.0 t e (eqb-false _ _ c))))
      (parts4_give ps a.1 f.1))))

  parts4_reach : (ps : List Placed) → Each (λ q. face_from t₀ q.at ≡ q.face) ps → Each (λ q. Face q.face) ps → (x : ℕ) → In x (concat (map (λ p. p.face) ps)) → th u x ≢ 0
      → u.number (th u x) ≢ r.from → u.number (th u x) ≢ r.to → NotLinked x (concat_map (part4_links t₀) (parts4 ps)) → ⊥
  unfolding concat
  parts4_reach [] a f x h c d g = λ e. true≢false (sym h)
  parts4_reach (p ∷ ps) a f x h c d g = by_start {A = Unit {0}} (λ z s. NotLinked x (concat_map (part4_links t₀) (more (part4_by lims fit k u label I r S p z) (parts4 ps))) → ⊥) p.face f.0 tt
      (λ e n. go (append_in x p.face (concat (map (λ p. p.face) ps)) h) (λ m. (start_faces m).linked e) (λ k'. parts4_reach ps a.1 f.1 x k' c d g n))
      (λ t e n. go (append_in x p.face (concat (map (λ p. p.face) ps)) h) (λ m. d (sym (start_faces m).block ∙ e)) (λ k'. parts4_reach ps a.1 f.1 x k' c d g n))
      (λ t e. by_cases (eqb (u.number (th u f.0.from_dart)) r.to)
      (λ w. rw w (λ n. go (append_in x p.face (concat (map (λ p. p.face) ps)) h) (λ m. g (sym (start_faces m).block ∙ eqb-true _ _ w)) (λ k'. parts4_reach ps a.1 f.1 x k' c d g n)))
      (λ w. rw w (λ n.
      let q = find_append x (part4_links t₀ (record { index = p.at; other = u.number (th u f.0.from_dart); labels = map label p.face })) (concat_map (part4_links t₀) (parts4 ps)) n in
      go (append_in x p.face (concat (map (λ p. p.face) ps)) h)
      (λ m. kept_reach (u.number (th u f.0.from_dart)) p.face x m
      (rw (part4_face p (u.number (th u f.0.from_dart)) a.0) at q.0))
      (λ k'. parts4_reach ps a.1 f.1 x k' c d g q.1))))
    where
      go : In x p.face ⊎ In x (concat (map (λ p. p.face) ps)) → (In x p.face → ⊥) → (In x (concat (map (λ p. p.face) ps)) → ⊥) → ⊥
      go (inl m) i j = i m
      go (inr m) i j = j m

      start_faces : In x p.face → Facing u (u.number (th u x)) f.0.from_dart
      start_faces m =
          unfold cycle in
          (along_face (nx u) v₃ C₃.next_closed one_cell C₃.few (Facing u (u.number (th u x)))
          (facing_next u M₃ r.from r.serial v₃ C₃ (u.number (th u x))) x f.0.from_dart
          (in_face_cell lims fit k u label I r S p.face f.0 x m) (record { linked = c; block = refl })
          (face_sym (nx u) v₃ C₃.next_closed one_cell C₃.few f.0.from_dart x f.0.in_cell (rw f.0.is_cycle at m)))

  -- ALL LINKS
  abbrev pub all_links : List Link
  all_links = transfer_links es t₀

  links_are : all_links ≡ concat_map (part2_links es t₀) (parts2 PF) ++ (concat_map (part3_links t₀) t₀.part3 ++ concat_map (part4_links t₀) (parts4 PF))
  unfolding transfer_links critical_links transfer_by
  links_are = refl

  all_give : Gives all_links T₃
  all_give = rw links_are (each_append _ (concat_map (part2_links es t₀) (parts2 PF)) _ (parts2_give PF faces_again placed_are)
      (each_append _ (concat_map (part3_links t₀) t₀.part3) _ parts3_give (parts4_give PF faces_again placed_are)))

  placed_faces_all : map (λ p. p.face) PF ≡ F
  placed_faces_all = placed_strip 0 F

  in_placed : (x : ℕ) → In x v₃ → In x (concat (map (λ p. p.face) PF))
  in_placed x h = rw placed_faces_all (order_has (nx u) v₃ C₃.next_closed one_cell C₃.few x h)

  -- a dart of the cell without a new link is free
  new_third : (x : ℕ) → In x v₃ → NotLinked x all_links → free ≡ T₃ x
  new_third x h n = by_cases (eqb (th u x) 0)
      (λ z. sym (moved_free lims fit k u label I r S x (eqb-true (th u x) 0 z)))
      (λ z. absurd (linked_one (eqb-false (th u x) 0 z)))
    where
      apart_links : NotLinked x (concat_map (part2_links es t₀) (parts2 PF)) × NotLinked x (concat_map (part3_links t₀) t₀.part3 ++ concat_map (part4_links t₀) (parts4 PF))
      apart_links = find_append x (concat_map (part2_links es t₀) (parts2 PF)) _ (rw links_are at n)

      apart_rest : NotLinked x (concat_map (part3_links t₀) t₀.part3) × NotLinked x (concat_map (part4_links t₀) (parts4 PF))
      apart_rest = find_append x (concat_map (part3_links t₀) t₀.part3) _ apart_links.1

      linked_one : th u x ≢ 0 → ⊥
      linked_one t = by_cases (eqb (u.number (th u x)) r.to)
          (λ c. parts2_reach PF faces_again placed_are x x (in_placed x h) (record { linked = t; block = eqb-true _ _ c }) (inl refl) apart_links.0)
          (λ c. by_cases (eqb (u.number (th u x)) r.from)
          (λ d. parts3_reach x h (record { linked = t; block = eqb-true _ _ d }) apart_rest.0)
          (λ d. parts4_reach PF faces_again placed_are x (in_placed x h) t (eqb-false _ _ d) (eqb-false _ _ c) apart_rest.1))

  -- a dart of the block without a new link keeps its own
  old_third : (y : ℕ) → Mine u r.to y → NotLinked y all_links → third_by u label y ≡ T₃ y
  old_third y m n = by_cases (mem (th u y) v₃)
      (λ a. by_cases (eqb (th u y) 0)
      (λ z. let e = eqb-true (th u y) 0 z in kind_free u label y e ∙ sym (moved_free lims fit k u label I r S y e))
      (λ z. let t = eqb-false (th u y) 0 z in
      let back = M₃.third_twice y m.here t in
      absurd
      (parts2_reach PF faces_again placed_are (th u y) y (in_placed (th u y) a)
      (record { linked = third_back_linked u M₃ y m.here t; block = ap u.number back ∙ m.block }) (inr (sym back))
      (find_append y (concat_map (part2_links es t₀) (parts2 PF)) _ (rw links_are at n)).0)))
      (λ a. sym (third_stays lims fit k u label I r S y (stays_out y m) a))
    where
      stays_out : (y : ℕ) → Mine u r.to y → mem y v₃ ≡ false
      stays_out y m = go (mem y v₃) refl
        where
          go : (o : Bool) → mem y v₃ ≡ o → mem y v₃ ≡ false
          go false e = e
          go true e = absurd (S.apart_blocks (sym (C₃.mine y e).block ∙ m.block))

  -- THE DARTS AFTERWARDS
  abbrev dart_after : ℕ → Dart
  dart_after = dart_by (state_after lims fit k u label I r S) (labels_after lims fit k u label I r S)

  abbrev again : ℕ → Dart
  again x = record { serial = x; next = nx u x; opposite = op u x; third = free; point = pt u x }

  new_after : (x : ℕ) → In x v₃ → relink all_links (again x) ≡ dart_after x
  unfolding relink dart_by
  new_after x h = let q = relink_gives all_links T₃ all_give (again x) (new_third x h) in
      λ n. record { serial = x; next = nx u x; opposite = op u x; third = q n; point = pt u x }

  old_after : (y : ℕ) → Mine u r.to y → relink all_links (dart_by u label y) ≡ dart_after y
  unfolding relink dart_by
  old_after y m = let q = relink_gives all_links T₃ all_give (dart_by u label y) (old_third y m) in
      λ n. record { serial = y; next = nx u y; opposite = op u y; third = q n; point = pt u y }

  -- 13: a vertex pair is a dart's alone
  pub once_only : (x y : ℕ) → In x v₃ → In y v₃ → vertex (nx u) (op u) x ≡ vertex (nx u) (op u) y → vertex (nx u) (op u) (nx u x) ≡ vertex (nx u) (op u) (nx u y) → x ≡ y
  unfolding vertex_pairs
  once_only x y h m a b = pair_one (λ z. (vertex (nx u) (op u) z, vertex (nx u) (op u) (nx u z))) v₃ S.pairs x y h m a b

  -- the transfer's darts are the cell's
  pub new_are : new_darts t₀ ≡ map again (concat F)
  unfolding transfer_by vertices vertex_number
  new_are = new_darts_are (nx u) (op u) (vertex (nx u) (op u)) (pt u) v₃ C₃.next_closed one_cell C₃.few C₃.opposite_closed
      (λ x h. vertex_opposite u M₃ r.from r.serial v₃ C₃ x h) (λ x h. vertex_turn u M₃ r.from r.serial v₃ C₃ x h)
      once_only (λ x h. vertex_point u M₃ r.from r.serial v₃ C₃ x h) t₀ refl refl

  order_in_cell : (x : ℕ) → In x (concat F) → In x v₃
  order_in_cell = order_only (nx u) v₃ C₃.next_closed one_cell C₃.few

  pub order_distinct : distinct (concat F) ≡ true
  order_distinct = ap (λ (l : List (List ℕ)). distinct (concat l)) (sym (keep_true F)) ∙ facing_distinct u M₃ r.from r.serial v₃ C₃ (λ f. true)

  abbrev joined : List Dart
  joined = insert_all (map dart_after (concat F)) (map dart_after (members u r.to))

  new_serials : serials (map dart_after (concat F)) ≡ concat F
  new_serials = serials_by (state_after lims fit k u label I r S) (labels_after lims fit k u label I r S) (concat F)

  old_not : (x : ℕ) → In x (serials (map dart_after (concat F))) → find (λ d. d.serial) x (map dart_after (members u r.to)) ≡ none
  old_not x h = find_by (state_after lims fit k u label I r S) (labels_after lims fit k u label I r S) (members u r.to) x ∙ rw (not_there (mem x (members u r.to)) refl)
    where
      not_there : (o : Bool) → mem x (members u r.to) ≡ o → mem x (members u r.to) ≡ false
      not_there false e = e
      not_there true e = absurd (S.apart_blocks (sym (C₃.mine x (order_in_cell x (rw new_serials at h))).block ∙ (member_mine u r.to x e).block))

  new_distinct : distinct (serials (map dart_after (concat F))) ≡ true
  new_distinct = rw new_serials order_distinct

  members_join : (x : ℕ) → mem x (members (state_after lims fit k u label I r S) r.to) ≡ (mem x (concat F) || mem x (members u r.to))
  members_join x = same_truth _ _ forth back
    where
      forth : In x (members (state_after lims fit k u label I r S) r.to) → (mem x (concat F) || mem x (members u r.to)) ≡ true
      forth h = let m = member_mine (state_after lims fit k u label I r S) r.to x h in by_cases (mem x v₃)
          (λ a. or_left _ _ (order_has (nx u) v₃ C₃.next_closed one_cell C₃.few x a))
          (λ a. or_right (mem x (concat F)) _ (mine_member u r.to x (record { here = m.here; block = rw a at m.block })))

      back : (mem x (concat F) || mem x (members u r.to)) ≡ true → In x (members (state_after lims fit k u label I r S) r.to)
      back h = go (or_cases (mem x (concat F)) _ h)
        where
          go : (mem x (concat F) ≡ true) ⊎ (mem x (members u r.to) ≡ true) → In x (members (state_after lims fit k u label I r S) r.to)
          go (inl a) = let i = order_in_cell x a in mine_member (state_after lims fit k u label I r S) r.to x (record { here = (C₃.mine x i).here; block = rw i })
          go (inr a) = let m = member_mine u r.to x a in by_cases (mem x v₃)
              (λ i. mine_member (state_after lims fit k u label I r S) r.to x (record { here = m.here; block = rw i }))
              (λ i. mine_member (state_after lims fit k u label I r S) r.to x (record { here = m.here; block = rw i m.block }))

  joined_is : joined ≡ map dart_after (members (state_after lims fit k u label I r S) r.to)
  joined_is = table_unique joined (map dart_after (members (state_after lims fit k u label I r S) r.to))
      (insert_all_ascends (map dart_after (concat F)) (map dart_after (members u r.to)) new_distinct old_not
      (rw (serials_by (state_after lims fit k u label I r S) (labels_after lims fit k u label I r S) (members u r.to)) (keep_ascending (λ y. eqb (u.number y) r.to) u.darts M₃.ordered)))
      (in_order_by (state_after lims fit k u label I r S) (labels_after lims fit k u label I r S) r.to M₃.ordered)
      (λ x. find_insert_all (map dart_after (concat F)) (map dart_after (members u r.to)) new_distinct old_not x
      ∙ rw (
        find_by (state_after lims fit k u label I r S) (labels_after lims fit k u label I r S) (concat F) x,
        find_by (state_after lims fit k u label I r S) (labels_after lims fit k u label I r S) (members u r.to) x,
      )
      (either (mem x (concat F)) (mem x (members u r.to)) (dart_after x))
      ∙ ap (λ (o : Bool). cond o (some (dart_after x)) none) (sym (members_join x))
      ∙ sym (find_by (state_after lims fit k u label I r S) (labels_after lims fit k u label I r S) (members (state_after lims fit k u label I r S) r.to) x))
    where
      either : (a b : Bool) (d : Dart) → or_else (cond a (some d) none) (cond b (some d) none) ≡ cond (a || b) (some d) none
      either true b d = refl
      either false b d = refl

  count_there : (state_after lims fit k u label I r S).count r.to ≡ u.count r.to
  count_there = rw (ne_eqb r.to r.from (λ q. S.apart_blocks (sym q)))

  pub received_is : received (block_by u label r.to) t₀ ≡ block_by (state_after lims fit k u label I r S) (labels_after lims fit k u label I r S) r.to
  unfolding received block_by
  received_is = rw (
    count_there,
    new_are,
    map_map again (relink all_links) (concat F),
    map_cong (λ x. relink all_links (again x)) dart_after (concat F) (λ x h. new_after x (order_in_cell x h)),
    map_map (dart_by u label) (relink all_links) (members u r.to),
    map_cong (λ x. relink all_links (dart_by u label x)) dart_after (members u r.to) (λ x h. old_after x (member_mine u r.to x h)),
    joined_is,
  )
