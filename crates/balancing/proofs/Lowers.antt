-- THE NEXT MOVE: each move that next_move answers, carried out, gives a volume to a block that has two fewer at least, and so lowers the sum of
-- the squared counts. Assumes nothing.
--
-- The blocks afterwards are any that have the memories for images, sound or not: what is picked in them can be told from the image.
use mathlib.Core.Path.{◌≡◌, refl, sym, ◌∙◌, ap, subst}
use mathlib.Core.Logic.{◌≢◌}
use mathlib.Core.Bool.{true, not}
use mathlib.Core.List.{List, [], map}
use Prim.Native.Nat.{ℕ, ◌+◌, ◌<◌, ◌≤◌}
use native.Mathlib.Omega.{arith}
use lib.Dec.{leb, eqb}
use lib.ListN.{length, get_or, length-map}
use borrow.Author.Tests.{eqb-true, eqb-false, leb-true, le-leb, not-true}
use Rattle.model.specs.Lists.{tab, first_no}
use Rattle.model.specs.Values.{Label, Block, Limits, limits_in}
use Rattle.model.specs.Cells.{volume_in}
use Rattle.model.specs.Sound.{Sound, Fit, block_at, volume_limit}
use Rattle.model.specs.Image.{memory_of}
use Rattle.model.specs.Departure.{departure_checks}
use Rattle.model.specs.Balance.{Oracle, picked, counts, squared_counts, Move, move, can_move, next_of}
use Rattle.model.specs.Runs.{finished}
use Rattle.model.specs.UndividedRun.{State, start, cell, inner_faces, has_room, Undivided, undivided, round_checks}
use Rattle.model.specs.Demands.{request_of, Answers, CarriedOut, MoveLowers}
use Rattle.laws.proofs.Members.{In, keep_in}
use Rattle.laws.proofs.Tables.{length_tab, getD_tab}
use Rattle.laws.proofs.Tests.{and_left, and_right, yes_then, yes_first, no_more, first_no_append}
use Rattle.theory.proofs.MeshLaws.{mesh_parts}
use Rattle.agreement.proofs.AfterMove.{after, after_is}
use Rattle.agreement.proofs.Agreement.{limits_fit}
use Rattle.agreement.proofs.Begins.{start_label, described, start_inv}
use Rattle.agreement.proofs.Described.{members, block_by, mesh_by, dart_by, Inv, Mine, member_mine}
use Rattle.agreement.proofs.Keeps.{keeps, undivided_serves, ended_served}
use Rattle.agreement.proofs.MeshSound.{block_at_by, mesh_sound}
use Rattle.agreement.proofs.MovedCell.{volume_same, questions_agree}
use Rattle.agreement.proofs.Numbers.{first_six, round_split, refused_alike}
use Rattle.balancing.proofs.Chosen.{next_answered, Candidate, chosen}
use Rattle.balancing.proofs.Picked.{stands, count_by, picked_are, counts_are, donor_loses, recipient_gains, others_stay}
use Rattle.balancing.proofs.Shapes.{counts_same}
use Rattle.balancing.proofs.Sums.{Given, squares_fall}

-- 9 TO 14 with a limit: they hold with a wider one, and the volume keeps to it
module _ (most : ℕ) (b : Block) (j s : ℕ) (asks : first_no (departure_checks most b j s) ≡ 0) where
  eleven : (leb (length (volume_in b.darts s)) most ≡ true) × ((wide : ℕ) → most ≤ wide → first_no (departure_checks wide b j s) ≡ 0)
  unfolding departure_checks
  eleven =
      let q9 = yes_first 9 _ _ (λ z. omega arith) asks in
      let q10 = yes_first 10 _ _ (λ z. omega arith) q9.1 in
      let q11 = yes_first 11 _ _ (λ z. omega arith) q10.1 in
      let l = leb-true (length (volume_in b.darts s)) most q11.0 in
      (q11.0, λ wide h. yes_then 9 _ _ q9.0 ∙ yes_then 10 _ _ q10.0 ∙ yes_then 11 _ _ (le-leb _ wide (omega arith)) ∙ q11.1)

-- A MOVE THAT IS CHOSEN in a described mesh
module _ (lims : ℕ → Limits) (fit : Fit lims) (k : ℕ) (u : State) (label : ℕ → Label) (I : Inv lims k u label) (o : Oracle) (t : Move) where
  abbrev mesh : List Block
  mesh = mesh_by k u label

  abbrev c : ℕ → ℕ
  c = count_by o u

  abbrev d : ℕ
  d = t.donor

  abbrev r : ℕ
  r = t.recipient

  abbrev s : ℕ
  s = t.serial

  abbrev v : List ℕ
  v = cell u s

  abbrev u' : State
  u' = after u v d r (inner_faces u d v)

  -- what is known of it
  record Known : Type 0 where
    donor_below : d < k
    recipient_below : r < k
    two_more : c r + 2 ≤ c d
    mine : Mine u d s
    standing : stands o u s ≡ true
    six : first_no (first_six lims u (request_of t)) ≡ 0
    few : length v ≤ (lims r).volume_darts
    fits : has_room lims u (request_of t) ≡ true

  size_same : r < k → length (block_at mesh r).darts ≡ length (members u r)
  unfolding block_by
  size_same h = ap (λ (b : Block). length b.darts) (block_at_by k u label r h) ∙ length-map (members u r) (dart_by u label)

  volume_is_cell : d < k → Mine u d s → volume_in (block_at mesh d).darts s ≡ v
  unfolding block_by
  volume_is_cell h m = ap (λ (b : Block). volume_in b.darts s) (block_at_by k u label d h) ∙ volume_same lims fit k u label I d h s m

  picked_there : d < k → In s (picked o (block_at mesh d).darts) → Mine u d s × (stands o u s ≡ true)
  unfolding block_by
  picked_there h p =
      let q = subst (λ (l : List ℕ). In s l) (ap (λ (b : Block). picked o b.darts) (block_at_by k u label d h) ∙ picked_are lims fit k u label I o d h) p in
      let w = keep_in (stands o u) (members u d) s q in
      (member_mine u d s w.0, w.1)

  two_of : {a b x y : ℕ} → a + 2 ≤ b → a ≡ x → b ≡ y → x + 2 ≤ y
  two_of h p q = omega arith

  known_of : Candidate o mesh (tab c k) t → can_move lims mesh t ≡ true → Known
  unfolding can_move
  known_of q can =
      let n = length_tab c k in
      let dk : d < k = omega (arith, n, q.donor_below) in
      let rk : r < k = omega (arith, n, q.recipient_below) in
      let w = picked_there dk q.serial_picked in
      let asks = eqb-true _ 0 (and_left (eqb (first_no (departure_checks (volume_limit lims d r) (block_at mesh d) r s)) 0) _ can) in
      let room = and_right (eqb (first_no (departure_checks (volume_limit lims d r) (block_at mesh d) r s)) 0) _ can in
      record {
        donor_below = dk;
        recipient_below = rk;
        two_more = let g = leb-true (get_or (tab c k) r 0 + 2) (get_or (tab c k) d 0) q.gives in two_of g (getD_tab c k r 0 rk) (getD_tab c k d 0 dk);
        mine = w.0;
        standing = w.1;
        six = sym (questions_agree lims fit k u label I (request_of t) dk rk)
            ∙ ap (λ (b : Block). first_no (departure_checks (lims d).volume_darts b r s)) (sym (block_at_by k u label d dk))
            ∙ (eleven (volume_limit lims d r) (block_at mesh d) r s asks).1 (lims d).volume_darts (omega arith);
        few =
            let l : length (volume_in (block_at mesh d).darts s) ≤ volume_limit lims d r = leb-true _ _ (eleven (volume_limit lims d r) (block_at mesh d) r s asks).0 in
            let e = ap length (volume_is_cell dk w.0) in omega (arith, l, e);
        fits = ap (λ (x : ℕ). leb (x + length v) (lims r).block_darts) (sym (size_same rk))
            ∙ ap (λ (l : List ℕ). leb (length (block_at mesh r).darts + length l) (lims r).block_darts) (sym (volume_is_cell dk w.0)) ∙ room;
      }

  known : next_of lims o mesh ≡ move t → Known
  known e =
      let q = chosen lims o mesh t e in
      known_of (subst (λ (cs : List ℕ). Candidate o mesh cs t) (counts_are lims fit k u label I o) q.0) q.1

  module _ (K : Known) where
    apart : d ≢ r
    apart e = eqb-false r d (not-true _ (yes_first 9 (not (eqb r d)) _ (λ z. omega arith) K.six).0) (sym e)

    all_yes : first_no (round_checks lims u (request_of t)) ≡ 0
    all_yes = ap first_no (round_split lims u (request_of t)) ∙ first_no_append (first_six lims u (request_of t)) _ K.six refl
        ∙ yes_then 29 _ _ (le-leb _ _ K.few) ∙ yes_then 21 _ [] K.fits ∙ no_more

    serves : undivided lims u (request_of t) ≡ record { outcome = finished; state = u' }
    serves = undivided_serves lims u (request_of t)
        ((refused_alike lims u (request_of t)).1 all_yes)
        ∙ ap (λ (z : State). record { outcome = finished; state = z }) (after_is u (request_of t))

    -- of any blocks with the images of the mesh that is described afterwards
    given_after : (label' : ℕ → Label) → Inv lims k u' label' → (after : List Block) → map (memory_of lims) after ≡ map (memory_of lims) (mesh_by k u' label') → Given (counts o mesh) (counts o after)
    given_after label' I' after e = record {
      was = c;
      now = count_by o u';
      size = k;
      donor = d;
      recipient = r;
      before = counts_are lims fit k u label I o;
      after = counts_same lims o after (mesh_by k u' label') (mesh_parts lims (mesh_by k u' label') (mesh_sound lims k u' label' I')).blocks_sound e
          ∙ counts_are lims fit k u' label' I' o;
      donor_below = K.donor_below;
      recipient_below = K.recipient_below;
      apart = apart;
      falls = donor_loses lims fit k u label I o d K.donor_below s K.mine r apart (inner_faces u d v) K.standing;
      rises = recipient_gains lims fit k u label I o d K.donor_below s K.mine r apart (inner_faces u d v) K.standing;
      stays = λ b h. others_stay lims fit k u label I o d K.donor_below s K.mine r apart (inner_faces u d v) K.standing b;
      two_more = K.two_more;
    }

  -- what is shown of a mesh's move
  Gives : List Block → Type 0
  Gives l = next_of lims o l ≡ move t → CarriedOut lims l t (λ w. (w.outcome ≡ finished)
      × ((after : List Block) → w.memories ≡ map (memory_of lims) after → Given (counts o l) (counts o after)))

  gives_described : Gives mesh
  unfolding Gives
  gives_described e outbox order enough any =
      let K = known e in
      let kept = keeps lims fit k u label I (request_of t) K.donor_below K.recipient_below outbox order enough any in
      let I' : Inv lims k u' kept.labels_now = subst (λ (w : Undivided). Inv lims k w.state kept.labels_now) (serves K) kept.inv_now in (
        kept.outcome_is ∙ ended_served _ (all_yes K),
        λ after f. given_after K kept.labels_now I' after (sym f ∙ kept.memories_now ∙ ap (λ (w : Undivided). map (memory_of lims) (mesh_by k w.state kept.labels_now)) (serves K)),
      )

-- EVERY MOVE
module _ (lims : ℕ → Limits) (fit : Fit lims) where
  pub move_gives : (m : List Block) (o : Oracle) (t : Move) → Sound lims m → Answers lims o m t → CarriedOut lims m t (λ w. (w.outcome ≡ finished)
      × ((after : List Block) → w.memories ≡ map (memory_of lims) after → Given (counts o m) (counts o after)))
  unfolding Gives
  move_gives m o t sound (scratch, b, e, f) =
      let k = length m in
      let label = start_label lims m sound in
      subst (λ (l : List Block). Gives lims fit k (start m) label (start_inv lims m sound) o t l) (sym (described lims m sound))
      (gives_described lims fit k (start m) label (start_inv lims m sound) o t) (sym (next_answered lims fit m o scratch b sound e) ∙ f)

  pub move_lowers : MoveLowers lims
  unfolding squared_counts
  move_lowers m o t sound a outbox order enough any =
      let w = move_gives m o t sound a outbox order enough any in
      (w.0, λ after e. squares_fall (w.1 after e))

-- with every set of viewers
pub mesh_move_lowers : (viewers : ℕ) → MoveLowers (limits_in viewers)
mesh_move_lowers viewers = move_lowers (limits_in viewers) (limits_fit viewers)
