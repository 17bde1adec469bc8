-- A round whose cell was received finishes, in any order of its last steps, with the memories that the state after the move describes.
-- Assumes nothing.
use mathlib.Core.Path.{◌≡◌, refl, sym, ◌∙◌, ap, subst}
use mathlib.Core.Logic.{◌≢◌}
use mathlib.Core.Bool.{Bool, true, false, true≢false, not, ◌&&◌}
use mathlib.Core.List.{List, [], ◌∷◌, map, Permᴰ}
use mathlib.Core.Option.{Option, none, some}
use Prim.Native.Nat.{ℕ, ◌<◌}
use native.Mathlib.Omega.{arith}
use lib.Dec.{eqb}
use lib.ListN.{length, set, length-set, length-map}
use lib.Seq.{get_or-set_same, get_or-set_other, ext_get_or}
use borrow.Author.Tests.{eqb-true, eqb-false, eq-eqb, ne_eqb, not-true}
use Rattle.model.specs.Lists.{keep, concat, tab, collect, concat_map, mem, distinct, ascending, first_no}
use Rattle.model.specs.Values.{Label, Dart, Block, Limits, is_critical_with}
use Rattle.model.specs.Cells.{cycle, start_of, third_at}
use Rattle.model.specs.Sound.{Fit}
use Rattle.model.specs.Image.{words_of, image, memory_of}
use Rattle.model.specs.Layouts.{framed}
use Rattle.model.specs.Messages.{transfer, Update, update, Message}
use Rattle.model.specs.Departure.{departure_checks, least_labels, update_for, updates_of, messages, released}
use Rattle.model.specs.Links.{relink}
use Rattle.model.specs.Arrival.{redirect_checks, update_links, redirected, redirected_from}
use Rattle.model.specs.Calls.{served, number_of, Result, storing, release, redirect}
use Rattle.model.specs.Runs.{Request}
use Rattle.model.specs.UndividedRun.{State, nx, th, cell}
use Rattle.model.specs.DividedRun.{releasing, Step, called, memory_at, run_steps, messages_in, addressee, redirect_step, last_steps}
use Rattle.laws.proofs.Members.{In, in_here, in_there, in_keep, in_cons, in_eq, keep_in, keep_ascending, ascending_distinct, Each}
use Rattle.laws.proofs.Tables.{length_tab, getD_tab, tab_any, map_tab, tab_ascending}
use Rattle.laws.proofs.Tests.{by_cases, and_intro, and_left, and_right, not_equal}
use Rattle.theory.proofs.CallLaws.{storing_serves, release_is, redirect_is}
use Rattle.theory.proofs.MessagesExact.{cut_messages}
use Rattle.agreement.proofs.BlockSound.{block_sound}
use Rattle.agreement.proofs.Described.{third_by, block_by, mesh_by, Map, Inv, darts_by, kind_free, kind_sewn, kind_critical, by_kind}
use Rattle.agreement.proofs.Moved.{Served, moved_cell, state_after, labels_after}
use Rattle.agreement.proofs.MovedCell.{Cell, faces_same}
use Rattle.agreement.proofs.NewLabels.{facing_starts, facing_are}
use Rattle.agreement.proofs.Redirected.{shared, chosen, told, redirected_is}
use Rattle.agreement.proofs.Released.{released_is}
use Rattle.agreement.proofs.Sent.{cell_faces, IsFace, all_faces, start_third, transfer_by, transfer_is}
use Rattle.agreement.proofs.SentLayout.{leaving_asks}
use Rattle.agreement.proofs.Steps.{Serves, blocks_of, Ran, steps_run, each_perm, mem_perm, distinct_perm}
use Rattle.agreement.proofs.Told.{told_read, told_addressee, told_asks}

relink_none : (d : Dart) → relink [] d ≡ d
unfolding relink
relink_none d = refl

map_none : (l : List Dart) → map (relink []) l ≡ l
map_none [] = refl
map_none (d ∷ l) = rw (relink_none d, map_none l)

no_members : (l : List ℕ) → ((z : ℕ) → In z l → ⊥) → l ≡ []
no_members [] h = refl
no_members (x ∷ l) h = absurd (h x (in_here x l))

map_empty : {A : Type 0} (f : ℕ → A) (l : List ℕ) → map f l ≡ [] → l ≡ []
map_empty f [] e = refl
map_empty f (x ∷ l) e = absurd (let z = ap length e in omega arith)

abbrev nonempty : {A : Type 0} → List A → Bool
nonempty [] = false
nonempty (a ∷ l) = true

module _ (lims : ℕ → Limits) (fit : Fit lims) (k : ℕ) (u : State) (label : ℕ → Label) (I : Inv lims k u label) (r : Request) (S : Served lims k u r) where
  abbrev M₈ : Map u
  M₈ = I.map_sound

  abbrev C₈ : Cell u r.from r.serial (cell u r.serial)
  C₈ = moved_cell lims fit k u label I r S

  abbrev ds₈ : List Dart
  ds₈ = darts_by u label r.from

  abbrev F₈ : List (List ℕ)
  F₈ = cell_faces lims fit k u label I r S

  abbrev after₈ : ℕ → Block
  after₈ = block_by (state_after lims fit k u label I r S) (labels_after lims fit k u label I r S)

  -- the faces shared with a block
  abbrev shared_with : ℕ → List (List ℕ)
  shared_with b = keep (λ f. is_critical_with b (third_at ds₈ (start_of f))) F₈

  -- a relative: another block than j that shares a face
  abbrev relative : ℕ → Bool
  relative b = nonempty (shared_with b) && not (eqb b r.to)

  -- its number is that of a block across
  pub record IsRelative (b : ℕ) : Type 0 where
    pub below : b < k
    pub not_from : b ≢ r.from
    pub not_to : b ≢ r.to

  from_face : (b : ℕ) (l : List (List ℕ)) → Each (IsFace lims fit k u label I r S) l → nonempty (keep (λ f. is_critical_with b (third_at ds₈ (start_of f))) l) ≡ true → (b < k) × (b ≢ r.from)
  from_face b [] e h = absurd (true≢false (sym h))
  from_face b (f ∷ l) e h = by_cases (is_critical_with b (third_at ds₈ (start_of f)))
      (λ t. let q = e.0 in
      let st = q.from_dart in
      let same : is_critical_with b (third_by u label st) ≡ true = rw (start_third lims fit k u label I r S f q) at t in
      let home = C₈.mine st q.in_cell in
      by_kind u label st
      (λ w. absurd (true≢false (sym same ∙ ap (is_critical_with b) (kind_free u label st w))))
      (λ y w. absurd (true≢false (sym same ∙ ap (is_critical_with b) (kind_sewn u label st y w))))
      (λ y w. let number : b ≡ u.number (th u st) = eqb-true b (u.number (th u st)) (sym (ap (is_critical_with b) (kind_critical u label st y w)) ∙ same) in
      (rw number (I.in_a_block (th u st) (M₈.third_in_map st home.here y)), λ z. w (sym number ∙ z ∙ sym home.block))))
      (λ t. from_face b l e.1 (rw t at h))

  relative_is : (b : ℕ) → relative b ≡ true → IsRelative b
  relative_is b h =
      let a = from_face b F₈ (all_faces lims fit k u label I r S) (and_left (nonempty (shared_with b)) _ h) in
      record { below = a.0; not_from = a.1; not_to = eqb-false b r.to (not-true (eqb b r.to) (and_right (nonempty (shared_with b)) _ h)) }

  abbrev told_to : (b : ℕ) → IsRelative b → Update
  told_to b q = told lims fit k u label I r S b q.below q.not_from q.not_to

  labels_told : (b : ℕ) (q : IsRelative b) → concat_map (least_labels ds₈) (shared_with b) ≡ (told_to b q).labels
  unfolding told
  labels_told b q = ap (concat_map (least_labels ds₈)) (facing_are u M₈ r.from r.serial (cell u r.serial) C₈ (shared lims fit k u label I r S b q.below q.not_from q.not_to))
      ∙ (chosen lims fit k u label I r S b q.below q.not_from q.not_to).labels_are

  -- the update for a block, if it is a relative
  for_relative : (b : ℕ) (q : IsRelative b) → nonempty (shared_with b) ≡ true → update_for (block_by u label r.from) r.to b (shared_with b) ≡ some (told_to b q)
  unfolding block_by
  for_relative b q n = go (shared_with b) refl n
    where
      go : (fs : List (List ℕ)) → shared_with b ≡ fs → nonempty fs ≡ true → update_for (record { number = r.from; counter = u.count r.from; darts = ds₈ }) r.to b fs ≡ some (told_to b q)
      go [] e h = absurd (true≢false (sym h))
      go (f ∷ fs) e h =
          unfold update_for in unfold told in
          (rw (ne_eqb b r.to q.not_to)
          (ap (λ (l : List Label). some (record { from = r.from; to = b; block = r.to; labels = l }))
          (ap (concat_map (least_labels ds₈)) (sym e) ∙ (unfold told in (labels_told b q)))))

  no_relative : (b : ℕ) → relative b ≡ false → update_for (block_by u label r.from) r.to b (shared_with b) ≡ none
  no_relative b h = go (shared_with b) refl
    where
      go : (fs : List (List ℕ)) → shared_with b ≡ fs → update_for (block_by u label r.from) r.to b fs ≡ none
      go [] e = unfold update_for in refl
      go (f ∷ fs) e = by_cases (eqb b r.to)
          (λ t. unfold update_for in (rw t))
          (λ t. absurd (true≢false (sym (and_intro (ap nonempty e) (not_equal b r.to (eqb-false b r.to t))) ∙ h)))

  -- THE UPDATES
  pub record Told (w : Update) : Type 0 where
    pub block : ℕ
    pub rel : IsRelative block
    pub is : w ≡ told_to block rel

  abbrev update_to : ℕ → Option Update
  update_to b = update_for (block_by u label r.from) r.to b (shared_with b)

  updates_told : (l : List ℕ) → Each Told (collect update_to l) × (map (λ w. w.to) (collect update_to l) ≡ keep relative l)
  updates_told [] = (tt, refl)
  updates_told (b ∷ l) = by_cases (relative b)
      (λ h. let q = relative_is b h in
      let ih = updates_told l in
      rw (h, for_relative b q (and_left (nonempty (shared_with b)) _ h))
      ((record { block = b; rel = q; is = refl }, ih.0), told_first b q (map (λ w. w.to) (collect update_to l)) (keep relative l) ih.1))
      (λ h. rw (h, no_relative b h) (updates_told l))
    where
      told_first : (b : ℕ) (q : IsRelative b) (x y : List ℕ) → x ≡ y → (told_to b q).to ∷ x ≡ b ∷ y
      told_first b q x y e = unfold told in (ap (λ (t : List ℕ). b ∷ t) e)

  updates_are : updates_of (block_by u label r.from) r.to r.serial ≡ collect update_to (tab (λ b. b) 16)
  unfolding updates_of block_by
  updates_are = rw (faces_same lims fit k u label I r.from S.from_below r.serial S.start_mine)

  pub all_told : Each Told (updates_of (block_by u label r.from) r.to r.serial)
  all_told = rw updates_are (updates_told (tab (λ b. b) 16)).0

  pub who_is_told : map (λ w. w.to) (updates_of (block_by u label r.from) r.to r.serial) ≡ keep relative (tab (λ b. b) 16)
  who_is_told = rw updates_are (updates_told (tab (λ b. b) 16)).1

  -- A BLOCK THAT NOBODY TELLS is as it was
  untold : (b : ℕ) (q : IsRelative b) → shared_with b ≡ [] → block_by u label b ≡ after₈ b
  untold b q e = sym same ∙ redirected_is lims fit k u label I r S b q.below q.not_from q.not_to
    where
      chosen_none : (chosen lims fit k u label I r S b q.below q.not_from q.not_to).picked_darts ≡ []
      chosen_none = no_members _ (λ z m.
          let w = (chosen lims fit k u label I r S b q.below q.not_from q.not_to).each z m in
          let none-start = map_empty (cycle (nx u)) (facing_starts u M₈ r.from r.serial (cell u r.serial) C₈ (shared lims fit k u label I r S b q.below q.not_from q.not_to))
          (sym (facing_are u M₈ r.from r.serial (cell u r.serial) C₈ (shared lims fit k u label I r S b q.below q.not_from q.not_to)) ∙ e) in
          true≢false (sym w.1 ∙ ap (mem w.0) none-start))

      same : redirected (block_by u label b) (told_to b q) ≡ block_by u label b
      same = unfold redirected in unfold update_links in unfold told in unfold block_by in (rw (chosen_none, map_none (darts_by u label b)))

  -- THE LAST STEPS SERVE
  abbrev before_memory : ℕ → List ℕ
  before_memory b = image (words_of (lims b)) (block_by u label b)

  abbrev after_memory : ℕ → List ℕ
  after_memory b = image (words_of (lims b)) (after₈ b)

  release_serves : first_no (departure_checks (lims r.from).volume_darts (block_by u label r.from) r.to r.serial) ≡ 0
      → Serves lims before_memory after_memory (record { block = r.from; call = releasing r.to r.serial })
  release_serves asks = record { does = unfold called in (ap (λ (w : Result (Unit {0})). record { number = number_of w.answer; memory = w.lent; sent = [] }) answered) }
    where
      answered : release (lims r.from) (before_memory r.from) r.to r.serial ≡ record { answer = served tt; lent = after_memory r.from }
      answered = release_is (lims r.from) (block_by u label r.from) (block_sound lims k u label I r.from S.from_below) r.to r.serial
          ∙ storing_serves (lims r.from) _ (before_memory r.from) (released (block_by u label r.from) r.to r.serial) asks
          ∙ ap (λ (b : Block). record { answer = served tt; lent = image (words_of (lims r.from)) b }) (released_is lims fit k u label I r S)

  redirect_serves : (w : Update) → Told w → Serves lims before_memory after_memory (redirect_step (framed update w))
  redirect_serves w t = rw t.is (record { does = unfold called in (rw there (ap (λ (a : Result (Unit {0})). record { number = number_of a.answer; memory = a.lent; sent = [] }) answered)) })
    where
      there : addressee (framed update (told_to t.block t.rel)) ≡ t.block
      there = told_addressee lims fit k u label I r S t.block t.rel.below t.rel.not_from t.rel.not_to

      answered : redirect (lims t.block) (before_memory t.block) (framed update (told_to t.block t.rel)) ≡ record { answer = served tt; lent = after_memory t.block }
      answered =
          redirect_is (lims t.block) (block_by u label t.block)
          (block_sound lims k u label I t.block t.rel.below) (framed update (told_to t.block t.rel))
          ∙ ap
          (λ (m : Message). storing (lims t.block) (redirect_checks (block_by u label t.block) m) (before_memory t.block)
          (redirected_from (block_by u label t.block) m))
          (told_read lims fit k u label I r S t.block t.rel.below t.rel.not_from t.rel.not_to)
          ∙ storing_serves (lims t.block) _ (before_memory t.block)
          (redirected (block_by u label t.block) (told_to t.block t.rel))
          (told_asks lims fit k u label I r S t.block t.rel.below t.rel.not_from t.rel.not_to)
          ∙ ap (λ (c : Block). record { answer = served tt; lent = image (words_of (lims t.block)) c }) (redirected_is lims fit k u label I r S t.block t.rel.below t.rel.not_from t.rel.not_to)

  -- WHAT IS SENT
  abbrev updates₈ : List Update
  updates₈ = updates_of (block_by u label r.from) r.to r.serial

  messages_are : messages (block_by u label r.from) r.to r.serial ≡ framed transfer (transfer_by lims fit k u label I r S) ∷ map (framed update) updates₈
  unfolding messages
  messages_are = rw (transfer_is lims fit k u label I r S)

  pub cut_again : messages_in (concat (messages (block_by u label r.from) r.to r.serial)) ≡ framed transfer (transfer_by lims fit k u label I r S) ∷ map (framed update) updates₈
  cut_again =
      cut_messages (lims r.from) (fit.block_fits r.from) (fit.volume_fits r.from) (block_by u label r.from)
      (block_sound lims k u label I r.from S.from_below) r.to r.serial (leaving_asks lims fit k u label I r S)
      ∙ messages_are

  -- THE LAST STEPS, on different blocks
  abbrev last₈ : List Step
  last₈ = last_steps r (framed transfer (transfer_by lims fit k u label I r S) ∷ map (framed update) updates₈)

  told_there : (b : ℕ) (q : IsRelative b) → (told_to b q).to ≡ b
  unfolding told
  told_there b q = refl

  redirect_blocks : (l : List Update) → Each Told l → blocks_of (map redirect_step (map (framed update) l)) ≡ map (λ w. w.to) l
  redirect_blocks [] e = refl
  redirect_blocks (w ∷ l) e = cons_same (addressee (framed update w)) w.to _ _ first (redirect_blocks l e.1)
    where
      cons_same : (x y : ℕ) (s t : List ℕ) → x ≡ y → s ≡ t → x ∷ s ≡ y ∷ t
      cons_same x y s t p q = rw (p, q)

      first : addressee (framed update w) ≡ w.to
      first = ap (λ (z : Update). addressee (framed update z)) e.0.is ∙ told_addressee lims fit k u label I r S e.0.block e.0.rel.below e.0.rel.not_from e.0.rel.not_to
          ∙ sym (told_there e.0.block e.0.rel) ∙ ap (λ (z : Update). z.to) (sym e.0.is)

  abbrev told_blocks : List ℕ
  told_blocks = keep relative (tab (λ b. b) 16)

  last_blocks : blocks_of last₈ ≡ r.from ∷ told_blocks
  last_blocks = ap (λ (l : List ℕ). r.from ∷ l) (redirect_blocks updates₈ all_told ∙ who_is_told)

  told_relative : (b : ℕ) → In b told_blocks → IsRelative b
  told_relative b h = relative_is b (keep_in relative (tab (λ b. b) 16) b h).1

  last_distinct : distinct (blocks_of last₈) ≡ true
  last_distinct =
      subst (λ (l : List ℕ). distinct l ≡ true) (sym last_blocks)
      (and_intro (from_not (mem r.from told_blocks) refl)
      (ascending_distinct told_blocks (keep_ascending relative (tab (λ b. b) 16) numbers_ascend)))
    where
      from_not : (o : Bool) → mem r.from told_blocks ≡ o → not (mem r.from told_blocks) ≡ true
      from_not false e = rw e
      from_not true e = absurd ((told_relative r.from e).not_from refl)

      numbers_ascend : ascending (tab (λ b. b) 16) ≡ true
      numbers_ascend = tab_ascending (λ b. b) 16 (λ i j l h. l)

  -- AFTERWARDS
  redirects_serve : (l : List Update) → Each Told l → Each (Serves lims before_memory after_memory) (map redirect_step (map (framed update) l))
  redirects_serve [] e = tt
  redirects_serve (w ∷ l) e = (redirect_serves w e.0, redirects_serve l e.1)

  each_block : (P : ℕ → Type 0) (cs : List Step) → ((b : ℕ) → In b (blocks_of cs) → P b) → Each (λ c. P c.block) cs
  each_block P [] h = tt
  each_block P (c ∷ cs) h = (h c.block (in_here c.block (blocks_of cs)), each_block P cs (λ b m. h b (in_there b c.block (blocks_of cs) m)))

  -- a step is at i or at a relative
  at_block : (P : ℕ → Type 0) → P r.from → ((b : ℕ) → IsRelative b → P b) → Each (λ c. P c.block) last₈
  at_block P p q = each_block P last₈ (λ b m. in_cons b r.from told_blocks (subst (λ (l : List ℕ). In b l) last_blocks m) (λ e. rw e p) (λ n. q b (told_relative b n)))

  pub memories_at : (b : ℕ) → b < k → memory_at (map (memory_of lims) (mesh_by k u label)) b ≡ before_memory b
  unfolding block_by
  memories_at b h = rw (map_tab (memory_of lims) (block_by u label) k) (getD_tab (λ c. memory_of lims (block_by u label c)) k b [] h)

  memories_length : length (map (memory_of lims) (mesh_by k u label)) ≡ k
  memories_length = length-map (mesh_by k u label) (memory_of lims) ∙ length_tab (block_by u label) k

  -- the memories once the cell is received
  abbrev pub received_memories : List (List ℕ)
  received_memories = set (map (memory_of lims) (mesh_by k u label)) r.to (after_memory r.to)

  received_length : length received_memories ≡ k
  received_length = length-set (map (memory_of lims) (mesh_by k u label)) r.to (after_memory r.to) ∙ memories_length

  not_yet : (b : ℕ) → b < k → b ≢ r.to → memory_at received_memories b ≡ before_memory b
  not_yet b h n = get_or-set_other (map (memory_of lims) (mesh_by k u label)) r.to b (after_memory r.to) [] n ∙ memories_at b h

  module _ (asks : first_no (departure_checks (lims r.from).volume_darts (block_by u label r.from) r.to r.serial) ≡ 0) (order : List Step) (any : Permᴰ order last₈) where
    ran : Ran lims before_memory after_memory order received_memories
    ran = steps_run lims before_memory after_memory order received_memories
        (each_perm (Serves lims before_memory after_memory) any (release_serves asks, redirects_serve updates₈ all_told))
        (each_perm (λ c. c.block < length received_memories) any (at_block (λ b. b < length received_memories) (rw received_length S.from_below) (λ b q. rw received_length q.below)))
        (distinct_perm any last_distinct)
        (each_perm (λ c. memory_at received_memories c.block ≡ before_memory c.block) any
        (at_block (λ b. memory_at received_memories b ≡ before_memory b) (not_yet r.from S.from_below S.apart_blocks) (λ b q. not_yet b q.below q.not_to)))

    pub finishes : (run_steps lims order received_memories).0 ≡ true
    finishes = ran.all_zero

    -- a block that is in no step
    stays : (b : ℕ) → b < k → mem b (r.from ∷ told_blocks) ≡ false → memory_at received_memories b ≡ after_memory b
    stays b h n = by_cases (eqb b r.to)
        (λ e. rw (eqb-true b r.to e) (get_or-set_same (map (memory_of lims) (mesh_by k u label)) r.to (after_memory r.to) [] (rw memories_length S.to_below)))
        (λ e. let nt = eqb-false b r.to e in
        let nf : b ≢ r.from = λ q. true≢false (sym (in_eq b r.from (r.from ∷ told_blocks) q (in_here r.from told_blocks)) ∙ n) in
        not_yet b h nt ∙ ap (image (words_of (lims b))) (untold b (record { below = h; not_from = nf; not_to = nt }) (nothing_shared (shared_with b) refl nt)))
      where
        not_relative : relative b ≡ true → ⊥
        not_relative t = true≢false (sym (in_there b r.from told_blocks (in_keep relative b (tab (λ c. c) 16) (in_sixteen b (let few = I.few_blocks in omega arith)) t)) ∙ n)
          where
            in_sixteen : (c : ℕ) → c < 16 → In c (tab (λ c. c) 16)
            in_sixteen c l = tab_any (eqb c) (λ c. c) 16 c l (eq-eqb c c refl)

        nothing_shared : (fs : List (List ℕ)) → shared_with b ≡ fs → b ≢ r.to → shared_with b ≡ []
        nothing_shared [] e t = e
        nothing_shared (f ∷ fs) e t = absurd (not_relative (and_intro (ap nonempty e) (not_equal b r.to t)))

    memory_after : (b : ℕ) → b < k → memory_at (run_steps lims order received_memories).1 b ≡ after_memory b
    memory_after b below =
        let told-or-not : mem b (blocks_of order) ≡ mem b (r.from ∷ told_blocks) = mem_perm b any ∙ ap (mem b) last_blocks in
        ran.changed b (rw received_length below) ∙ by_cases (mem b (r.from ∷ told_blocks)) (λ t. rw (told-or-not ∙ t)) (λ t. rw (told-or-not ∙ t) (stays b below t))

    pub memories_after : (run_steps lims order received_memories).1 ≡ map (memory_of lims) (mesh_by k (state_after lims fit k u label I r S) (labels_after lims fit k u label I r S))
    unfolding block_by
    memories_after =
        ext_get_or [] _ _
        (ran.same_length ∙ received_length
        ∙ sym
        (length-map (mesh_by k (state_after lims fit k u label I r S) (labels_after lims fit k u label I r S)) (memory_of lims)
        ∙ length_tab after₈ k)) (λ b h.
        let below : b < k = rw (ran.same_length ∙ received_length) at h in
        let there : memory_at (map (memory_of lims) (mesh_by k (state_after lims fit k u label I r S) (labels_after lims fit k u label I r S))) b ≡ after_memory b =
        rw (map_tab (memory_of lims) after₈ k) (getD_tab (λ c. memory_of lims (after₈ c)) k b [] below)
        in
        memory_after b below ∙ sym there)
