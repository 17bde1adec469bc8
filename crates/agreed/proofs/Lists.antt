-- THE PROMISE about `rounds::play_all`: on a sound mesh, with an outbox of 65,536 bytes, any list of requests has the outcomes of the undivided
-- run, leaves the images of a sound mesh that matches it, and changes no link and no point. Assumes nothing.
use mathlib.Core.Path.{◌≡◌, refl, sym, ◌∙◌, ap, subst}
use mathlib.Core.Bool.{true, false}
use mathlib.Core.List.Permᴰ
use mathlib.Core.List.{List, [], ◌∷◌, map}
use mathlib.Core.Option.{Option}
use Prim.Native.Nat.{ℕ, ◌≤◌}
use native.Mathlib.Omega.{arith}
use lib.Dec.{leb, ltb, eqb}
use lib.ListN.{length, take, length-map}
use lib.Seq.{take_at}
use borrow.Author.Tests.{ltb-true}
use Rattle.model.specs.Lists.{all, first_no, Check}
use Rattle.model.specs.Values.{Label, Block, limits_in}
use Rattle.model.specs.Sound.{Sound}
use Rattle.model.specs.Image.{memory_of}
use Rattle.model.specs.Runs.{Request, Outcome, refused_by}
use Rattle.model.specs.UndividedRun.{State, Whole, start, whole_map, request_checks, round_checks, after_move, Undivided, undivided}
use Rattle.model.specs.DividedRun.{last_steps, memory_at, sent_messages, Round}
use Rattle.model.specs.Demands.{Matches, Enough, ended, outbox_bytes}
use Rattle.laws.proofs.Members.{all_map}
use Rattle.laws.proofs.Tables.{length_tab}
use Rattle.laws.proofs.Tests.{by_cases, and_left, and_right, and_intro}
use Rattle.agreement.proofs.Agreement.{limits_fit}
use Rattle.agreement.proofs.Begins.{start_label, described, start_inv}
use Rattle.agreement.proofs.Described.{block_by, mesh_by, Inv}
use Rattle.agreement.proofs.Keeps.{keeps}
use Rattle.agreement.proofs.MeshSound.{says}
use Rattle.soundness.proofs.OutboxLength.{outbox_suffices}
use Rattle.rounds.specs.Played.{own_memories, round_in_order, outbox_after}
use Rattle.rounds.specs.Requests.{requests_in, outcome_number, PlayedRun, played_run, over_words}
use Rattle.rounds.proofs.Requests.{outbox_length, run_length}
use Rattle.agreed.specs.Course.{named, outside_checks, any_undivided, Course, course}
use Rattle.agreed.specs.Promise.{course_of, ListsAgree, Promise}
use Rattle.agreed.proofs.Outside.{refused_outside}

-- what a request keeps: its outcome, and the memories what the state and some labels describe
record Goes (viewers k : ℕ) (d : Round) (w : Undivided) : Type 0 where
  same_outcome : d.outcome ≡ w.outcome
  labels_now : ℕ → Label
  inv_now : Inv (limits_in viewers) k w.state labels_now
  memories_now : d.memories ≡ map (memory_of (limits_in viewers)) (mesh_by k w.state labels_now)

-- ONE REQUEST, whatever blocks it names
module _ (viewers k : ℕ) (u : State) (label : ℕ → Label) (I : Inv (limits_in viewers) k u label) (r : Request) (outbox : List ℕ) (long : outbox_bytes ≤ length outbox) where
  abbrev ms : List (List ℕ)
  ms = map (memory_of (limits_in viewers)) (mesh_by k u label)

  enough : Enough (limits_in viewers) ms r outbox
  enough = outbox_suffices (limits_in viewers r.from) ((limits_fit viewers).block_fits r.from) ((limits_fit viewers).volume_fits r.from)
      (memory_at ms r.from) r.to r.serial outbox long

  inside : named k r ≡ true → any_undivided viewers k u r ≡ record { outcome = ended (round_checks (limits_in viewers) u r); state = (undivided (limits_in viewers) u r).state }
  unfolding any_undivided
  inside n = rw n

  outside : named k r ≡ false → any_undivided viewers k u r ≡ record { outcome = refused_by (first_no (outside_checks viewers k u r)); state = u }
  unfolding any_undivided
  outside n = rw n

  goes_outside : named k r ≡ false → Goes viewers k (round_in_order viewers ms r outbox) (record { outcome = refused_by (first_no (outside_checks viewers k u r)); state = u })
  goes_outside n =
      let e = refused_outside viewers k u label I r outbox (last_steps r (sent_messages (limits_in viewers) ms r outbox)) n enough in
      record {
        same_outcome = ap (λ (d : Round). d.outcome) e;
        labels_now = label;
        inv_now = I;
        memories_now = ap (λ (d : Round). d.memories) e;
      }

  goes_inside : named k r ≡ true → Goes viewers k (round_in_order viewers ms r outbox)
      (record { outcome = ended (round_checks (limits_in viewers) u r); state = (undivided (limits_in viewers) u r).state })
  goes_inside n =
      let q = keeps (limits_in viewers) (limits_fit viewers) k u label I r (ltb-true r.from k (and_left (ltb r.from k) _ n)) (ltb-true r.to k (and_right (ltb r.from k) _ n))
      outbox (last_steps r (sent_messages (limits_in viewers) ms r outbox)) enough (Permᴰ.refl _) in
      record { same_outcome = q.outcome_is; labels_now = q.labels_now; inv_now = q.inv_now; memories_now = q.memories_now }

  goes : Goes viewers k (round_in_order viewers ms r outbox) (any_undivided viewers k u r)
  goes = by_cases (named k r) (λ n. rw (inside n) (goes_inside n)) (λ n. rw (outside n) (goes_outside n))

-- ALONG A LIST: the outcomes are the undivided run's, and the memories what its state and some labels describe
record Followed (viewers k : ℕ) (d : PlayedRun) (w : Course) : Type 0 where
  same_outcomes : d.outcomes ≡ w.outcomes
  labels_now : ℕ → Label
  inv_now : Inv (limits_in viewers) k w.state labels_now
  memories_now : d.memories ≡ map (memory_of (limits_in viewers)) (mesh_by k w.state labels_now)

follows : (viewers k : ℕ) (rs : List Request) (ms : List (List ℕ)) (outbox : List ℕ) (u : State) (label : ℕ → Label) → Inv (limits_in viewers) k u label
    → ms ≡ map (memory_of (limits_in viewers)) (mesh_by k u label) → outbox_bytes ≤ length outbox → Followed viewers k (played_run viewers ms outbox rs) (course viewers k u rs)
unfolding played_run course
follows viewers k [] ms outbox u label I e long = record { same_outcomes = refl; labels_now = label; inv_now = I; memories_now = e }
follows viewers k (r ∷ rs) ms outbox u label I e long =
    let q = subst (λ (x : List (List ℕ)). Goes viewers k (round_in_order viewers x r outbox) (any_undivided viewers k u r)) (sym e) (goes viewers k u label I r outbox long) in
    let size = outbox_length viewers ms r outbox in
    let rest = follows viewers k rs (round_in_order viewers ms r outbox).memories (outbox_after viewers ms r outbox) (any_undivided viewers k u r).state
    q.labels_now q.inv_now q.memories_now (omega (arith, size, long)) in
    record {
      same_outcomes = (λ i. q.same_outcome i ∷ rest.same_outcomes i);
      labels_now = rest.labels_now;
      inv_now = rest.inv_now;
      memories_now = rest.memories_now;
    }

-- THE UNDIVIDED RUN changes no link
links_stay : (viewers k : ℕ) (u : State) (r : Request) → (any_undivided viewers k u r).state.links ≡ u.links
unfolding any_undivided undivided after_move
links_stay viewers k u r = by_cases (named k r)
    (λ n. rw n (by_cases (eqb (first_no (request_checks (limits_in viewers) u r)) 0) (λ e. rw e refl) (λ e. rw e refl)))
    (λ n. rw n refl)

course_links : (viewers k : ℕ) (u : State) (rs : List Request) → (course viewers k u rs).state.links ≡ u.links
unfolding course
course_links viewers k u [] = refl
course_links viewers k u (r ∷ rs) = course_links viewers k (any_undivided viewers k u r).state rs ∙ links_stay viewers k u r

-- AN OUTCOME'S NUMBER is a question's
first_no_below : (qs : List Check) → all (λ q. leb q.0 29) qs ≡ true → leb (first_no qs) 29 ≡ true
unfolding first_no
first_no_below [] h = refl
first_no_below (q ∷ qs) h = by_cases q.1
    (λ t. rw t (first_no_below qs (and_right (leb q.0 29) _ h)))
    (λ t. rw t (and_left (leb q.0 29) _ h))

number_below : (viewers k : ℕ) (u : State) (r : Request) → leb (outcome_number (any_undivided viewers k u r).outcome) 29 ≡ true
unfolding any_undivided outside_checks round_checks
number_below viewers k u r = by_cases (named k r)
    (λ n. rw n (by_cases (eqb (first_no (round_checks (limits_in viewers) u r)) 0) (λ e. rw e refl) (λ e. rw e (first_no_below (round_checks (limits_in viewers) u r) refl))))
    (λ n. rw n (first_no_below (outside_checks viewers k u r) refl))

numbers_below : (viewers k : ℕ) (u : State) (rs : List Request) → all (λ o. leb (outcome_number o) 29) (course viewers k u rs).outcomes ≡ true
unfolding course
numbers_below viewers k u [] = refl
numbers_below viewers k u (r ∷ rs) = and_intro (number_below viewers k u r) (numbers_below viewers k (any_undivided viewers k u r).state rs)

-- ANY LIST
started : (viewers : ℕ) (bs : List Block) (sound : Sound (limits_in viewers) bs) → map (memory_of (limits_in viewers)) bs ≡ map (memory_of (limits_in viewers)) (mesh_by (length bs) (start bs) (start_label (limits_in viewers) bs sound))
started viewers bs sound = ap (map (memory_of (limits_in viewers))) (described (limits_in viewers) bs sound)

links_at_start : (bs : List Block) (x : ℕ) → (start bs).links x ≡ whole_map bs x
unfolding start
links_at_start bs x = refl

pub lists_agree : ListsAgree
lists_agree viewers bs outbox rs sound long =
    let w = course_of viewers bs rs in
    let f = follows viewers (length bs) rs (map (memory_of (limits_in viewers)) bs) outbox (start bs) (start_label (limits_in viewers) bs sound) (start_inv (limits_in viewers) bs sound) (started viewers bs sound) long in
    let m : Matches (limits_in viewers) (played_run viewers (map (memory_of (limits_in viewers)) bs) outbox rs).memories w.state = says (limits_in viewers) (length bs) w.state f.labels_now f.inv_now _ f.memories_now in
    record {
      same_outcomes = f.same_outcomes;
      never_unfinished = rw f.same_outcomes (numbers_below viewers (length bs) (start bs) rs);
      matches = m;
      same_count = sym (length-map m.mesh (memory_of (limits_in viewers))) ∙ ap length (sym m.images ∙ f.memories_now)
          ∙ length-map (mesh_by (length bs) w.state f.labels_now) (memory_of (limits_in viewers)) ∙ length_tab (block_by w.state f.labels_now) (length bs);
      same_map = λ x. m.same_map x ∙ ap (λ (l : ℕ → Option Whole). l x) (course_links viewers (length bs) (start bs) rs) ∙ links_at_start bs x;
    }

-- what `play_all` ensures is such a run
pub promise : Promise
promise viewers bs m requests outcomes outbox m' outcomes' outbox' sound images long p =
    let rs = take (length outcomes) (requests_in requests) in
    let a = lists_agree viewers bs outbox rs sound long in
    let d = played_run viewers (map (memory_of (limits_in viewers)) bs) outbox rs in
    let numbers = map outcome_number d.outcomes in
    let same : outcomes' ≡ over_words numbers outcomes = p.outcomes_are ∙ ap (λ (x : List (List ℕ)). over_words (map outcome_number (played_run viewers x outbox rs).outcomes) outcomes) images in
    let many : length numbers ≡ length rs = length-map d.outcomes outcome_number ∙ run_length viewers (map (memory_of (limits_in viewers)) bs) outbox rs in
    let left : own_memories viewers m' ≡ d.memories = p.memories_are ∙ ap (λ (x : List (List ℕ)). (played_run viewers x outbox rs).memories) images in
    record {
      outcomes_are = same ∙ ap (λ (os : List Outcome). over_words (map outcome_number os) outcomes) a.same_outcomes;
      never_unfinished = ap (λ (l : List ℕ). all (λ n. leb n 29) (take (length rs) l)) same
          ∙ ap (all (λ n. leb n 29)) (take_at numbers _ (length rs) many) ∙ all_map (λ n. leb n 29) outcome_number d.outcomes ∙ a.never_unfinished;
      matches = record {
        mesh = a.matches.mesh;
        images = left ∙ a.matches.images;
        sound = a.matches.sound;
        same_map = a.matches.same_map;
        same_cells = a.matches.same_cells;
        same_counts = a.matches.same_counts;
      };
      same_map = a.same_map;
    }
