-- A refused call changes nothing (demand 1), and what each call does on the memory of a sound block. Assumes nothing.
use mathlib.Core.Path.{◌≡◌, refl, sym, ◌∙◌}
use mathlib.Core.Logic.{◌≢◌}
use mathlib.Core.Bool.{true}
use mathlib.Core.List.{List, [], ◌∷◌, ◌++◌, append_assoc}
use mathlib.Core.Option.{Option, none, some}
use Prim.Native.Nat.{ℕ}
use native.Mathlib.Omega.{arith}
use lib.Dec.{leb, eqb}
use lib.ListN.{length, drop}
use borrow.Author.Tests.{eqb-true, eqb-false, eq-eqb, ne_eqb}
use Rattle.model.specs.Lists.{concat, Check, first_no}
use Rattle.model.specs.Values.{Block, Limits}
use Rattle.model.specs.Sound.{sound_block}
use Rattle.model.specs.Image.{words_of, image, block_in, is_image, memory_checks}
use Rattle.model.specs.Messages.{message_in, file}
use Rattle.model.specs.Departure.{departure_checks, messages, released}
use Rattle.model.specs.Arrival.{receive_checks, received_from, redirect_checks, redirected_from}
use Rattle.model.specs.Balance.{Oracle, numbered_oracle}
use Rattle.model.specs.Calls.{Answer, served, refused, number_of, asked, storing, writing, empty, read_file, save_file, write_pages, read_pages, send, receive, release, redirect, check_mesh, next_move, next_move_of, next_move_by_number}
use Rattle.model.specs.Demands.{Unchanged, Demand1}
use Rattle.laws.proofs.Tests.{by_cases, yes_then, yes_first}
use Rattle.theory.proofs.ImageLaws.{parts_of, ranges_of, block_back, image_is, is_image_of, image_length}

-- ANSWERS
module _ {A : Type 0} (qs : List Check) (before : List ℕ) (value : A) (after : List ℕ) where
  pub served_gives : first_no qs ≡ 0 → asked qs before value after ≡ record { answer = served value; lent = after }
  unfolding asked
  served_gives n = rw (eq-eqb (first_no qs) 0 n)

  pub refused_gives : first_no qs ≢ 0 → asked qs before value after ≡ record { answer = refused (first_no qs); lent = before }
  unfolding asked
  refused_gives n = rw (ne_eqb (first_no qs) 0 n)

  pub asked_number : number_of (asked qs before value after).answer ≡ first_no qs
  unfolding asked
  asked_number = by_cases (eqb (first_no qs) 0) (λ e. rw e (sym (eqb-true (first_no qs) 0 e))) (λ e. rw e)

  pub asked_unchanged : Unchanged before (asked qs before value after)
  unfolding asked
  asked_unchanged = by_cases (eqb (first_no qs) 0)
      (λ e. rw e (record { kept = λ n h. absurd (not_refused value n h); numbered = λ n h. absurd (not_refused value n h) }))
      (λ e. rw e (record { kept = λ n h. refl; numbered = λ n h z. eqb-false (first_no qs) 0 e (same_number (first_no qs) n h ∙ z) }))
    where
      not_refused : (v : A) (n : ℕ) → ◌≡◌ {A = Answer A} (served v) (refused n) → ⊥
      not_refused v n h = let z : ◌≡◌ {A = ℕ} 0 1 = cc in omega arith

      same_number : (m n : ℕ) → ◌≡◌ {A = Answer A} (refused m) (refused n) → m ≡ n
      same_number m n h = cc

served_same : {A : Type 0} (a b : A) → ◌≡◌ {A = Answer A} (served a) (served b) → a ≡ b
served_same a b h = cc

never_served : {A : Type 0} (n : ℕ) (b : A) → ◌≡◌ {A = Answer A} (refused n) (served b) → ⊥
never_served n b h = let z : ◌≡◌ {A = ℕ} 0 1 = cc in omega arith

-- a served call has had a yes to each question, and gives its value
pub served_value : {A : Type 0} (qs : List Check) (before : List ℕ) (value : A) (after : List ℕ) (v : A) → (asked qs before value after).answer ≡ served v
    → (first_no qs ≡ 0) × (value ≡ v)
unfolding asked
served_value qs before value after v e = by_cases (eqb (first_no qs) 0)
    (λ t. (eqb-true (first_no qs) 0 t, served_same value v (rw t at e)))
    (λ t. absurd (never_served (first_no qs) v (rw t at e)))

-- calls that store a block, and calls that write bytes
module _ (lim : Limits) (qs : List Check) (m : List ℕ) (b : Block) where
  pub storing_serves : first_no qs ≡ 0 → storing lim qs m b ≡ record { answer = served tt; lent = image (words_of lim) b }
  unfolding storing
  storing_serves e = served_gives qs m tt (image (words_of lim) b) e

  pub storing_refuses : first_no qs ≢ 0 → storing lim qs m b ≡ record { answer = refused (first_no qs); lent = m }
  unfolding storing
  storing_refuses e = refused_gives qs m tt (image (words_of lim) b) e

abbrev pub with_fifteen : List Check → List ℕ → List ℕ → List Check
with_fifteen qs out bytes = qs ++ (15, leb (length bytes) (length out)) ∷ []

pub writing_serves : (qs : List Check) (out bytes : List ℕ) → first_no (with_fifteen qs out bytes) ≡ 0
    → writing qs out bytes ≡ record { answer = served (length bytes); lent = bytes ++ drop (length bytes) out }
unfolding writing
writing_serves qs out bytes e = served_gives _ out (length bytes) (bytes ++ drop (length bytes) out) e

pub writing_refuses : (qs : List Check) (out bytes : List ℕ) → first_no (with_fifteen qs out bytes) ≢ 0
    → writing qs out bytes ≡ record { answer = refused (first_no (with_fifteen qs out bytes)); lent = out }
unfolding writing
writing_refuses qs out bytes e = refused_gives _ out (length bytes) (bytes ++ drop (length bytes) out) e

-- DEMAND 1
numbered_unchanged : (lims : ℕ → Limits) (m : List ℕ) (o : Option Oracle) (scratch : List ℕ) → Unchanged scratch (next_move_of lims m o scratch)
unfolding next_move
numbered_unchanged lims m none scratch = asked_unchanged _ scratch _ scratch
numbered_unchanged lims m (some o) scratch = asked_unchanged _ scratch _ scratch

pub demand1 : (lim : Limits) (lims : ℕ → Limits) → Demand1 lim lims
unfolding empty read_file save_file write_pages read_pages send receive release redirect check_mesh next_move next_move_by_number storing writing
demand1 lim lims = record {
  empty_keeps = λ n m. asked_unchanged _ m tt _;
  read_file_keeps = λ file m. asked_unchanged _ m tt _;
  save_file_keeps = λ m out. asked_unchanged _ out _ _;
  write_pages_keeps = λ m out. asked_unchanged _ out _ _;
  read_pages_keeps = λ pages m. asked_unchanged _ m tt _;
  send_keeps = λ m j s outbox. asked_unchanged _ outbox _ _;
  receive_keeps = λ m message. asked_unchanged _ m tt _;
  release_keeps = λ m j s. asked_unchanged _ m tt _;
  redirect_keeps = λ m message. asked_unchanged _ m tt _;
  check_mesh_keeps = λ m scratch. asked_unchanged _ scratch tt scratch;
  next_move_keeps = λ m o scratch. asked_unchanged _ scratch _ scratch;
  numbered_keeps = λ m n axis low high scratch. numbered_unchanged lims m (numbered_oracle n axis low high) scratch;
}

-- ANY MEMORY of which 1 and 2 are answered yes: what is read from it is a sound block
pub after_memory : (lim : Limits) (m : List ℕ) (qs : List Check) → first_no (memory_checks lim m ++ qs) ≡ 0 → (sound_block lim (block_in m) ≡ true) × (first_no qs ≡ 0)
unfolding memory_checks
after_memory lim m qs e =
    let q1 = yes_first 1 (eqb (length m) (words_of lim)) _ (λ z. omega arith) e in
    let q2 = yes_first 2 (is_image lim m) _ (λ z. omega arith) q1.1 in
    ((image_is lim m q2.0).1, q2.1)

-- THE MEMORY OF A SOUND BLOCK: 1 and 2 are answered yes
module _ (lim : Limits) (b : Block) (s : sound_block lim b ≡ true) where
  abbrev memory : List ℕ
  memory = image (words_of lim) b

  pub sound_length : length memory ≡ words_of lim
  sound_length = let few = (ranges_of lim b (parts_of lim b s).ranges).few_darts in image_length (words_of lim) b (omega arith)

  pub memory_yes : (qs : List Check) → first_no (memory_checks lim memory ++ qs) ≡ first_no qs
  unfolding memory_checks
  memory_yes qs = yes_then 1 (eqb (length memory) (words_of lim)) _ (eq-eqb (length memory) (words_of lim) sound_length) ∙ yes_then 2 (is_image lim memory) qs (is_image_of lim (words_of lim) b (omega arith) s)

  -- so each call asks the block's own questions and stores or writes what is the block's own
  asked_same : {A : Type 0} (qs : List Check) (before : List ℕ) (value : A) (after : List ℕ) → asked (memory_checks lim memory ++ qs) before value after ≡ asked qs before value after
  unfolding asked
  asked_same qs before value after = rw (memory_yes qs)

  pub save_file_is : (out : List ℕ) → save_file lim memory out ≡ writing [] out ((file lim).put b)
  unfolding save_file writing
  save_file_is out = rw (block_back lim (words_of lim) b s) (asked_same _ out _ _)

  pub send_is : (j x : ℕ) (outbox : List ℕ) → send lim memory j x outbox ≡ writing (departure_checks lim.volume_darts b j x) outbox (concat (messages b j x))
  unfolding send writing
  send_is j x outbox = rw (
    block_back lim (words_of lim) b s,
    append_assoc (memory_checks lim memory) (departure_checks lim.volume_darts b j x) ((15, leb (length (concat (messages b j x))) (length outbox)) ∷ []),
  ) (asked_same _ outbox _ _)

  pub receive_is : (message : List ℕ) → receive lim memory message ≡ storing lim (receive_checks lim b (message_in message)) memory (received_from b (message_in message))
  unfolding receive storing
  receive_is message = rw (block_back lim (words_of lim) b s) (asked_same _ memory tt _)

  pub release_is : (j x : ℕ) → release lim memory j x ≡ storing lim (departure_checks lim.volume_darts b j x) memory (released b j x)
  unfolding release storing
  release_is j x = rw (block_back lim (words_of lim) b s) (asked_same _ memory tt _)

  pub redirect_is : (message : List ℕ) → redirect lim memory message ≡ storing lim (redirect_checks b (message_in message)) memory (redirected_from b (message_in message))
  unfolding redirect storing
  redirect_is message = rw (block_back lim (words_of lim) b s) (asked_same _ memory tt _)
