-- START HERE: what is claimed. The three demands, and what the paper says beside them, about the definitions of the calls (Calls) and
-- of the two runs (DividedRun, UndividedRun). Assumes nothing.
--
-- HOW TO READ THIS. Words in quotation marks are the dispatcher's or the paper's. Each claim is a type over limits, and holds because a proof
-- of it is closed, with no hypothesis left over: of one block's calls for the rack's limits and for a viewer's, of a mesh for every set of
-- viewers, `Values.limits_in`:
--   Demand1                       agreement, Agreement.rack_demand1, viewer_demand1; of all that C lends: dmap, Keeps.c_keeps
--   Demand2                       agreement, Agreement.rack_demand2, viewer_demand2
--   Demand3                       agreement, Agreement.mesh_agreement
--   RoundNumbers, SameNumbers     agreement, Agreement.mesh_round_numbers, mesh_same_numbers
--   LeavesSound                   soundness, Served.rack_leaves_sound, viewer_leaves_sound
--   OutboxSuffices                soundness, OutboxLength.rack_outbox_suffices, viewer_outbox_suffices
--   MoveLowers, MovesEnd          balancing, Lowers.mesh_move_lowers, MovesEnd.mesh_moves_end
--   LevelMeans                    balancing, Levels.mesh_level_means
-- The code comes in by its contracts alone: for every input a call's answer, and what was lent to it, equal those of Calls. That a call ends
-- is proved of every function.
--
-- What would fool a reader, and where to look:
--   a `requires` that nobody meets        no public call has one. The hypotheses here: bytes are below 256; `Named`; `Enough` (65,536 bytes
--                                         always are); `Sound`, which check_mesh answers for any memory, and which Trials computes of a mesh
--   a definition that bends to the code   definitions cite no code: they are tests on lists, each beside its sentence of the paper. The
--                                         starred figures are computed from them (figures), and so is demand 3 on three blocks (Trials);
--                                         edits of a definition that must fail are in must-fail/
--   refusing all, or one fixed answer     an answer is the first no of questions that are written out (Calls.asked), and 0 if there is none;
--                                         in demand 3 the undivided run says which requests are refused
--   steps that are too few                `cycle` and `volume` (Cells) take a fixed number of steps. With any more they give the same: in a
--                                         sound block theory, EnoughSteps.face_steps, previous_steps, ring_steps, volume_steps; in a message
--                                         soundness, EnoughSteps.ring_steps, volume_steps; in the whole map agreement,
--                                         EnoughSteps.start_enough, and after every request undivided_enough. A face is then all that next
--                                         reaches (laws, Orbits.in_cycle, cycle_in), a volume the least set that is closed under next and
--                                         opposite (laws, Volumes.volume_is). `cut` (DividedRun): theory, CutLaws.messages_back; five groups
--                                         for a number (Layouts): theory, LayoutLaws.group_lawful
--
-- A ROUND, as Figures and Trials compute it: P (darts 1 to 6) and Q (7 to 12) are sewn 1-12, 2-11, 3-10 in block 0, whose counter is 0.
-- P goes to block 1; `==` is sewn, `~` a label.
--
--     block 0                                         block 1
--     [ P 1 == 12 Q ]  counter 0                      [ ]                  at first
--     [ P 1 == 12 Q ]  -- transfer, 97 bytes -->      [ ]                  write (send): block 0 stays as it is
--     [ P 1 == 12 Q ]                                 [ P 1 ~0.0.0 ]       take (receive): P's face is critical with block 0
--     [ 0.0.0~ 12 Q ]  counter 1                      [ P 1 ~0.0.0 ]       let go (release): the face left behind has the same labels
--
-- The whole map is the same throughout: the third link of 1 is 12, sewn at first, by the label afterwards. Then Q goes too, in 99 bytes whose
-- part 2 names 0.0.0: 1 and 12 are sewn again, in block 1, the label is gone, and block 0 is empty. Where P shared a face with a third
-- block, an update would stand behind the transfer, and that block would be told (redirect), before or after let go.
use Rattle.std.specs.Prelude.{◌≡◌, ◌≢◌, Bool, true, false, cond, ◌&&◌, ℕ, zero, suc, ◌+◌, ◌/◌, ◌<◌, ◌≤◌, leb, ltb, eqb, length, get_or, take, drop}
use mathlib.Core.List.{List, [], ◌∷◌, ◌++◌, map, Permᴰ}
use Rattle.model.specs.Lists.{all, mem, concat, first_no, Check}
use Rattle.model.specs.Values.{Block, Limits, Point}
use Rattle.model.specs.Sound.{Sound, block_at}
use Rattle.model.specs.Image.{words, words_of, image, memory_of, block_in, is_image}
use Rattle.model.specs.Layouts.{framed}
use Rattle.model.specs.Messages.{Transfer, Update, transfer, update, a_transfer, an_update, message_in}
use Rattle.model.specs.Pages.{paged, block_of}
use Rattle.model.specs.Departure.{transfer_of, updates_of, messages}
use Rattle.model.specs.Balance.{Oracle, counts, squared_counts, differences, Move, level, move, Balance}
use Rattle.model.specs.Calls.{served, refused, number_of, Result, empty, read_file, save_file, write_pages, read_pages, send, receive, release, redirect, check_mesh, next_move, next_move_by_number}
use Rattle.model.specs.Runs.{Request, Outcome, is_refused, refused_by, finished, unfinished}
use Rattle.model.specs.UndividedRun.{State, start, whole_map, holder, cell, Undivided, undivided, round_checks}
use Rattle.model.specs.DividedRun.{memory_at, messages_in, Step, last_steps, sent_messages, Round, round}

-- DEMAND 1: "A refused call returns that number only and changes no byte that was lent to it". What is lent by `&` stays because such a slice
-- cannot be written, so it is not among what a call returns. Through its C names a call is also lent a count or 21 words: dmap, CInterface.CKeeps
pub record Unchanged {A : Type 0} (lent : List ℕ) (r : Result A) : Type 0 where
  pub kept : (n : ℕ) → r.answer ≡ refused n → r.lent ≡ lent
  pub numbered : (n : ℕ) → r.answer ≡ refused n → n ≢ 0

pub record Demand1 (lim : Limits) (lims : ℕ → Limits) : Type 0 where
  pub empty_keeps : (n : ℕ) (m : List ℕ) → Unchanged m (empty lim n m)
  pub read_file_keeps : (file m : List ℕ) → Unchanged m (read_file lim file m)
  pub save_file_keeps : (m out : List ℕ) → Unchanged out (save_file lim m out)
  pub write_pages_keeps : (m out : List ℕ) → Unchanged out (write_pages lim m out)
  pub read_pages_keeps : (pages m : List ℕ) → Unchanged m (read_pages lim pages m)
  pub send_keeps : (m : List ℕ) (j s : ℕ) (outbox : List ℕ) → Unchanged outbox (send lim m j s outbox)
  pub receive_keeps : (m message : List ℕ) → Unchanged m (receive lim m message)
  pub release_keeps : (m : List ℕ) (j s : ℕ) → Unchanged m (release lim m j s)
  pub redirect_keeps : (m message : List ℕ) → Unchanged m (redirect lim m message)
  pub check_mesh_keeps : (m scratch : List ℕ) → Unchanged scratch (check_mesh lims m scratch)
  pub next_move_keeps : (m : List ℕ) (o : Oracle) (scratch : List ℕ) → Unchanged scratch (next_move lims m o scratch)
  pub numbered_keeps : (m : List ℕ) (n axis : ℕ) (low high : Point) (scratch : List ℕ) → Unchanged scratch (next_move_by_number lims m n axis low high scratch)

abbrev pub Bytes : List ℕ → Type 0
Bytes bs = all (λ b. ltb b 256) bs ≡ true

-- beside it: a served call that stores a block leaves a sound block's image, whatever file or message it was given
abbrev pub LeavesImage : Limits → Result (Unit {0}) → Type 0
LeavesImage lim r = r.answer ≡ served tt → is_image lim r.lent ≡ true

pub record LeavesSound (lim : Limits) : Type 0 where
  pub empty_leaves : (n : ℕ) (m : List ℕ) → LeavesImage lim (empty lim n m)
  pub read_file_leaves : (file m : List ℕ) → Bytes file → LeavesImage lim (read_file lim file m)
  pub read_pages_leaves : (pages m : List ℕ) → Bytes pages → LeavesImage lim (read_pages lim pages m)
  pub receive_leaves : (m message : List ℕ) → Bytes message → LeavesImage lim (receive lim m message)
  pub release_leaves : (m : List ℕ) (j s : ℕ) → LeavesImage lim (release lim m j s)
  pub redirect_leaves : (m message : List ℕ) → Bytes message → LeavesImage lim (redirect lim m message)

-- DEMAND 2: "Messages and block files have exactly the bytes, and blocks exactly the links, labels and points, that the published
-- definition of distributed maps and the paper's layouts give". The layouts are Messages.file, transfer and update; links, labels and
-- points are those of Departure and Arrival, which the calls store and write by definition. A block on pages has the layout Pages.pages.
-- Of block files
pub record FilesExact (lim : Limits) : Type 0 where
  -- "what is written reads back to the same block"
  pub reads_back : (m out into : List ℕ) (n : ℕ) → length into ≡ words_of lim → (save_file lim m out).answer ≡ served n
      → read_file lim (take n (save_file lim m out).lent) into ≡ record { answer = served tt; lent = m }
  -- "every file that is read is written back byte for byte"
  pub writes_back : (file into out : List ℕ) → Bytes file → length file ≤ length out → (read_file lim file into).answer ≡ served tt
      → save_file lim (read_file lim file into).lent out ≡ record { answer = served (length file); lent = file ++ drop (length file) out }

-- Of messages, for any memory, destination, serial and outbox where send is served: n bytes were written
pub record MessagesExact (lim : Limits) : Type 0 where
  -- "writes the transfer, then an update for each relative k"; "Bytes past the last message stay"
  pub sent_bytes : (m : List ℕ) (j s : ℕ) (outbox : List ℕ) (n : ℕ) → (send lim m j s outbox).answer ≡ served n
      → (send lim m j s outbox).lent ≡ concat (messages (block_in m) j s) ++ drop n outbox
  -- "Its first number is the length of the rest": cut by these numbers, they are the messages, and there is nothing else
  pub sent_messages_are : (m : List ℕ) (j s : ℕ) (outbox : List ℕ) (n : ℕ) → (send lim m j s outbox).answer ≡ served n
      → messages_in (take n (send lim m j s outbox).lent) ≡ messages (block_in m) j s
  -- "what is written reads back": read one by one they are the transfer and the updates, "by ascending k"
  pub sent_reads_back : (m : List ℕ) (j s : ℕ) (outbox : List ℕ) (n : ℕ) → (send lim m j s outbox).answer ≡ served n
      → map message_in (messages_in (take n (send lim m j s outbox).lent)) ≡ a_transfer (transfer_of (block_in m) j s) ∷ map an_update (updates_of (block_in m) j s)
  -- "exactly the bytes": whatever reads as a message "to the last byte" is that message's bytes, and no others
  pub transfer_only : (bytes : List ℕ) (t : Transfer) → Bytes bytes → message_in bytes ≡ a_transfer t → bytes ≡ framed transfer t
  pub update_only : (bytes : List ℕ) (u : Update) → Bytes bytes → message_in bytes ≡ an_update u → bytes ≡ framed update u

-- Of pages, which have a block's number, serials and links, and nothing else of it
pub record PagesExact (lim : Limits) : Type 0 where
  -- "A reader gets back the same serials and links": the block that is read has zero points and the least counter
  pub pages_read_back : (m out into : List ℕ) (n : ℕ) → length into ≡ words_of lim → (write_pages lim m out).answer ≡ served n
      → read_pages lim (take n (write_pages lim m out).lent) into ≡ record { answer = served tt; lent = image (words_of lim) (block_of (paged (block_in m))) }
  pub same_links : (b : Block) → paged (block_of (paged b)) ≡ paged b
  -- what is read was written by a sound block: by the one that is read
  pub pages_written_back : (bytes into out : List ℕ) → Bytes bytes → length bytes ≤ length out → (read_pages lim bytes into).answer ≡ served tt
      → write_pages lim (read_pages lim bytes into).lent out ≡ record { answer = served (length bytes); lent = bytes ++ drop (length bytes) out }
  -- "pages that no sound block gives get 3, 5, 6 or 7"
  pub others_refused : (bytes into : List ℕ) → Bytes bytes → length into ≡ words_of lim
      → ((m out : List ℕ) (n : ℕ) → (write_pages lim m out).answer ≡ served n → take n (write_pages lim m out).lent ≢ bytes)
      → mem (number_of (read_pages lim bytes into).answer) (3 ∷ 5 ∷ 6 ∷ 7 ∷ []) ≡ true

pub record Demand2 (lim : Limits) : Type 0 where
  pub of_files : FilesExact lim
  pub of_messages : MessagesExact lim
  pub of_pages : PagesExact lim

-- DEMAND 3
-- What holds between the memories of the divided run and the state of the undivided run: the memories are the images of a sound mesh, whose
-- "whole map and the undivided run's have the same darts, each with the same next, opposite and third link and the same point bit for
-- bit"; "each block has the same cells". Labels of a sound mesh lie below counters that equal the counts, and new ones start there: so
-- no number is used again.
pub record Matches (lims : ℕ → Limits) (ms : List (List ℕ)) (u : State) : Type 0 where
  pub mesh : List Block
  pub images : ms ≡ map (memory_of lims) mesh
  pub sound : Sound lims mesh
  pub same_map : (x : ℕ) → whole_map mesh x ≡ u.links x
  pub same_cells : (x : ℕ) → mem x u.darts ≡ true → holder mesh x ≡ u.number x
  pub same_counts : (b : ℕ) → b < length mesh → (block_at mesh b).counter ≡ u.count b

-- what is claimed of a request in a state of the undivided run: of its round, and of what it comes to there
abbrev pub Claim : Type 1
Claim = State → Request → Round → Undivided → Type 0

-- "exactly the same requests were refused. The mesh is sound after every request, and every round whose cell was taken finishes"
pub record Agree (lims : ℕ → Limits) (d : Round) (w : Undivided) : Type 0 where
  pub refused_alike : is_refused d.outcome ≡ is_refused w.outcome
  pub finishes : d.outcome ≢ unfinished
  pub matches : Matches lims d.memories w.state

-- "the outbox is long enough"
abbrev pub Enough : (ℕ → Limits) → List (List ℕ) → Request → List ℕ → Type 0
Enough lims ms r outbox = number_of (send (lims r.from) (memory_at ms r.from) r.to r.serial outbox).answer ≢ 15

-- "After every request, whatever order let go and the tells ran in": `order` is any order of the round's last steps
abbrev pub AfterEvery : Claim → (ℕ → Limits) → List (List ℕ) → State → List Request → Type 0
AfterEvery claim lims ms u [] = Unit {0}
AfterEvery claim lims ms u (r ∷ rs) = (outbox : List ℕ) (order : List Step) → Enough lims ms r outbox
    → Permᴰ order (last_steps r (sent_messages lims ms r outbox))
    → claim u r (round lims ms r outbox order) (undivided lims u r)
    × AfterEvery claim lims (round lims ms r outbox order).memories (undivided lims u r).state rs

-- "every block named is in the mesh"
abbrev pub Named : ℕ → List Request → Type 0
Named k rs = all (λ r. ltb r.from k && ltb r.to k) rs ≡ true

-- "Two runs agree on every list of requests to move a cell, refused ones included, started from any sound mesh"
abbrev pub Demand3 : (ℕ → Limits) → Type 0
Demand3 lims = (m : List Block) (rs : List Request) → Sound lims m → Named (length m) rs
    → Matches lims (map (memory_of lims) m) (start m) × AfterEvery (λ u r. Agree lims) lims (map (memory_of lims) m) (start m) rs

-- how a request ends that was asked these questions
abbrev pub ended : List Check → Outcome
ended qs = let n = first_no qs in cond (eqb n 0) finished (refused_by n)

-- the number of every round, by the questions that send and receive put
abbrev pub RoundNumbers : (ℕ → Limits) → Type 0
RoundNumbers lims = (m : List Block) (rs : List Request) → Sound lims m → Named (length m) rs
    → AfterEvery (λ u r d w. d.outcome ≡ ended (round_checks lims u r)) lims (map (memory_of lims) m) (start m) rs

-- "a round from a rack into a viewer with a cell of 65 to 512 darts": the sender may send so many, the destination may not take them
abbrev pub too_large_there : (ℕ → Limits) → State → Request → Bool
too_large_there lims u r = let n = length (cell u r.serial) in leb n (lims r.from).volume_darts && ltb (lims r.to).volume_darts n

-- and by the same number, "for all other rounds"
abbrev pub SameNumbers : (ℕ → Limits) → Type 0
SameNumbers lims = (m : List Block) (rs : List Request) → Sound lims m → Named (length m) rs
    → AfterEvery (λ u r d w. too_large_there lims u r ≡ false → d.outcome ≡ w.outcome) lims (map (memory_of lims) m) (start m) rs

-- THE NEXT MOVE
abbrev pub request_of : Move → Request
request_of t = record { from = t.donor; to = t.recipient; serial = t.serial }

-- the next move of a mesh is t
abbrev pub Answers : (ℕ → Limits) → Oracle → List Block → Move → Type 0
Answers lims o m t = (scratch : List ℕ) × (b : Balance) × ((next_move lims (concat (map (image words) m)) o scratch).answer ≡ served b) × (b.next ≡ move t)

-- what is claimed of a move of a mesh that is carried out: of the round, and of any blocks that it leaves
abbrev pub CarriedOut : (ℕ → Limits) → List Block → Move → (Round → Type 0) → Type 0
CarriedOut lims m t claim = (outbox : List ℕ) (order : List Step) → Enough lims (map (memory_of lims) m) (request_of t) outbox
    → Permᴰ order (last_steps (request_of t) (sent_messages lims (map (memory_of lims) m) (request_of t) outbox))
    → claim (round lims (map (memory_of lims) m) (request_of t) outbox order)

-- "The sum of the squared counts .. falls with every move", by two at least
abbrev pub MoveLowers : (ℕ → Limits) → Type 0
MoveLowers lims = (m : List Block) (o : Oracle) (t : Move) → Sound lims m → Answers lims o m t
    → CarriedOut lims m t (λ r. (r.outcome ≡ finished)
    × ((after : List Block) → r.memories ≡ map (memory_of lims) after → squared_counts o after + 2 ≤ squared_counts o m))

-- a run of next moves, each carried out, has at most n of them
abbrev pub EndsWithin : ℕ → (ℕ → Limits) → Oracle → List Block → Type 0
EndsWithin zero lims o m = (t : Move) → Answers lims o m t → ⊥
EndsWithin (suc n) lims o m = (t : Move) → Answers lims o m t
    → CarriedOut lims m t (λ r. (after : List Block) → Sound lims after → r.memories ≡ map (memory_of lims) after → EndsWithin n lims o after)

abbrev pub most_moves : ℕ
most_moves = 65536

-- so a run of next moves ends
abbrev pub MovesEnd : (ℕ → Limits) → Type 0
MovesEnd lims = (m : List Block) (o : Oracle) → Sound lims m → EndsWithin (differences o m / 2) lims o m × (differences o m / 2 ≤ most_moves)

-- "'Level' means that no two counts differ by two or more"
abbrev pub LevelMeans : (ℕ → Limits) → Type 0
LevelMeans lims = (m : List Block) (o : Oracle) (scratch : List ℕ) (b : Balance) → Sound lims m
    → (next_move lims (concat (map (image words) m)) o scratch).answer ≡ served b → b.next ≡ level
    → (i j : ℕ) → i < length m → j < length m → get_or (counts o m) i 0 ≤ get_or (counts o m) j 0 + 1

-- THE OUTBOX: so many bytes are always enough
abbrev pub outbox_bytes : ℕ
outbox_bytes = 65536

abbrev pub OutboxSuffices : Limits → Type 0
OutboxSuffices lim = (m : List ℕ) (j s : ℕ) (outbox : List ℕ) → outbox_bytes ≤ length outbox → number_of (send lim m j s outbox).answer ≢ 15
