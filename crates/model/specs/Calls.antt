-- The public calls on lent memory: for every input the answer and what is lent to be written, afterwards. Assumes nothing.
-- A block's memory, a mesh and the scratch are lists of 64-bit words; files, messages and outputs are lists of bytes. Each call asks
-- its questions in the paper's order. Numbers may be any: a serial or block number that is too large is one that nobody has.
use Rattle.std.specs.Prelude.{Bool, false, cond, ◌&&◌, List, [], ◌∷◌, ◌++◌, map, ℕ, ◌-◌, ◌*◌, ◌/◌, leb, eqb, ℤ, pos, negsuc, length, get_or, take, drop}
use Rattle.std.proofs.Math.Option.{Option, none, some}
use Rattle.model.specs.Lists.{all, concat, tab, is_some, first_no, Check}
use Rattle.model.specs.Values.{last_block, Point, Block, no_block, Limits}
use Rattle.model.specs.Layouts.{whole}
use Rattle.model.specs.Sound.{block_checks, mesh_checks}
use Rattle.model.specs.Image.{words, words_of, image, block_in, is_image, memory_checks, new_block}
use Rattle.model.specs.Messages.{file, message_in}
use Rattle.model.specs.Pages.{paged, block_of, pages, or_no_pages, paged_checks}
use Rattle.model.specs.Departure.{departure_checks, messages, released}
use Rattle.model.specs.Arrival.{receive_checks, received_from, redirect_checks, redirected_from}
use Rattle.model.specs.Balance.{Oracle, oracle_right, NextMove, level, blocked, move, Balance, balance_of, numbered_oracle}

-- ANSWERS: served with its values, or refused with a number alone
pub data Answer (A : Type 0) : Type 0 where
  served : A → Answer A
  refused : ℕ → Answer A

-- "A served call gives 0"; a refused one the number of its question
abbrev pub number_of : {A : Type 0} → Answer A → ℕ
number_of (served v) = 0
number_of (refused n) = n

-- the numbers that a call adds when it is served: none; the bytes written; the next move
abbrev pub values_of : {A : Type 0} → (A → List ℕ) → Answer A → List ℕ
values_of f (served v) = f v
values_of f (refused n) = []

abbrev pub no_values : Unit {0} → List ℕ
no_values u = []

abbrev pub written_values : ℕ → List ℕ
written_values n = n ∷ []

-- 0 level, 1 blocked, 2 a move; donor, recipient and serial, 0 where there is none
abbrev pub move_values : NextMove → List ℕ
move_values level = 0 ∷ 0 ∷ 0 ∷ 0 ∷ []
move_values blocked = 1 ∷ 0 ∷ 0 ∷ 0 ∷ []
move_values (move t) = 2 ∷ t.donor ∷ t.recipient ∷ t.serial ∷ []

-- a signed number as a word of 64 bits, two's complement
abbrev pub signed_word : ℤ → ℕ
signed_word (pos n) = n
signed_word (negsuc n) = 18446744073709551615 - n

-- then "the mean and each block's surplus"
abbrev pub balance_values : Balance → List ℕ
balance_values b = move_values b.next ++ b.mean ∷ map signed_word b.surplus

-- an answer, and afterwards the memory or bytes that were lent to be written
pub record Result (A : Type 0) : Type 0 where
  pub answer : Answer A
  pub lent : List ℕ

-- "Put in this order within each call; the first no gives its number"; a refused call leaves what was lent
unfoldable pub asked : {A : Type 0} → List Check → List ℕ → A → List ℕ → Result A
asked qs before value after =
    let n = first_no qs in
    let granted : Result _ = record { answer = served value; lent = after } in
    cond (eqb n 0) granted (record { answer = refused n; lent = before })

-- a call that stores a block
unfoldable pub storing : Limits → List Check → List ℕ → Block → Result (Unit {0})
storing lim qs m b = asked qs m tt (image (words_of lim) b)

-- a call that adds the bytes written, whose last question is 15: "Output long enough?"; bytes past those written stay
unfoldable pub writing : List Check → List ℕ → List ℕ → Result ℕ
writing qs out bytes = asked (qs ++ (15, leb (length bytes) (length out)) ∷ []) out (length bytes) (bytes ++ drop (length bytes) out)

-- the same where this question has another number
abbrev pub writing_asked : ℕ → List Check → List ℕ → List ℕ → Result ℕ
writing_asked n qs out bytes = asked (qs ++ (n, leb (length bytes) (length out)) ∷ []) out (length bytes) (bytes ++ drop (length bytes) out)

-- ONE BLOCK
-- 1, 9: "An empty block is made from its number alone, counter 0"
unfoldable pub empty : Limits → ℕ → List ℕ → Result (Unit {0})
empty lim n m = storing lim ((1, eqb (length m) (words_of lim)) ∷ (9, leb n last_block) ∷ []) m (new_block n [])

abbrev pub or_no_block : Option Block → Block
or_no_block none = no_block
or_no_block (some b) = b

-- 1, 3 to 8
unfoldable pub read_file : Limits → List ℕ → List ℕ → Result (Unit {0})
read_file lim bytes m =
    let b = whole (file lim) bytes in
    storing lim ((1, eqb (length m) (words_of lim)) ∷ (3, is_some b) ∷ block_checks (or_no_block b)) m (or_no_block b)

-- 1, 2, 15
unfoldable pub save_file : Limits → List ℕ → List ℕ → Result ℕ
save_file lim m out = writing (memory_checks lim m) out ((file lim).put (block_in m))

-- ON PAGES
-- 1, 2, 30: "One call writes all pages"; 30 "when the output can't hold all pages, put after 2"
unfoldable pub write_pages : Limits → List ℕ → List ℕ → Result ℕ
write_pages lim m out = writing_asked 30 (memory_checks lim m) out ((pages lim).put (paged (block_in m)))

-- 1, 3, 5 to 7: "A reader (2 is skipped) gets back the same serials and links"
unfoldable pub read_pages : Limits → List ℕ → List ℕ → Result (Unit {0})
read_pages lim bytes m =
    let w = whole (pages lim) bytes in
    let b = block_of (or_no_pages w) in
    storing lim ((1, eqb (length m) (words_of lim)) ∷ (3, is_some w) ∷ paged_checks b) m b

-- THE ROUND
-- 1, 2, 9 to 15: the paper's write
unfoldable pub send : Limits → List ℕ → ℕ → ℕ → List ℕ → Result ℕ
send lim m j s outbox = writing (memory_checks lim m ++ departure_checks lim.volume_darts (block_in m) j s) outbox (concat (messages (block_in m) j s))

-- 1, 2, 16 to 21: the paper's take
unfoldable pub receive : Limits → List ℕ → List ℕ → Result (Unit {0})
receive lim m message = let received = message_in message in
    storing lim (memory_checks lim m ++ receive_checks lim (block_in m) received) m (received_from (block_in m) received)

-- 1, 2, 9 to 14: the paper's let go
unfoldable pub release : Limits → List ℕ → ℕ → ℕ → Result (Unit {0})
release lim m j s = storing lim (memory_checks lim m ++ departure_checks lim.volume_darts (block_in m) j s) m (released (block_in m) j s)

-- 1, 2, 16, 17, 22: the paper's tell
unfoldable pub redirect : Limits → List ℕ → List ℕ → Result (Unit {0})
redirect lim m message = let received = message_in message in
    storing lim (memory_checks lim m ++ redirect_checks (block_in m) received) m (redirected_from (block_in m) received)

-- A MESH is lent as the images of its blocks one after the other; its length alone says how many there are
unfoldable pub memories : List ℕ → List (List ℕ)
memories m = tab (λ i. take words (drop (i * words) m)) (length m / words)

-- how large a scratch is, by the call that has it
abbrev pub scratch_entries : ℕ
scratch_entries = 65536

-- 1: whole images, and a scratch of so many entries, "zero before and after; an entry not zero before is a no"
unfoldable pub mesh_lent : ℕ → List ℕ → List ℕ → Bool
mesh_lent entries m scratch = eqb (length m / words * words) (length m) && eqb (length scratch) entries && all (eqb 0) scratch

-- 1, 2, 23 to 27; a viewer's block, by the number that its memory has, "is sound only with at most 256 darts"
unfoldable pub whole_mesh_checks : (ℕ → Limits) → List ℕ → List ℕ → List Check
whole_mesh_checks lims m scratch =
    (1, mesh_lent scratch_entries m scratch) ∷ (2, all (λ b. is_image (lims (get_or b 0 0)) b) (memories m)) ∷ mesh_checks (map block_in (memories m))

unfoldable pub check_mesh : (ℕ → Limits) → List ℕ → List ℕ → Result (Unit {0})
check_mesh lims m scratch = asked (whole_mesh_checks lims m scratch) scratch tt scratch

-- 1, 2, 23 to 28
unfoldable pub next_move : (ℕ → Limits) → List ℕ → Oracle → List ℕ → Result Balance
next_move lims m o scratch =
    asked (whole_mesh_checks lims m scratch ++ (28, oracle_right o) ∷ []) scratch (balance_of lims o (map block_in (memories m))) scratch

-- the same with the oracle by numbers; a number that no oracle has is refused by 28 in its turn
abbrev pub no_balance : Balance
no_balance = record { next = level; mean = 0; surplus = [] }

abbrev pub next_move_of : (ℕ → Limits) → List ℕ → Option Oracle → List ℕ → Result Balance
next_move_of lims m none scratch = asked (whole_mesh_checks lims m scratch ++ (28, false) ∷ []) scratch no_balance scratch
next_move_of lims m (some o) scratch = next_move lims m o scratch

unfoldable pub next_move_by_number : (ℕ → Limits) → List ℕ → ℕ → ℕ → Point → Point → List ℕ → Result Balance
next_move_by_number lims m n axis low high scratch = next_move_of lims m (numbered_oracle n axis low high) scratch
