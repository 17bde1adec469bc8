-- The commit of a mesh, put entry by entry. Assumes nothing.
use Rattle.std.specs.Prelude.{None, Option, Some}
use mathlib.Core.Path.{◌≡◌, refl, sym, ap, ◌∙◌}
use mathlib.Core.Bool.{Bool, true, false, true≢false, cond}
use mathlib.Core.List.{List, ◌++◌}
use Prim.Native.Nat.{ℕ, ◌+◌, ◌*◌, ◌-◌, ◌≤◌, ◌<◌}
use native.Mathlib.Omega.{arith}
use lib.ListN.{length, take, drop, length-append}
use lib.Seq.{sets-eq, take-append_seam}
use Rattle.model.specs.Lists.{tab}
use Rattle.model.specs.Layouts.{coordinate}
use Rattle.laws.proofs.Tables.{length_tab}
use Rattle.columns.specs.Columns.{all_below}
use Rattle.columns.proofs.Below.{below_none, below_more, below_false}
use Rattle.groups.specs.Slices.{Stored}
use Rattle.groups.proofs.Coordinates.{coordinate_length}
use Rattle.groups.proofs.Writing.{stored_then, stored_length}
use Rattle.savefile.proofs.Pieces.{pieces, in_pieces, Placing, place_none, place_fits, place_more, place_all}
use Rattle.saving.specs.declared.commit.Entry.{Entry}
use Rattle.saving.specs.Commit.{entry_of, entry_bytes, commit_of}
use Rattle.saving.specs.Prepare.{savable, file_of, known, BlockEntered}
use Rattle.saving.proofs.Commits.{entry_length, pieces_length}
use Rattle.saving.proofs.Contents.{Filed}

-- ONE BLOCK'S ENTRY
known_some : (m : List ℕ) (b : ℕ) (e : Entry) → savable m b ≡ true → e ≡ entry_of (file_of m b) → Some e ≡ known m b
unfolding known
known_some m b e s h = rw (s, h)

pub known_none : (m : List ℕ) (b : ℕ) → savable m b ≡ false → None ≡ known m b
unfolding known
known_none m b s = rw s

-- the entry of the first bytes of a room
pub filed_entry : {m : List ℕ} {b n : ℕ} {room : List ℕ} {e : Entry} → Filed m b n room → e ≡ entry_of (take (n - 0) (drop 0 room)) → Some e ≡ known m b
filed_entry {m} {b} {n} {room} {e} f h =
    let z : n - 0 ≡ n = omega arith in
    known_some m b e f.has_file (h ∙ ap (λ (k : ℕ). entry_of (take k room)) z ∙ ap entry_of f.bytes)

known_cases : (s : Bool) (e f : Entry) → Some e ≡ cond s (Some f) None → (s ≡ true) × (e ≡ f)
known_cases true e f h = (refl, cc)
known_cases false e f h = let z : ◌≡◌ {A = ℕ} 0 1 = cc in absurd (omega arith)

known_not : (s : Bool) (f : Entry) → None ≡ cond s (Some f) None → s ≡ false
known_not true f h = let z : ◌≡◌ {A = ℕ} 0 1 = cc in absurd (omega arith)
known_not false f h = refl

-- ALL ENTRIES
abbrev entry_at : List ℕ → ℕ → List ℕ
entry_at m b = entry_bytes (entry_of (file_of m b))

entries_length : (m : List ℕ) (k : ℕ) → length (pieces (entry_at m) k) ≡ 16 * k
entries_length m k = pieces_length (entry_at m) k (λ b. entry_length (entry_of (file_of m b)))

-- bytes at the start of an array
first_bytes : {before after bytes : List ℕ} {past n : ℕ} → Stored before 0 bytes after past → n ≡ length bytes → length bytes ≤ length before → take n after ≡ bytes
first_bytes {before} {after} {bytes} {past} {n} s e h =
    let z : 0 + length bytes ≤ length before = omega arith in
    ap (λ (l : List ℕ). take n l) (s.slice ∙ sets-eq bytes before 0 z) ∙ ap (λ (i : ℕ). take i (bytes ++ drop (0 + length bytes) before)) e ∙ take-append_seam bytes (drop (0 + length bytes) before)

commit_is : (m : List ℕ) (k : ℕ) → commit_of (tab (λ b. entry_of (file_of m b)) k) ≡ coordinate.put k ++ pieces (entry_at m) k
unfolding commit_of
commit_is m k = rw (length_tab (λ b. entry_of (file_of m b)) k, in_pieces entry_bytes (λ b. entry_of (file_of m b)) k)

pub commit_length : (m : List ℕ) (k : ℕ) → length (commit_of (tab (λ b. entry_of (file_of m b)) k)) ≡ 8 + 16 * k
commit_length m k = ap length (commit_is m k) ∙ length-append (coordinate.put k) (pieces (entry_at m) k) ∙ sizes
  where
    sizes : length (coordinate.put k) + length (pieces (entry_at m) k) ≡ 8 + 16 * k
    sizes = omega (arith, coordinate_length k, entries_length m k)

-- while entries are put behind the first word: those of the blocks below b are, up to past, and each of these blocks has a file
pub record Entering (m : List ℕ) (k : ℕ) (start out : List ℕ) (past b : ℕ) : Type 0 where
  pub placing : Placing (entry_at m) k 8 start out past b
  pub all : true ≡ all_below (savable m) b

pub enter_none : {m : List ℕ} {k : ℕ} {before start : List ℕ} {past : ℕ} → 8 + 16 * k ≤ length before → Stored before 0 (coordinate.put k) start past → Entering m k start start past 0
enter_none {m} {k} {before} {start} {past} h s =
    let e : past ≡ 8 = omega (arith, s.past, coordinate_length k) in
    record { placing = rw e (place_none (entry_at m) k 8 start (omega (arith, entries_length m k, stored_length s))); all = below_none (savable m) }

module _ {m : List ℕ} {k : ℕ} {start out : List ℕ} {past b : ℕ} (w : Entering m k start out past b) where
  pub enter_fits : b < k → past + 16 ≤ length out
  enter_fits h = omega (arith, place_fits w.placing h, entry_length (entry_of (file_of m b)))

  pub enter_more : b < k → {e : Entry} {r : Option Entry} → Some e ≡ r → r ≡ known m b → {after : List ℕ} {next : ℕ} → Stored out past (entry_bytes e) after next
      → Entering m k start after next (b + 1)
  unfolding known
  enter_more h {e} i n {after} {next} s =
      let c = known_cases (savable m b) e (entry_of (file_of m b)) (i ∙ n) in
      record { placing = place_more w.placing h (rw c.1 at s); all = below_more (savable m) b w.all c.0 }

  pub enter_size : {before bytes : List ℕ} {at next : ℕ} → Stored before at bytes start next → length out ≡ length before
  enter_size s = stored_length w.placing.stored ∙ stored_length s

  pub enter_stop : b < k → {r : Option Entry} → None ≡ r → r ≡ known m b → {before bytes : List ℕ} {at next : ℕ} → Stored before at bytes start next → BlockEntered m k before out false
  unfolding known
  enter_stop h i n s = record {
    all = below_false (savable m) k b h (known_not (savable m b) (entry_of (file_of m b)) (i ∙ n));
    size = enter_size s;
    bytes = λ e. absurd (true≢false (sym e));
  }

  pub enter_end : k ≤ b → {before : List ℕ} {next : ℕ} → 8 + 16 * k ≤ length before → Stored before 0 (coordinate.put k) start next → BlockEntered m k before out true
  enter_end h {before} {next} room s =
      let e : b ≡ k = omega (arith, w.placing.i_le) in
      let c = coordinate_length k in
      let p : next ≡ 8 = omega (arith, s.past) in
      let word : Stored before 0 (coordinate.put k) start 8 = rw p at s in
      let whole = stored_then word (place_all w.placing h) in
      let n = length-append (coordinate.put k) (pieces (entry_at m) k) in
      let l = entries_length m k in
      record {
        all = w.all ∙ ap (all_below (savable m)) e;
        size = enter_size s;
        bytes = λ t. first_bytes {n = 8 + 16 * k} whole (omega arith) (omega arith) ∙ sym (commit_is m k);
      }
