-- The commit, word by word: how it is put and read. Assumes nothing.
use Rattle.std.specs.Prelude.{None, Some, MatchOption}
use Rattle.groups.specs.Slices.{MaybeRead}
use mathlib.Core.Path.{◌≡◌, refl, sym, ap, ◌∙◌}
use mathlib.Core.Bool.{true, ◌&&◌}
use mathlib.Core.List.{List, [], ◌∷◌, ◌++◌, append_assoc, append-nil}
use mathlib.Core.Logic.{◌⊎◌, inl, inr}
use Prim.Native.Nat.{ℕ, zero, suc, ◌+◌, ◌*◌, ◌%◌, ◌^◌, ◌<◌, ◌≤◌}
use native.Mathlib.Nat.{eq-or-lt_of_le, le_of_suc-le-suc}
use native.Mathlib.Omega.{arith}
use lib.Dec.{ltb, leb, eqb}
use lib.ListN.{length, get_or, drop, length-append}
use lib.Seq.{drop_at}
use borrow.Author.Tests.{lt-ltb, le-leb, lt-leb, eq-eqb, ne_eqb, leb-true}
use Rattle.model.specs.Lists.{tab, concat_map}
use Rattle.model.specs.Layouts.{coordinate}
use Rattle.laws.proofs.Lists.{drop_at_cons, drop_end}
use Rattle.laws.proofs.Tests.{by_cases, and_left, and_right}
use Rattle.theory.proofs.LayoutLaws.{coordinate_lawful}
use Rattle.groups.specs.Slices.{Stored, read_at}
use Rattle.groups.proofs.Coordinates.{coordinate_length, coordinate_short}
use Rattle.groups.proofs.Writing.{stored_then}
use Rattle.savefile.proofs.Pieces.{pieces, in_pieces}
use Rattle.saving.specs.declared.commit.Entry.{Entry}
use Rattle.saving.specs.Commit.{modulus, digest_from, digest, entry_of, entry_bytes, commit_of, value_in, commit_word, committed, entry_in}

-- THE DIGEST, of which the bytes before i gave h
pub record Digesting (bytes : List ℕ) (h i : ℕ) : Type 0 where
  pub within : i ≤ length bytes
  pub below : h < modulus
  pub same : digest_from h (drop i bytes) ≡ digest bytes

pub digest_none : (bytes : List ℕ) → Digesting bytes 0 0
unfolding digest
digest_none bytes = record { within = omega arith; below = omega arith; same = refl }

pub digest_more : {bytes : List ℕ} {h i b : ℕ} → Digesting bytes h i → i < length bytes → b ≡ get_or bytes i 0 → Digesting bytes ((h * 257 + b + 1) % 36028797018963913) (i + 1)
unfolding digest_from
digest_more {bytes} {h} {i} w l e = record { within = omega arith; below = omega arith; same = rw e (rw (drop_at_cons bytes i l) at w.same) }

pub digest_all : {bytes : List ℕ} {h i : ℕ} → Digesting bytes h i → length bytes ≤ i → h ≡ digest bytes
unfolding digest_from
digest_all {bytes} {h} {i} w l = rw (drop_end bytes i l) at w.same

-- PUT
pub entry_length : (e : Entry) → length (entry_bytes e) ≡ 16
unfolding entry_bytes
entry_length e = omega (arith, length-append (coordinate.put e.size) (coordinate.put e.digest), coordinate_length e.size, coordinate_length e.digest)

pub entry_put : (e : Entry) {before middle after : List ℕ} {at past next : ℕ} → Stored before at (coordinate.put e.size) middle past → Stored middle past (coordinate.put e.digest) after next
    → Stored before at (entry_bytes e) after next
unfolding entry_bytes
entry_put e s t = stored_then s t

-- READ
word_read : (s : List ℕ) (i : ℕ) (r : MaybeRead) → r ≡ read_at coordinate s (8 * i) → value_in r ≡ commit_word s i
unfolding commit_word
word_read s i r e = ap value_in e

pub word_by : (s : List ℕ) (i : ℕ) (r : MaybeRead) {n : ℕ} {Gives : ℕ × ℕ → Type 0} → r ≡ read_at coordinate s (8 * i) → MatchOption r (n ≡ 0) Gives → ((x : ℕ × ℕ) → Gives x → n ≡ x.0) → n ≡ commit_word s i
word_by s i (Some x) e m f = f x m ∙ word_read s i (Some x) e
word_by s i None e m f = m ∙ word_read s i None e

pub word_short : (s : List ℕ) (i : ℕ) → length s < 8 * i + 8 → 0 ≡ commit_word s i
word_short s i h = word_read s i None (coordinate_short (8 * i) s h)

pub committed_none : (s : List ℕ) (k : ℕ) → k ≡ commit_word s 0 → k ≡ 0 → 0 ≡ committed s
unfolding committed
committed_none s k e h = rw (← e, h)

pub committed_many : (s : List ℕ) (k : ℕ) → k ≡ commit_word s 0 → 16 < k → 0 ≡ committed s
unfolding committed
committed_many s k e h = rw (← e, lt-ltb 0 k (omega arith), lt-leb k 16 h)

pub committed_cut : (s : List ℕ) (k : ℕ) → k ≡ commit_word s 0 → 0 < k → k ≤ 16 → (length s ≡ 8 + 16 * k → ⊥) → 0 ≡ committed s
unfolding committed
committed_cut s k e l h n = rw (← e, lt-ltb 0 k l, le-leb k 16 h, ne_eqb (length s) (8 + 16 * k) n)

pub committed_all : (s : List ℕ) (k : ℕ) → k ≡ commit_word s 0 → 0 < k → k ≤ 16 → length s ≡ 8 + 16 * k → k ≡ committed s
unfolding committed
committed_all s k e l h n = rw (← e, lt-ltb 0 k l, le-leb k 16 h, eq-eqb (length s) (8 + 16 * k) n)

pub entry_short : (s : List ℕ) (b : ℕ) → length s < 16 * b + 16 → record { size = 0; digest = 0 } ≡ entry_in s b
unfolding entry_in
entry_short s b h = λ i. record { size = word_short s (1 + 2 * b) (omega arith) i; digest = word_short s (2 + 2 * b) (omega arith) i }

pub entry_words : (s : List ℕ) (b n d : ℕ) → n ≡ commit_word s (1 + 2 * b) → d ≡ commit_word s (2 + 2 * b) → record { size = n; digest = d } ≡ entry_in s b
unfolding entry_in
entry_words s b n d en ed = λ i. record { size = en i; digest = ed i }

-- BACK
word_ok : (v : ℕ) → v < 2 ^ 64 → coordinate.ok v ≡ true
unfolding coordinate
word_ok v h = lt-ltb v (2 ^ 64) h

-- the word behind 8 * i bytes
pub word_back : (before rest : List ℕ) (v i : ℕ) → length before ≡ 8 * i → v < 2 ^ 64 → commit_word (before ++ (coordinate.put v ++ rest)) i ≡ v
unfolding commit_word read_at
word_back before rest v i e h = rw (drop_at before (coordinate.put v ++ rest) (8 * i) e, coordinate_lawful.back v rest (word_ok v h))

entries_length : (es : List Entry) → length (concat_map entry_bytes es) ≡ 16 * length es
entries_length [] = refl
entries_length (e ∷ es) = let ih = entries_length es in omega (arith, length-append (entry_bytes e) (concat_map entry_bytes es), entry_length e)

-- a commit of one block to sixteen is read as one
pub committed_back : (es : List Entry) → 1 ≤ length es → length es ≤ 16 → committed (commit_of es) ≡ length es
unfolding commit_of
committed_back es few many =
    let word = word_back [] (concat_map entry_bytes es) (length es) 0 refl (omega arith) in
    let size = length-append (coordinate.put (length es)) (concat_map entry_bytes es) in
    sym (committed_all (coordinate.put (length es) ++ concat_map entry_bytes es) (length es) (sym word) few many (omega (arith, size, coordinate_length (length es), entries_length es)))

pub committed_few : (s : List ℕ) → committed s ≤ 16
unfolding committed
committed_few s =
    let k : ℕ = commit_word s 0 in
    by_cases (ltb 0 k && leb k 16 && eqb (length s) (8 + 16 * k))
    (λ e. rw e (leb-true k 16 (and_right (ltb 0 k) (leb k 16) (and_left (ltb 0 k && leb k 16) (eqb (length s) (8 + 16 * k)) e))))
    (λ e. rw e (omega arith))

-- the entry of each block is read as it was put
digest_below : (h : ℕ) (bytes : List ℕ) → h < modulus → digest_from h bytes < modulus
unfolding digest_from
digest_below h [] l = l
digest_below h (b ∷ bs) l = digest_below ((h * 257 + b + 1) % modulus) bs (omega arith)

pieces_at : (g : ℕ → List ℕ) (n b : ℕ) → b < n → (rest : List ℕ) × (pieces g n ≡ pieces g b ++ (g b ++ rest))
pieces_at g zero b h = absurd (omega arith)
pieces_at g (suc n) b h = go (eq-or-lt_of_le (le_of_suc-le-suc h)) (pieces_at g n b)
  where
    go : (b ≡ n) ⊎ (b < n) → (b < n → (rest : List ℕ) × (pieces g n ≡ pieces g b ++ (g b ++ rest))) → (rest : List ℕ) × (pieces g n ++ g n ≡ pieces g b ++ (g b ++ rest))
    go (inl e) r = ([], rw (e, append-nil (g n)))
    go (inr l) r =
        let p = r l in
        let more = append_assoc (pieces g b) (g b ++ p.0) (g n) ∙ ap (λ (s : List ℕ). pieces g b ++ s) (append_assoc (g b) p.0 (g n)) in
        (p.0 ++ g n, ap (λ (s : List ℕ). s ++ g n) p.1 ∙ more)

pub pieces_length : (g : ℕ → List ℕ) (n : ℕ) → ((b : ℕ) → length (g b) ≡ 16) → length (pieces g n) ≡ 16 * n
pieces_length g zero h = refl
pieces_length g (suc n) h = let ih = pieces_length g n h in omega (arith, length-append (pieces g n) (g n), h n)

two_words : (before rest : List ℕ) (e : Entry) (b : ℕ) → length before ≡ 8 + 16 * b → e.size < 2 ^ 64 → e.digest < 2 ^ 64 → entry_in (before ++ (entry_bytes e ++ rest)) b ≡ e
unfolding entry_bytes
two_words before rest e b l s d = sym (entry_words (before ++ ((coordinate.put e.size ++ coordinate.put e.digest) ++ rest)) b e.size e.digest (sym one) (sym two))
  where
    whole : before ++ ((coordinate.put e.size ++ coordinate.put e.digest) ++ rest) ≡ before ++ (coordinate.put e.size ++ (coordinate.put e.digest ++ rest))
    whole = ap (λ (t : List ℕ). before ++ t) (append_assoc (coordinate.put e.size) (coordinate.put e.digest) rest)

    one : commit_word (before ++ ((coordinate.put e.size ++ coordinate.put e.digest) ++ rest)) (1 + 2 * b) ≡ e.size
    one = ap (λ (t : List ℕ). commit_word t (1 + 2 * b)) whole ∙ word_back before (coordinate.put e.digest ++ rest) e.size (1 + 2 * b) (omega arith) s

    two : commit_word (before ++ ((coordinate.put e.size ++ coordinate.put e.digest) ++ rest)) (2 + 2 * b) ≡ e.digest
    two = ap (λ (t : List ℕ). commit_word t (2 + 2 * b)) (whole ∙ sym (append_assoc before (coordinate.put e.size) (coordinate.put e.digest ++ rest)))
        ∙ word_back (before ++ coordinate.put e.size) rest e.digest (2 + 2 * b) (omega (arith, length-append before (coordinate.put e.size), coordinate_length e.size)) d

pub entry_back : (c : ℕ → List ℕ) (k b : ℕ) → b < k → length (c b) < 2 ^ 64 → entry_in (commit_of (tab (λ b. entry_of (c b)) k)) b ≡ entry_of (c b)
unfolding commit_of entry_of digest
entry_back c k b h l =
    let f : ℕ → Entry = λ b. entry_of (c b) in
    let g : ℕ → List ℕ = λ b. entry_bytes (f b) in
    let head : List ℕ = coordinate.put (length (tab f k)) in
    let p = pieces_at g k b h in
    let whole : head ++ concat_map entry_bytes (tab f k) ≡ (head ++ pieces g b) ++ (g b ++ p.0) =
    ap (λ (t : List ℕ). head ++ t) (in_pieces entry_bytes f k ∙ p.1) ∙ sym (append_assoc head (pieces g b) (g b ++ p.0)) in
    let size : length (head ++ pieces g b) ≡ 8 + 16 * b = length-append head (pieces g b) ∙ sizes (length (tab f k)) (length (pieces g b)) b (pieces_length g b (λ b. entry_length (f b))) in
    ap (λ (t : List ℕ). entry_in t b) whole ∙ two_words (head ++ pieces g b) p.0 (f b) b size l (omega (arith, digest_below 0 (c b) (omega arith)))
  where
    sizes : (v n b : ℕ) → n ≡ 16 * b → length (coordinate.put v) + n ≡ 8 + 16 * b
    sizes v n b e = omega (arith, coordinate_length v)
