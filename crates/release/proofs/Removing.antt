-- Records taken out: where each goes, the loop that moves them to the front, and the whole memory afterwards. Assumes nothing.
use mathlib.Core.Path.{◌≡◌, refl, sym, ◌∙◌, ap}
use mathlib.Core.Bool.{true}
use mathlib.Core.List.{List, [], ◌∷◌, ◌++◌, map, append_assoc, append-nil}
use mathlib.Core.Logic.{⊎_elim}
use Prim.Native.Nat.{ℕ, ◌+◌, ◌*◌, ◌-◌, ◌≤◌, ◌<◌}
use native.Mathlib.Omega.{arith}
use lib.ListN.{length, get_or, set, take, drop, replicate, length-set, length-append, length-take, length-drop, replicate-append-replicate}
use lib.Seq.{get_or-set_same, get_or-set_other, get_or-drop, take_at, drop_at, drop-drop, length-take-le}
use Rattle.model.specs.Lists.{concat}
use Rattle.model.specs.Image.{words_for, column, is_sewn_word}
use Rattle.model.specs.Values.{room}
use Rattle.laws.proofs.Tests.{by_cases, last_or_below}
use Rattle.laws.proofs.Members.{map_append}
use Rattle.laws.proofs.Lists.{concat_snoc}
use Rattle.memory.specs.Record.{record_in, record_words, put}
use Rattle.memory.specs.declared.record.Record.{Record}
use Rattle.memory.proofs.Records.{length_put}
use Rattle.place.specs.Renumber.{moved_link, renumbered, LinksBelow}
use Rattle.place.proofs.Renumbering.{link_sewn, link_other}
use Rattle.release.specs.LetGo.{unmarked, rank, moved_words, records, without}
use Rattle.release.proofs.Ranks.{unmarked_one, unmarked_none, rank_one, rank_none, rank_le}
use Rattle.release.specs.Asks.{Tabled, Bounded, DartsMoved}

-- WHERE EACH PLACE GOES: of the places below p, `kept` are not marked
pub record Ranking (marks : List ℕ) (n : ℕ) (table : List ℕ) (kept p : ℕ) : Type 0 where
  pub p_le : p ≤ n
  pub len : n ≤ length table
  pub count : kept ≡ rank marks p
  pub below : (k : ℕ) → k < p → get_or table k 0 ≡ rank marks k

rank_start : (marks : List ℕ) → rank marks 0 ≡ 0
unfolding rank unmarked
rank_start marks = refl

pub ranking_start : (marks : List ℕ) (n : ℕ) (table : List ℕ) → n ≤ length table → Ranking marks n table 0 0
ranking_start marks n table h = record { p_le = omega arith; len = h; count = sym (rank_start marks); below = λ k l. absurd (omega arith) }

module _ {marks : List ℕ} {n : ℕ} {table : List ℕ} {kept p : ℕ} (w : Ranking marks n table kept p) (h : p < n) (few : n ≤ room) where
  pub kept_le : kept ≤ p
  kept_le = omega (arith, w.count, rank_le p marks)

  table_more : (k : ℕ) → k < p + 1 → get_or (set table p kept) k 0 ≡ rank marks k
  table_more k l = ⊎_elim (λ q. rw q (get_or-set_same table p kept 0 (omega (arith, w.len)) ∙ w.count)) (λ q. get_or-set_other table p k kept 0 (λ r. omega arith) ∙ w.below k q) (last_or_below l)

  pub ranking_one : (get_or marks p 0 ≡ 1 → ⊥) → {t : List ℕ} {k : ℕ} → t ≡ set table p kept → k ≡ kept + 1 → Ranking marks n t k (p + 1)
  ranking_one z e f = rw (e, f) (record { p_le = omega arith; len = simp length-set w.len; count = omega (arith, rank_one p marks z, w.count); below = table_more })

  pub ranking_none : get_or marks p 0 ≡ 1 → {t : List ℕ} {k : ℕ} → t ≡ set table p kept → k ≡ kept → Ranking marks n t k (p + 1)
  ranking_none z e f = rw (e, f) (record { p_le = omega arith; len = simp length-set w.len; count = w.count ∙ sym (rank_none p marks z); below = table_more })

-- ONE RECORD
pub length_moved : (t : ℕ → ℕ) (m : List ℕ) (p : ℕ) → length (moved_words t m p) ≡ 8
unfolding moved_words
length_moved t m p = refl

-- as the code reads and stores it
pub record_moved : (m : List ℕ) (i at : ℕ) (t : ℕ → ℕ) {r s : Record} {y : List ℕ} → r ≡ record_in m i → s ≡ renumbered t r → y ≡ put m at (record_words s)
    → y ≡ put m at (moved_words t m i)
unfolding moved_words
record_moved m i at t e f q = q ∙ ap (λ (s : Record). put m at (record_words s)) (f ∙ ap (renumbered t) e)

-- tables that agree on the links of a record
same_link : (t u : ℕ → ℕ) (k a : ℕ) → (is_sewn_word k ≡ true → t a ≡ u a) → moved_link t k a ≡ moved_link u k a
same_link t u k a h = by_cases (is_sewn_word k) (λ e. sym (link_sewn t k a e) ∙ h e ∙ link_sewn u k a e) (λ e. sym (link_other t k a e) ∙ link_other u k a e)

pub same_words : (t u : ℕ → ℕ) (m : List ℕ) (p : ℕ) → t (column m 1 p) ≡ u (column m 1 p) → t (column m 2 p) ≡ u (column m 2 p)
    → (is_sewn_word (column m 3 p) ≡ true → t (column m 4 p) ≡ u (column m 4 p)) → moved_words t m p ≡ moved_words u m p
unfolding moved_words
same_words t u m p e f g = rw (e, f, same_link t u (column m 3 p) (column m 4 p) g)

-- memory that agrees from a record on
pub same_column : (x m : List ℕ) (p f : ℕ) → drop (8 + p * 8) x ≡ drop (8 + p * 8) m → column x f p ≡ column m f p
same_column x m p f e = sym (get_or-drop (8 + p * 8) x f 0) ∙ ap (λ (l : List ℕ). get_or l f 0) e ∙ get_or-drop (8 + p * 8) m f 0

words_after : (t : ℕ → ℕ) (x m : List ℕ) (p : ℕ) → drop (8 + p * 8) x ≡ drop (8 + p * 8) m → moved_words t x p ≡ moved_words t m p
unfolding moved_words
words_after t x m p e =
    rw (
      same_column x m p 0 e,
      same_column x m p 1 e,
      same_column x m p 2 e,
      same_column x m p 3 e,
      same_column x m p 4 e,
      same_column x m p 5 e,
      same_column x m p 6 e,
      same_column x m p 7 e,
    )

-- a record stored at place t: the front that ends with it, and what lies behind it
module _ (x r : List ℕ) (t : ℕ) (h : 16 + t * 8 ≤ length x) (l : length r ≡ 8) where
  front_put : take (8 + (t + 1) * 8) (put x t r) ≡ take (8 + t * 8) x ++ r
  front_put =
      let e : 8 + (t + 1) * 8 ≡ 8 + t * 8 + 8 = omega arith in
      rw (e, ← append_assoc (take (8 + t * 8) x) r (drop (16 + t * 8) x))
      (take_at (take (8 + t * 8) x ++ r) _ (8 + t * 8 + 8)
      (omega (arith, length-append (take (8 + t * 8) x) r, length-take (8 + t * 8) x)))

  after_put : (k : ℕ) → t < k → drop (8 + k * 8) (put x t r) ≡ drop (8 + k * 8) x
  after_put k less =
      let e : 8 + k * 8 ≡ (8 + t * 8 + 8) + (8 + k * 8 - (16 + t * 8)) = omega arith in
      let f : 16 + t * 8 + (8 + k * 8 - (16 + t * 8)) ≡ 8 + k * 8 = omega arith in
      let d : drop (8 + t * 8 + 8) (put x t r) ≡ drop (16 + t * 8) x = rw (← append_assoc (take (8 + t * 8) x) r (drop (16 + t * 8) x))
      (drop_at (take (8 + t * 8) x ++ r) _ (8 + t * 8 + 8) (omega (arith, length-append (take (8 + t * 8) x) r, length-take (8 + t * 8) x))) in
      ap (λ (i : ℕ). drop i (put x t r)) e ∙ sym (drop-drop (8 + k * 8 - (16 + t * 8)) (8 + t * 8 + 8) (put x t r)) ∙ ap (drop (8 + k * 8 - (16 + t * 8))) d
      ∙ drop-drop (8 + k * 8 - (16 + t * 8)) (16 + t * 8) x ∙ ap (λ (i : ℕ). drop i x) f

-- THE LOOP THAT MOVES RECORDS
module _ (g : ℕ → List ℕ) (marks : List ℕ) (i : ℕ) where
  records_one : (get_or marks i 0 ≡ 1 → ⊥) → records g marks (i + 1) ≡ records g marks i ++ g i
  unfolding records
  records_one h = ap (λ (l : List ℕ). concat (map g l)) (unmarked_one i marks h) ∙ ap concat (map_append g (unmarked i marks) (i ∷ [])) ∙ concat_snoc (map g (unmarked i marks)) (g i)

  records_none : get_or marks i 0 ≡ 1 → records g marks (i + 1) ≡ records g marks i
  unfolding records
  records_none h = ap (λ (l : List ℕ). concat (map g l)) (unmarked_none i marks h)

records_start : (g : ℕ → List ℕ) (marks : List ℕ) → records g marks 0 ≡ []
unfolding records unmarked concat
records_start g marks = refl

pub moved_start : (g : ℕ → List ℕ) (m marks : List ℕ) → DartsMoved g m marks 0 m 0
moved_start g m marks = record { count = sym (rank_start marks); len = refl; front = sym (ap (λ (l : List ℕ). take 8 m ++ l) (records_start g marks) ∙ append-nil (take 8 m)); after = refl }

one_later : (x m : List ℕ) (i : ℕ) → drop (8 + i * 8) x ≡ drop (8 + i * 8) m → drop (8 + (i + 1) * 8) x ≡ drop (8 + (i + 1) * 8) m
one_later x m i e =
    let z : 8 + i * 8 + 8 ≡ 8 + (i + 1) * 8 = omega arith in
    rw (← z, ← drop-drop 8 (8 + i * 8) x, ← drop-drop 8 (8 + i * 8) m, e)

module _ {g : ℕ → List ℕ} {m marks : List ℕ} {i : ℕ} {x : List ℕ} {w : ℕ} (v : DartsMoved g m marks i x w) (fits : 8 + (i + 1) * 8 ≤ length m) where
  pub count_le : w ≤ i
  count_le = omega (arith, v.count, rank_le i marks)

  pub moved_none : get_or marks i 0 ≡ 1 → {y : List ℕ} {u : ℕ} → y ≡ x → u ≡ w → DartsMoved g m marks (i + 1) y u
  moved_none h e f =
      rw (e, f)
      (record {
        count = v.count ∙ sym (rank_none i marks h);
        len = v.len;
        front = v.front ∙ ap (λ (l : List ℕ). take 8 m ++ l) (sym (records_none g marks i h));
        after = one_later x m i v.after;
      })

  pub moved_one : (get_or marks i 0 ≡ 1 → ⊥) → {y r : List ℕ} {u : ℕ} → length r ≡ 8 → r ≡ g i → y ≡ put x w r → u ≡ w + 1 → DartsMoved g m marks (i + 1) y u
  moved_one h {y} {r} {u} eight same e f = rw (e, f) (record {
    count = omega (arith, v.count, rank_one i marks h);
    len = length_put x r w enough eight ∙ v.len;
    front = front_put x r w enough eight ∙ ap (λ (l : List ℕ). l ++ r) v.front ∙ append_assoc (take 8 m) (records g marks i) r
        ∙ ap (λ (l : List ℕ). take 8 m ++ (records g marks i ++ l)) same ∙ ap (λ (l : List ℕ). take 8 m ++ l) (sym (records_one g marks i h));
    after = after_put x r w enough eight (i + 1) (omega (arith, count_le)) ∙ one_later x m i v.after;
  })
    where
      enough : 16 + w * 8 ≤ length x
      enough = omega (arith, count_le, v.len)

-- the record that the code moves, by the table
module _ {m marks x : List ℕ} {n i w : ℕ} (b : Bounded m n) (table : List ℕ) (tabled : Tabled (rank marks) n table) (v : DartsMoved (moved_words (rank marks) m) m marks i x w) (h : i < n) where
  pub links_fit : n ≤ length table → LinksBelow (length table) (record_in x i)
  links_fit long = record {
    next_lt = omega (arith, same_column x m i 1 v.after, b.next_lt i h, long);
    opposite_lt = omega (arith, same_column x m i 2 v.after, b.opposite_lt i h, long);
    sewn_lt = λ e. omega (arith, same_column x m i 4 v.after, b.sewn_lt i h (ap is_sewn_word (sym (same_column x m i 3 v.after)) ∙ e), long);
  }

  pub one_move : moved_words (λ p. get_or table p 0) x i ≡ moved_words (rank marks) m i
  one_move = words_after (λ p. get_or table p 0) x m i v.after
      ∙ same_words (λ p. get_or table p 0) (rank marks) m i (tabled (column m 1 i) (b.next_lt i h)) (tabled (column m 2 i) (b.opposite_lt i h)) (λ e. tabled (column m 4 i) (b.sewn_lt i h e))

-- A PART CLEARED
pub part_cleared : (b : List ℕ) (a e : ℕ) {c : List ℕ} → a ≤ e → e ≤ length b → c ≡ replicate (length (take (e - a) (drop a b))) 0
    → take a b ++ (c ++ drop (e - a) (drop a b)) ≡ take a b ++ (replicate (e - a) 0 ++ drop e b)
part_cleared b a e h k q =
    let size : length (take (e - a) (drop a b)) ≡ e - a = length-take-le (e - a) (drop a b) (omega (arith, length-drop a b)) in
    let end : a + (e - a) ≡ e = omega arith in
    rw (q, size, drop-drop (e - a) a b, end)

-- THE WHOLE MEMORY AFTERWARDS
pub all_removed : (m marks : List ℕ) {x y z : List ℕ} {w counter : ℕ} → words_for (get_or m 2 0) ≤ length m → drop (8 + get_or m 2 0 * 8) m ≡ replicate (length m - words_for (get_or m 2 0)) 0
    → DartsMoved (moved_words (rank marks) m) m marks (get_or m 2 0) x w → y ≡ take (8 + w * 8) x ++ (replicate ((8 + get_or m 2 0 * 8) - (8 + w * 8)) 0 ++ drop (8 + get_or m 2 0 * 8) x)
    → z ≡ (get_or m 0 0 ∷ counter ∷ w ∷ 0 ∷ 0 ∷ 0 ∷ 0 ∷ 0 ∷ []) ++ drop 8 y → z ≡ without m marks counter
unfolding without
all_removed m marks {x} {y} {z} {w} {counter} size zeros v e f =
    f ∙ ap (λ (l : List ℕ). (get_or m 0 0 ∷ counter ∷ w ∷ 0 ∷ 0 ∷ 0 ∷ 0 ∷ 0 ∷ []) ++ l) rest
    ∙ ap (λ (k : ℕ). (get_or m 0 0 ∷ counter ∷ k ∷ 0 ∷ 0 ∷ 0 ∷ 0 ∷ 0 ∷ []) ++ (records (moved_words (rank marks) m) marks (get_or m 2 0) ++ replicate (length m - words_for k) 0)) v.count
  where
    n : ℕ
    n = get_or m 2 0

    rows : List ℕ
    rows = records (moved_words (rank marks) m) marks n

    sum : (8 + n * 8) - (8 + w * 8) + (length m - words_for n) ≡ length m - words_for w
    sum = omega (arith, v.count, rank_le n marks)

    tail : replicate ((8 + n * 8) - (8 + w * 8)) 0 ++ drop (8 + n * 8) x ≡ replicate (length m - words_for w) 0
    tail =
        ap (λ (l : List ℕ). replicate ((8 + n * 8) - (8 + w * 8)) 0 ++ l) (v.after ∙ zeros)
        ∙ replicate-append-replicate {A = ℕ} ((8 + n * 8) - (8 + w * 8)) (length m - words_for n) 0 ∙ ap (λ (k : ℕ). replicate k 0) sum

    whole : y ≡ take 8 m ++ (rows ++ replicate (length m - words_for w) 0)
    whole = e ∙ ap (λ (l : List ℕ). take (8 + w * 8) x ++ l) tail ∙ ap (λ (l : List ℕ). l ++ replicate (length m - words_for w) 0) v.front ∙ append_assoc (take 8 m) rows (replicate (length m - words_for w) 0)

    rest : drop 8 y ≡ rows ++ replicate (length m - words_for w) 0
    rest = ap (drop 8) whole ∙ drop_at (take 8 m) (rows ++ replicate (length m - words_for w) 0) 8 (length-take-le 8 m (omega arith))
