-- The draft record by record. Assumes nothing.
use Rattle.std.proofs.lemmas.Option.{none-some, some_pair_parts}
use Rattle.std.specs.Prelude.{None, Some}
use mathlib.Core.Path.{◌≡◌, refl, sym, ◌∙◌}
use mathlib.Core.List.{List}
use mathlib.Core.Logic.{⊎_elim}
use Prim.Native.Nat.{ℕ, ◌+◌, ◌*◌, ◌-◌, ◌≤◌, ◌<◌}
use native.Mathlib.Omega.{arith}
use lib.ListN.{length, get_or, drop, set, length-set}
use lib.Seq.{get_or-set_same, get_or-set_other}
use Rattle.model.specs.Image.{words_for, column}
use Rattle.laws.proofs.Tests.{last_or_below}
use Rattle.memory.specs.Record.{record_in, record_words, put}
use Rattle.memory.specs.declared.record.Record.{Record}
use Rattle.memory.proofs.Records.{length_put, put_here, put_there}
use Rattle.memory.specs.Point.{point_of, patterns, FinitePoint}
use Rattle.memory.specs.declared.point.Point.{Point}
use Rattle.memory.proofs.Points.{point_finite, point_patterns}
use Rattle.model.specs.Layouts.{coordinate}
use Rattle.groups.specs.Slices.{read_at}
use Rattle.inbox.specs.Inbox.{word_in}
use Rattle.ranking.specs.Ranks.{value_at, index_at}
use Rattle.inbox.proofs.Points.{word_took}
use Rattle.arrival.specs.Sides.{next_index}
use Rattle.arrival.specs.Draft.{draft_record, FiniteIn, Draftable, RecordsDrafted}

-- the records below p are put
pub record Drafting (f : ℕ → Record) (k : ℕ) (m : List ℕ) (p : ℕ) : Type 0 where
  pub le : p ≤ k
  pub len : words_for k ≤ length m
  pub rows : (j : ℕ) → j < p → record_in m j ≡ f j

record_path : (m n : List ℕ) (p q : ℕ) → ((c : ℕ) → c < 8 → column m c p ≡ column n c q) → record_in m p ≡ record_in n q
record_path m n p q e = λ i. record {
  serial = e 0 (omega arith) i;
  next = e 1 (omega arith) i;
  opposite = e 2 (omega arith) i;
  kind = e 3 (omega arith) i;
  link = e 4 (omega arith) i;
  x = e 5 (omega arith) i;
  y = e 6 (omega arith) i;
  z = e 7 (omega arith) i;
}

pub drafting_none : (f : ℕ → Record) (k : ℕ) {m : List ℕ} → words_for k ≤ length m → Drafting f k m 0
drafting_none f k e = record { le = omega arith; len = e; rows = λ j h. absurd (omega (arith, h)) }

module _ {f : ℕ → Record} {k : ℕ} {m : List ℕ} {p : ℕ} (w : Drafting f k m p) (h : p < k) where
  more : {r : Record} → r ≡ f p → Drafting f k (put m p (record_words r)) (p + 1)
  more {r} e =
      let fit : 16 + p * 8 ≤ length m = omega (arith, w.len, h) in
      record {
        le = omega arith;
        len = omega (arith, length_put m (record_words r) p fit refl, w.len);
        rows = λ j l. ⊎_elim
            (λ (t : j ≡ p). rw t (here fit ∙ e))
            (λ (t : j < p). record_path (put m p (record_words r)) m j j (λ c u. put_there m (record_words r) p fit refl j c u (λ q. omega (arith, t, q))) ∙ w.rows j t)
            (last_or_below l);
      }
    where
      here : 16 + p * 8 ≤ length m → record_in (put m p (record_words r)) p ≡ r
      here fit =
          let at = put_here m (record_words r) p fit refl in
          λ i. record {
            serial = at 0 (omega arith) i;
            next = at 1 (omega arith) i;
            opposite = at 2 (omega arith) i;
            kind = at 3 (omega arith) i;
            link = at 4 (omega arith) i;
            x = at 5 (omega arith) i;
            y = at 6 (omega arith) i;
            z = at 7 (omega arith) i;
          }

  pub drafting_more : {r : Record} {n : List ℕ} → r ≡ f p → n ≡ put m p (record_words r) → Drafting f k n (p + 1)
  drafting_more e g = rw g (more e)

pub drafting_all : {f : ℕ → Record} {k : ℕ} {m : List ℕ} {p : ℕ} {n : List ℕ} → Drafting f k m p → k ≤ p → n ≡ set m 2 k → RecordsDrafted f k n
drafting_all {f} {k} {m} {p} w h g = rw g (record {
  size = omega (arith, length-set m 2 k, w.len);
  count_is = get_or-set_same m 2 k 0 (omega (arith, w.len));
  rows = λ j l. record_path (set m 2 k) m j j (λ c u. get_or-set_other m 2 (8 + j * 8 + c) k 0 (λ q. omega (arith, q))) ∙ w.rows j (omega (arith, l, h));
})

-- A WORD OF A POINT
word_read : (s : List ℕ) (at : ℕ) → at + 8 ≤ length s → read_at coordinate s at ≡ Some ((word_in s at), (length s - length (drop (at + 8) s)))
unfolding read_at
word_read s at h = rw (word_took s at h).value refl

pub word_value : (s : List ℕ) (at : ℕ) → at + 8 ≤ length s → {w n : ℕ} → read_at coordinate s at ≡ Some (w, n) → w ≡ word_in s at
word_value s at h {w} {n} e =
    sym (some_pair_parts (word_in s at) w (length s - length (drop (at + 8) s)) n (sym (word_read s at h) ∙ e)).0

pub word_there : (s : List ℕ) (at : ℕ) → at + 8 ≤ length s → read_at coordinate s at ≡ None → ⊥
word_there s at h e =
    none-some ((word_in s at), (length s - length (drop (at + 8) s))) (sym e ∙ word_read s at h)

-- the index of the dart at place p, by what is read of it
pub index_fits : {v b z keys q s : List ℕ} {from k : ℕ} → Draftable v b z keys q s from k → {p i : ℕ} → p < k → i ≡ index_at keys p → i < k
index_fits d {p} h e = omega (arith, e, d.index_below p h)

-- A POINT read by value, and its words again
module _ {s : List ℕ} {at : ℕ} {p : Point} (f : FiniteIn s at) (e : p ≡ point_of (word_in s at) (word_in s (at + 8)) (word_in s (at + 16))) where
  pub finite_read : FinitePoint p
  finite_read = rw e (point_finite (word_in s at) (word_in s (at + 8)) (word_in s (at + 16)) f.on_x f.on_y f.on_z)

  pub words_read : patterns p ≡ record { x = word_in s at; y = word_in s (at + 8); z = word_in s (at + 16) }
  words_read = rw e (point_patterns (word_in s at) (word_in s (at + 8)) (word_in s (at + 16)) f.on_x f.on_y f.on_z)

-- THE RECORD at place p, by what is read of it
pub record_told : (v b z keys ranks t s : List ℕ) (from p : ℕ) {i n o a c x y w : ℕ} → i ≡ index_at keys p → n ≡ next_index b z i → o ≡ get_or t i 0
    → a ≡ get_or ranks n 0 → c ≡ get_or ranks o 0 → x ≡ word_in s (from + 24 * get_or v i 0) → y ≡ word_in s (from + 24 * get_or v i 0 + 8)
    → w ≡ word_in s (from + 24 * get_or v i 0 + 16)
    → ◌≡◌ {A = Record} (record { serial = value_at keys p; next = a; opposite = c; kind = 0; link = 0; x = x; y = y; z = w }) (draft_record v b z keys ranks t s from p)
record_told v b z keys ranks t s from p i n o a c x y w = rw (a, c, n, o, x, y, w, i) refl
