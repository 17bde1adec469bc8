-- All labels of an update: each names a face of its own, and the darts of these faces by the index of their codes. Assumes nothing.
use mathlib.Core.Path.{◌≡◌, refl, sym, ◌∙◌, ap}
use mathlib.Core.Bool.{Bool, true, false, true≢false, ◌&&◌, ◌||◌}
use mathlib.Core.List.{List, [], ◌∷◌, map}
use Prim.Native.Nat.{ℕ, suc, ◌≤◌, ◌<◌}
use native.Mathlib.Omega.{arith}
use lib.Dec.{ltb, eqb}
use lib.ListN.{length, get_or, take, drop, length-map}
use borrow.Author.Tests.{eqb-true, lt-ltb, le-ltb, ltb-true, ltb-false}
use Rattle.model.specs.Lists.{all, any, mem, distinct, ascending, insert, sorted, tab, index_of}
use Rattle.model.specs.Values.{Label, code, room}
use Rattle.model.specs.Image.{column}
use Rattle.model.specs.Layouts.{times}
use Rattle.model.specs.Messages.{label}
use Rattle.model.specs.Arrival.{names_face}
use Rattle.laws.proofs.Tests.{by_cases, and_left, and_right}
use Rattle.laws.proofs.Members.{In, in_map, all_in, pigeonhole, getD_in}
use Rattle.laws.proofs.Tables.{length_tab, any_tab, tab_take}
use Rattle.theory.proofs.LayoutLaws.{get_all_length}
use Rattle.sort.proofs.Apart.{ascending_distinct}
use Rattle.columns.proofs.Below.{and_no}
use Rattle.columns.proofs.Question.{Passed}
use Rattle.cells.specs.Places.{Linked}
use Rattle.cells.proofs.Reached.{places, in_places}
use Rattle.cells.proofs.FaceLaws.{distinct_at}
use Rattle.cells.proofs.Sited.{Sited, darts_in}
use Rattle.departure.specs.ByPlaces.{critical_with}
use Rattle.codec.specs.Taken.{Took}
use Rattle.redirect.specs.ByPlaces.{face_code, names_at, named_at, CodesRead, Ready, code_index, EachNamed, AllNamed, Rewritten}
use Rattle.redirect.proofs.Faces.{stays_in, code_there}
use Rattle.redirect.proofs.Names.{names_are}
use Rattle.redirect.proofs.ReadCodes.{front_ascends}

-- SORTED LISTS have the same members
module _ (p : ℕ → Bool) where
  and_swap : (a b c : Bool) → (a && (b && c)) ≡ (b && (a && c))
  and_swap true b c = refl
  and_swap false true c = refl
  and_swap false false c = refl

  all_insert : (x : ℕ) (l : List ℕ) → all p (insert (λ y. y) x l) ≡ (p x && all p l)
  all_insert x [] = refl
  all_insert x (y ∷ l) = by_cases (ltb x y) (λ e. rw e) (λ e. rw e (ap (λ (b : Bool). p y && b) (all_insert x l) ∙ and_swap (p y) (p x) (all p l)))

  pub all_sorted : (l : List ℕ) → all p (sorted l) ≡ all p l
  all_sorted [] = refl
  all_sorted (x ∷ l) = all_insert x (sorted l) ∙ ap (λ (b : Bool). p x && b) (all_sorted l)

  or_swap : (a b c : Bool) → (a || (b || c)) ≡ (b || (a || c))
  or_swap true true c = refl
  or_swap true false c = refl
  or_swap false b c = refl

  any_insert : (x : ℕ) (l : List ℕ) → any p (insert (λ y. y) x l) ≡ (p x || any p l)
  any_insert x [] = refl
  any_insert x (y ∷ l) = by_cases (ltb x y) (λ e. rw e) (λ e. rw e (ap (λ (b : Bool). p y || b) (any_insert x l) ∙ or_swap (p y) (p x) (any p l)))

  pub any_sorted : (l : List ℕ) → any p (sorted l) ≡ any p l
  any_sorted [] = refl
  any_sorted (x ∷ l) = any_insert x (sorted l) ∙ ap (λ (b : Bool). p x || b) (any_sorted l)

-- WHETHER A CODE HAS AN INDEX
index_mem : (x : ℕ) (l : List ℕ) → ltb (index_of x l) (length l) ≡ mem x l
unfolding index_of
index_mem x [] = le-ltb 0 0 (omega arith)
index_mem x (y ∷ l) = by_cases (eqb x y) (λ e. rw e (lt-ltb 0 (suc (length l)) (omega arith))) (λ e. rw e (more (index_of x l) (length l) ∙ index_mem x l))
  where
    more : (a b : ℕ) → ltb (suc a) (suc b) ≡ ltb a b
    more a b = by_cases (ltb a b) (λ e. rw e (lt-ltb (suc a) (suc b) (let h = ltb-true a b e in omega arith))) (λ e. rw e (le-ltb (suc a) (suc b) (let h = ltb-false a b e in omega arith)))

-- the darts whose face has one of the codes
index_named : (m : List ℕ) (from : ℕ) {codes : List ℕ} {c : ℕ} (l : List ℕ) → Ready codes c → take c codes ≡ sorted l → (p : ℕ) → ltb (code_index m from codes c p) c ≡ named_at m from l p
unfolding code_index
index_named m from {codes} {c} l ready e p = by_cases (critical_with m from p) (λ t. rw t there) (λ t. rw t (le-ltb 4097 c (let h = ready.few in omega arith)))
  where
    list : tab (λ k. get_or codes k 0) c ≡ sorted l
    list = tab_take codes c (let a = ready.few in let b = ready.size in omega arith) ∙ e

    there : ltb (index_of (face_code m p) (tab (λ k. get_or codes k 0) c)) c ≡ mem (face_code m p) l
    there = ap (ltb (index_of (face_code m p) (tab (λ k. get_or codes k 0) c))) (sym (length_tab (λ k. get_or codes k 0) c))
        ∙ index_mem (face_code m p) (tab (λ k. get_or codes k 0) c) ∙ ap (mem (face_code m p)) list ∙ any_sorted (eqb (face_code m p)) l

pub rewritten_by : {m m' : List ℕ} {test other : ℕ → Bool} {word n : ℕ} → ((p : ℕ) → p < n → test p ≡ other p) → Rewritten m m' test word n → Rewritten m m' other word n
rewritten_by {m} {m'} {test} {other} {word} {n} e w =
    record {
      size = w.size;
      head = w.head;
      others = w.others;
      kinds = λ p. w.kinds p ∙ by_cases (ltb p n) (λ t. rw (t, e p (ltb-true p n t))) (λ t. rw t);
    }

-- WHAT THE ARRAYS SAY
module _ (m : List ℕ) (from : ℕ) {s read : List ℕ} {at count : ℕ} (codes : List ℕ) {fine : Bool} (few : count ≤ room) (told : CodesRead s at count read)
    (order : (fine ≡ distinct (take count read)) × (take count codes ≡ sorted (take count read))) (long : count ≤ length codes) where
  codes_sorted : (ls : List Label) (past : ℕ) → Took (times count label) s at ls past → take count codes ≡ sorted (map code ls)
  codes_sorted ls past t = order.1 ∙ ap sorted (told.codes_are ls past t)

  -- a label twice
  pub not_apart : fine ≡ false → {table : List ℕ} → AllNamed m s from at count table false
  not_apart e = record {
    said = λ ls past t. sym (and_no (all (names_at m from) (map code ls)) (distinct (map code ls)) (ap distinct (sym (told.codes_are ls past t)) ∙ sym order.0 ∙ e));
    tells = λ r. absurd (true≢false (sym r));
  }

  pub apart_ready : fine ≡ true → Ready codes count
  apart_ready e = record {
    few = few;
    size = long;
    ascends = front_ascends codes count long (ap ascending order.1 ∙ ascending_distinct (take count read) ∙ sym order.0 ∙ e);
  }

  pub all_told : fine ≡ true → {table : List ℕ} {r : Bool} → EachNamed m from codes count table r → AllNamed m s from at count table r
  all_told e {table} {r} n = record {
    said = λ ls past t. n.said ∙ ap (all (names_at m from)) (codes_sorted ls past t) ∙ all_sorted (names_at m from) (map code ls)
        ∙ sym (and_yes (all (names_at m from) (map code ls)) (distinct (map code ls)) (ap distinct (sym (told.codes_are ls past t)) ∙ sym order.0 ∙ e));
    tells = λ _ ls past t p h. ap (λ (k : ℕ). ltb k count) (n.indexed.index_is p h) ∙ index_named m from (map code ls) (apart_ready e) (codes_sorted ls past t) p;
  }
    where
      and_yes : (a b : Bool) → b ≡ true → (a && b) ≡ a
      and_yes true b e = e
      and_yes false b e = refl

-- THE MODEL'S TEST of all labels
pub names_all : {m : List ℕ} (site : Sited m) (ok : Passed m) (from : ℕ) (ls : List Label) → all (names_face (darts_in m) from) ls ≡ all (names_at m from) (map code ls)
names_all site ok from [] = refl
names_all {m} site ok from (l ∷ ls) = both (names_are site ok from l) (names_all site ok from ls)
  where
    both : {a b c d : Bool} → a ≡ b → c ≡ d → (a && c) ≡ (b && d)
    both e f = rw (e, f)

-- TOO MANY: labels that differ and name faces are at most as many as the darts
module _ {m : List ℕ} {n : ℕ} (l : Linked m n) (same : n ≡ get_or m 2 0) where
  code_held : (from c : ℕ) → names_at m from c ≡ true → In c (map (column m 4) (places n))
  code_held from c t =
      let w = any_tab (λ q. critical_with m from q && eqb (face_code m q) c) (λ q. q) (get_or m 2 0) t in
      let h : w.0 < n = (let a = w.1 in omega arith) in
      let z = code_there l w.0 h in
      let e : column m 4 z.0 ≡ c = sym z.2 ∙ eqb-true (face_code m w.0) c (and_right (critical_with m from w.0) _ w.2) in
      rw e at (in_map (column m 4) z.0 (places n) (in_places n z.0 (stays_in l w.0 z.0 h z.1)))

  pub few_named : (from : ℕ) (cs : List ℕ) → (all (names_at m from) cs && distinct cs) ≡ true → length cs ≤ n
  few_named from cs t =
      let held = and_left (all (names_at m from) cs) (distinct cs) t in
      let apart = and_right (all (names_at m from) cs) (distinct cs) t in
      let most =
      pigeonhole (length cs) (λ k. get_or cs k 0) (map (column m 4) (places n))
      (λ k h. code_held from (get_or cs k 0) (all_in (names_at m from) cs held (get_or cs k 0) (getD_in cs k h)))
      (distinct_at cs apart)
      in
      omega (arith, length-map (places n) (column m 4), length_tab (λ (q : ℕ). q) n)

  pub too_many : (from : ℕ) {s : List ℕ} {at count past : ℕ} (ls : List Label) → Took (times count label) s at ls past → n < count
      → (all (names_at m from) (map code ls) && distinct (map code ls)) ≡ false
  unfolding times
  too_many from {s} {at} {count} {past} ls t h = by_cases (all (names_at m from) (map code ls) && distinct (map code ls))
      (λ e. let a = few_named from (map code ls) e in absurd (omega (arith, length-map ls code, get_all_length label count (drop at s) ls (drop past s) t.value)))
      (λ e. e)
