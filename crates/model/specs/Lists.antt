-- Lists: tests that compute, tables by a key, and checks that are put in order. Assumes nothing.
--   all, any, keep    a test of every element, of some element; the elements that pass
--   mem, distinct, ascending, least, sorted    of numbers
--   tab f n           f 0, f 1, .., n values
--   find key x        the first row of a table whose key is x
--   passed, first_no  whether all checks have a yes; the number of the first that has a no, 0 if none has
use Rattle.std.specs.Prelude.{Bool, true, false, cond, not, ◌&&◌, ◌||◌, List, [], ◌∷◌, ◌++◌, ℕ, zero, suc, ◌+◌, min, ltb, eqb}
use Rattle.std.proofs.Math.Option.{Option, none, some}

module _ {A : Type 0} where
  abbrev pub all : (A → Bool) → List A → Bool
  all p [] = true
  all p (x ∷ xs) = p x && all p xs

  abbrev pub any : (A → Bool) → List A → Bool
  any p [] = false
  any p (x ∷ xs) = p x || any p xs

  -- the elements that pass, in order
  abbrev pub keep : (A → Bool) → List A → List A
  keep p [] = []
  keep p (x ∷ xs) = cond (p x) (x ∷ keep p xs) (keep p xs)

  unfoldable pub concat : List (List A) → List A
  concat [] = []
  concat (l ∷ ls) = l ++ concat ls

  -- a cycle one step on
  abbrev pub turned : List A → List A
  turned [] = []
  turned (x ∷ xs) = xs ++ x ∷ []

  -- f 0, f 1, .., n values
  abbrev pub tab : (ℕ → A) → ℕ → List A
  tab f zero = []
  tab f (suc n) = f 0 ∷ tab (λ k. f (suc k)) n

  abbrev pub is_some : Option A → Bool
  is_some none = false
  is_some (some a) = true

  abbrev pub more : Option A → List A → List A
  more none l = l
  more (some a) l = a ∷ l

module _ {A B : Type 0} where
  -- the values that f gives, in order
  abbrev pub collect : (A → Option B) → List A → List B
  collect f [] = []
  collect f (x ∷ xs) = more (f x) (collect f xs)

  abbrev pub concat_map : (A → List B) → List A → List B
  concat_map f [] = []
  concat_map f (x ∷ xs) = f x ++ concat_map f xs

  abbrev pub zip : List A → List B → List (A × B)
  zip [] ys = []
  zip (x ∷ xs) [] = []
  zip (x ∷ xs) (y ∷ ys) = (x, y) ∷ zip xs ys

-- NUMBERS
abbrev pub mem : ℕ → List ℕ → Bool
mem x l = any (eqb x) l

abbrev pub distinct : List ℕ → Bool
distinct [] = true
distinct (x ∷ xs) = not (mem x xs) && distinct xs

-- strictly
unfoldable pub ascending : List ℕ → Bool
ascending [] = true
ascending (x ∷ xs) = all (ltb x) xs && ascending xs

abbrev pub sum : List ℕ → ℕ
sum [] = 0
sum (x ∷ xs) = x + sum xs

abbrev pub least_from : ℕ → List ℕ → ℕ
least_from m [] = m
least_from m (y ∷ ys) = least_from (min m y) ys

-- the least, 0 of none
unfoldable pub least : List ℕ → ℕ
least [] = 0
least (x ∷ xs) = least_from x xs

-- each value once, where it is first used
unfoldable pub firsts : List ℕ → List ℕ
firsts [] = []
firsts (x ∷ xs) = x ∷ keep (λ y. not (eqb x y)) (firsts xs)

-- the index of x; the length where it is not there
unfoldable pub index_of : ℕ → List ℕ → ℕ
index_of x [] = 0
index_of x (y ∷ ys) = cond (eqb x y) 0 (suc (index_of x ys))

unfoldable pub same_list : List ℕ → List ℕ → Bool
same_list [] [] = true
same_list [] (y ∷ m) = false
same_list (x ∷ l) [] = false
same_list (x ∷ l) (y ∷ m) = eqb x y && same_list l m

-- TABLES: rows with a key
module _ {A : Type 0} (key : A → ℕ) where
  -- the first row with that key
  abbrev pub find : ℕ → List A → Option A
  find x [] = none
  find x (d ∷ ds) = cond (eqb x (key d)) (some d) (find x ds)

  -- a new row before the first one with a larger key
  abbrev pub insert : A → List A → List A
  insert d [] = d ∷ []
  insert d (e ∷ l) = cond (ltb (key d) (key e)) (d ∷ e ∷ l) (e ∷ insert d l)

abbrev pub sorted : List ℕ → List ℕ
sorted [] = []
sorted (x ∷ l) = insert (λ y. y) x (sorted l)

-- CHECKS (the paper's questions at the door): a number and whether the answer is yes
abbrev pub Check : Type 0
Check = ℕ × Bool

-- all of them have a yes
abbrev pub passed : List Check → Bool
passed qs = all (λ q. q.1) qs

-- put in order, the first no gives its number; 0 if there is none
unfoldable pub first_no : List Check → ℕ
first_no [] = 0
first_no (q ∷ qs) = let later = first_no qs in cond q.1 later q.0
