-- What is read after the last value, and four numbers read so as the head of a message. Assumes nothing.
use Rattle.std.specs.Prelude.{None, Option, Some}
use Rattle.groups.specs.Slices.{MaybeRead}
use mathlib.Core.Path.{◌≡◌, refl, sym, ◌∙◌, subst}
use mathlib.Core.List.{List}
use mathlib.Core.Option.{none}
use Prim.Native.Nat.{ℕ}
use lib.ListN.{drop}
use Rattle.model.specs.Layouts.{group, ◌⊗◌, ◌⊕◌}
use Rattle.groups.specs.Slices.{read_at}
use Rattle.groups.proofs.Ends.{Reads, group_at, bad_at, place_back}
use Rattle.reader.specs.declared.Head.{Head as Numbers}
use Rattle.reader.specs.Heads.{read_after, head_of, four, head_in}
use Rattle.reader.specs.declared.Head.{Head}

-- FOUR NUMBERS: the first that is missing, or all
module _ {a b c d : MaybeRead} where
  pub head_short : {n p k q f r : ℕ} → a ≡ Some (n, p) → b ≡ Some (k, q) → c ≡ Some (f, r) → d ≡ None → None ≡ head_of a b c d
  head_short e f g h = rw (e, f, g, h)

  pub head_whole : {n p k q f r t o : ℕ} → a ≡ Some (n, p) → b ≡ Some (k, q) → c ≡ Some (f, r) → d ≡ Some (t, o)
      → Some (record { length = n; body = p; kind = k; from = f; to = t; next = o }) ≡ head_of a b c d
  head_whole e f g h = rw (e, f, g, h)

-- THE HEAD of a message
module _ (s : List ℕ) where
  abbrev step : MaybeRead → MaybeRead
  step = read_after group s

  first_missing : group.get (drop 0 s) ≡ none → head_in s ≡ None
  unfolding head_in
  first_missing e = rw e

  module _ {n p : ℕ} (a : Reads group s 0 n p) where
    second_missing : group.get (drop p s) ≡ none → head_in s ≡ None
    unfolding head_in four ◌⊕◌ ◌⊗◌
    second_missing e = rw (a.value, e)

    module _ {k q : ℕ} (b : Reads group s p k q) where
      third_missing : group.get (drop q s) ≡ none → head_in s ≡ None
      unfolding head_in four ◌⊕◌ ◌⊗◌
      third_missing e = rw (a.value, b.value, e)

      module _ {f r : ℕ} (c : Reads group s q f r) where
        fourth_missing : group.get (drop r s) ≡ none → head_in s ≡ None
        unfolding head_in four ◌⊕◌ ◌⊗◌
        fourth_missing e = rw (a.value, b.value, c.value, e)

        all_there : {t o : ℕ} → Reads group s r t o → head_in s ≡ Some (record { length = n; body = p; kind = k; from = f; to = t; next = o })
        unfolding head_in four ◌⊕◌ ◌⊗◌
        all_there {t} {o} d = rw (a.value, b.value, c.value, d.value, place_back s p a.within, place_back s o d.within)

  -- by cases of each read
  fourth : {n p k q f r : ℕ} → Reads group s 0 n p → Reads group s p k q → Reads group s q f r → (d : MaybeRead) → d ≡ read_at group s r
      → head_of (Some (n, p)) (Some (k, q)) (Some (f, r)) d ≡ head_in s
  fourth a b c None e = sym (fourth_missing a b c (bad_at group s _ e))
  fourth a b c (Some (t, o)) e = sym (all_there a b c (group_at e))

  third : {n p k q : ℕ} → Reads group s 0 n p → Reads group s p k q → (c : MaybeRead) → c ≡ read_at group s q → head_of (Some (n, p)) (Some (k, q)) c (step c) ≡ head_in s
  third a b None e = sym (third_missing a b (bad_at group s _ e))
  third a b (Some (f, r)) e = fourth a b (group_at e) (read_at group s r) refl

  second : {n p : ℕ} → Reads group s 0 n p → (b : MaybeRead) → b ≡ read_at group s p → head_of (Some (n, p)) b (step b) (step (step b)) ≡ head_in s
  second a None e = sym (second_missing a (bad_at group s _ e))
  second a (Some (k, q)) e = third a (group_at e) (read_at group s q) refl

  first : (a : MaybeRead) → a ≡ read_at group s 0 → head_of a (step a) (step (step a)) (step (step (step a))) ≡ head_in s
  first None e = sym (first_missing (bad_at group s 0 e))
  first (Some (n, p)) e = second (group_at e) (read_at group s p) refl

  -- four numbers that were read one after the other, from the first byte on
  pub head_read : {a b c d : MaybeRead} {h : Option Head} → a ≡ step (Some (0, 0)) → b ≡ step a → c ≡ step b → d ≡ step c → h ≡ head_of a b c d → h ≡ head_in s
  head_read {a} e f g k w = w ∙ rw (k, g, f) (first a e)

-- WHAT A HEAD SAYS: the number that is missing, or all four
pub data Missing (s : List ℕ) : Type 0 where
  no_length : group.get (drop 0 s) ≡ none → Missing s
  no_kind : (n p : ℕ) → Reads group s 0 n p → group.get (drop p s) ≡ none → Missing s
  no_from : (n p k q : ℕ) → Reads group s 0 n p → Reads group s p k q → group.get (drop q s) ≡ none → Missing s
  no_to : (n p k q f r : ℕ) → Reads group s 0 n p → Reads group s p k q → Reads group s q f r → group.get (drop r s) ≡ none → Missing s

pub record Four (s : List ℕ) (h : Numbers) : Type 0 where
  pub past : ℕ
  pub after : ℕ
  pub length_read : Reads group s 0 h.length h.body
  pub kind_read : Reads group s h.body h.kind past
  pub from_read : Reads group s past h.from after
  pub to_read : Reads group s after h.to h.next

abbrev pub Says : List ℕ → Option Head → Type 0
Says s None = Missing s
Says s (Some h) = Four s h

module _ (s : List ℕ) where
  fourth_says : {n p k q f r : ℕ} → Reads group s 0 n p → Reads group s p k q → Reads group s q f r → (d : MaybeRead) → d ≡ read_at group s r
      → Says s (head_of (Some (n, p)) (Some (k, q)) (Some (f, r)) d)
  fourth_says a b c None e = no_to _ _ _ _ _ _ a b c (bad_at group s _ e)
  fourth_says a b c (Some (t, o)) e = record { past = _; after = _; length_read = a; kind_read = b; from_read = c; to_read = group_at e }

  third_says : {n p k q : ℕ} → Reads group s 0 n p → Reads group s p k q → (c : MaybeRead) → c ≡ read_at group s q → Says s (head_of (Some (n, p)) (Some (k, q)) c (step s c))
  third_says a b None e = no_from _ _ _ _ a b (bad_at group s _ e)
  third_says a b (Some (f, r)) e = fourth_says a b (group_at e) (read_at group s r) refl

  second_says : {n p : ℕ} → Reads group s 0 n p → (b : MaybeRead) → b ≡ read_at group s p → Says s (head_of (Some (n, p)) b (step s b) (step s (step s b)))
  second_says a None e = no_kind _ _ a (bad_at group s _ e)
  second_says a (Some (k, q)) e = third_says a (group_at e) (read_at group s q) refl

  first_says : (a : MaybeRead) → a ≡ read_at group s 0 → Says s (head_of a (step s a) (step s (step s a)) (step s (step s (step s a))))
  first_says None e = no_length (bad_at group s 0 e)
  first_says (Some (n, p)) e = second_says (group_at e) (read_at group s p) refl

  pub head_says : {r : Option Head} → r ≡ head_in s → Says s r
  head_says e = subst (Says s) (first s (read_at group s 0) refl ∙ sym e) (first_says (read_at group s 0) refl)
