-- Pieces of a text, and that what `split` and `rsplit` give of a text, with `filter`, `find` and `nth`, is one. Assumes nothing.
use mathlib.Core.Path.{◌≡◌, refl, sym, subst, ap, ◌∙◌}
use mathlib.Core.Bool.{Bool, true, false}
use mathlib.Core.List.{List, [], ◌∷◌, ◌++◌, append_assoc, append-nil}
use Prim.Native.Nat.{ℕ, ◌+◌, ◌-◌}
use native.Mathlib.Omega.{arith}
use lib.ListN.{length, take, drop}
use denote.Ref.{Bor}
use denote.Param.Members.{Mut}
use Rattle.std.proofs.lemmas.List.{take_at, drop_at, take-append-drop, length-append}
use Rattle.std.specs.Prelude.{None, Option, Some, MatchOption}
use Rattle.std.specs.Bool.{⊤, MatchBool}
use Rattle.std.specs.Option.{unwrap_or}
use Rattle.std.specs.Fn.{ComputesKey}
use Rattle.std.specs.List.{IsAfterLastMatch}
use Rattle.std.specs.Iterator.{Yields, YieldsThen}
use Rattle.std.specs.Iterator.Adapters.{filter_source, filter_steps}
use Rattle.std.specs.Slice.Iter.{split_rest, split_done, split_callee, split_steps, rsplit_parts}
use Rattle.std.specs.declared.slice.Split.{Split}
use Rattle.std.specs.declared.slice.RSplit.{RSplit}
use Rattle.std.specs.declared.iter.Filter.{Filter}
use Rattle.system.specs.Pieces.{Piece}

-- a piece has bytes before it and bytes behind it
pub piece_between : (text before piece behind : List ℕ) → text ≡ before ++ (piece ++ behind) → Piece text piece
piece_between text before piece behind e = record {
  from = length before;
  end = length before + length piece;
  ordered = omega arith;
  within = omega (arith, ap length e, length-append before (piece ++ behind), length-append piece behind);
  bytes = sym (ap (λ (t : List ℕ). take (length before + length piece - length before) (drop (length before) t)) e
      ∙ ap (take (length before + length piece - length before)) (drop_at before (piece ++ behind) (length before) refl)
      ∙ take_at piece behind (length before + length piece - length before) (omega arith));
}

sides : (text piece : List ℕ) → Piece text piece → (before : List ℕ) × (behind : List ℕ) × (text ≡ before ++ (piece ++ behind))
sides text piece p =
    let n : ℕ = p.end - p.from in (
      take p.from text,
      drop n (drop p.from text),
      sym (ap (λ (t : List ℕ). take p.from text ++ (t ++ drop n (drop p.from text))) p.bytes
          ∙ ap (λ (t : List ℕ). take p.from text ++ t) (take-append-drop n (drop p.from text))
          ∙ take-append-drop p.from text),
    )

pub piece_none : (text : List ℕ) → Piece text []
piece_none text = piece_between text [] [] text refl

pub piece_whole : (text : List ℕ) → Piece text text
piece_whole text = piece_between text [] text [] (sym (append-nil text))

pub piece_of_piece : (text whole piece : List ℕ) → Piece text whole → Piece whole piece → Piece text piece
piece_of_piece text whole piece w p =
    let a = sides text whole w in
    let b = sides whole piece p in
    piece_between text (a.0 ++ b.0) piece (b.1 ++ a.1)
    (a.2 ∙ ap (λ (t : List ℕ). a.0 ++ (t ++ a.1)) b.2
    ∙ ap (λ (t : List ℕ). a.0 ++ t) (append_assoc b.0 (piece ++ b.1) a.1 ∙ ap (λ (t : List ℕ). b.0 ++ t) (append_assoc piece b.1 a.1))
    ∙ sym (append_assoc a.0 b.0 (piece ++ (b.1 ++ a.1))))

-- what an answer or what stands for it gives
pub piece_chosen : (text : List ℕ) (r : Option (Bor (List ℕ))) (other given : Bor (List ℕ)) → MatchOption r ⊤ (λ x. Piece text x.now) → Piece text other.now
    → given ≡ unwrap_or r other → Piece text given.now
piece_chosen text None other given p q e = subst (λ (x : Bor (List ℕ)). Piece text x.now) (sym e) q
piece_chosen text (Some y) other given p q e = subst (λ (x : Bor (List ℕ)). Piece text x.now) (sym e) p

-- the part that one step cuts off stands in front
front : (rest piece left : List ℕ) (done : Bool) → MatchBool done (rest ≡ piece) ((y : ℕ) × (rest ≡ piece ++ (y ∷ left))) → (behind : List ℕ) × (rest ≡ piece ++ behind)
front rest piece left true h = ([], h ∙ sym (append-nil piece))
front rest piece left false h = (h.0 ∷ left, h.1)

-- and one that is cut off from the end behind
behind_all : (text piece left : List ℕ) (done : Bool) → MatchBool done (text ≡ piece) ((y : ℕ) × (text ≡ left ++ (y ∷ piece))) → Piece text piece
behind_all text piece left true h = piece_between text [] piece [] (h ∙ sym (append-nil piece))
behind_all text piece left false h =
    piece_between text (left ++ (h.0 ∷ [])) piece []
    (h.1 ∙ sym (append_assoc left (h.0 ∷ []) piece) ∙ ap (λ (t : List ℕ). (left ++ (h.0 ∷ [])) ++ t) (sym (append-nil piece)))

module _ {F : Type 0} where
  -- what is still to be cut in the second state ends what was to be cut in the first
  abbrev Goes : Split ℕ F → Split ℕ F → Type 0
  Goes s t = split_done t ≡ false → (split_done s ≡ false) × (before : List ℕ) × (split_rest s ≡ before ++ split_rest t)

  goes_on : (s j t : Split ℕ F) → Goes s j → Goes j t → Goes s t
  goes_on s j t a b = λ h.
      let q : (split_done j ≡ false) × (before : List ℕ) × (split_rest j ≡ before ++ split_rest t) = b h in
      let p : (split_done s ≡ false) × (before : List ℕ) × (split_rest s ≡ before ++ split_rest j) = a q.0 in
      (p.0, p.1 ++ q.1, p.2 ∙ ap (λ (v : List ℕ). p.1 ++ v) q.2 ∙ sym (append_assoc p.1 q.1 (split_rest t)))

  goes_nowhere : (s t : Split ℕ F) → s ≡ t → Goes s t
  goes_nowhere s t e = λ h. (ap split_done e ∙ h, [], ap split_rest e)

  module _ (g : Mut F (Bor ℕ × Unit {0}) Bool) where
    goes_a_step : (s t : Split ℕ F) (x : Bor (List ℕ)) → split_steps g s (Some x) t → Goes s t
    goes_a_step s t x h = λ e.
        let more : (y : ℕ) × (split_rest s ≡ x.now ++ (y ∷ split_rest t)) =
        subst (λ (d : Bool). MatchBool d (split_rest s ≡ x.now) ((y : ℕ) × (split_rest s ≡ x.now ++ (y ∷ split_rest t)))) e h.1 in
        (h.0, x.now ++ (more.0 ∷ []), more.1 ∙ sym (append_assoc x.now (more.0 ∷ []) (split_rest t)))

    goes_steps : (xs : List (Bor (List ℕ))) (s t : Split ℕ F) → Yields (split_steps g) s xs t → Goes s t
    goes_steps [] s t y = goes_nowhere s t y
    goes_steps (x ∷ xs) s t y = goes_on s y.0 t (goes_a_step s y.0 x y.1) (goes_steps xs y.0 t y.2)

    piece_next : (s j u : Split ℕ F) (x : Bor (List ℕ)) → Goes s j → split_steps g j (Some x) u → Piece (split_rest s) x.now
    piece_next s j u x a h =
        let p : (split_done s ≡ false) × (before : List ℕ) × (split_rest s ≡ before ++ split_rest j) = a h.0 in
        let q = front (split_rest j) x.now (split_rest u) (split_done u) h.1 in
        piece_between (split_rest s) p.1 x.now q.0 (p.2 ∙ ap (λ (v : List ℕ). p.1 ++ v) q.1)

    -- what comes after some parts, as `find` says it
    pub piece_split : (text : List ℕ) (s u : Split ℕ F) (xs : List (Bor (List ℕ))) (r : Option (Bor (List ℕ))) → split_rest s ≡ text
        → YieldsThen (split_steps g) s xs r u → MatchOption r ⊤ (λ x. Piece text x.now)
    piece_split text s u xs None e y = tt
    piece_split text s u xs (Some x) e y =
        subst (λ (t : List ℕ). Piece t x.now) e (piece_next s y.0 u x (goes_steps xs s y.0 y.1) y.2)

    -- the part that `rsplit` gives first
    pub piece_rsplit : (text : List ℕ) (s t : RSplit ℕ F) (r : Option (Bor (List ℕ))) → split_rest (rsplit_parts s) ≡ text
        → MatchOption r ((split_done (rsplit_parts s) ≡ true) × (rsplit_parts t ≡ rsplit_parts s))
        (λ x. (split_done (rsplit_parts s) ≡ false)
        × MatchBool (split_done (rsplit_parts t)) (split_rest (rsplit_parts s) ≡ x.now) ((y : ℕ) × (split_rest (rsplit_parts s) ≡ split_rest (rsplit_parts t) ++ (y ∷ x.now)))
        × ((p : ℕ → Bool) → ComputesKey g p (split_callee (rsplit_parts s)) → ComputesKey g p (split_callee (rsplit_parts t)) × IsAfterLastMatch p (split_rest (rsplit_parts s)) (length (split_rest (rsplit_parts s)) - length x.now)))
        → MatchOption r ⊤ (λ x. Piece text x.now)
    piece_rsplit text s t None e h = tt
    piece_rsplit text s t (Some x) e h =
        subst (λ (w : List ℕ). Piece w x.now) e (behind_all (split_rest (rsplit_parts s)) x.now (split_rest (rsplit_parts t)) (split_done (rsplit_parts t)) h.1)

    module _ {H : Type 0} (k : Mut H (Bor (Bor (List ℕ)) × Unit {0}) Bool) where
      goes_filter : (xs : List (Bor (List ℕ))) (s t : Filter (Split ℕ F) H) → Yields (filter_steps (split_steps g) k) s xs t → Goes (filter_source s) (filter_source t)
      goes_filter [] s t y = goes_nowhere (filter_source s) (filter_source t) (ap filter_source y)
      goes_filter (x ∷ xs) s t y =
          let j : Filter (Split ℕ F) H = y.0 in
          goes_on (filter_source s) (filter_source j) (filter_source t)
          (goes_on (filter_source s) y.1.2.0 (filter_source j) (goes_steps y.1.0 (filter_source s) y.1.2.0 y.1.2.1) (goes_a_step y.1.2.0 (filter_source j) x y.1.2.2))
          (goes_filter xs j t y.2)

      -- what comes after some parts that pass a test, as `nth` says it
      pub piece_filter : (text : List ℕ) (s u : Filter (Split ℕ F) H) (xs : List (Bor (List ℕ))) (r : Option (Bor (List ℕ))) → split_rest (filter_source s) ≡ text
          → YieldsThen (filter_steps (split_steps g) k) s xs r u → MatchOption r ⊤ (λ x. Piece text x.now)
      piece_filter text s u xs None e y = tt
      piece_filter text s u xs (Some x) e y =
          let j : Filter (Split ℕ F) H = y.0 in
          subst (λ (t : List ℕ). Piece t x.now) e
          (piece_next (filter_source s) y.2.2.0 (filter_source u) x
          (goes_on (filter_source s) (filter_source j) y.2.2.0 (goes_filter xs s j y.1) (goes_steps y.2.0 (filter_source j) y.2.2.0 y.2.2.1)) y.2.2.2)
