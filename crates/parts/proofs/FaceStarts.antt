-- The faces of a transfer by the index of their start, from the arrays of its darts. Assumes nothing.
use mathlib.Core.Path.{◌≡◌, refl, sym, ◌∙◌, ap}
use mathlib.Core.Bool.{Bool, true, false, true≢false, ◌||◌}
use mathlib.Core.List.{List, [], ◌∷◌, map}
use mathlib.Core.Logic.{⊎_elim}
use Prim.Native.Nat.{ℕ, ◌+◌, ◌-◌, ◌≤◌, ◌<◌}
use native.Mathlib.Omega.{arith}
use lib.Dec.{eqb}
use lib.ListN.{length, get_or, replicate, length-map, length-replicate, get_or-replicate, get_or-append, get_or-map}
use borrow.Author.Tests.{eq-eqb, ne_eqb, lt-ltb, le-ltb}
use Rattle.model.specs.Lists.{mem, concat, tab, find}
use Rattle.model.specs.Messages.{FaceDart, Transfer, size_all}
use Rattle.model.specs.Links.{placed}
use Rattle.model.specs.Arrival.{face_serials, placed_faces, face_or, face_from}
use Rattle.laws.proofs.Tests.{lt_or_ge, eq_or_ne}
use Rattle.laws.proofs.Tables.{tab_cong}
use Rattle.theory.proofs.ImageLaws.{tab_list}
use Rattle.inbox.specs.Inbox.{FacesIn, starts_of, sizes_of, is_hollow}
use Rattle.arrival.proofs.SideLaws.{From, past_face, from_start, no_side}
use Rattle.parts.specs.Indices.{starts_at}

pub or_first : (a b : Bool) → (a || b) ≡ false → a ≡ false
or_first true b e = e
or_first false b e = refl

pub or_second : (a b : Bool) → (a || b) ≡ false → b ≡ false
or_second true b e = absurd (true≢false e)
or_second false b e = e

-- no face starts before the first one
placed_above : (o : ℕ) (fs : List (List ℕ)) (i : ℕ) → i < o → mem i (map (λ p. p.at) (placed o fs)) ≡ false
unfolding placed
placed_above o [] i h = refl
placed_above o (f ∷ fs) i h = rw (ne_eqb i o (λ e. omega arith)) (placed_above (o + length f) fs i (omega arith))

-- nor after the last dart, where no face is empty
placed_within : (o : ℕ) (fs : List (List FaceDart)) (i : ℕ) → is_hollow fs ≡ false → o + size_all fs ≤ i → mem i (map (λ p. p.at) (placed o (map face_serials fs))) ≡ false
unfolding placed size_all
placed_within o [] i n h = refl
placed_within o (f ∷ fs) i n h =
    let full : length f ≡ 0 → ⊥ = (λ e. true≢false (sym (eq-eqb (length f) 0 e) ∙ or_first (eqb (length f) 0) _ n)) in
    let size = length-map f (λ (c : FaceDart). c.serial) in
    rw (ne_eqb i o (λ e. full (omega arith))) (placed_within (o + length (face_serials f)) fs i (or_second (eqb (length f) 0) _ n) (omega (arith, h, size)))

module _ (v x b z : List ℕ) where
  module _ (o : ℕ) (f : List FaceDart) (fs : List (List FaceDart)) (w : From v x b z o (f ∷ fs)) where
    start_here : (j : ℕ) → j < length f → get_or b (o + j) 0 ≡ o
    unfolding starts_of size_all
    start_here j h = w.start_is j (omega arith) ∙ get_or-append (replicate (length f) o) _ 0 j (rw (length-replicate (length f) o) h) ∙ get_or-replicate (length f) j o 0 h

    size_here : (j : ℕ) → j < length f → get_or z (o + j) 0 ≡ length f
    unfolding sizes_of size_all
    size_here j h = w.size_is j (omega arith) ∙ get_or-append (replicate (length f) (length f)) _ 0 j (rw (length-replicate (length f) (length f)) h) ∙ get_or-replicate (length f) j (length f) 0 h

    serials_here : face_serials f ≡ tab (λ j. get_or x (o + j) 0) (length f)
    unfolding concat size_all
    serials_here =
        sym (tab_list 0 (face_serials f) (λ j. get_or x (o + j) 0) (λ j h. let k : j < length f = omega (arith, h, length-map f (λ (c : FaceDart). c.serial)) in
        w.serial_is j (omega arith) ∙ ap (λ (d : FaceDart). d.serial) (get_or-append f (concat fs) no_side j k) ∙ sym (get_or-map (λ (d : FaceDart). d.serial) f j no_side)))
        ∙ ap (tab (λ j. get_or x (o + j) 0)) (length-map f (λ (c : FaceDart). c.serial))

  -- a face starts at an index exactly if that is its own start
  start_mem : (o : ℕ) (fs : List (List FaceDart)) → From v x b z o fs → is_hollow fs ≡ false → (i : ℕ) → o ≤ i → i < o + size_all fs
      → mem i (map (λ p. p.at) (placed o (map face_serials fs))) ≡ eqb (get_or b i 0) i
  unfolding placed size_all
  start_mem o [] w n i g h = absurd (omega arith)
  start_mem o (f ∷ fs) w n i g h =
      let full : length f ≡ 0 → ⊥ = (λ e. true≢false (sym (eq-eqb (length f) 0 e) ∙ or_first (eqb (length f) 0) _ n)) in
      let size = length-map f (λ (c : FaceDart). c.serial) in
      ⊎_elim
      (λ (y : i < o + length f).
      let s : get_or b i 0 ≡ o = ap (λ (q : ℕ). get_or b q 0) (omega arith) ∙ start_here o f fs w (i - o) (omega arith) in
      ⊎_elim
      (λ (e : i ≡ o). rw (eq-eqb i o e, eq-eqb (get_or b i 0) i (s ∙ sym e)) refl)
      (λ (e : i ≡ o → ⊥). rw (ne_eqb i o e, ne_eqb (get_or b i 0) i (λ q. e (sym q ∙ s))) (placed_above (o + length (face_serials f)) (map face_serials fs) i (omega arith)))
      (eq_or_ne i o))
      (λ (y : o + length f ≤ i). rw (ne_eqb i o (λ e. full (omega arith)), size) (start_mem (o + length f) fs (past_face v x b z o f fs w) (or_second (eqb (length f) 0) _ n) i y (omega arith)))
      (lt_or_ge i (o + length f))

  face_at : (o : ℕ) (fs : List (List FaceDart)) → From v x b z o fs → is_hollow fs ≡ false → (i : ℕ) → o ≤ i → i < o + size_all fs → get_or b i 0 ≡ i
      → face_or (find (λ p. p.at) i (placed o (map face_serials fs))) ≡ tab (λ j. get_or x (i + j) 0) (get_or z i 0)
  unfolding placed size_all
  face_at o [] w n i g h s = absurd (omega arith)
  face_at o (f ∷ fs) w n i g h s =
      let full : length f ≡ 0 → ⊥ = (λ e. true≢false (sym (eq-eqb (length f) 0 e) ∙ or_first (eqb (length f) 0) _ n)) in
      let size = length-map f (λ (c : FaceDart). c.serial) in
      ⊎_elim
      (λ (y : i < o + length f).
      let e : i ≡ o = sym s ∙ ap (λ (q : ℕ). get_or b q 0) (omega arith) ∙ start_here o f fs w (i - o) (omega arith) in
      let c : get_or z i 0 ≡ length f = ap (λ (q : ℕ). get_or z q 0) (omega arith) ∙ size_here o f fs w (i - o) (omega arith) in
      rw (eq-eqb i o e, c) (serials_here o f fs w ∙ tab_cong _ _ (length f) (λ j l. ap (λ (q : ℕ). get_or x q 0) (omega arith))))
      (λ (y : o + length f ≤ i). rw (ne_eqb i o (λ e. full (omega arith)), size) (face_at (o + length f) fs (past_face v x b z o f fs w) (or_second (eqb (length f) 0) _ n) i y (omega arith) s))
      (lt_or_ge i (o + length f))

  module _ (t : Transfer) (inside : FacesIn t.faces v x b z) (full : is_hollow t.faces ≡ false) where
    pub starts_are : (i : ℕ) → mem i (map (λ p. p.at) (placed_faces t)) ≡ starts_at b (size_all t.faces) i
    unfolding placed_faces
    starts_are i = ⊎_elim
        (λ (h : i < size_all t.faces). rw (lt-ltb i (size_all t.faces) h) (start_mem 0 t.faces (from_start v x b z t.faces inside) full i (omega arith) (omega arith)))
        (λ (h : size_all t.faces ≤ i). rw (le-ltb i (size_all t.faces) h) (placed_within 0 t.faces i full (omega arith)))
        (lt_or_ge i (size_all t.faces))

    -- the face from its start on
    pub face_is : (i : ℕ) → i < size_all t.faces → get_or b i 0 ≡ i → face_from t i ≡ tab (λ j. get_or x (i + j) 0) (get_or z i 0)
    unfolding placed_faces face_from
    face_is i h s = face_at 0 t.faces (from_start v x b z t.faces inside) full i (omega arith) (omega arith) s
