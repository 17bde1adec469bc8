-- Volumes by place: a dart is in the volume of each dart of its volume. Assumes nothing.
use mathlib.Core.Path.{◌≡◌, subst}
use mathlib.Core.List.{List}
use Prim.Native.Nat.{ℕ, zero, suc, ◌<◌}
use native.Mathlib.Omega.{arith}
use lib.ListN.{length}
use Rattle.model.specs.Cells.{cycle}
use Rattle.model.specs.Image.{column}
use Rattle.laws.proofs.Members.{In}
use Rattle.laws.proofs.Orbits.{iter}
use Rattle.cells.specs.Places.{Within, Apart, Linked, volume_of}
use Rattle.cells.proofs.Paths.{round}
use Rattle.cells.proofs.Reached.{volume_linked}

iter_closed : (f : ℕ → ℕ) (v : List ℕ) → ((y : ℕ) → In y v → In (f y) v) → (k x : ℕ) → In x v → In (iter f k x) v
iter_closed f v c zero x h = h
iter_closed f v c (suc k) x h = iter_closed f v c k (f x) (c x h)

-- a closed list that has f x has x: the orbit comes back
come_back : (f : ℕ → ℕ) (v : List ℕ) → ((y : ℕ) → In y v → In (f y) v) → (x c : ℕ) → 0 < c → iter f c x ≡ x → In (f x) v → In x v
come_back f v closed x zero pos e h = absurd (omega arith)
come_back f v closed x (suc c) pos e h = subst (λ (y : ℕ). In y v) e (iter_closed f v closed c (f x) h)

module _ {b : List ℕ} {n : ℕ} (l : Linked b n) where
  -- what is closed and has x has all of its volume
  pub volume_within : (x y : ℕ) → x < n → y < n → In x (volume_of b y) → (z : ℕ) → In z (volume_of b x) → In z (volume_of b y)
  volume_within x y hx hy h = (volume_linked l hx).least (λ z. In z (volume_of b y)) h (volume_linked l hy).closed_f (volume_linked l hy).closed_g

  record Back (d x : ℕ) : Type 0 where
    below : x < n
    there : In d (volume_of b x)

  back_along : (d : ℕ) (f : ℕ → ℕ) → Within n f → Apart n f → ((x : ℕ) → x < n → (y : ℕ) → In y (volume_of b x) → In (f y) (volume_of b x)) → (x : ℕ) → Back d x → Back d (f x)
  back_along d f w a closed x r =
      let fx = w x r.below in
      let o = round l.few w a x r.below in
      let here = come_back f (volume_of b (f x)) (closed (f x) fx) x (length (cycle f x)) o.some o.returns (volume_linked l fx).here in
      record { below = fx; there = volume_within x (f x) r.below fx here d r.there }

  pub volume_sym : (d y : ℕ) → d < n → In y (volume_of b d) → In d (volume_of b y)
  volume_sym d y h i = ((volume_linked l h).least (Back d) (record { below = h; there = (volume_linked l h).here })
      (back_along d (column b 1) l.next_within l.next_apart (λ x hx. (volume_linked l hx).closed_f))
      (back_along d (column b 2) l.opposite_within l.opposite_apart (λ x hx. (volume_linked l hx).closed_g)) y i).there
