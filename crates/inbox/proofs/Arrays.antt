-- Arrays that hold what was read: one entry more, and the darts of a face. Assumes nothing.
use Rattle.std.specs.Prelude.{None, Some}
use Rattle.groups.specs.Slices.{MaybeRead}
use mathlib.Core.Path.{◌≡◌, refl, sym, ◌∙◌, ap, subst}
use mathlib.Core.List.{List, [], ◌∷◌, ◌++◌, append_assoc, append-nil}
use Prim.Native.Nat.{ℕ, zero, suc, ◌+◌, ◌≤◌, ◌<◌}
use native.Mathlib.Omega.{arith}
use lib.ListN.{length, take, set, replicate, length-append, length-set, length-map}
use lib.Seq.{take-suc-set}
use Rattle.laws.proofs.Members.{map_append}
use Rattle.model.specs.Messages.{FaceDart, face_dart}
use Rattle.codec.specs.Taken.{Took}
use Rattle.inbox.specs.Inbox.{most, Sides, Grown, DartSaid, DartRead, DartsIn, DartsRead}
use Rattle.codec.proofs.Taking.{SoFar, so_far_start, so_far_more, so_far_stop, so_far_end}

pub grown_start : (i : ℕ) (o : List ℕ) → Grown i [] o o
grown_start i o = record { front = ap (λ (k : ℕ). take k o) none_yet ∙ sym (append-nil (take i o)); size = refl }
  where
    none_yet : i + length {A = ℕ} [] ≡ i
    none_yet = omega arith

pub grown_more : {i : ℕ} {l o o' : List ℕ} (k y : ℕ) → Grown i l o o' → k ≡ i + length l → k < length o' → Grown i (l ++ y ∷ []) o (set o' k y)
grown_more {i} {l} {o} {o'} k y w e h = record {
  front = ap (λ (n : ℕ). take n (set o' k y)) count ∙ take-suc-set o' k y h ∙ ap (λ (f : List ℕ). f ++ y ∷ []) (ap (λ (n : ℕ). take n o') e ∙ w.front) ∙ append_assoc (take i o) l (y ∷ []);
  size = length-set o' k y ∙ w.size;
}
  where
    count : i + length (l ++ y ∷ []) ≡ suc k
    count = omega (arith, length-append l (y ∷ []))

pub replicate_more : (n v : ℕ) → replicate (suc n) v ≡ replicate n v ++ v ∷ []
replicate_more zero v = refl
replicate_more (suc n) v = ap (λ (l : List ℕ). v ∷ l) (replicate_more n v)

pub length_replicate : (n v : ℕ) → length (replicate n v) ≡ n
length_replicate zero v = refl
length_replicate (suc n) v = ap suc (length_replicate n v)

-- THE DARTS OF A FACE
pub record Darts (s : List ℕ) (at start size : ℕ) (v x b z : List ℕ) (i p : ℕ) (v' x' b' z' : List ℕ) : Type 0 where
  pub ds : List FaceDart
  pub so_far : SoFar face_dart s at p ds
  pub count : i ≡ start + length ds
  pub fits : i ≤ start + size
  pub inside : DartsIn start size ds v v' x x' b b' z z'
  pub sides : Sides v' x' b' z'

pub darts_start : {s : List ℕ} {at start size : ℕ} {v x b z : List ℕ} → at ≤ length s → Sides v x b z → Darts s at start size v x b z start at v x b z
darts_start {s} {at} {start} {size} {v} {x} {b} {z} h w = record {
  ds = [];
  so_far = so_far_start face_dart at h;
  count = omega arith;
  fits = omega arith;
  inside = record { vertices = grown_start start v; serials = grown_start start x; starts = grown_start start b; sizes = grown_start start z };
  sides = w;
}

module _ {s : List ℕ} {at start size : ℕ} {v x b z : List ℕ} {i p : ℕ} {v' x' b' z' : List ℕ} (fit : start + size ≤ most) (w : Darts s at start size v x b z i p v' x' b' z') where
  darts_on : {d : FaceDart} {q : ℕ} → i < start + size → Took face_dart s p d q → Darts s at start size v x b z (i + 1) q (set v' i d.vertex) (set x' i d.serial) (set b' i start) (set z' i size)
  darts_on {d} {q} h t =
      let e = w.count in
      let room = w.sides in
      let k : length (w.ds ++ d ∷ []) ≡ suc (length w.ds) = omega (arith, length-append w.ds (d ∷ [])) in
      record {
        ds = w.ds ++ d ∷ [];
        so_far = so_far_more face_dart w.so_far t;
        count = omega arith;
        fits = omega arith;
        inside = record {
          vertices =
              rw (map_append (λ (c : FaceDart). c.vertex) w.ds (d ∷ []))
              (grown_more i d.vertex w.inside.vertices (e ∙ ap (λ (n : ℕ). start + n) (sym (length-map w.ds (λ (c : FaceDart). c.vertex)))) (omega (arith, room.vertex_size)));
          serials =
              rw (map_append (λ (c : FaceDart). c.serial) w.ds (d ∷ []))
              (grown_more i d.serial w.inside.serials (e ∙ ap (λ (n : ℕ). start + n) (sym (length-map w.ds (λ (c : FaceDart). c.serial)))) (omega (arith, room.serial_size)));
          starts =
              rw (k, replicate_more (length w.ds) start)
              (grown_more i start w.inside.starts (e ∙ ap (λ (n : ℕ). start + n) (sym (length_replicate (length w.ds) start))) (omega (arith, room.starts_size)));
          sizes =
              rw (k, replicate_more (length w.ds) size)
              (grown_more i size w.inside.sizes (e ∙ ap (λ (n : ℕ). start + n) (sym (length_replicate (length w.ds) size))) (omega (arith, room.sizes_size)));
        };
        sides = record {
          vertex_size = length-set v' i d.vertex ∙ room.vertex_size;
          serial_size = length-set x' i d.serial ∙ room.serial_size;
          starts_size = length-set b' i start ∙ room.starts_size;
          sizes_size = length-set z' i size ∙ room.sizes_size;
        };
      }

  pub darts_more : {v'' x'' : List ℕ} {r : MaybeRead} {u q : ℕ} → r ≡ Some (u, q) → i < start + size → DartRead s p i v' v'' x' x'' r
      → Darts s at start size v x b z (i + 1) q v'' x'' (set b' i start) (set z' i size)
  darts_more {v''} {x''} {r} {u} {q} e h t = go (subst (DartSaid s p i v' v'' x' x'') e t.said)
    where
      go : DartSaid s p i v' v'' x' x'' (Some (u, q)) → Darts s at start size v x b z (i + 1) q v'' x'' (set b' i start) (set z' i size)
      go t = rw (t.2, t.3) (darts_on h t.1)

  pub darts_stop : {v'' x'' : List ℕ} {r : MaybeRead} → r ≡ None → i < start + size → DartRead s p i v' v'' x' x'' r → DartsRead s at start size v v'' x x'' b b' z z' None
  darts_stop {v''} {x''} {r} e h t = go (subst (DartSaid s p i v' v'' x' x'') e t.said)
    where
      go : DartSaid s p i v' v'' x' x'' None → DartsRead s at start size v v'' x x'' b b' z z' None
      go t = record { said = (so_far_stop face_dart size w.so_far (let k = w.count in omega arith) t.0, rw (t.1, t.2) w.sides) }

  pub darts_end : {n : ℕ} → n ≡ size → start + size ≤ i → DartsRead s at start size v v' x x' b b' z z' (Some (n, p))
  darts_end e h =
      let k : length w.ds ≡ size = let j = w.count in let f = w.fits in omega arith in
      record { said = (e, (w.ds, so_far_end face_dart size w.so_far k, k, w.inside)) }
