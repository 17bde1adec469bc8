-- Faces read one after the other into arrays. Assumes nothing.
use Rattle.std.specs.Prelude.{None, Some}
use mathlib.Core.Path.{◌≡◌, refl, sym, ◌∙◌, ap, subst}
use mathlib.Core.Bool.{Bool, false, ◌&&◌, ◌||◌}
use mathlib.Core.List.{List, [], ◌∷◌, ◌++◌, append_assoc, append-nil}
use mathlib.Core.Option.{none, some, none-ne-some}
use Prim.Native.Nat.{ℕ, suc, ◌+◌, ◌-◌, ◌≤◌, ◌<◌}
use native.Mathlib.Omega.{arith}
use lib.Dec.{leb, eqb}
use lib.ListN.{length, take, drop, replicate, length-append, length-map}
use borrow.Author.Tests.{le-leb, lt-leb}
use Rattle.model.specs.Lists.{concat}
use Rattle.model.specs.Layouts.{Layout, then, group, as_type, ◌⊗◌, times, get_all, counted}
use Rattle.model.specs.Messages.{FaceDart, face_dart, size_all}
use Rattle.laws.proofs.Members.{map_append}
use Rattle.laws.proofs.Tests.{by_cases, and_intro}
use Rattle.theory.proofs.LayoutLaws.{get_all_length, same_value, then_some}
use Rattle.groups.specs.Slices.{MaybeRead}
use Rattle.codec.specs.Taken.{Took}
use Rattle.inbox.specs.Inbox.{most, Sides, Grown, DartsSaid, DartsRead, FaceSaid, FaceRead, FacesIn, FacesRead, starts_of, sizes_of, some_darts, is_hollow}
use Rattle.codec.proofs.Taking.{SoFar, so_far_start, so_far_more, so_far_end, counted_none, counted_half, counted_took}
use Rattle.inbox.proofs.Arrays.{length_replicate}

counted_length : {A : Type 0} (l : Layout A) {s : List ℕ} {at n p : ℕ} (xs : List A) (rest : List ℕ) → Took group s at n p → (counted l).get (drop at s) ≡ some (xs, rest) → length xs ≡ n
unfolding counted times as_type ◌⊗◌
counted_length l {s} {at} {n} {p} xs rest w e =
    let e' = rw w.value at e in
    let r = then_some (then (get_all l n (drop p s)) _) _ _ e' in
    let t = then_some (get_all l n (drop p s)) _ _ r.2 in
    sym (ap length (ap (λ (q : ℕ × List _). q.1) (same_value t.3) ∙ same_value r.3)) ∙ get_all_length l n (drop p s) t.0 t.1 t.2

-- ONE FACE
pub face_none : (s : List ℕ) (at : ℕ) {i : ℕ} {v x b z : List ℕ} → group.get (drop at s) ≡ none → Sides v x b z → FaceRead s at i v v x x b b z z None
face_none s at e w = record { said = (λ f rest k. absurd (none-ne-some _ (sym (counted_none face_dart (drop at s) e) ∙ k)), w) }

pub face_large : (i : ℕ) {s : List ℕ} {at n p : ℕ} {v x b z : List ℕ} → Took group s at n p → most < i + n → Sides v x b z → FaceRead s at i v v x x b b z z None
face_large i {s} {at} {n} {p} w h sides = record { said = (λ f rest k. let e = counted_length face_dart f rest w k in omega arith, sides) }

module _ (i : ℕ) {s : List ℕ} {at n p : ℕ} (w : Took group s at n p) (h : i + n ≤ most) where
  face_said : (v v' x x' b b' z z' : List ℕ) (r : MaybeRead) → DartsSaid s p i n v v' x x' b b' z z' r → FaceSaid s at i v v' x x' b b' z z' r
  face_said v v' x x' b b' z z' None d = (λ f rest k. absurd (none-ne-some _ (sym (counted_half face_dart w d.0) ∙ k)), d.1)
  face_said v v' x x' b b' z z' (Some (m, next)) d =
      let t = d.1 in
      (t.0, counted_took face_dart w t.1, d.0 ∙ sym t.2, (let e = t.2 in omega arith), rw d.0 t.3)

  pub face_read : {v v' x x' b b' z z' : List ℕ} {r : MaybeRead} → DartsRead s p i n v v' x x' b b' z z' r → FaceRead s at i v v' x x' b b' z z' r
  face_read {v} {v'} {x} {x'} {b} {b'} {z} {z'} {r} d = record { said = face_said v v' x x' b b' z z' r d.said }

pub face_fits : {s : List ℕ} {at i : ℕ} {v v' x x' b b' z z' : List ℕ} {r : MaybeRead} {n q : ℕ} → r ≡ Some (n, q) → FaceRead s at i v v' x x' b b' z z' r → i + n ≤ most
face_fits {s} {at} {i} {v} {v'} {x} {x'} {b} {b'} {z} {z'} {r} {n} {q} e t = go (subst (FaceSaid s at i v v' x x' b b' z z') e t.said)
  where
    go : FaceSaid s at i v v' x x' b b' z z' (Some (n, q)) → i + n ≤ most
    go t = let a = t.2 in let b = t.3 in omega arith

-- ALL FACES
size_more : (fs : List (List FaceDart)) (f : List FaceDart) → size_all (fs ++ f ∷ []) ≡ size_all fs + length f
unfolding size_all
size_more [] f = omega arith
size_more (g ∷ fs) f = omega (arith, size_more fs f)

concat_more : (fs : List (List FaceDart)) (f : List FaceDart) → concat (fs ++ f ∷ []) ≡ concat fs ++ f
unfolding concat
concat_more [] f = append-nil f
concat_more (g ∷ fs) f = ap (λ (l : List FaceDart). g ++ l) (concat_more fs f) ∙ sym (append_assoc g (concat fs) f)

starts_more : (i : ℕ) (fs : List (List FaceDart)) (f : List FaceDart) → starts_of i (fs ++ f ∷ []) ≡ starts_of i fs ++ replicate (length f) (i + size_all fs)
unfolding starts_of size_all
starts_more i [] f = let e : i + 0 ≡ i = omega arith in rw e (append-nil (replicate (length f) i))
starts_more i (g ∷ fs) f = let e : i + length g + size_all fs ≡ i + (length g + size_all fs) = omega arith in
    rw (starts_more (i + length g) fs f, e) (sym (append_assoc (replicate (length g) i) (starts_of (i + length g) fs) (replicate (length f) (i + (length g + size_all fs)))))

sizes_more : (fs : List (List FaceDart)) (f : List FaceDart) → sizes_of (fs ++ f ∷ []) ≡ sizes_of fs ++ replicate (length f) (length f)
unfolding sizes_of
sizes_more [] f = append-nil (replicate (length f) (length f))
sizes_more (g ∷ fs) f = rw (sizes_more fs f) (sym (append_assoc (replicate (length g) (length g)) (sizes_of fs) (replicate (length f) (length f))))

hollow_more : (fs : List (List FaceDart)) (f : List FaceDart) → is_hollow (fs ++ f ∷ []) ≡ (is_hollow fs || eqb (length f) 0)
hollow_more [] f = by_cases (eqb (length f) 0) (λ e. rw e) (λ e. rw e)
hollow_more (g ∷ fs) f = by_cases (eqb (length g) 0) (λ e. rw e) (λ e. rw e (hollow_more fs f))

size_front : (fs gs : List (List FaceDart)) → size_all fs ≤ size_all (fs ++ gs)
unfolding size_all
size_front [] gs = omega arith
size_front (f ∷ fs) gs = omega (arith, size_front fs gs)

module _ (s : List ℕ) (at count : ℕ) where
  pub record Reading (done darts p : ℕ) (hollow : Bool) (v x b z : List ℕ) : Type 0 where
    pub fs : List (List FaceDart)
    pub so_far : SoFar (counted face_dart) s at p fs
    pub read : length fs ≡ done
    pub within : done ≤ count
    pub darts_are : darts ≡ size_all fs
    pub few : darts ≤ most
    pub hollow_is : hollow ≡ is_hollow fs
    pub inside : FacesIn fs v x b z
    pub sides : Sides v x b z

  pub reading_start : {v x b z : List ℕ} → at ≤ length s → Sides v x b z → Reading 0 0 at false v x b z
  unfolding starts_of sizes_of size_all concat
  reading_start h w = record {
    fs = [];
    so_far = so_far_start (counted face_dart) at h;
    read = refl;
    within = omega arith;
    darts_are = refl;
    few = omega arith;
    hollow_is = refl;
    inside = record { vertices = refl; serials = refl; starts = refl; sizes = refl };
    sides = w;
  }

  module _ {done darts p : ℕ} {hollow : Bool} {v x b z v' x' b' z' : List ℕ} (w : Reading done darts p hollow v x b z) where
    pub reading_more : {r : MaybeRead} {n q : ℕ} → r ≡ Some (n, q) → done < count → FaceRead s p darts v v' x x' b b' z z' r → Reading (done + 1) (darts + n) q (hollow || eqb n 0) v' x' b' z'
    reading_more {r} {n} {q} e h t = go (subst (FaceSaid s p darts v v' x x' b b' z z') e t.said)
      where
        front : (k : ℕ) {o o' : List ℕ} {l m : List ℕ} → Grown darts m o o' → take (size_all w.fs) o ≡ l → k ≡ darts + length m → take k o' ≡ l ++ m
        front k {o} {o'} {l} {m} g a c = ap (λ (j : ℕ). take j o') c ∙ g.front ∙ ap (λ (t : List ℕ). t ++ m) (ap (λ (j : ℕ). take j o) w.darts_are ∙ a)

        go : FaceSaid s p darts v v' x x' b b' z z' (Some (n, q)) → Reading (done + 1) (darts + n) q (hollow || eqb n 0) v' x' b' z'
        go t =
            let f = t.0 in
            let n-is = t.2 in
            let d = t.4 in
            let more = size_more w.fs f in
            let was = w.darts_are in
            let old = w.inside in
            let sides = w.sides in
            let none_before : 0 + size_all w.fs ≡ size_all w.fs = omega arith in
            let sized : Grown darts (replicate (length f) (length f)) z z' = subst (λ (k : ℕ). Grown darts (replicate (length f) k) z z') n-is d.sizes in
            record {
              fs = w.fs ++ f ∷ [];
              so_far = so_far_more (counted face_dart) w.so_far t.1;
              read = (let a = w.read in omega (arith, length-append w.fs (f ∷ [])));
              within = omega arith;
              darts_are = omega (arith, more, n-is);
              few = (let a = t.3 in omega (arith, n-is));
              hollow_is = rw (hollow_more w.fs f, w.hollow_is, n-is);
              inside = record {
                vertices =
                    rw (concat_more w.fs f, map_append (λ (c : FaceDart). c.vertex) (concat w.fs) f)
                    (front (size_all (w.fs ++ f ∷ [])) d.vertices old.vertices (omega (arith, more, length-map f (λ (c : FaceDart). c.vertex))));
                serials =
                    rw (concat_more w.fs f, map_append (λ (c : FaceDart). c.serial) (concat w.fs) f)
                    (front (size_all (w.fs ++ f ∷ [])) d.serials old.serials (omega (arith, more, length-map f (λ (c : FaceDart). c.serial))));
                starts = rw (starts_more 0 w.fs f, none_before) (rw (← was) (front (size_all (w.fs ++ f ∷ [])) d.starts old.starts (omega (arith, more, length_replicate (length f) darts))));
                sizes = rw (sizes_more w.fs f) (front (size_all (w.fs ++ f ∷ [])) sized old.sizes (omega (arith, more, length_replicate (length f) (length f))));
              };
              sides = record {
                vertex_size = d.vertices.size ∙ sides.vertex_size;
                serial_size = d.serials.size ∙ sides.serial_size;
                starts_size = d.starts.size ∙ sides.starts_size;
                sizes_size = d.sizes.size ∙ sides.sizes_size;
              };
            }

    -- no face is read, so none that fits stands there
    pub reading_stop : {r : MaybeRead} → r ≡ None → done < count → FaceRead s p darts v v' x x' b b' z z' r → FacesRead s at count v' x' b' z' None
    unfolding get_all
    reading_stop {r} e h t = go (subst (FaceSaid s p darts v v' x x' b b' z z') e t.said)
      where
        go : FaceSaid s p darts v v' x x' b b' z z' None → FacesRead s at count v' x' b' z' None
        go t = record { sides = t.1; said = λ fs rest k. too_many fs rest k t.0 }
          where
            too_many : (fs : List (List FaceDart)) (rest : List ℕ) → get_all (counted face_dart) count (drop at s) ≡ some (fs, rest)
                → ((f : List FaceDart) (rest : List ℕ) → (counted face_dart).get (drop p s) ≡ some (f, rest) → most < darts + length f) → some_darts fs ≡ false
            too_many fs rest k large =
                let count_is : count ≡ length w.fs + suc (count - done - 1) = (let a = w.read in omega arith) in
                let whole = sym (ap (λ (c : ℕ). get_all (counted face_dart) c (drop at s)) count_is ∙ w.so_far.rest (suc (count - done - 1))) ∙ k in
                let r = then_some (get_all (counted face_dart) (suc (count - done - 1)) (drop p s)) _ _ whole in
                next r.0 r.2 (same_value r.3)
              where
                next : (gs : List (List FaceDart)) {t : List ℕ} → get_all (counted face_dart) (suc (count - done - 1)) (drop p s) ≡ some (gs, t) → w.fs ++ gs ≡ fs → some_darts fs ≡ false
                next gs e same =
                    let a = then_some ((counted face_dart).get (drop p s)) _ _ e in
                    let b = then_some (get_all (counted face_dart) (count - done - 1) a.1) _ _ a.3 in
                    last a.0 b.0 (large a.0 a.1 a.2) (same_value b.3) same
                  where
                    last : (f : List FaceDart) (hs : List (List FaceDart)) → most < darts + length f → f ∷ hs ≡ gs → w.fs ++ gs ≡ fs → some_darts fs ≡ false
                    last f hs big e same = small_not (size_all fs) (let a = size_front (w.fs ++ f ∷ []) hs in
                        let b : (w.fs ++ f ∷ []) ++ hs ≡ fs = append_assoc w.fs (f ∷ []) hs ∙ ap (λ (l : List (List FaceDart)). w.fs ++ l) e ∙ same in
                        let c = size_more w.fs f in let d = w.darts_are in omega (arith, ap size_all b))
                      where
                        small_not : (k : ℕ) → 512 < k → (leb 1 k && leb k 512) ≡ false
                        small_not k h = rw (le-leb 1 k (omega arith), lt-leb k 512 h)

  module _ {done darts p : ℕ} {hollow : Bool} {v x b z : List ℕ} (w : Reading done darts p hollow v x b z) (none_left : count ≤ done) where
    all_read : Took (times count (counted face_dart)) s at w.fs p
    unfolding times
    all_read = so_far_end (counted face_dart) count w.so_far (let a = w.read in let e = w.within in omega arith)

    pub reading_none : darts ≡ 0 → FacesRead s at count v x b z None
    unfolding times
    reading_none few = record { sides = w.sides; said = none_there }
      where
        none_there : (fs : List (List FaceDart)) (rest : List ℕ) → get_all (counted face_dart) count (drop at s) ≡ some (fs, rest) → some_darts fs ≡ false
        none_there fs rest k =
            let same : fs ≡ w.fs = same_value (sym k ∙ all_read.value) in
            let b = w.darts_are in
            rw (same, lt-leb 1 (size_all w.fs) (omega arith))

    pub reading_end : (darts ≡ 0 → ⊥) → FacesRead s at count v x b z (Some (record { hollow = hollow; darts = darts; next = p }))
    reading_end some_there = record {
      sides = w.sides;
      said = (
        w.fs,
        all_read,
        (let b = w.darts_are in let c = w.few in and_intro (le-leb 1 (size_all w.fs) (omega arith)) (le-leb (size_all w.fs) 512 (omega arith))),
        w.darts_are,
        w.hollow_is,
        w.inside,
      );
    }
