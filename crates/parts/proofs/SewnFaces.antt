-- The faces of part 2, one after the other: what each leaves. Assumes nothing.
use mathlib.Core.Path.{◌≡◌, refl, sym, ◌∙◌, ap, subst}
use mathlib.Core.Bool.{Bool, true, false, true≢false, cond, not, ◌&&◌}
use mathlib.Core.List.{List}
use Prim.Native.Nat.{ℕ, ◌+◌, ◌≤◌, ◌<◌}
use native.Mathlib.Omega.{arith}
use native.Mathlib.Numerals.{add-one}
use lib.Dec.{ltb, eqb}
use lib.ListN.{length, get_or, set, take}
use lib.Seq.{get_or-take, take-suc}
use borrow.Author.Tests.{ltb-true, lt-ltb, le-ltb}
use Rattle.model.specs.Lists.{all, mem, tab}
use Rattle.model.specs.Cells.{cycle}
use Rattle.model.specs.Image.{column}
use Rattle.laws.proofs.Tests.{and_left}
use Rattle.cells.specs.Places.{Assigned}
use Rattle.cells.proofs.Paths.{assign_more}
use Rattle.parts.specs.Faces.{Over}
use Rattle.parts.specs.Meets.{Meetable, Trailed, met_at, entry_right, EntryRight}
use Rattle.parts.specs.Sewing.{Entered, SeenBy, Part2Told, clear_of, face_size, passes_at}
use Rattle.parts.proofs.NumberLaws.{every_more}
use Rattle.parts.proofs.Trails.{met_same, trailed_front}

-- A PLACE that is new
pub not_place : (y n : ℕ) (b : Bool) → n ≤ y → false ≡ (ltb y n && b)
not_place y n b h = rw (le-ltb y n h) refl

pub a_place : (y n : ℕ) (b : Bool) → y < n → b ≡ (ltb y n && b)
a_place y n b h = rw (lt-ltb y n h) refl

-- PAINTING a trail
pub assign_trail : (trail : List ℕ) {t t' : List ℕ} (j : ℕ) → Assigned 1 (take j trail) t t' → j < length trail → get_or trail j 0 < length t
    → {p : ℕ} → p ≡ get_or trail j 0 → Assigned 1 (take (j + 1) trail) t (set t' p 1)
assign_trail trail {t} {t'} j w h l {p} e = subst (λ (x : ℕ). Assigned 1 (take (j + 1) trail) t (set t' x 1)) (sym e)
    (subst (λ (k : List ℕ). Assigned 1 k t (set t' (get_or trail j 0) 1)) (sym (take-suc trail j 0 h) ∙ ap (λ (k : ℕ). take k trail) (sym (add-one j))) (assign_more w l))

pub assigned_all : (trail : List ℕ) {t t' : List ℕ} (j size : ℕ) → Assigned 1 (take j trail) t t' → j ≤ size → size ≤ j → Assigned 1 (take size trail) t t'
assigned_all trail {t} {t'} j size w h k = let e : j ≡ size = omega arith in subst (λ (c : ℕ). Assigned 1 (take c trail) t t') e w

-- ONE ENTRY
over_as : {at n : ℕ} {f g : ℕ → ℕ} {o o' : List ℕ} → ((i : ℕ) → i < n → f i ≡ g i) → Over at n f o o' → Over at n g o o'
over_as r v = record { size = v.size; inside = λ i l. v.inside i l ∙ r i l; outside = v.outside }

old : (a b c : Bool) → (a && b) ≡ false → false ≡ (a && b && c)
old true true c e = absurd (true≢false e)
old true false c e = refl
old false b c e = refl

wrong : (a b c : Bool) → (a && b) ≡ true → {r : Bool} → r ≡ c → r ≡ (a && b && c)
wrong true true c e q = q
wrong true false c e q = absurd (true≢false (sym e))
wrong false b c e q = absurd (true≢false (sym e))

pub new_below : (y n : ℕ) (b : Bool) → (ltb y n && b) ≡ true → y < n
new_below y n b e = ltb-true y n (and_left (ltb y n) b e)

module _ {m d ranks : List ℕ} {n k : ℕ} (o : Meetable m n d k ranks) (from y at size : ℕ) {trail : List ℕ} where
  pub entered_trail : {room : ℕ} → y < n → n ≤ room → EntryRight m d ranks from y at size trail true → Trailed room size trail
  entered_trail hy fits w =
      let t = trailed_front o.linked hy {size = size} {trail = trail} w.len (w.front refl) in
      record { len = t.len; below = λ j h. let b = t.below j h in omega (arith, b, fits) }

module _ {m d ranks : List ℕ} {n : ℕ} (from y at size : ℕ) {trail seen : List ℕ} where
  pub entered_old : {kinds links : List ℕ} → (ltb y n && eqb (get_or seen y 0) 0) ≡ false
      → Entered m d ranks n from y at size trail seen seen kinds kinds links links false
  entered_old e = record {
    said = old (ltb y n) (eqb (get_or seen y 0) 0) (entry_right m d ranks from y at size) e;
    seen_are = λ t. absurd (true≢false (sym t));
    kinds_are = λ t. absurd (true≢false (sym t));
    links_are = λ t. absurd (true≢false (sym t));
  }

  pub entered_no : {kinds links : List ℕ} → (ltb y n && eqb (get_or seen y 0) 0) ≡ true → EntryRight m d ranks from y at size trail false
      → Entered m d ranks n from y at size trail seen seen kinds kinds links links false
  entered_no e w = record {
    said = wrong (ltb y n) (eqb (get_or seen y 0) 0) (entry_right m d ranks from y at size) e w.said;
    seen_are = λ t. absurd (true≢false (sym t));
    kinds_are = λ t. absurd (true≢false (sym t));
    links_are = λ t. absurd (true≢false (sym t));
  }

  pub entered_yes : {seen' kinds kinds' links links' : List ℕ} → (ltb y n && eqb (get_or seen y 0) 0) ≡ true → EntryRight m d ranks from y at size trail true
      → Over at size (λ j. 1) kinds kinds' → Over at size (met_at trail size) links links' → Assigned 1 (take size trail) seen seen'
      → Entered m d ranks n from y at size trail seen seen' kinds kinds' links links' true
  entered_yes {seen'} e w ks ls p = record {
    said = wrong (ltb y n) (eqb (get_or seen y 0) 0) (entry_right m d ranks from y at size) e w.said;
    seen_are = λ t. subst (λ (l : List ℕ). Assigned 1 l seen seen') (w.front refl) p;
    kinds_are = λ t. ks;
    links_are = λ t. over_as (λ j h. met_same trail (cycle (column m 1) y) size j h (λ i l. sym (get_or-take size trail i 0 l) ∙ ap (λ (l : List ℕ). get_or l i 0) (w.front refl))) ls;
  }

-- ALL ENTRIES
pub seen_none : (m places seen : List ℕ) → ((q : ℕ) → get_or seen q 0 ≡ 0) → SeenBy m places 0 seen
seen_none m places seen clear = record { each = clear }

pub seen_is : {m places seen : List ℕ} {e : ℕ} → SeenBy m places e seen → (q : ℕ) → eqb (get_or seen q 0) 0 ≡ clear_of m places e q
seen_is {m} {places} {seen} {e} w q = ap (λ (v : ℕ). eqb v 0) (w.each q) ∙ bit (clear_of m places e q)
  where
    bit : (b : Bool) → eqb (cond b 0 1) 0 ≡ b
    bit true = refl
    bit false = refl

pub seen_more : {m places seen seen' : List ℕ} (e : ℕ) → SeenBy m places e seen → Assigned 1 (cycle (column m 1) (get_or places e 0)) seen seen' → SeenBy m places (e + 1) seen'
seen_more {m} {places} {seen} {seen'} e w p = record {
  each = λ q.
      p.value q ∙ ap (λ (v : ℕ). cond (mem q (cycle (column m 1) (get_or places e 0))) 1 v) (w.each q)
      ∙ either (clear_of m places e q) (mem q (cycle (column m 1) (get_or places e 0)))
      ∙ ap (λ (b : Bool). cond b 0 1) (every_more (λ d. not (mem q (cycle (column m 1) (get_or places d 0)))) e refl refl);
}
  where
    either : (a b : Bool) → ◌≡◌ {A = ℕ} (cond b 1 (cond a 0 1)) (cond (a && not b) 0 1)
    either true true = refl
    either true false = refl
    either false true = refl
    either false false = refl

-- entry e by what is read of it: the place y, the index i and the size s of its face
pub entered_at : {m d ranks : List ℕ} (z places indices : List ℕ) {n from : ℕ} (e : ℕ) {y i s : ℕ} {trail seen seen' kinds kinds' links links' : List ℕ} {r : Bool}
    → y ≡ get_or places e 0 → i ≡ get_or indices e 0 → s ≡ get_or z i 0 → Entered m d ranks n from y i s trail seen seen' kinds kinds' links links' r
    → Entered m d ranks n from (get_or places e 0) (get_or indices e 0) (face_size z indices e) trail seen seen' kinds kinds' links links' r
entered_at {m} {d} {ranks} z places indices {n} {from} e {y} {i} {s} {trail} {seen} {seen'} {kinds} {kinds'} {links} {links'} {r} a b c v =
    subst (λ (x : ℕ). Entered m d ranks n from (get_or places e 0) (get_or indices e 0) x trail seen seen' kinds kinds' links links' r) (c ∙ ap (λ (j : ℕ). get_or z j 0) b)
    (subst (λ (x : ℕ). Entered m d ranks n from (get_or places e 0) x s trail seen seen' kinds kinds' links links' r) b
    (subst (λ (x : ℕ). Entered m d ranks n from x i s trail seen seen' kinds kinds' links links' r) a v))

pub entered_said : {m d ranks : List ℕ} (z places indices : List ℕ) {n from : ℕ} (e : ℕ) {trail seen seen' kinds kinds' links links' : List ℕ} {r : Bool} → SeenBy m places e seen
    → Entered m d ranks n from (get_or places e 0) (get_or indices e 0) (face_size z indices e) trail seen seen' kinds kinds' links links' r → r ≡ passes_at m d ranks z places indices n from e
entered_said {m} {d} {ranks} z places indices {n} {from} e w v =
    v.said ∙ ap (λ (b : Bool). ltb (get_or places e 0) n && b && entry_right m d ranks from (get_or places e 0) (get_or indices e 0) (face_size z indices e)) (seen_is w (get_or places e 0))

pub part2_no : {m d ranks z places indices : List ℕ} {n from c : ℕ} {kinds kinds' links links' : List ℕ}
    → false ≡ all (passes_at m d ranks z places indices n from) (tab (λ e. e) c)
    → Part2Told m d ranks z places indices n from c kinds kinds' links links' false
part2_no e = record { said = e; kinds_are = λ t. absurd (true≢false (sym t)); links_are = λ t. absurd (true≢false (sym t)) }
