-- A walk that puts one group after the other into a table: what is in the table and in the queue before and after each step.
-- Assumes nothing.
use mathlib.Core.Path.{◌≡◌, refl, sym, ap, ◌∙◌, subst}
use mathlib.Core.Bool.{Bool, true, false, true≢false, cond}
use mathlib.Core.List.{List, [], ◌∷◌, ◌++◌, append-nil}
use mathlib.Core.Logic.{◌≢◌, ⊎_elim}
use Prim.Native.Nat.{ℕ, suc, ◌+◌, ◌≤◌, ◌<◌}
use native.Mathlib.Numerals.{add-one}
use native.Mathlib.Omega.{arith}
use lib.Dec.{leb, eqb}
use lib.ListN.{length, get_or, set, take, length-set, length-append}
use lib.Seq.{get_or-set_same, get_or-set_other, take-suc-set}
use borrow.Author.Tests.{eqb-true, eqb-false, eq-eqb, ne_eqb, leb-true, le-leb}
use Rattle.model.specs.Lists.{all, keep, mem, tab}
use Rattle.model.specs.Image.{column}
use Rattle.model.specs.Values.{room}
use Rattle.laws.proofs.Tests.{by_cases, lt_or_ge, same_truth}
use Rattle.laws.proofs.Members.{In, pigeonhole, all_in, all_from, keep_le}
use Rattle.laws.proofs.Maps.{tab_more}
use Rattle.laws.proofs.Tables.{length_tab}
use Rattle.cells.specs.Places.{Clear, Assigned, places_in}
use Rattle.cells.proofs.Walks.{eq_or_ne, last_or_below}
use Rattle.cells.proofs.Reached.{places, in_places, in_places_in, places_in_in}
use Rattle.cells.proofs.FaceLaws.{keep_append}
use Rattle.stats.specs.Groups.{third_link, links_at, group_of, is_first, firsts_below, Joined, GroupEntered, Queued, LinksEntered, Shut, Grouped}
use Rattle.stats.proofs.Orbits.{Orbit}
use Rattle.stats.proofs.GroupLaws.{link_cases, group_linked, group_sym, group_away, links_within, next_in_links, opposite_in_links, third_in_links}

-- ROOM: what is queued differs, so there is room for what is not
module _ {n : ℕ} {G o : List ℕ} {t : ℕ} (q : Queued n G o t) where
  pub queue_room : (p : ℕ) → p < n → get_or G p 0 ≡ 0 → t < n
  queue_room p h z = omega (
    arith,
    length_tab (λ (x : ℕ). x) n,
    pigeonhole (suc t) (λ k. cond (eqb k t) p (get_or o k 0)) (places n) inside apart,
  )
    where
      inside : (k : ℕ) → k < suc t → In (cond (eqb k t) p (get_or o k 0)) (places n)
      inside k l = by_cases (eqb k t) (λ e. rw e (in_places n p h)) (λ e. let w = eqb-false k t e in rw e (in_places n (get_or o k 0) (q.below k (lower w l))))
        where
          lower : (k ≡ t → ⊥) → k < suc t → k < t
          lower w l = eq_or_ne k t (λ e. absurd (w e)) (λ e. omega arith)

      apart : (a b : ℕ) → a < b → b < suc t → cond (eqb a t) p (get_or o a 0) ≢ cond (eqb b t) p (get_or o b 0)
      apart a b l r = rw (ne_eqb a t (λ e. omega arith)) (by_cases (eqb b t)
          (λ e. rw e (λ same. let y : 0 < get_or G p 0 = subst (λ (x : ℕ). 0 < get_or G x 0) same (q.named a (omega (arith, eqb-true b t e))) in omega arith))
          (λ e. let w = eqb-false b t e in rw e (q.once a b l (eq_or_ne b t (λ x. absurd (w x)) (λ x. omega arith)))))

  pub queue_le : t ≤ n
  queue_le = omega (arith, length_tab (λ (x : ℕ). x) n, pigeonhole t (λ k. get_or o k 0) (places n) (λ k l. in_places n (get_or o k 0) (q.below k l)) q.once)

-- ENTERING
pub record Grown (p g : ℕ) (G o : List ℕ) (t : ℕ) (G' o' : List ℕ) (t' : ℕ) : Type 0 where
  pub keeps : (x : ℕ) → 0 < get_or G x 0 → get_or G' x 0 ≡ get_or G x 0
  pub new : 0 < get_or G' p 0
  pub kept : (k : ℕ) → k < t → get_or o' k 0 ≡ get_or o k 0
  pub longer : t ≤ t'
  pub pushed : (k : ℕ) → t ≤ k → k < t' → (get_or o' k 0 ≡ p) × (get_or G' p 0 ≡ g)

module _ {n : ℕ} {G o : List ℕ} {t : ℕ} (q : Queued n G o t) {p g : ℕ} (pn : p < n) (gp : 0 < g) where
  module _ (z : get_or G p 0 ≡ 0) where
    same : get_or (set G p g) p 0 ≡ g
    same = get_or-set_same G p g 0 (omega (arith, q.len_g))

    other : (x : ℕ) → x ≢ p → get_or (set G p g) x 0 ≡ get_or G x 0
    other x h = get_or-set_other G p x g 0 h

    keeps' : (x : ℕ) → 0 < get_or G x 0 → get_or (set G p g) x 0 ≡ get_or G x 0
    keeps' x h = other x (λ e. let y : get_or G x 0 ≡ 0 = rw e z in omega arith)

    kept' : (k : ℕ) → k < t → get_or (set o t p) k 0 ≡ get_or o k 0
    kept' k h = get_or-set_other o t k p 0 (λ e. omega arith)

    last' : get_or (set o t p) t 0 ≡ p
    last' = get_or-set_same o t p 0 (omega (arith, queue_room q p pn z, q.len_o))

    push : Queued n (set G p g) (set o t p) (t + 1)
    push = record {
      len_g = simp length-set q.len_g;
      len_o = simp length-set q.len_o;
      below = λ k l. last_or_below l (λ e. rw (at_last k e) pn) (λ h. rw (kept' k h) (q.below k h));
      named = λ k l. last_or_below l (λ e. rw (at_last k e, same) gp) (λ h. rw (kept' k h) (omega (arith, q.named k h, keeps' (get_or o k 0) (q.named k h))));
      once = λ a b l r. last_or_below r
          (λ e. rw (at_last b e, kept' a (omega arith)) (λ w. let y : 0 < get_or G p 0 = subst (λ (x : ℕ). 0 < get_or G x 0) w (q.named a (omega arith)) in omega arith))
          (λ h. rw (kept' a (omega arith), kept' b h) (q.once a b l h));
      back = λ x h. eq_or_ne x p (λ e. (t, omega arith, last' ∙ sym e)) (λ e. earlier x (q.back x (omega (arith, other x e))));
    }
      where
        at_last : (k : ℕ) → k ≡ t → get_or (set o t p) k 0 ≡ p
        at_last k e = rw e last'

        earlier : (x : ℕ) → (k : ℕ) × (k < t) × (get_or o k 0 ≡ x) → (k : ℕ) × (k < t + 1) × (get_or (set o t p) k 0 ≡ x)
        earlier x b = (b.0, omega (arith, b.1), kept' b.0 b.1 ∙ b.2)

  pub enter_queue : {G' o' : List ℕ} {t' : ℕ} → GroupEntered p g G o t G' o' t' → Queued n G' o' t' × Grown p g G o t G' o' t'
  enter_queue {G'} {o'} {t'} w = by_cases (eqb (get_or G p 0) 0) entered stays
    where
      entered : eqb (get_or G p 0) 0 ≡ true → Queued n G' o' t' × Grown p g G o t G' o' t'
      entered e =
          let z : get_or G p 0 ≡ 0 = eqb-true _ _ e in
          rw (w.groups, w.order, w.tail, e) (
            push z,
            record {
              keeps = keeps' z;
              new = omega (arith, same z);
              kept = kept' z;
              longer = omega arith;
              pushed = λ k l r. let k_is : k ≡ t = omega arith in (rw k_is (last' z), same z);
            },
          )

      stays : eqb (get_or G p 0) 0 ≡ false → Queued n G' o' t' × Grown p g G o t G' o' t'
      stays e =
          rw (w.groups, w.order, w.tail, e) (
            q,
            record {
              keeps = λ x h. refl;
              new = eq_or_ne (get_or G p 0) 0 (λ x. absurd (eqb-false _ _ e x)) (λ x. omega arith);
              kept = λ k h. refl;
              longer = omega arith;
              pushed = λ k l r. absurd (omega arith);
            },
          )

-- THE LINKS of one place, entered one after the other
-- a table whose entries stay keeps what is in a group
stays_named : (G G' : List ℕ) → ((x : ℕ) → 0 < get_or G x 0 → get_or G' x 0 ≡ get_or G x 0) → (x : ℕ) → 0 < get_or G x 0 → 0 < get_or G' x 0
stays_named G G' keeps x h = omega (arith, keeps x h)

-- some of the links are entered
pub record Entering (n : ℕ) (links : List ℕ) (g : ℕ) (G o : List ℕ) (t : ℕ) (G₁ o₁ : List ℕ) (t₁ : ℕ) : Type 0 where
  pub queue : Queued n G₁ o₁ t₁
  pub keeps : (x : ℕ) → 0 < get_or G x 0 → get_or G₁ x 0 ≡ get_or G x 0
  pub kept : (k : ℕ) → k < t → get_or o₁ k 0 ≡ get_or o k 0
  pub longer : t ≤ t₁
  pub new : (k : ℕ) → t ≤ k → k < t₁ → (get_or G₁ (get_or o₁ k 0) 0 ≡ g) × In (get_or o₁ k 0) links

none_yet : {n g : ℕ} {links G o : List ℕ} {t : ℕ} → Queued n G o t → Entering n links g G o t G o t
none_yet q = record { queue = q; keeps = λ x k. refl; kept = λ k l. refl; longer = omega arith; new = λ k l r. absurd (omega arith) }

one_more : {n g : ℕ} {links G o G₁ o₁ : List ℕ} {t t₁ : ℕ} → 0 < g → Entering n links g G o t G₁ o₁ t₁ → (a : ℕ) → a < n → In a links
    → {G₂ o₂ : List ℕ} {t₂ : ℕ} → GroupEntered a g G₁ o₁ t₁ G₂ o₂ t₂ → Entering n links g G o t G₂ o₂ t₂ × (0 < get_or G₂ a 0) × ((x : ℕ) → 0 < get_or G₁ x 0 → 0 < get_or G₂ x 0)
one_more {n} {g} {links} {G} {o} {G₁} {o₁} {t} {t₁} gp e a an i {G₂} {o₂} {t₂} x =
    let r = enter_queue e.queue an gp x in (
      record {
        queue = r.0;
        keeps = λ y k. r.1.keeps y (stays_named G G₁ e.keeps y k) ∙ e.keeps y k;
        kept = λ k l. r.1.kept k (omega (arith, e.longer)) ∙ e.kept k l;
        longer = omega (arith, e.longer, r.1.longer);
        new = λ k l u. ⊎_elim
            (λ before. let y = e.new k l before in rw (r.1.kept k before) (r.1.keeps (get_or o₁ k 0) (e.queue.named k before) ∙ y.0, y.1))
            (λ after. let y = r.1.pushed k after u in rw y.0 (y.1, i))
            (lt_or_ge k t₁);
      },
      r.1.new,
      stays_named G₁ G₂ r.1.keeps,
    )

module _ {m : List ℕ} (j : Joined m) (third : Bool) {p g : ℕ} (pn : p < get_or m 2 0) (gp : 0 < g) {G o : List ℕ} {t : ℕ} (q : Queued (get_or m 2 0) G o t) where
  abbrev links : List ℕ
  links = links_at third m p

  module _ {a : ℕ} (ea : a ≡ column m 1 p) where
    pub next_link : In a links
    next_link = rw ea (next_in_links j third p)

    pub next_below : a < get_or m 2 0
    next_below = links_within j third p a pn next_link

    module _ {G₁ o₁ : List ℕ} {t₁ : ℕ} (x₁ : GroupEntered a g G o t G₁ o₁ t₁) where
      step₁ : Entering (get_or m 2 0) links g G o t G₁ o₁ t₁ × (0 < get_or G₁ a 0) × ((x : ℕ) → 0 < get_or G x 0 → 0 < get_or G₁ x 0)
      step₁ = one_more gp (none_yet q) a next_below next_link x₁

      pub after_next : Queued (get_or m 2 0) G₁ o₁ t₁
      after_next = step₁.0.queue

      module _ {b : ℕ} (eb : b ≡ column m 2 p) where
        opposite_link : In b links
        opposite_link = rw eb (opposite_in_links j third p)

        pub opposite_below : b < get_or m 2 0
        opposite_below = links_within j third p b pn opposite_link

        module _ {G₂ o₂ : List ℕ} {t₂ : ℕ} (x₂ : GroupEntered b g G₁ o₁ t₁ G₂ o₂ t₂) where
          step₂ : Entering (get_or m 2 0) links g G o t G₂ o₂ t₂ × (0 < get_or G₂ b 0) × ((x : ℕ) → 0 < get_or G₁ x 0 → 0 < get_or G₂ x 0)
          step₂ = one_more gp step₁.0 b opposite_below opposite_link x₂

          pub after_opposite : Queued (get_or m 2 0) G₂ o₂ t₂
          after_opposite = step₂.0.queue

          module _ {c : ℕ} (ec : c ≡ third_link third m p) where
            third_one : In c links
            third_one = rw ec (third_in_links j third p)

            pub third_below : c < get_or m 2 0
            third_below = links_within j third p c pn third_one

            pub links_entered : {G₃ o₃ : List ℕ} {t₃ : ℕ} → GroupEntered c g G₂ o₂ t₂ G₃ o₃ t₃ → LinksEntered third m p g G o t G₃ o₃ t₃
            links_entered {G₃} x₃ =
                let r = one_more gp step₂.0 c third_below third_one x₃ in
                record {
                  queue = r.0.queue;
                  keeps = r.0.keeps;
                  kept = r.0.kept;
                  longer = r.0.longer;
                  new = r.0.new;
                  entered = λ z i. link_cases third m p z i
                      (λ e. rw (e ∙ sym ea) (r.2 a (step₂.2 a step₁.1)))
                      (λ e. rw (e ∙ sym eb) (r.2 b step₂.1))
                      (λ e. rw (e ∙ sym ec) r.1);
                }

-- ONE GROUP: the walk from queue length t₀ and table G₀ on; h places of the queue are done
pub record Going (n : ℕ) (links : ℕ → List ℕ) (g d : ℕ) (v G₀ : List ℕ) (t₀ : ℕ) (G o : List ℕ) (t h : ℕ) : Type 0 where
  pub queue : Queued n G o t
  pub from_le : t₀ ≤ h
  pub h_le : h ≤ t
  pub old : (x : ℕ) → 0 < get_or G₀ x 0 → get_or G x 0 ≡ get_or G₀ x 0
  pub first : (k : ℕ) → k < t₀ → 0 < get_or G₀ (get_or o k 0) 0
  pub start : 0 < get_or G d 0
  pub done : (k : ℕ) → t₀ ≤ k → k < h → (z : ℕ) → In z (links (get_or o k 0)) → 0 < get_or G z 0
  pub new : (k : ℕ) → t₀ ≤ k → k < t → (get_or G (get_or o k 0) 0 ≡ g) × In (get_or o k 0) v

module _ {m : List ℕ} (j : Joined m) (third : Bool) {d : ℕ} (dn : d < get_or m 2 0) {g : ℕ} (gp : 0 < g) {G₀ o₀ : List ℕ} {t₀ : ℕ} (q₀ : Queued (get_or m 2 0) G₀ o₀ t₀) where
  abbrev n : ℕ
  n = get_or m 2 0

  abbrev v : List ℕ
  v = group_of third m d

  abbrev orbit : Orbit (links_at third m) d v
  orbit = group_linked j third d dn

  pub going_start : {t : ℕ} {G o : List ℕ} → GroupEntered d g G₀ o₀ t₀ G o t → Going n (links_at third m) g d v G₀ t₀ G o t t₀
  going_start {t} {G} {o} x =
      let w = enter_queue q₀ dn gp x in
      record {
        queue = w.0;
        from_le = omega arith;
        h_le = w.1.longer;
        old = w.1.keeps;
        first = λ k l. rw (w.1.kept k l) (q₀.named k l);
        start = w.1.new;
        done = λ k l r. absurd (omega arith);
        new = λ k l r. let p = w.1.pushed k l r in rw p.0 (p.1, orbit.here);
      }

  module _ {G o : List ℕ} {t h : ℕ} (w : Going n (links_at third m) g d v G₀ t₀ G o t h) (ht : h < t) where
    pub going_place : get_or o h 0 < n
    going_place = w.queue.below h ht

    pub going_step : {G' o' : List ℕ} {t' : ℕ} → LinksEntered third m (get_or o h 0) g G o t G' o' t' → Going n (links_at third m) g d v G₀ t₀ G' o' t' (h + 1)
    going_step {G'} {o'} {t'} e = record {
      queue = e.queue;
      from_le = omega (arith, w.from_le);
      h_le = omega (arith, e.longer);
      old = λ x k. e.keeps x (stays_named G₀ G w.old x k) ∙ w.old x k;
      first = λ k l. rw (e.kept k (omega (arith, w.from_le, w.h_le))) (w.first k l);
      start = stays_named G G' e.keeps d w.start;
      done = λ k l r z. rw (e.kept k (omega arith)) (λ i. last_or_below r
          (λ same. e.entered z (subst (λ (y : ℕ). In z (links_at third m (get_or o y 0))) same i))
          (λ below. stays_named G G' e.keeps z (w.done k l below z i)));
      new = λ k l r. ⊎_elim
          (λ before. let y = w.new k l before in rw (e.kept k before) (e.keeps (get_or o k 0) (w.queue.named k before) ∙ y.0, y.1))
          (λ after. let y = e.new k after r in (y.0, orbit.closed (get_or o h 0) (get_or o' k 0) (w.new h w.from_le ht).1 y.1))
          (lt_or_ge k t);
    }

  -- NOTHING IS LEFT to do
  module _ (shut : Shut third m G₀) (clear : get_or G₀ d 0 ≡ 0) {G o : List ℕ} {t h : ℕ} (w : Going n (links_at third m) g d v G₀ t₀ G o t h) (over : t ≤ h) where
    -- the group is apart from what was in groups before
    away : (y : ℕ) → In y v → 0 < get_or G₀ y 0 → ⊥
    away = group_away j third (λ y. 0 < get_or G₀ y 0) shut d dn (λ k. omega arith)

    links_done : (x z : ℕ) → 0 < get_or G x 0 → In z (links_at third m x) → 0 < get_or G z 0
    links_done x z k i = let b = w.queue.back x k in ⊎_elim
        (λ l. stays_named G₀ G w.old z (shut x z (subst (λ (y : ℕ). 0 < get_or G₀ y 0) b.2 (w.first b.0 l)) i))
        (λ l. w.done b.0 l (omega (arith, b.1)) z (subst (λ (y : ℕ). In z (links_at third m y)) (sym b.2) i))
        (lt_or_ge b.0 t₀)

    named : (y : ℕ) → In y v → 0 < get_or G y 0
    named = orbit.least (λ y. 0 < get_or G y 0) w.start links_done

    -- what stands in the queue before t₀ was in a group, the rest is the new one
    queued_old : (y : ℕ) → (k : ℕ) × (k < t) × (get_or o k 0 ≡ y) → (0 < get_or G₀ y 0 → ⊥) → (get_or G y 0 ≡ g) × In y v
    queued_old y b out = ⊎_elim
        (λ l. absurd (out (subst (λ (x : ℕ). 0 < get_or G₀ x 0) b.2 (w.first b.0 l))))
        (λ l. subst (λ (x : ℕ). (get_or G x 0 ≡ g) × In x v) b.2 (w.new b.0 l b.1))
        (lt_or_ge b.0 t₀)

    pub going_assigned : length G ≡ length G₀ → Assigned g v G₀ G
    going_assigned same_size = record {
      size = same_size;
      value = λ y. by_cases (mem y v)
          (λ e. rw e (queued_old y (w.queue.back y (named y e)) (away y e)).0)
          (λ e. rw e (eq_or_ne (get_or G₀ y 0) 0
          (λ z. eq_or_ne (get_or G y 0) 0 (λ x. x ∙ sym z)
          (λ x. absurd (true≢false (sym (queued_old y (w.queue.back y (omega arith)) (λ k. omega arith)).1 ∙ e))))
          (λ z. w.old y (omega arith))));
    }

-- WHAT ENTERING ASKS
pub enter_ready : {n : ℕ} {G o : List ℕ} {t : ℕ} → Queued n G o t → n ≤ room → (p : ℕ) → p < n
    → (p < room) × (p < length G) × (t ≤ room) × (get_or G p 0 ≡ 0 → t < length o)
enter_ready q few p h = (omega arith, omega (arith, q.len_g), omega (arith, queue_le q), λ z. omega (arith, queue_room q p h z, q.len_o))

-- ALL GROUPS: those of the places below p have their numbers
pub record Through (third : Bool) (m G firsts o : List ℕ) (count t p : ℕ) : Type 0 where
  pub queue : Queued (get_or m 2 0) G o t
  pub p_le : p ≤ get_or m 2 0
  pub len_f : get_or m 2 0 ≤ length firsts
  pub shut : Shut third m G
  pub covered : (q : ℕ) → q < p → 0 < get_or G q 0
  pub count_is : count ≡ length (firsts_below third m p)
  pub firsts_are : take count firsts ≡ firsts_below third m p
  pub first_below : (i : ℕ) → i < count → get_or firsts i 0 < p
  pub number : (i q : ℕ) → i < count → In q (group_of third m (get_or firsts i 0)) → get_or G q 0 ≡ suc i
  pub range : (q : ℕ) → 0 < get_or G q 0 → (i : ℕ) × (i < count) × In q (group_of third m (get_or firsts i 0))

pub through_start : (third : Bool) (m G firsts o : List ℕ) → get_or m 2 0 ≤ length G → Clear G → get_or m 2 0 ≤ length firsts → get_or m 2 0 ≤ length o → Through third m G firsts o 0 0 0
through_start third m G firsts o lg clear lf lo =
    record {
      queue = record {
        len_g = lg;
        len_o = lo;
        below = λ k l. absurd (omega arith);
        named = λ k l. absurd (omega arith);
        once = λ a b l r. absurd (omega arith);
        back = λ x h. absurd (omega (arith, clear x));
      };
      p_le = omega arith;
      len_f = lf;
      shut = λ x z h i. absurd (omega (arith, clear x));
      covered = λ q l. absurd (omega arith);
      count_is = refl;
      firsts_are = refl;
      first_below = λ i l. absurd (omega arith);
      number = λ i q l. absurd (omega arith);
      range = λ q h. absurd (omega (arith, clear q));
    }

-- one place more
firsts_more : (third : Bool) (m : List ℕ) (p : ℕ) → firsts_below third m (p + 1) ≡ firsts_below third m p ++ keep (is_first third m) (p ∷ [])
firsts_more third m p = ap (firsts_below third m) (add-one p) ∙ ap (keep (is_first third m)) (sym (tab_more (λ x. x) p)) ∙ keep_append (is_first third m) (tab (λ x. x) p) (p ∷ [])

module _ {third : Bool} {m G firsts o : List ℕ} {count t p : ℕ} (j : Joined m) (w : Through third m G firsts o count t p) (h : p < get_or m 2 0) where
  -- A PLACE THAT IS IN A GROUP is not its least
  module _ (seen : 0 < get_or G p 0) where
    not_first : is_first third m p ≡ false
    unfolding is_first
    not_first =
        let n = get_or m 2 0 in
        let r = w.range p seen in
        let f = get_or firsts r.0 0 in
        let lower : f < p = w.first_below r.0 r.1 in
        by_cases (all (leb p) (places_in n (group_of third m p)))
        (λ e. absurd (omega (
          arith,
          leb-true p f (all_in (leb p) (places_in n (group_of third m p)) e f
              (in_places_in n (group_of third m p) f (omega arith) (group_sym j third f p (omega arith) r.2))),
        )))
        (λ e. e)

    same_firsts : firsts_below third m (p + 1) ≡ firsts_below third m p
    same_firsts = firsts_more third m p ∙ rw not_first (append-nil (firsts_below third m p))

    pub through_skip : Through third m G firsts o count t (p + 1)
    through_skip = record {
      queue = w.queue;
      p_le = omega arith;
      len_f = w.len_f;
      shut = w.shut;
      covered = λ q l. last_or_below l (λ e. rw e seen) (w.covered q);
      count_is = w.count_is ∙ ap length (sym same_firsts);
      firsts_are = w.firsts_are ∙ sym same_firsts;
      first_below = λ i l. omega (arith, w.first_below i l);
      number = w.number;
      range = w.range;
    }

  -- ONE THAT IS IN NONE is the least of its group
  module _ (clear : get_or G p 0 ≡ 0) where
    untouched : (y : ℕ) → In y (group_of third m p) → 0 < get_or G y 0 → ⊥
    untouched = group_away j third (λ y. 0 < get_or G y 0) w.shut p h (λ k. omega arith)

    first : is_first third m p ≡ true
    unfolding is_first
    first = all_from (leb p) (places_in (get_or m 2 0) (group_of third m p)) (λ y k. le-leb p y (⊎_elim
        (λ l. absurd (untouched y (places_in_in (get_or m 2 0) (group_of third m p) y k).1 (w.covered y l)))
        (λ l. l)
        (lt_or_ge y p)))

    new_firsts : firsts_below third m (p + 1) ≡ firsts_below third m p ++ p ∷ []
    new_firsts = firsts_more third m p ∙ rw first refl

    pub count_few : count < get_or m 2 0
    count_few = omega (arith, w.count_is, keep_le (is_first third m) (tab (λ x. x) p), length_tab (λ (x : ℕ). x) p)

    module _ {G' o' : List ℕ} {t' : ℕ} (q' : Queued (get_or m 2 0) G' o' t') (assigned : Assigned (count + 1) (group_of third m p) G G') where
      own : Orbit (links_at third m) p (group_of third m p)
      own = group_linked j third p h

      in_new : (y : ℕ) → In y (group_of third m p) → get_or G' y 0 ≡ count + 1
      in_new y e = assigned.value y ∙ rw e refl

      in_old : (y : ℕ) → 0 < get_or G y 0 → get_or G' y 0 ≡ get_or G y 0
      in_old y k = by_cases (mem y (group_of third m p)) (λ e. absurd (untouched y e k)) (λ e. assigned.value y ∙ rw e refl)

      which : {C : Type 0} (y : ℕ) → 0 < get_or G' y 0 → (In y (group_of third m p) → C) → (0 < get_or G y 0 → C) → C
      which y k f g = by_cases (mem y (group_of third m p)) f (λ e. g (omega (arith, assigned.value y ∙ ap (λ (b : Bool). cond b (count + 1) (get_or G y 0)) e)))

      there : get_or (set firsts count p) count 0 ≡ p
      there = get_or-set_same firsts count p 0 (omega (arith, count_few, w.len_f))

      before : (i : ℕ) → i < count → get_or (set firsts count p) i 0 ≡ get_or firsts i 0
      before i l = get_or-set_other firsts count i p 0 (λ e. omega arith)

      pub through_new : Through third m G' (set firsts count p) o' (count + 1) t' (p + 1)
      through_new = record {
        queue = q';
        p_le = omega arith;
        len_f = simp length-set w.len_f;
        shut = λ x z k i. which x k
            (λ e. omega (arith, in_new z (own.closed x z e i)))
            (λ e. omega (arith, in_old z (w.shut x z e i), w.shut x z e i));
        covered = λ q l. last_or_below l (λ e. rw e (omega (arith, in_new p own.here))) (λ k. omega (arith, in_old q (w.covered q k), w.covered q k));
        count_is = omega (arith, w.count_is, ap length new_firsts, length-append (firsts_below third m p) (p ∷ []));
        firsts_are = ap (λ (k : ℕ). take k (set firsts count p)) (add-one count) ∙ take-suc-set firsts count p (omega (arith, count_few, w.len_f))
            ∙ ap (λ (l : List ℕ). l ++ p ∷ []) w.firsts_are ∙ sym new_firsts;
        first_below = λ i l. last_or_below l (λ e. rw (e, there) (omega arith)) (λ k. rw (before i k) (omega (arith, w.first_below i k)));
        number = λ i q l. last_or_below l
            (λ e. rw (e, there) (λ k. in_new q k ∙ add-one count))
            (λ k. rw (before i k) (λ e. in_old q (omega (arith, w.number i q k e)) ∙ w.number i q k e));
        range = λ q k. which q k
            (λ e. (count, omega arith, rw there e))
            (λ e. let r = w.range q e in (r.0, omega (arith, r.1), rw (before r.0 r.1) r.2));
      }

-- all places
pub through_all : {third : Bool} {m G firsts o : List ℕ} {count t p : ℕ} → Through third m G firsts o count t p → get_or m 2 0 ≤ p → Grouped third m G firsts count
through_all {third} {m} {G} {firsts} {o} {count} {t} {p} w h =
    let e : p ≡ get_or m 2 0 = omega (arith, w.p_le) in
    record {
      len_g = w.queue.len_g;
      len_f = w.len_f;
      count_is = w.count_is ∙ ap (λ (k : ℕ). length (firsts_below third m k)) e;
      firsts_are = w.firsts_are ∙ ap (firsts_below third m) e;
      within = λ q k. let seen = w.covered q (omega arith) in let r = w.range q seen in (seen, omega (arith, r.1, w.number r.0 q r.1 r.2));
      number = λ i q l k. same_truth (eqb (get_or G q 0) (suc i)) (mem q (group_of third m (get_or firsts i 0)))
          (λ y. let one = eqb-true (get_or G q 0) (suc i) y in
          let r = w.range q (omega arith) in
          let same : r.0 ≡ i = omega (arith, w.number r.0 q r.1 r.2) in
          subst (λ (x : ℕ). In q (group_of third m (get_or firsts x 0))) same r.2)
          (λ y. eq-eqb (get_or G q 0) (suc i) (w.number i q l y));
    }
