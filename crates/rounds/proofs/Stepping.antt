-- A call on a block's memory is a step on the mesh. Assumes nothing.
use mathlib.Core.Path.{◌≡◌, refl, sym, ◌∙◌, ap, subst}
use mathlib.Core.List.{List, []}
use Prim.Native.Nat.{ℕ, ◌+◌, ◌*◌, ◌-◌, ◌/◌, ◌≤◌, ◌<◌}
use native.Mathlib.Omega.{arith}
use lib.ListN.{length, get_or, set, take, drop}
use borrow.Author.Tests.{eq-eqb, ne_eqb}
use borrow.Rule.Slice.PartMut.{put_mid}
use Rattle.model.specs.Values.{Limits, rack, viewer, is_viewer, limits_in}
use Rattle.model.specs.Image.{words_of}
use Rattle.model.specs.Calls.{Result, Answer, refused, number_of, send, release, redirect, receive}
use Rattle.model.specs.DividedRun.{Call, Done, done, called, releasing, redirecting, receiving}
use Rattle.laws.proofs.Tests.{by_cases}
use Rattle.answers.specs.Answers.{Gives, OrRefused, answer_of}
use Rattle.answers.proofs.Questions.{by_limits}
use Rattle.rounds.specs.Either.{limits_by}
use Rattle.rounds.specs.Played.{own_memory, own_memories, at_block, Stepped, DoesCall}
use Rattle.rounds.proofs.Placed as placed
use Rattle.rounds.proofs.Placed.{own_fits, own_is, own_size, put_back, memories_are, elsewhere_as_was, memory_is, no_memory, nothing_changed}

-- what a call that stores does
abbrev pub does : Result (Unit {0}) → Done
does r = record { number = number_of r.answer; memory = r.lent; sent = [] }

-- the limits of a block's memory, by its size
pub sized : (viewers i : ℕ) → limits_by (words_of (limits_in viewers i)) ≡ limits_in viewers i
unfolding limits_by limits_in
sized viewers i = by_cases (is_viewer viewers i) (λ e. rw e refl) (λ e. rw e refl)

module _ (viewers : ℕ) where
  done_is : (m : List ℕ) (b : ℕ) (c : Call) (x : List ℕ) → get_or (own_memories viewers m) b [] ≡ x
      → done (limits_in viewers) (own_memories viewers m) (at_block b c) ≡ called (limits_in viewers b) x c
  unfolding done
  done_is m b c x e = ap (λ (y : List ℕ). called (limits_in viewers b) y c) e

  -- at a block that the mesh has, of which n words were lent
  pub stepped : (m p : List ℕ) (b a n : ℕ) (c : Call) {number : ℕ} → a ≡ b * 32776 → n ≡ words_of (limits_in viewers b)
      → b < length m / 32776 → length p ≡ length (take (a + n - a) (drop a m))
      → number ≡ (called (limits_by (length (take (a + n - a) (drop a m)))) (take (a + n - a) (drop a m)) c).number
      → p ≡ (called (limits_by (length (take (a + n - a) (drop a m)))) (take (a + n - a) (drop a m)) c).memory
      → Stepped viewers m (at_block b c) number (put_mid a (a + n - a) m p)
  stepped m p b a n c ea en h l told left =
      let here = own_is viewers m b a n ea en in
      let long : length (take (a + n - a) (drop a m)) ≡ words_of (limits_in viewers b) = ap length here ∙ own_size viewers m b h in
      let w = put_back m p b a n ea h (rw en (own_fits viewers b)) (l ∙ long ∙ sym en) in
      let v = own_replaced en w in
      let limits : limits_by (length (take (a + n - a) (drop a m))) ≡ limits_in viewers b = ap limits_by long ∙ sized viewers b in
      let d = done_is m b c (take (a + n - a) (drop a m)) (memory_is viewers m b h ∙ sym here) ∙ ap (λ (k : Limits). called k (take (a + n - a) (drop a m)) c) (sym limits) in
      record {
        number_is = told ∙ sym (ap (λ (q : Done). q.number) d);
        stored_are = memories_are viewers v h ∙ ap (set (own_memories viewers m) b) left ∙ sym (ap (λ (q : Done). set (own_memories viewers m) b q.memory) d);
        elsewhere = elsewhere_as_was viewers v h;
      }
    where
      own_replaced : {k x : ℕ} {q q' : List ℕ} → k ≡ x → placed.Replaced m b k q q' → placed.Replaced m b x q q'
      own_replaced {q = q} {q' = q'} r w = subst (λ (y : ℕ). placed.Replaced m b y q q') r w

  -- at one that it has not
  pub nowhere : (m : List ℕ) (b : ℕ) (c : Call) → length m / 32776 ≤ b → 1 ≡ (called (limits_in viewers b) [] c).number → Stepped viewers m (at_block b c) 1 m
  nowhere m b c h one =
      let o = no_memory viewers m b h in
      record {
        number_is = one ∙ sym (ap (λ (q : Done). q.number) (done_is m b c [] o.0));
        stored_are = sym (o.1 _);
        elsewhere = nothing_changed viewers m;
      }

-- a function that gives what a call gives
pub does_call : {Gave : List ℕ → OrRefused (Unit {0}) → List ℕ → Type 0} (c : Call) (call : Limits → List ℕ → Result (Unit {0})) → ((l : Limits) (x : List ℕ) → called l x c ≡ does (call l x))
    → ((l : Limits) → Gives (call l []) (refused 1) [])
    → ((m m' : List ℕ) (r : OrRefused (Unit {0})) → Gave m r m' → Gives (call (limits_by (length m)) m) (answer_of r) m') → DoesCall Gave c
does_call c call e none gives = record {
  number_is = λ g. ap number_of (gives _ _ _ g).answer ∙ sym (ap (λ (q : Done). q.number) (e _ _));
  memory_is = λ g. (gives _ _ _ g).left ∙ sym (ap (λ (q : Done). q.memory) (e _ _));
  nowhere = λ l. ap number_of (none l).answer ∙ sym (ap (λ (q : Done). q.number) (e l []));
}

pub release_does : (to serial : ℕ) (l : Limits) (x : List ℕ) → called l x (releasing to serial) ≡ does (release l x to serial)
unfolding called
release_does to serial l x = refl

pub redirect_does : (message : List ℕ) (l : Limits) (x : List ℕ) → called l x (redirecting message) ≡ does (redirect l x message)
unfolding called
redirect_does message l x = refl

pub receive_does : (message : List ℕ) (l : Limits) (x : List ℕ) → called l x (receiving message) ≡ does (receive l x message)
unfolding called
receive_does message l x = refl

-- send at a block that the mesh has, of which n words were lent
pub sent_own : (viewers : ℕ) (m : List ℕ) (b a n to serial : ℕ) (outbox : List ℕ) {given : Answer ℕ} {lent : List ℕ} → a ≡ b * 32776 → n ≡ words_of (limits_in viewers b) → b < length m / 32776
    → Gives (send (limits_by (length (take (a + n - a) (drop a m)))) (take (a + n - a) (drop a m)) to serial outbox) given lent
    → Gives (send (limits_in viewers b) (own_memory viewers m b) to serial outbox) given lent
sent_own viewers m b a n to serial outbox {given} {lent} ea en h g =
    let here = own_is viewers m b a n ea en in
    let limits : limits_by (length (take (a + n - a) (drop a m))) ≡ limits_in viewers b = ap limits_by (ap length here ∙ own_size viewers m b h) ∙ sized viewers b in
    subst (λ (x : List ℕ). Gives (send (limits_in viewers b) x to serial outbox) given lent) here
    (by_limits (λ (k : Limits). send k (take (a + n - a) (drop a m)) to serial outbox) limits g)

-- A MEMORY OF EITHER SIZE
pub viewers_own : {n : ℕ} → n ≡ 2056 → viewer ≡ limits_by n
unfolding limits_by
viewers_own {n} e = rw (eq-eqb n 2056 e) refl

pub racks_own : {n : ℕ} → (n ≡ 2056 → ⊥) → rack ≡ limits_by n
unfolding limits_by
racks_own {n} e = rw (ne_eqb n 2056 e) refl

-- no block's memory is empty
pub none_sized : (lim : Limits) → 0 ≡ words_of lim → ⊥
none_sized lim e = let q : 0 ≡ 8 + 8 * lim.block_darts = e in omega arith
