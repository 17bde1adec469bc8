-- Steps one after the other on the memory of a mesh. Assumes nothing.
use Rattle.std.specs.Prelude.{is_ok, Err, Ok}
use mathlib.Core.Path.{◌≡◌, refl, sym, ◌∙◌, ap, subst}
use mathlib.Core.Bool.{Bool, true, false, ◌&&◌}
use mathlib.Core.List.{List, [], ◌∷◌, ◌++◌, map, append_assoc, append-nil}
use Prim.Native.Nat.{ℕ, ◌+◌, ◌≤◌, ◌<◌}
use native.Mathlib.Omega.{arith}
use lib.Dec.{eqb}
use lib.ListN.{length, drop, length-drop}
use lib.Seq.{drop-length}
use Rattle.model.specs.Values.{limits_in}
use Rattle.model.specs.DividedRun.{Step, done, stored, run_steps, messages_in, addressee, redirecting, redirect_step}
use Rattle.model.specs.Calls.{number_of}
use Rattle.answers.specs.Answers.{OrRefused, question, answer_of}
use Rattle.answers.specs.declared.Refusal.{Refusal}
use Rattle.answers.specs.declared.Refusal.TheVariants as refusal
use Rattle.laws.proofs.Tests.{and_yes, both_are}
use Rattle.rounds.specs.Post.{first_in}
use Rattle.rounds.specs.Played.{own_memories, at_block, Stepped, Ran}
use Rattle.rounds.proofs.Placed.{nothing_changed, then_elsewhere}
use Rattle.rounds.proofs.Cuts.{first_then, nothing_in, behind_first, first_fits}

pub none_ran : (viewers : ℕ) (m : List ℕ) → Ran viewers m [] true m
unfolding run_steps
none_ran viewers m = record { said = refl; stored_are = refl; elsewhere = nothing_changed viewers m }

pub one_ran : {viewers : ℕ} {m : List ℕ} {s : Step} {n : ℕ} {m' : List ℕ} → Stepped viewers m s n m' → Ran viewers m (s ∷ []) (eqb n 0) m'
unfolding run_steps
one_ran {viewers} {m} {s} {n} w = record {
  said = ap (λ (k : ℕ). eqb k 0) w.number_is ∙ sym (and_yes (eqb (done (limits_in viewers) (own_memories viewers m) s).number 0));
  stored_are = w.stored_are;
  elsewhere = w.elsewhere;
}

and_assoc : (a b c : Bool) → (a && (b && c)) ≡ ((a && b) && c)
and_assoc true b c = refl
and_assoc false b c = refl

first_run : (viewers : ℕ) (ss ts : List Step) (ms : List (List ℕ)) → (run_steps (limits_in viewers) (ss ++ ts) ms).0 ≡ ((run_steps (limits_in viewers) ss ms).0 && (run_steps (limits_in viewers) ts (run_steps (limits_in viewers) ss ms).1).0)
unfolding run_steps
first_run viewers [] ts ms = refl
first_run viewers (s ∷ ss) ts ms =
    ap (λ (b : Bool). eqb (done (limits_in viewers) ms s).number 0 && b) (first_run viewers ss ts (stored ms s (done (limits_in viewers) ms s)))
    ∙ and_assoc (eqb (done (limits_in viewers) ms s).number 0) (run_steps (limits_in viewers) ss (stored ms s (done (limits_in viewers) ms s))).0 (run_steps (limits_in viewers) ts (run_steps (limits_in viewers) ss (stored ms s (done (limits_in viewers) ms s))).1).0

then_run : (viewers : ℕ) (ss ts : List Step) (ms : List (List ℕ)) → (run_steps (limits_in viewers) (ss ++ ts) ms).1 ≡ (run_steps (limits_in viewers) ts (run_steps (limits_in viewers) ss ms).1).1
unfolding run_steps
then_run viewers [] ts ms = refl
then_run viewers (s ∷ ss) ts ms = then_run viewers ss ts (stored ms s (done (limits_in viewers) ms s))

pub then_ran : {viewers : ℕ} {m : List ℕ} {ss ts : List Step} {a b : Bool} {m₁ m₂ : List ℕ} → Ran viewers m ss a m₁ → Ran viewers m₁ ts b m₂ → Ran viewers m (ss ++ ts) (a && b) m₂
then_ran {viewers} {m} {ss} {ts} v w = record {
  said = both_are v.said (w.said ∙ ap (λ (ms : List (List ℕ)). (run_steps (limits_in viewers) ts ms).0) v.stored_are) ∙ sym (first_run viewers ss ts (own_memories viewers m));
  stored_are = w.stored_are ∙ ap (λ (ms : List (List ℕ)). (run_steps (limits_in viewers) ts ms).1) v.stored_are ∙ sym (then_run viewers ss ts (own_memories viewers m));
  elsewhere = then_elsewhere viewers v.elsewhere w.elsewhere;
}

-- the updates before a place are told
pub record Telling (viewers : ℕ) (m u : List ℕ) (at : ℕ) (ok : Bool) (m' : List ℕ) : Type 0 where
  pub within : at ≤ length u
  pub told : List Step
  pub all_are : map redirect_step (messages_in u) ≡ told ++ map redirect_step (messages_in (drop at u))
  pub ran : Ran viewers m told ok m'

pub none_told : (viewers : ℕ) (m u : List ℕ) → Telling viewers m u 0 true m
none_told viewers m u = record { within = omega arith; told = []; all_are = refl; ran = none_ran viewers m }

module _ {viewers : ℕ} {m u m' : List ℕ} {at : ℕ} {ok : Bool} (w : Telling viewers m u at ok m') where
  pub one_more : at < length u → (end : ℕ) → end ≡ at + length (first_in (drop at u)) → {b : Bool} {m'' : List ℕ}
      → Ran viewers m' (redirect_step (first_in (drop at u)) ∷ []) b m'' → Telling viewers m u end (ok && b) m''
  one_more h end e r = record {
    within = let l = first_fits (drop at u) in let d = length-drop at u in omega (arith, e, l, d, h);
    told = w.told ++ redirect_step (first_in (drop at u)) ∷ [];
    all_are = w.all_are
        ∙ ap (λ (l : List (List ℕ)). w.told ++ map redirect_step l)
        (first_then (drop at u) (let d = length-drop at u in omega (arith, d, h))
        ∙ ap (λ (q : List ℕ). first_in (drop at u) ∷ messages_in q) (behind_first u at end e))
        ∙ sym (append_assoc w.told (redirect_step (first_in (drop at u)) ∷ []) (map redirect_step (messages_in (drop end u))));
    ran = then_ran w.ran r;
  }

  pub all_told : length u ≤ at → Ran viewers m (map redirect_step (messages_in u)) ok m'
  all_told h =
      rw
      (w.all_are
      ∙ ap (λ (q : List ℕ). w.told ++ map redirect_step (messages_in q)) (ap (λ (n : ℕ). drop n u) end ∙ drop-length u)
      ∙ ap (λ (l : List (List ℕ)). w.told ++ map redirect_step l) nothing_in ∙ append-nil w.told) w.ran
    where
      end : at ≡ length u
      end = let k = w.within in omega (arith, h, k)

-- every question has a number above 0
pub some_number : (q : Refusal) → eqb (question q) 0 ≡ false
some_number refusal.MemorySize = refl
some_number refusal.NotAnImage = refl
some_number refusal.FileLayout = refl
some_number refusal.CoordinateNotFinite = refl
some_number refusal.LinksWrong = refl
some_number refusal.ThirdLinksWrong = refl
some_number refusal.LabelsWrong = refl
some_number refusal.PointsDisagree = refl
some_number refusal.Destination = refl
some_number refusal.SerialNotHeld = refl
some_number refusal.VolumeTooLarge = refl
some_number refusal.SewnWithin = refl
some_number refusal.VertexPairs = refl
some_number refusal.CounterFull = refl
some_number refusal.OutputTooShort = refl
some_number refusal.MessageLayout = refl
some_number refusal.NotForHere = refl
some_number refusal.SerialsNotNew = refl
some_number refusal.VolumeWrong = refl
some_number refusal.PartsWrong = refl
some_number refusal.BlockFull = refl
some_number refusal.UpdateWrong = refl
some_number refusal.BlockNumbers = refl
some_number refusal.SerialsRepeated = refl
some_number refusal.LabelsUnpaired = refl
some_number refusal.PointsAcross = refl
some_number refusal.MakersWrong = refl
some_number refusal.OracleWrong = refl
some_number refusal.VolumeForViewer = refl
some_number refusal.PagesTooLong = refl

served_ok : (r : OrRefused (Unit {0})) → is_ok r ≡ eqb (number_of (answer_of r)) 0
served_ok (Ok v) = refl
served_ok (Err q) = sym (some_number q)

-- a step, and whether it is served
pub one_served : {viewers : ℕ} {m : List ℕ} {s : Step} (r : OrRefused (Unit {0})) {m' : List ℕ} {ok : Bool} → Stepped viewers m s (number_of (answer_of r)) m' → ok ≡ is_ok r → Ran viewers m (s ∷ []) ok m'
one_served r w e = rw (e, served_ok r) (one_ran w)

-- a redirect at the block that its message says
pub redirected : {viewers : ℕ} {m : List ℕ} {b n : ℕ} {message m' : List ℕ} → b ≡ addressee message → Stepped viewers m (at_block b (redirecting message)) n m' → Stepped viewers m (redirect_step message) n m'
redirected {viewers} {m} {b} {n} {message} {m'} e w = subst (λ (a : ℕ). Stepped viewers m (at_block a (redirecting message)) n m') e w

pub same_message : {viewers : ℕ} {m : List ℕ} {s s' : List ℕ} {b : Bool} {m' : List ℕ} → s ≡ s' → Ran viewers m (redirect_step s ∷ []) b m' → Ran viewers m (redirect_step s' ∷ []) b m'
same_message {viewers} {m} {s} {s'} {b} {m'} e w = subst (λ (q : List ℕ). Ran viewers m (redirect_step q ∷ []) b m') e w
