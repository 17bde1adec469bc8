-- A redirect that is served leaves a sound block, whatever update it was given. Assumes nothing.
use mathlib.Core.Path.{◌≡◌, refl, sym, ◌∙◌, ap, subst}
use mathlib.Core.Logic.{◌≢◌}
use mathlib.Core.Bool.{Bool, true, false, true≢false, cond, not, ◌&&◌, ◌||◌}
use mathlib.Core.List.{List, [], ◌∷◌, ◌++◌, map}
use mathlib.Core.Option.{Option, none, some}
use Prim.Native.Nat.{ℕ, suc, ◌≤◌}
use lib.Dec.{leb, ltb, eqb}
use lib.ListN.{length}
use borrow.Author.Tests.{eqb-true, eqb-false, eq-eqb, le-leb, not-true}
use Rattle.model.specs.Lists.{all, any, mem, concat_map, find}
use Rattle.model.specs.Values.{Label, Third, free, sewn, critical, Dart, Block, Limits, serial_bound, no_dart, or_no_dart, code, label_key, is_free, is_critical_with, with_other}
use Rattle.model.specs.Cells.{cycle, serials, dart_at, next_in, third_at, least_label, labelled}
use Rattle.model.specs.Sound.{third_in_range, dart_in_range, sound_block}
use Rattle.model.specs.Messages.{Update}
use Rattle.model.specs.Links.{Link, third_or, relink}
use Rattle.model.specs.Arrival.{face_with, names_face, update_right, update_links, redirected}
use Rattle.laws.proofs.Faces.{face, face_trans, face_sym}
use Rattle.laws.proofs.Members.{In, keep_true}
use Rattle.laws.proofs.Orbits.{in_cycle, cycle_closed}
use Rattle.laws.proofs.Tests.{by_cases, and_intro, and_left, and_right, same_truth}
use Rattle.theory.proofs.BlockLaws.{found_in}
use Rattle.theory.proofs.Leaving.{next_one, few}
use Rattle.soundness.proofs.Pointwise.{CriticalRight, Right, right_of, right_sound}
use Rattle.soundness.proofs.Rethird.{left, T, Stays, Fits, third_left, next_left, right_left}

-- ANOTHER BLOCK on a third link, or not
abbrev told_third : ℕ → Bool → Third → Third
told_third o b t = cond b (with_other o t) t

told_free : (o : ℕ) (b : Bool) (t : Third) → told_third o b t ≡ free → t ≡ free
told_free o b free e = refl
told_free o true (sewn y) e = e
told_free o false (sewn y) e = e
told_free o true (critical p l) e = absurd (true≢false (sym (ap is_free e)))
told_free o false (critical p l) e = e

free_told : (o : ℕ) (b : Bool) → told_third o b free ≡ free
free_told o true = refl
free_told o false = refl

told_sewn : (o y : ℕ) (b : Bool) (t : Third) → told_third o b t ≡ sewn y → t ≡ sewn y
told_sewn o y true free e = e
told_sewn o y false free e = e
told_sewn o y true (sewn z) e = e
told_sewn o y false (sewn z) e = e
told_sewn o y true (critical p l) e = absurd (true≢false (sym (ap is_sewn e)))
  where
    is_sewn : Third → Bool
    is_sewn free = false
    is_sewn (sewn y) = true
    is_sewn (critical o l) = false
told_sewn o y false (critical p l) e = e

sewn_told : (o y : ℕ) (b : Bool) → told_third o b (sewn y) ≡ sewn y
sewn_told o y true = refl
sewn_told o y false = refl

told_range : (o : ℕ) (b : Bool) (t : Third) → o ≤ 15 → third_in_range t ≡ true → third_in_range (told_third o b t) ≡ true
told_range o true free h r = r
told_range o true (sewn y) h r = r
told_range o true (critical p l) h r =
    let three = leb p 15 && leb l.maker 15 && ltb l.number 4294967296 in
    let two = leb p 15 && leb l.maker 15 in
    let a = and_left three _ r in
    let b = and_left two _ a in
    and_intro (and_intro (and_intro (le-leb o 15 h) (and_right (leb p 15) _ b)) (and_right two _ a)) (and_right three _ r)
told_range o false t h r = r

-- a critical link was one, with the same label
told_critical : (o : ℕ) (b : Bool) (t : Third) (p : ℕ) (l : Label) → told_third o b t ≡ critical p l → (r : ℕ) × (t ≡ critical r l) × (p ≡ cond b o r)
told_critical o true free p l e = absurd (true≢false (ap is_free e))
told_critical o false free p l e = absurd (true≢false (ap is_free e))
told_critical o true (sewn y) p l e = absurd (true≢false (sym (ap (is_critical_with p) e ∙ eq-eqb p p refl)))
told_critical o false (sewn y) p l e = absurd (true≢false (sym (ap (is_critical_with p) e ∙ eq-eqb p p refl)))
told_critical o true (critical r m) p l e = let z : m ≡ l = cc in let y : p ≡ o = cc in (r, ap (critical r) z, y)
told_critical o false (critical r m) p l e = let z : m ≡ l = cc in let y : p ≡ r = cc in (r, ap (critical r) z, y)

-- THE LINKS OF AN UPDATE
module _ (ds : List Dart) (o : ℕ) where
  abbrev link_to : ℕ → Link
  link_to x = record { dart = x; third = with_other o (third_at ds x) }

  found_then : (x : ℕ) (f : List ℕ) (js : List Link) → find (λ k. k.dart) x (map link_to f ++ js) ≡ cond (mem x f) (some (link_to x)) (find (λ k. k.dart) x js)
  found_then x [] js = refl
  found_then x (y ∷ f) js = by_cases (eqb x y) (λ e. rw (e, eqb-true x y e)) (λ e. rw e (found_then x f js))

  -- x is on a face that has one of the labels
  abbrev told : List Label → ℕ → Bool
  told ls x = any (λ l. mem x (face_with ds l)) ls

  found_told : (x : ℕ) (ls : List Label) → find (λ k. k.dart) x (concat_map (λ l. map link_to (face_with ds l)) ls) ≡ cond (told ls x) (some (link_to x)) none
  found_told x [] = refl
  found_told x (l ∷ ls) = found_then x (face_with ds l) (concat_map (λ l. map link_to (face_with ds l)) ls) ∙ by_cases (mem x (face_with ds l)) (λ e. rw e) (λ e. rw e (found_told x ls))

  third_told : (x : ℕ) (ls : List Label) → third_or (third_at ds x) (find (λ k. k.dart) x (concat_map (λ l. map link_to (face_with ds l)) ls)) ≡ told_third o (told ls x) (third_at ds x)
  third_told x ls = ap (third_or (third_at ds x)) (found_told x ls) ∙ by_cases (told ls x) (λ e. rw e) (λ e. rw e)

-- FACES OF A SOUND BLOCK
module _ (lim : Limits) (b : Block) (fits : lim.block_darts ≤ 4096) (sound : sound_block lim b ≡ true) where
  abbrev ds : List Dart
  ds = b.darts

  abbrev v : List ℕ
  v = serials ds

  abbrev R : Right lim b.number b.counter ds
  R = right_of lim b sound

  -- x is on a face exactly if next x is
  pub face_next : (e x : ℕ) → In e v → In x v → mem (next_in ds x) (cycle (next_in ds) e) ≡ mem x (cycle (next_in ds) e)
  unfolding cycle
  face_next e x he hx = same_truth _ _
      (λ k. face_trans (next_in ds) v R.next_held one small e (next_in ds x) x he k (face_sym (next_in ds) v R.next_held one small x (next_in ds x) hx on))
      (λ k. cycle_closed (next_in ds) v R.next_held one 4096 e x small he k)
    where
      one : (x y : ℕ) → In x v → In y v → next_in ds x ≡ next_in ds y → x ≡ y
      one = next_one lim b fits sound

      small : length v ≤ 4096
      small = few lim b fits sound

      on : In (next_in ds x) (face (next_in ds) v R.next_held one small x)
      on = in_cycle (next_in ds) v R.next_held one 4096 x 1 small hx

  -- a label that is critical with some block is held
  pub labelled_held : (o : ℕ) (l : Label) → is_critical_with o (labelled l ds).third ≡ true → In (labelled l ds).serial v
  unfolding labelled no_dart
  labelled_held o l h = go (find (λ d. label_key d.third) (suc (code l)) ds) refl h
    where
      go : (f : Option Dart) → find (λ d. label_key d.third) (suc (code l)) ds ≡ f → is_critical_with o (or_no_dart f).third ≡ true → In (or_no_dart f).serial v
      go none e q = absurd (true≢false (sym q))
      go (some d) e q = found_in (λ d. label_key d.third) (suc (code l)) ds d e

  module _ (u : Update) where
    abbrev tells : ℕ → Bool
    tells x = told ds u.block u.labels x

    tells_next : (x : ℕ) → In x v → (ls : List Label) → all (names_face ds u.from) ls ≡ true → told ds u.block ls (next_in ds x) ≡ told ds u.block ls x
    unfolding names_face face_with
    tells_next x h [] a = refl
    tells_next x h (l ∷ ls) a =
        let name =
        and_left (is_critical_with u.from (labelled l ds).third) _
        (and_left (is_critical_with u.from (labelled l ds).third && eqb (code l) (least_label ds (face_with ds l))) _ a)
        in
        let rest = tells_next x h ls (and_right (is_critical_with u.from (labelled l ds).third && eqb (code l) (least_label ds (face_with ds l))) _ a) in
        ors _ _ _ _ (face_next (labelled l ds).serial x (labelled_held u.from l name) h) rest
      where
        ors : (a b c d : Bool) → a ≡ b → c ≡ d → (a || c) ≡ (b || d)
        ors a b c d p q = rw (p, q)

    module _ (small : u.block ≤ 15) (to_here : u.to ≡ b.number) (right : update_right b u ≡ true) where
      abbrev q : ℕ → Bool
      q x = true

      abbrev ks : List Link
      ks = update_links ds u

      after : (x : ℕ) → T lim b.number b.counter ds R ks q x ≡ told_third u.block (tells x) (third_at ds x)
      unfolding update_links
      after x = third_told ds u.block x u.labels

      facts : (u.block ≢ b.number) × (all (names_face ds u.from) u.labels ≡ true)
      unfolding update_right
      facts =
          let a = not (eqb u.block u.from) in
          let c = not (eqb u.block u.to) in
          let n = all (names_face ds u.from) u.labels in
          let three = and_left (a && c && n) _ right in
          let two = and_left (a && c) n three in
          (λ e. eqb-false u.block u.to (not-true (eqb u.block u.to) (and_right a c two)) (e ∙ sym to_here), and_right (a && c) n three)

      abbrev S : ℕ → Type 0
      S = Stays lim b.number b.counter ds R ks q

      third_sewn : (x y : ℕ) → third_at ds x ≡ sewn y → T lim b.number b.counter ds R ks q x ≡ third_at ds x
      third_sewn x y e = after x ∙ ap (told_third u.block (tells x)) e ∙ sewn_told u.block y (tells x) ∙ sym e

      critical_after : (x o : ℕ) (l : Label) → S x → T lim b.number b.counter ds R ks q x ≡ critical o l
          → CriticalRight b.number b.counter (left lim b.number b.counter ds R ks q) x o l
      critical_after x o l s e =
          let w = told_critical u.block (tells x) (third_at ds x) o l (sym (after x) ∙ e) in
          let c = R.critical_right x w.0 l s.here w.1 in
          let sn : S (next_in ds x) = record { here = R.next_held x s.here; kept = refl } in
          record {
            next_label = c.next_label;
            goes_on =
                ap (third_at (left lim b.number b.counter ds R ks q)) (next_left lim b.number b.counter ds R ks q x s)
                ∙ third_left lim b.number b.counter ds R ks q (next_in ds x) sn
                ∙ after (next_in ds x) ∙ ap (told_third u.block (tells (next_in ds x))) c.goes_on
                ∙ ap (λ (t : Bool). told_third u.block t (critical w.0 c.next_label))
                (tells_next x s.here u.labels facts.1) ∙ one (tells x) w.0 c.next_label
                ∙ ap (λ (z : ℕ). critical z c.next_label) (sym w.2);
            elsewhere = λ z. apart_from (tells x) w.0 c.elsewhere (sym w.2 ∙ z);
            own_below = c.own_below;
          }
        where
          one : (t : Bool) (r : ℕ) (k : Label) → told_third u.block t (critical r k) ≡ critical (cond t u.block r) k
          one true r k = refl
          one false r k = refl

          apart_from : (t : Bool) (r : ℕ) → r ≢ b.number → cond t u.block r ≡ b.number → ⊥
          apart_from true r h z = facts.0 z
          apart_from false r h z = h z

      range_held : (x : ℕ) → In x v → third_in_range (third_at ds x) ≡ true
      unfolding dart_in_range
      range_held x h = and_right (leb 1 (dart_at ds x).serial && ltb (dart_at ds x).serial serial_bound) _ (R.in_range x h)

      fit : Fits lim b.number b.counter ds R ks q b.counter
      fit = record {
        counter_fits = R.counter_small;
        next_stays = λ x s. refl;
        before_stays = λ x h e. refl;
        opposite_stays = λ x s. refl;
        range_fits = λ x s. ap third_in_range (after x) ∙ told_range u.block (tells x) (third_at ds x) small (range_held x s.here);
        free_fits = λ x s e. let f = R.free_on x s.here (told_free u.block (tells x) (third_at ds x) (sym (after x) ∙ e)) in
            after (next_in ds x) ∙ ap (told_third u.block (tells (next_in ds x))) f ∙ free_told u.block (tells (next_in ds x));
        sewn_before = λ x y s e. told_sewn u.block y (tells x) (third_at ds x) (sym (after x) ∙ e);
        sewn_stays = λ x y s e. refl;
        partner_same = λ x y s e. third_sewn y x (R.sewn_right x y s.here (told_sewn u.block y (tells x) (third_at ds x) (sym (after x) ∙ e))).back;
        next_same = λ x y s e. let w = R.sewn_right x y s.here (told_sewn u.block y (tells x) (third_at ds x) (sym (after x) ∙ e)) in third_sewn (next_in ds x) w.on w.goes_on;
        critical_fits = critical_after;
        apart_fits = λ x y o p l k sx sy ex ey e.
            let wx = told_critical u.block (tells x) (third_at ds x) o l (sym (after x) ∙ ex) in
            let wy = told_critical u.block (tells y) (third_at ds y) p k (sym (after y) ∙ ey) in
            R.apart x y wx.0 wy.0 l k sx.here sy.here wx.1 wy.1 e;
      }

      pub redirected_sound : sound_block lim (redirected b u) ≡ true
      unfolding redirected
      redirected_sound = subst (λ (l : List Dart). sound_block lim (record { number = b.number; counter = b.counter; darts = map (relink ks) l }) ≡ true) (keep_true ds)
          (right_sound lim b.number b.counter (left lim b.number b.counter ds R ks q) (right_left lim b.number b.counter ds R ks q b.counter fit))
