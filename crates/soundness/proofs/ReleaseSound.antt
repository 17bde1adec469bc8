-- A release that is served leaves a sound block. Assumes nothing.
use mathlib.Core.Path.{◌≡◌, refl, sym, ◌∙◌, ap, subst}
use mathlib.Core.Logic.{◌⊎◌, inl, inr}
use mathlib.Core.Bool.{Bool, true, false, true≢false, cond, not, ◌&&◌, ◌||◌}
use mathlib.Core.List.{List}
use mathlib.Core.Option.{none}
use Prim.Native.Nat.{ℕ, ◌+◌, ◌^◌, ◌<◌, ◌≤◌}
use native.Mathlib.Omega.{arith}
use lib.Dec.{leb, ltb, eqb}
use lib.ListN.{length}
use borrow.Author.Tests.{eq-eqb, le-leb, lt-ltb, leb-true, ltb-true, not-true}
use Rattle.model.specs.Lists.{keep, concat, mem, distinct, find, ascending, first_no}
use Rattle.model.specs.Values.{Label, Third, free, sewn, critical, Dart, Block, Limits, serial_bound, code, is_free, is_critical_with, partner}
use Rattle.model.specs.Cells.{around, cycle, faces, start_of, serials, dart_at, next_in, opposite_in, third_at, volume_in, faces_in}
use Rattle.model.specs.Sound.{third_in_range, dart_in_range, sound_block}
use Rattle.model.specs.Image.{label_in}
use Rattle.model.specs.Departure.{is_sewn_out_of, sewn_faces, departure_checks, released}
use Rattle.model.specs.Links.{Link, third_or, relink, label_faces}
use Rattle.laws.proofs.Faces.{face, face_sym, along_face}
use Rattle.laws.proofs.KeptFaces.{kept_distinct, kept_few, kept_in, in_kept}
use Rattle.laws.proofs.Members.{In, in_eq}
use Rattle.laws.proofs.Orbits.{in_cycle}
use Rattle.laws.proofs.Tests.{by_cases, and_intro, and_left, and_right}
use Rattle.theory.proofs.ImageLaws.{label_back}
use Rattle.theory.proofs.Leaving as leaving
use Rattle.theory.proofs.Leaving.{next_one, few}
use Rattle.agreement.proofs.Links.{Gives, relink_gives, faces_agree, faces_reach}
use Rattle.agreement.proofs.NewLabels.{fresh_of, fresh_maker, fresh_low, fresh_high, fresh_position, fresh_one}
use Rattle.soundness.proofs.Pointwise.{CriticalRight, Right, right_of, right_sound, serial_held, by_third}
use Rattle.soundness.proofs.Rethird.{left, T, Stays, in_stays, Fits, third_left, next_left, right_left}

-- A THIRD LINK that is cut where it led to the darts m, and stays elsewhere
abbrev cut_third : (ℕ → Bool) → (ℕ → Label) → ℕ → Third → Third
cut_third m new j free = free
cut_third m new j (sewn z) = cond (m z) (critical j (new z)) (sewn z)
cut_third m new j (critical o l) = critical o l

module _ (m : ℕ → Bool) (new : ℕ → Label) (j : ℕ) where
  free_not_critical : {o : ℕ} {l : Label} → free ≡ critical o l → ⊥
  free_not_critical e = true≢false (ap is_free e)

  cut_free : (t : Third) → cut_third m new j t ≡ free → t ≡ free
  cut_free free e = refl
  cut_free (sewn z) e = by_cases (m z) (λ h. absurd (free_not_critical (sym (rw h at e)))) (λ h. rw h at e)
  cut_free (critical o l) e = e

  cut_sewn : (y : ℕ) (t : Third) → cut_third m new j t ≡ sewn y → (t ≡ sewn y) × (m y ≡ false)
  cut_sewn y free e = absurd (true≢false (ap is_free e))
  cut_sewn y (sewn z) e = by_cases (m z)
      (λ h. absurd (true≢false (sym (eq-eqb j j refl) ∙ ap (is_critical_with j) (rw h at e))))
      (λ h. let s : sewn z ≡ sewn y = rw h at e in let w : z ≡ y = cc in (s, ap m (sym w) ∙ h))
  cut_sewn y (critical o l) e = absurd (true≢false (sym (eq-eqb o o refl) ∙ ap (is_critical_with o) e))

  -- a new label
  pub record New (t : Third) (o : ℕ) (l : Label) : Type 0 where
    pub across : ℕ
    pub was : t ≡ sewn across
    pub cut : m across ≡ true
    pub other : o ≡ j
    pub label : l ≡ new across

  cut_critical : (o : ℕ) (l : Label) (t : Third) → cut_third m new j t ≡ critical o l → (t ≡ critical o l) ⊎ New t o l
  cut_critical o l free e = absurd (free_not_critical e)
  cut_critical o l (sewn z) e = by_cases (m z)
      (λ h. let c : critical j (new z) ≡ critical o l = rw h at e in let a : o ≡ j = cc in let b : l ≡ new z = cc in inr (record { across = z; was = refl; cut = h; other = a; label = b }))
      (λ h. let c : sewn z ≡ critical o l = rw h at e in absurd (true≢false (sym (ap (is_critical_with o) c ∙ eq-eqb o o refl))))
  cut_critical o l (critical p k) e = inl e

-- the ranges of a label by which it can be told from its code
pub record Ranged (l : Label) : Type 0 where
  pub number_range : l.number < 2 ^ 32
  pub position_range : l.position ≤ 4095

pub by_code : (l k : Label) → Ranged l → Ranged k → code l ≡ code k → l ≡ k
by_code l k a b e = sym (label_back l a.number_range a.position_range) ∙ ap label_in e ∙ label_back k b.number_range b.position_range

pub critical_range : (o : ℕ) (l : Label) → third_in_range (critical o l) ≡ true → Ranged l
critical_range o l r =
    let three = leb o 15 && leb l.maker 15 && ltb l.number (2 ^ 32) in
    record { number_range = ltb-true l.number (2 ^ 32) (and_right (leb o 15 && leb l.maker 15) _ (and_left three _ r)); position_range = leb-true l.position 4095 (and_right three _ r) }

out_is : (v : List ℕ) (t : Third) → is_sewn_out_of v t ≡ true → (y : ℕ) × (t ≡ sewn y) × (mem y v ≡ false)
out_is v free h = absurd (true≢false (sym h))
out_is v (sewn y) h = (y, refl, not-true (mem y v) h)
out_is v (critical o l) h = absurd (true≢false (sym h))

module _ (lim : Limits) (b : Block) (fits : lim.block_darts ≤ 4096) (sound : sound_block lim b ≡ true) (j s : ℕ)
    (asks : first_no (departure_checks lim.volume_darts b j s) ≡ 0) where
  abbrev ds : List Dart
  ds = b.darts

  abbrev all_serials : List ℕ
  all_serials = serials ds

  abbrev n : ℕ
  n = b.number

  abbrev c : ℕ
  c = b.counter

  abbrev R : Right lim n c ds
  R = right_of lim b sound

  abbrev v : List ℕ
  v = volume_in ds s

  abbrev fs : List (List ℕ)
  fs = sewn_faces ds s

  -- THE VOLUME
  asked : leaving.Asked lim b fits sound j s asks
  asked = leaving.asked lim b fits sound j s asks

  in_block : (x : ℕ) → In x v → In x all_serials
  in_block = leaving.in_block lim b fits sound j s asks

  closed_next : (x : ℕ) → In x v → In (next_in ds x) v
  closed_next = leaving.closed_next lim b fits sound j s asks

  closed_opposite : (x : ℕ) → In x v → In (opposite_in ds x) v
  closed_opposite = leaving.closed_opposite lim b fits sound j s asks

  in_order : ascending v ≡ true
  in_order = leaving.in_order lim b fits sound j s asks

  v_few : length v ≤ 4096
  v_few = leaving.v_few lim b fits sound j s asks

  v_one : (x y : ℕ) → In x v → In y v → next_in ds x ≡ next_in ds y → x ≡ y
  v_one = leaving.v_one lim b fits sound j s asks

  next_back : (x : ℕ) → In x all_serials → In (next_in ds x) v → In x v
  next_back x h k =
      let on : In (next_in ds x) (face (next_in ds) all_serials R.next_held (next_one lim b fits sound) (few lim b fits sound) x) =
      in_cycle (next_in ds) all_serials R.next_held (next_one lim b fits sound) 4096 x 1 (few lim b fits sound) h
      in
      along_face (next_in ds) all_serials R.next_held (next_one lim b fits sound) (few lim b fits sound) (λ y. In y v) (λ y q p. closed_next y p) (next_in ds x) x (R.next_held x h) k
      (face_sym (next_in ds) all_serials R.next_held (next_one lim b fits sound) (few lim b fits sound) x (next_in ds x) h on)

  -- THE FACES THAT ARE CUT
  record Out (x : ℕ) : Type 0 where
    to : ℕ
    third : third_at ds x ≡ sewn to
    outside : mem to v ≡ false

  not_in : (x : ℕ) → (In x v → ⊥) → mem x v ≡ false
  not_in x f = by_cases (mem x v) (λ h. absurd (f h)) (λ h. h)

  out_goes : (x : ℕ) → In x v → Out x → Out (next_in ds x)
  out_goes x h o = let w = R.sewn_right x o.to (in_block x h) o.third in
      record { to = w.on; third = w.goes_on; outside = not_in w.on (λ k. true≢false (sym (in_eq o.to (next_in ds w.on) v (sym w.meets) (closed_next w.on k)) ∙ o.outside)) }

  abbrev p : List ℕ → Bool
  p f = is_sewn_out_of v (third_at ds (start_of f))

  out_says : (x : ℕ) → In x v → p (cycle (next_in ds) x) ≡ true → Out x
  unfolding cycle around
  out_says x h e = let o = out_is v (third_at ds x) e in record { to = o.0; third = o.1; outside = o.2 }

  out_hears : (x : ℕ) → In x v → Out x → p (cycle (next_in ds) x) ≡ true
  unfolding cycle around
  out_hears x h o = ap (is_sewn_out_of v) o.third ∙ ap not o.outside

  faces_are : fs ≡ keep p (faces (next_in ds) v)
  unfolding sewn_faces faces_in
  faces_are = refl

  cut_in : (x : ℕ) → In x (concat fs) → In x v × Out x
  cut_in x h = kept_in (next_in ds) v closed_next v_one v_few in_order p Out out_goes out_says out_hears x (subst (λ (l : List (List ℕ)). In x (concat l)) faces_are h)

  in_cut : (x : ℕ) → In x v → Out x → In x (concat fs)
  in_cut x h o = subst (λ (l : List (List ℕ)). In x (concat l)) (sym faces_are) (in_kept (next_in ds) v closed_next v_one v_few in_order p Out out_goes out_says out_hears x h o)

  -- THE NEW LABELS
  abbrev new : ℕ → Label
  new z = fresh_of n c fs z

  new_range : (z : ℕ) → In z (concat fs) → Ranged (new z)
  new_range z h = record {
    number_range = omega (arith, fresh_high n c fs z h, asked.counter);
    position_range =
        subst (λ (l : List (List ℕ)). (fresh_of n c l z).position ≤ 4095) (sym faces_are)
        (fresh_position n c (keep p (faces (next_in ds) v)) z (kept_few (next_in ds) v closed_next v_one v_few in_order p));
  }

  abbrev q : ℕ → Bool
  q x = not (mem x v)

  abbrev ks : List Link
  ks = label_faces (λ x. partner (third_at ds x)) j n c fs

  abbrev T' : ℕ → Third
  T' x = cut_third (λ z. mem z v) new j (third_at ds x)

  abbrev S : ℕ → Type 0
  S = Stays lim n c ds R ks q

  gives : Gives ks T'
  gives =
      faces_agree (λ x. partner (third_at ds x)) T' j n c fs
      (subst (λ (l : List (List ℕ)). distinct (concat l) ≡ true) (sym faces_are)
      (kept_distinct (next_in ds) v closed_next v_one v_few in_order p))
      (λ x h. let w = cut_in x h in
      let e = w.1.third in
      ap (λ (t : Third). T' (partner t)) e
      ∙ ap (cut_third (λ z. mem z v) new j) (R.sewn_right x w.1.to (in_block x w.0) e).back
      ∙ ap (λ (t : Bool). cond t (critical j (new x)) (sewn x)) w.0)

  out : (x : ℕ) → S x → mem x v ≡ false
  out x st = not-true (mem x v) st.kept

  stays : (x : ℕ) → (In x v → ⊥) → q x ≡ true
  stays x f = ap not (not_in x f)

  -- a dart left behind whose partner leaves: the partner is on a cut face
  partner_cut : (x z : ℕ) → S x → third_at ds x ≡ sewn z → mem z v ≡ true → In z (concat fs)
  partner_cut x z st e h = in_cut z h (record { to = x; third = (R.sewn_right x z st.here e).back; outside = out x st })

  rest : (x : ℕ) → S x → find (λ k. k.dart) x ks ≡ none → third_at ds x ≡ T' x
  rest x st none_there = by_third (third_at ds x)
      (λ e. e ∙ ap (cut_third (λ z. mem z v) new j) (sym e))
      (λ z e. by_cases (mem z v)
      (λ h. absurd (faces_reach (λ x. partner (third_at ds x)) T' j n c fs z (partner_cut x z st e h)
      (ap (λ (t : Third). find (λ k. k.dart) (partner t) ks) (R.sewn_right x z st.here e).back ∙ none_there)))
      (λ h. e ∙ ap (λ (t : Bool). cond t (critical j (new z)) (sewn z)) (sym h) ∙ ap (cut_third (λ z. mem z v) new j) (sym e)))
      (λ o l e. e ∙ ap (cut_third (λ z. mem z v) new j) (sym e))

  after : (x : ℕ) → S x → T lim n c ds R ks q x ≡ T' x
  unfolding relink
  after x st =
      let d = serial_held ds x st.here in
      ap (λ (y : ℕ). third_or (third_at ds x) (find (λ k. k.dart) y ks)) (sym d)
      ∙ relink_gives ks T' gives (dart_at ds x) (λ e. rest x st (ap (λ (y : ℕ). find (λ k. k.dart) y ks) (sym d) ∙ e) ∙ ap T' (sym d)) ∙ ap T' d

  -- WHAT IS LEFT BEHIND
  old_range : (x : ℕ) → In x all_serials → third_in_range (third_at ds x) ≡ true
  unfolding dart_in_range
  old_range x h = and_right (leb 1 (dart_at ds x).serial && ltb (dart_at ds x).serial serial_bound) _ (R.in_range x h)

  range_after : (x : ℕ) → S x → third_in_range (T' x) ≡ true
  range_after x st = by_third (third_at ds x)
      (λ e. ap (λ (t : Third). third_in_range (cut_third (λ z. mem z v) new j t)) e)
      (λ z e. ap (λ (t : Third). third_in_range (cut_third (λ z. mem z v) new j t)) e ∙ by_cases (mem z v)
      (λ h. let w = new_range z (partner_cut x z st e h) in
      rw h
      (and_intro (and_intro (and_intro (le-leb j 15 asked.small) (le-leb (new z).maker 15 (omega (arith, fresh_maker n c fs z, R.number_small)))) (lt-ltb (new z).number (2 ^ 32) w.number_range)) (le-leb (new z).position 4095 w.position_range)))
      (λ h. rw h))
      (λ o l e. ap (λ (t : Third). third_in_range (cut_third (λ z. mem z v) new j t)) e ∙ sym (ap third_in_range e) ∙ old_range x st.here)

  was_sewn : (x y : ℕ) → S x → T lim n c ds R ks q x ≡ sewn y → (third_at ds x ≡ sewn y) × (mem y v ≡ false)
  was_sewn x y st e = cut_sewn (λ z. mem z v) new j y (third_at ds x) (sym (after x st) ∙ e)

  -- a sewn dart whose partner stays keeps its link
  keeps_sewn : (x y : ℕ) → S x → third_at ds x ≡ sewn y → mem y v ≡ false → T lim n c ds R ks q x ≡ third_at ds x
  keeps_sewn x y st e h = after x st ∙ ap (cut_third (λ z. mem z v) new j) e ∙ ap (λ (t : Bool). cond t (critical j (new y)) (sewn y)) h ∙ sym e

  next_st : (x : ℕ) → S x → S (next_in ds x)
  next_st x st = record { here = R.next_held x st.here; kept = stays (next_in ds x) (λ k. true≢false (sym (next_back x st.here k) ∙ out x st)) }

  abbrev after_darts : List Dart
  after_darts = left lim n c ds R ks q

  next_third : (x : ℕ) → S x → third_at after_darts (next_in after_darts x) ≡ T' (next_in ds x)
  next_third x st = ap (third_at after_darts) (next_left lim n c ds R ks q x st) ∙ third_left lim n c ds R ks q (next_in ds x) (next_st x st) ∙ after (next_in ds x) (next_st x st)

  critical_after : (x o : ℕ) (l : Label) → S x → T lim n c ds R ks q x ≡ critical o l → CriticalRight n (c + length fs) after_darts x o l
  critical_after x o l st e = go (cut_critical (λ z. mem z v) new j o l (third_at ds x) (sym (after x st) ∙ e))
    where
      higher : (l : Label) → (not (eqb l.maker n) || ltb l.number c) ≡ true → (not (eqb l.maker n) || ltb l.number (c + length fs)) ≡ true
      higher l h = by_cases (eqb l.maker n)
          (λ m. rw m (lt-ltb l.number (c + length fs) (let d = ltb-true l.number c (rw m at h) in omega arith)))
          (λ m. rw m)

      go : (third_at ds x ≡ critical o l) ⊎ New (λ z. mem z v) new j (third_at ds x) o l → CriticalRight n (c + length fs) after_darts x o l
      go (inl was) = let w = R.critical_right x o l st.here was in
          record { next_label = w.next_label; goes_on = next_third x st ∙ ap (cut_third (λ z. mem z v) new j) w.goes_on; elsewhere = w.elsewhere; own_below = higher l w.own_below }
      go (inr a) =
          let z = a.across in
          let w = R.sewn_right x z st.here a.was in
          let nx-st = next_st x st in
          let on-held = (R.sewn_right (next_in ds x) w.on nx-st.here w.goes_on).here in
          let on_in : In w.on v = next_back w.on on-held (in_eq (next_in ds w.on) z v w.meets a.cut) in
          record {
            next_label = new w.on;
            goes_on =
                next_third x st ∙ ap (cut_third (λ z. mem z v) new j) w.goes_on
                ∙ ap (λ (t : Bool). cond t (critical j (new w.on)) (sewn w.on)) on_in
                ∙ ap (λ (i : ℕ). critical i (new w.on)) (sym a.other);
            elsewhere = λ i. asked.elsewhere (sym a.other ∙ i);
            own_below = ap (λ (k : Label). not (eqb k.maker n) || ltb k.number (c + length fs)) a.label ∙ low z (partner_cut x z st a.was a.cut);
          }
        where
          low : (z : ℕ) → In z (concat fs) → (not (eqb (new z).maker n) || ltb (new z).number (c + length fs)) ≡ true
          low z h = rw (eq-eqb (new z).maker n (fresh_maker n c fs z)) (lt-ltb (new z).number (c + length fs) (fresh_high n c fs z h))

  -- a number is never used again: a new label is on no dart that is left
  pub new_unused : (y p : ℕ) (k : Label) (z : ℕ) → In y all_serials → third_at ds y ≡ critical p k → In z (concat fs) → k ≡ new z → ⊥
  new_unused y p k z h e hz same =
      let below = (R.critical_right y p k h e).own_below in
      let mine : k.maker ≡ n = ap (λ (l : Label). l.maker) same ∙ fresh_maker n c fs z in
      let less = ltb-true k.number c (rw (eq-eqb k.maker n mine) at below) in
      let number = ap (λ (l : Label). l.number) same in
      omega (arith, fresh_low n c fs z)

  apart_after : (x y o p : ℕ) (l k : Label) → S x → S y → T lim n c ds R ks q x ≡ critical o l → T lim n c ds R ks q y ≡ critical p k → code l ≡ code k → x ≡ y
  apart_after x y o p l k sx sy ex ey e =
      go (cut_critical (λ z. mem z v) new j o l (third_at ds x) (sym (after x sx) ∙ ex))
      (cut_critical (λ z. mem z v) new j p k (third_at ds y) (sym (after y sy) ∙ ey))
    where
      ranged : (x o : ℕ) (l : Label) → S x → third_at ds x ≡ critical o l → Ranged l
      ranged x o l st was = critical_range o l (sym (ap third_in_range was) ∙ old_range x st.here)

      go : (third_at ds x ≡ critical o l) ⊎ New (λ z. mem z v) new j (third_at ds x) o l → (third_at ds y ≡ critical p k) ⊎ New (λ z. mem z v) new j (third_at ds y) p k → x ≡ y
      go (inl a) (inl d) = R.apart x y o p l k sx.here sy.here a d e
      go (inl a) (inr d) =
          let h = partner_cut y d.across sy d.was d.cut in
          let same = by_code l (new d.across) (ranged x o l sx a) (new_range d.across h) (e ∙ ap code d.label) in
          absurd (new_unused x o l d.across sx.here a h same)
      go (inr a) (inl d) =
          let h = partner_cut x a.across sx a.was a.cut in
          let same = by_code k (new a.across) (ranged y p k sy d) (new_range a.across h) (sym e ∙ ap code a.label) in
          absurd (new_unused y p k a.across sy.here d h same)
      go (inr a) (inr d) =
          let hx = partner_cut x a.across sx a.was a.cut in
          let hy = partner_cut y d.across sy d.was d.cut in
          let labels_same = by_code (new a.across) (new d.across) (new_range a.across hx) (new_range d.across hy) (sym (ap code a.label) ∙ e ∙ ap code d.label) in
          let across-same = fresh_one n c fs a.across d.across hx hy labels_same in
          let bx = (R.sewn_right x a.across sx.here a.was).back in
          let by = (R.sewn_right y d.across sy.here d.was).back in
          let both : sewn x ≡ sewn y = sym bx ∙ ap (third_at ds) across-same ∙ by in
          ap partner both

  fit : Fits lim n c ds R ks q (c + length fs)
  fit = record {
    counter_fits = asked.counter;
    next_stays = λ x st. (next_st x st).kept;
    before_stays = λ x h e. stays x (λ k. true≢false (sym (closed_next x k) ∙ not-true (mem (next_in ds x) v) e));
    opposite_stays =
        λ x st. stays (opposite_in ds x)
        (λ k. true≢false (sym (in_eq x (opposite_in ds (opposite_in ds x)) v (sym (R.opposite_twice x st.here)) (closed_opposite (opposite_in ds x) k)) ∙ out x st));
    range_fits = λ x st. ap third_in_range (after x st) ∙ range_after x st;
    free_fits = λ x st e. after (next_in ds x) (next_st x st) ∙ ap (cut_third (λ z. mem z v) new j) (R.free_on x st.here (cut_free (λ z. mem z v) new j (third_at ds x) (sym (after x st) ∙ e)));
    sewn_before = λ x y st e. (was_sewn x y st e).0;
    sewn_stays = λ x y st e. ap not (was_sewn x y st e).1;
    partner_same = λ x y st e.
        let w = R.sewn_right x y st.here (was_sewn x y st e).0 in
        keeps_sewn y x (record { here = w.here; kept = ap not (was_sewn x y st e).1 }) w.back (out x st);
    next_same = λ x y st e.
        let was = was_sewn x y st e in
        let w = R.sewn_right x y st.here was.0 in
        keeps_sewn (next_in ds x) w.on (next_st x st) w.goes_on (not_in w.on (λ k. true≢false (sym (in_eq y (next_in ds w.on) v (sym w.meets) (closed_next w.on k)) ∙ was.1)));
    critical_fits = critical_after;
    apart_fits = apart_after;
  }

  pub released_sound : sound_block lim (released b j s) ≡ true
  unfolding released
  released_sound = right_sound lim n (c + length fs) after_darts (right_left lim n c ds R ks q (c + length fs) fit)

  -- A NUMBER IS NEVER USED AGAIN: a label that a dart did not have before is the block's own, its number is not below the counter, and the
  -- counter goes past it; `new_unused` says that no dart had it
  pub record Fresh (l : Label) : Type 0 where
    pub own : l.maker ≡ (released b j s).number
    pub not_below : b.counter ≤ l.number
    pub passed : l.number < (released b j s).counter

  pub number_new : (x o : ℕ) (l : Label) → In x (serials (released b j s).darts) → third_at (released b j s).darts x ≡ critical o l → (third_at ds x ≡ critical o l) ⊎ Fresh l
  unfolding released
  number_new x o l h e = go (cut_critical (λ z. mem z v) new j o l (third_at ds x) (sym (after x st) ∙ sym (third_left lim n c ds R ks q x st) ∙ e))
    where
      st : S x
      st = in_stays lim n c ds R ks q x h

      go : (third_at ds x ≡ critical o l) ⊎ New (λ z. mem z v) new j (third_at ds x) o l → (third_at ds x ≡ critical o l) ⊎ Fresh l
      go (inl was) = inl was
      go (inr a) =
          let z = a.across in
          inr (record {
            own = ap (λ (k : Label). k.maker) a.label ∙ fresh_maker n c fs z;
            not_below = subst (λ (k : Label). c ≤ k.number) (sym a.label) (fresh_low n c fs z);
            passed = subst (λ (k : Label). k.number < c + length fs) (sym a.label) (fresh_high n c fs z (partner_cut x z st a.was a.cut));
          })
