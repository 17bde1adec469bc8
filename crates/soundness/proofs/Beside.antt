-- Links and third links that agree on a set of darts, and two sets of darts beside each other. Assumes nothing.
use mathlib.Core.Path.{◌≡◌, sym, ◌∙◌, ap, subst}
use mathlib.Core.Logic.{◌⊎◌, ⊎_elim}
use mathlib.Core.List.{List}
use Prim.Native.Nat.{ℕ, suc}
use Rattle.model.specs.Values.{Point, Third, free, sewn, critical, label_key}
use Rattle.laws.proofs.Members.{In, in_eq}
use Rattle.soundness.proofs.ByDarts.{Frame, ThirdRight, Good}
use Rattle.soundness.proofs.Rows.{zero_not_suc}

-- FRAMES that agree, and two beside each other
pub frame_cong : (S : List ℕ) (nx nx' op op' : ℕ → ℕ) (pt pt' : ℕ → Point)
    → ((x : ℕ) → In x S → nx' x ≡ nx x) → ((x : ℕ) → In x S → op' x ≡ op x) → ((x : ℕ) → In x S → pt' x ≡ pt x)
    → Frame S nx op pt → Frame S nx' op' pt'
frame_cong S nx nx' op op' pt pt' en eo ep F = record {
  next_stays = λ x h. in_eq _ _ S (en x h) (F.next_stays x h);
  next_onto = λ x h. let r = F.next_onto x h in (r.0, r.1, en r.0 r.1 ∙ r.2);
  opposite_stays = λ x h. in_eq _ _ S (eo x h) (F.opposite_stays x h);
  opposite_twice = λ x h. ap op' (eo x h) ∙ eo (op x) (F.opposite_stays x h) ∙ F.opposite_twice x h;
  opposite_other = λ x h e. F.opposite_other x h (sym (eo x h) ∙ e);
  ring_point = λ x h. let o = F.opposite_stays x h in
      ep x h ∙ F.ring_point x h ∙ sym (ep (nx (op x)) (F.next_stays (op x) o)) ∙ ap pt' (sym (en (op x) o) ∙ ap nx' (sym (eo x h)));
  point_finite = λ x h. rw (ep x h) (F.point_finite x h);
  serial_low = F.serial_low;
  serial_high = F.serial_high;
}

module _ (S₁ S₂ S : List ℕ) (split : (x : ℕ) → In x S → In x S₁ ⊎ In x S₂) (in₁ : (x : ℕ) → In x S₁ → In x S) (in₂ : (x : ℕ) → In x S₂ → In x S) where
  pub frame_join : (nx op : ℕ → ℕ) (pt : ℕ → Point) → Frame S₁ nx op pt → Frame S₂ nx op pt → Frame S nx op pt
  frame_join nx op pt F G = record {
    next_stays = λ x h. ⊎_elim (λ k. in₁ _ (F.next_stays x k)) (λ k. in₂ _ (G.next_stays x k)) (split x h);
    next_onto = λ x h. ⊎_elim (λ k. let r = F.next_onto x k in (r.0, in₁ r.0 r.1, r.2)) (λ k. let r = G.next_onto x k in (r.0, in₂ r.0 r.1, r.2)) (split x h);
    opposite_stays = λ x h. ⊎_elim (λ k. in₁ _ (F.opposite_stays x k)) (λ k. in₂ _ (G.opposite_stays x k)) (split x h);
    opposite_twice = λ x h. ⊎_elim (F.opposite_twice x) (G.opposite_twice x) (split x h);
    opposite_other = λ x h. ⊎_elim (F.opposite_other x) (G.opposite_other x) (split x h);
    ring_point = λ x h. ⊎_elim (F.ring_point x) (G.ring_point x) (split x h);
    point_finite = λ x h. ⊎_elim (F.point_finite x) (G.point_finite x) (split x h);
    serial_low = λ x h. ⊎_elim (F.serial_low x) (G.serial_low x) (split x h);
    serial_high = λ x h. ⊎_elim (F.serial_high x) (G.serial_high x) (split x h);
  }

  -- new darts are free
  module _ (nx nx' : ℕ → ℕ) (pt pt' : ℕ → Point) (T T' : ℕ → Third) (me counter : ℕ)
      (en : (x : ℕ) → In x S₁ → nx' x ≡ nx x) (ep : (x : ℕ) → In x S₁ → pt' x ≡ pt x) (et : (x : ℕ) → In x S₁ → T' x ≡ T x)
      (stays : (x : ℕ) → In x S₁ → In (nx x) S₁) (stays₂ : (x : ℕ) → In x S₂ → In (nx' x) S₂) (new_free : (x : ℕ) → In x S₂ → T' x ≡ free) where
    pub good_join : Good S₁ nx pt me counter T → Good S nx' pt' me counter T'
    good_join G = record {
      in_range = λ x h. ⊎_elim (λ k. rw (et x k) (G.in_range x k)) (λ k. rw (new_free x k)) (split x h);
      own = λ x h. ⊎_elim (λ k. rw (et x k) (G.own x k)) (λ k. rw (new_free x k)) (split x h);
      right = λ x h u e. ⊎_elim (λ k. old x k u e (G.right x k u (sym (et x k) ∙ e))) (λ k. subst (ThirdRight S nx' pt' T' x) (sym (new_free x k) ∙ e) (new_free (nx' x) (stays₂ x k))) (split x h);
      apart = λ x y v h k e f. ⊎_elim (λ p. ⊎_elim (λ q. G.apart x y v p q (ap label_key (sym (et x p)) ∙ e) (ap label_key (sym (et y q)) ∙ f))
          (λ q. absurd (unlabelled y v q f)) (split y k)) (λ p. absurd (unlabelled x v p e)) (split x h);
    }
      where
        unlabelled : (x v : ℕ) → In x S₂ → label_key (T' x) ≡ suc v → ⊥
        unlabelled x v h e = zero_not_suc v (sym (ap label_key (new_free x h)) ∙ e)

        third_next : (x : ℕ) → In x S₁ → T' (nx' x) ≡ T (nx x)
        third_next x h = ap T' (en x h) ∙ et (nx x) (stays x h)

        old : (x : ℕ) → In x S₁ → (u : Third) → T' x ≡ u → ThirdRight S₁ nx pt T x u → ThirdRight S nx' pt' T' x u
        old x h free e r = third_next x h ∙ r
        old x h (critical o l) e r = (r.0, third_next x h ∙ r.1)
        old x h (sewn y) e r =
            let z-in = (G.right (nx x) (stays x h) (sewn r.3.0) r.3.1).0 in (
              in₁ y r.0,
              et y r.0 ∙ r.1,
              r.2,
              (r.3.0, third_next x h ∙ r.3.1, en r.3.0 z-in ∙ r.3.2),
              ep x h ∙ r.4 ∙ sym (ep (nx y) (stays y r.0)) ∙ ap pt' (sym (en y r.0)),
            )
