-- Questions 9 to 14 in a row: the first no, or the last yes and what the arrays then hold. Assumes nothing.
use Rattle.std.specs.Prelude.{Err, Ok, Result}
use mathlib.Core.Path.{◌≡◌, refl, sym, ◌∙◌, ap}
use mathlib.Core.Bool.{Bool, true, false, not, ◌&&◌}
use mathlib.Core.List.{List}
use Prim.Native.Nat.{ℕ, ◌+◌, ◌≤◌, ◌<◌, ◌^◌}
use native.Mathlib.Omega.{arith}
use lib.Dec.{leb, ltb, eqb}
use lib.ListN.{length, get_or, take}
use borrow.Author.Tests.{leb-true, lt-ltb}
use Rattle.model.specs.Values.{rack, room}
use Rattle.model.specs.Lists.{all, any, keep, first_no}
use Rattle.model.specs.Cells.{held, next_in, opposite_in, third_at, volume_in}
use Rattle.model.specs.Image.{count_in, column, block_in, holds_block}
use Rattle.model.specs.Departure.{departure_checks, is_sewn_into, sewn_faces}
use Rattle.model.specs.Links.{pairs_once, vertex_pairs}
use Rattle.model.specs.Calls.{served, refused, asked}
use Rattle.answers.specs.Answers.{answered}
use Rattle.answers.proofs.Questions.{alone, ask_no, ask_yes, ask_end}
use Rattle.laws.proofs.Tests.{and_left}
use Rattle.laws.proofs.Members.{keep_le}
use Rattle.cells.specs.Places.{InOrder, Linked, places_in, sewn_in, volume_of}
use Rattle.cells.proofs.Sited.{Sited, darts_in}
use Rattle.cells.proofs.StartLaws.{in_order_few, question_14}
use Rattle.theory.proofs.ImageLaws.{image_is, parts_of, ranges_of, Ranges}
use Rattle.departure.specs.Asked.{VolumeDeparts, Leaves, VolumeLeaves, faces_at, volume_checks}
use Rattle.departure.specs.Questions.{VolumeWalked, PairsAsked, Unpaired, sewn_away}
use Rattle.departure.proofs.Answers.{HeldAt, within_no, within_yes, as_many, sewn_answer, pairs_told}
use Rattle.departure.specs.declared.Counts.{Counts}
use Rattle.answers.specs.declared.Refusal.{Refusal}

-- what a sound block's header says
pub ranges_in : (m : List ℕ) → holds_block m ≡ true → Ranges rack (block_in m)
ranges_in m ok = ranges_of rack (block_in m) (parts_of rack (block_in m) (image_is rack m ok).1).ranges

-- the faces that pass a test are few too
pub sewn_few : (marks : List ℕ) {m out starts : List ℕ} {darts count sewn : ℕ} (q : List ℕ → Bool) → Linked m (count_in m) → InOrder (faces_at m marks) out starts darts count
    → sewn ≡ length (keep q (faces_at m marks)) → sewn ≤ room
sewn_few marks {m} q l o e =
    omega (arith, (in_order_few (count_in m) (column m 1) marks l.few l.next_within l.next_apart o).1, o.count_is, keep_le q (faces_at m marks), l.few)

-- this question is the first that is answered no, of 9 to 14
abbrev FirstNo : ℕ → List ℕ → ℕ → ℕ → ℕ → Type 0
FirstNo most m j s q = refused q ≡ answered (departure_checks most (block_in m) j s)

module _ (most : ℕ) (m : List ℕ) (j s : ℕ) where
  pub first_9 : (leb j 15 && not (eqb j (get_or m 0 0))) ≡ false → FirstNo most m j s 9
  unfolding departure_checks
  first_9 fails = alone _ (ask_no refl fails refl)

  module _ (is-9 : (leb j 15 && not (eqb j (get_or m 0 0))) ≡ true) where
    pub first_10 : held (darts_in m) s ≡ false → FirstNo most m j s 10
    unfolding departure_checks
    first_10 fails = alone _ (ask_yes is-9 (ask_no refl fails refl))

    -- after a yes to both the answer is that to 11 to 14
    module _ {p : ℕ} (h : HeldAt m s p) where
      rest_asked : answered (volume_checks most m p) ≡ answered (departure_checks most (block_in m) j s)
      unfolding departure_checks answered asked first_no
      rest_asked = rw (sym h.serial_is) (rw (is-9, rw (sym h.serial_is) at h.is_held) refl)

      pub leaves_told : (r : Result Counts Refusal) (marks out starts numbers firsts : List ℕ) → VolumeLeaves most m p r marks out starts numbers firsts → Leaves most m j s r marks out starts numbers firsts
      unfolding VolumeLeaves
      leaves_told (Ok c) marks out starts numbers firsts v = record {
        asked = v.asked ∙ rest_asked;
        survey = v.survey;
        serial_is = ap (column m 0) v.place_is ∙ h.serial_is;
        to_block = leb-true j 15 (and_left (leb j 15) _ is-9);
        counter_fits = v.counter_fits;
      }
      leaves_told (Err q) marks out starts numbers firsts v = v ∙ rest_asked

-- of 11 to 14
abbrev VolumeNo : ℕ → List ℕ → ℕ → ℕ → Type 0
VolumeNo most m p q = refused q ≡ answered (volume_checks most m p)

module _ (most : ℕ) (m : List ℕ) (site : Sited m) {p : ℕ} (below : p < count_in m) where
  pub first_11 : most < length (places_in (count_in m) (volume_of m p)) → VolumeNo most m p 11
  unfolding departure_checks
  first_11 many = alone _ (ask_no refl (within_no site below most many) refl)

  module _ {t : ℕ} {marks walked : List ℕ} (w : VolumeWalked m p t marks walked) (few : t ≤ most)
      {out starts : List ℕ} {darts count : ℕ} (o : InOrder (faces_at m marks) out starts darts count) where
    is_11 : leb (length (volume_in (darts_in m) (column m 0 p))) most ≡ true
    is_11 = within_yes site below w few

    darts_few : darts ≤ most
    darts_few = omega (arith, as_many site below w.volume_marked o w, few)

    pub first_12 : not (any (sewn_in m marks) (take darts out)) ≡ false → VolumeNo most m p 12
    unfolding departure_checks
    first_12 fails = alone _ (ask_yes is_11 (ask_no refl (sewn_answer site below w.volume_marked o ∙ fails) refl))

    module _ (apart : not (any (sewn_in m marks) (take darts out)) ≡ true) where
      is_12 : all (λ x. not (is_sewn_into (volume_in (darts_in m) (column m 0 p)) (third_at (darts_in m) x))) (volume_in (darts_in m) (column m 0 p)) ≡ true
      is_12 = sewn_answer site below w.volume_marked o ∙ apart

      pub first_13 : {numbers firsts : List ℕ} → Unpaired m out darts numbers firsts → VolumeNo most m p 13
      unfolding departure_checks
      first_13 fails = alone _ (ask_yes is_11 (ask_yes is_12 (ask_no refl (pairs_told site below w.volume_marked o fails.numbering ∙ fails.twice) refl)))

      module _ {numbers firsts : List ℕ} {vs : ℕ} (pairs : PairsAsked m out darts numbers firsts vs) where
        is_13 : pairs_once (vertex_pairs (next_in (darts_in m)) (opposite_in (darts_in m)) (volume_in (darts_in m) (column m 0 p))) ≡ true
        is_13 = pairs_told site below w.volume_marked o pairs.numbering ∙ pairs.once

        is_14 : ltb (get_or m 1 0 + length (sewn_faces (darts_in m) (column m 0 p))) (2 ^ 32) ≡ ltb (get_or m 1 0 + sewn_away m marks) (2 ^ 32)
        is_14 = ap (λ (k : ℕ). ltb (get_or m 1 0 + k) (2 ^ 32)) (question_14 site p below w.volume_marked)

        pub first_14 : ltb (get_or m 1 0 + sewn_away m marks) (2 ^ 32) ≡ false → VolumeNo most m p 14
        unfolding departure_checks
        first_14 fails = alone _ (ask_yes is_11 (ask_yes is_12 (ask_yes is_13 (ask_no refl (is_14 ∙ fails) refl))))

        module _ {sewn : ℕ} (away : sewn ≡ sewn_away m marks) (fits : get_or m 1 0 + sewn < 2 ^ 32) where
          all_yes : served tt ≡ answered (volume_checks most m p)
          unfolding departure_checks
          all_yes =
              let yes : ltb (get_or m 1 0 + sewn_away m marks) (2 ^ 32) ≡ true = lt-ltb (get_or m 1 0 + sewn_away m marks) (2 ^ 32) (omega (arith, away)) in
              alone _ (ask_yes is_11 (ask_yes is_12 (ask_yes is_13 (ask_yes (is_14 ∙ yes) (ask_end refl)))))

          pub departs : most ≤ 512 → count_in m ≤ length marks
              → VolumeDeparts most m p (record { darts = darts; faces = count; vertices = vs; sewn = sewn }) marks out starts numbers firsts
          departs small long = record {
            asked = all_yes;
            survey = record {
              place = p;
              place_below = below;
              volume_marked = w.volume_marked;
              marks_size = long;
              order = o;
              numbering = pairs.numbering;
              sewn_is = away;
              few = omega (arith, darts_few, small);
            };
            place_is = refl;
            counter_fits = fits;
          }
