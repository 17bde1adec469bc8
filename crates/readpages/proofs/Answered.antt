-- The call's answers: questions 1 and 3, then 5 to 7 of the block that the pages have, under the least counter. Assumes nothing.
use mathlib.Core.Path.{◌≡◌, refl, sym, ap, ◌∙◌}
use mathlib.Core.Bool.{Bool, true, false, true≢false, ◌&&◌}
use mathlib.Core.List.{List, [], ◌∷◌, map}
use mathlib.Core.Option.{Option, none, some}
use mathlib.Core.Logic.{◌≢◌, ⊎_elim}
use Prim.Native.Nat.{ℕ, ◌^◌, ◌≤◌, ◌<◌}
use native.Mathlib.Omega.{arith}
use lib.Dec.{ltb}
use lib.ListN.{length, get_or, set, length-map}
use borrow.Author.Tests.{eq-eqb, ne_eqb, lt-ltb, le-ltb}
use Rattle.laws.proofs.Tests.{by_cases, lt_or_ge}
use Rattle.model.specs.Lists.{all, is_some, first_no, tab, Check}
use Rattle.model.specs.Values.{room, number_bound, Block, Dart, Limits, widest}
use Rattle.model.specs.Cells.{labels}
use Rattle.model.specs.Sound.{ranges_right, links_right, thirds_right, label_right, labels_right}
use Rattle.model.specs.Layouts.{whole}
use Rattle.model.specs.Image.{words_for, words_of, image, count_in, counter_above, new_block}
use Rattle.model.specs.Pages.{Paged, dart_of, block_of, paged_ok, pages, paged_checks}
use Rattle.model.specs.Calls.{Answer, refused, asked, storing, read_pages}
use Rattle.model.specs.Demands.{Bytes}
use Rattle.theory.proofs.LayoutLaws.{whole_only}
use Rattle.theory.proofs.CallLaws.{refused_gives}
use Rattle.theory.proofs.PageLaws.{paged_right, pages_lawful}
use Rattle.theory.proofs.BareBlocks.{least_most, counted_ranges}
use Rattle.theory.proofs.ImageLaws.{ranges_fit}
use Rattle.answers.specs.Answers.{Gives}
use Rattle.answers.proofs.Questions.{gives, ask_no, ask_yes}
use Rattle.newblock.specs.Serials.{raw, raw_dart, raw_block, InSerials}
use Rattle.newblock.specs.Checks.{link_checks, storing_links}
use Rattle.newblock.proofs.Imaged.{raw_length, raw_back, raw_count, in_serials}
use Rattle.readpages.specs.Counters.{capped}
use Rattle.readpages.specs.Raw.{RawRead}
use Rattle.readpages.proofs.Counting.{capped_small, capped_large}

-- QUESTION 7: a counter that is too large is refused as the greatest one that some label reaches
module _ (me : ℕ) (ds : List Dart) where
  abbrev least : ℕ
  least = counter_above me (labels ds)

  abbrev under : ℕ → Block
  under c = record { number = me; counter = c; darts = ds }

  full_refused : 2 ^ 32 ≤ least → labels_right (under 4294967295) ≡ false
  unfolding labels_right
  full_refused h = by_cases (all (λ d. label_right me 4294967295 d.third) ds)
      (λ e. absurd (omega (arith, h, least_most me 4294967295 ds e)))
      (λ e. rw e refl)

  and_true : (b : Bool) → (b && true) ≡ b
  and_true true = refl
  and_true false = refl

  and_false : (b : Bool) → (b && false) ≡ false
  and_false true = refl
  and_false false = refl

  capped_right : labels_right (under (capped least)) ≡ (labels_right (under least) && ltb least number_bound)
  capped_right = ⊎_elim
      (λ l. ap (λ (c : ℕ). labels_right (under c)) (capped_small least l) ∙ sym (and_true (labels_right (under least))) ∙ ap (λ (b : Bool). labels_right (under least) && b) (sym (lt-ltb least number_bound l)))
      (λ g. ap (λ (c : ℕ). labels_right (under c)) (capped_large least g) ∙ full_refused g ∙ sym (and_false (labels_right (under least))) ∙ ap (λ (b : Bool). labels_right (under least) && b) (sym (le-ltb least number_bound g)))
      (lt_or_ge least number_bound)

  pub same_checks : link_checks (under (capped least)) ≡ paged_checks (under least)
  unfolding link_checks paged_checks
  same_checks = ap (λ (b : Bool). (5, links_right ds) ∷ (6, thirds_right ds) ∷ (7, b) ∷ []) capped_right

  -- a counter that is too large has its no
  three : (a b : Bool) → first_no ((5, a) ∷ (6, b) ∷ (7, false) ∷ []) ≢ 0
  three false b e = let z : ◌≡◌ {A = ℕ} 5 0 = unfold first_no in e in omega (arith, z)
  three true false e = let z : ◌≡◌ {A = ℕ} 6 0 = unfold first_no in e in omega (arith, z)
  three true true e = let z : ◌≡◌ {A = ℕ} 7 0 = unfold first_no in e in omega (arith, z)

  full : number_bound ≤ least → first_no (paged_checks (under least)) ≢ 0
  unfolding paged_checks
  full g e = three (links_right ds) (thirds_right ds)
      (ap (λ (b : Bool). first_no ((5, links_right ds) ∷ (6, thirds_right ds) ∷ (7, b) ∷ [])) (sym (ap (λ (b : Bool). labels_right (under least) && b) (le-ltb least number_bound g) ∙ and_false (labels_right (under least))))
      ∙ e)

  -- what is stored after a yes is the same
  pub same_stored : (m : List ℕ) (size : ℕ) → asked (link_checks (under (capped least))) m (tt {0}) (image size (under (capped least))) ≡ asked (paged_checks (under least)) m (tt {0}) (image size (under least))
  same_stored m size = ⊎_elim
      (λ l. ap (λ (qs : List Check). asked qs m (tt {0}) (image size (under (capped least)))) same_checks ∙ ap (λ (c : ℕ). asked (paged_checks (under least)) m (tt {0}) (image size (under c))) (capped_small least l))
      (λ g. ap (λ (qs : List Check). asked qs m (tt {0}) (image size (under (capped least)))) same_checks
      ∙ refused_gives (paged_checks (under least)) m (tt {0}) (image size (under (capped least))) (full g) ∙ sym (refused_gives (paged_checks (under least)) m (tt {0}) (image size (under least)) (full g)))
      (lt_or_ge least number_bound)

-- QUESTIONS 1 AND 3
some_pages : (o : Option Paged) → true ≡ is_some o → (w : Paged) × (o ≡ some w)
some_pages none e = absurd (true≢false e)
some_pages (some w) e = (w, refl)

module _ (lim : Limits) (s m : List ℕ) where
  pub size_refused : (length m ≡ words_of lim → ⊥) → Gives (read_pages lim s m) (refused 1) m
  unfolding read_pages storing
  size_refused h = gives _ _ _ _ (ask_no refl (ne_eqb (length m) (words_of lim) h) refl)

  module _ (size : length m ≡ words_of lim) {x : List ℕ} {r : Bool} (k : RawRead lim s x r) where
    pub layout_refused : r ≡ false → Gives (read_pages lim s m) (refused 3) m
    unfolding read_pages storing
    layout_refused e = gives _ _ _ _ (ask_yes (eq-eqb (length m) (words_of lim) size) (ask_no refl (sym k.answer ∙ e) refl))

    -- pages were read
    module _ (small : lim.block_darts ≤ room) (e : r ≡ true) (bytes : Bytes s) where
      held : (w : Paged) × (whole (pages lim) s ≡ some w)
      held = some_pages (whole (pages lim) s) (sym e ∙ k.answer)

      w : Paged
      w = held.0

      ok : paged_ok lim w ≡ true
      unfolding w pages
      ok = (whole_only (pages lim) (pages_lawful lim small) s held.0 bytes held.1).1

      ds : List Dart
      ds = map dart_of w.rows

      few : length ds ≤ lim.block_darts
      unfolding ds
      few = omega (arith, length-map w.rows dart_of, (paged_right lim w ok).few)

      is_raw : x ≡ raw (words_of lim) (under w.number ds 0)
      unfolding w ds
      is_raw = k.memory held.0 held.1

      fits : words_for (length ds) ≤ words_of lim
      fits = omega (arith, few)

      in_range : (c : ℕ) → c < 2 ^ 32 → ranges_right widest (under w.number ds c) ≡ true
      unfolding ds
      in_range c h = ranges_fit lim widest (under w.number (map dart_of w.rows) c) (unfold ds in (omega (arith, few, small))) (counted_ranges lim w ok c h)

      -- its darts, and how long it is
      pub raw_fits : words_for (count_in x) ≤ length x
      raw_fits = rw is_raw (omega (arith, raw_count (words_of lim) (under w.number ds 0), raw_length (words_of lim) (under w.number ds 0) fits, fits))

      stands_for : raw_block x ≡ under w.number ds 0
      stands_for = ap raw_block is_raw ∙ raw_back (words_of lim) (under w.number ds 0) (in_range 0 (omega arith))

      module _ {y : List ℕ} (counted : y ≡ set x 1 (capped (counter_above (get_or x 0 0) (labels (tab (raw_dart x) (count_in x)))))) where
        c : ℕ
        c = capped (least w.number ds)

        c_small : c < 2 ^ 32
        unfolding c
        c_small = ⊎_elim
            (λ l. rw (capped_small (least w.number ds) l) l)
            (λ g. rw (capped_large (least w.number ds) g) (omega arith))
            (lt_or_ge (least w.number ds) (2 ^ 32))

        own : counter_above (get_or x 0 0) (labels (tab (raw_dart x) (count_in x))) ≡ least w.number ds
        own = ap (λ (b : Block). counter_above b.number (labels b.darts)) stands_for

        set_counter : (size : ℕ) (b : Block) (v : ℕ) → set (raw size b) 1 v ≡ raw size (record { number = b.number; counter = v; darts = b.darts })
        unfolding raw
        set_counter size b v = refl

        is_counted : y ≡ raw (words_of lim) (under w.number ds c)
        unfolding c
        is_counted = counted ∙ ap (λ (v : ℕ). set x 1 (capped v)) own ∙ ap (λ (l : List ℕ). set l 1 (capped (least w.number ds))) is_raw
            ∙ set_counter (words_of lim) (under w.number ds 0) (capped (least w.number ds))

        pub counted_long : length y ≡ words_of lim
        counted_long = ap length is_counted ∙ raw_length (words_of lim) (under w.number ds c) fits

        pub counted_ready : InSerials y
        counted_ready = rw is_counted (in_serials (words_of lim) (under w.number ds c) (in_range c c_small) fits)

        same_block : raw_block y ≡ under w.number ds c
        same_block = ap raw_block is_counted ∙ raw_back (words_of lim) (under w.number ds c) (in_range c c_small)

        asked_same : storing_links y m ≡ asked (paged_checks (under w.number ds (least w.number ds))) m (tt {0}) (image (words_of lim) (under w.number ds (least w.number ds)))
        unfolding c
        asked_same =
            ap (λ (n : ℕ). asked (link_checks (raw_block y)) m (tt {0}) (image n (raw_block y))) counted_long
            ∙ ap (λ (b : Block). asked (link_checks b) m (tt {0}) (image (words_of lim) b)) same_block
            ∙ same_stored w.number ds m (words_of lim)

        asked_on : {given : Answer (Unit {0})} {lent : List ℕ}
            → Gives (asked (paged_checks (under w.number ds (least w.number ds))) m (tt {0}) (image (words_of lim) (under w.number ds (least w.number ds)))) given lent → Gives (read_pages lim s m) given lent
        unfolding w ds read_pages storing block_of new_block paged_checks
        asked_on g = rw held.1 (gives _ _ _ _ (ask_yes (eq-eqb (length m) (words_of lim) size) (ask_yes refl (record { result = g }))))

        pub block_put : {given : Answer (Unit {0})} {lent : List ℕ} → Gives (storing_links y m) given lent → Gives (read_pages lim s m) given lent
        block_put g = asked_on (rw (← asked_same) g)
