-- Demand 2 of pages: a sound block's pages are read back to its serials and links, and what is read was written by a sound block.
-- Assumes nothing.
use mathlib.Core.Path.{◌≡◌, refl, sym, ◌∙◌, ap}
use mathlib.Core.Logic.{◌≢◌, ◌⊎◌, inl, inr, ⊎_elim}
use mathlib.Core.Bool.{Bool, true, false, true≢false, ◌&&◌}
use mathlib.Core.List.{List, [], ◌∷◌, ◌++◌, map}
use mathlib.Core.Option.{Option, none, some}
use Prim.Native.Nat.{ℕ, ◌≤◌}
use native.Mathlib.Omega.{arith}
use lib.Dec.{leb, ltb, eqb}
use lib.ListN.{length, take, drop, replicate, length-map, length-replicate}
use lib.Seq.{take-append_seam}
use borrow.Author.Tests.{eq-eqb, le-leb, lt-ltb}
use Rattle.model.specs.Lists.{all, mem, ascending, distinct, is_some, first_no, Check}
use Rattle.model.specs.Values.{Label, Dart, Block, Limits, serial_bound, number_bound, code, room}
use Rattle.model.specs.Cells.{labels}
use Rattle.model.specs.Sound.{links_right, thirds_right, label_right, labels_right, coordinates_finite, sound_block}
use Rattle.model.specs.Image.{words_of, image, block_in, is_image, memory_checks, counter_above, new_block}
use Rattle.model.specs.Layouts.{serial, group_below, ◌⊗◌, ◌⊕◌, as_type, at_most, whole}
use Rattle.model.specs.Messages.{kind_of, third_ok, third, a_dart}
use Rattle.model.specs.Pages.{Row, Paged, row_of, paged, dart_of, block_of, row_ok, paged_ok, pages_text, pages, or_no_pages, paged_checks}
use Rattle.model.specs.Calls.{served, number_of, Result, asked, storing, writing_asked, write_pages, read_pages}
use Rattle.model.specs.Demands.{Bytes, PagesExact}
use Rattle.laws.proofs.Tests.{and_left, and_right, and_intro, yes_then, yes_first, no_more}
use Rattle.laws.proofs.Members.{all_map, map_map}
use Rattle.laws.proofs.Maps.{map_self}
use Rattle.theory.proofs.LayoutLaws.{whole_back, whole_only}
use Rattle.theory.proofs.ImageLaws.{parts_of, ranges_of, image_is, block_back}
use Rattle.theory.proofs.CallLaws.{served_gives, served_value, asked_number, memory_yes}
use Rattle.theory.proofs.DemandTwo.{darts_ok, positive_all}
use Rattle.theory.proofs.PageLaws.{right_paged, pages_lawful}
use Rattle.theory.proofs.BareBlocks.{bare, links_bare, thirds_bare, labels_bare, least_enough, least_most, paged_sound}

-- EVERY SOUND BLOCK HAS PAGES
dart_row_ok : (d : Dart) → leb 1 d.serial ≡ true → a_dart.ok d ≡ true → row_ok (row_of d) ≡ true
unfolding a_dart as_type ◌⊕◌ ◌⊗◌ third serial group_below
dart_row_ok d one o =
    let o1 = and_right (ltb d.serial serial_bound) _ o in
    let o2 = and_right (ltb d.next serial_bound) _ o1 in
    let o3 = and_right (ltb d.opposite serial_bound) _ o2 in
    let kind = and_left ((at_most 2).ok (kind_of d.third) && (eqb (kind_of d.third) (kind_of d.third) && third_ok d.third)) _ o3 in
    and_intro (and_intro (and_intro (and_intro one (and_left (ltb d.serial serial_bound) _ o)) (and_left (ltb d.next serial_bound) _ o1)) (and_left (ltb d.opposite serial_bound) _ o2))
    (and_right (eqb (kind_of d.third) (kind_of d.third)) _ (and_right ((at_most 2).ok (kind_of d.third)) _ kind))

rows_ok : (ds : List Dart) → all (λ d. leb 1 d.serial) ds ≡ true → all a_dart.ok ds ≡ true → all row_ok (map row_of ds) ≡ true
rows_ok [] a b = refl
rows_ok (d ∷ ds) a b = and_intro (dart_row_ok d (and_left (leb 1 d.serial) _ a) (and_left (a_dart.ok d) _ b)) (rows_ok ds (and_right (leb 1 d.serial) _ a) (and_right (a_dart.ok d) _ b))

pub sound_paged : (lim : Limits) (b : Block) → sound_block lim b ≡ true → paged_ok lim (paged b) ≡ true
unfolding links_right thirds_right coordinates_finite
sound_paged lim b s =
    let p = parts_of lim b s in
    let r = ranges_of lim b p.ranges in
    right_paged lim (paged b) (record {
      number = r.number_small;
      few = omega (arith, length-map b.darts row_of, r.few_darts);
      each = rows_ok b.darts (positive_all b.darts r.each_dart) (darts_ok b.darts r.each_dart b.darts p.links p.thirds r.each_dart p.finite);
      in_order = ap ascending (map_map row_of (λ (w : Row). w.serial) b.darts) ∙ r.in_order;
    })

pub same_paged : (b : Block) → paged (block_of (paged b)) ≡ paged b
unfolding block_of new_block
same_paged b = ap (λ (l : List Row). record { number = b.number; rows = l })
    (map_map dart_of row_of (map row_of b.darts) ∙ map_self (map row_of b.darts))

-- its own pages pass 5 to 7
pub sound_checked : (lim : Limits) (b : Block) → sound_block lim b ≡ true → first_no (paged_checks (block_of (paged b))) ≡ 0
unfolding paged_checks block_of new_block labels_right
sound_checked lim b s =
    let p = parts_of lim b s in
    let r = ranges_of lim b p.ranges in
    let ds = map dart_of (map row_of b.darts) in
    let same : ds ≡ map bare b.darts = map_map row_of dart_of b.darts in
    let same_labels : labels ds ≡ labels b.darts = ap labels same ∙ labels_bare b.darts in
    let own = and_left (all (λ d. label_right b.number b.counter d.third) b.darts) _ p.labels in
    let low : counter_above b.number (labels b.darts) ≤ b.counter = least_most b.number b.counter b.darts own in
    let c = counter_above b.number (labels ds) in
    let c-is : c ≡ counter_above b.number (labels b.darts) = ap (counter_above b.number) same_labels in
    let above : all (λ d. label_right b.number c d.third) ds ≡ true =
    ap (λ (l : List Dart). all (λ d. label_right b.number c d.third) l) same ∙ all_map (λ d. label_right b.number c d.third) bare b.darts
    ∙ least_enough b.number b.counter c b.darts own (omega (arith, c-is)) in
    yes_then 5 _ _ (ap links_right same ∙ links_bare b.darts ∙ p.links)
    ∙ yes_then 6 _ _ (ap thirds_right same ∙ thirds_bare b.darts ∙ p.thirds)
    ∙ yes_then 7 _ _ (and_intro (and_intro above (ap (λ (l : List Label). distinct (map code l)) same_labels ∙ and_right (all (λ d. label_right b.number b.counter d.third) b.darts) _ p.labels))
    (lt-ltb c number_bound (omega (arith, c-is, low, r.counter_small))))
    ∙ no_more

-- BOTH WAYS
module _ (lim : Limits) (fits : lim.block_darts ≤ room) where
  -- pages of a sound block are read into any memory of the right size
  reads : (b : Block) (into : List ℕ) → sound_block lim b ≡ true → length into ≡ words_of lim
      → read_pages lim (pages_text (paged b)) into ≡ record { answer = served tt; lent = image (words_of lim) (block_of (paged b)) }
  unfolding read_pages storing pages
  reads b into s l =
      rw (whole_back (pages lim) (pages_lawful lim fits) (paged b) (sound_paged lim b s))
      (served_gives _ into tt (image (words_of lim) (block_of (paged b)))
      (yes_then 1 _ _ (eq-eqb (length into) (words_of lim) l) ∙ yes_then 3 _ _ refl ∙ sound_checked lim b s))

  -- what was written
  record Wrote (m out : List ℕ) (n : ℕ) : Type 0 where
    sound : sound_block lim (block_in m) ≡ true
    bytes : take n (write_pages lim m out).lent ≡ pages_text (paged (block_in m))

  wrote : (m out : List ℕ) (n : ℕ) → (write_pages lim m out).answer ≡ served n → Wrote m out n
  unfolding write_pages memory_checks pages
  wrote m out n e =
      let bytes = pages_text (paged (block_in m)) in
      let v = served_value _ out (length bytes) (bytes ++ drop (length bytes) out) n e in
      let q1 = yes_first 1 (eqb (length m) (words_of lim)) _ (λ z. omega arith) v.0 in
      let q2 = yes_first 2 (is_image lim m) _ (λ z. omega arith) q1.1 in
      record {
        sound = (image_is lim m q2.0).1;
        bytes = rw (← v.1, served_gives _ out (length bytes) (bytes ++ drop (length bytes) out) v.0) (take-append_seam bytes (drop (length bytes) out));
      }

  back : (m out into : List ℕ) (n : ℕ) → length into ≡ words_of lim → (write_pages lim m out).answer ≡ served n
      → read_pages lim (take n (write_pages lim m out).lent) into ≡ record { answer = served tt; lent = image (words_of lim) (block_of (paged (block_in m))) }
  back m out into n l e = let w = wrote m out n e in ap (λ (bs : List ℕ). read_pages lim bs into) w.bytes ∙ reads (block_in m) into w.sound l

  -- what is read is a sound block, and the pages are its own
  pub record ReadAs (bytes into : List ℕ) : Type 0 where
    pub block : Block
    pub sound : sound_block lim block ≡ true
    pub put : bytes ≡ pages_text (paged block)
    pub stored : (read_pages lim bytes into).lent ≡ image (words_of lim) block

  some_pages : (o : Option Paged) → is_some o ≡ true → o ≡ some (or_no_pages o)
  some_pages none e = absurd (true≢false (sym e))
  some_pages (some w) e = refl

  own_pages : (w : Paged) → paged (block_of w) ≡ w
  unfolding block_of new_block
  own_pages w = ap (λ (l : List Row). record { number = w.number; rows = l }) (map_map dart_of row_of w.rows ∙ map_self w.rows)

  pub read_as : (bytes into : List ℕ) → Bytes bytes → (read_pages lim bytes into).answer ≡ served tt → ReadAs bytes into
  unfolding read_pages storing pages
  read_as bytes into h e =
      let o = whole (pages lim) bytes in
      let w = or_no_pages o in
      let v = served_value _ into tt (image (words_of lim) (block_of w)) tt e in
      let q1 = yes_first 1 (eqb (length into) (words_of lim)) _ (λ z. omega arith) v.0 in
      let q3 = yes_first 3 (is_some o) _ (λ z. omega arith) q1.1 in
      let k = whole_only (pages lim) (pages_lawful lim fits) bytes w h (some_pages o q3.0) in
      record {
        block = block_of w;
        sound = paged_sound lim w k.1 q3.1;
        put = k.0 ∙ ap pages_text (sym (own_pages w));
        stored = ap (λ (r : Result (Unit {0})). r.lent) (served_gives _ into tt (image (words_of lim) (block_of w)) v.0);
      }

  -- a sound block's pages are written into an output that can hold them
  writes : (b : Block) (out : List ℕ) → sound_block lim b ≡ true → length (pages_text (paged b)) ≤ length out
      → write_pages lim (image (words_of lim) b) out ≡ record { answer = served (length (pages_text (paged b))); lent = pages_text (paged b) ++ drop (length (pages_text (paged b))) out }
  unfolding write_pages pages
  writes b out s l =
      let text = pages_text (paged b) in
      ap (λ (c : Block). writing_asked 30 (memory_checks lim (image (words_of lim) b)) out (pages_text (paged c))) (block_back lim (words_of lim) b s)
      ∙ served_gives _ out (length text) (text ++ drop (length text) out) (memory_yes lim b s _ ∙ yes_then 30 _ _ (le-leb (length text) (length out) l) ∙ no_more)

  forth : (bytes into out : List ℕ) → Bytes bytes → length bytes ≤ length out → (read_pages lim bytes into).answer ≡ served tt
      → write_pages lim (read_pages lim bytes into).lent out ≡ record { answer = served (length bytes); lent = bytes ++ drop (length bytes) out }
  forth bytes into out h l e =
      let r = read_as bytes into h e in
      let text = pages_text (paged r.block) in
      let long : length text ≤ length out = omega (arith, ap length r.put) in
      ap (λ (m : List ℕ). write_pages lim m out) r.stored ∙ writes r.block out r.sound long
      ∙ ap (λ (bs : List ℕ). record { answer = served (length bs); lent = bs ++ drop (length bs) out }) (sym r.put)

  -- OTHERS are refused, by 3, 5, 6 or 7
  first_of : (l s a b c : Bool) → l ≡ true → let n = first_no ((1, l) ∷ (3, s) ∷ (5, a) ∷ (6, b) ∷ (7, c) ∷ []) in (n ≡ 0) ⊎ (mem n (3 ∷ 5 ∷ 6 ∷ 7 ∷ []) ≡ true)
  unfolding first_no
  first_of true false a b c e = inr refl
  first_of true true false b c e = inr refl
  first_of true true true false c e = inr refl
  first_of true true true true false e = inr refl
  first_of true true true true true e = inl refl
  first_of false s a b c e = absurd (true≢false (sym e))

  others : (bytes into : List ℕ) → Bytes bytes → length into ≡ words_of lim
      → ((m out : List ℕ) (n : ℕ) → (write_pages lim m out).answer ≡ served n → take n (write_pages lim m out).lent ≢ bytes)
      → mem (number_of (read_pages lim bytes into).answer) (3 ∷ 5 ∷ 6 ∷ 7 ∷ []) ≡ true
  others bytes into h l none_gives = ⊎_elim
      (λ z. absurd (given (read_as bytes into h (yes z))))
      (λ e. rw (← by_questions) e)
      (first_of (eqb (length into) (words_of lim)) (is_some w) (links_right b.darts) (thirds_right b.darts) (labels_right b && ltb b.counter number_bound)
      (eq-eqb (length into) (words_of lim) l))
    where
      w : Option Paged
      w = whole (pages lim) bytes

      b : Block
      b = block_of (or_no_pages w)

      qs : List Check
      qs = (1, eqb (length into) (words_of lim)) ∷ (3, is_some w) ∷ (5, links_right b.darts) ∷ (6, thirds_right b.darts) ∷ (7, labels_right b && ltb b.counter number_bound) ∷ []

      is_asked : read_pages lim bytes into ≡ asked qs into tt (image (words_of lim) b)
      is_asked = unfold read_pages storing paged_checks in refl

      by_questions : first_no qs ≡ number_of (read_pages lim bytes into).answer
      by_questions = sym (ap (λ (r : Result (Unit {0})). number_of r.answer) is_asked ∙ asked_number qs into tt (image (words_of lim) b))

      yes : first_no qs ≡ 0 → (read_pages lim bytes into).answer ≡ served tt
      yes z = ap (λ (r : Result (Unit {0})). r.answer) (is_asked ∙ served_gives qs into tt (image (words_of lim) b) z)

      given : ReadAs bytes into → ⊥
      given r =
          let text = pages_text (paged r.block) in
          let out : List ℕ = replicate (length text) 0 in
          let written = writes r.block out r.sound (omega (arith, length-replicate {A = ℕ} (length text) 0)) in
          none_gives (image (words_of lim) r.block) out (length text) (ap (λ (r : Result ℕ). r.answer) written)
          (ap (λ (r : Result ℕ). take (length text) r.lent) written ∙ take-append_seam text (drop (length text) out) ∙ sym r.put)

  pub pages_exact : PagesExact lim
  pages_exact = record { pages_read_back = back; same_links = same_paged; pages_written_back = forth; others_refused = others }
