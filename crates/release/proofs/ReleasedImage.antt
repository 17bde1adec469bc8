-- What release leaves in memory, by places, is the image of the block that the model leaves. Assumes nothing.
use mathlib.Core.Path.{◌≡◌, refl, sym, ◌∙◌, ap}
use mathlib.Core.Bool.{true, false, true≢false, not}
use mathlib.Core.List.{List, [], ◌∷◌, ◌++◌, map}
use mathlib.Core.Option
use mathlib.Core.Option.{Option, none, some}
use Prim.Native.Nat.{ℕ, ◌+◌, ◌*◌, ◌-◌, ◌≤◌, ◌<◌}
use native.Mathlib.Omega.{arith}
use lib.Dec.{eqb}
use lib.ListN.{length, get_or, drop, replicate, length-map, length-drop, length-replicate}
use lib.Seq.{ext_get_or, get_or-drop}
use borrow.Author.Tests.{not-true}
use Rattle.model.specs.Lists.{any, keep, mem, concat, find, index_of}
use Rattle.model.specs.Values.{Label, Third, critical, Dart, code, partner}
use Rattle.model.specs.Cells.{serials, third_at, volume_in}
use Rattle.model.specs.Image.{words_for, count_in, image, column, is_sewn_word, block_in, dart_in, dart_words, third_in, kind_word, link_word, holds_block}
use Rattle.model.specs.Departure.{sewn_faces, departure_checks, released}
use Rattle.model.specs.Links.{Link, third_or, relink, label_faces}
use Rattle.answers.specs.Answers.{answered}
use Rattle.laws.proofs.Tests.{yes_first}
use Rattle.laws.proofs.Lists.{getD_zeros}
use Rattle.laws.proofs.Members.{In, in_here, in_there, in_eq, in_map, map_in, keep_map, map_map, map_cong, Each, each_found, keep_cong}
use Rattle.laws.proofs.Tables.{map_tab}
use Rattle.laws.proofs.Labels.{code_in}
use Rattle.theory.proofs.CallLaws.{served_value}
use Rattle.columns.specs.Columns.{Kind, kind_free, kind_sewn, kind_critical}
use Rattle.columns.proofs.Thirds.{sewn_one, critical_unsewn, with_critical, third_free, third_sewn, third_critical, kind_back, kind_one}
use Rattle.columns.proofs.Question.{Passed, image_passed}
use Rattle.place.specs.Renumber.{moved_link}
use Rattle.place.proofs.Renumbering.{link_sewn, link_other}
use Rattle.cells.specs.Places.{Marked, marked, sewn_in, volume_of}
use Rattle.cells.proofs.Reached.{places, places_below}
use Rattle.cells.proofs.Serials.{serials_apart}
use Rattle.cells.proofs.SewnLaws.{mark_is, question_12}
use Rattle.cells.proofs.StartLaws.{sewn_faces_serials}
use Rattle.cells.proofs.Sited.{Sited, darts_in, sited}
use Rattle.departure.specs.Asked.{Departs}
use Rattle.departure.specs.declared.Counts.{Counts}
use Rattle.release.specs.LetGo.{with_links, let_go, left_behind, unmarked, rank, moved_words, records, without, released_at}
use Rattle.release.proofs.PutLinks.{length_links, others_stay, header_stays, column_stays, unnamed_stays, named}
use Rattle.release.proofs.NewLinks.{renamed, Critical, darts_are, faces_critical, faces_renamed, find_renamed, find_unnamed}
use Rattle.release.proofs.Ranks.{unmarked_in, index_rank}
use Rattle.release.proofs.CutFaces.{sewn, next_stays, opposite_stays, cut_is, in_cut, left_distinct}

-- LINK WORDS with places moved
-- of a third link where the serial at place a has index t a
pub link_moved : (s t : ℕ → ℕ) (ss : List ℕ) (k a : ℕ) → Kind k a → (k ≡ 1 → index_of (s a) ss ≡ t a) → link_word ss (third_in s k a) ≡ moved_link t k a
link_moved s t ss k a (kind_free e f) h = ap (link_word ss) (third_free s k a e) ∙ sym f ∙ link_other t k a (ap is_sewn_word e)
link_moved s t ss k a (kind_sewn e) h = ap (link_word ss) (third_sewn s k a e) ∙ h e ∙ link_sewn t k a (ap is_sewn_word e)
link_moved s t ss k a (kind_critical e f g) h = ap (link_word ss) (third_critical s k a e) ∙ code_in a ∙ link_other t k a (critical_unsewn k e)

-- an image by its parts
abbrev parts : ℕ → ℕ → ℕ → ℕ → List ℕ → List ℕ
parts size number counter count rows = (number ∷ counter ∷ count ∷ 0 ∷ 0 ∷ 0 ∷ 0 ∷ 0 ∷ []) ++ (rows ++ replicate (size - words_for count) 0)

module _ {m : List ℕ} (site : Sited m) (pass : Passed m) (p : ℕ) (h : p < count_in m) {marks : List ℕ}
    (mk : Marked (volume_of m p) marks) (apart : any (sewn_in m marks) (marked (count_in m) marks) ≡ false) (j : ℕ) where
  abbrev s : ℕ → ℕ
  s = column m 0

  abbrev n : ℕ
  n = count_in m

  abbrev ds : List Dart
  ds = darts_in m

  abbrev new : List Link
  new = left_behind m marks j

  abbrev x : List ℕ
  x = with_links m new

  abbrev links : List Link
  links = label_faces (λ y. partner (third_at ds y)) j (get_or m 0 0) (get_or m 1 0) (sewn_faces ds (s p))

  -- THE NEW LINKS by serial and by place
  partner_is : (q : ℕ) → In q (concat (let_go m marks)) → partner (third_at ds (s q)) ≡ s (column m 4 q)
  partner_is q k = let c = cut_is site pass p h mk apart q k in ap partner (site.third_is q c.below ∙ third_sewn s (column m 3 q) (column m 4 q) c.kind)

  links_are : links ≡ map (renamed s) new
  unfolding left_behind
  links_are = ap (label_faces (λ y. partner (third_at ds y)) j (get_or m 0 0) (get_or m 1 0)) (sym (sewn_faces_serials site p h mk))
      ∙ faces_renamed s (column m 4) (λ y. partner (third_at ds y)) j (get_or m 0 0) (get_or m 1 0) (let_go m marks) partner_is

  named_are : map (λ k. k.dart) new ≡ map (column m 4) (concat (let_go m marks))
  unfolding left_behind
  named_are = darts_are (column m 4) j (get_or m 0 0) (get_or m 1 0) (let_go m marks)

  new_critical : Each (Critical (column m 4) j (get_or m 0 0)) new
  unfolding left_behind
  new_critical = faces_critical (column m 4) j (get_or m 0 0) (get_or m 1 0) (let_go m marks)

  named_below : (q : ℕ) → In q (map (λ k. k.dart) new) → q < n
  named_below q k =
      let r = map_in (column m 4) (concat (let_go m marks)) q (rw named_are at k) in
      let c = cut_is site pass p h mk apart r.0 r.1 in
      omega (arith, r.2, (sewn site pass p h mk r.0 c.below c.kind).sewn_lt)

  found : (q : ℕ) → q < n → find (λ k. k.dart) (s q) links ≡ Option.map (renamed s) (find (λ k. k.dart) q new)
  found q k = ap (find (λ k. k.dart) (s q)) links_are ∙ find_renamed s q new (λ y i e. serials_apart site q y k (named_below y i) e)

  -- the words of a dart with a new link
  pub record NewThird (q : ℕ) (l : Link) : Type 0 where
    pub label : Label
    pub third_is : l.third ≡ critical j label
    pub kind_is : column x 3 q ≡ 2 + 4 * j
    pub link_is : column x 4 q ≡ code label

  new_third : (q : ℕ) → q < n → (l : Link) → find (λ k. k.dart) q new ≡ some l → NewThird q l
  new_third q k l e =
      let c = each_found (λ k. k.dart) (Critical (column m 4) j (get_or m 0 0)) q new l new_critical e in
      let w = named m new q l (rw named_are (left_distinct site pass p h mk apart)) e (omega (arith, site.linked.size)) in
      record { label = c.0; third_is = c.1; kind_is = w.0 ∙ ap kind_word c.1; link_is = w.1 ∙ ap (link_word []) c.1 }

  -- a dart sewn to a marked one has a new link
  sewn_named : (q : ℕ) → q < n → column m 3 q ≡ 1 → get_or marks (column m 4 q) 0 ≡ 1 → In q (map (λ k. k.dart) new)
  sewn_named q k e o =
      let w = sewn site pass p h mk q k e in
      rw named_are (in_eq q (column m 4 (column m 4 q)) (map (column m 4) (concat (let_go m marks))) (sym w.back)
      (in_map (column m 4) (column m 4 q) (concat (let_go m marks)) (in_cut site pass p h mk apart (column m 4 q) (record { below = w.sewn_lt; inside = o; kind = kind_one (pass.range.kinds (column m 4 q) w.sewn_lt) w.kind }))))

  -- THE MEMORY WITH THEM: links lead to darts that it holds, and nothing stands behind the last
  pub sewn_after : (q : ℕ) → q < n → is_sewn_word (column x 3 q) ≡ true → column x 4 q < n
  sewn_after q k is_sewn = go (find (λ k. k.dart) q new) refl
    where
      go : (f : Option Link) → find (λ k. k.dart) q new ≡ f → column x 4 q < n
      go none e =
          let out = find_unnamed q new e in
          let one = kind_one (pass.range.kinds q k) (ap is_sewn_word (sym (unnamed_stays m new q 3 (omega arith) out)) ∙ is_sewn) in
          omega (arith, unnamed_stays m new q 4 (omega arith) out, (sewn site pass p h mk q k one).sewn_lt)
      go (some l) e =
          let three = (new_third q k l e).kind_is in
          absurd (omega (arith, sewn_one (column x 3 q) is_sewn))

  each_below : (ks : List Link) → ((q : ℕ) → In q (map (λ k. k.dart) ks) → q < n) → Each (λ k. k.dart < n) ks
  each_below [] a = tt
  each_below (k ∷ ks) a = (a k.dart (in_here k.dart (map (λ k. k.dart) ks)), each_below ks (λ q i. a q (in_there q k.dart (map (λ k. k.dart) ks) i)))

  word_after : (i : ℕ) → 8 + n * 8 ≤ i → get_or x i 0 ≡ 0
  word_after i a = others_stay m new i (go new (each_below new named_below)) ∙ pass.range.rest i a
    where
      go : (ks : List Link) → Each (λ k. k.dart < n) ks → Each (λ k. (i ≡ 8 + k.dart * 8 + 3 → ⊥) × (i ≡ 8 + k.dart * 8 + 4 → ⊥)) ks
      go [] e = tt
      go (k ∷ ks) e = let low = e.0 in ((λ q. omega arith, λ q. omega arith), go ks e.1)

  pub rest_after : drop (8 + n * 8) x ≡ replicate (length x - words_for n) 0
  rest_after =
      let size : length (drop (8 + n * 8) x) ≡ length x - words_for n = omega (arith, length-drop (8 + n * 8) x) in
      ext_get_or 0 (drop (8 + n * 8) x) (replicate (length x - words_for n) 0) (size ∙ sym (length-replicate {A = ℕ} (length x - words_for n) 0))
      (λ i u. get_or-drop (8 + n * 8) x i 0 ∙ word_after (8 + n * 8 + i) (omega arith) ∙ sym (getD_zeros (length x - words_for n) i))

  -- THE DARTS THAT STAY
  abbrev after : List Dart
  after = map (relink links) (keep (λ d. not (mem d.serial (volume_in ds (s p)))) ds)

  kept_are : keep (λ d. not (mem d.serial (volume_in ds (s p)))) ds ≡ map (dart_in m) (unmarked n marks)
  unfolding unmarked
  kept_are = ap (keep (λ d. not (mem d.serial (volume_in ds (s p))))) (sym (map_tab (dart_in m) (λ q. q) n))
      ∙ keep_map (λ d. not (mem d.serial (volume_in ds (s p)))) (dart_in m) (places n)
      ∙ ap (map (dart_in m)) (keep_cong (λ q. not (mem (s q) (volume_in ds (s p)))) (λ q. not (eqb (get_or marks q 0) 1)) (places n) (λ q k. ap not (mark_is site p h mk q (places_below n q k))))

  after_are : after ≡ map (λ q. relink links (dart_in m q)) (unmarked n marks)
  after_are = ap (map (relink links)) kept_are ∙ map_map (dart_in m) (relink links) (unmarked n marks)

  serials_are : serials after ≡ map s (unmarked n marks)
  unfolding relink
  serials_are = ap serials after_are ∙ map_map (λ q. relink links (dart_in m q)) (λ d. d.serial) (unmarked n marks)

  count_after : length after ≡ rank marks n
  unfolding rank
  count_after = ap length after_are ∙ length-map (unmarked n marks) (λ q. relink links (dart_in m q))

  index : (q : ℕ) → q < n → (get_or marks q 0 ≡ 1 → ⊥) → index_of (s q) (serials after) ≡ rank marks q
  index q k o = ap (index_of (s q)) serials_are ∙ index_rank s marks n q site.ascends k o

  -- THEIR THIRD LINKS
  abbrev third_after : ℕ → Third
  third_after q = third_or (third_in s (column m 3 q) (column m 4 q)) (find (λ k. k.dart) (s q) links)

  pub record ThirdWords (q : ℕ) : Type 0 where
    pub kind : kind_word (third_after q) ≡ column x 3 q
    pub link : link_word (serials after) (third_after q) ≡ moved_link (rank marks) (column x 3 q) (column x 4 q)

  third_words : (q : ℕ) → q < n → (get_or marks q 0 ≡ 1 → ⊥) → ThirdWords q
  third_words q k o = go (find (λ k. k.dart) q new) refl
    where
      old_link : find (λ k. k.dart) q new ≡ none → ThirdWords q
      old_link e =
          let t : third_after q ≡ third_in s (column m 3 q) (column m 4 q) = ap (third_or (third_in s (column m 3 q) (column m 4 q))) (found q k ∙ ap (Option.map (renamed s)) e) in
          let out = find_unnamed q new e in
          let three : column m 3 q ≡ column x 3 q = sym (unnamed_stays m new q 3 (omega arith) out) in
          let four : column m 4 q ≡ column x 4 q = sym (unnamed_stays m new q 4 (omega arith) out) in
          let kind_is = pass.range.kinds q k in
          record {
            kind = ap kind_word t ∙ kind_back s (column m 3 q) (column m 4 q) kind_is ∙ three;
            link = ap (link_word (serials after)) t
                ∙ link_moved s (rank marks) (serials after) (column m 3 q) (column m 4 q) kind_is
                (λ one. index (column m 4 q) (sewn site pass p h mk q k one).sewn_lt
                (λ i. true≢false (sym (sewn_named q k one i) ∙ out)))
                ∙ (λ i. moved_link (rank marks) (three i) (four i));
          }

      new_link : (l : Link) → find (λ k. k.dart) q new ≡ some l → ThirdWords q
      new_link l e =
          let t : third_after q ≡ l.third = ap (third_or (third_in s (column m 3 q) (column m 4 q))) (found q k ∙ ap (Option.map (renamed s)) e) in
          let w = new_third q k l e in
          let three = w.kind_is in
          record {
            kind = ap kind_word (t ∙ w.third_is) ∙ sym w.kind_is;
            link = ap (link_word (serials after)) (t ∙ w.third_is) ∙ sym w.link_is ∙ link_other (rank marks) (column x 3 q) (column x 4 q) (critical_unsewn (column x 3 q) (with_critical (column x 3 q) j three));
          }

      go : (f : Option Link) → find (λ k. k.dart) q new ≡ f → ThirdWords q
      go none e = old_link e
      go (some l) e = new_link l e

  -- THEIR WORDS
  words_are : (q : ℕ) → In q (unmarked n marks) → dart_words (serials after) (relink links (dart_in m q)) ≡ moved_words (rank marks) x q
  unfolding dart_words relink moved_words
  words_are q k =
      let r = unmarked_in n marks q k in
      let w = third_words q r.0 r.1 in
      let col : (f : ℕ) → f < 8 → (f ≡ 3 → ⊥) → (f ≡ 4 → ⊥) → column m f q ≡ column x f q = λ f a b c. sym (column_stays m new q f a b c) in
      let next =
      index (column m 1 q) (site.linked.next_within q r.0) (next_stays site pass p h mk q r.0 r.1)
      ∙ ap (rank marks) (col 1 (omega arith) (λ e. omega arith) (λ e. omega arith))
      in
      let opposite =
      index (column m 2 q) (site.linked.opposite_within q r.0) (opposite_stays site pass p h mk q r.0 r.1)
      ∙ ap (rank marks) (col 2 (omega arith) (λ e. omega arith) (λ e. omega arith))
      in
      λ i. col 0 (omega arith) (λ e. omega arith) (λ e. omega arith) i ∷ next i ∷ opposite i ∷ w.kind i ∷ w.link i
      ∷ col 5 (omega arith) (λ e. omega arith) (λ e. omega arith) i ∷ col 6 (omega arith) (λ e. omega arith) (λ e. omega arith) i ∷ col 7 (omega arith) (λ e. omega arith) (λ e. omega arith) i ∷ []

  rows : concat (map (dart_words (serials after)) after) ≡ records (moved_words (rank marks) x) marks n
  unfolding records
  rows = ap (λ (l : List Dart). concat (map (dart_words (serials after)) l)) after_are
      ∙ ap concat (map_map (λ q. relink links (dart_in m q)) (dart_words (serials after)) (unmarked n marks)
      ∙ map_cong (λ q. dart_words (serials after) (relink links (dart_in m q))) (moved_words (rank marks) x) (unmarked n marks) words_are)

  -- THE WHOLE MEMORY
  counter_is : length (sewn_faces ds (s p)) ≡ length (let_go m marks)
  counter_is = ap length (sym (sewn_faces_serials site p h mk)) ∙ length-map (let_go m marks) (map s)

  pub image_left : image (length m) (released (block_in m) j (s p)) ≡ released_at m marks j
  unfolding image released released_at without
  image_left =
      let number : get_or m 0 0 ≡ get_or x 0 0 = sym (header_stays m new 0 (omega arith)) in
      let count : n ≡ get_or x 2 0 = sym (header_stays m new 2 (omega arith)) in
      let size : length m ≡ length x = sym (length_links m new) in
      λ i. parts (size i) (number i) (get_or m 1 0 + counter_is i) ((count_after ∙ ap (rank marks) count) i) ((rows ∙ ap (records (moved_words (rank marks) x) marks) count) i)

-- WHAT A SURVEY GIVES
module _ (m : List ℕ) (ok : holds_block m ≡ true) (j d : ℕ) {most : ℕ} {c : Counts} {marks out starts numbers firsts : List ℕ} (w : Departs most m j d c marks out starts numbers firsts) where
  -- 12 was answered yes
  pub none_within : any (sewn_in m marks) (marked (count_in m) marks) ≡ false
  unfolding departure_checks answered
  none_within =
      let e = (served_value (departure_checks most (block_in m) j d) [] tt [] tt (sym w.asked)).0 in
      let q9 = yes_first 9 _ _ (λ z. omega arith) e in
      let q10 = yes_first 10 _ _ (λ z. omega arith) q9.1 in
      let q11 = yes_first 11 _ _ (λ z. omega arith) q10.1 in
      let q12 = yes_first 12 _ _ (λ z. omega arith) q11.1 in
      not-true (any (sewn_in m marks) (marked (count_in m) marks))
      (sym (question_12 (sited m ok) w.survey.place w.survey.place_below w.survey.volume_marked)
      ∙ rw w.serial_is q12.0)

  -- THE LAW OF RELEASE
  pub released_image : image (length m) (released (block_in m) j d) ≡ released_at m marks j
  released_image = ap (λ (y : ℕ). image (length m) (released (block_in m) j y)) (sym w.serial_is)
      ∙ image_left (sited m ok) (image_passed m ok) w.survey.place w.survey.place_below w.survey.volume_marked none_within j
