-- Darts that are read one after the other and stored from the first place on. Assumes nothing.
use Rattle.std.proofs.lemmas.Option.{some_pair_parts}
use Rattle.std.specs.Prelude.{None, Some}
use mathlib.Core.Path.{◌≡◌, refl, sym, ap, ◌∙◌}
use mathlib.Core.Bool.{true, false}
use mathlib.Core.List.{List, [], ◌∷◌, ◌++◌, append-nil}
use mathlib.Core.Option.{Option, none, some, none-ne-some}
use Prim.Native.Nat.{ℕ, suc, ◌+◌, ◌*◌, ◌-◌, ◌<◌, ◌≤◌}
use native.Mathlib.Omega.{arith}
use lib.Dec.{ltb}
use lib.ListN.{length, drop, length-append}
use lib.Seq.{append_snoc}
use borrow.Author.Tests.{lt-ltb, le-ltb}
use Rattle.laws.proofs.Tests.{by_cases}
use Rattle.laws.proofs.Members.{map_append}
use Rattle.model.specs.Values.{Dart}
use Rattle.model.specs.Cells.{serials}
use Rattle.model.specs.Layouts.{Read, then, when, such_that, get_all, times}
use Rattle.model.specs.Messages.{a_dart}
use Rattle.theory.proofs.LayoutLaws.{same_value, then_some, when_some}
use Rattle.memory.specs.Record.{record_words, put}
use Rattle.memory.specs.declared.record.Record.{Record}
use Rattle.groups.proofs.Ends.{from_onward, place_back}
use Rattle.codec.specs.declared.dart.FileDart.{FileDart}
use Rattle.codec.specs.Taken.{Took}
use Rattle.codec.proofs.Taking.{Lacks, took_reads}
use Rattle.codec.proofs.DartReads.{dart_ends, DartGot}
use Rattle.newblock.specs.Serials.{raw_words, stored_all}
use Rattle.newblock.proofs.Rows.{behind_none}
use Rattle.newblock.proofs.Stored.{stored_more}
use Rattle.readfile.specs.Parts.{dart_after, placed_serial, with_dart, DartStored, climbs, climbing, DartsStored}

-- ONE DART
-- the record that is stored of a file's dart: its values, word for word
abbrev as_record : FileDart → Record
as_record v = record { serial = v.serial; next = v.next; opposite = v.opposite; kind = v.kind; link = v.link; x = v.x; y = v.y; z = v.z }

module _ {s : List ℕ} {at : ℕ} (last : ℕ) (m : List ℕ) (p : ℕ) where
  pub no_dart_stored : Lacks a_dart s at → DartStored s at last m p m None
  no_dart_stored e = record { answer = unfold dart_after such_that in (rw e.value); memory = unfold dart_after such_that in (rw e.value) }

  module _ {v : FileDart} {next : ℕ} (g : DartGot s at v next) where
    serial_is : v.serial ≡ g.dart.serial
    serial_is = ap (λ (w : FileDart). w.serial) g.values_are

    pub not_above : v.serial ≤ last → DartStored s at last m p m None
    not_above h =
        let low = le-ltb last g.dart.serial (omega (arith, serial_is)) in
        record { answer = unfold dart_after such_that in (rw (g.reads.value, low)); memory = unfold dart_after such_that in (rw (g.reads.value, low)) }

    pub dart_stored : last < v.serial → {after : List ℕ} → after ≡ put m p (record_words (as_record v)) → DartStored s at last m p after (Some (v.serial, next))
    dart_stored h e =
        let high = lt-ltb last g.dart.serial (omega (arith, serial_is)) in
        record {
          answer = unfold dart_after such_that in (rw (g.reads.value, high, place_back s next g.reads.within) (ap (λ (x : ℕ). Some (x, next)) serial_is));
          memory = unfold dart_after such_that raw_words in (rw (g.reads.value, high) (e ∙ ap (λ (w : FileDart). put m p (record_words (as_record w))) g.values_are));
        }

-- what an answer tells
pub record StoredGot (s : List ℕ) (at last : ℕ) (m : List ℕ) (p : ℕ) (after : List ℕ) (serial next : ℕ) : Type 0 where
  pub dart : Dart
  pub reads : Took a_dart s at dart next
  pub serial_is : serial ≡ dart.serial
  pub above : ltb last dart.serial ≡ true
  pub memory_is : after ≡ put m p (raw_words dart)

pub stored_got : {s : List ℕ} {at last : ℕ} {m : List ℕ} {p : ℕ} {after : List ℕ} {serial next : ℕ}
    → DartStored s at last m p after (Some (serial, next)) → StoredGot s at last m p after serial next
unfolding dart_after such_that
stored_got {s} {at} {last} {m} {p} {after} {serial} {next} w = go ((dart_after last).get (drop at s)) refl w.answer w.memory
  where
    go : (r : Option (Dart × List ℕ)) → (dart_after last).get (drop at s) ≡ r → Some (serial, next) ≡ placed_serial (length s) r → after ≡ with_dart m p r → StoredGot s at last m p after serial next
    go none e q k = let z : ◌≡◌ {A = ℕ} 0 1 = cc in absurd (omega arith)
    go (some r) e q k =
        let both = some_pair_parts serial r.0.serial next (length s - length r.1) q in
        let es : serial ≡ r.0.serial = both.0 in
        let en : next ≡ length s - length r.1 = both.1 in
        let t = then_some (a_dart.get (drop at s)) _ _ e in
        let g = when_some (ltb last t.0.serial) _ _ t.3 in
        let got : a_dart.get (drop at s) ≡ some r = t.2 ∙ g.1 in
        let same : t.0 ≡ r.0 = same_value g.1 in
        record {
          dart = r.0;
          reads = rw en (took_reads (from_onward a_dart s r.1 at r.0 got (dart_ends (drop at s) r.0 r.1 got)));
          serial_is = es;
          above = ap (λ (d : Dart). ltb last d.serial) (sym same) ∙ g.0;
          memory_is = k;
        }

-- no dart, or one that is not above
pub stored_lacks : {s : List ℕ} {at last : ℕ} {m : List ℕ} {p : ℕ} {after : List ℕ} → DartStored s at last m p after None → Lacks (dart_after last) s at
stored_lacks {s} {at} {last} w = record { value = go ((dart_after last).get (drop at s)) w.answer }
  where
    go : (r : Option (Dart × List ℕ)) → None ≡ placed_serial (length s) r → r ≡ none
    go none q = refl
    go (some r) q = let z : ◌≡◌ {A = ℕ} 0 1 = cc in absurd (omega arith)

-- THE LOOP
-- what was read, and then what is read
abbrev onward : List Dart → Read (List Dart) → Read (List Dart)
onward done r = then r (λ ds rest. some (done ++ ds, rest))

pub record Filling (s : List ℕ) (from n : ℕ) (m x : List ℕ) (i last at : ℕ) : Type 0 where
  pub done : List Dart
  pub count : length done ≡ i
  pub i_le : i ≤ n
  pub within : at ≤ length s
  pub so_far : get_all a_dart n (drop from s) ≡ onward done (get_all a_dart (n - i) (drop at s))
  pub memory_is : x ≡ stored_all m done
  pub ordered : (ss : List ℕ) → climbs 0 (serials done ++ ss) ≡ climbs last ss

onward_none : (r : Read (List Dart)) → r ≡ onward [] r
onward_none none = refl
onward_none (some r) = refl

onward_more : (done : List Dart) (d : Dart) (r : Read (List Dart)) → onward done (then r (λ ds rest. some (d ∷ ds, rest))) ≡ onward (done ++ d ∷ []) r
onward_more done d none = refl
onward_more done d (some r) = ap (λ (l : List Dart). some (l, r.1)) (sym (append_snoc done d r.0))

-- one number more
climbs_on : (last x : ℕ) (done : List Dart) (d : Dart) (ss : List ℕ) → ((ts : List ℕ) → climbs 0 (serials done ++ ts) ≡ climbs last ts) → x ≡ d.serial → ltb last d.serial ≡ true
    → climbs 0 (serials (done ++ d ∷ []) ++ ss) ≡ climbs x ss
unfolding climbs
climbs_on last x done d ss o e above =
    ap (λ (l : List ℕ). climbs 0 (l ++ ss)) (map_append (λ (c : Dart). c.serial) done (d ∷ [])) ∙ ap (climbs 0) (append_snoc (serials done) d.serial ss)
    ∙ o (d.serial ∷ ss) ∙ rw (above, e) refl

-- a number that is not above
climbs_not : (last : ℕ) (done : List Dart) (d : Dart) (ds : List Dart) → ((ts : List ℕ) → climbs 0 (serials done ++ ts) ≡ climbs last ts) → ltb last d.serial ≡ false
    → climbs 0 (serials (done ++ d ∷ ds)) ≡ false
unfolding climbs
climbs_not last done d ds o low = ap (climbs 0) (map_append (λ (c : Dart). c.serial) done (d ∷ ds)) ∙ o (d.serial ∷ serials ds) ∙ rw low refl

climbs_all : (last : ℕ) (done : List Dart) → ((ts : List ℕ) → climbs 0 (serials done ++ ts) ≡ climbs last ts) → climbs 0 (serials done) ≡ true
unfolding climbs
climbs_all last done o = ap (climbs 0) (sym (append-nil (serials done))) ∙ o []

pub fill_start : (s : List ℕ) (from n : ℕ) (m : List ℕ) → from ≤ length s → Filling s from n m m 0 0 from
fill_start s from n m h =
    let z : n - 0 ≡ n = omega arith in
    record {
      done = [];
      count = refl;
      i_le = omega arith;
      within = h;
      so_far = rw z (onward_none (get_all a_dart n (drop from s)));
      memory_is = behind_none m;
      ordered = λ ss. refl;
    }

module _ {s : List ℕ} {from n : ℕ} {m x : List ℕ} {i last at : ℕ} (w : Filling s from n m x i last at) where
  one_fewer : i < n → (bs : List ℕ) → get_all a_dart (n - i) bs ≡ then (a_dart.get bs) (λ d rest. then (get_all a_dart (n - (i + 1)) rest) (λ ds rest'. some (d ∷ ds, rest')))
  unfolding get_all
  one_fewer more bs = let e : n - i ≡ suc (n - (i + 1)) = omega arith in rw e refl

  pub fill_more : i < n → 8 + n * 8 ≤ length m → {after : List ℕ} {serial next : ℕ} → DartStored s at last x i after (Some (serial, next)) → Filling s from n m after (i + 1) serial next
  fill_more more h {after} {serial} {next} k =
      let g = stored_got k in
      let step : get_all a_dart (n - i) (drop at s) ≡ then (get_all a_dart (n - (i + 1)) (drop next s)) (λ ds rest. some (g.dart ∷ ds, rest)) =
      one_fewer more (drop at s) ∙ rw g.reads.value refl in
      record {
        done = w.done ++ g.dart ∷ [];
        count = omega (arith, w.count, length-append w.done (g.dart ∷ []));
        i_le = omega arith;
        within = g.reads.within;
        so_far = w.so_far ∙ ap (onward w.done) step ∙ onward_more w.done g.dart (get_all a_dart (n - (i + 1)) (drop next s));
        memory_is = g.memory_is ∙ ap (λ (y : List ℕ). put y i (raw_words g.dart)) w.memory_is ∙ stored_more m w.done (omega (arith, w.count)) g.dart i w.count;
        ordered = λ ss. climbs_on last serial w.done g.dart ss w.ordered g.serial_is g.above;
      }

  -- the next dart is none, or is not above the last one
  nothing : i < n → Lacks (dart_after last) s at → (climbing n).get (drop from s) ≡ none
  unfolding climbing such_that times dart_after
  nothing more e = rw (w.so_far, one_fewer more (drop at s)) (first (a_dart.get (drop at s)) e.value)
    where
      kept : Read (List Dart) → Read (List Dart)
      kept r = then r (λ ds rest. when (climbs 0 (serials ds)) (some (ds, rest)))

      later : (d : Dart) (r : Read (List Dart)) → ltb last d.serial ≡ false → kept (onward w.done (then r (λ ds rest'. some (d ∷ ds, rest')))) ≡ none
      later d none low = refl
      later d (some r) low = rw (climbs_not last w.done d r.0 w.ordered low) refl

      low_then : (d : Dart) (rest : List ℕ) → when (ltb last d.serial) (some (d, rest)) ≡ none → ltb last d.serial ≡ false
      low_then d rest q = by_cases (ltb last d.serial) (λ t. absurd (none-ne-some _ (sym (rw t at q)))) (λ t. t)

      first : (r : Read Dart) → then r (λ d rest. when (ltb last d.serial) (some (d, rest))) ≡ none
          → kept (onward w.done (then r (λ d rest. then (get_all a_dart (n - (i + 1)) rest) (λ ds rest'. some (d ∷ ds, rest'))))) ≡ none
      first none q = refl
      first (some r) q = later r.0 (get_all a_dart (n - (i + 1)) r.1) (low_then r.0 r.1 q)

  pub fill_fails : i < n → {after : List ℕ} → DartStored s at last x i after None → DartsStored s from n m after None
  fill_fails more k =
      let e = nothing more (stored_lacks k) in
      record { answer = rw e refl; memory = λ ds rest q. absurd (none-ne-some _ (sym e ∙ q)) }

  -- all are read
  everything : n ≤ i → (climbing n).get (drop from s) ≡ some (w.done, drop at s)
  unfolding climbing such_that times get_all
  everything h =
      let z : n - i ≡ 0 = omega arith in
      let got : get_all a_dart n (drop from s) ≡ some (w.done, drop at s) = w.so_far ∙ rw z (ap (λ (l : List Dart). some (l, drop at s)) (append-nil w.done)) in
      rw (got, climbs_all last w.done w.ordered)

  pub fill_ends : n ≤ i → DartsStored s from n m x (Some at)
  fill_ends h =
      let e = everything h in
      record {
        answer = rw (e, place_back s at w.within);
        memory = λ ds rest q. w.memory_is ∙ ap (stored_all m) (same_value (sym e ∙ q));
      }
