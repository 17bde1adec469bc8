-- Darts of a file read at a place: three serials, a third link and a point, one after the other. Assumes nothing.
--   dart_got, dart_lacks    what an answer tells, and what no answer does
use Rattle.std.proofs.lemmas.Option.{some_pair_parts}
use Rattle.std.specs.Prelude.{None, Some}
use mathlib.Core.Path.{◌≡◌, refl}
use mathlib.Core.List.{List}
use mathlib.Core.Option.{Option, none, some}
use Prim.Native.Nat.{ℕ, ◌-◌}
use native.Mathlib.Omega.{arith}
use lib.ListN.{length, drop}
use Rattle.model.specs.Values.{Point, Third, Dart}
use Rattle.model.specs.Layouts.{Layout, serial, at_most, ◌⊗◌, ◌⊕◌, as_type}
use Rattle.model.specs.Messages.{third, point, a_dart}
use Rattle.groups.proofs.Ends.{Ends, from_onward, place_back, as_type_ends, ⊕-ends, serial_ends}
use Rattle.codec.specs.Darts.{dart_values, placed_dart, dart_read}
use Rattle.codec.specs.Taken.{Took}
use Rattle.codec.specs.declared.dart.FileDart.{FileDart}
use Rattle.codec.proofs.Taking.{took_reads, Lacks, both_took, pair_lacks, pair_then_lacks}
use Rattle.codec.proofs.ThirdReads.{kind_third_ends, ThirdGot}
use Rattle.codec.proofs.PointReads.{point_ends, PointGot}

abbrev four : Layout (ℕ × (ℕ × (ℕ × ((ℕ × Third) × Point))))
four = serial ⊕ serial ⊕ serial ⊕ (at_most 2 ⊗ third) ⊕ point

pub dart_ends : Ends a_dart
unfolding a_dart
dart_ends = as_type_ends _ _ four (⊕-ends serial _ serial_ends (⊕-ends serial _ serial_ends (⊕-ends serial _ serial_ends (⊕-ends (at_most 2 ⊗ third) point kind_third_ends point_ends))))

pub record DartGot (s : List ℕ) (at : ℕ) (r : FileDart) (next : ℕ) : Type 0 where
  pub dart : Dart
  pub reads : Took a_dart s at dart next
  pub values_are : r ≡ dart_values dart

pub dart_got : {s : List ℕ} {at : ℕ} {w : FileDart} {next : ℕ} → Some (w, next) ≡ dart_read s at → DartGot s at w next
unfolding dart_read
dart_got {s} {at} {w} {next} h = go (a_dart.get (drop at s)) refl h
  where
    go : (r : Option (Dart × List ℕ)) → a_dart.get (drop at s) ≡ r → Some (w, next) ≡ placed_dart (length s) r → DartGot s at w next
    go none e q = let z : ◌≡◌ {A = ℕ} 0 1 = cc in absurd (omega arith)
    go (some r) e q =
        let same = some_pair_parts w _ next _ q in
        let ew : w ≡ dart_values r.0 = same.0 in
        record { dart = r.0; reads = rw same.1 (took_reads (from_onward a_dart s r.1 at r.0 e (dart_ends (drop at s) r.0 r.1 e))); values_are = ew }

pub dart_lacks : {s : List ℕ} {at : ℕ} → None ≡ dart_read s at → Lacks a_dart s at
unfolding dart_read
dart_lacks {s} {at} h = record { value = go (a_dart.get (drop at s)) h }
  where
    go : (r : Option (Dart × List ℕ)) → None ≡ placed_dart (length s) r → r ≡ none
    go none q = refl
    go (some r) q = let z : ◌≡◌ {A = ℕ} 0 1 = cc in absurd (omega arith)

no_dart_there : {s : List ℕ} {at : ℕ} → Lacks four s at → None ≡ dart_read s at
unfolding dart_read a_dart as_type
no_dart_there e = rw e.value

pub no_serial : {s : List ℕ} {at : ℕ} → Lacks serial s at → None ≡ dart_read s at
no_serial e = no_dart_there (pair_lacks serial _ e)

module _ {s : List ℕ} {at a past-a : ℕ} (p : Took serial s at a past-a) where
  pub no_next : Lacks serial s past-a → None ≡ dart_read s at
  no_next e = no_dart_there (pair_then_lacks serial _ p (pair_lacks serial _ e))

  module _ {b past-b : ℕ} (q : Took serial s past-a b past-b) where
    pub no_opposite : Lacks serial s past-b → None ≡ dart_read s at
    no_opposite e = no_dart_there (pair_then_lacks serial _ p (pair_then_lacks serial _ q (pair_lacks serial _ e)))

    module _ {c past-c : ℕ} (r : Took serial s past-b c past-c) where
      pub no_link : Lacks (at_most 2 ⊗ third) s past-c → None ≡ dart_read s at
      no_link e = no_dart_there (pair_then_lacks serial _ p (pair_then_lacks serial _ q (pair_then_lacks serial _ r (pair_lacks (at_most 2 ⊗ third) point e))))

      module _ {k l past-l : ℕ} (t : ThirdGot s past-c k l past-l) where
        pub no_point : Lacks point s past-l → None ≡ dart_read s at
        no_point e = no_dart_there (pair_then_lacks serial _ p (pair_then_lacks serial _ q (pair_then_lacks serial _ r (pair_then_lacks (at_most 2 ⊗ third) point t.reads e))))

        pub five_read : {x y z next : ℕ} → PointGot s past-l x y z next
            → Some ((record { serial = a; next = b; opposite = c; kind = k; link = l; x = x; y = y; z = z }), next) ≡ dart_read s at
        unfolding dart_read a_dart as_type
        five_read {x} {y} {z} {next} g =
            let w = both_took serial _ p (both_took serial _ q (both_took serial _ r (both_took (at_most 2 ⊗ third) point t.reads g.reads))) in
            rw (w.value, place_back s next w.within, t.kind_is, t.link_is)
