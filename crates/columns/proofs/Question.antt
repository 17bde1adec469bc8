-- Question 2 by columns: memory passes it where every test passes. Assumes nothing.
use mathlib.Core.Path.{◌≡◌, sym, ◌∙◌}
use mathlib.Core.Bool.{true}
use mathlib.Core.List.{List}
use Prim.Native.Nat.{ℕ, ◌≤◌, ◌<◌}
use native.Mathlib.Omega.{arith}
use lib.ListN.{length}
use Rattle.model.specs.Lists.{distinct}
use Rattle.model.specs.Values.{widest, room}
use Rattle.model.specs.Image.{words_for, column, dart_in, block_in, holds_block}
use Rattle.laws.proofs.Tests.{and_intro, and_left, and_right}
use Rattle.laws.proofs.Tables.{length_tab}
use Rattle.theory.proofs.ImageLaws.{parts_of, parts_sound, ranges_of, image_is, is_image_by}
use Rattle.columns.specs.Columns.{all_below, count, Ranged, Finite, OneToOne, own_test, link_test, third_test, point_test, codes}
use Rattle.columns.proofs.Below.{below_at, at_below}
use Rattle.columns.proofs.Images.{ranged, ranges_yes, image_back}
use Rattle.columns.proofs.Links.{places, links_yes, links_says, links_apart}
use Rattle.columns.proofs.ThirdLinks.{sewn_places, thirds_yes, thirds_says}
use Rattle.columns.proofs.Labels.{labels_are}
use Rattle.columns.proofs.Points.{finite_test, finite_is, points_are}

-- every test passes
pub record Passed (m : List ℕ) : Type 0 where
  pub range : Ranged m
  pub finite_points : Finite m (count m)
  pub links : (p : ℕ) → p < count m → link_test m (count m) p ≡ true
  pub apart : OneToOne (column m 1) (count m)
  pub thirds : (p : ℕ) → p < count m → third_test m (count m) p ≡ true
  pub labels : (p : ℕ) → p < count m → own_test m p ≡ true
  pub differ : distinct (codes m (count m)) ≡ true
  pub points : (p : ℕ) → p < count m → point_test m p ≡ true

pub passed_image : (m : List ℕ) → words_for (count m) ≤ length m → Passed m → holds_block m ≡ true
passed_image m long a =
    let n = count m in
    let w = a.range in
    let g = places m n a.links in
    let s = sewn_places m n a.thirds in
    let sound = parts_sound widest (block_in m) (record {
      ranges = ranges_yes m w;
      finite = sym (finite_is m) ∙ at_below (finite_test m) n a.finite_points;
      links = links_yes m w a.links a.apart;
      thirds = thirds_yes m w g a.thirds;
      labels = sym (labels_are m w) ∙ and_intro (at_below (own_test m) n a.labels) a.differ;
      points = sym (points_are m w g s) ∙ at_below (point_test m) n a.points;
    }) in
    is_image_by widest m long (image_back m w long g s) sound

pub image_passed : (m : List ℕ) → holds_block m ≡ true → Passed m
image_passed m e =
    let n = count m in
    let i = image_is widest m e in
    let q = parts_of widest (block_in m) i.1 in
    let few : n ≤ room = omega (arith, (ranges_of widest (block_in m) q.ranges).few_darts, length_tab (dart_in m) n) in
    let w = ranged m few i.0 q.ranges in
    let links = links_says m w q.links in
    let g = places m n links in
    let thirds = thirds_says m w g q.thirds in
    let finite_points = below_at (finite_test m) n (finite_is m ∙ q.finite) in
    let own = labels_are m w ∙ q.labels in
    record {
      range = w;
      finite_points = finite_points;
      links = links;
      apart = links_apart m w q.links;
      thirds = thirds;
      labels = below_at (own_test m) n (and_left (all_below (own_test m) n) _ own);
      differ = and_right (all_below (own_test m) n) _ own;
      points = below_at (point_test m) n (points_are m w g (sewn_places m n thirds) ∙ q.points);
    }
