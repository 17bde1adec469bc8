-- What a volume leaves with, by places: the transfer and the updates, from the words of a block's memory. Assumes nothing.
-- fs: the volume's faces as places, in message order; numbers: the number of each place's vertex; firsts: a place of each vertex.
use Rattle.std.specs.Prelude.{Bool, cond, not, ◌&&◌, List, [], ◌∷◌, map, ℕ, ◌+◌, ◌*◌, ◌/◌, eqb, get_or, take}
use Rattle.std.proofs.Math.Option.{Option, none, some}
use Rattle.model.specs.Lists.{keep, collect, least, tab}
use Rattle.model.specs.Values.{Label, blocks}
use Rattle.model.specs.Cells.{start_of}
use Rattle.model.specs.Image.{column, dart_in, is_critical_word, label_in}
use Rattle.model.specs.Messages.{FaceDart, Part2, Part4, Transfer, Update}
use Rattle.model.specs.Departure.{part3_from}
use Rattle.model.specs.Links.{Placed, placed}
use Rattle.cells.specs.Places.{sewn_out}

-- the dart at place p is critical with block j; with another one
abbrev pub critical_with : List ℕ → ℕ → ℕ → Bool
critical_with m j p = eqb (column m 3 p) (2 + 4 * j)

abbrev pub critical_beside : List ℕ → ℕ → ℕ → Bool
critical_beside m j p = is_critical_word (column m 3 p) && not (critical_with m j p)

-- the label of a critical dart
abbrev pub label_at : List ℕ → ℕ → Label
label_at m p = label_in (column m 4 p)

abbrev pub dart_entry : List ℕ → List ℕ → ℕ → FaceDart
dart_entry m numbers p = record { vertex = get_or numbers p 0; serial = column m 0 p }

abbrev pub part2_at : List ℕ → Placed → Part2
part2_at m f = record { label = label_at m (start_of f.face); index = f.at }

abbrev pub part4_at : List ℕ → Placed → Part4
part4_at m f = record { index = f.at; other = column m 3 (start_of f.face) / 4; labels = map (label_at m) f.face }

-- THE TRANSFER to block j
unfoldable pub transfer_at : List ℕ → ℕ → List ℕ → List (List ℕ) → List ℕ → List ℕ → ℕ → Transfer
transfer_at m j marks fs numbers firsts count =
    let faces = placed 0 fs in
    record {
      from = get_or m 0 0;
      to = j;
      points = map (λ p. (dart_in m p).point) (take count firsts);
      faces = map (map (dart_entry m numbers)) fs;
      part2 = map (part2_at m) (keep (λ f. critical_with m j (start_of f.face)) faces);
      part3 = part3_from (get_or m 1 0) (map (λ f. f.at) (keep (λ f. sewn_out m marks (start_of f.face)) faces));
      part4 = map (part4_at m) (keep (λ f. critical_beside m j (start_of f.face)) faces);
    }

-- THE UPDATES
-- the least label of a critical face
abbrev pub least_at : List ℕ → List ℕ → Label
least_at m f = label_in (least (map (column m 4) f))

-- for block k, if it is a relative; fs are the faces that it shares
abbrev pub update_at : List ℕ → ℕ → ℕ → List (List ℕ) → Option Update
update_at m j k [] = none
update_at m j k (f ∷ fs) = cond (eqb k j) none (some (record { from = get_or m 0 0; to = k; block = j; labels = map (least_at m) (f ∷ fs) }))

-- by ascending k
unfoldable pub updates_at : List ℕ → ℕ → List (List ℕ) → List Update
updates_at m j fs = collect (λ k. update_at m j k (keep (λ f. critical_with m k (start_of f)) fs)) (tab (λ k. k) blocks)
