-- The third links of faces, by the indices of their starts and the kind and link words of their darts. Assumes nothing.
use Rattle.std.specs.Prelude.{List, ℕ, ◌+◌, get_or}
use Rattle.model.specs.Lists.{tab}
use Rattle.model.specs.Image.{third_in}
use Rattle.model.specs.Links.{Link}

-- the link of the dart with index q, where s has the serials of the block by place
abbrev pub link_of : (ℕ → ℕ) → List ℕ → List ℕ → List ℕ → ℕ → Link
link_of s x kinds links q = record { dart = get_or x q 0; third = third_in s (get_or kinds q 0) (get_or links q 0) }

-- those of the face that starts at index i
abbrev pub face_links : (ℕ → ℕ) → List ℕ → List ℕ → List ℕ → List ℕ → ℕ → List Link
face_links s x z kinds links i = tab (λ j. link_of s x kinds links (i + j)) (get_or z i 0)
