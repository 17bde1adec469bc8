-- Places for the serials of links. Assumes nothing.
use Rattle.std.specs.Prelude.{ℕ, cond, List, [], ◌∷◌, slice_index}
use Rattle.model.specs.Lists.{tab, index_of}
use Rattle.model.specs.Image.{column, is_sewn_word}
use Rattle.newblock.specs.Serials.{behind}

-- a link word: the place of the dart that a sewn one is sewn to
abbrev pub place_link : List ℕ → ℕ → ℕ → ℕ
place_link ss k l = cond (is_sewn_word k) (index_of l ss) l

-- the words of the dart at place p, among darts with these serials
unfoldable pub place_words : List ℕ → List ℕ → ℕ → List ℕ
place_words ss m p = column m 0 p ∷ index_of (column m 1 p) ss ∷ index_of (column m 2 p) ss ∷ column m 3 p ∷ place_link ss (column m 3 p) (column m 4 p)
    ∷ column m 5 p ∷ column m 6 p ∷ column m 7 p ∷ []

abbrev pub serials_in : List ℕ → List ℕ
serials_in m = tab (column m 0) (slice_index m 2)

-- the first i darts with places
abbrev pub places_below : List ℕ → ℕ → List ℕ
places_below m i = behind m (tab (place_words (serials_in m) m) i)

abbrev pub resolved : List ℕ → List ℕ
resolved m = places_below m (slice_index m 2)
