-- Small blocks whose pieces and rows are computed: two pillows sewn together, two apart, and one with a critical face. Assumes nothing.
use Rattle.std.specs.Prelude.{◌≡◌, refl, List, [], ◌∷◌, ◌++◌, replicate}
use Rattle.model.specs.Values.{free, critical, Dart}
use Rattle.model.specs.Everything.{everything}
use Rattle.model.specs.Figures.{dart, pillow, sewn_pillows}
use Rattle.stats.specs.Pieces.{reached, piece, piece_in, piece_starts}
use Rattle.stats.specs.Rows.{figure, rows_of}

joined_pillows : piece_starts sewn_pillows ≡ 1 ∷ []
unfolding everything dart sewn_pillows reached piece piece_in piece_starts
joined_pillows = refl

pillows_apart : piece_starts (pillow 0 ++ pillow 6) ≡ 1 ∷ 7 ∷ []
unfolding everything dart pillow reached piece piece_in piece_starts
pillows_apart = refl

-- each has 6 darts and 2 faces, none critical
pillow_rows : rows_of sewn_pillows ≡ (1 ∷ 6 ∷ 2 ∷ replicate 16 0) ++ (7 ∷ 6 ∷ 2 ∷ replicate 16 0)
unfolding everything dart sewn_pillows figure rows_of
pillow_rows = refl

-- one whose second face is critical with block 3
bordering_pillow : List Dart
unfolding dart
bordering_pillow = dart 1 2 6 free ∷ dart 2 3 5 free ∷ dart 3 1 4 free
    ∷ dart 4 5 3 (critical 3 (record { maker = 0; number = 0; position = 0 }))
    ∷ dart 5 6 2 (critical 3 (record { maker = 0; number = 0; position = 1 }))
    ∷ dart 6 4 1 (critical 3 (record { maker = 0; number = 0; position = 2 })) ∷ []

bordering_row : rows_of bordering_pillow ≡ (1 ∷ 6 ∷ 2 ∷ 0 ∷ 0 ∷ 0 ∷ 1 ∷ replicate 12 0)
unfolding everything dart bordering_pillow figure rows_of
bordering_row = refl
