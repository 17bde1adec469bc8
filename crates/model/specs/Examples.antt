-- Small examples that are computed: what an empty block is, which blocks are viewers', the order of a coordinate's bytes, a listing, pages,
-- and demand 2 on one block.
-- Assumes nothing.
use Rattle.std.specs.Prelude.{◌≡◌, refl, List, [], ◌∷◌, ◌++◌, map, ℕ, ◌+◌, length, take, drop, replicate}
use Rattle.model.specs.Lists.{concat}
use Rattle.model.specs.Values.{free, sewn, critical, Block, rack, viewer, limits_in}
use Rattle.model.specs.Image.{words, image}
use Rattle.model.specs.Layouts.{coordinate}
use Rattle.model.specs.Messages.{file}
use Rattle.model.specs.Pages.{paged, row_line, blank_line, page_count, pages_text}
use Rattle.model.specs.Calls.{served, refused, number_of, empty, read_file, save_file, write_pages, read_pages}
use Rattle.model.specs.Text.{bytes}
use Rattle.model.specs.Listing.{listing, listed}
use Rattle.model.specs.Everything.{everything}
use Rattle.model.specs.Figures.{pillow, block}

-- "An empty block is made from its number alone, counter 0"
empty_five : empty rack 5 (replicate words 9) ≡ record { answer = served tt; lent = 5 ∷ replicate 32775 0 }
unfolding everything
empty_five = refl

empty_sixteen : empty rack 16 (replicate words 9) ≡ record { answer = refused 9; lent = replicate words 9 }
unfolding everything
empty_sixteen = refl

-- blocks 0 and 2 are viewers'; bit 16 is nobody's
two_viewers : map (limits_in 65541) (0 ∷ 1 ∷ 2 ∷ 15 ∷ 16 ∷ []) ≡ viewer ∷ rack ∷ viewer ∷ rack ∷ rack ∷ []
unfolding everything
two_viewers = refl

empty_viewer : empty viewer 5 (replicate 2056 9) ≡ record { answer = served tt; lent = 5 ∷ replicate 2055 0 }
unfolding everything
empty_viewer = refl

-- "8 bytes, least significant first": one and a half
one_and_a_half : coordinate.put 0x3ff8000000000000 ≡ 0 ∷ 0 ∷ 0 ∷ 0 ∷ 0 ∷ 0 ∷ 0xf8 ∷ 0x3f ∷ []
unfolding everything
one_and_a_half = refl

-- two darts at (1.5, −0, 2) and (0, 0, 1), a face of two edges
two : Block
two = record {
  number = 3;
  counter = 7;
  darts = record { serial = 1; next = 2; opposite = 2; third = free; point = record { x = 0x3ff8000000000000; y = 0x8000000000000000; z = 0x4000000000000000 } }
      ∷ record { serial = 2; next = 1; opposite = 1; third = free; point = record { x = 0; y = 0; z = 0x3ff0000000000000 } } ∷ [];
}

-- demand 2 on that block: what is written reads back, and is written again
written_back : read_file rack (take 59 (save_file rack (image words two) (replicate 60 1)).lent) (replicate words 9) ≡ record { answer = served tt; lent = image words two }
unfolding two everything
written_back = refl

saved_again : save_file rack (image words two) (replicate 60 1) ≡ record { answer = served 59; lent = (file rack).put two ++ 1 ∷ [] }
unfolding two everything
saved_again = refl

-- the paper's listing of P
listing_of_p : listing (block 0 (pillow 0))
    ≡ bytes "block 0 darts 6 counter 0\n1 2 6 free\n2 3 5 free\n3 1 4 free\n4 5 3 free\n5 6 2 free\n6 4 1 free\n"
unfolding pillow block everything
listing_of_p = refl

not_a_file : listed rack (0x80 ∷ 0x00 ∷ []) ≡ bytes "refused 3\n"
unfolding everything
not_a_file = refl

-- PAGES
-- a page of P: a first line, a line for each dart, 53 lines of blanks
page_of_p : pages_text (paged (block 0 (pillow 0))) ≡
    bytes "         0         1         1                                                  \n"
    ++ bytes "         1         2         6  free                                            \n"
    ++ bytes "         2         3         5  free                                            \n"
    ++ bytes "         3         1         4  free                                            \n"
    ++ bytes "         4         5         3  free                                            \n"
    ++ bytes "         5         6         2  free                                            \n"
    ++ bytes "         6         4         1  free                                            \n"
    ++ concat (replicate 53 blank_line)
unfolding pillow block everything
page_of_p = refl

-- the widest lines
wide_rows : map row_line (record { serial = 4294967295; next = 0; opposite = 10; third = sewn 4294967295 }
    ∷ record { serial = 1; next = 4294967295; opposite = 4294967295; third = critical 15 (record { maker = 15; number = 4294967295; position = 4095 }) } ∷ [])
    ≡ bytes "4294967295         0        10  sewn 4294967295                                 \n"
    ∷ bytes "         142949672954294967295  crit 15 15.4294967295.4095                      \n" ∷ []
unfolding everything
wide_rows = refl

-- "an empty block gives one page"; 59 darts fill one, 4,096 make 70
page_counts : map page_count (0 ∷ 1 ∷ 59 ∷ 60 ∷ 118 ∷ 119 ∷ 4096 ∷ []) ≡ 1 ∷ 1 ∷ 1 ∷ 2 ∷ 2 ∷ 3 ∷ 70 ∷ []
unfolding everything
page_counts = refl

-- P written, and read back: it has no points to lose
p_on_pages : List ℕ
unfolding pillow block everything
p_on_pages = pages_text (paged (block 0 (pillow 0)))

p_written : write_pages rack (image words (block 0 (pillow 0))) (replicate 4861 1) ≡ record { answer = served 4860; lent = p_on_pages ++ 1 ∷ [] }
unfolding p_on_pages pillow block everything
p_written = refl

p_short : write_pages rack (image words (block 0 (pillow 0))) (replicate 4859 1) ≡ record { answer = refused 30; lent = replicate 4859 1 }
unfolding pillow block everything
p_short = refl

p_read : read_pages rack p_on_pages (replicate words 9) ≡ record { answer = served tt; lent = image words (block 0 (pillow 0)) }
unfolding p_on_pages pillow block everything
p_read = refl

-- pages with these bytes at a place
damaged : ℕ → List ℕ → List ℕ
unfolding p_on_pages
damaged at text = take at p_on_pages ++ text ++ drop (at + length text) p_on_pages

numbers_of : List (List ℕ) → List ℕ
unfolding everything
numbers_of pagess = map (λ bs. number_of (read_pages viewer bs (replicate 2056 9)).answer) pagess

-- a face of two darts in block 0, critical with a block, under labels with this maker and number
two_critical : ℕ → ℕ → ℕ → List ℕ
unfolding everything
two_critical o maker number = pages_text (record {
  number = 0;
  rows = record { serial = 1; next = 2; opposite = 2; third = critical o (record { maker = maker; number = number; position = 0 }) }
      ∷ record { serial = 2; next = 1; opposite = 1; third = critical o (record { maker = maker; number = number; position = 1 }) } ∷ [];
})

-- a zero in front, a number of 33 bits, a byte too few or too many, a blank line before a dart, another page number, a serial again: 3;
-- the last dart's line blanked, a next that nobody has: 5; sewn to nobody: 6; an own label numbered 2^32 - 1, the block itself: 7
p_damaged : numbers_of
    (damaged 89 (bytes "01") ∷ damaged 91 (bytes "4294967296") ∷ take 4859 p_on_pages ∷ (p_on_pages ++ 32 ∷ []) ∷ damaged 81 blank_line
    ∷ damaged 19 (bytes "2") ∷ damaged 171 (bytes "1") ∷ damaged 486 blank_line ∷ damaged 100 (bytes "0") ∷ damaged 113 (bytes "sewn 7")
    ∷ damaged 113 (bytes "sewn 2") ∷ damaged 113 (bytes "crit 1 0.4294967295.0") ∷ two_critical 1 0 4294967295 ∷ two_critical 0 1 0
    ∷ two_critical 1 0 4294967294 ∷ [])
    ≡ 3 ∷ 3 ∷ 3 ∷ 3 ∷ 3 ∷ 3 ∷ 3 ∷ 5 ∷ 5 ∷ 6 ∷ 6 ∷ 6 ∷ 7 ∷ 7 ∷ 0 ∷ []
unfolding damaged numbers_of two_critical p_on_pages pillow block everything
p_damaged = refl
