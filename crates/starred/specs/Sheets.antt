-- 01, "The code sheet", and 02, No. 1: their sheets and what is printed for them, over the definition that the contract of the run cites.
use Rattle.std.specs.Prelude.{◌≡◌, List, [], ◌∷◌, ◌++◌, ℕ, zero, suc, ◌/◌, ◌%◌}
use Rattle.coding.specs.Lists.{zeros}
use Rattle.sheet.specs.Words.{word_at}
use Rattle.lines.specs.Text.{written}
use Rattle.sheet_run.specs.Output.{output_of}

-- m bytes by their hexadecimal digits, the first leftmost: 01's 01 00 01 06 is `bytes 4 0x01000106`
abbrev pub bytes : ℕ → ℕ → List ℕ
bytes zero x = []
bytes (suc m) x = bytes m (x / 256) ++ x % 256 ∷ []

-- 01's sheet: the fields of n, k and the rows, of the radius r where there is one, and of the words
abbrev pub matrix : List ℕ
matrix = bytes 23 0x01000106_02000103_03000C31_0000002A_0000001C_000000

abbrev pub radius : ℕ → List ℕ
radius r = bytes 3 0x040001 ++ r ∷ []

abbrev pub words : List ℕ
words = bytes 11 0x05000823_0000001F_000000

-- (2,1) with the row 11, and 512 words 00
abbrev pub full : List ℕ
full = bytes 18 0x01000102_02000101_03000403_00000005_0800 ++ zeros 2048

-- m lines of one text
abbrev pub lines : ℕ → List ℕ → List ℕ
lines zero line = []
lines (suc m) line = line ++ lines m line

pub record Sheets : Type 0 where
  -- 01's sheet, in nearest reading
  pub nearest : output_of (matrix ++ words) ≡ written "6 3 3 1\n010101 2\n110110 1\nclean 0 mended 2 far 0 places 3\n"
  -- with 04 00 01 01 before tag 5 the second line is "110001 far"
  pub within : output_of (matrix ++ radius 1 ++ words) ≡ written "6 3 3 1\n110001 far\n110110 1\nclean 0 mended 1 far 1 places 1\n"
  -- radius 2 is too large
  pub refused : output_of (matrix ++ radius 2 ++ words) ≡ written "refused 5 0\n"
  -- without words
  pub no_words : output_of (matrix ++ bytes 3 0x050000) ≡ written "6 3 3 1\nclean 0 mended 0 far 0 places 0\n"
  -- an empty sheet
  pub empty : output_of [] ≡ written "refused 13 0\n"
  -- n, k, dmin and t all different and dmin even: (6,2) with rows 111100, 001111, and the words 111100 and 100000
  pub even : output_of (bytes 30 0x01000106_02000102_0300080F_0000003C_00000005_00080F00_00000100_0000)
      ≡ written "6 2 4 1\n111100 0\n000000 1\nclean 1 mended 1 far 0 places 1\n"
  -- a word whose four bytes differ, low byte first
  pub four_bytes : word_at (bytes 4 0x01020408) 0 ≡ 0x08040201
  -- n = 1; a row too few; a second row with a one at place 6; 01's dependent rows 1100, 1010, 0110, of which row 2 is a sum
  pub out_of_range : output_of (bytes 18 0x01000101_02000101_03000401_00000005_0000) ≡ written "refused 1 0\n"
  pub row_count : output_of (bytes 18 0x01000106_02000102_03000401_00000005_0000) ≡ written "refused 2 0\n"
  pub row_outside : output_of (bytes 22 0x01000106_02000102_03000801_00000040_00000005_0000) ≡ written "refused 3 1\n"
  pub dependent : output_of (bytes 26 0x01000104_02000103_03000C03_00000005_00000006_00000005_0000) ≡ written "refused 4 2\n"
  -- 512 words
  pub most_words : output_of full ≡ written "2 1 2 0\n" ++ lines 512 (written "00 0\n") ++ written "clean 512 mended 0 far 0 places 0\n"
  -- 513 words; a second word with a one at place 6
  pub many_words : output_of (matrix ++ bytes 3 0x050804 ++ zeros 2052) ≡ written "refused 6 0\n"
  pub word_outside : output_of (matrix ++ bytes 11 0x05000823_00000040_000000) ≡ written "refused 7 1\n"
  -- after the 23 bytes of n, k and the rows: two bytes of a field, a content cut after 4 of 8 bytes, words of 3 bytes, a radius of 2 bytes
  pub cut : output_of (matrix ++ bytes 2 0x0500) ≡ written "refused 12 23\n"
  pub past_end : output_of (matrix ++ bytes 7 0x05000823_000000) ≡ written "refused 12 23\n"
  pub wrong_length : (output_of (matrix ++ bytes 6 0x05000323_0000) ≡ written "refused 12 23\n")
      × (output_of (matrix ++ bytes 5 0x04000201_01 ++ words) ≡ written "refused 12 23\n")
  -- an unknown tag, also with a content that is cut; tags that do not rise; no words, which is 13 at the sheet's length
  pub unknown_tag : (output_of (matrix ++ bytes 3 0x080000 ++ words) ≡ written "refused 13 23\n")
      × (output_of (matrix ++ bytes 3 0x08FFFF) ≡ written "refused 13 23\n")
  pub not_rising : (output_of (matrix ++ matrix) ≡ written "refused 13 23\n") × (output_of (matrix ++ words ++ radius 1) ≡ written "refused 13 34\n")
  pub missing : output_of (matrix ++ radius 1) ≡ written "refused 13 27\n"
  -- a sheet of 4,097 bytes is too long, one of 4,096 is not: its first tag, 0, is unknown
  pub too_long : output_of (zeros 4097) ≡ written "refused 12 4096\n"
  pub longest : output_of (zeros 4096) ≡ written "refused 13 0\n"
