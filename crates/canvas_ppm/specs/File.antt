-- The files that are read as an image, by their layout: raw ppm of Netpbm's manual with maxval 255, without comments.
use Rattle.std.specs.Prelude.{◌≡◌, ◌≤◌, ℕ, List, ◌∷◌, ◌++◌, length, codes, IsTrue}
use Rattle.std.specs.Char.{is_ascii_digit}
use Rattle.std.specs.List.{list_all}
use Rattle.std.specs.Str.Parse.{digits_value}
use Rattle.canvas_ppm.specs.P6.{IsSide, IsRaster}
use Rattle.canvas_ppm.specs.Header.{is_white}
use Rattle.canvas_ppm.specs.Image.{Pixels}

-- one byte or more, each blank, TAB, LF or CR
abbrev pub IsWhiteSpace : List ℕ → Type 0
IsWhiteSpace bytes = (1 ≤ length bytes) × IsTrue (list_all is_white bytes)

-- one to nine decimal digits, leading zeros allowed
abbrev pub IsNumber : List ℕ → Type 0
IsNumber bytes = (1 ≤ length bytes) × (length bytes ≤ 9) × IsTrue (list_all is_ascii_digit bytes)

-- white space, and then the number n
pub record IsField (bytes : List ℕ) (n : ℕ) : Type 0 where
  pub white : List ℕ
  pub digits : List ℕ
  pub layout : bytes ≡ white ++ digits
  pub white_space : IsWhiteSpace white
  pub number : IsNumber digits
  pub value : digits_value 10 digits ≡ n

-- `P6`, the width, the height, the maxval 255, one byte of white space and the raster, and nothing after it
pub record IsFile (bytes : List ℕ) (image : Pixels) : Type 0 where
  pub width : List ℕ
  pub height : List ℕ
  pub maxval : List ℕ
  pub separator : ℕ
  pub layout : bytes ≡ codes "P6" ++ (width ++ (height ++ (maxval ++ (separator ∷ image.raster))))
  pub width_field : IsField width image.w
  pub height_field : IsField height image.h
  pub maxval_field : IsField maxval 255
  pub separator_white : IsTrue (is_white separator)
  pub width_side : IsSide image.w
  pub height_side : IsSide image.h
  pub full : IsRaster image.w image.h image.raster
