-- The bytes of a P6 file, as Netpbm's ppm manual has them: maxval 255, no comment, single white-space bytes.
use Rattle.std.specs.Prelude.{◌≡◌, ◌≤◌, ℕ, ◌*◌, List, ◌++◌, length, codes, decimal}

-- a width or height that a file may have
abbrev pub IsSide : ℕ → Type 0
IsSide side = (1 ≤ side) × (side ≤ 65535)

-- rows from top to bottom, pixels from left to right, each of three bytes
abbrev pub IsRaster : ℕ → ℕ → List ℕ → Type 0
IsRaster w h raster = length raster ≡ 3 * w * h

-- what stands before the raster
abbrev pub header_of : ℕ → ℕ → List ℕ
header_of w h = codes "P6\n" ++ decimal w ++ codes " " ++ decimal h ++ codes "\n255\n"

-- the file of a picture
abbrev pub p6_of : ℕ → ℕ → List ℕ → List ℕ
p6_of w h raster = header_of w h ++ raster
