-- What a reader makes of bytes: the one picture of a P6 file, or the first fault in the order NotP6, BadHeader,
-- Truncated, TooLong.
use Rattle.std.specs.Prelude.{ℕ, ◌*◌, nat_lt, List, length, Option, Some, None, Result, Ok, Err, if◌then◌else◌}
use Rattle.canvas_ppm.specs.Header.{after_magic, header_at}
use Rattle.canvas_ppm.specs.declared.fault.PpmFault.{PpmFault}
use Rattle.canvas_ppm.specs.declared.fault.PpmFault.TheVariants.{NotP6, BadHeader, Truncated, TooLong}
use Rattle.canvas_ppm.specs.declared.reader.Image.{Image}

-- a picture: its sides, and three bytes for each pixel
pub record Pixels : Type 0 where
  pub w : ℕ
  pub h : ℕ
  pub raster : List ℕ

-- an image without where it lies in memory
abbrev pub pixels_of : Image → Pixels
pixels_of image = record { w = image.w; h = image.h; raster = image.raster.items }

-- a raster of three bytes for each pixel, and nothing after it
unfoldable pub pixels_at : ℕ → ℕ → List ℕ → Result Pixels PpmFault
pixels_at w h samples = if nat_lt (length samples) (3 * w * h) then Err Truncated
    else (if nat_lt (3 * w * h) (length samples) then Err TooLong else Ok (record { w = w; h = h; raster = samples }))

infixl 10 ◌>>=◌
-- one part of a file, and then the next
abbrev pub ◌>>=◌ : {A B : Type 0} → Result A PpmFault → (A → Result B PpmFault) → Result B PpmFault
(Ok x) >>= next = next x
(Err fault) >>= next = Err fault

-- the part that was found, or the fault of a file without it
abbrev pub or_fault : {A : Type 0} → PpmFault → Option A → Result A PpmFault
or_fault fault None = Err fault
or_fault fault (Some x) = Ok x

-- the picture of a file
unfoldable pub image_of : List ℕ → Result Pixels PpmFault
image_of bytes = do
  rest ← or_fault NotP6 (after_magic bytes)
  header ← or_fault BadHeader (header_at rest)
  pixels_at header.0 header.1 header.2
