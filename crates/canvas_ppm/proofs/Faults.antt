-- What bytes that begin with `P6` are read as.
use Rattle.std.proofs.Common.{◌≡◌, ℕ, ◌*◌, ◌-◌, ◌<◌, ◌≤◌, ◌==◌, ltb, ◌&&◌, cond, List, length, take, drop, slice_index, Option, Some, None, Result, Ok, Err, refl, sym, ◌∙◌, ap, subst, arith, ◌⊎◌, inr, length-drop}
use Rattle.std.specs.Prelude.{IsOk, IfErr, IsErrAnd}
use Rattle.std.proofs.lemmas.Bool.{cond-true, cond-false, lt-ltb, le-ltb}
use Rattle.std.proofs.lemmas.List.{take_all}
use Rattle.canvas_ppm.specs.Header.{after_magic, header_at}
use Rattle.canvas_ppm.specs.Image.{◌>>=◌, or_fault, Pixels, pixels_at, image_of}
use Rattle.canvas_ppm.specs.declared.fault.PpmFault.{PpmFault}
use Rattle.canvas_ppm.specs.declared.fault.PpmFault.TheVariants.{NotP6, BadHeader, Truncated, TooLong, OutOfMemory}

magic-found : (bytes : List ℕ) → slice_index bytes 0 ≡ 80 → slice_index bytes 1 ≡ 54 → after_magic bytes ≡ Some (drop 2 bytes)
unfolding after_magic
magic-found bytes first second = λ i. cond ((first i == 80) && (second i == 54)) (Some (drop 2 bytes)) None

-- what a header that was looked for makes of a file
abbrev from_header : Option (ℕ × ℕ × List ℕ) → Result Pixels PpmFault
from_header header = or_fault BadHeader header >>= (λ h. pixels_at h.0 h.1 h.2)

looked-for : (bytes : List ℕ) (header : Option (ℕ × ℕ × List ℕ)) → slice_index bytes 0 ≡ 80 → slice_index bytes 1 ≡ 54
    → header ≡ header_at (take (length bytes - 2) (drop 2 bytes)) → image_of bytes ≡ from_header header
unfolding image_of
looked-for bytes header first second found =
    let whole : take (length bytes - 2) (drop 2 bytes) ≡ drop 2 bytes = take_all (length bytes - 2) (drop 2 bytes) (omega (arith, length-drop 2 bytes)) in
    ap (λ rest. or_fault NotP6 rest >>= (λ r. from_header (header_at r))) (magic-found bytes first second) ∙ ap from_header (sym (found ∙ ap header_at whole))

pub no-header : (bytes : List ℕ) → slice_index bytes 0 ≡ 80 → slice_index bytes 1 ≡ 54
    → None ≡ header_at (take (length bytes - 2) (drop 2 bytes)) → image_of bytes ≡ Err BadHeader
no-header bytes first second found = looked-for bytes None first second found

-- a header was found
pub record HasHeader (bytes : List ℕ) (w h : ℕ) (samples : List ℕ) : Type 0 where
  pub first : slice_index bytes 0 ≡ 80
  pub second : slice_index bytes 1 ≡ 54
  pub found : Some (w, h, samples) ≡ header_at (take (length bytes - 2) (drop 2 bytes))

pub few-samples : (bytes samples : List ℕ) (w h : ℕ) → HasHeader bytes w h samples → length samples < 3 * w * h → image_of bytes ≡ Err Truncated
unfolding pixels_at
few-samples bytes samples w h header few =
    looked-for bytes (Some (w, h, samples)) header.first header.second header.found
    ∙ cond-true (ltb (length samples) (3 * w * h)) _ _ (lt-ltb (length samples) (3 * w * h) few)

pub many-samples : (bytes samples : List ℕ) (w h : ℕ) → HasHeader bytes w h samples → 3 * w * h ≤ length samples → 3 * w * h < length samples → image_of bytes ≡ Err TooLong
unfolding pixels_at
many-samples bytes samples w h header enough many =
    looked-for bytes (Some (w, h, samples)) header.first header.second header.found
    ∙ cond-false (ltb (length samples) (3 * w * h)) _ _ (le-ltb (length samples) (3 * w * h) enough)
    ∙ cond-true (ltb (3 * w * h) (length samples)) _ _ (lt-ltb (3 * w * h) (length samples) many)

pub all-samples : (bytes samples : List ℕ) (w h : ℕ) → HasHeader bytes w h samples → 3 * w * h ≤ length samples → length samples ≤ 3 * w * h
    → image_of bytes ≡ Ok (record { w = w; h = h; raster = samples })
unfolding pixels_at
all-samples bytes samples w h header enough most =
    looked-for bytes (Some (w, h, samples)) header.first header.second header.found
    ∙ cond-false (ltb (length samples) (3 * w * h)) _ _ (le-ltb (length samples) (3 * w * h) enough)
    ∙ cond-false (ltb (3 * w * h) (length samples)) _ _ (le-ltb (3 * w * h) (length samples) most)

-- a sound file for which there is no memory
pub no-memory : {T : Type 0} (r : Result T PpmFault) (read : Result Pixels PpmFault) (image : Pixels) → IsErrAnd r (λ fault. fault ≡ OutOfMemory) → read ≡ Ok image
    → IfErr r (λ fault. (read ≡ Err fault) ⊎ ((fault ≡ OutOfMemory) × IsOk read))
no-memory (Ok x) read image want sound = tt
no-memory (Err fault) read image want sound = inr (want, subst IsOk (sym sound) refl)
