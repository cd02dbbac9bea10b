-- A reader takes the files of the layout, and no others.
use Rattle.std.proofs.Common.{◌≡◌, ℕ, ◌*◌, ◌≤◌, ◌==◌, nat_lt, Bool, true, false, ◌&&◌, cond, IsTrue, List, [], ◌∷◌, ◌++◌, length, codes, drop, Option, Some, None, Result, Ok, Err, refl, append_assoc, lit≤, decimal, subst, sym, ◌∙◌, ap, slice_index, arith}
use Rattle.std.proofs.lemmas.Bool.Decides.{nat_tests}
use Rattle.std.proofs.lemmas.Option.{cond_some}
use Rattle.std.specs.Char.{is_ascii_digit}
use Rattle.std.specs.List.{prefix_len}
use Rattle.canvas_ppm.specs.P6.{IsSide, IsRaster, p6_of}
use Rattle.canvas_ppm.specs.Header.{is_white, is_side, after_magic, field_at, after_one_white, header_at}
use Rattle.canvas_ppm.specs.Image.{◌>>=◌, or_fault, Pixels, pixels_at, image_of}
use Rattle.canvas_ppm.specs.declared.fault.PpmFault.{PpmFault}
use Rattle.canvas_ppm.specs.declared.fault.PpmFault.TheVariants.{NotP6, BadHeader, Truncated, TooLong}
use Rattle.canvas_ppm.specs.File.{IsNumber, IsField, IsFile}
use Rattle.std.proofs.lemmas.Fmt.{decimal_is_IsNumeral}
use Rattle.canvas_ppm.proofs.Sides.{side_digits}
use Rattle.canvas_ppm.proofs.Parts.{bind-some, field_at-some, after_one_white-some, field_at-append, digits_len-field, list_all-digits, white_not_digit}

-- a side is in range
is_side-true : (side : ℕ) → IsSide side → is_side side ≡ true
is_side-true side range = grind (arith, nat_tests, range.0, range.1)

-- the header of the layout is taken off whole
header_at-file : (width height maxval samples : List ℕ) (separator w h : ℕ) → IsField width w → IsField height h → IsField maxval 255
    → IsTrue (is_white separator) → IsSide w → IsSide h
    → header_at (width ++ (height ++ (maxval ++ (separator ∷ samples)))) ≡ Some (w, h, samples)
unfolding header_at after_one_white
header_at-file width height maxval samples separator w h width_field height_field maxval_field white w_side h_side =
    let after_width = height ++ (maxval ++ (separator ∷ samples)) in
    let after_height = maxval ++ (separator ∷ samples) in
    let stop : prefix_len is_ascii_digit (separator ∷ samples) ≡ 0 = rw (white_not_digit separator white) refl in
    rw (
      field_at-append width after_width w width_field (digits_len-field height after_height h height_field),
      field_at-append height after_height h height_field (digits_len-field maxval (separator ∷ samples) 255 maxval_field),
      field_at-append maxval (separator ∷ samples) 255 maxval_field stop,
      white,
      is_side-true w w_side,
      is_side-true h h_side,
    ) refl

-- samples of the right number are the raster
pixels_at-raster : (w h : ℕ) (samples : List ℕ) → IsRaster w h samples → pixels_at w h samples ≡ Ok (record { w = w; h = h; raster = samples })
unfolding pixels_at
pixels_at-raster w h samples full =
    let whole : nat_lt (length samples) (3 * w * h) ≡ false = grind (arith, nat_tests, full) in
    let alone : nat_lt (3 * w * h) (length samples) ≡ false = grind (arith, nat_tests, full) in
    rw (whole, alone) refl

-- a file of the layout is read as its image
pub image_of-file : (bytes : List ℕ) (image : Pixels) → IsFile bytes image → image_of bytes ≡ Ok image
unfolding image_of after_magic
image_of-file bytes image file =
    rw (
      file.layout,
      header_at-file file.width file.height file.maxval image.raster file.separator image.w image.h file.width_field file.height_field
          file.maxval_field file.separator_white file.width_side file.height_side,
    )
    (pixels_at-raster image.w image.h image.raster file.full)

-- a side as it is written is a number
decimal-number : (side : ℕ) → IsSide side → IsNumber (decimal side)
decimal-number side range =
    let numeral = decimal_is_IsNumeral side (omega arith) in
    let short : length (decimal side) ≤ 5 = side_digits side range.1 in
    (numeral.0.0, omega arith, list_all-digits (decimal side) numeral.0.1)

-- a side as it is written behind a byte of white space
written_field : (byte side : ℕ) → is_white byte ≡ true → IsSide side → IsField (byte ∷ decimal side) side
written_field byte side white range = record {
  white = byte ∷ [];
  digits = decimal side;
  layout = refl;
  white_space = (lit≤ tt, rw white refl);
  number = decimal-number side range;
  value = (decimal_is_IsNumeral side (omega arith)).1;
}

-- what is written has the layout
pub file-p6_of : (w h : ℕ) (raster : List ℕ) → IsSide w → IsSide h → IsRaster w h raster
    → IsFile (p6_of w h raster) (record { w = w; h = h; raster = raster })
file-p6_of w h raster w_side h_side full = record {
  width = 10 ∷ decimal w;
  height = 32 ∷ decimal h;
  maxval = 10 ∷ 50 ∷ 53 ∷ 53 ∷ [];
  separator = 10;
  layout = simp append_assoc;
  width_field = written_field 10 w refl w_side;
  height_field = written_field 32 h refl h_side;
  maxval_field = record { white = 10 ∷ []; digits = 50 ∷ 53 ∷ 53 ∷ []; layout = refl; white_space = (lit≤ tt, refl); number = (lit≤ tt, lit≤ tt, refl); value = refl };
  separator_white = refl;
  width_side = w_side;
  height_side = h_side;
  full = full;
}

-- what is written is read back
pub read_back : (w h : ℕ) (raster : List ℕ) → IsSide w → IsSide h → IsRaster w h raster
    → image_of (p6_of w h raster) ≡ Ok (record { w = w; h = h; raster = raster })
read_back w h raster w_side h_side full = image_of-file _ _ (file-p6_of w h raster w_side h_side full)

-- a side that is accepted is in range
IsSide-is_side : (side : ℕ) → is_side side ≡ true → IsSide side
IsSide-is_side side accepted = (grind (arith, nat_tests, accepted), grind (arith, nat_tests, accepted))

-- both tests hold
both : (a b : Bool) → (a && b) ≡ true → (a ≡ true) × (b ≡ true)
both a b h = elim a as (λ v. (v && b) ≡ true → (v ≡ true) × (b ≡ true)) [ true ↦ λ e. (refl, e) | false ↦ λ e. cc ] h

-- parts that follow one another
layout-parts : (bytes width height maxval samples after_width after_height after_maxval : List ℕ) (separator : ℕ) → bytes ≡ width ++ after_width
    → after_width ≡ height ++ after_height → after_height ≡ maxval ++ after_maxval → after_maxval ≡ separator ∷ samples
    → codes "P6" ++ bytes ≡ codes "P6" ++ (width ++ (height ++ (maxval ++ (separator ∷ samples))))
layout-parts bytes width height maxval samples after_width after_height after_maxval separator a b c d = cc

-- the parts of a header that were found, one behind the other, are those of the layout
file-parts : (bytes : List ℕ) (w h maxval : ℕ × List ℕ) (samples : List ℕ) → field_at bytes ≡ Some w → field_at w.1 ≡ Some h
    → field_at h.1 ≡ Some maxval → after_one_white maxval.1 ≡ Some samples → ((is_side w.0 && is_side h.0) && (maxval.0 == 255)) ≡ true
    → IsRaster w.0 h.0 samples → IsFile (codes "P6" ++ bytes) (record { w = w.0; h = h.0; raster = samples })
file-parts bytes w h maxval samples w_found h_found maxval_found samples_found accepted full =
    let width = field_at-some bytes w.1 w.0 w_found in
    let height = field_at-some w.1 h.1 h.0 h_found in
    let most = field_at-some h.1 maxval.1 maxval.0 maxval_found in
    let separator = after_one_white-some maxval.1 samples samples_found in
    let tests = both (is_side w.0 && is_side h.0) (maxval.0 == 255) accepted in
    let sides = both (is_side w.0) (is_side h.0) tests.0 in
    let maxval_is : maxval.0 ≡ 255 = grind (arith, nat_tests, tests.1) in
    record {
      width = width.0;
      height = height.0;
      maxval = most.0;
      separator = separator.0;
      layout = layout-parts bytes width.0 height.0 most.0 samples w.1 h.1 maxval.1 separator.0 width.2 height.2 most.2 separator.2;
      width_field = width.1;
      height_field = height.1;
      maxval_field = subst (IsField most.0) maxval_is most.1;
      separator_white = separator.1;
      width_side = IsSide-is_side w.0 sides.0;
      height_side = IsSide-is_side h.0 sides.1;
      full = full;
    }

-- a header that was found has the layout
file-header_at : (bytes : List ℕ) (header : ℕ × ℕ × List ℕ) → header_at bytes ≡ Some header → IsRaster header.0 header.1 header.2
    → IsFile (codes "P6" ++ bytes) (record { w = header.0; h = header.1; raster = header.2 })
unfolding header_at
file-header_at bytes header found full =
    let w = bind-some (field_at bytes) _ header found in
    let h = bind-some (field_at w.0.1) _ header w.2 in
    let maxval = bind-some (field_at h.0.1) _ header h.2 in
    let samples = bind-some (after_one_white maxval.0.1) _ header maxval.2 in
    let accepted = cond_some {A = ℕ × ℕ × List ℕ} ((is_side w.0.0 && is_side h.0.0) && (maxval.0.0 == 255)) (w.0.0, h.0.0, samples.0) header samples.2 in
    let Whole : ℕ × ℕ × List ℕ → Type 0 = λ x. IsRaster x.0 x.1 x.2 → IsFile (codes "P6" ++ bytes) (record { w = x.0; h = x.1; raster = x.2 }) in
    subst Whole accepted.1 (file-parts bytes w.0 h.0 maxval.0 samples.0 w.1 h.1 maxval.1 samples.1 accepted.0) full

-- what begins with the two bytes is `P6` and the rest
magic-rest : (bytes : List ℕ) → ((slice_index bytes 0 == 80) && (slice_index bytes 1 == 54)) ≡ true → bytes ≡ codes "P6" ++ drop 2 bytes
magic-rest [] begins = cc
magic-rest (x ∷ []) begins = let tests = both (x == 80) false begins in cc
magic-rest (x ∷ y ∷ rest) begins =
    let tests = both (x == 80) (y == 54) begins in
    let first : x ≡ 80 = grind (arith, nat_tests, tests.0) in
    let second : y ≡ 54 = grind (arith, nat_tests, tests.1) in
    cc

-- samples that were taken whole are a raster
raster-pixels_at : (w h : ℕ) (samples : List ℕ) (image : Pixels) → pixels_at w h samples ≡ Ok image
    → IsRaster w h samples × (record { w = w; h = h; raster = samples } ≡ image)
unfolding pixels_at
raster-pixels_at w h samples image read =
    let few = nat_lt (length samples) (3 * w * h) in
    let many = nat_lt (3 * w * h) (length samples) in
    let Whole : Type 0 = IsRaster w h samples × (record { w = w; h = h; raster = samples } ≡ image) in
    elim few as (λ a. few ≡ a → cond a (Err Truncated) (cond many (Err TooLong) (Ok (record { w = w; h = h; raster = samples }))) ≡ Ok image → Whole) [
      | true ↦ λ is_few e. cc
      | false ↦ λ not_few. elim many as (λ b. many ≡ b → cond b (Err TooLong) (Ok (record { w = w; h = h; raster = samples })) ≡ Ok image → Whole) [
        | true ↦ λ is_many e. cc
        | false ↦ λ not_many e. (grind (arith, nat_tests, not_few, not_many), cc)
      ] refl
    ] refl read

-- two parts of a file that were found
bind-ok : {A B : Type 0} (r : Result A PpmFault) (next : A → Result B PpmFault) (y : B) → (r >>= next) ≡ Ok y → (x : A) × (r ≡ Ok x) × (next x ≡ Ok y)
bind-ok (Ok x) next y h = (x, refl, h)
bind-ok (Err fault) next y h = cc

-- a part that was found
or_fault-ok : {A : Type 0} (fault : PpmFault) (o : Option A) (x : A) → or_fault fault o ≡ Ok x → o ≡ Some x
or_fault-ok fault None x h = cc
or_fault-ok fault (Some y) x h = cc

-- what is read as an image has the layout
pub file-image_of : (bytes : List ℕ) (image : Pixels) → image_of bytes ≡ Ok image → IsFile bytes image
unfolding image_of after_magic
file-image_of bytes image read =
    let rest = bind-ok (or_fault NotP6 (after_magic bytes)) _ image read in
    let header = bind-ok (or_fault BadHeader (header_at rest.0)) _ image rest.2 in
    let magic = cond_some ((slice_index bytes 0 == 80) && (slice_index bytes 1 == 54)) (drop 2 bytes) rest.0 (or_fault-ok NotP6 (after_magic bytes) rest.0 rest.1) in
    let found = or_fault-ok BadHeader (header_at rest.0) header.0 header.1 in
    let whole = raster-pixels_at header.0.0 header.0.1 header.0.2 image header.2 in
    let file : IsFile (codes "P6" ++ rest.0) image = subst (IsFile (codes "P6" ++ rest.0)) whole.1 (file-header_at rest.0 header.0 found whole.0) in
    let layout : codes "P6" ++ rest.0 ≡ bytes = sym (magic-rest bytes magic.0 ∙ ap (λ t. codes "P6" ++ t) magic.1) in
    let Read : List ℕ → Type 0 = λ t. IsFile t image in
    subst Read layout file
