-- The text of a colour: six hex digits, two each for red, green and blue.
use Rattle.std.specs.Prelude.{ℕ, List, Option, Some, None, Result, Ok, Err}
use Rattle.hex.specs.declared.error.FromHexError.{FromHexError}
use Rattle.hex.specs.Hex.{decode_sized, encode_lower}
use Rattle.canvas_shape.specs.declared.Colour.{Colour}

abbrev pub colour_in : Result (List ℕ) FromHexError → Option Colour
colour_in (Ok bytes) = Some (record { 0 = bytes })
colour_in (Err fault) = None

-- the colour that a text names in digits of either case, if it has six digits and nothing else
abbrev pub colour_named : List ℕ → Option Colour
colour_named text = colour_in (decode_sized text 3)

-- the colour's digits, with lower case letters
abbrev pub colour_text : Colour → List ℕ
colour_text colour = encode_lower colour.0
