-- The key between two keys (`generateKeyBetween`).
use Rattle.std.specs.Prelude.{ℕ, List, [], ◌∷◌, ◌++◌, codes, length, Option, Some, None, Result, Ok, Err, nat_lt, if◌then◌else◌}
use Rattle.canvas_key.specs.Text.{IsSound, integer_part, fraction, least_part, is_same}
use Rattle.canvas_key.specs.Order.{is_before, IsAbove, IsBelow}
use Rattle.canvas_key.specs.Rank.{part_after, part_before}
use Rattle.canvas_key.specs.Middle.{midpoint}
use Rattle.canvas_key.specs.declared.KeyFault.{KeyFault}
use Rattle.canvas_key.specs.declared.KeyFault.TheVariants.{NoRoom}

-- the integer part of a key, and a midpoint
abbrev pub split_part : List ℕ → Option (List ℕ) → List ℕ
split_part low high = integer_part low ++ midpoint (fraction low) high

-- the next integer part, or where there is none, this part and a midpoint
abbrev pub or_split : Option (List ℕ) → List ℕ → List ℕ
or_split None low = split_part low None
or_split (Some part) low = part

-- the same, where the next part is to be below a key
abbrev pub below_or_split : Option (List ℕ) → List ℕ → List ℕ → List ℕ
below_or_split None low high = split_part low None
below_or_split (Some part) low high = if is_before part high then part else split_part low None

-- the text between none and a key
abbrev pub text_below : List ℕ → List ℕ → List ℕ
text_below high [] = or_split (part_before (integer_part high)) high
text_below high (d ∷ ds) = integer_part high

-- the text between two ends
abbrev pub text_between : Option (List ℕ) → Option (List ℕ) → List ℕ
text_between None None = codes "a0"
text_between None (Some high) =
    if is_same (integer_part high) least_part then least_part ++ midpoint [] (Some (fraction high))
    else text_below high (fraction high)
text_between (Some low) None = or_split (part_after (integer_part low)) low
text_between (Some low) (Some high) =
    if is_same (integer_part low) (integer_part high) then split_part low (Some (fraction high))
    else below_or_split (part_after (integer_part low)) low high

-- the least integer part alone is no key, so a `V` follows it
abbrev pub over_least : List ℕ → List ℕ
over_least text = if is_same text least_part then least_part ++ codes "V" else text

-- a text, where it is short enough for a key
abbrev pub in_room : List ℕ → Result (List ℕ) KeyFault
in_room text = if nat_lt 128 (length text) then Err NoRoom else Ok text

-- the text of the key between two ends, however long
abbrev pub key_text : Option (List ℕ) → Option (List ℕ) → List ℕ
key_text low high = over_least (text_between low high)

-- the key between two ends
abbrev pub key_between : Option (List ℕ) → Option (List ℕ) → Result (List ℕ) KeyFault
key_between low high = in_room (key_text low high)

-- a text is a key but for its length, and strictly between two ends
pub record LiesBetween (low high : Option (List ℕ)) (text : List ℕ) : Type 0 where
  pub sound : IsSound text
  pub above : IsAbove low text
  pub below : IsBelow high text
