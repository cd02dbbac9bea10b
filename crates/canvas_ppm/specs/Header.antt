-- The header that a reader accepts, as Netpbm's ppm manual has it, without comments: each function takes bytes off the
-- front, and gives what it read and the bytes after it, or None where the bytes do not have that form.
use Rattle.std.specs.Prelude.{ℕ, Bool, ◌&&◌, ◌||◌, ◌==◌, nat_le, nat_lt, List, [], ◌∷◌, take, drop, slice_index, Option, Some, None, if◌then◌else◌}
use Rattle.std.specs.Char.{is_ascii_digit}
use Rattle.std.specs.List.{prefix_len}
use Rattle.std.specs.Str.Parse.{digits_value}

infixl 10 ◌>>=◌
-- one part of a header, and then the next
abbrev pub ◌>>=◌ : {A B : Type 0} → Option A → (A → Option B) → Option B
None >>= next = None
(Some x) >>= next = next x

-- the magic number `P6`
unfoldable pub after_magic : List ℕ → Option (List ℕ)
after_magic bytes = if (slice_index bytes 0 == 80) && (slice_index bytes 1 == 54) then Some (drop 2 bytes) else None

-- blank, TAB, LF and CR
abbrev pub is_white : ℕ → Bool
is_white byte = ((byte == 32) || (byte == 9)) || ((byte == 10) || (byte == 13))

-- how many bytes of white space stand at the front
abbrev pub white_len : List ℕ → ℕ
white_len bytes = prefix_len is_white bytes

-- how many digits stand at the front
abbrev pub digits_len : List ℕ → ℕ
digits_len bytes = prefix_len is_ascii_digit bytes

-- white space, of at least one byte
unfoldable pub after_white : List ℕ → Option (List ℕ)
after_white bytes = if white_len bytes == 0 then None else Some (drop (white_len bytes) bytes)

-- a number of one to nine decimal digits, leading zeros allowed
unfoldable pub number_at : List ℕ → Option (ℕ × List ℕ)
number_at bytes = if (digits_len bytes == 0) || nat_lt 9 (digits_len bytes) then None
    else Some (digits_value 10 (take (digits_len bytes) bytes), drop (digits_len bytes) bytes)

-- white space, and then a number
unfoldable pub field_at : List ℕ → Option (ℕ × List ℕ)
field_at bytes = do
  rest ← after_white bytes
  number_at rest

-- one byte of white space
unfoldable pub after_one_white : List ℕ → Option (List ℕ)
after_one_white [] = None
after_one_white (byte ∷ rest) = if is_white byte then Some rest else None

-- whether a number is a width or height that a file may have
abbrev pub is_side : ℕ → Bool
is_side side = nat_le 1 side && nat_le side 65535

-- what follows `P6`: width, height, maxval 255 and one byte of white space
unfoldable pub header_at : List ℕ → Option (ℕ × ℕ × List ℕ)
header_at bytes = do
  w ← field_at bytes
  h ← field_at w.1
  maxval ← field_at h.1
  rest ← after_one_white maxval.1
  if (is_side w.0 && is_side h.0) && (maxval.0 == 255) then Some (w.0, h.0, rest) else None
