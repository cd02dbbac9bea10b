-- Texts that JSON writes as they are: plain ones, and words of letters and decimal digits, which keys and colours are.
use Rattle.std.proofs.Common.{◌≡◌, ◌<◌, ◌≤◌, ◌==◌, ℕ, Bool, true, false, List, [], ◌∷◌, refl, arith}
use Rattle.std.specs.Prelude.{IsUtf8, IsOk, Result, Ok, Err, Some, not, ◌&&◌, nat_lt, slice_index, drop}
use Rattle.std.specs.List.{list_all, AllPass}
use Rattle.std.specs.Str.{IsAscii}
use Rattle.std.proofs.lemmas.Bool.{and_parts, and_from, ltb-true, not-true}
use Rattle.std.proofs.lemmas.Bool.Decides.{nat_tests}
use Rattle.std.proofs.lemmas.List.Elements.{All-head, All-tail}
use Rattle.std.proofs.lemmas.Str.{IsUtf8-from_ascii}
use Rattle.std.proofs.lemmas.Str.Ascii.{IsAscii-nil, IsAscii-cons}
use Rattle.hex.specs.declared.error.FromHexError.{FromHexError}
use Rattle.hex.specs.Hex.{is_hex_digit, decode_sized}
use Rattle.hex.proofs.HexLemmas.{IsOk-decode_sized}
use Rattle.json.specs.Print.{escape, escape_byte}
use Rattle.canvas_key.specs.Digit.{is_digit}
use Rattle.canvas_key.specs.Text.{IsKey, is_head}
use Rattle.canvas_key.proofs.Keys.{key-sound}
use Rattle.canvas_shape.specs.declared.Colour.{Colour}
use Rattle.canvas_shape.specs.Names.{colour_in, colour_text}
use Rattle.canvas_json.specs.Fit.{IsRead}

-- all bytes are letters or decimal digits
abbrev pub IsWord : List ℕ → Type 0
IsWord text = list_all is_digit text ≡ true

-- ---- what such texts are

-- a byte that stands for itself in a JSON text
abbrev pub is_plain : ℕ → Bool
is_plain x = nat_lt 34 x && not (x == 92)

abbrev pub are_plain : List ℕ → Bool
are_plain s = list_all is_plain s

apart : (x k : ℕ) → k < x → (x == k) ≡ false
apart x k below = grind (arith, nat_tests)

printed : (x : ℕ) → 32 ≤ x → nat_lt x 32 ≡ false
printed x above = grind (arith, nat_tests)

escape_byte-plain : (x : ℕ) → is_plain x ≡ true → escape_byte x ≡ x ∷ []
unfolding escape_byte
escape_byte-plain x h =
    let parts = and_parts (nat_lt 34 x) (not (x == 92)) h in
    let above : 34 < x = ltb-true 34 x parts.0 in
    rw (
      apart x 34 above,
      not-true (x == 92) parts.1,
      apart x 8 (omega arith),
      apart x 12 (omega arith),
      apart x 10 (omega arith),
      apart x 13 (omega arith),
      apart x 9 (omega arith),
      printed x (omega arith),
    ) refl

-- a plain text stands for itself
pub escape-plain : (s : List ℕ) → are_plain s ≡ true → escape s ≡ s
escape-plain [] h = refl
escape-plain (x ∷ s) h =
    let parts = and_parts (is_plain x) (are_plain s) h in
    rw (escape_byte-plain x parts.0, escape-plain s parts.1) refl

digit-plain : (x : ℕ) → is_digit x ≡ true → is_plain x ≡ true
digit-plain x h = grind (arith, nat_tests)

word-plain : (text : List ℕ) → IsWord text → are_plain text ≡ true
word-plain [] h = refl
word-plain (x ∷ rest) h =
    let parts = and_parts (is_digit x) (list_all is_digit rest) h in
    and_from (is_plain x) (are_plain rest) (digit-plain x parts.0) (word-plain rest parts.1)

pub escape-word : (text : List ℕ) → IsWord text → escape text ≡ text
escape-word text h = escape-plain text (word-plain text h)

small : (x : ℕ) → is_digit x ≡ true → x < 128
small x h = grind (arith, nat_tests)

word-ascii : (text : List ℕ) → IsWord text → IsAscii text
word-ascii [] h = IsAscii-nil
word-ascii (x ∷ rest) h =
    let parts = and_parts (is_digit x) (list_all is_digit rest) h in
    IsAscii-cons x rest (small x parts.0) (word-ascii rest parts.1)

pub word-text : (text : List ℕ) → IsWord text → IsUtf8 text
word-text text h = IsUtf8-from_ascii text (word-ascii text h)

-- ---- keys and colours

head-digit : (c : ℕ) → is_head c ≡ true → is_digit c ≡ true
head-digit c h = grind (arith, nat_tests)

key-word-at : (text : List ℕ) → is_head (slice_index text 0) ≡ true → list_all is_digit (drop 1 text) ≡ true → IsWord text
key-word-at [] head digits = refl
key-word-at (c ∷ cs) head digits = and_from (is_digit c) (list_all is_digit cs) (head-digit c head) digits

pub key-word : (text : List ℕ) → IsKey text → IsWord text
key-word text h =
    let sound = (key-sound text h).0 in
    key-word-at text sound.head sound.digits

hex-digit : (c : ℕ) → is_hex_digit c ≡ true → is_digit c ≡ true
hex-digit c h = grind (arith, nat_tests)

hex-word : (text : List ℕ) → AllPass is_hex_digit text → IsWord text
hex-word [] h = refl
hex-word (c ∷ cs) h =
    and_from (is_digit c) (list_all is_digit cs) (hex-digit c (All-head (λ x. is_hex_digit x ≡ true) c cs h)) (hex-word cs (All-tail (λ x. is_hex_digit x ≡ true) c cs h))

decoded : (bytes : Result (List ℕ) FromHexError) (colour : Colour) → colour_in bytes ≡ Some colour → IsOk bytes
decoded (Ok bytes) colour e = refl
decoded (Err fault) colour e = absurd cc

pub colour-word : (colour : Colour) → IsRead colour → IsWord (colour_text colour)
colour-word colour e =
    let text : List ℕ = colour_text colour in
    hex-word text ((IsOk-decode_sized text 3).0 (decoded (decode_sized text 3) colour e)).1
