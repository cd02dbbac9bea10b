-- The lines of replies are the texts of their objects.
use Rattle.std.proofs.Common.{◌≡◌, ℕ, ◌/◌, ◌%◌, ◌<◌, ◌==◌, Bool, true, false, cond, List, [], ◌∷◌, ◌++◌, length, slice_index, refl, sym, ap, ◌∙◌, arith, append_assoc, decimal, zero, suc, lit<, lit≤}
use Rattle.std.specs.Prelude.{codes}
use Rattle.std.specs.List.{list_all}
use Rattle.std.proofs.lemmas.Bool.{and_parts}
use Rattle.std.proofs.lemmas.Fmt.{decimal_digit, decimal_step}
use Rattle.json.specs.Print.{escape, escape_byte}
use Rattle.hex.specs.Hex.{IsBytes, encode_lower, encode_with, lower_digits}
use Rattle.serde_json.specs.Written.{compact_text}
use Rattle.canvas_code.specs.Names.{table, name_in, name_of}
use Rattle.canvas_shape.specs.declared.Colour.{Colour}
use Rattle.canvas_json.proofs.Words.{is_plain, are_plain, escape-plain}
use Rattle.canvas_wire.specs.Replies.{created, edited, body, point, refused, behind, line_of}
use Rattle.canvas_wire.specs.ReplyObjects.{object_of, AreJson}

-- ---- the names of codes

plain_if : (b : Bool) (x y : List ℕ) → are_plain x ≡ true → are_plain y ≡ true → are_plain (cond b x y) ≡ true
plain_if true x y hx hy = hx
plain_if false x y hx hy = hy

name_in_plain : (rows : List (ℕ × List ℕ)) (code : ℕ) → list_all (λ row. are_plain row.1) rows ≡ true → are_plain (name_in rows code) ≡ true
name_in_plain [] code h = refl
name_in_plain (row ∷ rows) code h =
    let parts = and_parts (are_plain row.1) (list_all (λ other. are_plain other.1) rows) h in
    plain_if (code == row.0) row.1 (name_in rows code) parts.0 (name_in_plain rows code parts.1)

name_of_plain : (code : ℕ) → are_plain (name_of code) ≡ true
unfolding name_of
name_of_plain code = name_in_plain table code refl

-- ---- the digits of colours

plain_at : (s : List ℕ) (k : ℕ) → are_plain s ≡ true → k < length s → is_plain (slice_index s k) ≡ true
plain_at [] k h lt = absurd (omega arith)
plain_at (x ∷ s) zero h lt = (and_parts (is_plain x) (are_plain s) h).0
plain_at (x ∷ s) (suc k) h lt = plain_at s k (and_parts (is_plain x) (are_plain s) h).1 (omega arith)

digit_plain : (k : ℕ) → k < 16 → is_plain (slice_index lower_digits k) ≡ true
digit_plain k lt = plain_at lower_digits k refl lt

encode_lower-plain : (bytes : List ℕ) → IsBytes bytes → are_plain (encode_lower bytes) ≡ true
unfolding encode_with
encode_lower-plain [] h = refl
encode_lower-plain (b ∷ rest) h =
    let fits : b < 256 = h 0 in
    let high : b / 16 < 16 = omega arith in
    let low : b % 16 < 16 = omega arith in
    rw (digit_plain (b / 16) high, digit_plain (b % 16) low) (encode_lower-plain rest (λ k. h (suc k)))

-- ---- the lines

nought : decimal 0 ≡ 48 ∷ []
nought = decimal_digit 0 (lit< tt)

seventeen : decimal 17 ≡ 49 ∷ 55 ∷ []
seventeen = decimal_step 17 (lit≤ tt) (lit< tt) ∙ ap (λ ds. ds ++ 55 ∷ []) (decimal_digit 1 (lit< tt))

-- a quoted text that stands for itself, between what comes before and after it
around : (before text after : List ℕ) → escape text ≡ text
    → before ++ (text ++ (codes "\"" ++ (after ++ codes "\n"))) ≡ before ++ (((escape text ++ codes "\"") ++ after) ++ codes "\n")
around before text after e =
    ap (λ t. before ++ t) (
    sym (append_assoc text (codes "\"") (after ++ codes "\n")) ∙ sym (append_assoc (text ++ codes "\"") after (codes "\n"))
    ∙ ap (λ (t : List ℕ). ((t ++ codes "\"") ++ after) ++ codes "\n") (sym e)
    )

point_line : (colour : Colour) (version : ℕ) → escape (encode_lower colour.0) ≡ encode_lower colour.0
    → line_of (point colour version) ≡ compact_text (object_of (point colour version)) ++ codes "\n"
unfolding escape_byte
point_line colour version e =
    let after : List ℕ = codes ",\"ok\":true,\"version\":" ++ (decimal version ++ codes "}") in
    let apart : line_of (point colour version) ≡ codes "{\"body\":0,\"colour\":\"" ++ (encode_lower colour.0 ++ (codes "\"" ++ (after ++ codes "\n"))) = simp append_assoc in
    apart ∙ around (codes "{\"body\":0,\"colour\":\"") (encode_lower colour.0) after e ∙ rw nought refl

refused_line : (code : ℕ) → escape (name_of code) ≡ name_of code
    → line_of (refused code) ≡ compact_text (object_of (refused code)) ++ codes "\n"
unfolding escape_byte
refused_line code e =
    let before : List ℕ = codes "{\"body\":0,\"code\":" ++ (decimal code ++ codes ",\"name\":\"") in
    let after : List ℕ = codes ",\"ok\":false}" in
    let apart : line_of (refused code) ≡ before ++ (name_of code ++ (codes "\"" ++ (after ++ codes "\n"))) = simp append_assoc in
    apart ∙ around before (name_of code) after e ∙ rw nought (simp append_assoc)

-- the line of each reply is the compact text of its object, and an LF
pub replies_are_json : AreJson
unfolding escape_byte
replies_are_json (created id version) h = rw nought (simp append_assoc)
replies_are_json (edited version) h = rw nought (simp append_assoc)
replies_are_json (body bytes version) h = simp append_assoc
replies_are_json (point colour version) h = point_line colour version (escape-plain (encode_lower colour.0) (encode_lower-plain colour.0 h))
replies_are_json (refused code) h = refused_line code (escape-plain (name_of code) (name_of_plain code))
replies_are_json (behind desk front) h = rw (nought, seventeen) (simp append_assoc)
