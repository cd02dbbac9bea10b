-- The value of a line, from what the test of its text answers.
use Rattle.std.specs.Prelude.{◌≡◌, ◌==◌, ℕ, List, [], ◌∷◌, length, Bool, true, false, Some, None, IsUtf8, refl}
use Rattle.std.specs.Str.{is_utf8}
use Rattle.std.proofs.Common.{ap, sym, arith}
use Rattle.std.proofs.lemmas.Bool.Decides.{nat_tests}
use Rattle.std.proofs.lemmas.Str.{IsUtf8-from_is_utf8, is_utf8-from_IsUtf8}
use Rattle.serde_json.specs.Data.{Data}
use Rattle.serde_json.specs.Read.{read}
use Rattle.serde_json.proofs.OnLiterals.{serde_json_on_literals}
use Rattle.canvas_json.specs.Json.{json_of}

-- a line that is text is what its text reads as
pub json_text : (line text : List ℕ) → text ≡ line → IsUtf8 line → json_of line ≡ read text
json_text line text same is = rw (is_utf8-from_IsUtf8 line is) (ap read (sym same))

pub json_some : (text : List ℕ) (d : Data) → IsUtf8 text → read text ≡ Some d → json_of text ≡ Some d
json_some text d is e = rw (is_utf8-from_IsUtf8 text is) e

json_none_at : (line : List ℕ) (b : Bool) → is_utf8 line ≡ b → (IsUtf8 line → read line ≡ None) → json_of line ≡ None
json_none_at line true e h = rw e (h (IsUtf8-from_is_utf8 line e))
json_none_at line false e h = rw e refl

pub json_none : (line : List ℕ) → (IsUtf8 line → read line ≡ None) → json_of line ≡ None
json_none line h = json_none_at line (is_utf8 line) refl h

read-nil : read [] ≡ None
unfolding serde_json_on_literals
read-nil = refl

-- an empty line is not JSON
pub json_empty : (line : List ℕ) → (length line == 0) ≡ true → json_of line ≡ None
json_empty [] e = json_none [] (λ text. read-nil)
json_empty (x ∷ rest) e = absurd (grind (arith, nat_tests))
