-- No LF stands in a compact JSON text.
use Rattle.std.proofs.Common.{◌≡◌, ℕ, zero, suc, ◌/◌, ◌%◌, ◌<◌, ◌==◌, ℤ, pos, negsuc, Bool, true, false, List, [], ◌∷◌, ◌++◌, inl, inr, refl, ◌∙◌, arith, decimal, if◌then◌else◌}
use Rattle.std.specs.Prelude.{not, ◌&&◌}
use Rattle.std.specs.Fmt.{digits, digits_onto, digit_glyph, signed_decimal}
use Rattle.std.specs.List.{list_all}
use Rattle.std.proofs.lemmas.Bool.{and_parts, and_from, cases_lt, cases_eq}
use Rattle.std.proofs.lemmas.Bool.Decides.{nat_tests}
use Rattle.std.proofs.lemmas.List.Folds.{list_all-append}
use Rattle.json.specs.Print.{escape, escape_byte, quoted}
use Rattle.json.proofs.Printed.Strings.{escape_byte_plain}
use Rattle.serde_json.specs.Data.{Data, null, boolean, number, string, array, object, Num, unsigned, negative, float, Items, no_items, item, Members, no_members, member}
use Rattle.serde_json.specs.Written.{compact_text, items_text, members_text, comma_if, number_text}
use Rattle.canvas_wire.specs.EditTexts.{IsOneLine}

abbrev is_other : ℕ → Bool
is_other x = not (x == 10)

abbrev are_other : List ℕ → Bool
are_other xs = list_all is_other xs

both : (xs ys : List ℕ) → are_other xs ≡ true → are_other ys ≡ true → are_other (xs ++ ys) ≡ true
both xs ys a b = list_all-append is_other xs ys ∙ and_from _ _ a b

then-other : (x : ℕ) (xs : List ℕ) → 10 < x → are_other xs ≡ true → are_other (x ∷ xs) ≡ true
then-other x xs above h = and_from _ _ (grind (arith, nat_tests)) h

-- ---- numbers

glyph-above : (d : ℕ) → 10 < digit_glyph false d
glyph-above d = elim (cases_lt d 10) [ inl small ↦ grind (arith, nat_tests) | inr big ↦ grind (arith, nat_tests) ]

either : (b : Bool) (x y : List ℕ) → are_other x ≡ true → are_other y ≡ true → are_other (if b then x else y) ≡ true
either true x y hx hy = hx
either false x y hx hy = hy

digits-other : (k n : ℕ) (acc : List ℕ) → are_other acc ≡ true → are_other (digits_onto k 10 false n acc) ≡ true
digits-other zero n acc h = h
digits-other (suc k) n acc h =
    let more : are_other (digit_glyph false (n % 10) ∷ acc) ≡ true = then-other (digit_glyph false (n % 10)) acc (glyph-above (n % 10)) h in
    either (n / 10 == 0) (digit_glyph false (n % 10) ∷ acc) (digits_onto k 10 false (n / 10) (digit_glyph false (n % 10) ∷ acc)) more
    (digits-other k (n / 10) (digit_glyph false (n % 10) ∷ acc) more)

decimal-other : (n : ℕ) → are_other (decimal n) ≡ true
unfolding digits
decimal-other n = digits-other 64 n [] refl

signed-other : (z : ℤ) → are_other (signed_decimal z) ≡ true
signed-other (pos n) = decimal-other n
signed-other (negsuc n) = then-other 45 (decimal (suc n)) (omega arith) (decimal-other (suc n))

number-other : (n : Num) → are_other (number_text n) ≡ true
number-other (unsigned n) = decimal-other n
number-other (negative z) = signed-other z
number-other (float x) = refl

-- ---- texts

-- the escapes of the bytes below n have no LF
abbrev escapes_below : ℕ → Bool
escapes_below zero = true
escapes_below (suc n) = are_other (escape_byte n) && escapes_below n

escape_below : (n : ℕ) → escapes_below n ≡ true → (x : ℕ) → x < n → are_other (escape_byte x) ≡ true
escape_below zero e x h = absurd (omega arith)
escape_below (suc n) e x h =
    let p = and_parts _ _ e in
    elim (cases_eq x n) [ inl same ↦ rw same p.0 | inr other ↦ escape_below n p.1 x (omega arith) ]

low-other : escapes_below 128 ≡ true
unfolding escape_byte
low-other = refl

byte-other : (x : ℕ) → are_other (escape_byte x) ≡ true
byte-other x = elim (cases_lt x 128) [
  | inl small ↦ escape_below 128 low-other x small
  | inr big ↦ rw (escape_byte_plain x (λ e. omega arith) (λ e. omega arith) (omega arith)) (then-other x [] (omega arith) refl)
]

escape-other : (s : List ℕ) → are_other (escape s) ≡ true
escape-other [] = refl
escape-other (x ∷ s) = both (escape_byte x) (escape s) (byte-other x) (escape-other s)

quoted-other : (s : List ℕ) → are_other (quoted s) ≡ true
quoted-other s = then-other 34 (escape s ++ 34 ∷ []) (omega arith) (both (escape s) (34 ∷ []) (escape-other s) refl)

comma-other : (later : Bool) → are_other (comma_if later) ≡ true
comma-other true = refl
comma-other false = refl

boolean-other : (b : Bool) → are_other (compact_text (boolean b)) ≡ true
boolean-other true = refl
boolean-other false = refl

-- ---- values

mutual
  data-other : (d : Data) → are_other (compact_text d) ≡ true
  data-other null = refl
  data-other (boolean b) = boolean-other b
  data-other (number n) = number-other n
  data-other (string s) = quoted-other s
  data-other (array ds) = then-other 91 (items_text false ds) (omega arith) (items-other false ds)
  data-other (object ms) = then-other 123 (members_text false ms) (omega arith) (members-other false ms)

  items-other : (later : Bool) (ds : Items) → are_other (items_text later ds) ≡ true
  items-other later no_items = refl
  items-other later (item d ds) =
      both (comma_if later) (compact_text d ++ items_text true ds) (comma-other later) (both (compact_text d) (items_text true ds) (data-other d) (items-other true ds))

  members-other : (later : Bool) (ms : Members) → are_other (members_text later ms) ≡ true
  members-other later no_members = refl
  members-other later (member k d ms) =
      let rest : List ℕ = compact_text d ++ members_text true ms in
      both (comma_if later) (quoted k ++ 58 ∷ rest) (comma-other later)
      (both (quoted k) (58 ∷ rest) (quoted-other k) (then-other 58 rest (omega arith) (both (compact_text d) (members_text true ms) (data-other d) (members-other true ms))))

each-other : (xs : List ℕ) → are_other xs ≡ true → IsOneLine xs
each-other [] h k lt = absurd (omega arith)
each-other (x ∷ xs) h zero lt = let p = and_parts (is_other x) (are_other xs) h in let first : is_other x ≡ true = p.0 in grind (arith, nat_tests)
each-other (x ∷ xs) h (suc k) lt = let p = and_parts (is_other x) (are_other xs) h in each-other xs p.1 k (omega arith)

-- a compact text has one line
pub one-line : (d : Data) → IsOneLine (compact_text d)
one-line d = each-other (compact_text d) (data-other d)
