-- How the parts of a header are told apart: each is counted from the front, and the next does not begin as it ends.
use Rattle.std.proofs.Common.{◌≡◌, ℕ, ◌+◌, ◌≤◌, ◌<◌, Bool, true, false, ◌&&◌, ◌||◌, cond, IsTrue, List, [], ◌∷◌, ◌++◌, length, take, drop, Option, Some, None, refl, sym, ◌∙◌, ap, append_assoc, suc, ◌==◌, nat_lt, arith}
use Rattle.std.proofs.lemmas.Bool.Decides.{nat_tests}
use Rattle.std.proofs.Math.Seq.{take-append_seam, drop-append_seam}
use Rattle.std.proofs.lemmas.Str.Parse.{digit_from_value}
use Rattle.std.specs.Char.{digit_value, is_ascii_digit}
use Rattle.std.proofs.lemmas.List.{take-append-drop}
use Rattle.std.proofs.lemmas.List.Folds.{length-prefix_len}
use Rattle.std.proofs.lemmas.Option.{cond_some}
use Rattle.std.specs.Cmp.Derive.{both_true}
use Rattle.std.specs.List.{list_all, prefix_len}
use Rattle.std.specs.Str.Parse.{AllDigits, digits_value}
use Rattle.canvas_ppm.specs.Header.{◌>>=◌, is_white, white_len, digits_len, after_white, number_at, field_at, after_one_white}
use Rattle.canvas_ppm.specs.File.{IsWhiteSpace, IsNumber, IsField}

-- what is counted of a list goes on where its first element passes
prefix_len-cons : {X : Type 0} (p : X → Bool) (x : X) (xs ys : List X) → IsTrue (p x && list_all p xs)
    → (IsTrue (list_all p xs) → prefix_len p (xs ++ ys) ≡ length xs) → cond (p x) (1 + prefix_len p (xs ++ ys)) 0 ≡ length (x ∷ xs)
prefix_len-cons p x xs ys all more =
    elim (p x) as (λ b. IsTrue (b && list_all p xs) → cond b (1 + prefix_len p (xs ++ ys)) 0 ≡ length (x ∷ xs)) [
      | true ↦ λ h. omega (arith, more h)
      | false ↦ λ h. cc
    ] all

-- where all of the first part passes, it is counted whole
pub prefix_len-all : {X : Type 0} (p : X → Bool) (xs ys : List X) → IsTrue (list_all p xs) → prefix_len p ys ≡ 0
    → prefix_len p (xs ++ ys) ≡ length xs
prefix_len-all p [] ys all stop = stop
prefix_len-all p (x ∷ xs) ys all stop = prefix_len-cons p x xs ys all (λ h. prefix_len-all p xs ys h stop)

-- a digit is no white space
digit_not_white : (byte : ℕ) → is_ascii_digit byte ≡ true → is_white byte ≡ false
digit_not_white byte digit = grind (arith, nat_tests, digit)

-- white space is no digit
pub white_not_digit : (byte : ℕ) → is_white byte ≡ true → is_ascii_digit byte ≡ false
white_not_digit byte white = grind (arith, nat_tests, white)

-- the first element passes, of a list of one or more that all pass
first_passes : (p : ℕ → Bool) (x : ℕ) (xs : List ℕ) → IsTrue (list_all p (x ∷ xs)) → p x ≡ true
first_passes p x xs all = elim (p x) as (λ b. IsTrue (b && list_all p xs) → b ≡ true) [ true ↦ λ h. refl | false ↦ λ h. h ] all

-- no white space stands before a number
white_len-number : (digits rest : List ℕ) → IsNumber digits → prefix_len is_white (digits ++ rest) ≡ 0
white_len-number [] rest number = absurd (omega arith)
white_len-number (x ∷ xs) rest number = rw (digit_not_white x (first_passes is_ascii_digit x xs number.2))

-- no digit stands before white space
digits_len-white : (white rest : List ℕ) → IsWhiteSpace white → prefix_len is_ascii_digit (white ++ rest) ≡ 0
digits_len-white [] rest space = absurd (omega arith)
digits_len-white (x ∷ xs) rest space = rw (white_not_digit x (first_passes is_white x xs space.1))

-- white space is taken off whole
after_white-append : (white rest : List ℕ) → IsWhiteSpace white → prefix_len is_white rest ≡ 0 → after_white (white ++ rest) ≡ Some rest
unfolding after_white
after_white-append white rest space stop =
    let counted : prefix_len is_white (white ++ rest) ≡ length white = prefix_len-all is_white white rest space.1 stop in
    let some : (length white == 0) ≡ false = grind (arith, nat_tests, space.0) in
    rw (counted, some, drop-append_seam white rest) refl

-- a number is taken off whole
number_at-append : (digits rest : List ℕ) → IsNumber digits → prefix_len is_ascii_digit rest ≡ 0
    → number_at (digits ++ rest) ≡ Some (digits_value 10 digits, rest)
unfolding number_at
number_at-append digits rest number stop =
    let counted : prefix_len is_ascii_digit (digits ++ rest) ≡ length digits = prefix_len-all is_ascii_digit digits rest number.2 stop in
    let some : (length digits == 0) ≡ false = grind (arith, nat_tests, number.0) in
    let few : nat_lt 9 (length digits) ≡ false = grind (arith, nat_tests, number.1) in
    rw (counted, some, few, take-append_seam digits rest, drop-append_seam digits rest) refl

-- white space and a number are taken off whole
pub field_at-append : (field rest : List ℕ) (n : ℕ) → IsField field n → prefix_len is_ascii_digit rest ≡ 0 → field_at (field ++ rest) ≡ Some (n, rest)
unfolding field_at
field_at-append field rest n is_field stop =
    rw (
      is_field.layout,
      append_assoc is_field.white is_field.digits rest,
      after_white-append is_field.white (is_field.digits ++ rest) is_field.white_space (white_len-number is_field.digits rest is_field.number),
      number_at-append is_field.digits rest is_field.number stop,
      is_field.value,
    ) refl

-- no digit stands before a field
pub digits_len-field : (field rest : List ℕ) (n : ℕ) → IsField field n → prefix_len is_ascii_digit (field ++ rest) ≡ 0
digits_len-field field rest n is_field =
    rw (is_field.layout, append_assoc is_field.white is_field.digits rest) (digits_len-white is_field.white (is_field.digits ++ rest) is_field.white_space)

-- a digit by its value
digit-value : (byte : ℕ) → digit_value byte < 10 → is_ascii_digit byte ≡ true
digit-value byte small = grind (arith, nat_tests, digit_from_value byte small)

-- digits by their values
pub list_all-digits : (digits : List ℕ) → AllDigits 10 digits → IsTrue (list_all is_ascii_digit digits)
list_all-digits [] all = refl
list_all-digits (x ∷ xs) all = both_true (digit-value x all.0) (list_all-digits xs all.1)

-- a part that was chosen, with the test that chose it
pub cond-some : {A : Type 0} (b : Bool) (x y : A) → cond b None (Some x) ≡ Some y → (b ≡ false) × (x ≡ y)
cond-some b x y h = elim b as (λ v. cond v None (Some x) ≡ Some y → (v ≡ false) × (x ≡ y)) [ true ↦ λ e. cc | false ↦ λ e. (refl, cc) ] h

-- two parts that were found
pub bind-some : {A B : Type 0} (o : Option A) (next : A → Option B) (y : B) → (o >>= next) ≡ Some y → (x : A) × (o ≡ Some x) × (next x ≡ Some y)
bind-some None next y h = cc
bind-some (Some x) next y h = (x, refl, h)

-- what is counted passes
list_all-counted : (p : ℕ → Bool) (xs : List ℕ) → IsTrue (list_all p (take (prefix_len p xs) xs))
list_all-counted p [] = refl
list_all-counted p (x ∷ xs) =
    elim (p x) as (λ b. p x ≡ b → IsTrue (list_all p (take (cond b (1 + prefix_len p xs) 0) (x ∷ xs)))) [
      | true ↦ λ passes. let e : 1 + prefix_len p xs ≡ suc (prefix_len p xs) = omega arith in rw e (both_true passes (list_all-counted p xs))
      | false ↦ λ stops. refl
    ] refl

-- what was taken off is white space
after_white-some : (bytes rest : List ℕ) → after_white bytes ≡ Some rest → (white : List ℕ) × IsWhiteSpace white × (bytes ≡ white ++ rest)
unfolding after_white
after_white-some bytes rest found =
    let counted = cond-some (white_len bytes == 0) (drop (white_len bytes) bytes) rest found in
    let len : length (take (white_len bytes) bytes) ≡ white_len bytes = length-prefix_len is_white bytes in
    let some : 1 ≤ length (take (white_len bytes) bytes) = grind (arith, nat_tests, counted.0, len) in (
      take (white_len bytes) bytes,
      (some, list_all-counted is_white bytes),
      sym (take-append-drop (white_len bytes) bytes) ∙ ap (λ t. take (white_len bytes) bytes ++ t) counted.1,
    )

-- what was taken off is a number
number_at-some : (bytes rest : List ℕ) (n : ℕ) → number_at bytes ≡ Some (n, rest)
    → (digits : List ℕ) × IsNumber digits × (digits_value 10 digits ≡ n) × (bytes ≡ digits ++ rest)
unfolding number_at
number_at-some bytes rest n found =
    let counted = cond-some {A = ℕ × List ℕ} ((digits_len bytes == 0) || nat_lt 9 (digits_len bytes))
    (digits_value 10 (take (digits_len bytes) bytes), drop (digits_len bytes) bytes) (n, rest) found in
    let len : length (take (digits_len bytes) bytes) ≡ digits_len bytes = length-prefix_len is_ascii_digit bytes in
    let some : 1 ≤ length (take (digits_len bytes) bytes) = grind (arith, nat_tests, counted.0, len) in
    let few : length (take (digits_len bytes) bytes) ≤ 9 = grind (arith, nat_tests, counted.0, len) in (
      take (digits_len bytes) bytes,
      (some, few, list_all-counted is_ascii_digit bytes),
      ap (λ (x : ℕ × List ℕ). x.0) counted.1,
      sym (take-append-drop (digits_len bytes) bytes) ∙ ap (λ (x : ℕ × List ℕ). take (digits_len bytes) bytes ++ x.1) counted.1,
    )

-- what was taken off is a field
pub field_at-some : (bytes rest : List ℕ) (n : ℕ) → field_at bytes ≡ Some (n, rest) → (field : List ℕ) × IsField field n × (bytes ≡ field ++ rest)
unfolding field_at
field_at-some bytes rest n found =
    let parts = bind-some (after_white bytes) number_at (n, rest) found in
    let white = after_white-some bytes parts.0 parts.1 in
    let number = number_at-some parts.0 rest n parts.2 in (
      white.0 ++ number.0,
      record { white = white.0; digits = number.0; layout = refl; white_space = white.1; number = number.1; value = number.2 },
      white.2 ∙ ap (λ t. white.0 ++ t) number.3 ∙ sym (append_assoc white.0 number.0 rest),
    )

-- what was taken off is one byte of white space
pub after_one_white-some : (bytes rest : List ℕ) → after_one_white bytes ≡ Some rest
    → (separator : ℕ) × IsTrue (is_white separator) × (bytes ≡ separator ∷ rest)
unfolding after_one_white
after_one_white-some [] rest found = cc
after_one_white-some (x ∷ xs) rest found =
    let one = cond_some (is_white x) xs rest found in (x, one.0, ap (λ t. x ∷ t) one.1)
