use Rattle.std.proofs.Common.{◌≡◌, ℕ, ◌+◌, ◌-◌, ◌*◌, ◌^◌, ◌<◌, ◌≤◌, IsTrue, List, length, get_or, take, arith}
use Rattle.std.proofs.lemmas.Bool.Decides.{nat_tests}
use Rattle.std.proofs.lemmas.Grind.{common_steps}
use Rattle.std.proofs.lemmas.Int.Digits.{digits_value_more}
use Rattle.std.proofs.lemmas.Str.{digit_value_digit}
use Rattle.std.proofs.Math.Nat.{pow-le-pow_right}
use Rattle.std.specs.Char.{digit_value}
use Rattle.std.specs.Str.Parse.{digits_value}
use Rattle.std.specs.Char.{is_ascii_digit}

pub digit_low : (b : ℕ) → IsTrue (is_ascii_digit b) → 48 ≤ b
digit_low b h = grind (arith, nat_tests, h)

pub digit_high : (b : ℕ) → IsTrue (is_ascii_digit b) → b ≤ 57
digit_high b h = grind (arith, nat_tests, h)

pub small_power : (v i : ℕ) → v < 10 ^ i → i < 9 → v < 100_000_000
small_power v i small few =
    let p : 10 ^ i ≤ 10 ^ 8 = pow-le-pow_right {n = 10} (omega arith) {i = i} {j = 8} (omega arith) in omega arith

pub next_power : (v i d : ℕ) → v < 10 ^ i → d < 10 → v * 10 + d < 10 ^ (i + 1)
next_power v i d small digit = grind (arith, common_steps)

pub next_value : (bytes : List ℕ) (i v : ℕ) → i < length bytes → v ≡ digits_value 10 (take i bytes) → IsTrue (is_ascii_digit (get_or bytes i 0))
    → v * 10 + (get_or bytes i 0 - 48) ≡ digits_value 10 (take (i + 1) bytes)
next_value bytes i v here is digit =
    let low : 48 ≤ get_or bytes i 0 = digit_low (get_or bytes i 0) digit in
    let high : get_or bytes i 0 ≤ 57 = digit_high (get_or bytes i 0) digit in
    let d : digit_value (get_or bytes i 0) + 48 ≡ get_or bytes i 0 = digit_value_digit (get_or bytes i 0) (low, high) in
    omega (arith, digits_value_more 10 bytes i here)
