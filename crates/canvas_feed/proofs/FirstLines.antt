-- The line with which a connection begins, as it is read.
use Rattle.std.proofs.Common.{◌≡◌, ℕ, ◌+◌, ◌<◌, ◌≤◌, List, ◌∷◌, ◌++◌, Option, length, take, drop, get_or, true, sym, subst, ap, ◌∙◌, arith}
use Rattle.std.proofs.KnownBytes.{Consumes-trans}
use Rattle.std.proofs.Math.Seq.{take-add}
use Rattle.std.proofs.lemmas.Bool.Decides.{nat_tests}
use Rattle.std.proofs.lemmas.List.{drop_more, length-take, take-take, take-append-drop}
use Rattle.std.specs.Io.KnownBytes.{Consumes}
use Rattle.memchr.specs.Find.{is_byte}

-- a read behind the first bytes
pub read_on : (a b c : Option (List ℕ)) (old new : List ℕ) (at n : ℕ) → take at new ≡ take at old → Consumes a b (take at old) → Consumes b c (take n (drop at new)) → Consumes a c (take (at + n) new)
read_on a b c old new at n same first second = rw (take-add at n new, same) (Consumes-trans a b c (take at old) (take n (drop at new)) first second)

is_ten : (b : ℕ) → is_byte 10 b ≡ true → b ≡ 10
is_ten b test = grind (arith, nat_tests)

-- an LF was found among the bytes that were read
pub line_read : (a c : Option (List ℕ)) (line known : List ℕ) (count end : ℕ) → known ≡ take count line → end < length known → is_byte 10 (get_or known end 0) ≡ true → Consumes a c (take count line)
    → (behind : List ℕ) × Consumes a c (take end line ++ 10 ∷ behind)
line_read a c line known count end is within test read =
    let less : end ≤ count = omega (arith, within, ap length is, length-take count line) in
    let front : take end known ≡ take end line = ap (take end) is ∙ take-take end count line less in
    let parts : known ≡ take end line ++ 10 ∷ drop (end + 1) known =
    sym (take-append-drop end known) ∙ ap (λ l. l ++ drop end known) front
    ∙ ap (λ l. take end line ++ l) (drop_more known end 0 within ∙ ap (λ k. k ∷ drop (end + 1) known) (is_ten (get_or known end 0) test)) in
    (drop (end + 1) known, subst (λ l. Consumes a c l) (sym is ∙ parts) read)
