-- What an outlet's writer has and what the outlet holds are together.
use Rattle.std.proofs.Common.{◌≡◌, ℕ, ◌+◌, ◌-◌, ◌≤◌, List, [], ◌++◌, Option, None, Some, length, take, refl, sym, ap, ◌∙◌, arith, append_assoc, append-nil}
use Rattle.std.proofs.Math.Seq.{take-append-add}
use Rattle.std.specs.Io.KnownBytes.{Appends, append_known}

-- the first n bytes of two pieces, where all of the first are among them
take_over : (held bytes : List ℕ) (count n : ℕ) → count ≡ length held → count ≤ n → take n (held ++ bytes) ≡ held ++ take (n - count) bytes
take_over held bytes count n is over =
    let parts : n ≡ length held + (n - count) = omega arith in
    ap (λ k. take k (held ++ bytes)) parts ∙ take-append-add held bytes (n - count)

-- the writer took all that was held, and more behind it
pub sent_all : (a b : Option (List ℕ)) (held bytes left : List ℕ) (count n : ℕ) → count ≡ length held → count ≤ n → left ≡ [] → Appends a b (take n (held ++ bytes))
    → Appends (append_known a held) (append_known b left) (take (n - count) bytes)
sent_all None b held bytes left count n is over none wrote = tt
sent_all (Some x) None held bytes left count n is over none wrote = absurd wrote
sent_all (Some x) (Some y) held bytes left count n is over none wrote =
    ap (λ l. y ++ l) none ∙ append-nil y ∙ wrote ∙ ap (λ l. x ++ l) (take_over held bytes count n is over) ∙ sym (append_assoc x held (take (n - count) bytes))

-- an outlet that holds nothing
pub append_nothing : (a : Option (List ℕ)) (held : List ℕ) → held ≡ [] → append_known a held ≡ a
append_nothing None held none = refl
append_nothing (Some x) held none = ap (λ l. Some (x ++ l)) none ∙ ap Some (append-nil x)
