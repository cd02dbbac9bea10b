use Rattle.std.proofs.Common.{◌≡◌, ℕ, ◌+◌, ◌≤◌, min, List, [], ◌++◌, Option, None, Some, length, take, ap, subst, sym, ◌∙◌, arith}
use Rattle.std.specs.Prelude.{IfSome, IfOk, Result, Ok, Err, option_map}
use Rattle.std.proofs.lemmas.List.{length-take, take_all}

all_taken : (most : ℕ) (known : Option (List ℕ)) (text : List ℕ) → length text ≤ most → IfSome (option_map (take (most + 1)) known) (λ xs. text ≡ xs) → IfSome known (λ bytes. text ≡ bytes)
all_taken most None text few came = came
all_taken most (Some bytes) text few came =
    let len : length text ≡ min (most + 1) (length bytes) = ap length came ∙ length-take (most + 1) bytes in
    came ∙ take_all (most + 1) bytes (omega (arith, len, few))

-- of known bytes at most one more than some were taken, and no more than these came: they are all
pub all_came : (most : ℕ) (known taken : Option (List ℕ)) (old text : List ℕ) → taken ≡ option_map (take (most + 1)) known → old ≡ [] → length text ≤ most
    → IfSome taken (λ xs. text ≡ old ++ xs) → IfSome known (λ bytes. text ≡ bytes)
all_came most known taken old text e none few came =
    let came' : IfSome (option_map (take (most + 1)) known) (λ xs. text ≡ xs) = rw (← e) (rw none at came) in
    all_taken most known text few came'

-- the same of a text that was limited to so many
pub all_limited : {T E : Type 0} (items : T → List ℕ) (most : ℕ) (known taken : Option (List ℕ)) (old text : List ℕ) (r : Result T E) → IfOk r (λ t. length (items t) ≤ most) → IfOk r (λ t. items t ≡ text)
    → taken ≡ option_map (take (most + 1)) known → old ≡ [] → IfSome taken (λ xs. text ≡ old ++ xs) → IfOk r (λ t. IfSome known (λ bytes. items t ≡ bytes))
all_limited items most known taken old text (Err x) few same e none came = tt
all_limited items most known taken old text (Ok t) few same e none came =
    let P : List ℕ → Type 0 = λ xs. length xs ≤ most in
    let Q : List ℕ → Type 0 = λ xs. IfSome known (λ bytes. xs ≡ bytes) in
    subst Q (sym same) (all_came most known taken old text e none (subst P same few) came)
