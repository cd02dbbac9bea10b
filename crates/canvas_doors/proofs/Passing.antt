-- What a writer behind a gate has handed on, after a write.
use Rattle.std.proofs.Common.{◌≡◌, ℕ, ◌+◌, ◌≤◌, List, ◌++◌, Option, Result, Ok, Err, OnOk, length, take, subst, ap, ◌∙◌, arith, inr}
use Rattle.std.proofs.KnownBytes.{Appends-trans, Appends-kept}
use Rattle.std.proofs.Math.Logic.{∥∥₁_elim, ∥∥₁_map, ∥∥₁_prop}
use Rattle.std.proofs.lemmas.List.{length-append, length-take-le}
use Rattle.std.specs.Io.KnownBytes.{Appends, Keeps}
use Rattle.canvas_doors.specs.Gate.{HasPassed}

-- the writer kept its bytes
pub passed_same : (settled : ℕ → Type 0) (begun old new : Option (List ℕ)) (n : ℕ) → ∥ HasPassed settled begun old n ∥₁ → Keeps old new → ∥ HasPassed settled begun new n ∥₁
passed_same settled begun old new n has kept = ∥∥₁_map has (λ h. (h.0, Appends-kept begun old new h.0 h.1 kept, h.2, h.3))

-- the writer took some of a piece, and all was settled up to the end of that
pub passed_more : (settled : ℕ → Type 0) (begun old new : Option (List ℕ)) (n count : ℕ) (piece : List ℕ) → ∥ HasPassed settled begun old n ∥₁ → ∥ settled (n + length piece) ∥₁
    → count ≤ length piece → Appends old new (take count piece) → ∥ HasPassed settled begun new (n + count) ∥₁
passed_more settled begun old new n count piece has asked within wrote =
    let longer : n + count ≤ n + length piece = omega (arith, within) in
    ∥∥₁_elim has ∥∥₁_prop (λ h. ∥∥₁_map asked (λ s. (
      h.0 ++ take count piece,
      Appends-trans begun old new h.0 (take count piece) h.1 wrote,
      length-append h.0 (take count piece) ∙ ap (λ k. k + length (take count piece)) h.2 ∙ ap (λ k. n + k) (length-take-le count piece within),
      inr (n + length piece, longer, s),
    )))

-- what a gate has settled is settled
pub passed_on : {T E : Type 0} (gate settled : ℕ → Type 0) (result : Result T E) (n m : ℕ) → ∥ ((k : ℕ) → gate k → settled k) ∥₁ → n ≡ m → OnOk result (gate n) → OnOk result (∥ settled m ∥₁)
passed_on gate settled (Ok x) n m tells same asked = ∥∥₁_map tells (λ t. t m (subst gate same asked))
passed_on gate settled (Err e) n m tells same asked = tt
