-- Edits at the ends of a list in chunks, steps over it from its ends, and what a move leaves.
use Rattle.std.proofs.Common.{◌≡◌, ◌∙◌, ◌+◌, ◌<◌, ◌≤◌, ℕ, List, ap, arith, length, get_or, slice_set, ◌^◌}
use Rattle.std.specs.List.{remove}
use Rattle.std.proofs.lemmas.List.{set-get_or}
use Rattle.std.proofs.lemmas.List.Edits.{length-remove}
use Rattle.canvas_list.specs.Chunks.{joined, IsTable}

-- an item may be put wherever there was one, once another is taken away
pub room-after : {X : Type 0} (xs left : List X) (from to : ℕ) → left ≡ remove xs from → from < length xs → to < length xs → to ≤ length left
room-after xs left from to e h k = omega (arith, ap length e, length-remove xs from h)

pub few-after : {X : Type 0} (cs : List (List X)) (xs left : List X) (n from : ℕ) → IsTable cs n → joined cs ≡ xs → left ≡ remove xs from → from < length xs → length left + 1 < 2 ^ 32
few-after cs xs left n from t all e h = omega (arith, t.has_len, t.is_small, ap length all, ap length e, length-remove xs from h)

-- a chunk that stays as it was
pub chunk-unchanged : {X : Type 0} (cs : List (List X)) (k : ℕ) (old new : List X) → new ≡ old → old ≡ get_or cs k old → slice_set cs k new ≡ cs
chunk-unchanged cs k old new e is = ap (λ c. slice_set cs k c) (e ∙ is) ∙ set-get_or cs k old
