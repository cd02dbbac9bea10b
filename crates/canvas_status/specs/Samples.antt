-- Samples in the text format of Prometheus, 0.0.4: a line each.
use Rattle.std.specs.Prelude.{ℕ, ◌+◌, ◌/◌, ◌%◌, List, ◌++◌, codes, decimal, drop}

-- microseconds as seconds: whole ones, a point and six digits
unfoldable pub seconds_text : ℕ → List ℕ
seconds_text micros = decimal (micros / 1000000) ++ codes "." ++ drop 1 (decimal (1000000 + micros % 1000000))

-- a sample without a label
unfoldable pub plain : List ℕ → List ℕ → List ℕ
plain name value = name ++ codes " " ++ value ++ codes "\n"

-- a sample of one value of a label
unfoldable pub labelled : List ℕ → List ℕ → List ℕ → List ℕ → List ℕ
labelled name label of value = name ++ codes "{" ++ label ++ codes "=\"" ++ of ++ codes "\"} " ++ value ++ codes "\n"
