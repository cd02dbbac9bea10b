-- Bits of words.
use Rattle.std.specs.Prelude.{ℕ, Bool, ◌==◌}
use Rattle.std.specs.Int.{bit_at}

-- the word has the bit
unfoldable pub has : ℕ → ℕ → Bool
has word i = bit_at word i == 1
