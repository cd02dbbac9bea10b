-- The address that a word names.
use Rattle.std.specs.Prelude.{◌≡◌, ◌≢◌, ◌++◌, ℕ, List, codes}
use Rattle.canvasd.specs.declared.addresses.Address.{Address}
use Rattle.canvasd.specs.declared.addresses.Address.TheVariants.{Tcp, Unix}

-- a path behind `unix:`, else the word as it is
abbrev pub Names : List ℕ → Address → Type 0
Names word (Unix path) = word ≡ codes "unix:" ++ path.now
Names word (Tcp address) = (address.now ≡ word) × ((path : List ℕ) → word ≢ codes "unix:" ++ path)
