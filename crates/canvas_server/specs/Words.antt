-- What the words behind the program's name ask for.
use Rattle.std.specs.Prelude.{ℕ, List, [], ◌∷◌, ◌+◌, ◌-◌, ◌&&◌, Option, Some, None, codes, nat_le, option_map, Bool, if◌then◌else◌}
use Rattle.std.specs.Borrow.{Bor}
use Rattle.std.specs.Str.{bytes_eq}
use Rattle.canvas_server.specs.declared.words.Command.{Command}
use Rattle.canvas_server.specs.declared.words.Command.TheVariants.{Script, Serve}

-- a word: a text that stands elsewhere
abbrev pub Word : Type 0
Word = Bor (List ℕ)

-- a byte from one digit up to another
abbrev pub is_digit_within : ℕ → ℕ → ℕ → Bool
is_digit_within first last byte = nat_le (48 + first) byte && nat_le byte (48 + last)

-- a number of workers from 1 to 16, as one or two decimal digits without a leading zero
abbrev pub workers_named : List ℕ → Option ℕ
workers_named [] = None
workers_named (d ∷ []) = if is_digit_within 1 9 d then Some (d - 48) else None
workers_named (d ∷ e ∷ []) = if is_digit_within 1 1 d && is_digit_within 0 6 e then Some (10 + (e - 48)) else None
workers_named (d ∷ e ∷ f ∷ rest) = None

-- the workers that no word or one word asks for: two where no number is named
abbrev pub workers_asked : List Word → Option ℕ
workers_asked [] = Some 2
workers_asked (number ∷ []) = workers_named number.now
workers_asked (number ∷ word ∷ rest) = None

-- a run over standard input
abbrev pub script_named : List Word → Option Command
script_named words = option_map Script (workers_asked words)

-- a server at an address, of a document in a file
abbrev pub serve_named : List Word → Option Command
serve_named [] = None
serve_named (address ∷ []) = None
serve_named (address ∷ file ∷ rest) = option_map (Serve address file) (workers_asked rest)

-- the command of a list of words, if it is one
abbrev pub command_named : List Word → Option Command
command_named [] = None
command_named (verb ∷ rest) =
    if bytes_eq verb.now (codes "script") then script_named rest
    else (if bytes_eq verb.now (codes "serve") then serve_named rest else None)
