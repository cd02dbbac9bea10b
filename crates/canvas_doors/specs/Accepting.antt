-- Which faults of accepting a connection pass.
use Rattle.std.specs.Prelude.{ℤ, pos, Bool, false, ◌||◌, Option, None, Some}
use Rattle.std.specs.Ordering.{int_eq}

-- Linux's numbers: ENOMEM 12, ENFILE 23, EMFILE 24, ECONNABORTED 103, ENOBUFS 105
abbrev pub is_passing_number : ℤ → Bool
is_passing_number n = int_eq n (pos 12) || int_eq n (pos 23) || int_eq n (pos 24) || int_eq n (pos 103) || int_eq n (pos 105)

-- want of memory or of files, or a connection that was given up
abbrev pub is_passing : Option ℤ → Bool
is_passing None = false
is_passing (Some n) = is_passing_number n
