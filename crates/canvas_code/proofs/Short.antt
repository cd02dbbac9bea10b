-- No name is longer than 16 bytes.
use Rattle.std.proofs.Common.{ℕ, ◌≤◌, ◌==◌, Bool, true, false, cond, List, [], ◌∷◌, length, lit≤}
use Rattle.canvas_code.specs.Names.{table, name_in, name_of}

short_if : (b : Bool) (x y : List ℕ) → length x ≤ 16 → length y ≤ 16 → length (cond b x y) ≤ 16
short_if true x y hx hy = hx
short_if false x y hx hy = hy

abbrev AllShort : List (ℕ × List ℕ) → Type 0
AllShort [] = Unit {0}
AllShort (row ∷ rows) = (length row.1 ≤ 16) × AllShort rows

name_in_short : (rows : List (ℕ × List ℕ)) (code : ℕ) → AllShort rows → length (name_in rows code) ≤ 16
name_in_short [] code h = lit≤ tt
name_in_short (row ∷ rows) code h = short_if (code == row.0) row.1 (name_in rows code) h.0 (name_in_short rows code h.1)

all_short : AllShort table
all_short = (lit≤ tt, (lit≤ tt, (lit≤ tt, (lit≤ tt, (lit≤ tt, (lit≤ tt, (lit≤ tt, (lit≤ tt, (lit≤ tt, (lit≤ tt, (lit≤ tt, (lit≤ tt, (lit≤ tt, (lit≤ tt, (lit≤ tt, (lit≤ tt, (lit≤ tt, (lit≤ tt, (lit≤ tt, (lit≤ tt, (lit≤ tt, (lit≤ tt, (lit≤ tt, (lit≤ tt, (lit≤ tt, (lit≤ tt, (lit≤ tt, (lit≤ tt, (lit≤ tt, (lit≤ tt, (lit≤ tt, (lit≤ tt, (lit≤ tt, (lit≤ tt, (lit≤ tt, (lit≤ tt, (lit≤ tt, (lit≤ tt, (lit≤ tt, (lit≤ tt, (lit≤ tt, (lit≤ tt, (lit≤ tt, (lit≤ tt, (lit≤ tt, (lit≤ tt, (lit≤ tt, tt)))))))))))))))))))))))))))))))))))))))))))))))

pub name_short : (code : ℕ) → length (name_of code) ≤ 16
unfolding name_of
name_short code = name_in_short table code all_short
