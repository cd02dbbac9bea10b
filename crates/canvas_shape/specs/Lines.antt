-- The line of an edge, followed from one shown row to the next.
use Rattle.std.specs.Prelude.{◌≡◌, ℕ, ◌+◌, ◌≤◌, ◌<◌, ◌^◌, ℤ, pos, ◌+ℤ◌, ◌-ℤ◌, ◌*ℤ◌, cond, int_lt}
use lib.IntN.{neg_ℤ}
use Rattle.canvas_plane.specs.declared.Point.{Point}
use Rattle.canvas_shape.specs.declared.line.Line.{Line}

-- the quotient of n by twice a height, rounded down, and what is left over
pub record IsDivided (n : ℤ) (height : ℕ) (whole : ℤ) (rest : ℕ) : Type 0 where
  pub value : ((whole *ℤ pos height) +ℤ (whole *ℤ pos height)) +ℤ pos rest ≡ n
  pub small : rest < height + height

-- a number that the edge has on its way from p to q, as it is on the way down the page
abbrev pub downward : Point → Point → ℤ → ℤ
downward p q n = cond (int_lt p.y q.y) n (neg_ℤ n)

-- how far the edge leans from p down to the row's centre line, with twice its height as a factor
abbrev pub lean_of : Point → Point → ℤ → ℤ
lean_of p q y = (pos 2 *ℤ y +ℤ pos 1 -ℤ pos 2 *ℤ p.y) *ℤ (q.x -ℤ p.x)

-- what the lean grows by on the way to a row so far below
abbrev pub lean_over : Point → Point → ℕ → ℤ
lean_over p q apart = (pos 2 *ℤ pos apart) *ℤ (q.x -ℤ p.x)

-- the line is that of the edge from p to q, in the row y of rows that lie so far apart
pub record Follows (p q : Point) (apart : ℕ) (y : ℤ) (line : Line) : Type 0 where
  pub x : line.x ≡ p.x
  pub height : pos line.height ≡ downward p q (q.y -ℤ p.y)
  pub positive : 0 < line.height
  pub low : line.height ≤ 2 ^ 28
  pub here : IsDivided ((downward p q (lean_of p q y) +ℤ pos line.height) -ℤ pos 1) line.height line.here.whole line.here.rest
  pub step : IsDivided (downward p q (lean_over p q apart)) line.height line.step.whole line.step.rest
