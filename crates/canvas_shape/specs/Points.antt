-- When two lists of vertices are the same.
use Rattle.std.specs.Prelude.{List, Bool}
use Rattle.std.specs.Ordering.{eq_of_both, int_eq, on}
use Rattle.std.specs.Cmp.{IsPartialEquivalence, and_per, on_per, partial_equiv_from_equiv, int_eq_equiv}
use Rattle.std.specs.Cmp.Lexicographic.{pointwise, lists_per}
use Rattle.canvas_plane.specs.declared.Point.{Point}

-- both coordinates are the same
abbrev pub same_point : Point → Point → Bool
same_point = eq_of_both (on (λ p. p.x) int_eq) (on (λ p. p.y) int_eq)

-- as many vertices, each the same as its like
abbrev pub same_points : List Point → List Point → Bool
same_points = pointwise same_point

pub same_points-law : IsPartialEquivalence same_points
same_points-law = lists_per (and_per (on_per (λ p. p.x) (partial_equiv_from_equiv int_eq_equiv)) (on_per (λ p. p.y) (partial_equiv_from_equiv int_eq_equiv)))
