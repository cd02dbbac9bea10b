-- What a span takes from the free spans of a row, and what it leaves.
use Rattle.std.specs.Prelude.{List, [], ◌∷◌, ◌++◌, cond, int_lt}
use Rattle.std.specs.Int.{int_max, int_min}
use Rattle.canvas_shape.specs.declared.Span.{Span}

-- the span, if it has a pixel
abbrev pub piece_of : Span → List Span
piece_of s = cond (int_lt s.from s.to) (s ∷ []) []

-- what of a free span lies in a span, before it and after it
abbrev pub common_of : Span → Span → Span
common_of span s = record { from = int_max s.from span.from; to = int_min s.to span.to }

abbrev pub before_of : Span → Span → Span
before_of span s = record { from = s.from; to = int_min s.to span.from }

abbrev pub after_of : Span → Span → Span
after_of span s = record { from = int_max s.from span.to; to = s.to }

-- the parts of free spans that lie in a span
abbrev pub taken_of : Span → List Span → List Span
taken_of span [] = []
taken_of span (s ∷ ss) = piece_of (common_of span s) ++ taken_of span ss

-- the parts of free spans before and after a span
abbrev pub rest_of : Span → List Span → List Span
rest_of span [] = []
rest_of span (s ∷ ss) = piece_of (before_of span s) ++ (piece_of (after_of span s) ++ rest_of span ss)
