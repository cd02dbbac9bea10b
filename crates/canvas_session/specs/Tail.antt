-- The bytes that follow the line of an answer.
use Rattle.std.specs.Prelude.{ℕ, List, []}
use Rattle.std.specs.Arc.{arc_value}
use Rattle.canvas_session.specs.declared.answer.Tail.{Tail}
use Rattle.canvas_session.specs.declared.answer.Tail.TheVariants.{Nothing, Shared}

abbrev pub tail_bytes : Tail → List ℕ
tail_bytes Nothing = []
tail_bytes (Shared bytes) = (arc_value bytes).items
