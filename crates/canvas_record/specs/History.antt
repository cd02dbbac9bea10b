-- The document after a history of changes.
use Rattle.std.specs.Prelude.{List, [], ◌∷◌, Option, Some, None}
use Rattle.canvas_record.specs.declared.edits.Change.{Change}
use Rattle.canvas_record.specs.Contents.{Contents}
use Rattle.canvas_record.specs.Effect.{effect_of, Fits}

-- the document after the changes, in order
abbrev pub replay_of : Contents → List Change → Contents
replay_of d [] = d
replay_of d (c ∷ cs) = replay_of (effect_of c d) cs

-- each change fits at its place
abbrev pub AllFit : Contents → List Change → Type 0
AllFit d [] = Unit {0}
AllFit d (c ∷ cs) = Fits c d × AllFit (effect_of c d) cs

-- the newest change, if there is one; `older` is the one before the list
abbrev pub newest_or : Option Change → List Change → Option Change
newest_or older [] = older
newest_or older (c ∷ cs) = newest_or (Some c) cs

abbrev pub last_change : List Change → Option Change
last_change cs = newest_or None cs
