-- A history grows at its end.
use Rattle.std.proofs.Common.{◌≡◌, List, [], ◌∷◌, ◌++◌, Option, Some, None, refl}
use Rattle.canvas_record.specs.declared.edits.Change.{Change}
use Rattle.canvas_record.specs.Contents.{Contents, IsWellFormed}
use Rattle.canvas_record.specs.Effect.{effect_of, Fits}
use Rattle.canvas_record.specs.History.{replay_of, AllFit, newest_or, last_change}

pub replay-append : (d : Contents) (a b : List Change) → replay_of d (a ++ b) ≡ replay_of (replay_of d a) b
replay-append d [] b = refl
replay-append d (c ∷ a) b = replay-append (effect_of c d) a b

pub replay-snoc : (d : Contents) (cs : List Change) (c : Change) → replay_of d (cs ++ c ∷ []) ≡ effect_of c (replay_of d cs)
replay-snoc d cs c = replay-append d cs (c ∷ [])

pub all_fit-snoc : (d : Contents) (cs : List Change) (c : Change) → AllFit d cs → Fits c (replay_of d cs) → AllFit d (cs ++ c ∷ [])
all_fit-snoc d [] c a f = (f, tt)
all_fit-snoc d (b ∷ cs) c a f = (a.0, all_fit-snoc (effect_of b d) cs c a.1 f)

pub all_fit-front : (d : Contents) (a b : List Change) → AllFit d (a ++ b) → AllFit d a × AllFit (replay_of d a) b
all_fit-front d [] b h = (tt, h)
all_fit-front d (c ∷ a) b h = let r = all_fit-front (effect_of c d) a b h.1 in ((h.0, r.0), r.1)

pub replay-well : (d : Contents) (cs : List Change) → IsWellFormed d → AllFit d cs → IsWellFormed (replay_of d cs)
replay-well d [] w a = w
replay-well d (c ∷ cs) w a = replay-well (effect_of c d) cs a.0.left a.1

newest-snoc : (older : Option Change) (cs : List Change) (c : Change) → newest_or older (cs ++ c ∷ []) ≡ Some c
newest-snoc older [] c = refl
newest-snoc older (b ∷ cs) c = newest-snoc (Some b) cs c

pub last-snoc : (cs : List Change) (c : Change) → last_change (cs ++ c ∷ []) ≡ Some c
last-snoc cs c = newest-snoc None cs c
