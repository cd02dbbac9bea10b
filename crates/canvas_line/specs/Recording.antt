-- The edits that made a history, and those of them that were not taken yet.
use Rattle.std.specs.Prelude.{ℕ, ◌≡◌, ◌<◌, ◌≤◌, List, [], ◌∷◌, length, take, drop, Ok, Option, Some, None, MatchOption, vec_len}
use Rattle.std.specs.Vec.{vec_capacity}
use Rattle.canvas_record.specs.declared.edits.Change.{Change}
use Rattle.canvas_record.specs.declared.edits.Edit.{Edit}
use Rattle.canvas_record.specs.Contents.{Contents}
use Rattle.canvas_record.specs.Decision.{decision_of}
use Rattle.canvas_record.specs.Effect.{effect_of}
use Rattle.canvas_record.specs.History.{replay_of}
use Rattle.canvas_line.specs.declared.recorder.Recorder.{Recorder}

-- each edit is decided as its change, at the document where it stands
abbrev pub Makes : Contents → List Edit → List Change → Type 0
Makes d [] [] = Unit {0}
Makes d (e ∷ es) (c ∷ cs) = (decision_of e d ≡ Ok c) × Makes (effect_of c d) es cs
Makes d [] (c ∷ cs) = ⊥
Makes d (e ∷ es) [] = ⊥

-- the edits make all changes of a history but the first so many
abbrev pub MakesRest : Contents → List Change → ℕ → List Edit → Type 0
MakesRest opening h taken es = (taken ≤ length h) × Makes (replay_of opening (take taken h)) es (drop taken h)

-- taken and pending edits together make the history: of the first `taken` changes the edits were taken, those of all others are
-- pending. Where the line does not record, none are pending
abbrev pub Records : Contents → List Change → Option ℕ → List Edit → Type 0
Records opening h None es = es ≡ []
Records opening h (Some taken) es = MakesRest opening h taken es

-- what an edit adds to what is pending once it is accepted
abbrev pub noted : Option ℕ → Edit → List Edit
noted None e = []
noted (Some taken) e = e ∷ []

-- the copy is one of the edit, and there is room for it, where the line records
abbrev pub Awaits : Recorder → Edit → Option Edit → Type 0
Awaits r e copy = MatchOption r.taken (copy ≡ None) (λ _. (copy ≡ Some e) × (vec_len r.edits < vec_capacity r.edits))
