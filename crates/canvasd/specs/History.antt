-- The saved document after the edits of lines.
use Rattle.std.specs.Prelude.{◌≡◌, ℕ, List}
use Rattle.canvas_record.specs.declared.edits.Change.{Change}
use Rattle.canvas_record.specs.Contents.{Contents}
use Rattle.canvas_record.specs.History.{replay_of}
use Rattle.canvas_json.specs.Saved.{saved_text_of}
use Rattle.canvas_keep.specs.Telling.{Tells}

-- each line is an edit that is made where it stands, and the text is the document after all of them
abbrev pub IsSavedAfter : Contents → List (List ℕ) → List ℕ → Type 0
IsSavedAfter opening lines text = (changes : List Change) × Tells opening lines changes × (text ≡ saved_text_of (replay_of opening changes))
