-- The text of a feed: one line for each change of a history, made from the lines of the journal.
use Rattle.std.specs.Prelude.{◌≡◌, ℕ, ℤ, ◌+◌, List, [], ◌∷◌, ◌++◌, length, take, codes, decimal, Option, Some, None, Result, Ok, Err}
use Rattle.std.specs.Fmt.{signed_decimal}
use Rattle.canvas_plane.specs.declared.PageBox.{PageBox}
use Rattle.canvas_record.specs.declared.edits.Change.{Change}
use Rattle.canvas_record.specs.declared.edits.Edit.{Edit}
use Rattle.canvas_record.specs.declared.refusals.Refusal.{Refusal}
use Rattle.canvas_record.specs.Contents.{Contents}
use Rattle.canvas_record.specs.Damage.{damage_of}
use Rattle.canvas_record.specs.Decision.{decision_of}
use Rattle.canvas_record.specs.Effect.{effect_of, new_id}
use Rattle.canvas_json.specs.Saved.{saved_text_of}
use Rattle.canvas_wire.specs.Requests.{request_of}
use Rattle.canvas_wire.specs.declared.request.Request.{Request}
use Rattle.canvas_wire.specs.declared.request.Request.TheVariants as requests
use Rattle.canvas_wire.specs.declared.fault.WireFault.{WireFault}

-- ---- the change that a line of the journal tells

abbrev pub change_in : Result Change Refusal → Option Change
change_in (Ok c) = Some c
change_in (Err why) = None

abbrev pub change_asked : Contents → Result Request WireFault → Option Change
change_asked d (Ok (requests.Edit e)) = change_in (decision_of e d)
change_asked d _ = None

-- the change that a line tells at a document, if it tells one
unfoldable pub change_told : Contents → List ℕ → Option Change
change_told d line = change_asked d (request_of line)

abbrev pub effect_told : Contents → Option Change → Contents
effect_told d (Some c) = effect_of c d
effect_told d None = d

-- the document after the lines
abbrev pub document_after : Contents → List (List ℕ) → Contents
document_after d [] = d
document_after d (line ∷ lines) = document_after (effect_told d (change_told d line)) lines

-- ---- the line that leaves of a change

-- two edges of a box
unfoldable pub edges_text : ℤ → ℤ → List ℕ
edges_text first second = signed_decimal first ++ codes "," ++ signed_decimal second

-- a box, from its left and top edges to its right and bottom ones
unfoldable pub box_text : PageBox → List ℕ
box_text b = codes "[" ++ edges_text b.left b.top ++ codes "," ++ edges_text b.right b.bottom ++ codes "]"

-- the id of a new shape, or null
unfoldable pub id_text : Option ℕ → List ℕ
id_text None = codes "null"
id_text (Some id) = decimal id

-- the line of a change with this damage, of this edit, that gave this id and made this version
unfoldable pub line_text : PageBox → List ℕ → Option ℕ → ℕ → List ℕ
line_text damage edit id version =
    codes "{\"damage\":" ++ box_text damage ++ codes ",\"edit\":" ++ edit ++ codes ",\"id\":" ++ id_text id ++ codes ",\"version\":" ++ decimal version ++ codes "}\n"

abbrev pub line_told : Contents → List ℕ → ℕ → Option Change → List ℕ
line_told d line version (Some c) = line_text (damage_of c d) line (new_id c) version
line_told d line version None = []

-- the line that leaves of a line of the journal, which made this version of the document
abbrev pub feed_line : Contents → ℕ → List ℕ → List ℕ
feed_line d version line = line_told d line version (change_told d line)

-- ---- the text of a history

-- the text of the lines behind so many versions
abbrev pub feed_text : Contents → ℕ → List (List ℕ) → List ℕ
feed_text d n [] = []
feed_text d n (line ∷ lines) = feed_line d (n + 1) line ++ feed_text (effect_told d (change_told d line)) (n + 1) lines

-- where each of them ends, in a text that has so many bytes before them
abbrev pub feed_ends : Contents → ℕ → ℕ → List (List ℕ) → List ℕ
feed_ends d n at [] = []
feed_ends d n at (line ∷ lines) = (at + length (feed_line d (n + 1) line)) ∷ feed_ends (effect_told d (change_told d line)) (n + 1) (at + length (feed_line d (n + 1) line)) lines

-- each line tells a change where it stands
abbrev pub IsTold : Option Change → Type 0 → Type 0
IsTold None more = ⊥
IsTold (Some c) more = more

abbrev pub AreTold : Contents → List (List ℕ) → Type 0
AreTold d [] = Unit {0}
AreTold d (line ∷ lines) = IsTold (change_told d line) (AreTold (effect_told d (change_told d line)) lines)

-- ---- the line of the document that a generation begins with

unfoldable pub opening_line : ℕ → Contents → List ℕ
opening_line generation d = codes "{\"generation\":" ++ decimal generation ++ codes ",\"opening\":" ++ saved_text_of d ++ codes "}\n"

-- the whole feed of a generation: its opening, and then a line for each version
unfoldable pub whole_feed : ℕ → Contents → List (List ℕ) → List ℕ
whole_feed generation d lines = opening_line generation d ++ feed_text d 0 lines

-- where its text ends that tells of so many versions
unfoldable pub place_behind : ℕ → Contents → List (List ℕ) → ℕ → ℕ
place_behind generation d lines n = length (opening_line generation d ++ feed_text d 0 (take n lines))

-- where each of its lines ends
unfoldable pub whole_ends : ℕ → Contents → List (List ℕ) → List ℕ
whole_ends generation d lines = length (opening_line generation d) ∷ feed_ends d 0 (length (opening_line generation d)) lines

-- ---- what a scribe tells

-- a scribe: its document, how many versions and how many bytes were told, and the lines on its page with their ends
pub record Scribing : Type 0 where
  pub document : Contents
  pub version : ℕ
  pub end : ℕ
  pub text : List ℕ
  pub ends : List ℕ

-- the scribe tells these lines of the journal, all of them, in order, and no others
pub record Tells (lines : List (List ℕ)) (a b : Scribing) : Type 0 where
  pub told : AreTold a.document lines
  pub document : b.document ≡ document_after a.document lines
  pub version : b.version ≡ a.version + length lines
  pub end : b.end ≡ a.end + length (feed_text a.document a.version lines)
  pub text : b.text ≡ a.text ++ feed_text a.document a.version lines
  pub ends : b.ends ≡ a.ends ++ feed_ends a.document a.version a.end lines
