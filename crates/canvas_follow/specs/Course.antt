-- How a follower's line goes on by the lines of a feed.
use Rattle.std.specs.Prelude.{◌≡◌, ℕ, ◌+◌, List, [], ◌∷◌, length, Ok}
use Rattle.std.specs.List.{flat_map}
use Rattle.canvas_record.specs.declared.edits.Change.{Change}
use Rattle.canvas_record.specs.declared.edits.Edit.{Edit}
use Rattle.canvas_record.specs.Contents.{Contents}
use Rattle.canvas_record.specs.Damage.{damage_of}
use Rattle.canvas_record.specs.Decision.{decision_of}
use Rattle.canvas_record.specs.Effect.{new_id}
use Rattle.canvas_record.specs.History.{replay_of}
use Rattle.canvas_wire.specs.Requests.{request_of}
use Rattle.canvas_wire.specs.declared.request.Request.TheVariants as requests
use Rattle.canvas_feed.specs.Feed.{feed_line, feed_text, line_text}
use Rattle.canvas_keep.specs.Telling.{Replays}
use Rattle.canvas_line.specs.Lines.{Sight}

-- the document that a seat has seen
abbrev pub document_at : Sight → Contents
document_at s = replay_of s.opening s.front

-- The line, with its LF, is the one that a feed has for this edit, where it is accepted at the document as the one behind so many.
pub record TellsNext (d : Contents) (before : ℕ) (line : List ℕ) (edit : Edit) : Type 0 where
  pub text : List ℕ
  pub change : Change
  pub read : request_of text ≡ Ok (requests.Edit edit)
  pub decided : decision_of edit d ≡ Ok change
  pub same : line ≡ line_text (damage_of change d) text (new_id change) (before + 1)

-- The seat's front goes on by the one edit that the line tells, and the line is the one that this document's own feed has for it.
pub record Follows (s : Sight) (line : List ℕ) (t : Sight) : Type 0 where
  pub text : List ℕ
  pub replayed : Replays s (text ∷ []) t
  pub same : line ≡ feed_line (document_at s) (length s.front + 1) text

-- it goes on so by each of the lines in turn
abbrev pub FollowsAll : Sight → List (List ℕ) → Sight → Type 0
FollowsAll s [] t = t ≡ s
FollowsAll s (line ∷ lines) t = (m : Sight) × Follows s line m × FollowsAll m lines t

-- The bytes are the feed's text of lines that the seat replayed: each was accepted where it stands, in order, none is left out.
pub record IsFedBy (s : Sight) (bytes : List ℕ) (t : Sight) : Type 0 where
  pub texts : List (List ℕ)
  pub replayed : Replays s texts t
  pub same : bytes ≡ feed_text (document_at s) (length s.front) texts
