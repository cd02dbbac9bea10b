-- A version at the end of a history.
use Rattle.std.specs.Prelude.{ℕ, ◌≡◌, ◌≤◌, List, length}
use Rattle.canvas_record.specs.declared.edits.Change.{Change}
use Rattle.canvas_record.specs.Contents.{Contents}
use Rattle.canvas_record.specs.History.{replay_of, AllFit, last_change}
use Rattle.canvas_line.specs.declared.version.Version.{Version}
use Rattle.canvas_line.specs.Recent.{recent_of}
use Rattle.canvas_line.specs.Trails.{Facts}

-- what is published: the line's facts, its history, and the version at its end
pub record Shown : Type 0 where
  pub facts : Facts
  pub changes : List Change
  pub version : Version

-- The version is that after the changes, each of which fits where it stands.
pub record IsVersionOf (opening : Contents) (limit : ℕ) (changes : List Change) (v : Version) : Type 0 where
  pub number : v.number ≡ length changes
  pub change : v.change ≡ last_change changes
  pub document : v.document ≡ replay_of opening changes
  pub fits : AllFit opening changes
  pub within : length changes ≤ limit
  pub recent : v.recent ≡ recent_of opening changes
