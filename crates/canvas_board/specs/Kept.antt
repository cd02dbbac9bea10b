-- The pictures that are kept.
use Rattle.std.specs.Prelude.{◌≡◌, ℕ, ◌+◌, ◌<◌, ◌≤◌, Bool, true, List, [], ◌++◌, All, Contains, Option, Some, None, length, if◌then◌else◌}
use Rattle.std.specs.Option.{ForSome}
use Rattle.std.specs.Arc.{arc_value}
use Rattle.lru.specs.LruCache.{LruCache}
use Rattle.canvas_plane.specs.declared.PageBox.{PageBox}
use Rattle.canvas_plane.specs.declared.windows.Window.{Window}
use Rattle.canvas_plane.specs.Page.{is_empty_box, meet_of}
use Rattle.canvas_plane.specs.Window.{covered_by}
use Rattle.canvas_record.specs.declared.edits.Change.{Change}
use Rattle.canvas_record.specs.Contents.{Contents, IsWellFormed}
use Rattle.canvas_record.specs.History.{replay_of}
use Rattle.canvas_line.specs.Lines.{Sight}
use Rattle.canvas_line.specs.Seats.{is_no_further}
use Rattle.canvas_line.specs.Recent.{damages_from}
use Rattle.canvas_line.specs.declared.version.Version.{Version}
use Rattle.canvas_line.specs.declared.recent.Damage.{Damage}
use Rattle.canvas_look.specs.declared.answers.Picture.{Picture}
use Rattle.canvas_board.specs.declared.window_key.WindowKey.{WindowKey}
use Rattle.canvas_look.specs.Raster.{file_of}

-- the level and the numbers of a window
abbrev pub key_of : Window → WindowKey
key_of window = record { level = window.level; x = window.x; y = window.y; w = window.w; h = window.h }

-- the box has no pixel of the page that the window covers
abbrev pub misses : Window → PageBox → Bool
misses window area = is_empty_box (meet_of area (covered_by window))

-- the damage of the last changes of a history, of no matter how many
abbrev pub IsEndOf : List Damage → Contents → List Change → Type 0
IsEndOf told opening changes = (before : List Damage) × (damages_from 0 opening changes ≡ before ++ told)

-- A picture of a window that was right at one version is right at a later one: the damage of each change between them is told,
-- and misses the window. Damage is that of changes up to the later version, so nothing is said of a newer picture.
pub record IsStillRight (told : List Damage) (kept_at number : ℕ) (window : Window) : Type 0 where
  pub later : kept_at ≤ number
  pub near : number ≤ kept_at + length told
  pub missed : All (λ damage. kept_at < damage.number → misses window damage.area ≡ true) told

-- the bytes are the file of each window with these numbers, as a well-formed document shows it
pub record IsPictureOf (document : Contents) (key : WindowKey) (bytes : List ℕ) : Type 0 where
  pub well_formed : IsWellFormed document
  pub shows : (window : Window) → key_of window ≡ key → bytes ≡ file_of document window

-- the document after all changes that a seat has seen
abbrev pub document_at : Sight → Contents
document_at seat = replay_of seat.opening seat.front

-- there is room for so many pictures, once there is any
abbrev pub HasRoom : ℕ → Option (LruCache WindowKey Sight) → Type 0
HasRoom most cache = ForSome cache (λ c. c.cap ≡ most)

-- the windows whose pictures are kept, each with what its line was then, the last used first
abbrev pub entries_of : Option (LruCache WindowKey Sight) → List (WindowKey × Sight)
entries_of None = []
entries_of (Some cache) = cache.entries

-- a picture of the window counts as kept at what a seat has seen
abbrev pub CountsAt : List (WindowKey × Sight) → Window → Sight → Type 0
CountsAt entries window seat = Contains entries (key_of window, seat)

-- the picture names the version, and is the file of the window as its document shows it
abbrev pub ShowsAt : Version → Window → Picture → Type 0
ShowsAt version window picture = (picture.version ≡ version.number) × ((arc_value picture.bytes).items ≡ file_of version.document window)

-- of what was seen of a line and what is seen now, the latter where it is of the same line and no older
abbrev pub further_of : Sight → Sight → Sight
further_of old new = if is_no_further old new then new else old
