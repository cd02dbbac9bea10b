-- Strips of a picture.
use Rattle.std.specs.Prelude.{◌≡◌, ℕ, ◌+◌, ◌*◌, ◌/◌, ◌<◌, IfOk, List, Result, Vec, slice_index_or}
use Rattle.std.specs.Global.{Global}
use Rattle.canvas_code.specs.declared.memory.OutOfMemory.{OutOfMemory}
use Rattle.canvas_plane.specs.declared.windows.Window.{Window}
use Rattle.canvas_paint.specs.declared.item.Item.{Item}
use Rattle.canvas_paint.specs.Items.{last_colour}
use Rattle.canvas_paint.specs.Pictures.{rows_of}

-- where the k-th of n strips of h rows begins
abbrev pub strip_start : ℕ → ℕ → ℕ → ℕ
strip_start h k n = k * h / n

-- the bytes are those of the k-th of n strips of a window
abbrev pub IsStrip : List Item → Window → ℕ → ℕ → List ℕ → Type 0
IsStrip items window k n bytes = bytes ≡ rows_of (last_colour items) window (strip_start window.h k n) (strip_start window.h (k + 1) n)

-- what was painted is the n strips of a window, in order
abbrev pub AreStrips : List Item → Window → ℕ → List (Result (Vec ℕ Global) OutOfMemory) → Type 0
AreStrips items window n strips = (k : ℕ) (d : Result (Vec ℕ Global) OutOfMemory) → k < n → IfOk (slice_index_or strips k d) (λ bytes. IsStrip items window k n bytes.items)
