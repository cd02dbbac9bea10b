-- What comes next in a session.
use Rattle.std.specs.Prelude.{◌≡◌, ℕ, ◌<◌, ◌≤◌, List, [], length, slice_index, Option}
use Rattle.std.specs.Io.KnownBytes.{IsAtEnd}
use Rattle.canvas_session.specs.Line.{LacksLf, HasNoLf}
use Rattle.canvas_session.specs.declared.next.Interruption.{Interruption}
use Rattle.canvas_session.specs.declared.next.Interruption.TheVariants.{Read, Write}
use Rattle.canvas_session.specs.declared.next.Next.{Next}
use Rattle.canvas_session.specs.declared.next.Next.TheVariants.{Line, End, Cut, TooLong}

-- what the pending bytes and the reader's rest say of it
abbrev pub IsNext : Next → List ℕ → Option (List ℕ) → Type 0
IsNext (Line n) pending rest = (n ≤ 65536) × (n < length pending) × LacksLf n pending × (slice_index pending n ≡ 10)
IsNext End pending rest = (pending ≡ []) × IsAtEnd rest
IsNext Cut pending rest = (0 < length pending) × (length pending ≤ 65536) × HasNoLf pending × IsAtEnd rest
IsNext TooLong pending rest = (length pending ≡ 65537) × HasNoLf pending

-- what is pending where the wait for a line ends early: the beginning of a line
abbrev pub IsInterrupted : Interruption → List ℕ → Type 0
IsInterrupted Read pending = HasNoLf pending × (length pending ≤ 65536)
IsInterrupted Write pending = HasNoLf pending
