-- What a request asks for. The heads of requests are those of RFC 9112, as `httparse` has them.
use Rattle.std.specs.Prelude.{◌≡◌, ℕ, ◌<◌, ◌≤◌, ◌⊎◌, ◌==◌, not, List, take, length, codes, Option, Some, None, if◌then◌else◌}
use Rattle.std.specs.List.{prefix_len}
use Rattle.std.specs.Str.{bytes_eq}
use Rattle.httparse.specs.Grammar.{RequestHead, ReadsRequest, HasNoRequest, NeverHasRequest, MayBecomeRequest}
use Rattle.httparse.specs.Spans.{RequestExceeds}
use Rattle.canvas_status.specs.declared.head.Page.{Page}
use Rattle.canvas_status.specs.declared.head.Page.TheVariants.{Health, Metrics}
use Rattle.canvas_status.specs.declared.head.Wanted.{Wanted}
use Rattle.canvas_status.specs.declared.head.Wanted.TheVariants.{Get, Head, Other, Elsewhere, HeadElsewhere}
use Rattle.canvas_status.specs.declared.head.Head.{Head as AHead}
use Rattle.canvas_status.specs.declared.head.Head.TheVariants.{Whole, Unfinished, Bad, TooLong}

-- how many bytes stand before the question mark of a query
abbrev pub path_len : List ℕ → ℕ
path_len target = prefix_len (λ byte. not (byte == 63)) target

-- a target without its query
abbrev pub path_of : List ℕ → List ℕ
path_of target = take (path_len target) target

-- the page at a path
abbrev pub page_at : List ℕ → Option Page
page_at path = if bytes_eq path (codes "/healthz") then Some Health else (if bytes_eq path (codes "/metrics") then Some Metrics else None)

-- a method at a page, or where there is none
abbrev pub wanted_at : List ℕ → Option Page → Wanted
wanted_at method (Some page) = if bytes_eq method (codes "GET") then Get page else (if bytes_eq method (codes "HEAD") then Head page else Other)
wanted_at method None = if bytes_eq method (codes "HEAD") then HeadElsewhere else Elsewhere

-- what a request wants, by its method and its target
abbrev pub wanted_by : List ℕ → List ℕ → Wanted
wanted_by method target = wanted_at method (page_at (path_of target))

-- what the first bytes of a connection are
abbrev pub Reads : List ℕ → AHead → Type 0
Reads bytes (Whole w) = (head : RequestHead) × (rest : List ℕ) × ReadsRequest bytes head rest × (w ≡ wanted_by head.method head.target)
Reads bytes Unfinished = MayBecomeRequest bytes × HasNoRequest bytes × (length bytes < 8192)
Reads bytes Bad = NeverHasRequest bytes
Reads bytes TooLong = (HasNoRequest bytes × (8192 ≤ length bytes)) ⊎ RequestExceeds 64 bytes
