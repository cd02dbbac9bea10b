-- The answers to requests: responses of HTTP/1.1, behind which the connection is closed.
use Rattle.std.specs.Prelude.{ℕ, List, [], ◌++◌, length, codes, decimal, Bool, true, false, if◌then◌else◌}
use Rattle.canvas_status.specs.declared.head.Page.{Page}
use Rattle.canvas_status.specs.declared.head.Page.TheVariants.{Health, Metrics}
use Rattle.canvas_status.specs.declared.head.Wanted.TheVariants.{Get, Head, Other, Elsewhere, HeadElsewhere}
use Rattle.canvas_status.specs.declared.head.Head.{Head as AHead}
use Rattle.canvas_status.specs.declared.head.Head.TheVariants.{Whole, Unfinished, Bad, TooLong as IsTooLong}
use Rattle.canvas_status.specs.declared.health.Health.{Health as AHealth}
use Rattle.canvas_status.specs.declared.health.Health.TheVariants.{Well, Late, Lost}
use Rattle.canvas_status.specs.declared.answer.Report.{Report}
use Rattle.canvas_status.specs.declared.answer.Outcome.{Outcome}
use Rattle.canvas_status.specs.declared.answer.Outcome.TheVariants.{Found, Unhealthy, BadRequest, NotFound, NotAllowed, TooLong}
use Rattle.canvas_status.specs.Page.{page_text}

-- how a request for a page ends: that of numbers is always there, that of health says no where something is wrong
abbrev pub outcome_at : Page → AHealth → Outcome
outcome_at Metrics health = Found Metrics
outcome_at Health Well = Found Health
outcome_at Health Late = Unhealthy
outcome_at Health Lost = Unhealthy

-- how a request ends
abbrev pub outcome_of : AHead → AHealth → Outcome
outcome_of (Whole (Get page)) health = outcome_at page health
outcome_of (Whole (Head page)) health = outcome_at page health
outcome_of (Whole Other) health = NotAllowed
outcome_of (Whole Elsewhere) health = NotFound
outcome_of (Whole HeadElsewhere) health = NotFound
outcome_of Unfinished health = BadRequest
outcome_of Bad health = BadRequest
outcome_of IsTooLong health = TooLong

-- whether the body follows: not where the head alone was asked for
abbrev pub has_body : AHead → Bool
has_body (Whole (Get page)) = true
has_body (Whole (Head page)) = false
has_body (Whole Other) = true
has_body (Whole Elsewhere) = true
has_body (Whole HeadElsewhere) = false
has_body Unfinished = true
has_body Bad = true
has_body IsTooLong = true

-- the first line, and which methods there are where another was used
unfoldable pub status_line : Outcome → List ℕ
status_line (Found page) = codes "HTTP/1.1 200 OK\r\n"
status_line Unhealthy = codes "HTTP/1.1 503 Service Unavailable\r\n"
status_line BadRequest = codes "HTTP/1.1 400 Bad Request\r\n"
status_line NotFound = codes "HTTP/1.1 404 Not Found\r\n"
status_line NotAllowed = codes "HTTP/1.1 405 Method Not Allowed\r\nAllow: GET, HEAD\r\n"
status_line TooLong = codes "HTTP/1.1 431 Request Header Fields Too Large\r\n"

-- what the body is
unfoldable pub type_field : Outcome → List ℕ
type_field (Found Metrics) = codes "Content-Type: text/plain; version=0.0.4; charset=utf-8\r\n"
type_field (Found Health) = codes "Content-Type: text/plain; charset=utf-8\r\n"
type_field Unhealthy = codes "Content-Type: text/plain; charset=utf-8\r\n"
type_field BadRequest = codes "Content-Type: text/plain; charset=utf-8\r\n"
type_field NotFound = codes "Content-Type: text/plain; charset=utf-8\r\n"
type_field NotAllowed = codes "Content-Type: text/plain; charset=utf-8\r\n"
type_field TooLong = codes "Content-Type: text/plain; charset=utf-8\r\n"

-- why a document is not kept as it should be
abbrev pub reason_of : AHealth → List ℕ
reason_of Well = codes "ok\n"
reason_of Late = codes "an edit has waited for over 2 seconds to be kept\n"
reason_of Lost = codes "the journal is lost: no more edits are kept\n"

-- the body
abbrev pub body_of : Outcome → Report → List ℕ
body_of (Found Health) report = codes "ok\n"
body_of (Found Metrics) report = page_text report.status
body_of Unhealthy report = reason_of report.health
body_of BadRequest report = codes "this is no request\n"
body_of NotFound report = codes "there are /healthz and /metrics\n"
body_of NotAllowed report = codes "pages are only read here\n"
body_of TooLong report = codes "the head is too long\n"

-- the head of an answer, with a body of so many bytes
unfoldable pub head_text : Outcome → ℕ → List ℕ
head_text outcome count = status_line outcome ++ type_field outcome ++ codes "Content-Length: " ++ decimal count ++ codes "\r\nCache-Control: no-store\r\nConnection: close\r\n\r\n"

-- an answer
abbrev pub answer_text : AHead → Report → List ℕ
answer_text head report =
    let outcome = outcome_of head report.health in
    let body = body_of outcome report in
    head_text outcome (length body) ++ (if has_body head then body else [])
