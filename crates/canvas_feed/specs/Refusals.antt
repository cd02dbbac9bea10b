-- Why a follower is refused, and the line that says so.
use Rattle.std.specs.Prelude.{ℕ, nat_lt, ◌==◌, List, ◌++◌, codes, decimal, Option, Some, None, Result, Ok, Err, if◌then◌else◌}
use Rattle.canvas_feed.specs.declared.refusal.Refusal.{Refusal}
use Rattle.canvas_feed.specs.declared.refusal.Refusal.TheVariants.{Beyond, Over, Early, NoRequest, Full}
use Rattle.canvas_feed.specs.declared.request.FeedRequest.{FeedRequest}

-- ---- whether a request is taken

-- the generation that is named is the one that is served
abbrev pub generation_judged : Option ℕ → ℕ → Result (Unit {0}) Refusal → Result (Unit {0}) Refusal
generation_judged None served rest = rest
generation_judged (Some asked) served rest =
    if nat_lt asked served then Err (Over asked served) else
    if nat_lt served asked then Err (Early asked served) else rest

-- the request is taken where this generation is served and so many versions are kept, or why it is not
abbrev pub judged : FeedRequest → ℕ → ℕ → Result (Unit {0}) Refusal
judged request served kept =
    generation_judged request.generation served (if nat_lt kept request.since then Err (Beyond request.since kept) else Ok tt)

-- ---- the words

-- what is said of two generations
unfoldable pub generations_text : ℕ → List ℕ → ℕ → List ℕ
generations_text asked between served = codes "generation " ++ decimal asked ++ between ++ (decimal served ++ codes " is served")

unfoldable pub words_of : Refusal → List ℕ
words_of (Beyond since kept) = codes "since " ++ decimal since ++ codes " is beyond the history: " ++ decimal kept ++ codes " edits are kept"
words_of (Over asked served) = generations_text asked (codes " is over: generation ") served
words_of (Early asked served) = generations_text asked (codes " is not there yet: generation ") served
words_of NoRequest = codes "this is no request of a feed: one line {\\\"since\\\":N} is wanted"
words_of Full = codes "all 256 feeds are taken"

-- the line of a refusal
unfoldable pub refusal_line : Refusal → List ℕ
refusal_line refusal = codes "{\"error\":\"" ++ words_of refusal ++ codes "\",\"ok\":false}\n"
