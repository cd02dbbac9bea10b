-- The page of a server's numbers, in the text format of Prometheus, 0.0.4: families in an order, each what it is and its samples.
use Rattle.std.specs.Prelude.{ℕ, zero, suc, List, [], ◌++◌, ◌==◌, codes, decimal, length, slice_index, if◌then◌else◌}
use Rattle.std.specs.List.{flat_map}
use Rattle.canvas_code.specs.Names.{name_of}
use Rattle.canvas_status.specs.declared.status.Status.{Status}
use Rattle.canvas_status.specs.declared.family.Family.{Family}
use Rattle.canvas_status.specs.declared.family.Family.TheVariants.{Build, Uptime, Generation, Version, Kept, Seats, OpenSessions, Sessions, RefusedConnections, MissedConnections, Followers, FollowerLag, Requests, Refusals, SentBytes, PaintedPictures, KeptPictures, Syncs, SyncSeconds}
use Rattle.canvas_status.specs.declared.verb.Verb.{Verb}
use Rattle.canvas_status.specs.Verbs.{verbs, verb_name, place_of}
use Rattle.canvas_status.specs.Families.{families, family_name, family_help, family_kind}
use Rattle.canvas_status.specs.Followers.{followers_at, lag_at}
use Rattle.canvas_status.specs.Samples.{plain, labelled, seconds_text}

-- what a family is, in two lines
unfoldable pub family_head : Family → List ℕ
family_head f = codes "# HELP " ++ family_name f ++ codes " " ++ family_help f ++ codes "\n# TYPE " ++ family_name f ++ codes " " ++ family_kind f ++ codes "\n"

-- the count of a verb
unfoldable pub request_sample : List ℕ → List ℕ → Verb → List ℕ
request_sample name counts verb = labelled name (codes "verb") (verb_name verb) (decimal (slice_index counts (place_of verb)))

unfoldable pub request_samples : List ℕ → List ℕ → List ℕ
request_samples name counts = flat_map (request_sample name counts) verbs

-- the count of a refusal by its name; nothing where the number has none
unfoldable pub refusal_sample : List ℕ → ℕ → ℕ → List ℕ
refusal_sample name code count = if length (name_of code) == 0 then [] else labelled name (codes "name") (name_of code) (decimal count)

-- the counts of the refusals with the first so many numbers
abbrev pub refusals_below : List ℕ → List ℕ → ℕ → List ℕ
refusals_below name counts zero = []
refusals_below name counts (suc n) = refusals_below name counts n ++ refusal_sample name n (slice_index counts n)

unfoldable pub refusal_samples : List ℕ → List ℕ → List ℕ
refusal_samples name counts = refusals_below name counts 75

-- the samples of a family, at a status
abbrev pub samples_at : Status → Family → List ℕ → List ℕ
samples_at s Build name = labelled name (codes "version") s.program.now (decimal 1)
samples_at s Uptime name = plain name (decimal s.seconds)
samples_at s Generation name = plain name (decimal s.generation)
samples_at s Version name = plain name (decimal s.version)
samples_at s Kept name = plain name (decimal s.kept)
samples_at s Seats name = plain name (decimal s.seats)
samples_at s OpenSessions name = plain name (decimal s.open_sessions)
samples_at s Sessions name = plain name (decimal s.sessions)
samples_at s RefusedConnections name = plain name (decimal s.refused_connections)
samples_at s MissedConnections name = plain name (decimal s.missed_connections)
samples_at s Followers name = plain name (decimal (followers_at s.followers))
samples_at s FollowerLag name = plain name (decimal (lag_at s.kept s.followers))
samples_at s Requests name = request_samples name s.requests
samples_at s Refusals name = refusal_samples name s.refusals
samples_at s SentBytes name = plain name (decimal s.sent_bytes)
samples_at s PaintedPictures name = plain name (decimal s.painted_pictures)
samples_at s KeptPictures name = plain name (decimal s.kept_pictures)
samples_at s Syncs name = plain name (decimal s.syncs)
samples_at s SyncSeconds name = plain name (seconds_text s.sync_micros)

unfoldable pub samples_of : Status → Family → List ℕ
samples_of s f = samples_at s f (family_name f)

-- a family
unfoldable pub family_text : Status → Family → List ℕ
family_text s f = family_head f ++ samples_of s f

-- the page
unfoldable pub page_text : Status → List ℕ
page_text s = flat_map (family_text s) families
