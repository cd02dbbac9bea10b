-- The families of the page.
use Rattle.std.specs.Prelude.{ℕ, List, [], ◌∷◌, codes}
use Rattle.canvas_status.specs.declared.family.Family.{Family}
use Rattle.canvas_status.specs.declared.family.Family.TheVariants.{Build, Uptime, Generation, Version, Kept, Seats, OpenSessions, Sessions, RefusedConnections, MissedConnections, Followers, FollowerLag, Requests, Refusals, SentBytes, PaintedPictures, KeptPictures, Syncs, SyncSeconds}

-- a family's name, type and meaning
pub record Row : Type 0 where
  pub name : List ℕ
  pub kind : List ℕ
  pub help : List ℕ

abbrev pub counter : List ℕ → List ℕ → Row
counter name help = record { name = name; kind = codes "counter"; help = help }

abbrev pub gauge : List ℕ → List ℕ → Row
gauge name help = record { name = name; kind = codes "gauge"; help = help }

-- what each family is
abbrev pub row_of : Family → Row
row_of Build = gauge (codes "canvas_build_info") (codes "The version of the program.")
row_of Uptime = gauge (codes "canvas_uptime_seconds") (codes "Seconds since the program began.")
row_of Generation = gauge (codes "canvas_generation") (codes "The generation that is served.")
row_of Version = gauge (codes "canvas_version") (codes "The newest version of the document.")
row_of Kept = gauge (codes "canvas_kept_version") (codes "The newest version that is on the disk.")
row_of Seats = gauge (codes "canvas_seats") (codes "Sessions that may be at once.")
row_of OpenSessions = gauge (codes "canvas_open_sessions") (codes "Sessions now.")
row_of Sessions = counter (codes "canvas_sessions_total") (codes "Sessions that began.")
row_of RefusedConnections = counter (codes "canvas_refused_connections_total") (codes "Connections that found no seat that they may have.")
row_of MissedConnections = counter (codes "canvas_missed_connections_total") (codes "Times that no connection could be accepted, for want of memory or files.")
row_of Followers = gauge (codes "canvas_followers") (codes "Followers of the feed now.")
row_of FollowerLag = gauge (codes "canvas_follower_lag_edits") (codes "Edits on the disk that were not sent yet to the follower farthest behind.")
row_of Requests = counter (codes "canvas_requests_total") (codes "Lines that were answered, by verb.")
row_of Refusals = counter (codes "canvas_refusals_total") (codes "Answers that were refusals, by name.")
row_of SentBytes = counter (codes "canvas_sent_bytes_total") (codes "Bytes sent to sessions.")
row_of PaintedPictures = counter (codes "canvas_painted_pictures_total") (codes "Pictures that were painted.")
row_of KeptPictures = counter (codes "canvas_kept_pictures_total") (codes "Pictures that were answered as they were kept.")
row_of Syncs = counter (codes "canvas_syncs_total") (codes "Times that edits were put on the disk.")
row_of SyncSeconds = counter (codes "canvas_sync_seconds_total") (codes "Seconds that putting edits on the disk took.")

unfoldable pub family_name : Family → List ℕ
family_name family = (row_of family).name

unfoldable pub family_kind : Family → List ℕ
family_kind family = (row_of family).kind

unfoldable pub family_help : Family → List ℕ
family_help family = (row_of family).help

-- all families, in the order of the page
abbrev pub families : List Family
families = Build ∷ Uptime ∷ Generation ∷ Version ∷ Kept ∷ Seats ∷ OpenSessions ∷ Sessions ∷ RefusedConnections ∷ MissedConnections ∷ Followers ∷ FollowerLag ∷ Requests ∷ Refusals ∷ SentBytes ∷ PaintedPictures ∷ KeptPictures ∷ Syncs ∷ SyncSeconds ∷ []
