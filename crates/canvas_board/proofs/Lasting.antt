-- Pictures that are right, and go on to be.
use Rattle.std.proofs.Common.{◌≡◌, ℕ, ◌-◌, List, ◌++◌, length, Result, Ok, Err, Option, IfOk, IfSome, take, drop, refl, sym, ap, ◌∙◌, subst, arith}
use Rattle.std.specs.Result.{result_ok}
use Rattle.std.proofs.lemmas.List.{take-append-drop}
use Rattle.canvas_plane.specs.declared.windows.Window.{Window}
use Rattle.canvas_record.specs.declared.edits.Change.{Change}
use Rattle.canvas_record.specs.Contents.{Contents, IsWellFormed}
use Rattle.canvas_record.specs.History.{replay_of, AllFit}
use Rattle.canvas_doc.proofs.extents.Damaged.{damage-keeps}
use Rattle.canvas_record.proofs.Histories.{all_fit-front, replay-append, replay-well}
use Rattle.canvas_line.specs.declared.recent.Damage.{Damage}
use Rattle.canvas_line.specs.declared.version.Version.{Version}
use Rattle.canvas_line.specs.Lines.{Sight}
use Rattle.canvas_line.specs.Recent.{damages_from, recent_of}
use Rattle.canvas_line.specs.Seats.{Begins, Looks}
use Rattle.canvas_line.specs.Standing.{IsVersionOf}
use Rattle.canvas_look.proofs.Prefixes.{take_more_same, take_all}
use Rattle.canvas_board.specs.declared.window_key.WindowKey.{WindowKey}
use Rattle.canvas_board.specs.Kept.{document_at, key_of, IsEndOf, IsPictureOf, IsStillRight}
use Rattle.canvas_look.specs.Raster.{file_of}
use Rattle.canvas_board.proofs.Spared.{file-key, still-shows}

-- the version that a seat has looked at is that of its front
pub looks-at : (s t : Sight) (v : Version) → Looks s t v → IsVersionOf t.opening t.limit t.front v
looks-at s t v l = subst (λ (x : Sight). IsVersionOf x.opening x.limit t.front v) (sym l.0.2) l.1

-- it tells of the last changes
pub version-tells : (s m : Sight) (v : Version) (told : List Damage) → IsVersionOf s.opening s.limit s.front v → told ≡ v.recent → m ≡ s → IsEndOf told m.opening m.front
version-tells s m v told at is same =
    let whole : List Damage = damages_from 0 s.opening s.front in
    let past : ℕ = length whole - 64 in
    let parts : whole ≡ take past whole ++ recent_of s.opening s.front = sym (take-append-drop past whole) in
    subst (λ (x : Sight). IsEndOf told x.opening x.front) (sym same)
    (take past whole, parts ∙ ap (λ (r : List Damage). take past whole ++ r) (sym (is ∙ at.recent)))

-- a document goes on to be well formed
well-later : (opening : Contents) (k : ℕ) (changes : List Change) → IsWellFormed (replay_of opening (take k changes)) → AllFit opening changes → IsWellFormed (replay_of opening changes)
well-later opening k changes well fit =
    let parts : take k changes ++ drop k changes ≡ changes = take-append-drop k changes in
    let fits = (all_fit-front opening (take k changes) (drop k changes) (subst (AllFit opening) (sym parts) fit)).1 in
    subst (λ (cs : List Change). IsWellFormed (replay_of opening cs)) parts
    (subst IsWellFormed (sym (replay-append opening (take k changes) (drop k changes))) (replay-well (replay_of opening (take k changes)) (drop k changes) well fits))

-- the document that was seen before is the one after the first of the changes that are seen now
front-taken : (s t : Sight) → Begins s t → document_at s ≡ replay_of t.opening (take (length s.front) t.front)
front-taken s t on =
    let opening : t.opening ≡ s.opening = ap (λ (x : Sight). x.opening) on.1 in
    let n : ℕ = length s.front in
    let taken : take n t.front ≡ s.front = take_more_same n s.front t.front on.0 (omega arith) ∙ take_all n s.front refl in
    ap (λ (cs : List Change). replay_of s.opening cs) (sym taken) ∙ ap (λ (d : Contents). replay_of d (take n t.front)) (sym opening)

-- a picture of one version is that of a later one, as the damage that is told says
pub picture-later : (s t : Sight) (told : List Damage) (window : Window) (key : WindowKey) (bytes : List ℕ) → Begins s t → AllFit t.opening t.front → IsEndOf told t.opening t.front
    → IsStillRight told (length s.front) (length t.front) window → key ≡ key_of window → IsPictureOf (document_at s) key bytes → IsPictureOf (document_at t) (key_of window) bytes
picture-later s t told window key bytes on fit end still named right =
    let n : ℕ = length s.front in
    let before : document_at s ≡ replay_of t.opening (take n t.front) = front-taken s t on in
    let well : IsWellFormed (replay_of t.opening (take n t.front)) = subst IsWellFormed before right.well_formed in
    let same : file_of (document_at t) window ≡ file_of (document_at s) window = still-shows damage-keeps told t.opening t.front n window well fit end still ∙ ap (λ (d : Contents). file_of d window) (sym before) in
    record {
      well_formed = well-later t.opening n t.front well fit;
      shows = λ other alike. right.shows window (sym named) ∙ sym same ∙ file-key (document_at t) window other (sym alike);
    }

-- what holds of a value holds of it where it could be shared once more
pub shared-once-more : {X E V : Type 0} (value_of : X → V) (r : Result X E) (o : Option X) (v : V) (Is : V → Type 0) → IfOk r (λ x. value_of x ≡ v) → o ≡ result_ok r → Is v → IfSome o (λ x. Is (value_of x))
shared-once-more value_of (Ok x) o v Is same is holds = subst (λ p. IfSome p (λ y. Is (value_of y))) (sym is) (subst Is (sym same) holds)
shared-once-more value_of (Err e) o v Is same is holds = subst (λ p. IfSome p (λ y. Is (value_of y))) (sym is) tt
