-- A list of events, up to one of them.
use Rattle.std.proofs.Common.{◌≡◌, ℕ, suc, ◌+◌, ◌<◌, ◌≤◌, List, [], ◌∷◌, ◌++◌, Bool, true, false, Option, Some, None, Result, Ok, Err, refl, sym, ap, ◌∙◌, arith, subst, length, drop, get_or, append_assoc, append-nil, length-append}
use Rattle.std.specs.Prelude.{All, if◌then◌else◌, nat_lt, ◌==◌}
use Rattle.std.proofs.Math.Seq.{drop-cons}
use Rattle.std.proofs.lemmas.List.{drop_all, take-append-le}
use Rattle.std.proofs.lemmas.List.Elements.{All-append, All-cons, All-nil, All-weaker}
use Rattle.canvas_plane.specs.declared.windows.Window.{Window}
use Rattle.canvas_record.specs.declared.edits.Change.{Change}
use Rattle.canvas_record.specs.declared.refusals.Refusal.{Refusal}
use Rattle.canvas_record.specs.Contents.{Contents}
use Rattle.canvas_record.specs.Decision.{decision_of}
use Rattle.canvas_record.specs.History.{AllFit, replay_of}
use Rattle.canvas_record.specs.Picture.{colour}
use Rattle.canvas_paint.specs.Pictures.{picture_of}
use Rattle.canvas_world.specs.declared.event.Event.{Event}
use Rattle.canvas_world.specs.declared.event.Event.TheVariants as event
use Rattle.canvas_world.specs.declared.entry.Entry.{Entry}
use Rattle.canvas_world.specs.declared.entry.Entry.TheVariants as entry
use Rattle.canvas_world.specs.declared.world.World.{World}
use Rattle.canvas_world.specs.Past.{Past, Step, View, changes_after, changes_in, cuts_in, edits_after, edits_in, view_after, view_in, with_decided}
use Rattle.canvas_world.specs.Tiles.{AreNumbered, IsNumbered, ShowOneHistory, ShowsAVersion, before_look, look_or, steps_after, steps_of, version_in}
use Rattle.canvas_world.specs.Transcript.{answer_entry, edit_entry, entries_after, is_whole, may_paint, seat_of, seated_entry, strip_entry, transcript_of}
use Rattle.canvas_world.specs.Worlds.{EntersAny, IsThere, IsWorld}
use Rattle.canvas_world.proofs.Events.{more}

-- a seat's view is of the version that the steps before its look came to
abbrev pub IsSince : Past → Option View → Type 0
IsSince past None = Unit {0}
IsSince past (Some view) = view.version ≡ edits_in past

-- some first events came to these entries
pub record IsAlong (start : Contents) (seats : ℕ) (events : List Event) (i : ℕ) (w : World) (entries : List Entry) : Type 0 where
  pub past : Past
  pub world : IsWorld start past w
  pub rest : entries ++ entries_after start seats past (drop i events) ≡ transcript_of start seats events
  pub tiles : All (ShowsAVersion start (changes_in start past)) entries
  pub version : w.version ≤ i
  pub many : length entries ≡ i
  pub steps : (tail : List Entry) → steps_after past (drop i events) tail ≡ steps_of events (entries ++ tail)
  pub numbered : AreNumbered past
  pub since : (seat : ℕ) → IsSince (before_look seat past) (view_in seat past)

-- a version is shown in a longer history too
shows-more : (start : Contents) (h tail : List Change) (came : Entry) → ShowsAVersion start h came → ShowsAVersion start (h ++ tail) came
shows-more start h tail (entry.Edited version id) s = tt
shows-more start h tail (entry.Refused code) s = tt
shows-more start h tail (entry.Looked version) s = tt
shows-more start h tail entry.Painted s = tt
shows-more start h tail (entry.Tile version window raster) s =
    (omega (arith, s.0, length-append h tail), s.1 ∙ ap (λ (l : List Change). picture_of (colour (replay_of start l).records) window) (sym (take-append-le version h tail s.0)))
shows-more start h tail entry.Skipped s = tt

-- a history with what came after it
pub record Grown (h g : List Change) : Type 0 where
  pub tail : List Change
  pub same : g ≡ h ++ tail

grown-decided : (h : List Change) (r : Result Change Refusal) → Grown h (with_decided h r)
grown-decided h (Ok c) = record { tail = c ∷ []; same = refl }
grown-decided h (Err why) = record { tail = []; same = sym (append-nil h) }

grown : (start : Contents) (e : Event) (came : Entry) (h : List Change) → Grown h (changes_after start e came h)
grown start (event.Edit seat edit) (entry.Edited version id) h = grown-decided h (decision_of edit (replay_of start h))
grown start e came h = record { tail = []; same = sym (append-nil h) }

shows-edit : (start : Contents) (h : List Change) (n : ℕ) (r : Result Change Refusal) → ShowsAVersion start h (edit_entry n r)
shows-edit start h n (Ok c) = tt
shows-edit start h n (Err why) = tt

shows-strip : (start : Contents) (h : List Change) (v : Option View) (b : Bool) → ShowsAVersion start h (strip_entry v b)
shows-strip start h None b = tt
shows-strip start h (Some v) true = tt
shows-strip start h (Some v) false = tt

shows-answer : (start : Contents) (h : List Change) (n : ℕ) (v : Option View) (b : Bool) → n ≡ length h → IsThere n v → ShowsAVersion start h (answer_entry start h v b)
shows-answer start h n None b e t = tt
shows-answer start h n (Some v) true e t = (omega arith, refl)
shows-answer start h n (Some v) false e t = tt

shows-seated : (start : Contents) (past : Past) (w : World) (e : Event) → IsWorld start past w → ShowsAVersion start (changes_in start past) (seated_entry start past e)
shows-seated start past w (event.Edit seat edit) i = shows-edit start (changes_in start past) (edits_in past) (decision_of edit (replay_of start (changes_in start past)))
shows-seated start past w (event.Look seat window) i = tt
shows-seated start past w (event.Strip seat k n) i = shows-strip start (changes_in start past) (view_in seat past) (may_paint (record { k = k; n = n }) (cuts_in seat past))
shows-seated start past w (event.Answer seat) i = shows-answer start (changes_in start past) w.version (view_in seat past) (is_whole (cuts_in seat past)) i.many (i.there seat)

shows-either : (start : Contents) (h : List Change) (came : Entry) (b : Bool) → ShowsAVersion start h came → ShowsAVersion start h (if b then came else entry.Skipped)
shows-either start h came true s = s
shows-either start h came false s = tt

-- an entry names no more than were accepted then
below-one : (past : Past) (e : Event) (came : Entry) → IsNumbered past e came → version_in came ≤ edits_after came (edits_in past)
below-one past e (entry.Edited version id) n = omega arith
below-one past e (entry.Refused code) n = omega arith
below-one past e (entry.Looked version) n = omega arith
below-one past e entry.Painted n = omega arith
below-one past e (entry.Tile version window raster) n = n.0
below-one past e entry.Skipped n = omega arith

edits-grow : (came : Entry) (n : ℕ) → n ≤ edits_after came n
edits-grow (entry.Edited version id) n = omega arith
edits-grow came n = omega arith

all-below : (past : Past) → AreNumbered past → All (λ (s : Step). version_in s.entry ≤ edits_in past) past
all-below [] n = All-nil (λ (s : Step). version_in s.entry ≤ 0)
all-below (s ∷ past) n =
    let all : All (λ (x : Step). version_in x.entry ≤ edits_after s.entry (edits_in past)) past =
    All-weaker (λ (x : Step). version_in x.entry ≤ edits_in past) (λ (x : Step). version_in x.entry ≤ edits_after s.entry (edits_in past))
    (λ (x : Step) (le : version_in x.entry ≤ edits_in past). omega (arith, le, edits-grow s.entry (edits_in past))) past (all-below past n.1) in
    All-cons (λ (x : Step). version_in x.entry ≤ edits_after s.entry (edits_in past)) s past (below-one past s.event s.entry n.0) all

before-either : (b : Bool) (past earlier : Past) → AreNumbered past → AreNumbered earlier → AreNumbered (if b then past else earlier)
before-either true past earlier n m = n
before-either false past earlier n m = m

before-or : (seat : ℕ) (e : Event) (came : Entry) (past earlier : Past) → AreNumbered past → AreNumbered earlier → AreNumbered (look_or seat e came past earlier)
before-or seat (event.Look by window) (entry.Looked version) past earlier n m = before-either (by == seat) past earlier n m
before-or seat e came past earlier n m = m

before-all : (seat : ℕ) (past : Past) → AreNumbered past → AreNumbered (before_look seat past)
before-all seat [] n = tt
before-all seat (s ∷ past) n = before-or seat s.event s.entry past (before_look seat past) n.1 (before-all seat past n.1)

-- a seat's view after a look, a tile, and any step
since-look : (b : Bool) (past earlier : Past) (view : Option View) (version : ℕ) (window : Window) → version ≡ edits_in past → IsSince earlier view
    → IsSince (if b then past else earlier) (if b then Some (record { version = version; window = window }) else view)
since-look true past earlier view version window e s = e
since-look false past earlier view version window e s = s

since-tile : (b : Bool) (earlier : Past) (view : Option View) → IsSince earlier view → IsSince earlier (if b then None else view)
since-tile true earlier view s = tt
since-tile false earlier view s = s

since-more : (seat : ℕ) (e : Event) (came : Entry) (past : Past) (view : Option View) → IsNumbered past e came → IsSince (before_look seat past) view
    → IsSince (look_or seat e came past (before_look seat past)) (view_after seat e came view)
since-more seat (event.Look by window) (entry.Looked version) past view n s = since-look (by == seat) past (before_look seat past) view version window n s
since-more seat (event.Answer by) (entry.Tile version window raster) past view n s = since-tile (by == seat) (before_look seat past) view s
since-more seat e came past view n s = s

-- what comes of an event is numbered
numbered-edit : (past : Past) (e : Event) (r : Result Change Refusal) → IsNumbered past e (edit_entry (edits_in past) r)
numbered-edit past e (Ok c) = refl
numbered-edit past e (Err why) = tt

numbered-strip : (past : Past) (e : Event) (v : Option View) (b : Bool) → IsNumbered past e (strip_entry v b)
numbered-strip past e None b = tt
numbered-strip past e (Some v) true = tt
numbered-strip past e (Some v) false = tt

numbered-answer : (start : Contents) (past : Past) (seat : ℕ) (v : Option View) (b : Bool) → AreNumbered past → IsThere (edits_in past) v → IsSince (before_look seat past) v
    → IsNumbered past (event.Answer seat) (answer_entry start (changes_in start past) v b)
numbered-answer start past seat None b n t s = tt
numbered-answer start past seat (Some v) true n t s = (
  t,
  All-weaker (λ (x : Step). version_in x.entry ≤ edits_in (before_look seat past)) (λ (x : Step). version_in x.entry ≤ v.version)
      (λ (x : Step) (le : version_in x.entry ≤ edits_in (before_look seat past)). omega (arith, le, s)) (before_look seat past) (all-below (before_look seat past) (before-all seat past n)),
)
numbered-answer start past seat (Some v) false n t s = tt

numbered-seated : (start : Contents) (past : Past) (w : World) (e : Event) → IsWorld start past w → AreNumbered past → ((seat : ℕ) → IsSince (before_look seat past) (view_in seat past))
    → IsNumbered past e (seated_entry start past e)
numbered-seated start past w (event.Edit seat edit) i n since = numbered-edit past (event.Edit seat edit) (decision_of edit (replay_of start (changes_in start past)))
numbered-seated start past w (event.Look seat window) i n since = refl
numbered-seated start past w (event.Strip seat k m) i n since = numbered-strip past (event.Strip seat k m) (view_in seat past) (may_paint (record { k = k; n = m }) (cuts_in seat past))
numbered-seated start past w (event.Answer seat) i n since =
    numbered-answer start past seat (view_in seat past) (is_whole (cuts_in seat past)) n (subst (λ m. IsThere m (view_in seat past)) i.version (i.there seat)) (since seat)

numbered-entry : (past : Past) (e : Event) (came : Entry) (b : Bool) → IsNumbered past e came → IsNumbered past e (if b then came else entry.Skipped)
numbered-entry past e came true n = n
numbered-entry past e came false n = tt

-- before the first event
pub along-none : (start : Contents) (seats : ℕ) (events : List Event) (w : World) (entries : List Entry) → IsWorld start [] w → w.version ≡ 0 → entries ≡ [] → IsAlong start seats events 0 w entries
along-none start seats events w entries world version none = record {
  past = [];
  world = world;
  rest = ap (λ l. l ++ entries_after start seats [] events) none;
  tiles = subst (All (ShowsAVersion start [])) (sym none) (All-nil (ShowsAVersion start []));
  version = omega (arith, version);
  many = ap length none;
  steps = λ tail. ap (λ l. steps_of events (l ++ tail)) (sym none);
  numbered = tt;
  since = λ seat. tt;
}

-- after one event more
pub along-more : (start : Contents) (seats : ℕ) (events : List Event) (i : ℕ) (old new : World) (e : Event) (came : Entry) (before after : List Entry)
    → i < length events → e ≡ get_or events i e → EntersAny seats e old came new → new.version ≤ old.version + 1 → after ≡ before ++ came ∷ []
    → IsAlong start seats events i old before → IsAlong start seats events (i + 1) new after
along-more start seats events i old new e came before after lt is enters version longer along =
    let past : Past = along.past in
    let step = enters start past along.world in
    let plus : suc i ≡ i + 1 = omega arith in
    let left : drop i events ≡ e ∷ drop (i + 1) events = drop-cons events i e lt ∙ ap (λ x. x ∷ drop (suc i) events) (sym is) ∙ ap (λ n. e ∷ drop n events) plus in
    let g : Grown (changes_in start past) (changes_in start (more e came past)) = grown start e came (changes_in start past) in
    let shown : ShowsAVersion start (changes_in start past) came = subst (ShowsAVersion start (changes_in start past)) (sym step.0)
    (shows-either start (changes_in start past) (seated_entry start past e) (nat_lt (seat_of e) seats) (shows-seated start past old e along.world)) in
    let numbered : IsNumbered past e came = subst (IsNumbered past e) (sym step.0)
    (numbered-entry past e (seated_entry start past e) (nat_lt (seat_of e) seats) (numbered-seated start past old e along.world along.numbered along.since)) in
    let all : All (ShowsAVersion start (changes_in start past)) (before ++ came ∷ []) = All-append (ShowsAVersion start (changes_in start past)) before (came ∷ []) along.tiles
    (All-cons (ShowsAVersion start (changes_in start past)) came [] shown (All-nil (ShowsAVersion start (changes_in start past)))) in
    record {
      past = more e came past;
      world = step.1;
      rest = ap (λ l. l ++ entries_after start seats (more e came past) (drop (i + 1) events)) longer
          ∙ append_assoc before (came ∷ []) (entries_after start seats (more e came past) (drop (i + 1) events))
          ∙ ap (λ x. before ++ x ∷ entries_after start seats (more e x past) (drop (i + 1) events)) step.0
          ∙ ap (λ l. before ++ entries_after start seats past l) (sym left)
          ∙ along.rest;
      tiles = subst (All (ShowsAVersion start (changes_in start (more e came past)))) (sym longer)
          (subst (λ (h : List Change). All (ShowsAVersion start h) (before ++ came ∷ [])) (sym g.same)
          (All-weaker (ShowsAVersion start (changes_in start past)) (ShowsAVersion start (changes_in start past ++ g.tail)) (shows-more start (changes_in start past) g.tail) (before ++ came ∷ []) all));
      version = omega (arith, version, along.version);
      many = ap length longer ∙ omega (arith, length-append before (came ∷ []), along.many);
      steps = λ tail. ap (λ l. steps_after past l (came ∷ tail)) (sym left) ∙ along.steps (came ∷ tail)
          ∙ ap (steps_of events) (sym (append_assoc before (came ∷ []) tail)) ∙ ap (λ l. steps_of events (l ++ tail)) (sym longer);
      numbered = (numbered, along.numbered);
      since = λ seat. since-more seat e came past (view_in seat past) numbered (along.since seat);
    }

-- after the last event
pub along-all : (start : Contents) (seats : ℕ) (events : List Event) (i : ℕ) (w : World) (entries : List Entry) → i ≡ length events → IsAlong start seats events i w entries → ShowOneHistory start events entries
along-all start seats events i w entries all along =
    let none : drop i events ≡ [] = drop_all i events (omega (arith, all)) in
    let same : along.past ≡ steps_of events entries = ap (λ l. steps_after along.past l []) (sym none) ∙ along.steps [] ∙ ap (steps_of events) (append-nil entries) in
    record {
      each = along.many ∙ all;
      many = subst (λ (past : Past). length (changes_in start past) ≡ edits_in past) same (sym along.world.many ∙ along.world.version);
      fits = subst (λ (past : Past). AllFit start (changes_in start past)) same along.world.fits;
      tiles = subst (λ (past : Past). All (ShowsAVersion start (changes_in start past)) entries) same along.tiles;
      numbered = subst AreNumbered same along.numbered;
    }
