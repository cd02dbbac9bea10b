-- Each kind of event takes the world to the one after it.
use Rattle.std.proofs.Common.{◌≡◌, ℕ, ◌+◌, ◌≤◌, ◌==◌, List, [], ◌∷◌, ◌++◌, Bool, true, false, cond, Option, Some, None, Result, Ok, Err, refl, sym, ap, ◌∙◌, arith, subst, length, take, length-append}
use Rattle.std.specs.Prelude.{if◌then◌else◌, nat_lt, IfOk}
use Rattle.canvas_code.specs.declared.memory.OutOfMemory.{OutOfMemory as NoMemory}
use Rattle.std.specs.Ordering.{nat_cmp}
use Rattle.std.specs.BTreeMap.{BTreeMap, get, is_at, Updates}
use Rattle.std.proofs.lemmas.Bool.Decides.{nat_tests}
use Rattle.std.proofs.lemmas.List.{take_all, take-append-le}
use Rattle.canvas_plane.specs.declared.windows.Window.{Window}
use Rattle.canvas_record.specs.declared.edits.Change.{Change}
use Rattle.canvas_record.specs.declared.edits.Edit.{Edit}
use Rattle.canvas_record.specs.declared.refusals.Refusal.{Refusal}
use Rattle.canvas_record.specs.Contents.{Contents}
use Rattle.canvas_record.specs.declared.refusals.Refusal.TheVariants.{OutOfMemory}
use Rattle.canvas_record.specs.Decision.{decision_of, IsAnswer}
use Rattle.canvas_record.specs.Effect.{effect_of, Fits, new_id}
use Rattle.canvas_record.specs.History.{AllFit, replay_of}
use Rattle.canvas_record.specs.Picture.{colour}
use Rattle.canvas_record.specs.Refused.{refusal_code}
use Rattle.canvas_record.proofs.Histories.{all_fit-snoc, replay-snoc}
use Rattle.canvas_paint.specs.Pictures.{picture_of}
use Rattle.canvas_world.specs.declared.cut.Cut.{Cut}
use Rattle.canvas_world.specs.declared.event.Event.{Event}
use Rattle.canvas_world.specs.declared.event.Event.TheVariants as event
use Rattle.canvas_world.specs.declared.entry.Entry.{Entry}
use Rattle.canvas_world.specs.declared.entry.Entry.TheVariants as entry
use Rattle.canvas_world.specs.declared.world.World.{World}
use Rattle.canvas_world.specs.Pieces.{Work}
use Rattle.canvas_world.specs.Past.{Past, View, changes_in, cuts_in, edits_in, view_in, with_decided}
use Rattle.canvas_world.specs.Transcript.{answer_entry, edit_entry, is_whole, seat_of, seated_entry}
use Rattle.canvas_world.specs.Worlds.{Enters, EntersAny, EntersEdit, IsThere, IsWorld, work_at}

-- the steps with one more
abbrev pub more : Event → Entry → Past → Past
more e entry past = record { event = e; entry = entry } ∷ past

-- a tree's test at a number
hits : (a b : ℕ) → is_at (nat_cmp a) b ≡ (a == b)
hits a b = grind (arith, nat_tests)

there-more : (n m : ℕ) (v : Option View) → n ≤ m → IsThere n v → IsThere m v
there-more n m None le h = tt
there-more n m (Some v) le h = omega arith

-- a later change leaves the versions before it
work-grows : (start : Contents) (h : List Change) (c : Change) (cuts : List Cut) (v : Option View) → IsThere (length h) v → work_at start (h ++ c ∷ []) cuts v ≡ work_at start h cuts v
work-grows start h c cuts None t = refl
work-grows start h c cuts (Some v) t =
    ap (λ (l : List Change). Some (record { version = v.version; window = v.window; document = replay_of start l; cuts = cuts })) (take-append-le v.version h (c ∷ []) t)

-- an edit is accepted
pub edited : (start : Contents) (past : Past) (old new : World) (seat : ℕ) (edit : Edit) (change : Change)
    → IsWorld start past old → decision_of edit old.document.value ≡ Ok change → Fits change old.document.value
    → new.document.value ≡ effect_of change old.document.value → new.version ≡ old.version + 1 → new.jobs ≡ old.jobs
    → (entry.Edited (old.version + 1) (new_id change) ≡ seated_entry start past (event.Edit seat edit))
    × IsWorld start (more (event.Edit seat edit) (entry.Edited (old.version + 1) (new_id change)) past) new
edited start past old new seat edit change w decided fits effect version jobs =
    let h : List Change = changes_in start past in
    let said : decision_of edit (replay_of start h) ≡ Ok change = ap (decision_of edit) (sym w.document) ∙ decided in
    let grown : with_decided h (decision_of edit (replay_of start h)) ≡ h ++ change ∷ [] = ap (with_decided h) said in
    let long : length (h ++ change ∷ []) ≡ length h + 1 = omega (arith, length-append h (change ∷ [])) in
    let many : old.version + 1 ≡ length (h ++ change ∷ []) = omega (arith, w.many, long) in
    let one : old.version + 1 ≡ edits_in past + 1 = omega (arith, w.version) in (
      ap (λ n. entry.Edited (n + 1) (new_id change)) w.version ∙ sym (ap (edit_entry (edits_in past)) said),
      record {
        fits = subst (AllFit start) (sym grown) (all_fit-snoc start h change w.fits (subst (Fits change) w.document fits));
        document = effect ∙ ap (effect_of change) w.document ∙ sym (replay-snoc start h change) ∙ ap (replay_of start) (sym grown);
        version = version ∙ one;
        many = version ∙ many ∙ ap length (sym grown);
        jobs = λ q. ap (λ (m : BTreeMap ℕ Work). get nat_cmp m q) jobs ∙ w.jobs q
            ∙ sym (work-grows start h change (cuts_in q past) (view_in q past) (subst (λ n. IsThere n (view_in q past)) w.many (w.there q)))
            ∙ ap (λ (l : List Change). work_at start l (cuts_in q past) (view_in q past)) (sym grown);
        there = λ q. there-more old.version new.version (view_in q past) (omega (arith, version)) (w.there q);
      },
    )

-- an edit is refused
pub refused : (start : Contents) (past : Past) (w : World) (seat : ℕ) (edit : Edit) (why : Refusal)
    → IsWorld start past w → decision_of edit w.document.value ≡ Err why
    → (entry.Refused (refusal_code why) ≡ seated_entry start past (event.Edit seat edit))
    × IsWorld start (more (event.Edit seat edit) (entry.Refused (refusal_code why)) past) w
refused start past w seat edit why i decided = (
  sym (ap (edit_entry (edits_in past)) (ap (decision_of edit) (sym i.document) ∙ decided)),
  record { fits = i.fits; document = i.document; version = i.version; many = i.many; jobs = i.jobs; there = i.there },
)

-- the work after a look
look-work : (b : Bool) (start : Contents) (h : List Change) (cuts : List Cut) (v : Option View) (job : Option Work) (version : ℕ) (window : Window)
    → job ≡ work_at start h [] (Some (record { version = version; window = window }))
    → cond b job (work_at start h cuts v) ≡ work_at start h (if b then [] else cuts) (if b then Some (record { version = version; window = window }) else v)
look-work true start h cuts v job version window e = e
look-work false start h cuts v job version window e = refl

look-there : (b : Bool) (n : ℕ) (v : Option View) (window : Window) → IsThere n v → IsThere n (if b then Some (record { version = n; window = window }) else v)
look-there true n v window t = omega arith
look-there false n v window t = t

-- a look
pub looked : (start : Contents) (past : Past) (old new : World) (seat : ℕ) (window : Window)
    → IsWorld start past old → new.document.value ≡ old.document.value → new.version ≡ old.version
    → Updates nat_cmp old.jobs new.jobs seat (Some (record { version = old.version; window = window; document = old.document.value; cuts = [] }))
    → (entry.Looked old.version ≡ seated_entry start past (event.Look seat window))
    × IsWorld start (more (event.Look seat window) (entry.Looked old.version) past) new
looked start past old new seat window w document version updates =
    let h : List Change = changes_in start past in
    let all : take old.version h ≡ h = take_all old.version h (omega (arith, w.many)) in (
      ap entry.Looked w.version,
      record {
        fits = w.fits;
        document = document ∙ w.document;
        version = version ∙ w.version;
        many = version ∙ w.many;
        jobs = λ q. updates.0 q ∙ ap (λ b. cond b (Some (record { version = old.version; window = window; document = old.document.value; cuts = [] })) (get nat_cmp old.jobs q)) (hits seat q)
            ∙ ap (λ (o : Option Work). cond (seat == q) (Some (record { version = old.version; window = window; document = old.document.value; cuts = [] })) o) (w.jobs q)
            ∙ look-work (seat == q) start h (cuts_in q past) (view_in q past) (Some (record { version = old.version; window = window; document = old.document.value; cuts = [] })) old.version window
            (ap (λ (d : Contents). Some (record { version = old.version; window = window; document = d; cuts = [] })) (w.document ∙ ap (replay_of start) (sym all)));
        there = λ q. subst (λ n. IsThere n (if seat == q then Some (record { version = old.version; window = window }) else view_in q past)) (sym version) (look-there (seat == q) old.version (view_in q past) window (w.there q));
      },
    )

taken-work : (b : Bool) (start : Contents) (h : List Change) (cuts : List Cut) (v : Option View) → cond b None (work_at start h cuts v) ≡ work_at start h cuts (if b then None else v)
taken-work true start h cuts v = refl
taken-work false start h cuts v = refl

taken-there : (b : Bool) (n : ℕ) (v : Option View) → IsThere n v → IsThere n (if b then None else v)
taken-there true n v t = tt
taken-there false n v t = t

-- an answer's entry by the work of its seat
abbrev pub answer_came : Option Work → Entry
answer_came None = entry.Skipped
answer_came (Some job) = if is_whole job.cuts then entry.Tile job.version job.window (picture_of (colour job.document.records) job.window) else entry.Skipped

answer-entry : (start : Contents) (h : List Change) (cuts : List Cut) (v : Option View) → answer_came (work_at start h cuts v) ≡ answer_entry start h v (is_whole cuts)
answer-entry start h cuts None = refl
answer-entry start h cuts (Some v) = refl

shown-if : (b : Bool) (version : ℕ) (window : Window) (raster picture : List ℕ) → Some raster ≡ (if b then Some picture else None) → entry.Tile version window raster ≡ (if b then entry.Tile version window picture else entry.Skipped)
shown-if true version window raster picture e = cc
shown-if false version window raster picture e = cc

-- a picture is handed out
pub answered : (start : Contents) (past : Past) (old new : World) (seat : ℕ) (job : Work) (version : ℕ) (window : Window) (raster : List ℕ)
    → IsWorld start past old → get nat_cmp old.jobs seat ≡ Some job → version ≡ job.version → window ≡ job.window
    → Some raster ≡ (if is_whole job.cuts then Some (picture_of (colour job.document.records) job.window) else None)
    → new.document.value ≡ old.document.value → new.version ≡ old.version → Updates nat_cmp old.jobs new.jobs seat None
    → (entry.Tile version window raster ≡ seated_entry start past (event.Answer seat)) × IsWorld start (more (event.Answer seat) (entry.Tile version window raster) past) new
answered start past old new seat job version window raster w here v a shown document same updates = (
  ap (λ n. entry.Tile n window raster) v ∙ ap (λ (x : Window). entry.Tile job.version x raster) a
      ∙ shown-if (is_whole job.cuts) job.version job.window raster (picture_of (colour job.document.records) job.window) shown
      ∙ ap answer_came (sym here ∙ w.jobs seat) ∙ answer-entry start (changes_in start past) (cuts_in seat past) (view_in seat past),
  record {
    fits = w.fits;
    document = document ∙ w.document;
    version = same ∙ w.version;
    many = same ∙ w.many;
    jobs = λ q. updates.0 q ∙ ap (λ b. cond b None (get nat_cmp old.jobs q)) (hits seat q) ∙ ap (λ (o : Option Work). cond (seat == q) None o) (w.jobs q)
        ∙ taken-work (seat == q) start (changes_in start past) (cuts_in q past) (view_in q past);
    there = λ q. subst (λ n. IsThere n (if seat == q then None else view_in q past)) (sym same) (taken-there (seat == q) old.version (view_in q past) (w.there q));
  },
)

-- a seat that is there
pub seated : (seats : ℕ) (old new : World) (e : Event) (came : Entry) → nat_lt (seat_of e) seats ≡ true → Enters e old came new → EntersAny seats e old came new
seated seats old new e came there h start past i =
    let r = h start past i in
    (r.0 ∙ sym (ap (λ b. if b then seated_entry start past e else entry.Skipped) there), r.1)

-- a refusal that is not want of memory was decided
pub refusal-decided : (why : Refusal) (decided : Result Change Refusal) → (why ≡ OutOfMemory → ⊥) → IsAnswer (Err why) decided → decided ≡ Err why
refusal-decided why (Ok change) ne h = absurd (ne h)
refusal-decided why (Err first) ne h = ap Err (sym h)

-- an edit of a seat that is there
pub edit-seated : (seats : ℕ) (old new : World) (e : Event) (seat : ℕ) (edit : Edit) (result : Result Entry NoMemory) → e ≡ event.Edit seat edit → nat_lt (seat_of e) seats ≡ true
    → IfOk result (λ came. EntersEdit edit old came new) → IfOk result (λ came. EntersAny seats e old came new)
edit-seated seats old new e seat edit (Ok came) is there h = seated seats old new e came there (subst (λ (e : Event). Enters e old came new) (sym is) (h seat))
edit-seated seats old new e seat edit (Err fault) is there h = h
