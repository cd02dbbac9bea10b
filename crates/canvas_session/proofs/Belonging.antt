-- All that a transcript asks and answers belongs to the board's history at its end.
use Rattle.std.proofs.Common.{◌≡◌, ℕ, ℤ, ◌+◌, ◌≤◌, true, inl, inr, List, [], ◌∷◌, ◌++◌, Option, None, Some, Result, Ok, Err, length, take, refl, sym, ap, ◌∙◌, arith, subst, length-append}
use Rattle.std.proofs.Math.Seq.{take-append_seam}
use mathlib.Core.List.{IsPrefix}
use Rattle.canvas_plane.specs.declared.windows.Window.{Window}
use Rattle.canvas_plane.specs.declared.windows.WindowFault.{WindowFault}
use Rattle.canvas_plane.specs.Window.{IsWindowAt}
use Rattle.canvas_record.specs.declared.edits.Change.{Change}
use Rattle.canvas_record.specs.declared.edits.Edit.{Edit}
use Rattle.canvas_record.specs.Contents.{Contents}
use Rattle.canvas_record.specs.Decision.{decision_of}
use Rattle.canvas_record.specs.Effect.{new_id}
use Rattle.canvas_record.specs.History.{replay_of, AllFit}
use Rattle.canvas_record.specs.Picture.{colour}
use Rattle.canvas_record.proofs.Histories.{all_fit-snoc}
use Rattle.canvas_json.specs.Saved.{saved_text_of}
use Rattle.canvas_wire.specs.declared.request.Request.{Request}
use Rattle.canvas_wire.specs.declared.request.Request.TheVariants as request
use Rattle.canvas_wire.specs.declared.fault.WireFault.{WireFault}
use Rattle.canvas_wire.specs.Replies.{point, refused}
use Rattle.canvas_look.specs.declared.answers.Edited.{Edited}
use Rattle.canvas_look.specs.declared.answers.Picture.{Picture}
use Rattle.canvas_look.specs.declared.answers.Dot.{Dot}
use Rattle.canvas_look.specs.declared.answers.Saved.{Saved}
use Rattle.canvas_look.specs.declared.fault.BoardFault.{BoardFault}
use Rattle.canvas_look.specs.declared.fault.BoardFault.TheVariants.{OutOfMemory, Refused, VersionsSpent, Behind, Strangers, BadWorkers, BadSetting, NoView}
use Rattle.canvas_look.specs.Raster.{file_of}
use Rattle.canvas_look.specs.Seen.{Seen, IsSound, Grows, document_of, with_change}
use Rattle.canvas_look.specs.Steps.{Accepts, WantsMemory, Edits, Looks, Paints, Saves}
use Rattle.canvas_look.proofs.Prefixes.{prefix_self, prefix_trans, prefix_whole}
use Rattle.canvas_session.specs.Response.{Response, bare, made, edit_response, picture_response, point_response, saved_response}
use Rattle.canvas_session.specs.Transcript.{ShowsUnless, Step, IsTranscript}
use Rattle.canvas_session.specs.Belongs.{document_at, seen_at, full, changes_of, Stays, IsAccepted, IsShown, ComesTo, StandInTurn, BelongsTo}

-- the board s is the board b, at another front, which is sound
record IsAt (b s : Seen) : Type 0 where
  opening : s.opening ≡ b.opening
  limit : s.limit ≡ b.limit
  alone : s.alone ≡ b.alone
  sound : IsSound s

-- the board went on from s to t
record GoesOn (b s t : Seen) : Type 0 where
  board : IsAt b t
  begins : IsPrefix s.front t.front

-- the board went on from s to t, and made so many changes
record Moves (b s t : Seen) (k : ℕ) : Type 0 where
  board : IsAt b t
  begins : IsPrefix s.front t.front
  since : length s.front + k ≤ length t.front
  only : b.alone ≡ true → length t.front ≡ length s.front + k

-- what holds of each history that begins with the front
abbrev OfEach : Seen → (List Change → Type 0) → Type 0
OfEach t P = (history : List Change) → IsPrefix t.front history → P history

-- what a request came to, and the board that it left
record Comes (workers : ℕ) (b s : Seen) (r : Result Request WireFault) (a : Response) (t : Seen) : Type 0 where
  moves : Moves b s t (changes_of a.reply)
  comes : OfEach t (λ history. ComesTo workers b history (length s.front) (length t.front) r a)

moves-same : (b s t : Seen) → IsAt b s → t ≡ s → Moves b s t 0
moves-same b s t board same =
    subst (λ (x : Seen). Moves b s x 0) (sym same) (record { board = board; begins = prefix_self s.front; since = omega arith; only = λ alone. omega arith })

at-grows : (b s t : Seen) → IsAt b s → Grows s t → IsAt b t
at-grows b s t board g = record {
  opening = ap (λ (x : Seen). x.opening) g.same ∙ board.opening;
  limit = ap (λ (x : Seen). x.limit) g.same ∙ board.limit;
  alone = ap (λ (x : Seen). x.alone) g.same ∙ board.alone;
  sound = g.sound;
}

moves-grows : (b s t : Seen) → IsAt b s → Grows s t → Moves b s t 0
moves-grows b s t board g =
    let long : length t.front ≡ length s.front + length g.more = ap (λ (x : Seen). length x.front) g.same ∙ length-append s.front g.more in
    record {
      board = at-grows b s t board g;
      begins = (g.more, sym (ap (λ (x : Seen). x.front) g.same));
      since = omega (arith, long);
      only = λ alone. let none : length g.more ≡ 0 = ap length (g.alone (board.alone ∙ alone)) in omega (arith, long, none);
    }

-- a sound board is so with one more change that fits and has room
sound-more : (s : Seen) (edit : Edit) (edited : Edited) (t : Seen) → Accepts s edit edited t → IsSound t
sound-more s edit edited t p =
    let sound = p.begins.sound in
    let room = p.room in
    let one_more : IsSound (with_change p.h p.change) = record {
      fits = all_fit-snoc p.h.opening p.h.front p.change sound.fits p.fits;
      within = omega (arith, room, length-append p.h.front (p.change ∷ []));
    } in
    subst IsSound (sym p.after) one_more

moves-accepts : (b s : Seen) (edit : Edit) (edited : Edited) (t : Seen) → IsAt b s → Accepts s edit edited t → Moves b s t 1
moves-accepts b s edit edited t board p =
    let h = at-grows b s p.h board p.begins in
    let first = moves-grows b s p.h board p.begins in
    let since = first.since in
    let front : t.front ≡ p.h.front ++ p.change ∷ [] = ap (λ (x : Seen). x.front) p.after in
    let long : length t.front ≡ length p.h.front + 1 = ap length front ∙ length-append p.h.front (p.change ∷ []) in
    record {
      board = record {
        opening = ap (λ (x : Seen). x.opening) p.after ∙ h.opening;
        limit = ap (λ (x : Seen). x.limit) p.after ∙ h.limit;
        alone = ap (λ (x : Seen). x.alone) p.after ∙ h.alone;
        sound = sound-more s edit edited t p;
      };
      begins = prefix_trans s.front p.h.front t.front first.begins (p.change ∷ [], sym front);
      since = omega (arith, long, since);
      only = λ alone. let same = first.only alone in omega (arith, long, same);
    }

-- a history begins with the front
front-of : (front history : List Change) → IsPrefix front history → take (length front) history ≡ front
front-of front history p = ap (take (length front)) (sym p.1) ∙ take-append_seam front p.0

-- the document of the board is that after so many changes
document-of : (b t : Seen) (history : List Change) → IsAt b t → IsPrefix t.front history → document_of t ≡ document_at b.opening history (length t.front)
document-of b t history board p =
    ap (λ (d : Contents). replay_of d t.front) board.opening ∙ ap (replay_of b.opening) (sym (front-of t.front history p))

-- an answer that is known as another
comes-as : (workers : ℕ) (b s : Seen) (r : Result Request WireFault) (x y : Response) (t : Seen) → x ≡ y → Comes workers b s r y t → Comes workers b s r x t
comes-as workers b s r x y t e h = subst (λ (z : Response). Comes workers b s r z t) (sym e) h

made-one : (id : Option ℕ) (n : ℕ) → changes_of (made id n) ≡ 1
made-one None n = refl
made-one (Some i) n = refl

accepted : (b s : Seen) (edit : Edit) (edited : Edited) (t : Seen) (history : List Change) → IsAt b s → IsAt b t → Accepts s edit edited t → IsPrefix t.front history
    → IsAccepted b.opening history (length t.front) edit (edit_response (Ok edited))
accepted b s edit edited t history board board_then p begins =
    let h = at-grows b s p.h board p.begins in
    let front : t.front ≡ p.h.front ++ p.change ∷ [] = ap (λ (x : Seen). x.front) p.after in
    let long : length t.front ≡ length p.h.front + 1 = ap length front ∙ length-append p.h.front (p.change ∷ []) in
    let older : IsPrefix p.h.front history = prefix_trans p.h.front t.front history (p.change ∷ [], sym front) begins in
    record {
      before = length p.h.front;
      change = p.change;
      number = long;
      stands = front-of t.front history begins ∙ (front ∙ ap (λ (xs : List Change). xs ++ p.change ∷ []) (sym (front-of p.h.front history older)));
      decided = ap (decision_of edit) (sym (document-of b p.h history h older)) ∙ p.decided;
      answer = ap (λ (id : Option ℕ). bare (made id edited.number)) p.id ∙ ap (λ (n : ℕ). bare (made (new_id p.change) n)) p.number;
    }

-- a board that is as it was has seen as much
seen-same : (s t : Seen) → t ≡ s → length t.front ≡ length s.front
seen-same s t same = ap (λ (x : Seen). length x.front) same

-- a refusal that leaves the board
stays : (code : ℕ) (s t : Seen) → t ≡ s → Stays code (length s.front) (length t.front) (bare (refused code))
stays code s t same = (seen-same s t same, refl)

-- the board is seen as that after so many changes of the history
is-seen : (b t : Seen) (history : List Change) → IsAt b t → IsPrefix t.front history → t ≡ seen_at b history (length t.front)
is-seen b t history board p =
    let front : t.front ≡ take (length t.front) history = sym (front-of t.front history p) in
    λ k. record { opening = board.opening k; limit = board.limit k; front = front k; alone = board.alone k }

wants-memory : (b s t : Seen) (edit : Edit) (history : List Change) → IsAt b s → t ≡ s → IsPrefix t.front history → WantsMemory s edit
    → WantsMemory (seen_at b history (length t.front)) edit
wants-memory b s t edit history board same p h =
    let there : IsAt b t = subst (IsAt b) (sym same) board in
    subst (λ (x : Seen). WantsMemory x edit) (sym same ∙ is-seen b t history there p) h

comes-edit : (workers : ℕ) (b s : Seen) (edit : Edit) (result : Result Edited BoardFault) (t : Seen) → IsAt b s → Edits s edit result t
    → Comes workers b s (Ok (request.Edit edit)) (edit_response result) t
comes-edit workers b s edit (Ok edited) t board h =
    let moves = moves-accepts b s edit edited t board h in
    record {
      moves = subst (Moves b s t) (sym (made-one edited.id edited.number)) moves;
      comes = λ history p. inl (accepted b s edit edited t history board moves.board h p);
    }
comes-edit workers b s edit (Err (Refused why)) t board h =
    let moves = moves-grows b s t board h.0 in
    let room = h.1 in
    let limit = moves.board.limit in
    record {
      moves = moves;
      comes = λ history p. inr (inl (why, omega (arith, room, limit), ap (decision_of edit) (sym (document-of b t history moves.board p)) ∙ h.2, refl));
    }
comes-edit workers b s edit (Err VersionsSpent) t board h =
    let moves = moves-grows b s t board h.0 in
    record { moves = moves; comes = λ history p. inr (inr (inl (h.1 ∙ moves.board.limit, refl))) }
comes-edit workers b s edit (Err OutOfMemory) t board h =
    let moves = moves-same b s t board h.0 in
    record { moves = moves; comes = λ history p. inr (inr (inr (inl (wants-memory b s t edit history board h.0 p h.1, stays _ s t h.0)))) }
comes-edit workers b s edit (Err (Behind desk front)) t board h =
    let same = seen-same s t h.0 in
    let ahead = h.2 in
    record {
      moves = moves-same b s t board h.0;
      comes = λ history p. inr (inr (inr (inr (inl (sym board.alone ∙ h.1, inr (desk, front, same, omega (arith, same, ahead), h.3, refl))))));
    }
comes-edit workers b s edit (Err (Strangers own found)) t board h =
    record { moves = moves-same b s t board h.0; comes = λ history p. inr (inr (inr (inr (inl (sym board.alone ∙ h.1, inl (stays 18 s t h.0)))))) }
comes-edit workers b s edit (Err NoView) t board h =
    record { moves = moves-same b s t board h.0; comes = λ history p. inr (inr (inr (inr (inr (sym board.alone ∙ h.1, stays _ s t h.0))))) }
comes-edit workers b s edit (Err BadWorkers) t board h = absurd h
comes-edit workers b s edit (Err BadSetting) t board h = absurd h

comes-point : (workers : ℕ) (b s : Seen) (x y : ℤ) (result : Result Dot BoardFault) (t : Seen) → IsAt b s → Looks s x y result t
    → Comes workers b s (Ok (request.Point x y)) (point_response result) t
comes-point workers b s x y (Ok dot) t board h =
    let moves = moves-grows b s t board h.0 in
    record {
      moves = moves;
      comes = λ history p. inl (
          ap (λ c. bare (point c dot.version)) (h.2 ∙ ap (λ (d : Contents). colour d.records x y) (document-of b t history moves.board p))
          ∙ ap (λ (n : ℕ). bare (point (colour (document_at b.opening history (length t.front)).records x y) n)) h.1);
    }
comes-point workers b s x y (Err NoView) t board h =
    record { moves = moves-same b s t board h.0; comes = λ history p. inr (sym board.alone ∙ h.1, stays _ s t h.0) }
comes-point workers b s x y (Err OutOfMemory) t board h = absurd h
comes-point workers b s x y (Err VersionsSpent) t board h = absurd h
comes-point workers b s x y (Err (Refused why)) t board h = absurd h
comes-point workers b s x y (Err (Behind desk front)) t board h = absurd h
comes-point workers b s x y (Err (Strangers own found)) t board h = absurd h
comes-point workers b s x y (Err BadWorkers) t board h = absurd h
comes-point workers b s x y (Err BadSetting) t board h = absurd h

full-alike : (xs ys : List ℕ) (n m : ℕ) → xs ≡ ys → n ≡ m → full xs n ≡ full ys m
full-alike xs ys n m e f = ap (λ zs. full zs n) e ∙ ap (full ys) f

comes-saved : (workers : ℕ) (b s : Seen) (result : Result Saved BoardFault) (t : Seen) → IsAt b s → Saves s result t
    → Comes workers b s (Ok request.Export) (saved_response result) t
comes-saved workers b s (Ok saved) t board h =
    let moves = moves-grows b s t board h.0 in
    record {
      moves = moves;
      comes = λ history p. inl (full-alike _ _ _ _ (h.2 ∙ ap saved_text_of (document-of b t history moves.board p)) h.1);
    }
comes-saved workers b s (Err NoView) t board h =
    record { moves = moves-same b s t board h.0; comes = λ history p. inr (inl (sym board.alone ∙ h.1, stays _ s t h.0)) }
comes-saved workers b s (Err OutOfMemory) t board h = record { moves = moves-same b s t board h; comes = λ history p. inr (inr (stays _ s t h)) }
comes-saved workers b s (Err VersionsSpent) t board h = absurd h
comes-saved workers b s (Err (Refused why)) t board h = absurd h
comes-saved workers b s (Err (Behind desk front)) t board h = absurd h
comes-saved workers b s (Err (Strangers own found)) t board h = absurd h
comes-saved workers b s (Err BadWorkers) t board h = absurd h
comes-saved workers b s (Err BadSetting) t board h = absurd h

-- what a window came to
record ComesShown (fault : Option WindowFault) (workers : ℕ) (b s : Seen) (level : ℕ) (x y : ℤ) (w h : ℕ) (a : Response) (t : Seen) : Type 0 where
  moves : Moves b s t (changes_of a.reply)
  comes : OfEach t (λ history. IsShown fault workers b (document_at b.opening history (length t.front)) (length s.front) (length t.front) level x y w h a)

comes-picture : (workers : ℕ) (b s : Seen) (level : ℕ) (x y : ℤ) (w h : ℕ) (window : Window) (result : Result Picture BoardFault) (t : Seen) → IsAt b s
    → IsWindowAt level x y w h window → Paints s window workers result t → ComesShown None workers b s level x y w h (picture_response result) t
comes-picture workers b s level x y w h window (Ok picture) t board place p =
    let moves = moves-grows b s t board p.0 in
    record {
      moves = moves;
      comes = λ history begins. inr (p.1, inl (window, place, full-alike _ _ _ _ (p.3 ∙ ap (λ (d : Contents). file_of d window) (document-of b t history moves.board begins)) p.2));
    }
comes-picture workers b s level x y w h window (Err BadWorkers) t board place p =
    record { moves = moves-same b s t board p.0; comes = λ history begins. inl (p.1, stays _ s t p.0) }
comes-picture workers b s level x y w h window (Err NoView) t board place p =
    record { moves = moves-same b s t board p.0; comes = λ history begins. inr (p.1, inr (inl (sym board.alone ∙ p.2, stays _ s t p.0))) }
comes-picture workers b s level x y w h window (Err OutOfMemory) t board place p =
    record { moves = moves-same b s t board p.0; comes = λ history begins. inr (p.1, inr (inr (stays _ s t p.0))) }
comes-picture workers b s level x y w h window (Err VersionsSpent) t board place p = absurd p
comes-picture workers b s level x y w h window (Err (Refused why)) t board place p = absurd p
comes-picture workers b s level x y w h window (Err (Behind desk front)) t board place p = absurd p
comes-picture workers b s level x y w h window (Err (Strangers own found)) t board place p = absurd p
comes-picture workers b s level x y w h window (Err BadSetting) t board place p = absurd p

comes-shown : (fault : Option WindowFault) (workers : ℕ) (b s : Seen) (level : ℕ) (x y : ℤ) (w h : ℕ) (a : Response) (t : Seen) → IsAt b s
    → ShowsUnless fault workers s level x y w h a t → ComesShown fault workers b s level x y w h a t
comes-shown None workers b s level x y w h a t board p =
    let shows = p.2 in
    subst (λ (z : Response). ComesShown None workers b s level x y w h z t) (sym shows.answer) (comes-picture workers b s level x y w h p.0 shows.result t board p.1 shows.step)
comes-shown (Some fault) workers b s level x y w h a t board p =
    subst (λ (z : Response). ComesShown (Some fault) workers b s level x y w h z t) (sym p.0) (record { moves = moves-same b s t board p.1; comes = λ history begins. stays _ s t p.1 })

comes-step : (workers : ℕ) (b s : Seen) (r : Result Request WireFault) (a : Response) (t : Seen) → IsAt b s → Step workers s r a t → Comes workers b s r a t
comes-step workers b s (Ok (request.Edit edit)) a t board h = comes-as workers b s _ a (edit_response h.0) t h.2 (comes-edit workers b s edit h.0 t board h.1)
comes-step workers b s (Ok (request.Tile level col row)) a t board h = let c = comes-shown _ workers b s level _ _ 256 256 a t board h in record { moves = c.moves; comes = c.comes }
comes-step workers b s (Ok (request.Patch level x y w h)) a t board p = let c = comes-shown _ workers b s level x y w h a t board p in record { moves = c.moves; comes = c.comes }
comes-step workers b s (Ok (request.Point x y)) a t board h = comes-as workers b s _ a (point_response h.0) t h.2 (comes-point workers b s x y h.0 t board h.1)
comes-step workers b s (Ok request.Export) a t board h = comes-as workers b s _ a (saved_response h.0) t h.2 (comes-saved workers b s h.0 t board h.1)
comes-step workers b s (Err fault) a t board h = comes-as workers b s _ a _ t h.0 (record { moves = moves-same b s t board h.1; comes = λ history p. stays _ s t h.1 })

-- a board only goes on
goes-on : (workers : ℕ) (b s : Seen) (rs : List (Result Request WireFault)) (answers : List Response) (t : Seen) → IsAt b s → IsTranscript workers s rs answers t → GoesOn b s t
goes-on workers b s [] [] t board h = subst (GoesOn b s) (sym h) (record { board = board; begins = prefix_self s.front })
goes-on workers b s (r ∷ rs) (a ∷ more) t board h =
    let moves = (comes-step workers b s r a h.0 board h.1).moves in
    let rest = goes-on workers b h.0 rs more t moves.board h.2 in
    record { board = rest.board; begins = prefix_trans s.front h.0.front t.front moves.begins rest.begins }
goes-on workers b s [] (a ∷ more) t board h = absurd h
goes-on workers b s (r ∷ rs) [] t board h = absurd h

in-turn : (workers : ℕ) (b s : Seen) (rs : List (Result Request WireFault)) (answers : List Response) (t : Seen) → IsAt b s → IsTranscript workers s rs answers t
    → StandInTurn workers b t.front (length s.front) rs answers
in-turn workers b s [] [] t board h =
    let same : length t.front ≡ length s.front = ap (λ (x : Seen). length x.front) h in (omega (arith, same), λ alone. same)
in-turn workers b s (r ∷ rs) (a ∷ more) t board h =
    let c = comes-step workers b s r a h.0 board h.1 in
    let rest = goes-on workers b h.0 rs more t c.moves.board h.2 in (
      length h.0.front,
      record { since = c.moves.since; only = c.moves.only; comes = c.comes t.front rest.begins },
      in-turn workers b h.0 rs more t c.moves.board h.2,
    )
in-turn workers b s [] (a ∷ more) t board h = absurd h
in-turn workers b s (r ∷ rs) [] t board h = absurd h

-- where nobody else edits, only an accepted edit changes the board
pub lone-stays : (workers : ℕ) (s : Seen) (r : Result Request WireFault) (a : Response) (t : Seen) → IsSound s → s.alone ≡ true → Step workers s r a t → changes_of a.reply ≡ 0 → t ≡ s
lone-stays workers s r a t sound alone h none =
    let board : IsAt s s = record { opening = refl; limit = refl; alone = refl; sound = sound } in
    let moves = (comes-step workers s s r a t board h).moves in
    let long : length t.front ≡ length s.front + changes_of a.reply = moves.only alone in
    let front : s.front ≡ t.front = prefix_whole s.front t.front moves.begins (omega (arith, long, none)) in
    λ k. record { opening = moves.board.opening k; limit = moves.board.limit k; front = sym front k; alone = moves.board.alone k }

pub belongs : (workers : ℕ) (s t : Seen) (rs : List (Result Request WireFault)) (answers : List Response) → IsSound s → IsTranscript workers s rs answers t
    → BelongsTo workers s t.front rs answers
belongs workers s t rs answers sound h =
    let board : IsAt s s = record { opening = refl; limit = refl; alone = refl; sound = sound } in
    let on = goes-on workers s s rs answers t board h in
    let limit = on.board.limit in
    let within = on.board.sound.within in
    record {
      begins = on.begins;
      fits = subst (λ (d : Contents). AllFit d t.front) on.board.opening on.board.sound.fits;
      within = omega (arith, within, limit);
      numbers = in-turn workers s s rs answers t board h;
    }
