-- What belongs to a history belongs to each longer one.
use Rattle.std.proofs.Common.{◌≡◌, ℕ, ℤ, ◌+◌, ◌≤◌, true, false, ◌⊎◌, inl, inr, List, [], ◌∷◌, ◌++◌, Option, None, Some, Result, Ok, Err, length, take, refl, sym, ap, ◌∙◌, arith, subst}
use mathlib.Core.List.{IsPrefix}
use Rattle.canvas_plane.specs.declared.windows.WindowFault.{WindowFault}
use Rattle.canvas_record.specs.declared.edits.Change.{Change}
use Rattle.canvas_record.specs.declared.edits.Edit.{Edit}
use Rattle.canvas_record.specs.Contents.{Contents}
use Rattle.canvas_record.specs.Decision.{decision_of}
use Rattle.canvas_record.specs.History.{replay_of, AllFit}
use Rattle.canvas_record.specs.Picture.{colour}
use Rattle.canvas_json.specs.Saved.{saved_text_of}
use Rattle.canvas_wire.specs.declared.request.Request.{Request}
use Rattle.canvas_wire.specs.declared.request.Request.TheVariants as request
use Rattle.canvas_wire.specs.declared.fault.WireFault.{WireFault}
use Rattle.canvas_wire.specs.Replies.{point}
use Rattle.canvas_look.specs.Seen.{Seen}
use Rattle.canvas_look.specs.Steps.{WantsMemory}
use Rattle.canvas_look.proofs.Prefixes.{prefix_trans, prefix_length, take_more_same}
use Rattle.canvas_session.specs.Response.{Response, bare}
use Rattle.canvas_session.specs.Belongs.{document_at, seen_at, full, changes_in, Stays, HasNoRoom, IsAccepted, IsRefused, HasNoView, IsShown, ComesTo, StandInTurn, BelongsTo}

-- the numbers are within the history
turn-within : (workers : ℕ) (b : Seen) (history : List Change) (m : ℕ) (rs : List (Result Request WireFault)) (answers : List Response)
    → StandInTurn workers b history m rs answers → m ≤ length history
turn-within workers b history m [] [] h = h.0
turn-within workers b history m (r ∷ rs) (a ∷ more) h =
    let rest = turn-within workers b history h.0 rs more h.2 in
    let since = h.1.since in omega (arith, rest, since)
turn-within workers b history m [] (a ∷ more) h = absurd h
turn-within workers b history m (r ∷ rs) [] h = absurd h

-- the document after so many changes is that of a longer history
same-document : (opening : Contents) (xs ys : List Change) (n : ℕ) → IsPrefix xs ys → n ≤ length xs → document_at opening xs n ≡ document_at opening ys n
same-document opening xs ys n p within = ap (replay_of opening) (sym (take_more_same n xs ys p within))

longer-accepted : (opening : Contents) (xs ys : List Change) (n : ℕ) (edit : Edit) (a : Response) → IsPrefix xs ys → n ≤ length xs
    → IsAccepted opening xs n edit a → IsAccepted opening ys n edit a
longer-accepted opening xs ys n edit a p within h =
    let number = h.number in
    let before : h.before ≤ length xs = omega (arith, number, within) in
    record {
      before = h.before;
      change = h.change;
      number = h.number;
      stands = take_more_same n xs ys p within ∙ (h.stands ∙ ap (λ (zs : List Change). zs ++ h.change ∷ []) (sym (take_more_same h.before xs ys p before)));
      decided = ap (decision_of edit) (sym (same-document opening xs ys h.before p before)) ∙ h.decided;
      answer = h.answer;
    }

longer-room : (b : Seen) (xs ys : List Change) (m n : ℕ) (edit : Edit) (a : Response) → IsPrefix xs ys → n ≤ length xs → HasNoRoom b xs m n edit a → HasNoRoom b ys m n edit a
longer-room b xs ys m n edit a p within h =
    let front : take n xs ≡ take n ys = sym (take_more_same n xs ys p within) in
    let same : seen_at b xs n ≡ seen_at b ys n = λ k. record { opening = b.opening; limit = b.limit; front = front k; alone = b.alone } in
    (subst (λ (x : Seen). WantsMemory x edit) same h.0, h.1)

shown-same : (fault : Option WindowFault) (workers : ℕ) (b : Seen) (d e : Contents) (m n level : ℕ) (x y : ℤ) (w z : ℕ) (a : Response) → d ≡ e
    → IsShown fault workers b d m n level x y w z a → IsShown fault workers b e m n level x y w z a
shown-same fault workers b d e m n level x y w z a same h = subst (λ (c : Contents). IsShown fault workers b c m n level x y w z a) same h

longer-comes : (workers : ℕ) (b : Seen) (xs ys : List Change) (m n : ℕ) (r : Result Request WireFault) (a : Response) → IsPrefix xs ys → n ≤ length xs
    → ComesTo workers b xs m n r a → ComesTo workers b ys m n r a
longer-comes workers b xs ys m n (Ok (request.Edit edit)) a p within (inl h) = inl (longer-accepted b.opening xs ys n edit a p within h)
longer-comes workers b xs ys m n (Ok (request.Edit edit)) a p within (inr (inl h)) =
    inr (inl (subst (λ (d : Contents). IsRefused b.limit d n edit a) (same-document b.opening xs ys n p within) h))
longer-comes workers b xs ys m n (Ok (request.Edit edit)) a p within (inr (inr (inl h))) = inr (inr (inl h))
longer-comes workers b xs ys m n (Ok (request.Edit edit)) a p within (inr (inr (inr (inl h)))) = inr (inr (inr (inl (longer-room b xs ys m n edit a p within h))))
longer-comes workers b xs ys m n (Ok (request.Edit edit)) a p within (inr (inr (inr (inr h)))) = inr (inr (inr (inr h)))
longer-comes workers b xs ys m n (Ok (request.Tile level col row)) a p within h =
    shown-same _ workers b _ _ m n level _ _ 256 256 a (same-document b.opening xs ys n p within) h
longer-comes workers b xs ys m n (Ok (request.Patch level x y w z)) a p within h =
    shown-same _ workers b _ _ m n level x y w z a (same-document b.opening xs ys n p within) h
longer-comes workers b xs ys m n (Ok (request.Point x y)) a p within h =
    subst (λ (d : Contents). (a ≡ bare (point (colour d.records x y) n)) ⊎ HasNoView b m n a) (same-document b.opening xs ys n p within) h
longer-comes workers b xs ys m n (Ok request.Export) a p within h =
    subst (λ (d : Contents). (a ≡ full (saved_text_of d) n) ⊎ (HasNoView b m n a ⊎ Stays 1 m n a)) (same-document b.opening xs ys n p within) h
longer-comes workers b xs ys m n (Err fault) a p within h = h

longer-turn : (workers : ℕ) (b : Seen) (xs ys : List Change) (m : ℕ) (rs : List (Result Request WireFault)) (answers : List Response) → b.alone ≡ false → IsPrefix xs ys
    → StandInTurn workers b xs m rs answers → StandInTurn workers b ys m rs answers
longer-turn workers b xs ys m [] [] others p h =
    let within = h.0 in (omega (arith, within, prefix_length xs ys p), λ alone. absurd (cc (others, alone)))
longer-turn workers b xs ys m (r ∷ rs) (a ∷ more) others p h = (
  h.0,
  record { since = h.1.since; only = h.1.only; comes = longer-comes workers b xs ys m h.0 r a p (turn-within workers b xs h.0 rs more h.2) h.1.comes },
  longer-turn workers b xs ys h.0 rs more others p h.2,
)
longer-turn workers b xs ys m [] (a ∷ more) others p h = absurd h
longer-turn workers b xs ys m (r ∷ rs) [] others p h = absurd h

pub longer-belongs : (workers : ℕ) (b : Seen) (xs ys : List Change) (rs : List (Result Request WireFault)) (answers : List Response) → b.alone ≡ false
    → BelongsTo workers b xs rs answers → IsPrefix xs ys → AllFit b.opening ys → length ys ≤ b.limit → BelongsTo workers b ys rs answers
longer-belongs workers b xs ys rs answers others h p fits within = record {
  begins = prefix_trans b.front xs ys h.begins p;
  fits = fits;
  within = within;
  numbers = longer-turn workers b xs ys (length b.front) rs answers others p h.numbers;
}

alone-turn : (workers : ℕ) (b : Seen) (history : List Change) (m : ℕ) (rs : List (Result Request WireFault)) (answers : List Response) → b.alone ≡ true
    → StandInTurn workers b history m rs answers → length history ≡ m + changes_in answers
alone-turn workers b history m [] [] alone h = let all = h.1 alone in omega (arith, all)
alone-turn workers b history m (r ∷ rs) (a ∷ more) alone h =
    let first = h.1.only alone in
    let rest = alone-turn workers b history h.0 rs more alone h.2 in omega (arith, first, rest)
alone-turn workers b history m [] (a ∷ more) alone h = absurd h
alone-turn workers b history m (r ∷ rs) [] alone h = absurd h

-- where nobody else edits, each change is one that was asked for
pub alone-changes : (workers : ℕ) (b : Seen) (history : List Change) (rs : List (Result Request WireFault)) (answers : List Response) → b.alone ≡ true
    → BelongsTo workers b history rs answers → length history ≡ length b.front + changes_in answers
alone-changes workers b history rs answers alone h = alone-turn workers b history (length b.front) rs answers alone h.numbers
