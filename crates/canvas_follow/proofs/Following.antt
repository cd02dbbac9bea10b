-- How a line goes on by a line of a feed, and by many.
use Rattle.std.proofs.Common.{◌≡◌, ℕ, ◌+◌, ◌-◌, List, [], ◌∷◌, ◌++◌, length, Some, Ok, refl, ap, sym, ◌∙◌, subst, append_assoc, length-append, append-nil}
use Rattle.std.specs.List.{flat_map}
use Rattle.canvas_record.specs.declared.edits.Change.{Change}
use Rattle.canvas_record.specs.declared.edits.Edit.{Edit}
use Rattle.canvas_record.specs.Contents.{Contents}
use Rattle.canvas_record.specs.Decision.{decision_of}
use Rattle.canvas_record.proofs.Histories.{replay-snoc}
use Rattle.canvas_wire.specs.Requests.{request_of}
use Rattle.canvas_wire.specs.declared.request.Request.TheVariants as requests
use Rattle.canvas_feed.specs.Feed.{change_asked, change_in, change_told, effect_told, feed_line, feed_text, line_told}
use Rattle.canvas_keep.specs.Telling.{Replays, Tells}
use Rattle.canvas_keep.proofs.Histories.{replays_one}
use Rattle.canvas_look.specs.declared.answers.Edited.{Edited}
use Rattle.canvas_line.specs.Lines.{Sight, with_front}
use Rattle.canvas_line.specs.Seats.{EditAccepted}
use Rattle.canvas_follow.specs.Course.{Follows, FollowsAll, IsFedBy, TellsNext, document_at}

-- the change that a text tells whose edit is decided so
told_change : (d : Contents) (text : List ℕ) (e : Edit) (c : Change) → request_of text ≡ Ok (requests.Edit e) → decision_of e d ≡ Ok c → change_told d text ≡ Some c
unfolding change_told
told_change d text e c read decided = ap (change_asked d) read ∙ ap change_in decided

-- ---- one line

pub follows_next : (s t : Sight) (line : List ℕ) (edit : Edit) (r : Edited) → TellsNext (document_at s) (length s.front) line edit → EditAccepted s edit t r
    → r.number - 1 ≡ length s.front → Follows s line t
follows_next s t line edit r told accepted next = record {
  text = told.text;
  replayed = replays_one s t told.text edit r told.read accepted next;
  same = told.same ∙ sym (ap (line_told (document_at s) told.text (length s.front + 1)) (told_change (document_at s) told.text edit told.change told.read told.decided));
}

-- ---- many lines

-- what one line leaves
step_by : (s m : Sight) (text : List ℕ) (cs : List Change) → Tells (document_at s) (text ∷ []) cs → m ≡ with_front s (s.front ++ cs)
    → (document_at m ≡ effect_told (document_at s) (change_told (document_at s) text)) × (length m.front ≡ length s.front + 1)
step_by s m text [] told is = absurd told
step_by s m text (c ∷ []) told is = (
  ap document_at is ∙ replay-snoc s.opening s.front c ∙ sym (ap (effect_told (document_at s)) (told_change (document_at s) text told.0 c told.1 told.2)),
  ap (λ (x : Sight). length x.front) is ∙ length-append s.front (c ∷ []),
)
step_by s m text (c ∷ b ∷ cs) told is = absurd told.3

-- a line, and then more
replays_then : (s m t : Sight) (text : List ℕ) (texts : List (List ℕ)) (cs : List Change) → Tells (document_at s) (text ∷ []) cs → m ≡ with_front s (s.front ++ cs) → Replays m texts t → Replays s (text ∷ texts) t
replays_then s m t text texts [] told is more = absurd told
replays_then s m t text texts (c ∷ []) told is more =
    let rest : Replays (with_front s (s.front ++ c ∷ [])) texts t = subst (λ (x : Sight). Replays x texts t) is more in (
      c ∷ rest.0,
      (told.0, told.1, told.2, subst (λ (d : Contents). Tells d texts rest.0) (replay-snoc s.opening s.front c) rest.1),
      rest.2 ∙ ap (with_front s) (append_assoc s.front (c ∷ []) rest.0),
    )
replays_then s m t text texts (c ∷ b ∷ cs) told is more = absurd told.3

pub fed_by : (s t : Sight) (lines : List (List ℕ)) → FollowsAll s lines t → IsFedBy s (flat_map (λ line. line) lines) t
fed_by s t [] f = record {
  texts = [];
  replayed = ([], tt, f ∙ ap (with_front s) (sym (append-nil s.front)));
  same = refl;
}
fed_by s t (line ∷ lines) f =
    let m = f.0 in
    let one = f.1 in
    let rest = fed_by m t lines f.2 in
    let step = step_by s m one.text one.replayed.0 one.replayed.1 one.replayed.2 in
    record {
      texts = one.text ∷ rest.texts;
      replayed = replays_then s m t one.text rest.texts one.replayed.0 one.replayed.1 one.replayed.2 rest.replayed;
      same = ap (λ xs. xs ++ flat_map (λ line. line) lines) one.same
          ∙ ap (λ xs. feed_line (document_at s) (length s.front + 1) one.text ++ xs)
          (rest.same ∙ ap (λ (d : Contents). feed_text d (length m.front) rest.texts) step.0
          ∙ ap (λ n. feed_text (effect_told (document_at s) (change_told (document_at s) one.text)) n rest.texts) step.1);
    }
