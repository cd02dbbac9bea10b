-- Steps of a board that is alone.
use Rattle.std.proofs.Common.{◌≡◌, ℕ, ◌<◌, List, [], ◌∷◌, ◌++◌, length, Ok, Err, refl, sym, ap, ◌∙◌, append-nil, arith, subst}
use Rattle.canvas_record.specs.declared.edits.Change.{Change}
use Rattle.canvas_record.specs.declared.edits.Edit.{Edit}
use Rattle.canvas_record.specs.Contents.{Contents}
use Rattle.canvas_record.specs.Decision.{decision_of}
use Rattle.canvas_record.specs.Effect.{effect_of, Fits, new_id}
use Rattle.canvas_record.specs.History.{replay_of, AllFit}
use Rattle.canvas_record.proofs.Histories.{replay-snoc, all_fit-snoc}
use Rattle.canvas_look.specs.declared.answers.Edited.{Edited}
use Rattle.canvas_look.specs.Seen.{Seen, Grows, IsSound}
use Rattle.canvas_look.specs.declared.fault.BoardFault.{BoardFault}
use Rattle.canvas_look.specs.declared.fault.BoardFault.TheVariants.{OutOfMemory, Refused, VersionsSpent, Behind, Strangers, BadWorkers, BadSetting, NoView}
use Rattle.canvas_board.specs.Alone.{Makes, alone_board}
use Rattle.canvas_look.specs.Steps.{Accepts, Edits}

-- nothing came in between
pub grows-same : (s : Seen) → IsSound s → Grows s s
grows-same s sound = record { more = []; same = ap (λ (f : List Change). record { opening = s.opening; limit = s.limit; front = f; alone = s.alone }) (sym (append-nil s.front)); sound = sound; alone = λ h. refl }

-- an edit is accepted at the board as it is
pub accepts-alone : (opening : Contents) (limit : ℕ) (front new : List Change) (document : Contents) (edit : Edit) (change : Change) (edited : Edited)
    → document ≡ replay_of opening front → AllFit opening front → length front < limit → decision_of edit document ≡ Ok change → Fits change document → new ≡ front ++ change ∷ []
    → edited.number ≡ length new → edited.id ≡ new_id change → Accepts (alone_board opening limit front) edit edited (alone_board opening limit new)
accepts-alone opening limit front new document edit change edited current fit room decided fits after number id = record {
  h = alone_board opening limit front;
  begins = grows-same (alone_board opening limit front) (record { fits = fit; within = omega arith });
  room = room;
  change = change;
  decided = ap (decision_of edit) (sym current) ∙ decided;
  fits = subst (Fits change) current fits;
  after = ap (alone_board opening limit) after;
  number = number;
  id = id;
}

-- the document goes on to be the one after the front
pub current-more : (opening : Contents) (front new : List Change) (document after : Contents) (change : Change) → document ≡ replay_of opening front
    → after ≡ effect_of change document → new ≡ front ++ change ∷ [] → after ≡ replay_of opening new
current-more opening front new document after change current effect more =
    effect ∙ ap (effect_of change) current ∙ sym (replay-snoc opening front change) ∙ ap (replay_of opening) (sym more)

-- the longer history fits too
pub all_fit-more : (opening : Contents) (front new : List Change) (document : Contents) (change : Change) → document ≡ replay_of opening front
    → AllFit opening front → Fits change document → new ≡ front ++ change ∷ [] → AllFit opening new
all_fit-more opening front new document change current fit fits more =
    subst (AllFit opening) (sym more) (all_fit-snoc opening front change fit (subst (Fits change) current fits))

-- an edit is refused at the board as it is
pub refused-alone : (opening : Contents) (limit : ℕ) (front : List Change) (document : Contents) (edit : Edit) (fault : BoardFault)
    → document ≡ replay_of opening front → AllFit opening front → length front < limit → Makes document edit (Err fault) → Edits (alone_board opening limit front) edit (Err fault) (alone_board opening limit front)
refused-alone opening limit front document edit OutOfMemory current fit room made = (
  refl,
  record {
    h = alone_board opening limit front;
    begins = grows-same (alone_board opening limit front) (record { fits = fit; within = omega arith });
    room = room;
    change = made.0;
    decided = ap (decision_of edit) (sym current) ∙ made.1;
  },
)
refused-alone opening limit front document edit (Refused why) current fit room made = (grows-same (alone_board opening limit front) (record { fits = fit; within = omega arith }), room, ap (decision_of edit) (sym current) ∙ made)
refused-alone opening limit front document edit VersionsSpent current fit room made = absurd made
refused-alone opening limit front document edit (Behind desk seen) current fit room made = absurd made
refused-alone opening limit front document edit (Strangers own found) current fit room made = absurd made
refused-alone opening limit front document edit BadWorkers current fit room made = absurd made
refused-alone opening limit front document edit BadSetting current fit room made = absurd made
refused-alone opening limit front document edit NoView current fit room made = absurd made
