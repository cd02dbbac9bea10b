use Rattle.std.proofs.Common.{◌≡◌, ◌<◌, ◌∷◌, [], ◌++◌, List, ap, sym, length, ◌∙◌, subst}
use Rattle.canvas_record.specs.Contents.{Contents}
use Rattle.canvas_record.specs.Decision.{decision_of}
use Rattle.canvas_record.specs.History.{AllFit, replay_of}
use Rattle.canvas_record.specs.declared.edits.Change.{Change}
use Rattle.canvas_line.specs.Lines.{Line, with_front}
use Rattle.canvas_line.proofs.perch.Perch.edit_at.Goals as goal

-- the desk's history is the seat's
pub returns-in-Ok-clause-accepted : goal.returns-in-Ok-clause-accepted
returns-in-Ok-clause-accepted g c =
    let s = c.args.self.now in
    let l = c.args.desk.now in
    let m = c.apply.new.self in
    let i = c.in_ok-meets.ensures in
    let a = c.in-Ok.ensures.accepted in
    let history : c.trace.result.changes ≡ l.history ++ a.0 ∷ [] = c.trace.ensures.changes ∙ ap (λ (k : Line). k.history) a.3 in
    let fits : AllFit m.opening m.history = c.trace.ensures.fits.0 in
    let opened : AllFit s.opening m.history = subst (λ (o : Contents). AllFit o m.history) (ap (λ (k : Line). k.opening) a.3 ∙ i.1) fits in
    let front : c.follow.new.self.front ≡ m.history = ap (λ t. t.front) c.follow.ensures ∙ c.trace.ensures.changes in (
      l.history,
      a.0,
      i.3,
      subst (λ n. length l.history < n) i.2 a.2,
      ap (λ (o : Contents). decision_of c.args.edit.now (replay_of o l.history)) (sym i.1) ∙ a.1,
      c.follow.ensures ∙ ap (with_front s) history,
      subst (λ (h : List Change). AllFit s.opening h) (sym front) opened,
      a.4 ∙ ap length (sym front),
      a.5,
    )
