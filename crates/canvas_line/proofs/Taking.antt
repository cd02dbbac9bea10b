-- What a seat that follows the desk is told.
use Rattle.std.proofs.Common.{◌≡◌, List, Option, Some, None, ap, sym, refl, subst}
use Rattle.canvas_record.specs.Contents.{Contents}
use Rattle.canvas_record.specs.declared.edits.Change.{Change}
use Rattle.canvas_line.specs.declared.recorder.Taken.{Taken}
use Rattle.canvas_line.specs.Lines.{Line, Sight, Takes, with_front}
use Rattle.canvas_line.specs.Recording.{MakesRest}
use Rattle.canvas_line.specs.Seats.{GoesOn, IsAt, TakesAt}

goes_on : (s t : Sight) (l : Line) (h : List Change) → IsAt s l → h ≡ l.history → t ≡ with_front s h → GoesOn s t
goes_on s t l h at same is = subst (λ (u : Sight). GoesOn s u) (sym is) (subst (λ (h : List Change). GoesOn s (with_front s h)) (sym same) (at.3, at.4, refl))

-- the edits that were taken make the rest of the new front
pub takes_at : (s t : Sight) (l m : Line) (taken : Option Taken) → IsAt s l → Takes l taken m → t ≡ with_front s m.history → TakesAt s t taken
takes_at s t l m None at takes is = goes_on s t l m.history at (ap (λ (k : Line). k.history) takes.1) is
takes_at s t l m (Some taken) at takes is =
    let same = ap (λ (k : Line). k.history) takes.2 in
    let own = subst (λ (o : Contents). MakesRest o l.history taken.before taken.edits.items) at.1 takes.1 in (
      goes_on s t l m.history at same is,
      subst (λ (u : Sight). MakesRest s.opening u.front taken.before taken.edits.items) (sym is) (subst (λ (h : List Change). MakesRest s.opening h taken.before taken.edits.items) (sym same) own),
    )
