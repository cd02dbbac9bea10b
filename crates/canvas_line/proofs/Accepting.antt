-- A desk that published what comes next accepted the edit.
use Rattle.std.proofs.Common.{◌≡◌, ◌<◌, ℕ, List, [], ◌∷◌, ◌++◌, length, Ok, Option, ap, sym, ◌∙◌, subst}
use Rattle.canvas_record.specs.declared.edits.Change.{Change}
use Rattle.canvas_record.specs.declared.edits.Edit.{Edit}
use Rattle.canvas_record.specs.Contents.{Contents}
use Rattle.canvas_record.specs.Decision.{decision_of}
use Rattle.canvas_record.specs.History.{replay_of}
use Rattle.canvas_look.specs.declared.answers.Edited.{Edited}
use Rattle.canvas_line.specs.Lines.{Line, line_of, Accepts, Next}
use Rattle.canvas_line.specs.Standing.{Shown}
use Rattle.canvas_line.specs.Trails.{Facts}

pub accepts : (l : Line) (name : ℕ) (f : Facts) (h h' : List Change) (t t' : Option ℕ) (now next : Shown) (e : Edit) (r : Edited)
    → line_of name f h t ≡ l → Next now.facts now.facts.opening now.facts.limit now.changes e next r → now.facts ≡ f → now.changes ≡ h → h' ≡ next.changes → t' ≡ t
    → Accepts l e (line_of name f h' t') r
accepts l name f h h' t t' now next e r view n facts is grown taken =
    let decided : decision_of e (replay_of f.opening h) ≡ Ok n.0 = ap (λ (x : List Change). decision_of e (replay_of f.opening x)) (sym is) ∙ ap (λ (x : Facts). decision_of e (replay_of x.opening now.changes)) (sym facts) ∙ n.1 in
    let room : length h < f.limit = subst (λ (x : List Change). length x < f.limit) is (subst (λ (x : Facts). length now.changes < x.limit) facts n.2) in
    let history : h' ≡ h ++ n.0 ∷ [] = grown ∙ n.4 ∙ ap (λ (x : List Change). x ++ n.0 ∷ []) is in
    subst (λ (x : Line). Accepts x e (line_of name f h' t') r) view (
      n.0,
      decided,
      room,
      ap (λ (x : List Change). line_of name f x t') history ∙ ap (λ (x : Option ℕ). line_of name f (h ++ n.0 ∷ []) x) taken,
      n.5 ∙ ap length (sym grown),
      n.6,
    )
