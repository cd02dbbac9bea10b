use Rattle.std.proofs.Common.{◌≡◌, ◌+◌, List, [], ◌∷◌, ◌++◌, length, subst, arith, Err, ap, ◌∙◌, length-append}
use Rattle.canvas_record.specs.declared.edits.Change.{Change}
use Rattle.canvas_board.specs.Alone.{alone_board}
use Rattle.canvas_look.specs.Seen.{Seen}
use Rattle.canvas_look.specs.Steps.{Accepts, Edits}
use Rattle.canvas_board.proofs.Boards.{accepts-alone, all_fit-more, current-more, refused-alone}
use Rattle.canvas_board.proofs.alone.AloneBoard.edit.Goals as goal

pub invariant_of-self : goal.invariant_of-self
invariant_of-self g c =
    let i = c.self.inside in (
      c.in-Err.ensures.same ∙ c.self.invariant.0,
      c.self.invariant.1,
      c.self.invariant.2,
      c.self.invariant.3,
      c.self.invariant.4,
    )

pub invariant_of-self-in-Ok : goal.invariant_of-self-in-Ok
invariant_of-self-in-Ok g c =
    let i = c.self.inside in
    let grown : c.with.result ≡ i.history ++ c.in-Ok.change ∷ [] = c.with.ensures ∙ ap (λ (l : List Change). l ++ c.in-Ok.change ∷ []) c.replace-history.ensures.value in (
      current-more i.opening.value i.history c.with.result i.document c.make.new.document c.in-Ok.change c.self.invariant.0 c.in-Ok.ensures.effect grown,
      omega (arith, c.self.invariant.1, ap length grown, length-append i.history (c.in-Ok.change ∷ [])),
      omega (arith, c.if-self.false),
      c.self.invariant.3,
      all_fit-more i.opening.value i.history c.with.result i.document c.in-Ok.change c.self.invariant.0 c.self.invariant.4 c.in-Ok.ensures.change.1 grown,
    )

pub returns-in-Err : goal.returns-in-Err
returns-in-Err g c =
    let i = c.self.inside in
    subst (λ (s : Seen). Edits s c.args.edit.now (Err c.in-Err.fault) (alone_board i.opening.value i.limit i.history)) c.self.view_is (
    refused-alone i.opening.value i.limit i.history i.document c.args.edit.now c.in-Err.fault c.self.invariant.0 c.self.invariant.4 (omega (arith, c.self.invariant.1, c.if-self.false)) c.in-Err.ensures.change
    )

pub returns-in-Ok : goal.returns-in-Ok
returns-in-Ok g c =
    let i = c.self.inside in
    let grown : c.with.result ≡ i.history ++ c.in-Ok.change ∷ [] = c.with.ensures ∙ ap (λ (l : List Change). l ++ c.in-Ok.change ∷ []) c.replace-history.ensures.value in
    subst (λ (s : Seen). Accepts s c.args.edit.now (record { number = i.number + 1; id = c.new_id-id.result }) (alone_board i.opening.value i.limit c.with.result)) c.self.view_is (
    accepts-alone i.opening.value i.limit i.history c.with.result i.document c.args.edit.now c.in-Ok.change (record { number = i.number + 1; id = c.new_id-id.result })
    c.self.invariant.0 c.self.invariant.4 (omega (arith, c.self.invariant.1, c.if-self.false)) c.in-Ok.ensures.change.0 c.in-Ok.ensures.change.1 grown
    (omega (arith, c.self.invariant.1, ap length grown, length-append i.history (c.in-Ok.change ∷ []))) c.new_id-id.ensures
    )
