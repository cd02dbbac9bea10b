use Rattle.std.proofs.Common.{◌≡◌, ◌∙◌, ap, sym, subst, List, length, eqb-true, eq-eqb}
use Rattle.canvas_shape.specs.declared.Span.{Span}
use Rattle.canvas_shape.specs.Spans.{AreRising, covers}
use Rattle.canvas_paint.proofs.Fraying.{nil-of, none-free}
use Rattle.canvas_paint.proofs.free_row.FreeRow.is_done.Goals as goal

pub returns : goal.returns
returns c =
    let rising : AreRising c.args.self.now = subst (λ (ss : List Span). AreRising ss) c.self.view_is c.self.invariant in
    let same : c.as_slice.result.now ≡ c.args.self.now = c.as_slice.ensures.value ∙ c.self.view_is in (
      λ t x. ap (λ ss. covers ss x) (sym same ∙ nil-of c.as_slice.result.now (eqb-true (length c.as_slice.result.now) 0 (sym c.is_empty.ensures ∙ t))),
      λ h. c.is_empty.ensures ∙ eq-eqb (length c.as_slice.result.now) 0 (ap length (same ∙ none-free c.args.self.now rising h)),
    )
