use Rattle.std.proofs.Common.{◌≡◌, ◌++◌, ◌∙◌, ap, sym, subst, List, ◌&&◌, not}
use Rattle.canvas_shape.specs.declared.Span.{Span}
use Rattle.canvas_shape.specs.Spans.{AreRising, covers, is_from_to}
use Rattle.canvas_shape.proofs.Held.{appends-spans}
use Rattle.canvas_paint.specs.FreeRows.{rest_of, taken_of}
use Rattle.canvas_paint.proofs.Fraying.{covers-rest, covers-taken, rest-rising, taken-rising}
use Rattle.canvas_paint.proofs.free_row.FreeRow.take.Goals as goal

pub invariant_of-self : goal.invariant_of-self
invariant_of-self c =
    let is : c.swap.new.x.items ≡ rest_of c.args.span c.self.inside.spans.items = ap (λ v. v.items) c.swap.ensures.x_after ∙ c.in-Ok.ensures.rest ∙ ap (rest_of c.args.span) c.deref.ensures.value in
    subst (λ (ss : List Span). AreRising ss) (sym is) (rest-rising c.args.span c.self.inside.spans.items c.requires c.self.invariant)

pub returns-in-Ok-clause-rest : goal.returns-in-Ok-clause-rest
returns-in-Ok-clause-rest c = λ x.
    let is : c.swap.new.x.items ≡ rest_of c.args.span c.self.inside.spans.items = ap (λ v. v.items) c.swap.ensures.x_after ∙ c.in-Ok.ensures.rest ∙ ap (rest_of c.args.span) c.deref.ensures.value in
    ap (λ ss. covers ss x) is ∙ covers-rest c.args.span c.self.inside.spans.items x c.requires
    ∙ ap (λ ss. covers ss x && not (is_from_to c.args.span.from x c.args.span.to)) c.self.view_is

pub returns-in-Ok-clause-taken : goal.returns-in-Ok-clause-taken
returns-in-Ok-clause-taken c =
    appends-spans c.args.out.now.items c.split.new.out.items (taken_of c.args.span c.self.inside.spans.items) _
    (c.in-Ok.ensures.taken ∙ ap (λ ss. c.args.out.now.items ++ taken_of c.args.span ss) c.deref.ensures.value)
    (record {
      rising = taken-rising c.args.span c.self.inside.spans.items c.self.invariant;
      exact = λ x. covers-taken c.args.span c.self.inside.spans.items x ∙ ap (λ ss. is_from_to c.args.span.from x c.args.span.to && covers ss x) c.self.view_is;
    })
