use Rattle.std.proofs.Common.{◌≡◌, ◌∙◌, All, Bor, List, ap, map, subst, sym}
use Rattle.std.proofs.lemmas.Result.{IfOk-weaker}
use Rattle.canvas_record.specs.declared.records.Record.{Record}
use Rattle.canvas_record.specs.Children.{children}
use Rattle.canvas_record.specs.Contents.{Contents}
use Rattle.canvas_record.specs.Tree.{IsInLimits}
use Rattle.canvas_doc.proofs.places.ChildrenInOrder.{children-are}
use Rattle.canvas_doc.proofs.siblings.Sorting.{all-by_reference, all-children, record_of}
use Rattle.canvas_doc.proofs.Document.children.Goals as goal

pub returns-clause-children : goal.returns-clause-children
returns-clause-children g c =
    IfOk-weaker c.children.result _ (λ list. map record_of list.items ≡ children c.args.parent c.args.self.now.records)
    (λ list e. e
    ∙ children-are c.args.parent c.self.inside.order.shapes c.self.inside.records c.self.invariant.well_formed.places c.self.invariant.in_order
    ∙ ap (λ (d : Contents). children c.args.parent d.records) c.self.view_is)
    c.children.ensures

pub returns-clause-limits : goal.returns-clause-limits
returns-clause-limits g c =
    IfOk-weaker c.children.result _ (λ list. All (λ (shape : Bor Record). IsInLimits shape.now) list.items)
    (λ list e. all-by_reference IsInLimits list.items (subst (λ (rs : List Record). All IsInLimits rs) (sym e)
    (subst (λ (rs : List Record). All IsInLimits rs) (sym (children-are c.args.parent c.self.inside.order.shapes c.self.inside.records c.self.invariant.well_formed.places c.self.invariant.in_order)) (all-children IsInLimits c.args.parent c.self.inside.records c.self.invariant.well_formed.limits))))
    c.children.ensures
