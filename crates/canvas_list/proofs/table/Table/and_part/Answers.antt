use Rattle.std.proofs.Common.{◌∙◌, ◌++◌, List, ap, arith}
use Rattle.canvas_list.proofs.Joined.{joined-push, len-is, table-push}
use Rattle.canvas_list.proofs.table.Table.and_part.Goals as goal

pub invariant_of-result : goal.invariant_of-result
invariant_of-result g c =
    rw (c.in_ok-push.ensures.items, c.count-more.ensures.count)
    (table-push c.self.inside.parts.items c.self.inside.count c.args.part c.self.invariant c.count-more.ensures.some
    (omega (arith, c.requires, len-is c.self.inside.parts.items c.self.inside.count c.args.self c.self.invariant c.self.view_is)))

pub returns : goal.returns
returns g c =
    rw c.in_ok-push.ensures.items (joined-push c.self.inside.parts.items c.args.part ∙ ap (λ (l : List g.row.T.Denot). l ++ c.args.part) c.self.view_is)
