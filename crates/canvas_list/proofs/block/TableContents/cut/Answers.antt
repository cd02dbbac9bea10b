use Rattle.std.proofs.Common.{arith, ◌∙◌, ◌++◌, List, ap}
use Rattle.canvas_list.proofs.Joined.{cut-both, cut-few, cut-rest, cut-some}
use Rattle.std.proofs.lemmas.List.{append-nil}
use Rattle.canvas_list.proofs.block.TableContents.cut.Goals as goal

pub returns-then-not-is_over-clause-both : goal.returns-then-not-is_over-clause-both
returns-then-not-is_over-clause-both g c = ap (λ (l : List g.row.T.Denot). c.args.self ++ l) c.empty.ensures ∙ append-nil c.args.self

pub split_at-requires : goal.split_at-requires
split_at-requires g c = omega (arith, c.even_share.ensures.within, c.len-2.ensures, c.deref.ensures.len)

pub and_all-requires : goal.and_all-requires
and_all-requires g c =
    cut-few c.self.inside.parts.items c.deref.result.now c.args.self c.self.inside.count c.even_share.result c.self.invariant c.self.view_is c.deref.ensures.value
    c.in_ok-with_room.field-0 c.split_at.result.0.now c.in_ok-with_room.ensures c.split_at.ensures.front

pub and_all-requires-2 : goal.and_all-requires-2
and_all-requires-2 g c =
    cut-rest c.self.inside.parts.items c.deref.result.now c.args.self c.self.inside.count c.even_share.result c.self.invariant c.self.view_is c.deref.ensures.value
    c.in_ok-with_room-2.field-0 c.split_at.result.1.now c.in_ok-with_room-2.ensures c.split_at.ensures.back

pub returns-clause-both : goal.returns-clause-both
returns-clause-both g c =
    cut-both c.self.inside.parts.items c.deref.result.now c.args.self c.self.inside.count c.even_share.result c.self.invariant c.self.view_is c.deref.ensures.value
    c.in_ok-with_room.field-0 c.in_ok-with_room-2.field-0 c.in_ok-and_all.field-0 c.in_ok-and_all-2.field-0 c.split_at.result.0.now c.split_at.result.1.now
    c.in_ok-with_room.ensures c.split_at.ensures.front c.in_ok-and_all.ensures c.in_ok-with_room-2.ensures c.split_at.ensures.back c.in_ok-and_all-2.ensures

pub returns-clause-some : goal.returns-clause-some
returns-clause-some g c =
    cut-some c.self.inside.parts.items c.deref.result.now c.args.self c.in_ok-with_room.field-0 c.in_ok-and_all.field-0 c.self.inside.count c.even_share.result c.len-2.result c.split_at.result.0.now
    c.self.invariant c.self.view_is c.deref.ensures.value (omega (arith, c.len-2.ensures, c.deref.ensures.len)) c.even_share.ensures.some c.in_ok-with_room.ensures c.split_at.ensures.front c.in_ok-and_all.ensures
