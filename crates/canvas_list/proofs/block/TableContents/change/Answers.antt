use Rattle.std.proofs.Common.{arith}
use Rattle.std.specs.Result.{is_ok}
use Rattle.canvas_list.proofs.InPlace.{changed-part, items-after, part-fewer, place-in, table-after}
use Rattle.canvas_list.proofs.block.TableContents.change.Goals as goal

pub change-made-requires-clause-place : goal.change-made-requires-clause-place
change-made-requires-clause-place g c =
    let p = changed-part c.self.inside.parts.items c.deref.result.now c.args.self.now c.self.inside.count c.in-Some.spot.chunk c.in-Some.spot.start c.args.at c.index_mut-part.result.now c.args.change c.self.invariant c.deref.ensures.value c.in-Some.ensures.spot c.self.view_is c.index_mut-part.ensures.value c.requires.place in
    place-in c.self.inside.parts.items c.args.self.now c.self.inside.count c.in-Some.spot.chunk c.in-Some.spot.start c.args.at c.index_mut-part.result.now c.args.change p

pub overflow_sub-self : goal.overflow_sub-self
overflow_sub-self g c =
    let p = changed-part c.self.inside.parts.items c.deref.result.now c.args.self.now c.self.inside.count c.in-Some.spot.chunk c.in-Some.spot.start c.args.at c.index_mut-part.result.now c.args.change c.self.invariant c.deref.ensures.value c.in-Some.ensures.spot c.self.view_is c.index_mut-part.ensures.value c.requires.place in
    omega (arith, c.count-before.ensures.count, part-fewer c.self.inside.parts.items c.args.self.now c.self.inside.count c.in-Some.spot.chunk c.in-Some.spot.start c.args.at c.index_mut-part.result.now c.args.change p)

pub invariant_of-self-2 : goal.invariant_of-self-2
invariant_of-self-2 g c =
    let p = changed-part c.self.inside.parts.items c.deref.result.now c.args.self.now c.self.inside.count c.in-Some.spot.chunk c.in-Some.spot.start c.args.at c.index_mut-part.result.now c.args.change c.self.invariant c.deref.ensures.value c.in-Some.ensures.spot c.self.view_is c.index_mut-part.ensures.value c.requires.place in
    table-after c.self.inside.parts.items c.args.self.now c.self.inside.count c.in-Some.spot.chunk c.in-Some.spot.start c.args.at c.index_mut-part.result.now (is_ok c.change-made.result) c.args.change c.change-made.new.self c.count-before.result c.count-after.result p c.change-made.ensures.items c.count-before.ensures.count c.count-after.ensures.count (omega (arith, c.count-after.ensures.count, c.count-after.ensures.some))

pub returns-clause-items : goal.returns-clause-items
returns-clause-items g c =
    let p = changed-part c.self.inside.parts.items c.deref.result.now c.args.self.now c.self.inside.count c.in-Some.spot.chunk c.in-Some.spot.start c.args.at c.index_mut-part.result.now c.args.change c.self.invariant c.deref.ensures.value c.in-Some.ensures.spot c.self.view_is c.index_mut-part.ensures.value c.requires.place in
    items-after c.self.inside.parts.items c.args.self.now c.self.inside.count c.in-Some.spot.chunk c.in-Some.spot.start c.args.at c.index_mut-part.result.now (is_ok c.change-made.result) c.args.change c.change-made.new.self p c.change-made.ensures.items
