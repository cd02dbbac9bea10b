use Rattle.std.proofs.Common.{arith}
use Rattle.canvas_list.proofs.Joined.{found, has-chunk, item-read, offset-in, search-some}
use Rattle.canvas_list.proofs.table.Table.at.Goals as goal

pub spot_of-spot-requires : goal.spot_of-spot-requires
spot_of-spot-requires g c =
    search-some c.self.inside.parts.items c.deref.result.now c.deref.ensures.value (has-chunk c.self.inside.parts.items c.args.self.now c.args.at c.self.view_is c.requires)

pub index-requires : goal.index-requires
index-requires g c =
    let f = found c.self.inside.parts.items c.deref.result.now c.self.inside.count c.spot_of-spot.result.chunk c.spot_of-spot.result.start c.args.at c.self.invariant c.deref.ensures.value c.spot_of-spot.ensures in
    omega (arith, f.within)

pub item-requires : goal.item-requires
item-requires g c =
    let f = found c.self.inside.parts.items c.deref.result.now c.self.inside.count c.spot_of-spot.result.chunk c.spot_of-spot.result.start c.args.at c.self.invariant c.deref.ensures.value c.spot_of-spot.ensures in
    offset-in c.self.inside.parts.items c.args.self.now c.self.inside.count c.spot_of-spot.result.chunk c.spot_of-spot.result.start c.args.at c.index.result.now (g.C.Contents.list c.contents.result.now) c.self.invariant f c.self.view_is c.index.ensures c.contents.ensures.same c.requires

pub overflow_sub-at : goal.overflow_sub-at
overflow_sub-at g c =
    let f = found c.self.inside.parts.items c.deref.result.now c.self.inside.count c.spot_of-spot.result.chunk c.spot_of-spot.result.start c.args.at c.self.invariant c.deref.ensures.value c.spot_of-spot.ensures in
    omega (arith, offset-in c.self.inside.parts.items c.args.self.now c.self.inside.count c.spot_of-spot.result.chunk c.spot_of-spot.result.start c.args.at c.index.result.now (g.C.Contents.list c.contents.result.now) c.self.invariant f c.self.view_is c.index.ensures c.contents.ensures.same c.requires)

pub returns : goal.returns
returns g c =
    let f = found c.self.inside.parts.items c.deref.result.now c.self.inside.count c.spot_of-spot.result.chunk c.spot_of-spot.result.start c.args.at c.self.invariant c.deref.ensures.value c.spot_of-spot.ensures in
    item-read c.self.inside.parts.items c.args.self.now c.self.inside.count c.spot_of-spot.result.chunk c.spot_of-spot.result.start c.args.at c.index.result.now (g.C.Contents.list c.contents.result.now) c.item.result.now f c.self.view_is c.index.ensures c.contents.ensures.same
    (offset-in c.self.inside.parts.items c.args.self.now c.self.inside.count c.spot_of-spot.result.chunk c.spot_of-spot.result.start c.args.at c.index.result.now (g.C.Contents.list c.contents.result.now) c.self.invariant f c.self.view_is c.index.ensures c.contents.ensures.same c.requires)
    c.item.ensures
