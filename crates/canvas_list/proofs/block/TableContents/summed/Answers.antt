use Rattle.std.proofs.Common.{◌∙◌, ◌+◌, ◌-◌, ◌<◌, ◌≤◌, ◌++◌, All, List, ap, arith, drop, length, subst, take}
use Rattle.canvas_list.specs.Chunks.{joined}
use Rattle.canvas_list.proofs.Joined.{found, len-is}
use Rattle.canvas_list.proofs.Ranges.{all-first, all-rest, all-three}
use Rattle.canvas_list.proofs.Visited.{chunks-rise, items-between, items-within, place-in, place-same}
use Rattle.canvas_list.proofs.block.TableContents.summed.Goals as goal

pub summed-requires-clause-within : goal.summed-requires-clause-within
summed-requires-clause-within g c =
    let f = found c.self.inside.parts.items c.deref.result.now c.self.inside.count c.spot_of-first.result.chunk c.spot_of-first.result.start c.args.from c.self.invariant c.deref.ensures.value c.spot_of-first.ensures in
    let l = found c.self.inside.parts.items c.deref-2.result.now c.self.inside.count c.spot_of-last.result.chunk c.spot_of-last.result.start c.args.end c.self.invariant c.deref-2.ensures.value c.spot_of-last.ensures in
    place-same c.self.inside.parts.items c.args.self.now c.self.inside.count c.spot_of-first.result.chunk c.spot_of-first.result.start c.args.from c.spot_of-last.result.chunk c.spot_of-last.result.start c.args.end c.index.result.now (g.C.Contents.list c.contents-part.result.now) f l c.if-first-last.true (len-is c.self.inside.parts.items c.self.inside.count c.args.self.now c.self.invariant c.self.view_is) c.index.ensures c.contents-part.ensures.same c.requires.within

pub returns-then-first-last-clause-items : goal.returns-then-first-last-clause-items
returns-then-first-last-clause-items g c =
    let f = found c.self.inside.parts.items c.deref.result.now c.self.inside.count c.spot_of-first.result.chunk c.spot_of-first.result.start c.args.from c.self.invariant c.deref.ensures.value c.spot_of-first.ensures in
    let l = found c.self.inside.parts.items c.deref-2.result.now c.self.inside.count c.spot_of-last.result.chunk c.spot_of-last.result.start c.args.end c.self.invariant c.deref-2.ensures.value c.spot_of-last.ensures in
    let q : c.args.end - c.spot_of-first.result.start ≤ length (g.C.Contents.list c.contents-part.result.now) = place-same c.self.inside.parts.items c.args.self.now c.self.inside.count c.spot_of-first.result.chunk c.spot_of-first.result.start c.args.from c.spot_of-last.result.chunk c.spot_of-last.result.start c.args.end c.index.result.now (g.C.Contents.list c.contents-part.result.now) f l c.if-first-last.true (len-is c.self.inside.parts.items c.self.inside.count c.args.self.now c.self.invariant c.self.view_is) c.index.ensures c.contents-part.ensures.same c.requires.within in
    subst (All (g.T.Share.covers c.summed.result)) (items-within c.self.inside.parts.items c.args.self.now c.self.inside.count c.spot_of-first.result.chunk c.spot_of-first.result.start c.args.from c.args.end c.index.result.now (g.C.Contents.list c.contents-part.result.now) f c.self.view_is c.index.ensures c.contents-part.ensures.same c.requires.order q) c.summed.ensures.items

pub slice_bounds-summed_parts-count : goal.slice_bounds-summed_parts-count
slice_bounds-summed_parts-count g c =
    let f = found c.self.inside.parts.items c.deref.result.now c.self.inside.count c.spot_of-first.result.chunk c.spot_of-first.result.start c.args.from c.self.invariant c.deref.ensures.value c.spot_of-first.ensures in
    let l = found c.self.inside.parts.items c.deref-2.result.now c.self.inside.count c.spot_of-last.result.chunk c.spot_of-last.result.start c.args.end c.self.invariant c.deref-2.ensures.value c.spot_of-last.ensures in
    let less : c.spot_of-first.result.chunk < c.spot_of-last.result.chunk = omega (arith, chunks-rise c.self.inside.parts.items c.self.inside.count c.spot_of-first.result.chunk c.spot_of-first.result.start c.args.from c.spot_of-last.result.chunk c.spot_of-last.result.start c.args.end f l c.requires.order) in
    omega arith

pub slice_bounds-summed_parts-start : goal.slice_bounds-summed_parts-start
slice_bounds-summed_parts-start g c =
    let f = found c.self.inside.parts.items c.deref.result.now c.self.inside.count c.spot_of-first.result.chunk c.spot_of-first.result.start c.args.from c.self.invariant c.deref.ensures.value c.spot_of-first.ensures in
    let l = found c.self.inside.parts.items c.deref-2.result.now c.self.inside.count c.spot_of-last.result.chunk c.spot_of-last.result.start c.args.end c.self.invariant c.deref-2.ensures.value c.spot_of-last.ensures in
    let less : c.spot_of-first.result.chunk < c.spot_of-last.result.chunk = omega (arith, chunks-rise c.self.inside.parts.items c.self.inside.count c.spot_of-first.result.chunk c.spot_of-first.result.start c.args.from c.spot_of-last.result.chunk c.spot_of-last.result.start c.args.end f l c.requires.order) in
    omega arith

pub summed-requires-2-clause-within : goal.summed-requires-2-clause-within
summed-requires-2-clause-within g c =
    let l = found c.self.inside.parts.items c.deref-2.result.now c.self.inside.count c.spot_of-last.result.chunk c.spot_of-last.result.start c.args.end c.self.invariant c.deref-2.ensures.value c.spot_of-last.ensures in
    place-in c.self.inside.parts.items c.args.self.now c.self.inside.count c.spot_of-last.result.chunk c.spot_of-last.result.start c.args.end c.index-2.result.now (g.C.Contents.list c.contents-rest.result.now) l (len-is c.self.inside.parts.items c.self.inside.count c.args.self.now c.self.invariant c.self.view_is) c.index-2.ensures c.contents-rest.ensures.same c.requires.within

pub returns-clause-items : goal.returns-clause-items
returns-clause-items g c =
    let f = found c.self.inside.parts.items c.deref.result.now c.self.inside.count c.spot_of-first.result.chunk c.spot_of-first.result.start c.args.from c.self.invariant c.deref.ensures.value c.spot_of-first.ensures in
    let l = found c.self.inside.parts.items c.deref-2.result.now c.self.inside.count c.spot_of-last.result.chunk c.spot_of-last.result.start c.args.end c.self.invariant c.deref-2.ensures.value c.spot_of-last.ensures in
    let less : c.spot_of-first.result.chunk < c.spot_of-last.result.chunk = omega (arith, chunks-rise c.self.inside.parts.items c.self.inside.count c.spot_of-first.result.chunk c.spot_of-first.result.start c.args.from c.spot_of-last.result.chunk c.spot_of-last.result.start c.args.end f l c.requires.order) in
    let p : c.args.from - c.spot_of-first.result.start ≤ length (g.C.Contents.list c.contents-part.result.now) = place-in c.self.inside.parts.items c.args.self.now c.self.inside.count c.spot_of-first.result.chunk c.spot_of-first.result.start c.args.from c.index.result.now (g.C.Contents.list c.contents-part.result.now) f (len-is c.self.inside.parts.items c.self.inside.count c.args.self.now c.self.invariant c.self.view_is) c.index.ensures c.contents-part.ensures.same (omega arith) in
    let r : c.args.end - c.spot_of-last.result.start ≤ length (g.C.Contents.list c.contents-rest.result.now) = place-in c.self.inside.parts.items c.args.self.now c.self.inside.count c.spot_of-last.result.chunk c.spot_of-last.result.start c.args.end c.index-2.result.now (g.C.Contents.list c.contents-rest.result.now) l (len-is c.self.inside.parts.items c.self.inside.count c.args.self.now c.self.invariant c.self.view_is) c.index-2.ensures c.contents-rest.ensures.same c.requires.within in
    let middle : List g.row.T.Denot = joined (take (c.spot_of-last.result.chunk - (c.spot_of-first.result.chunk + 1)) (drop (c.spot_of-first.result.chunk + 1) c.deref-3.result.now)) in
    subst (All (g.T.Share.covers c.summed-2.result))
    (ap (λ (w : List (List g.row.T.Denot)). drop (c.args.from - c.spot_of-first.result.start) (g.C.Contents.list c.contents-part.result.now) ++ joined (take (c.spot_of-last.result.chunk - (c.spot_of-first.result.chunk + 1)) (drop (c.spot_of-first.result.chunk + 1) w)) ++ take (c.args.end - c.spot_of-last.result.start) (g.C.Contents.list c.contents-rest.result.now)) c.deref-3.ensures.value
    ∙ items-between c.self.inside.parts.items c.args.self.now c.self.inside.count c.spot_of-first.result.chunk c.spot_of-first.result.start c.args.from c.spot_of-last.result.chunk c.spot_of-last.result.start c.args.end c.index.result.now (g.C.Contents.list c.contents-part.result.now) c.index-2.result.now (g.C.Contents.list c.contents-rest.result.now) f l c.self.view_is less c.index.ensures c.contents-part.ensures.same p c.index-2.ensures c.contents-rest.ensures.same r c.requires.order)
    (all-three g.T.Share.covers c.summed-front.result c.summed_parts-middle.result c.summed-2.result (drop (c.args.from - c.spot_of-first.result.start) (g.C.Contents.list c.contents-part.result.now)) middle (take (c.args.end - c.spot_of-last.result.start) (g.C.Contents.list c.contents-rest.result.now))
    (all-rest (g.T.Share.covers c.summed-front.result) (g.C.Contents.list c.contents-part.result.now) c.count.result (c.args.from - c.spot_of-first.result.start) c.count.ensures.count c.summed-front.ensures.items)
    c.summed_parts-middle.ensures.items
    (all-first (g.T.Share.covers c.summed-2.result) (g.C.Contents.list c.contents-rest.result.now) (c.args.end - c.spot_of-last.result.start) c.summed-2.ensures.items)
    c.summed_parts-middle.ensures.other c.summed-2.ensures.other)
