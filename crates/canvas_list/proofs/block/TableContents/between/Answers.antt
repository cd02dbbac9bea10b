use Rattle.std.proofs.Common.{◌≡◌, ◌∙◌, ◌+◌, ◌-◌, ◌++◌, ◌^◌, List, IfOk, ap, drop, length, subst, take}
use Rattle.canvas_list.specs.Chunks.{joined}
use Rattle.canvas_list.proofs.Joined.{found, len-is, has-chunk, search-some}
use Rattle.canvas_list.proofs.Ranges.{between, few-between, few-three}
use Rattle.canvas_list.proofs.Runs.{rest-joined}
use Rattle.canvas_list.proofs.Spliced.{few-ends}
use Rattle.canvas_list.proofs.Visited.{items-before, items-from, place-in}
use Rattle.canvas_list.proofs.block.TableContents.between.Goals as goal

pub spot_of-last-requires : goal.spot_of-last-requires
spot_of-last-requires g c =
    search-some c.before-2.inside.parts.items c.deref.result.now c.deref.ensures.value (has-chunk c.before-2.inside.parts.items c.args.before.now 0 c.before-2.view_is c.requires.before)

pub spot_of-first-requires : goal.spot_of-first-requires
spot_of-first-requires g c =
    search-some c.behind.inside.parts.items c.deref-2.result.now c.deref-2.ensures.value (has-chunk c.behind.inside.parts.items c.args.behind.now 0 c.behind.view_is c.requires.behind)

pub between-requires-clause-upto : goal.between-requires-clause-upto
between-requires-clause-upto g c =
    let l = found c.before-2.inside.parts.items c.deref.result.now c.before-2.inside.count c.spot_of-last.result.chunk c.spot_of-last.result.start c.args.upto c.before-2.invariant c.deref.ensures.value c.spot_of-last.ensures in
    place-in c.before-2.inside.parts.items c.args.before.now c.before-2.inside.count c.spot_of-last.result.chunk c.spot_of-last.result.start c.args.upto c.index.result.now (g.C.Contents.list c.contents-front.result.now) l (len-is c.before-2.inside.parts.items c.before-2.inside.count c.args.before.now c.before-2.invariant c.before-2.view_is) c.index.ensures c.contents-front.ensures.same c.requires.upto

pub between-requires-clause-from : goal.between-requires-clause-from
between-requires-clause-from g c =
    let f = found c.behind.inside.parts.items c.deref-2.result.now c.behind.inside.count c.spot_of-first.result.chunk c.spot_of-first.result.start c.args.from c.behind.invariant c.deref-2.ensures.value c.spot_of-first.ensures in
    place-in c.behind.inside.parts.items c.args.behind.now c.behind.inside.count c.spot_of-first.result.chunk c.spot_of-first.result.start c.args.from c.index-2.result.now (g.C.Contents.list c.contents-back.result.now) f (len-is c.behind.inside.parts.items c.behind.inside.count c.args.behind.now c.behind.invariant c.behind.view_is) c.index-2.ensures c.contents-back.ensures.same c.requires.from

pub between-requires-clause-small : goal.between-requires-clause-small
between-requires-clause-small g c =
    let l = found c.before-2.inside.parts.items c.deref.result.now c.before-2.inside.count c.spot_of-last.result.chunk c.spot_of-last.result.start c.args.upto c.before-2.invariant c.deref.ensures.value c.spot_of-last.ensures in
    let f = found c.behind.inside.parts.items c.deref-2.result.now c.behind.inside.count c.spot_of-first.result.chunk c.spot_of-first.result.start c.args.from c.behind.invariant c.deref-2.ensures.value c.spot_of-first.ensures in
    few-between (joined (take c.spot_of-last.result.chunk c.before-2.inside.parts.items)) (take (c.args.upto - c.spot_of-last.result.start) (g.C.Contents.list c.contents-front.result.now)) c.args.items.items (drop (c.args.from - c.spot_of-first.result.start) (g.C.Contents.list c.contents-back.result.now)) (joined (drop (c.spot_of-first.result.chunk + 1) c.behind.inside.parts.items)) (take c.args.upto c.args.before.now) (drop c.args.from c.args.behind.now) (2 ^ 32) (items-before c.before-2.inside.parts.items c.args.before.now c.before-2.inside.count c.spot_of-last.result.chunk c.spot_of-last.result.start c.args.upto c.index.result.now (g.C.Contents.list c.contents-front.result.now) l c.before-2.view_is c.index.ensures c.contents-front.ensures.same (place-in c.before-2.inside.parts.items c.args.before.now c.before-2.inside.count c.spot_of-last.result.chunk c.spot_of-last.result.start c.args.upto c.index.result.now (g.C.Contents.list c.contents-front.result.now) l (len-is c.before-2.inside.parts.items c.before-2.inside.count c.args.before.now c.before-2.invariant c.before-2.view_is) c.index.ensures c.contents-front.ensures.same c.requires.upto)) (items-from c.behind.inside.parts.items c.args.behind.now c.behind.inside.count c.spot_of-first.result.chunk c.spot_of-first.result.start c.args.from c.index-2.result.now (g.C.Contents.list c.contents-back.result.now) f c.behind.view_is c.index-2.ensures c.contents-back.ensures.same (place-in c.behind.inside.parts.items c.args.behind.now c.behind.inside.count c.spot_of-first.result.chunk c.spot_of-first.result.start c.args.from c.index-2.result.now (g.C.Contents.list c.contents-back.result.now) f (len-is c.behind.inside.parts.items c.behind.inside.count c.args.behind.now c.behind.invariant c.behind.view_is) c.index-2.ensures c.contents-back.ensures.same c.requires.from)) c.requires.small

pub spliced-requires : goal.spliced-requires
spliced-requires g c =
    let l = found c.before-2.inside.parts.items c.deref.result.now c.before-2.inside.count c.spot_of-last.result.chunk c.spot_of-last.result.start c.args.upto c.before-2.invariant c.deref.ensures.value c.spot_of-last.ensures in
    let f = found c.behind.inside.parts.items c.deref-2.result.now c.behind.inside.count c.spot_of-first.result.chunk c.spot_of-first.result.start c.args.from c.behind.invariant c.deref-2.ensures.value c.spot_of-first.ensures in
    let whole : joined (take c.spot_of-last.result.chunk c.deref-3.result.now) ++ g.C.Contents.list c.in_ok-new.new ++ joined (take (length c.deref-4.result.now - (c.spot_of-first.result.chunk + 1)) (drop (c.spot_of-first.result.chunk + 1) c.deref-4.result.now)) ≡ take c.args.upto c.args.before.now ++ c.args.items.items ++ drop c.args.from c.args.behind.now =
    ap (λ (w : List (List g.row.T.Denot)). joined (take c.spot_of-last.result.chunk w) ++ (g.C.Contents.list c.in_ok-new.new) ++ (joined (take (length c.deref-4.result.now - (c.spot_of-first.result.chunk + 1)) (drop (c.spot_of-first.result.chunk + 1) c.deref-4.result.now)))) c.deref-3.ensures.value
    ∙ ap (λ (w : List g.row.T.Denot). joined (take c.spot_of-last.result.chunk c.before-2.inside.parts.items) ++ (g.C.Contents.list c.in_ok-new.new) ++ w) (rest-joined c.behind.inside.parts.items c.deref-4.result.now (c.spot_of-first.result.chunk + 1) c.deref-4.ensures.value)
    ∙ ap (λ (w : List g.row.T.Denot). joined (take c.spot_of-last.result.chunk c.before-2.inside.parts.items) ++ w ++ joined (drop (c.spot_of-first.result.chunk + 1) c.behind.inside.parts.items)) c.in_ok-new.ensures
    ∙ between (joined (take c.spot_of-last.result.chunk c.before-2.inside.parts.items)) (take (c.args.upto - c.spot_of-last.result.start) (g.C.Contents.list c.contents-front.result.now)) c.args.items.items (drop (c.args.from - c.spot_of-first.result.start) (g.C.Contents.list c.contents-back.result.now)) (joined (drop (c.spot_of-first.result.chunk + 1) c.behind.inside.parts.items)) (take c.args.upto c.args.before.now) (drop c.args.from c.args.behind.now) (items-before c.before-2.inside.parts.items c.args.before.now c.before-2.inside.count c.spot_of-last.result.chunk c.spot_of-last.result.start c.args.upto c.index.result.now (g.C.Contents.list c.contents-front.result.now) l c.before-2.view_is c.index.ensures c.contents-front.ensures.same (place-in c.before-2.inside.parts.items c.args.before.now c.before-2.inside.count c.spot_of-last.result.chunk c.spot_of-last.result.start c.args.upto c.index.result.now (g.C.Contents.list c.contents-front.result.now) l (len-is c.before-2.inside.parts.items c.before-2.inside.count c.args.before.now c.before-2.invariant c.before-2.view_is) c.index.ensures c.contents-front.ensures.same c.requires.upto)) (items-from c.behind.inside.parts.items c.args.behind.now c.behind.inside.count c.spot_of-first.result.chunk c.spot_of-first.result.start c.args.from c.index-2.result.now (g.C.Contents.list c.contents-back.result.now) f c.behind.view_is c.index-2.ensures c.contents-back.ensures.same (place-in c.behind.inside.parts.items c.args.behind.now c.behind.inside.count c.spot_of-first.result.chunk c.spot_of-first.result.start c.args.from c.index-2.result.now (g.C.Contents.list c.contents-back.result.now) f (len-is c.behind.inside.parts.items c.behind.inside.count c.args.behind.now c.behind.invariant c.behind.view_is) c.index-2.ensures c.contents-back.ensures.same c.requires.from)) in
    few-ends (joined (take c.spot_of-last.result.chunk c.deref-3.result.now)) (g.C.Contents.list c.in_ok-new.new) (joined (take (length c.deref-4.result.now - (c.spot_of-first.result.chunk + 1)) (drop (c.spot_of-first.result.chunk + 1) c.deref-4.result.now))) (take c.args.upto c.args.before.now ++ c.args.items.items ++ drop c.args.from c.args.behind.now) (2 ^ 32) whole (few-three (take c.args.upto c.args.before.now) c.args.items.items (drop c.args.from c.args.behind.now) (2 ^ 32) c.requires.small)

pub returns : goal.returns
returns g c =
    let l = found c.before-2.inside.parts.items c.deref.result.now c.before-2.inside.count c.spot_of-last.result.chunk c.spot_of-last.result.start c.args.upto c.before-2.invariant c.deref.ensures.value c.spot_of-last.ensures in
    let f = found c.behind.inside.parts.items c.deref-2.result.now c.behind.inside.count c.spot_of-first.result.chunk c.spot_of-first.result.start c.args.from c.behind.invariant c.deref-2.ensures.value c.spot_of-first.ensures in
    let whole : joined (take c.spot_of-last.result.chunk c.deref-3.result.now) ++ g.C.Contents.list c.in_ok-new.new ++ joined (take (length c.deref-4.result.now - (c.spot_of-first.result.chunk + 1)) (drop (c.spot_of-first.result.chunk + 1) c.deref-4.result.now)) ≡ take c.args.upto c.args.before.now ++ c.args.items.items ++ drop c.args.from c.args.behind.now =
    ap (λ (w : List (List g.row.T.Denot)). joined (take c.spot_of-last.result.chunk w) ++ (g.C.Contents.list c.in_ok-new.new) ++ (joined (take (length c.deref-4.result.now - (c.spot_of-first.result.chunk + 1)) (drop (c.spot_of-first.result.chunk + 1) c.deref-4.result.now)))) c.deref-3.ensures.value
    ∙ ap (λ (w : List g.row.T.Denot). joined (take c.spot_of-last.result.chunk c.before-2.inside.parts.items) ++ (g.C.Contents.list c.in_ok-new.new) ++ w) (rest-joined c.behind.inside.parts.items c.deref-4.result.now (c.spot_of-first.result.chunk + 1) c.deref-4.ensures.value)
    ∙ ap (λ (w : List g.row.T.Denot). joined (take c.spot_of-last.result.chunk c.before-2.inside.parts.items) ++ w ++ joined (drop (c.spot_of-first.result.chunk + 1) c.behind.inside.parts.items)) c.in_ok-new.ensures
    ∙ between (joined (take c.spot_of-last.result.chunk c.before-2.inside.parts.items)) (take (c.args.upto - c.spot_of-last.result.start) (g.C.Contents.list c.contents-front.result.now)) c.args.items.items (drop (c.args.from - c.spot_of-first.result.start) (g.C.Contents.list c.contents-back.result.now)) (joined (drop (c.spot_of-first.result.chunk + 1) c.behind.inside.parts.items)) (take c.args.upto c.args.before.now) (drop c.args.from c.args.behind.now) (items-before c.before-2.inside.parts.items c.args.before.now c.before-2.inside.count c.spot_of-last.result.chunk c.spot_of-last.result.start c.args.upto c.index.result.now (g.C.Contents.list c.contents-front.result.now) l c.before-2.view_is c.index.ensures c.contents-front.ensures.same (place-in c.before-2.inside.parts.items c.args.before.now c.before-2.inside.count c.spot_of-last.result.chunk c.spot_of-last.result.start c.args.upto c.index.result.now (g.C.Contents.list c.contents-front.result.now) l (len-is c.before-2.inside.parts.items c.before-2.inside.count c.args.before.now c.before-2.invariant c.before-2.view_is) c.index.ensures c.contents-front.ensures.same c.requires.upto)) (items-from c.behind.inside.parts.items c.args.behind.now c.behind.inside.count c.spot_of-first.result.chunk c.spot_of-first.result.start c.args.from c.index-2.result.now (g.C.Contents.list c.contents-back.result.now) f c.behind.view_is c.index-2.ensures c.contents-back.ensures.same (place-in c.behind.inside.parts.items c.args.behind.now c.behind.inside.count c.spot_of-first.result.chunk c.spot_of-first.result.start c.args.from c.index-2.result.now (g.C.Contents.list c.contents-back.result.now) f (len-is c.behind.inside.parts.items c.behind.inside.count c.args.behind.now c.behind.invariant c.behind.view_is) c.index-2.ensures c.contents-back.ensures.same c.requires.from)) in
    subst (λ (l : List g.row.T.Denot). IfOk c.spliced.result (λ (list : List g.row.T.Denot). list ≡ l)) whole c.spliced.ensures
