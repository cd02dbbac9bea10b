use Rattle.std.proofs.Common.{◌+◌, ◌-◌, ℕ, List, [], arith, drop, length, subst, sym, take}
use Rattle.canvas_list.specs.Chunks.{joined, IsStretch}
use Rattle.canvas_list.proofs.Joined.{found, has-chunk, len-is, search-some, IsFound}
use Rattle.canvas_list.proofs.Runs.{chunk-holds}
use Rattle.canvas_list.proofs.Stretches.{stretch-of-chunk}
use Rattle.canvas_list.proofs.reader.Chunks+T.stretch_at.Goals as goal

pub spot_of-spot-requires : goal.spot_of-spot-requires
spot_of-spot-requires g c =
    search-some c.self.inside.parts.items c.deref.result.now c.deref.ensures.value (has-chunk c.self.inside.parts.items c.args.self.now c.args.at c.self.view_is c.requires)

pub index-requires : goal.index-requires
index-requires g c =
    let f : IsFound c.self.inside.parts.items c.self.inside.count c.spot_of-spot.result.chunk c.spot_of-spot.result.start c.args.at = found c.self.inside.parts.items c.deref.result.now c.self.inside.count c.spot_of-spot.result.chunk c.spot_of-spot.result.start c.args.at c.self.invariant c.deref.ensures.value c.spot_of-spot.ensures in
    omega (arith, f.within)

pub returns-clause-held : goal.returns-clause-held
returns-clause-held g c =
    let f : IsFound c.self.inside.parts.items c.self.inside.count c.spot_of-spot.result.chunk c.spot_of-spot.result.start c.args.at = found c.self.inside.parts.items c.deref.result.now c.self.inside.count c.spot_of-spot.result.chunk c.spot_of-spot.result.start c.args.at c.self.invariant c.deref.ensures.value c.spot_of-spot.ensures in
    let chunks : List (List g.row.T.Denot) = c.self.inside.parts.items in
    let next : ℕ = c.spot_of-spot.result.chunk + 1 in
    subst (λ (ds : List (List g.row.T.Denot)). IsStretch c.args.self.now c.items.result.now (joined (take (length ds - next) (drop next ds))) [] c.spot_of-spot.result.start 0) (sym c.deref-2.ensures.value)
    (subst (λ (l : List g.row.T.Denot). IsStretch l c.items.result.now (joined (take (length chunks - next) (drop next chunks))) [] c.spot_of-spot.result.start 0) c.self.view_is
    (stretch-of-chunk chunks c.spot_of-spot.result.chunk c.spot_of-spot.result.start c.index.result.now c.items.result.now f.within f.start c.index.ensures c.items.ensures.same))

pub returns-clause-upto : goal.returns-clause-upto
returns-clause-upto g c =
    let f : IsFound c.self.inside.parts.items c.self.inside.count c.spot_of-spot.result.chunk c.spot_of-spot.result.start c.args.at = found c.self.inside.parts.items c.deref.result.now c.self.inside.count c.spot_of-spot.result.chunk c.spot_of-spot.result.start c.args.at c.self.invariant c.deref.ensures.value c.spot_of-spot.ensures in
    chunk-holds c.self.inside.parts.items c.self.inside.count c.spot_of-spot.result.chunk c.spot_of-spot.result.start c.args.at c.index.result.now c.items.result.now f c.index.ensures c.items.ensures.same
    (omega (arith, c.requires, len-is c.self.inside.parts.items c.self.inside.count c.args.self.now c.self.invariant c.self.view_is))
