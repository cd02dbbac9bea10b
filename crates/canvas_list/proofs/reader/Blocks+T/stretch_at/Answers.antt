use Rattle.std.proofs.Common.{◌+◌, ◌-◌, ℕ, List, arith, drop, length, subst, sym, take}
use Rattle.canvas_list.specs.Chunks.{joined, IsStretch}
use Rattle.canvas_list.proofs.Joined.{found, has-chunk, offset-in, search-some, IsFound}
use Rattle.canvas_list.proofs.Stretches.{stretch-of-block}
use Rattle.canvas_list.proofs.reader.Blocks+T.stretch_at.Goals as goal

pub block_of-spot-requires : goal.block_of-spot-requires
block_of-spot-requires g c =
    search-some c.self.inside.parts.items c.deref.result.now c.deref.ensures.value (has-chunk c.self.inside.parts.items c.args.self.now c.args.at c.self.view_is c.requires)

pub index-block-requires : goal.index-block-requires
index-block-requires g c =
    let f : IsFound c.self.inside.parts.items c.self.inside.count c.block_of-spot.result.chunk c.block_of-spot.result.start c.args.at = found c.self.inside.parts.items c.deref.result.now c.self.inside.count c.block_of-spot.result.chunk c.block_of-spot.result.start c.args.at c.self.invariant c.deref.ensures.value c.block_of-spot.ensures in
    omega (arith, f.within)

pub stretch_at-found-requires : goal.stretch_at-found-requires
stretch_at-found-requires g c =
    let f : IsFound c.self.inside.parts.items c.self.inside.count c.block_of-spot.result.chunk c.block_of-spot.result.start c.args.at = found c.self.inside.parts.items c.deref.result.now c.self.inside.count c.block_of-spot.result.chunk c.block_of-spot.result.start c.args.at c.self.invariant c.deref.ensures.value c.block_of-spot.ensures in
    offset-in c.self.inside.parts.items c.args.self.now c.self.inside.count c.block_of-spot.result.chunk c.block_of-spot.result.start c.args.at c.index-block.result.now c.table.result.now c.self.invariant f c.self.view_is c.index-block.ensures c.table.ensures.same c.requires

pub returns-clause-held : goal.returns-clause-held
returns-clause-held g c =
    let f : IsFound c.self.inside.parts.items c.self.inside.count c.block_of-spot.result.chunk c.block_of-spot.result.start c.args.at = found c.self.inside.parts.items c.deref.result.now c.self.inside.count c.block_of-spot.result.chunk c.block_of-spot.result.start c.args.at c.self.invariant c.deref.ensures.value c.block_of-spot.ensures in
    let blocks : List (List g.row.T.Denot) = c.self.inside.parts.items in
    let items : List g.row.T.Denot = c.stretch_at-found.result.items.now in
    let behind : List g.row.T.Denot = joined c.stretch_at-found.result.behind.now in
    let start : ℕ = c.block_of-spot.result.start + c.stretch_at-found.result.start in
    let ends : ℕ = c.block_of-spot.result.start + c.count.result in
    let next : ℕ = c.block_of-spot.result.chunk + 1 in
    subst (λ (ds : List (List g.row.T.Denot)). IsStretch c.args.self.now items behind (joined (take (length ds - next) (drop next ds))) start ends) (sym c.deref-2.ensures.value)
    (subst (λ (l : List g.row.T.Denot). IsStretch l items behind (joined (take (length blocks - next) (drop next blocks))) start ends) c.self.view_is
    (stretch-of-block blocks c.block_of-spot.result.chunk c.block_of-spot.result.start c.stretch_at-found.result.start c.count.result c.stretch_at-found.result.beyond_start c.index-block.result.now c.table.result.now items behind (joined c.stretch_at-found.result.beyond.now)
    f.within f.start c.index-block.ensures c.table.ensures.same c.count.ensures.count c.stretch_at-found.ensures.held))
