use Rattle.std.proofs.Common.{◌-◌, ap, arith, length}
use Rattle.canvas_list.proofs.Joined.{few-before, len-is}
use Rattle.canvas_list.proofs.Parted.{has-point, no-point, point-bound}
use Rattle.canvas_list.proofs.block.TableContents.passed.Goals as goal

pub returns-then-begun-eq0-clause-partitioned : goal.returns-then-begun-eq0-clause-partitioned
returns-then-begun-eq0-clause-partitioned g c =
    λ p by parted.
    no-point p c.self.inside.parts.items c.deref.result.now c.self.inside.count c.args.self.now c.self.invariant c.self.view_is c.deref.ensures.value c.count_begun-begun.result (c.count_begun-begun.ensures.partitioned p by) parted c.if-begun-eq0.true

pub count_of-requires : goal.count_of-requires
count_of-requires g c = few-before c.self.inside.parts.items c.deref-2.result.now c.self.inside.count (c.count_begun-begun.result - 1) c.self.invariant c.deref-2.ensures.value

pub index-requires : goal.index-requires
index-requires g c = omega (arith, c.count_begun-begun.ensures.bound, ap length c.deref.ensures.value)

pub overflow_add-result : goal.overflow_add-result
overflow_add-result g c =
    omega (
      arith,
      point-bound c.self.inside.parts.items c.deref.result.now c.self.inside.count c.args.self.now (c.count_begun-begun.result - 1) c.passed.result c.count_of.result c.deref-2.result.now c.index.result.now (g.C.Contents.list c.contents.result.now) c.self.invariant c.self.view_is c.deref.ensures.value (omega (arith, c.count_begun-begun.ensures.bound)) c.deref-2.ensures.value c.count_of.ensures c.index.ensures c.contents.ensures.same c.passed.ensures.bound,
      len-is c.self.inside.parts.items c.self.inside.count c.args.self.now c.self.invariant c.self.view_is,
      c.self.invariant.is_small,
    )

pub returns-clause-bound : goal.returns-clause-bound
returns-clause-bound g c =
    point-bound c.self.inside.parts.items c.deref.result.now c.self.inside.count c.args.self.now (c.count_begun-begun.result - 1) c.passed.result c.count_of.result c.deref-2.result.now c.index.result.now (g.C.Contents.list c.contents.result.now) c.self.invariant c.self.view_is c.deref.ensures.value (omega (arith, c.count_begun-begun.ensures.bound)) c.deref-2.ensures.value c.count_of.ensures c.index.ensures c.contents.ensures.same c.passed.ensures.bound

pub returns-clause-partitioned : goal.returns-clause-partitioned
returns-clause-partitioned g c =
    λ p by parted.
    has-point p c.self.inside.parts.items c.deref.result.now c.self.inside.count c.args.self.now c.self.invariant c.self.view_is c.deref.ensures.value c.count_begun-begun.result (c.count_begun-begun.ensures.partitioned p by) parted
    (c.count_begun-begun.result - 1) c.passed.result c.count_of.result c.deref-2.result.now c.index.result.now (g.C.Contents.list c.contents.result.now) (omega arith) c.count_begun-begun.ensures.bound c.deref-2.ensures.value c.count_of.ensures c.index.ensures c.contents.ensures.same
    (c.passed.ensures.partitioned p by) c.passed.ensures.bound
