use Rattle.canvas_shape.specs.Leaves.{sides_of}
use Rattle.canvas_shape.proofs.EllipseRow.{mirror-same}
use Rattle.canvas_shape.proofs.Mirrors.{mirror-fits, mirror-is, mirror-small}
use Rattle.canvas_shape.proofs.parts.LeafBox.mirror.Goals as goal

pub overflow_sub-result-2 : goal.overflow_sub-result-2
overflow_sub-result-2 c =
    let leaf = c.args.self.now in
    mirror-fits leaf.top leaf.bottom c.args.y c.from.result leaf.down c.ranges.y (record { sfits = c.from.type_inv }) c.from.ensures

pub returns-clause-row : goal.returns-clause-row
returns-clause-row c =
    let leaf = c.args.self.now in
    mirror-is leaf.top leaf.bottom c.args.y c.from.result leaf.down c.ranges.y (record { sfits = c.from.type_inv }) c.from.ensures

pub returns-clause-same : goal.returns-clause-same
returns-clause-same c = λ x.
    let leaf = c.args.self.now in
    mirror-same (sides_of leaf) x c.args.y _ (mirror-is leaf.top leaf.bottom c.args.y c.from.result leaf.down c.ranges.y (record { sfits = c.from.type_inv }) c.from.ensures)

pub returns-clause-bound : goal.returns-clause-bound
returns-clause-bound c =
    let leaf = c.args.self.now in
    mirror-small leaf.top leaf.bottom c.args.y c.from.result leaf.down c.ranges.y (record { sfits = c.from.type_inv }) c.from.ensures
