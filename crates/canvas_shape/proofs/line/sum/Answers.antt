use Rattle.std.proofs.Common.{FitsSigned, rules, pos, arith, ◌-◌, ◌*◌}
use Rattle.std.specs.Int.{w64}
use Rattle.std.proofs.lemmas.Int.{to_z-of_z}
use Rattle.canvas_shape.proofs.LineLaws.{sum-below, sum-above}
use Rattle.std.specs.Prelude.{unsigned_abs}
use Rattle.canvas_shape.proofs.Leans.{sum-small, sum-next, sum-more, sum-room}
use Rattle.canvas_shape.proofs.line.sum.Goals as goal

pub returns-then-a-room-clause-value : goal.returns-then-a-room-clause-value
returns-then-a-room-clause-value c = λ n m f g.
    let a : FitsSigned w64 c.args.a.whole = search rules in
    let b : FitsSigned w64 c.args.b.whole = search rules in
    let w : FitsSigned w64 c.plus-whole.result = search rules in
    simp to_z-of_z (sum-below n m c.plus-whole.result c.args.a.whole c.args.b.whole c.args.height c.args.a.rest c.args.b.rest (simp to_z-of_z at c.plus-whole.ensures.value) (omega arith) f g)

pub returns-else-a-room-clause-value : goal.returns-else-a-room-clause-value
returns-else-a-room-clause-value c = λ n m f g.
    let a : FitsSigned w64 c.args.a.whole = search rules in
    let b : FitsSigned w64 c.args.b.whole = search rules in
    let w : FitsSigned w64 c.plus-whole.result = search rules in
    let one : FitsSigned w64 (pos 1) = search rules in
    let v : FitsSigned w64 c.plus.result = search rules in
    simp to_z-of_z (sum-above n m c.plus.result c.plus-whole.result c.args.a.whole c.args.b.whole c.args.height c.args.a.rest c.args.b.rest (c.args.a.rest - (2 * c.args.height - c.args.b.rest)) (simp to_z-of_z at c.plus.ensures.value) (simp to_z-of_z at c.plus-whole.ensures.value) (omega arith) f g)

pub returns-then-a-room-clause-bound : goal.returns-then-a-room-clause-bound
returns-then-a-room-clause-bound c =
    let a : FitsSigned w64 c.args.a.whole = search rules in
    let b : FitsSigned w64 c.args.b.whole = search rules in
    sum-more _ (unsigned_abs c.args.a.whole) (sum-small c.args.a.whole c.args.b.whole c.plus-whole.result a b (record { sfits = c.plus-whole.type_inv }) c.requires.second.1 c.plus-whole.ensures.bound)

pub plus-requires-clause-second : goal.plus-requires-clause-second
plus-requires-clause-second c =
    let a : FitsSigned w64 c.args.a.whole = search rules in
    let b : FitsSigned w64 c.args.b.whole = search rules in
    sum-room _ (unsigned_abs c.args.a.whole) (sum-small c.args.a.whole c.args.b.whole c.plus-whole.result a b (record { sfits = c.plus-whole.type_inv }) c.requires.second.1 c.plus-whole.ensures.bound) c.requires.first.1

pub returns-else-a-room-clause-bound : goal.returns-else-a-room-clause-bound
returns-else-a-room-clause-bound c =
    let a : FitsSigned w64 c.args.a.whole = search rules in
    let b : FitsSigned w64 c.args.b.whole = search rules in
    sum-next c.args.a.whole c.plus.result c.plus-whole.result (record { sfits = c.plus.type_inv }) (sum-small c.args.a.whole c.args.b.whole c.plus-whole.result a b (record { sfits = c.plus-whole.type_inv }) c.requires.second.1 c.plus-whole.ensures.bound) c.plus.ensures.bound
