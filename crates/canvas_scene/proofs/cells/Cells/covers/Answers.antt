use Rattle.std.proofs.Common.{FitsSigned, ◌∙◌, ap, refl, rules, sym}
use Rattle.std.specs.Int.{w64}
use Rattle.std.proofs.lemmas.Int.{to_z-of_z}
use Rattle.canvas_plane.specs.Page.{is_in}
use Rattle.canvas_scene.proofs.Marking.{covered-all, row-has_all}
use Rattle.canvas_scene.proofs.cells.Cells.covers.Goals as goal

pub loop-row-preserved : goal.loop-row-preserved
loop-row-preserved c = row-has_all c.args.self.now.rows c.touched-down.result.first c.loop-row.row c.bits-word.result (c.if-not-has_bits.ensures refl) c.loop-row.invariant

pub returns : goal.returns
returns c = λ t x y h.
    let left : FitsSigned w64 c.args.part.now.left = search rules in
    let top : FitsSigned w64 c.args.part.now.top = search rules in
    let right : FitsSigned w64 c.args.part.now.right = search rules in
    let bottom : FitsSigned w64 c.args.part.now.bottom = search rules in
    let across = simp to_z-of_z at c.touched-across.ensures in
    let down = simp to_z-of_z at c.touched-down.ensures in
    covered-all c.args.self.now.across c.args.self.now.down c.args.self.now.rows c.args.part.now c.bits-word.result c.touched-across.result.first c.touched-across.result.end c.touched-down.result.first c.touched-down.result.end c.loop-row.row c.loop-row-test.false c.loop-row.invariant c.bits-word.ensures across down x y
    (ap (λ b. is_in b x y) (sym c.area.ensures) ∙ c.if-not-lies_within.ensures refl x y h) h
