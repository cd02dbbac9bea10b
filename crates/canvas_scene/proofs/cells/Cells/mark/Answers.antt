use Rattle.std.proofs.Common.{FitsSigned, ◌∙◌, ap, rules, sym}
use Rattle.std.specs.Int.{w64}
use Rattle.std.proofs.lemmas.Int.{to_z-of_z}
use Rattle.canvas_scene.proofs.Marking.{covered, covered-more, row-marked}
use Rattle.canvas_scene.proofs.cells.Cells.mark.Goals as goal

pub loop-row-preserved : goal.loop-row-preserved
loop-row-preserved c = record {
  across = c.loop-row.invariant.across;
  down = c.loop-row.invariant.down;
  cells = row-marked c.args.self.now.rows c.loop-row.self.rows c.loop-row.row c.within-down.result.first c.within-down.result.end c.with_bits.result c.bits-word.result (search rules) c.loop-row.auto.row c.loop-row-test.true c.with_bits.ensures c.loop-row.invariant.cells;
}

pub returns : goal.returns
returns c = λ x y h.
    let left : FitsSigned w64 c.args.part.now.left = search rules in
    let top : FitsSigned w64 c.args.part.now.top = search rules in
    let right : FitsSigned w64 c.args.part.now.right = search rules in
    let bottom : FitsSigned w64 c.args.part.now.bottom = search rules in
    let across = simp to_z-of_z at c.within-across.ensures in
    let down = simp to_z-of_z at c.within-down.ensures in
    let a = c.args.self.now.across in
    let new = c.touch.new.self in
    covered-more a c.args.self.now.down c.args.self.now.rows c.loop-row.self.rows c.args.part.now c.bits-word.result c.within-across.result.first c.within-across.result.end c.within-down.result.first c.within-down.result.end c.loop-row.invariant.cells c.bits-word.ensures across down x y
    (ap (λ d. covered a d c.loop-row.self.rows x y) (sym (c.touch.ensures.down ∙ c.loop-row.invariant.down))
    ∙ ap (λ s. covered s new.down c.loop-row.self.rows x y) (sym (c.touch.ensures.across ∙ c.loop-row.invariant.across))
    ∙ ap (λ rows. covered new.across new.down rows x y) (sym c.touch.ensures.rows) ∙ h)
