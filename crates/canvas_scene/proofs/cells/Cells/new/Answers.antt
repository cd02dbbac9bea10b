use Rattle.std.proofs.Common.{FitsSigned, ◌≤ℤ◌, ◌+ℤ◌, ◌*◌, ◌^◌, pos, replicate, rules, subst, sym, ℕ}
use Rattle.std.specs.Int.{w64}
use Rattle.std.proofs.lemmas.Int.{to_z-of_z}
use Rattle.canvas_plane.specs.declared.PageBox.{PageBox}
use Rattle.canvas_scene.proofs.Marking.{none-covered, unmarked}
use Rattle.canvas_scene.proofs.Sides.{side-order, side-short}
use Rattle.canvas_scene.proofs.cells.Cells.new.Goals as goal

pub new-requires-clause-order : goal.new-requires-clause-order
new-requires-clause-order c =
    let w = c.args.window.now in
    let l : FitsSigned w64 c.covered-area.result.left = search rules in
    let r : FitsSigned w64 c.covered-area.result.right = search rules in
    let order : c.covered-area.result.left ≤ℤ c.covered-area.result.right = subst (λ (b : PageBox). b.left ≤ℤ b.right) (sym c.covered-area.ensures) (side-order w.x w.w w.level) in
    simp to_z-of_z order

pub new-requires-clause-short : goal.new-requires-clause-short
new-requires-clause-short c =
    let w = c.args.window.now in
    let l : FitsSigned w64 c.covered-area.result.left = search rules in
    let r : FitsSigned w64 c.covered-area.result.right = search rules in
    let short : c.covered-area.result.right ≤ℤ (c.covered-area.result.left +ℤ pos (256 * 2 ^ w.level)) = subst (λ (b : PageBox). b.right ≤ℤ (b.left +ℤ pos (256 * 2 ^ w.level))) (sym c.covered-area.ensures) (side-short w.x w.w w.level w.across.most) in
    simp to_z-of_z (subst (λ (k : ℕ). c.covered-area.result.right ≤ℤ (c.covered-area.result.left +ℤ pos (256 * 2 ^ k))) (sym c.level-level.ensures.value) short)

pub new-requires-2-clause-order : goal.new-requires-2-clause-order
new-requires-2-clause-order c =
    let w = c.args.window.now in
    let t : FitsSigned w64 c.covered-area.result.top = search rules in
    let b : FitsSigned w64 c.covered-area.result.bottom = search rules in
    let order : c.covered-area.result.top ≤ℤ c.covered-area.result.bottom = subst (λ (b : PageBox). b.top ≤ℤ b.bottom) (sym c.covered-area.ensures) (side-order w.y w.h w.level) in
    simp to_z-of_z order

pub new-requires-2-clause-short : goal.new-requires-2-clause-short
new-requires-2-clause-short c =
    let w = c.args.window.now in
    let t : FitsSigned w64 c.covered-area.result.top = search rules in
    let b : FitsSigned w64 c.covered-area.result.bottom = search rules in
    let short : c.covered-area.result.bottom ≤ℤ (c.covered-area.result.top +ℤ pos (256 * 2 ^ w.level)) = subst (λ (b : PageBox). b.bottom ≤ℤ (b.top +ℤ pos (256 * 2 ^ w.level))) (sym c.covered-area.ensures) (side-short w.y w.h w.level w.down.most) in
    simp to_z-of_z (subst (λ (k : ℕ). c.covered-area.result.bottom ≤ℤ (c.covered-area.result.top +ℤ pos (256 * 2 ^ k))) (sym c.level-level.ensures.value) short)

pub returns : goal.returns
returns c = λ x y. none-covered c.new.result c.new-2.result (replicate 32 0) x y (unmarked 32)
