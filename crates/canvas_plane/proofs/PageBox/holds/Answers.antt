use Rattle.std.proofs.Common.{ap, rules, sym, FitsSigned, w64, ◌&&◌, ◌∙◌}
use Rattle.std.specs.Prelude.{int_le, int_lt}
use Rattle.std.proofs.lemmas.Bool.{and_left}
use Rattle.canvas_plane.proofs.Boxes.{kept-side}
use Rattle.canvas_plane.proofs.PageBox.holds.Goals as goal

pub returns-then-is_across : goal.returns-then-is_across
returns-then-is_across c =
    let b = c.args.self.now in
    let l : FitsSigned w64 b.left = search rules in
    let r : FitsSigned w64 b.right = search rules in
    let t : FitsSigned w64 b.top = search rules in
    let d : FitsSigned w64 b.bottom = search rules in
    let across = sym (kept-side b.left b.right c.args.x l r c.ranges.x) ∙ sym c.is_from_to-is_across.ensures ∙ c.if-is_across.true in
    c.is_from_to-is_down.ensures ∙ kept-side b.top b.bottom c.args.y t d c.ranges.y ∙ sym (ap (λ p. p && (int_le b.top c.args.y && int_lt c.args.y b.bottom)) across)

pub returns-else-is_across : goal.returns-else-is_across
returns-else-is_across c =
    let b = c.args.self.now in
    let l : FitsSigned w64 b.left = search rules in
    let r : FitsSigned w64 b.right = search rules in
    let across = sym (kept-side b.left b.right c.args.x l r c.ranges.x) ∙ sym c.is_from_to-is_across.ensures ∙ c.if-is_across.false in
    c.if-is_across.false ∙ sym (and_left _ _ across)
