use Rattle.std.proofs.Common.{◌≡◌, ◌∙◌, ap, arith}
use Rattle.std.proofs.lemmas.Bool.Decides.{nat_tests}
use Rattle.canvas_shape.specs.Words.{has}
use Rattle.canvas_doc.proofs.boxes.Bits.{either-right}
use Rattle.canvas_doc.proofs.slabs.has_all.Goals as goal

pub returns : goal.returns
returns c = λ all i there.
    let same : c.args.a ≡ c.either.result = grind (arith, nat_tests) in
    ap (λ w. has w i) same ∙ c.either.ensures i ∙ either-right (has c.args.a i) (has c.args.b i) there
