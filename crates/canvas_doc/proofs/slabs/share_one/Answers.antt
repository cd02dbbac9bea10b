use Rattle.std.proofs.Common.{◌≡◌, ◌∙◌, ap, sym, arith}
use Rattle.std.proofs.lemmas.Bool.Decides.{nat_tests}
use Rattle.canvas_shape.specs.Words.{has}
use Rattle.canvas_shape.proofs.Bits.{has-zero}
use Rattle.canvas_doc.proofs.boxes.Bits.{not-both}
use Rattle.canvas_doc.proofs.slabs.share_one.Goals as goal

pub returns : goal.returns
returns c = λ none i there.
    let zero : c.both.result ≡ 0 = grind (arith, nat_tests) in
    not-both (has c.args.a i) (has c.args.b i) (sym (c.both.ensures i) ∙ ap (λ w. has w i) zero ∙ has-zero i) there
