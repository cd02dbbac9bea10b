use Rattle.std.proofs.Common.{ℕ, Bool, ap, refl, sym, ◌∙◌}
use Rattle.canvas_shape.specs.Words.{has}
use Rattle.canvas_shape.proofs.Bits.{has-zero}
use Rattle.canvas_shape.proofs.Odd.{fold-first, fold-step, odd-nowhere}
use Rattle.canvas_shape.proofs.flag_words.odd_from.Goals as goal

pub returns-then-word-eq0 : goal.returns-then-word-eq0
returns-then-word-eq0 c = λ i. has-zero i ∙ sym (odd-nowhere (has c.args.word) i 64 (λ j low high. ap (λ n. has n j) c.if-word-eq0.true ∙ has-zero j))

pub returns : goal.returns
returns c =
    let test : ℕ → Bool = has c.args.word in
    let two = fold-step test c.args.word c.folded-two.result 1 2 refl (λ i. fold-first test i) c.folded-two.ensures in
    let four = fold-step test c.folded-two.result c.folded-four.result 2 4 refl two c.folded-four.ensures in
    let eight = fold-step test c.folded-four.result c.folded-eight.result 4 8 refl four c.folded-eight.ensures in
    let sixteen = fold-step test c.folded-eight.result c.folded-sixteen.result 8 16 refl eight c.folded-sixteen.ensures in
    let half = fold-step test c.folded-sixteen.result c.folded-half.result 16 32 refl sixteen c.folded-half.ensures in
    fold-step test c.folded-half.result c.folded.result 32 64 refl half c.folded.ensures
