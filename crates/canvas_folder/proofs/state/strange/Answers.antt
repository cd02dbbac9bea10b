use Rattle.std.specs.Prelude.{◌≡◌, false, All}
use Rattle.std.proofs.Common.{subst, ◌∙◌, sym}
use Rattle.std.proofs.lemmas.List.{take_all}
use Rattle.std.proofs.lemmas.List.Elements.{All-more}
use Rattle.canvas_folder.specs.declared.generation.Generation.{Generation}
use Rattle.canvas_folder.specs.Generations.{is_strange}
use Rattle.std.specs.Prelude.{List}
use Rattle.canvas_folder.proofs.state.strange.Goals as goal

pub loop-generation-preserved : goal.loop-generation-preserved
loop-generation-preserved c =
    All-more (λ g. is_strange c.args.served g ≡ false) c.args.generations.now c.loop-generation.generation-index _ c.loop-generation-test.true c.loop-generation.invariant
    (sym c.is_strange.ensures ∙ c.if-is_strange.false)

pub returns-clause-none : goal.returns-clause-none
returns-clause-none c =
    let P : List Generation → Type 0 = λ xs. All (λ g. is_strange c.args.served g ≡ false) xs in
    subst P (take_all c.loop-generation.generation-index c.args.generations.now c.loop-generation-test.false) c.loop-generation.invariant
