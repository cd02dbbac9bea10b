use Rattle.std.proofs.Common.{◌≡◌, ◌∙◌, ◌+◌, List, suc, arith}
use Rattle.canvas_record.specs.declared.records.Parent.TheVariants.{Shape}
use Rattle.canvas_record.specs.declared.records.Record.{Record}
use Rattle.canvas_doc.specs.Heights.{tallest}
use Rattle.canvas_doc.proofs.tree.Heights.{found-own, height-found}
use Rattle.canvas_doc.proofs.ancestry.height_of.Goals as goal

pub levels_below-requires : goal.levels_below-requires
levels_below-requires c = found-own c.args.id c.args.document.now.records c.args.shape.now c.requires.found

pub returns-clause-value : goal.returns-clause-value
returns-clause-value c =
    let rs : List Record = c.args.document.now.records in
    let one : c.levels_below.result + 1 ≡ suc (tallest 31 rs (Shape c.args.shape.now.id)) = omega (arith, c.levels_below.ensures.value) in
    one ∙ height-found c.args.id rs c.args.shape.now c.requires.well_formed.rising c.requires.well_formed.grounded c.requires.found
