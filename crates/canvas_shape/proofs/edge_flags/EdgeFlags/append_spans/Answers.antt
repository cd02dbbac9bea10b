use Rattle.std.proofs.Common.{◌≡◌, ◌∙◌, ◌++◌, ap}
use Rattle.std.proofs.lemmas.Int.{to_z-of_z}
use Rattle.canvas_shape.specs.Cuts.{spans_of}
use Rattle.canvas_shape.specs.Flags.{cuts_behind, flag, is_held}
use Rattle.canvas_shape.proofs.FlagCuts.{flag-spans}
use Rattle.canvas_shape.proofs.Held.{appends-spans}
use Rattle.canvas_shape.proofs.edge_flags.EdgeFlags.append_spans.Goals as goal

pub returns-in-Ok-clause-ok : goal.returns-in-Ok-clause-ok
returns-in-Ok-clause-ok c =
    let left = c.ranges.left in
    let words = c.args.self.now.words in
    let begin : c.row_from.result.left ≡ c.args.left = simp to_z-of_z at c.row_from.ensures.left in
    appends-spans c.args.out.now.items c.push_spans.new.out.items _ _
    (c.in-Ok.ensures.ok ∙ ap (λ z. c.args.out.now.items ++ spans_of z (is_held words 0) 0 (cuts_behind c.args.width (flag words) 0 256)) begin)
    (flag-spans c.args.left c.args.width words c.requires.wide)
