use Rattle.canvas_doc.proofs.kept_bounds.+widen_above.Given as goal

abbrev pub decreases-widen_above : goal.decreases-widen_above
decreases-widen_above l = l.steps
