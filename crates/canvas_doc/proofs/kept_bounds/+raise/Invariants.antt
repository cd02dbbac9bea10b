use Rattle.canvas_doc.proofs.kept_bounds.+raise.Given as goal

abbrev pub decreases-raise : goal.decreases-raise
decreases-raise l = l.steps
