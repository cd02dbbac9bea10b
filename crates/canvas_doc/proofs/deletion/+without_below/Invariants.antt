use Rattle.canvas_doc.proofs.deletion.+without_below.Given as goal

abbrev pub decreases-without_below : goal.decreases-without_below
decreases-without_below l = l.levels
