-- What a box and some columns and rows of a plane cover.
use Rattle.canvas_doc.specs.declared.bounds.Bounds.{Bounds}
use Rattle.canvas_doc.specs.declared.coverage.Coverage.{Coverage}
use Rattle.canvas_doc.specs.Bounds.{IsWithinBounds}
use Rattle.canvas_doc.specs.Slabs.{HasSlabs}

-- the box holds what the bounds hold, and they lie in the columns and in the rows
pub record IsCovered (b : Bounds) (c : Coverage) : Type 0 where
  pub box : IsWithinBounds b c.bounds
  pub columns : HasSlabs b.left b.right c.columns
  pub rows : HasSlabs b.top b.bottom c.rows
