use Rattle.std.proofs.Common.{◌≡◌, ◌≤◌, ◌-◌, All, map, max, suc}
use Rattle.std.specs.List.{Contains}
use Rattle.canvas_record.specs.declared.records.Parent.TheVariants.{Shape}
use Rattle.canvas_record.specs.Depth.{greatest}
use Rattle.canvas_doc.specs.Heights.{tallest}
use Rattle.canvas_doc.proofs.editing.Placements.{shape_of}
use Rattle.canvas_doc.proofs.ancestry.+levels_below.Given as goal

abbrev pub decreases-levels_below : goal.decreases-levels_below
decreases-levels_below l = l.levels

abbrev pub invariant-loop-placed : goal.invariant-loop-placed
invariant-loop-placed l = record {
  value : max l.tallest (greatest (λ r. suc (tallest (l.levels - 1) l.document.records (Shape r.id))) (map shape_of l.placed-iterator))
      ≡ greatest (λ r. suc (tallest (l.levels - 1) l.document.records (Shape r.id))) (map shape_of l.initial.placed-iterator);
  small : l.tallest ≤ l.levels;
  listed : All (Contains l.document.records) (map shape_of l.placed-iterator);
}
