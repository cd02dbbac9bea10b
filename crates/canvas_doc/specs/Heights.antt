-- How many levels lie below a parent, walked down.
use Rattle.std.specs.Prelude.{ℕ, zero, suc, List, filter}
use Rattle.canvas_record.specs.declared.records.Parent.{Parent}
use Rattle.canvas_record.specs.declared.records.Parent.TheVariants.{Shape}
use Rattle.canvas_record.specs.declared.records.Record.{Record}
use Rattle.canvas_record.specs.Children.{is_child}
use Rattle.canvas_record.specs.Depth.{greatest}

-- one level for each child, and the levels below it: the greatest of these, down to so many levels
unfoldable pub tallest : ℕ → List Record → Parent → ℕ
tallest zero rs p = 0
tallest (suc levels) rs p = greatest (λ r. suc (tallest levels rs (Shape r.id))) (filter (is_child p) rs)
