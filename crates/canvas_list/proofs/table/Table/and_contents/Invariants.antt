use Rattle.std.proofs.Common.{◌≡◌, ◌++◌, length}
use Rattle.canvas_list.proofs.table.Table.and_contents.Given as goal

abbrev pub invariant-parts : goal.invariant-parts
invariant-parts g l = l.list ++ g.C.Contents.list l.rest ≡ l.fn.self ++ g.C.Contents.list l.fn.contents

abbrev pub decreases-parts : goal.decreases-parts
decreases-parts g l = length (g.C.Contents.list l.rest)
