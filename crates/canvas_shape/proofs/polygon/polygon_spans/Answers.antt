use Rattle.std.proofs.Common.{sym, subst, List, ℕ, ℤ}
use Rattle.std.proofs.lemmas.Result.{on_ok_weaker}
use Rattle.canvas_shape.proofs.Held.{appends-spans}
use Rattle.canvas_shape.specs.Edges.{is_in_polygon}
use Rattle.canvas_shape.specs.Cuts.{AreCuts, AreRisingFrom, AreWithin}
use Rattle.canvas_shape.proofs.Pairs.{cuts-moved, rising-from_sort, spans-of_cuts}
use Rattle.canvas_shape.proofs.polygon.polygon_spans.Goals as goal

pub append_spans-requires : goal.append_spans-requires
append_spans-requires c =
    let P : List ℕ → Type 0 = λ cs. AreWithin c.args.row.left c.args.row.right cs in
    let moved = cuts-moved c.args.row.left c.args.row.right c.collect.new.cuts.items c.sort_unstable.new.self.items (λ x. is_in_polygon c.args.points.now x c.args.row.y) c.sort_unstable.ensures.permutation c.in_ok-collect.ensures in
    subst P (sym c.deref.ensures.value) moved.inside

pub returns-clause-ok : goal.returns-clause-ok
returns-clause-ok c =
    let test = λ (x : ℤ). is_in_polygon c.args.points.now x c.args.row.y in
    let moved = cuts-moved c.args.row.left c.args.row.right c.collect.new.cuts.items c.sort_unstable.new.self.items test c.sort_unstable.ensures.permutation c.in_ok-collect.ensures in
    let P : List ℕ → Type 0 = λ cs. AreCuts c.args.row.left c.args.row.right cs test in
    let Q : List ℕ → Type 0 = λ cs. AreRisingFrom 0 cs in
    let cuts = subst P (sym c.deref.ensures.value) moved in
    let rising = subst Q (sym c.deref.ensures.value) (rising-from_sort c.sort_unstable.new.self.items c.sort_unstable.ensures.sorted) in
    on_ok_weaker c.append_spans.result (λ e. appends-spans c.args.out.now.items c.append_spans.new.out.items _ _ e (spans-of_cuts c.args.row.left c.args.row.right c.deref.result.now test cuts rising)) c.append_spans.ensures.ok
