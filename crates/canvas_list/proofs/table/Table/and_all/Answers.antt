use Rattle.std.proofs.Common.{◌≡◌, ◌∙◌, ◌^◌, ◌++◌, ◌∷◌, [], List, ap}
use Rattle.canvas_list.proofs.Joined.{grown, still-small, table-push}
use Rattle.canvas_list.proofs.table.Table.and_all.Goals as goal

pub loop-part-preserved : goal.loop-part-preserved
loop-part-preserved g c =
    let cs : List (List g.row.T.Denot) = c.loop-part.parts.items in
    let item : List g.row.T.Denot = c.part-item.result in
    let pushed : c.push.new.self.items ≡ cs ++ item ∷ [] = c.in_ok-push.ensures.items ∙ ap (λ (l : List g.row.T.Denot). cs ++ l ∷ []) c.in_ok-try_clone.ensures in
    record {
      table =
          rw (pushed, c.count.ensures.count)
          (table-push cs c.loop-part.count item c.loop-part.invariant.table c.count.ensures.some
          (still-small cs c.args.more.now c.args.self c.loop-part.count (2 ^ 32) c.loop-part.part-index item c.loop-part-test.true c.part-item.is c.loop-part.invariant.list c.loop-part.invariant.table.has_len c.requires));
      list = rw pushed (grown cs c.args.more.now c.args.self c.loop-part.part-index item c.loop-part-test.true c.part-item.is c.loop-part.invariant.list);
    }
