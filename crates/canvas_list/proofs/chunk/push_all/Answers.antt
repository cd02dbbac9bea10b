use Rattle.std.proofs.Common.{◌∙◌, [], ◌∷◌, ◌++◌, List, ap}
use Rattle.std.proofs.lemmas.List.{append_assoc}
use Rattle.canvas_list.proofs.chunk.push_all.Goals as goal

pub loop-item-preserved : goal.loop-item-preserved
loop-item-preserved g c =
    c.in_ok-push.ensures.items
    ∙ ap (λ (l : List g.row.T.Denot). l ++ c.in-Some.item ∷ []) c.loop-item.invariant
    ∙ append_assoc c.args.all.now.items c.loop-item.yielded (c.in-Some.item ∷ [])
