use Rattle.std.proofs.Common.{ap, length, set, ◌∙◌}
use Rattle.std.proofs.lemmas.List.{length-set}
use Rattle.canvas_key.proofs.Steps.{refilled}
use Rattle.canvas_key.proofs.part.set_head.Goals as goal

pub returns : goal.returns
returns c =
    let part = c.args.part.now.items in
    let now = c.deref_mut.result.now in
    refilled part (set now 0 c.args.head) (length-set now 0 c.args.head ∙ ap length c.deref_mut.ensures.value) ∙ ap (λ l. set l 0 c.args.head) c.deref_mut.ensures.value
