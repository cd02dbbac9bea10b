use Rattle.canvas_json.proofs.Names.{has_others_of_members}
use Rattle.canvas_json.proofs.members.has_others.Goals as goal

pub returns-in-Some : goal.returns-in-Some
returns-in-Some c =
    let held = c.in-Some.ensures in
    has_others_of_members (λ n. n.now) c.args.names.now _ held.0 held.1 _ held.2 held.4 (c.any_outside.ensures held.0 held.3)
