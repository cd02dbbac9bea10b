use Rattle.canvas_doc.proofs.editing.Created.{created-well}
use Rattle.canvas_doc.proofs.Document.apply.Goals as goal

pub add-requires : goal.add-requires
add-requires c =
    created-well c.args.change.now c.args.self.now c.in-Create.id c.in-Create.kind c.in_ok-try_clone-in-Create.field-0 c.in-Create.pose c.in-Create.hidden c.in-Create.place c.copy.result c.in-Create.is c.in_ok-try_clone-in-Create.ensures.value c.copy.ensures c.requires.left
