use Rattle.std.proofs.Common.{◌≡◌, ◌++◌, [], ◌∷◌, OnOk, subst}
use Rattle.canvas_journal.specs.Lines.{recovered}
use Rattle.canvas_journal.proofs.Texts.{push_shape, push_lines}
use Rattle.canvas_journal.proofs.batch.Batch.push.Goals as goal

pub invariant_of-self : goal.invariant_of-self
invariant_of-self c = push_shape c.self.inside.bytes.items c.append.new.bytes.items c.args.line.now c.append.result c.self.invariant c.requires c.append.ensures.added c.append.ensures.same

pub returns-clause-added : goal.returns-clause-added
returns-clause-added c =
    let lines : OnOk c.append.result (recovered c.append.new.bytes.items ≡ recovered c.self.inside.bytes.items ++ c.args.line.now ∷ []) =
    push_lines c.self.inside.bytes.items c.append.new.bytes.items c.args.line.now c.append.result c.self.invariant c.requires c.append.ensures.added in
    subst (λ v. OnOk c.append.result (recovered c.append.new.bytes.items ≡ v ++ c.args.line.now ∷ [])) c.self.view_is lines
