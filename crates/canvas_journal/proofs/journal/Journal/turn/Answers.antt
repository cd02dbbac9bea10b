use Rattle.std.proofs.Common.{◌≡◌, ◌+◌, ◌++◌, sym, subst, ◌∙◌, arith}
use Rattle.canvas_journal.specs.Device.{Only}
use Rattle.canvas_journal.specs.Journal.{IsSettled, at_rest, done_of}
use Rattle.canvas_journal.proofs.Runs.{turn_lasts, turn_keeps, turn_acknowledges}
use Rattle.canvas_journal.proofs.Turns.{in_first, in_second, in_sync, staged_behind, now_done, now_settled}
use Rattle.canvas_journal.proofs.journal.Journal.turn.Goals as goal

pub overflow_add-opened : goal.overflow_add-opened
overflow_add-opened g c = let low = c.if-self-gt-MOST_BYTES.false in let short = c.len.ensures.fits in omega arith

pub overflow_add-opened-2 : goal.overflow_add-opened-2
overflow_add-opened-2 g c = let low = c.if-self-gt-MOST_BYTES.false in let short = c.len.ensures.fits in omega arith

pub returns-in_err-write_at-clause-any_moment : goal.returns-in_err-write_at-clause-any_moment
returns-in_err-write_at-clause-any_moment g c =
    in_first g.D.Device.seen g.D.Device.may_leave g.D.Device.moment g.D.Device.left_since c.args.self.now c.requires c.len.ensures.lines c.gate.result.now c.gate.ensures c.len.result c.len.ensures.len
    (g.met.D.Device.only_now c.args.self.now.device) c.write_at.new.self c.write_at.ensures.crash c.write_at.ensures.time

pub returns-in_err-write_at-2-clause-any_moment : goal.returns-in_err-write_at-2-clause-any_moment
returns-in_err-write_at-2-clause-any_moment g c =
    in_second g.D.Device.seen g.D.Device.may_leave g.D.Device.moment g.D.Device.left_since c.args.self.now c.requires c.len.ensures.lines c.gate.result.now c.gate.ensures c.len.result c.len.ensures.len
    (g.met.D.Device.only_now c.args.self.now.device) c.write_at.new.self c.write_at.ensures.crash c.write_at.ensures.time
    c.write_at-2.new.self _ c.write_at-2.ensures.crash c.write_at-2.ensures.time

pub returns-in_err-sync-clause-any_moment : goal.returns-in_err-sync-clause-any_moment
returns-in_err-sync-clause-any_moment g c =
    in_sync g.D.Device.seen g.D.Device.may_leave g.D.Device.moment g.D.Device.left_since c.args.self.now c.requires c.len.ensures.lines c.gate.result.now c.gate.ensures c.len.result c.len.ensures.len
    (g.met.D.Device.only_now c.args.self.now.device) c.write_at.new.self c.write_at.ensures.crash c.write_at.ensures.time
    c.write_at-2.new.self _ c.write_at-2.ensures.crash c.write_at-2.ensures.time
    c.sync.new.self c.sync.ensures.crash c.sync.ensures.time

pub returns-clause-any_moment : goal.returns-clause-any_moment
returns-clause-any_moment g c =
    in_sync g.D.Device.seen g.D.Device.may_leave g.D.Device.moment g.D.Device.left_since c.args.self.now c.requires c.len.ensures.lines c.gate.result.now c.gate.ensures c.len.result c.len.ensures.len
    (g.met.D.Device.only_now c.args.self.now.device) c.write_at.new.self c.write_at.ensures.crash c.write_at.ensures.time
    c.write_at-2.new.self _ c.write_at-2.ensures.crash c.write_at-2.ensures.time
    c.sync.new.self c.sync.ensures.crash c.sync.ensures.time

-- both writes, on the disk
pub returns-clause-settled : goal.returns-clause-settled
returns-clause-settled g c =
    let is : g.D.Device.seen c.write_at-2.new.self ≡ at_rest (done_of g.D.Device.seen c.args.self.now ++ c.args.self.now.staged) c.args.batch =
    staged_behind g.D.Device.seen g.D.Device.may_leave g.D.Device.moment g.D.Device.left_since c.args.self.now c.requires c.len.ensures.lines c.gate.result.now c.gate.ensures c.len.result c.len.ensures.len
    c.args.batch c.body.result.now _ _ c.body.ensures c.in_ok-write_at.ensures.written c.in_ok-write_at-2.ensures.written in
    let durable = subst (λ f. Only f (g.D.Device.may_leave c.sync.new.self)) (sym c.sync.ensures.seen) c.in_ok-sync.ensures.durable in
    let settled = now_settled g.D.Device.seen g.D.Device.may_leave g.D.Device.moment g.D.Device.left_since c.args.self.now c.requires c.len.ensures.lines c.gate.result.now c.gate.ensures c.len.result c.len.ensures.len
    c.sync.new.self c.args.batch (c.sync.ensures.seen ∙ is) durable in
    subst (λ b. IsSettled g.D.Device.seen g.D.Device.may_leave (record { device = c.sync.new.self; end = c.args.self.now.end + c.len.result; staged = b })) (sym c.replace.ensures.after) settled

pub returns-clause-acknowledged : goal.returns-clause-acknowledged
returns-clause-acknowledged g c =
    let is : g.D.Device.seen c.write_at-2.new.self ≡ at_rest (done_of g.D.Device.seen c.args.self.now ++ c.args.self.now.staged) c.args.batch =
    staged_behind g.D.Device.seen g.D.Device.may_leave g.D.Device.moment g.D.Device.left_since c.args.self.now c.requires c.len.ensures.lines c.gate.result.now c.gate.ensures c.len.result c.len.ensures.len
    c.args.batch c.body.result.now _ _ c.body.ensures c.in_ok-write_at.ensures.written c.in_ok-write_at-2.ensures.written in
    now_done g.D.Device.seen g.D.Device.may_leave g.D.Device.moment g.D.Device.left_since c.args.self.now c.requires c.len.ensures.lines c.gate.result.now c.gate.ensures c.len.result c.len.ensures.len
    _ c.args.batch (c.sync.ensures.seen ∙ is)

pub returns-in_err-write_at-clause-lasts : goal.returns-in_err-write_at-clause-lasts
returns-in_err-write_at-clause-lasts g c = λ since known kept. turn_lasts g.D.Device.seen g.D.Device.may_leave g.D.Device.moment g.D.Device.left_since c.args.self.now c.write_at.new.self since known kept (returns-in_err-write_at-clause-any_moment g c)

pub returns-in_err-write_at-2-clause-lasts : goal.returns-in_err-write_at-2-clause-lasts
returns-in_err-write_at-2-clause-lasts g c = λ since known kept. turn_lasts g.D.Device.seen g.D.Device.may_leave g.D.Device.moment g.D.Device.left_since c.args.self.now c.write_at-2.new.self since known kept (returns-in_err-write_at-2-clause-any_moment g c)

pub returns-in_err-sync-clause-lasts : goal.returns-in_err-sync-clause-lasts
returns-in_err-sync-clause-lasts g c = λ since known kept. turn_lasts g.D.Device.seen g.D.Device.may_leave g.D.Device.moment g.D.Device.left_since c.args.self.now c.sync.new.self since known kept (returns-in_err-sync-clause-any_moment g c)

pub returns-clause-lasts : goal.returns-clause-lasts
returns-clause-lasts g c = λ since known kept. turn_lasts g.D.Device.seen g.D.Device.may_leave g.D.Device.moment g.D.Device.left_since c.args.self.now c.sync.new.self since known kept (returns-clause-any_moment g c)

pub returns-then-self-gt-MOST_BYTES-clause-lasts : goal.returns-then-self-gt-MOST_BYTES-clause-lasts
returns-then-self-gt-MOST_BYTES-clause-lasts g c = λ since known kept. kept.lasts

pub returns-clause-keeps : goal.returns-clause-keeps
returns-clause-keeps g c =
    λ since known kept. turn_keeps g.D.Device.seen g.D.Device.may_leave g.D.Device.moment g.D.Device.left_since c.args.self.now _ since known kept (returns-clause-any_moment g c) (returns-clause-acknowledged g c)

pub returns-clause-acknowledges : goal.returns-clause-acknowledges
returns-clause-acknowledges g c =
    turn_acknowledges g.D.Device.seen g.D.Device.may_leave g.D.Device.moment g.D.Device.left_since c.args.self.now _ (g.met.D.Device.only_now c.sync.new.self) (returns-clause-settled g c) (returns-clause-acknowledged g c)
