use Rattle.std.proofs.Common.{◌<◌, ◌∙◌, IfOk, ap, arith, slice_index_or, subst, sym}
use Rattle.canvas_paint.specs.Strips.{IsStrip}
use Rattle.canvas_paint.proofs.Joined.{begins-itself, begins-same, strip-after, strips-begin, strips-whole}
use Rattle.canvas_paint.proofs.workers.append_strips.Goals as goal

pub loop-strip-init : goal.loop-strip-init
loop-strip-init g c = strips-begin c.args.items.now c.args.window.now c.args.n c.args.out.now.items

pub returns-in_err-extend_from_slice-in-Ok-clause-kept :
    goal.returns-in_err-extend_from_slice-in-Ok-clause-kept
returns-in_err-extend_from_slice-in-Ok-clause-kept g c =
    begins-same c.args.out.now.items _ c.extend_from_slice.new.self.items (c.in_err-extend_from_slice-in-Ok.ensures.items ∙ c.loop-strip.invariant)

pub returns-in-Err-clause-kept : goal.returns-in-Err-clause-kept
returns-in-Err-clause-kept g c = begins-same c.args.out.now.items _ c.loop-strip.out.items c.loop-strip.invariant

pub loop-strip-preserved : goal.loop-strip-preserved
loop-strip-preserved g c =
    let k = c.loop-strip.strip-index in
    let n = c.args.n in
    let lt : k < n = omega (arith, c.loop-strip-test.true, c.deref-strip-items.ensures.len, c.in_ok-strips.ensures.len) in
    let each = c.in_ok-strips.ensures.each k c.strip-item.result lt in
    let there = c.strip-item.is ∙ ap (λ l. slice_index_or l k c.strip-item.result) c.deref-strip-items.ensures.value in
    let here = subst (λ r. IfOk r (λ bytes. IsStrip c.args.items.now c.args.window.now k n bytes.items)) (sym there) each in
    let strip = subst (λ r. IfOk r (λ bytes. IsStrip c.args.items.now c.args.window.now k n bytes.items)) c.in-Ok.is here in
    strip-after c.args.items.now c.args.window.now k n c.args.out.now.items c.loop-strip.out.items c.extend_from_slice.new.self.items c.as_slice.result.now
    c.loop-strip.invariant (c.as_slice.ensures.value ∙ strip) c.in_ok-extend_from_slice-in-Ok.ensures.items

pub returns-clause-ok : goal.returns-clause-ok
returns-clause-ok g c =
    strips-whole c.args.items.now c.args.window.now c.loop-strip.strip-index c.args.n c.args.out.now.items c.loop-strip.out.items c.requires.some
    (omega (arith, c.deref-strip-items.ensures.len, c.in_ok-strips.ensures.len)) c.loop-strip.invariant

pub returns-clause-kept : goal.returns-clause-kept
returns-clause-kept g c = begins-same c.args.out.now.items _ c.loop-strip.out.items c.loop-strip.invariant

pub returns-in_err-strips-clause-kept : goal.returns-in_err-strips-clause-kept
returns-in_err-strips-clause-kept g c = begins-itself c.args.out.now.items
