use Rattle.std.proofs.Common.{◌≡◌, ◌+◌, ◌-◌, ◌<◌, ◌≤◌, ◌∷◌, ◌++◌, [], length, drop, Vec, Global, ap, sym, ◌∙◌, subst}
use Rattle.std.specs.Arc.{arc_value}
use Rattle.std.proofs.lemmas.List.{append-nil, length_push}
use Rattle.canvas_line.specs.declared.recent.Damage.{Damage}
use Rattle.canvas_line.proofs.Recounts.{counted, forgets_shared, one_newer, recent_next, joined_rest, rest_fits, all_shared}
use Rattle.canvas_line.proofs.recent.Recent.with.Goals as goal

pub invariant_of-result : goal.invariant_of-result
invariant_of-result c =
    let i = c.self.inside in
    let known = c.self.invariant in
    let older = (arc_value i.older).items in
    let more = c.saturating_sub.result in
    let all = c.in_ok-joined.field-0.items in
    let count = counted i.forgotten older i.newer.items c.args.self.now c.self.view_is known.0 in
    let e : more ≡ length c.args.self.now + 1 - 64 = c.saturating_sub.ensures ∙ ap (λ n. n + 1 - 64) c.len.ensures in
    let few = subst (λ n. n < 16) (c.len-2.ensures ∙ i.newer.ok.0) c.if-len-lt-MOST_NEWER.true in
    let one : length all ≡ length i.newer.items + 1 = ap length c.in_ok-joined.ensures ∙ length_push c.deref.result.now c.args.newest ∙ ap (λ xs. length xs + 1) c.deref.ensures.value in
    subst (λ (v : Vec Damage Global). (i.forgotten + more ≤ length v.items) × (length all ≤ 16) × (length v.items + length all ≤ i.forgotten + more + 64)) (sym c.in_ok-try_clone.ensures)
    (one_newer i.forgotten more (length c.args.self.now) (length older) (length i.newer.items) (length all) count e known.0 few known.2 one)

pub returns-then-len-lt-MOST_NEWER : goal.returns-then-len-lt-MOST_NEWER
returns-then-len-lt-MOST_NEWER c =
    let i = c.self.inside in
    let known = c.self.invariant in
    let older = (arc_value i.older).items in
    let more = c.saturating_sub.result in
    let x = c.args.newest in
    let count = counted i.forgotten older i.newer.items c.args.self.now c.self.view_is known.0 in
    let e : more ≡ length c.args.self.now + 1 - 64 = c.saturating_sub.ensures ∙ ap (λ n. n + 1 - 64) c.len.ensures in
    let shared = forgets_shared i.forgotten more (length c.args.self.now) (length older) (length i.newer.items) count e known.0 known.1 known.2 in
    ap (λ (v : Vec Damage Global). drop (i.forgotten + more) v.items ++ c.in_ok-joined.field-0.items) c.in_ok-try_clone.ensures
    ∙ ap (λ xs. drop (i.forgotten + more) older ++ xs) (c.in_ok-joined.ensures ∙ ap (λ xs. xs ++ x ∷ []) c.deref.ensures.value)
    ∙ recent_next i.forgotten more older i.newer.items c.args.self.now x c.self.view_is e shared

pub joined-requires-2 : goal.joined-requires-2
joined-requires-2 c =
    let i = c.self.inside in
    rest_fits i.forgotten c.saturating_sub.result c.deref-3.result.now c.deref-4.result.now (arc_value i.older).items i.newer.items
    (c.deref-3.ensures.value ∙ ap (λ (v : Vec Damage Global). v.items) c.deref-2.ensures) c.deref-4.ensures.value c.self.invariant.0 c.self.invariant.2

pub returns : goal.returns
returns c =
    let i = c.self.inside in
    let known = c.self.invariant in
    let older = (arc_value i.older).items in
    let more = c.saturating_sub.result in
    let x = c.args.newest in
    let same : c.deref-3.result.now ≡ older = c.deref-3.ensures.value ∙ ap (λ (v : Vec Damage Global). v.items) c.deref-2.ensures in
    let all = joined_rest (i.forgotten + more) c.in_ok-all.all.items c.deref-3.result.now c.deref-4.result.now older i.newer.items x c.in_ok-all.ensures same c.deref-4.ensures.value in
    let count = counted i.forgotten older i.newer.items c.args.self.now c.self.view_is known.0 in
    let e : more ≡ length c.args.self.now + 1 - 64 = c.saturating_sub.ensures ∙ ap (λ n. n + 1 - 64) c.len.ensures in
    let shared = forgets_shared i.forgotten more (length c.args.self.now) (length older) (length i.newer.items) count e known.0 known.1 known.2 in
    ap (λ xs. (arc_value c.in_ok-new.field-0).items ++ xs) c.new-2.ensures.items ∙ append-nil (arc_value c.in_ok-new.field-0).items
    ∙ ap (λ (v : Vec Damage Global). v.items) c.in_ok-new.ensures.ok ∙ all ∙ recent_next i.forgotten more older i.newer.items c.args.self.now x c.self.view_is e shared

pub invariant_of-result-2 : goal.invariant_of-result-2
invariant_of-result-2 c =
    let i = c.self.inside in
    let known = c.self.invariant in
    let older = (arc_value i.older).items in
    let more = c.saturating_sub.result in
    let same : c.deref-3.result.now ≡ older = c.deref-3.ensures.value ∙ ap (λ (v : Vec Damage Global). v.items) c.deref-2.ensures in
    let all = joined_rest (i.forgotten + more) c.in_ok-all.all.items c.deref-3.result.now c.deref-4.result.now older i.newer.items c.args.newest c.in_ok-all.ensures same c.deref-4.ensures.value in
    let count = counted i.forgotten older i.newer.items c.args.self.now c.self.view_is known.0 in
    let e : more ≡ length c.args.self.now + 1 - 64 = c.saturating_sub.ensures ∙ ap (λ n. n + 1 - 64) c.len.ensures in
    all_shared i.forgotten more (length c.args.self.now) (arc_value c.in_ok-new.field-0).items c.new-2.result.items older i.newer.items c.args.newest
    (ap (λ (v : Vec Damage Global). v.items) c.in_ok-new.ensures.ok ∙ all) c.new-2.ensures.items count e known.0 known.1 known.2
