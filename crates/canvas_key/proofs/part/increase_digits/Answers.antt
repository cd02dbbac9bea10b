use Rattle.std.proofs.Common.{ap, drop, length, subst, sym, take, ◌+◌, ◌-◌, ◌^◌, ◌≡◌, ◌∙◌}
use Rattle.std.specs.Prelude.{if◌then◌else◌}
use Rattle.canvas_key.specs.Digit.{number_of}
use Rattle.canvas_key.specs.Text.{HasDigits}
use Rattle.canvas_key.proofs.Steps.{part-digits, refilled}
use Rattle.canvas_key.proofs.part.increase_digits.Goals as goal

pub increase_from-requires-clause-digits : goal.increase_from-requires-clause-digits
increase_from-requires-clause-digits c = subst HasDigits (sym c.as_mut_slice.ensures.value) (part-digits c.args.part.now.items c.requires)

pub returns-clause-digits : goal.returns-clause-digits
returns-clause-digits c =
    let long = c.increase_from.auto.digits ∙ ap length c.as_mut_slice.ensures.value in
    subst HasDigits (sym (refilled c.args.part.now.items c.increase_from.new.digits long)) c.increase_from.ensures.digits

pub returns-clause-long : goal.returns-clause-long
returns-clause-long c =
    let long = c.increase_from.auto.digits ∙ ap length c.as_mut_slice.ensures.value in
    ap length (refilled c.args.part.now.items c.increase_from.new.digits long) ∙ long

pub returns-clause-kept : goal.returns-clause-kept
returns-clause-kept c =
    let long = c.increase_from.auto.digits ∙ ap length c.as_mut_slice.ensures.value in
    ap (take 1) (refilled c.args.part.now.items c.increase_from.new.digits long) ∙ c.increase_from.ensures.kept ∙ ap (take 1) c.as_mut_slice.ensures.value

pub returns-clause-number : goal.returns-clause-number
returns-clause-number c =
    let long = c.increase_from.auto.digits ∙ ap length c.as_mut_slice.ensures.value in
    ap (λ l. number_of (drop 1 l) + (if c.increase_from.result then 0 else 62 ^ (length c.args.part.now.items - 1))) (refilled c.args.part.now.items c.increase_from.new.digits long)
    ∙ subst (λ l. number_of (drop 1 c.increase_from.new.digits) + (if c.increase_from.result then 0 else 62 ^ (length l - 1)) ≡ number_of (drop 1 l) + 1) c.as_mut_slice.ensures.value c.increase_from.ensures.number
