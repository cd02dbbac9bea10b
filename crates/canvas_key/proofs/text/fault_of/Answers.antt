use Rattle.std.proofs.Common.{ap, length, subst, sym, ◌≤◌, ◌∙◌}
use Rattle.canvas_key.specs.Text.{integer_part_len, is_head}
use Rattle.canvas_key.proofs.Keys.{IsFramed, digit-fault, last-fault, rest-digits, sound-key}
use Rattle.canvas_key.proofs.text.fault_of.Goals as goal

pub returns-then-not-are_digits : goal.returns-then-not-are_digits
returns-then-not-are_digits c =
    let text = c.args.text.now in
    let framed : IsFramed text = record {
      short = c.if-text-gt-KEY_LIMIT.false;
      head = ap is_head (sym c.head_of-head.ensures) ∙ sym c.is_head.ensures ∙ c.if-not-is_head.false;
      long = subst (λ n. n ≤ length text) (c.integer_part_len.ensures.value ∙ ap integer_part_len c.head_of-head.ensures) c.if-text-integer_part_len.false;
    } in
    sym (digit-fault text framed (sym (c.are_digits.ensures ∙ rest-digits text) ∙ c.if-not-are_digits.true))

pub returns-then-ends_in_zero : goal.returns-then-ends_in_zero
returns-then-ends_in_zero c =
    let text = c.args.text.now in
    let framed : IsFramed text = record {
      short = c.if-text-gt-KEY_LIMIT.false;
      head = ap is_head (sym c.head_of-head.ensures) ∙ sym c.is_head.ensures ∙ c.if-not-is_head.false;
      long = subst (λ n. n ≤ length text) (c.integer_part_len.ensures.value ∙ ap integer_part_len c.head_of-head.ensures) c.if-text-integer_part_len.false;
    } in
    sym (last-fault text framed (sym (c.are_digits.ensures ∙ rest-digits text) ∙ c.if-not-are_digits.false) (sym c.is_least.ensures ∙ c.if-is_least.false) (sym c.ends_in_zero.ensures ∙ c.if-ends_in_zero.true))

pub returns-else-ends_in_zero : goal.returns-else-ends_in_zero
returns-else-ends_in_zero c =
    let text = c.args.text.now in
    sym (sound-key text (record {
      head = ap is_head (sym c.head_of-head.ensures) ∙ sym c.is_head.ensures ∙ c.if-not-is_head.false;
      long = subst (λ n. n ≤ length text) (c.integer_part_len.ensures.value ∙ ap integer_part_len c.head_of-head.ensures) c.if-text-integer_part_len.false;
      digits = sym (c.are_digits.ensures ∙ rest-digits text) ∙ c.if-not-are_digits.false;
      least = sym c.is_least.ensures ∙ c.if-is_least.false;
      last = sym c.ends_in_zero.ensures ∙ c.if-ends_in_zero.false;
    }) c.if-text-gt-KEY_LIMIT.false)
