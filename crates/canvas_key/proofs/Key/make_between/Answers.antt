use Rattle.std.proofs.Common.{[], List, Result, Ok, Err, ap, length, ltb, subst, sym, ℕ, ◌+◌, ◌++◌, ◌≡◌, ◌≤◌, ◌∙◌, arith}
use Rattle.std.specs.Option.{option_copied}
use Rattle.std.specs.Prelude.{IsOk, OnOk}
use Rattle.std.proofs.lemmas.Bool.{cond-false, le-ltb}
use Rattle.canvas_key.specs.Between.{in_room}
use Rattle.canvas_key.specs.Order.{IsAbove, IsBelow}
use Rattle.canvas_key.specs.Text.{IsKey}
use Rattle.canvas_key.proofs.Keys.{sound-key}
use Rattle.canvas_key.proofs.Key.make_between.Goals as goal

where-ok : {T E : Type 0} (r : Result T E) (P : Type 0) → IsOk r → OnOk r P → P
where-ok (Ok t) P h p = p
where-ok (Err e) P h p = absurd (cc h)

room : (old other text : List ℕ) (n : ℕ) → old ≡ [] → other ≡ text → n ≡ length text → n ≤ 128 → length old + length other ≤ 128
room old other text n e f l h =
    let a = ap length e in
    let b = ap length f in
    omega (arith, a, b, l, h)

in-room : (text : List ℕ) → length text ≤ 128 → in_room text ≡ Ok text
in-room text h = cond-false (ltb 128 (length text)) _ _ (le-ltb 128 (length text) h)

short : (c : goal.After-try_extend_from_slice-fits) → length c.write_key_text.new.text.items ≤ 128
short c = subst (λ n. n ≤ 128) c.len.ensures.value c.if-len-gt-KEY_LIMIT.false

copied : (c : goal.After-try_extend_from_slice-fits) → c.try_extend_from_slice-fits.new.self.items ≡ c.write_key_text.new.text.items
copied c =
    let old = c.clear.new.self.items in
    let copy = c.try_extend_from_slice-fits in
    where-ok copy.result (copy.new.self.items ≡ old ++ c.as_slice.result.now)
    (copy.ensures.variant.1 (room old c.as_slice.result.now c.write_key_text.new.text.items c.len.result c.clear.ensures c.as_slice.ensures.value c.len.ensures.value c.if-len-gt-KEY_LIMIT.false))
    copy.ensures.ok
    ∙ ap (λ l. l ++ c.as_slice.result.now) c.clear.ensures
    ∙ c.as_slice.ensures.value

key : (c : goal.After-try_extend_from_slice-fits) → IsKey c.try_extend_from_slice-fits.new.self.items
key c = subst IsKey (sym (copied c)) (sound-key c.write_key_text.new.text.items c.write_key_text.ensures.lies.sound (short c))

pub invariant_of-self : goal.invariant_of-self
invariant_of-self c = key c

pub returns-clause-exact : goal.returns-clause-exact
returns-clause-exact c = ap in_room (sym c.write_key_text.ensures.exact) ∙ in-room c.write_key_text.new.text.items (short c) ∙ ap Ok (sym (copied c))

pub returns-clause-key : goal.returns-clause-key
returns-clause-key c = λ _. key c

pub returns-clause-above : goal.returns-clause-above
returns-clause-above c = λ _. subst (IsAbove (option_copied c.args.low)) (sym (copied c)) c.write_key_text.ensures.lies.above

pub returns-clause-below : goal.returns-clause-below
returns-clause-below c = λ _. subst (IsBelow (option_copied c.args.high)) (sym (copied c)) c.write_key_text.ensures.lies.below
