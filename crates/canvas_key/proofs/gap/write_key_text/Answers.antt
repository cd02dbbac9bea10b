use Rattle.std.proofs.Common.{◌≡◌, ℕ, List, Option, Some, None, sym, ap, subst, ◌∙◌}
use Rattle.std.specs.Option.{option_copied}
use Rattle.arrayvec.specs.ArrayVec.{ArrayVec}
use Rattle.canvas_key.specs.Order.{AreApart}
use Rattle.canvas_key.specs.Between.{LiesBetween, key_text, text_between, over_least}
use Rattle.canvas_key.specs.Text.{IsKeyOrNone}
use Rattle.canvas_key.proofs.Laws.{lies-between}
use Rattle.canvas_key.proofs.gap.write_key_text.Goals as goal
use Rattle.canvas_key.proofs.gap.write_key_text.Goals.{in-None-None, in-None-Some, in-Some-None, in-Some-Some}

abbrev items_of : ArrayVec ℕ → List ℕ
items_of v = v.items

answered : (low high l h : Option (List ℕ)) (text out : List ℕ) → low ≡ l → high ≡ h → IsKeyOrNone l → IsKeyOrNone h → AreApart low high → text ≡ text_between l h → out ≡ over_least text → LiesBetween low high out
answered low high l h text out el eh kl kh apart e o =
    let res = lies-between l h kl kh (subst (λ z. AreApart z h) el (subst (AreApart low) eh apart)) in
    subst (LiesBetween low high) (sym (o ∙ ap over_least e))
    (subst (λ z. LiesBetween low z (over_least (text_between l h))) (sym eh)
    (subst (λ z. LiesBetween z h (over_least (text_between l h))) (sym el) res))

made : (low high l h : Option (List ℕ)) (text out : List ℕ) → low ≡ l → high ≡ h → text ≡ text_between l h → out ≡ over_least text → out ≡ key_text low high
made low high l h text out el eh e o = o ∙ ap over_least e ∙ (λ i. key_text (sym el i) (sym eh i))

pub returns-clause-lies : goal.returns-clause-lies
returns-clause-lies c =
    elim c.match-low.branch [
      | in-None-None w ↦ answered _ _ None None _ _ (ap option_copied w.in-None-None.is-0) (ap option_copied w.in-None-None.is-1) tt tt c.requires (ap items_of w.text-is ∙ w.write_first.ensures) c.push_over_least.ensures
      | in-None-Some w ↦ answered _ _ None (Some w.in-None-Some.high.now) _ _ (ap option_copied w.in-None-Some.is-0) (ap option_copied w.in-None-Some.is-1) tt w.bytes.ensures.key c.requires (ap items_of w.text-is ∙ w.write_below.ensures ∙ ap (λ b. text_between None (Some b)) w.bytes.ensures.text) c.push_over_least.ensures
      | in-Some-None w ↦ answered _ _ (Some w.in-Some-None.low.now) None _ _ (ap option_copied w.in-Some-None.is-0) (ap option_copied w.in-Some-None.is-1) w.bytes-in-Some-None.ensures.key tt c.requires (ap items_of w.text-is ∙ w.write_above.ensures ∙ ap (λ a. text_between (Some a) None) w.bytes-in-Some-None.ensures.text) c.push_over_least.ensures
      | in-Some-Some w ↦ answered _ _ (Some w.in-Some-Some.low.now) (Some w.in-Some-Some.high.now) _ _ (ap option_copied w.in-Some-Some.is-0) (ap option_copied w.in-Some-Some.is-1) w.bytes-in-Some-Some.ensures.key w.bytes-in-Some-Some-2.ensures.key c.requires (ap items_of w.text-is ∙ w.write_amid.ensures ∙ (λ i. text_between (Some (w.bytes-in-Some-Some.ensures.text i)) (Some (w.bytes-in-Some-Some-2.ensures.text i)))) c.push_over_least.ensures
    ]

pub returns-clause-exact : goal.returns-clause-exact
returns-clause-exact c =
    elim c.match-low.branch [
      | in-None-None w ↦ made _ _ None None _ _ (ap option_copied w.in-None-None.is-0) (ap option_copied w.in-None-None.is-1) (ap items_of w.text-is ∙ w.write_first.ensures) c.push_over_least.ensures
      | in-None-Some w ↦ made _ _ None (Some w.in-None-Some.high.now) _ _ (ap option_copied w.in-None-Some.is-0) (ap option_copied w.in-None-Some.is-1) (ap items_of w.text-is ∙ w.write_below.ensures ∙ ap (λ b. text_between None (Some b)) w.bytes.ensures.text) c.push_over_least.ensures
      | in-Some-None w ↦ made _ _ (Some w.in-Some-None.low.now) None _ _ (ap option_copied w.in-Some-None.is-0) (ap option_copied w.in-Some-None.is-1) (ap items_of w.text-is ∙ w.write_above.ensures ∙ ap (λ a. text_between (Some a) None) w.bytes-in-Some-None.ensures.text) c.push_over_least.ensures
      | in-Some-Some w ↦ made _ _ (Some w.in-Some-Some.low.now) (Some w.in-Some-Some.high.now) _ _ (ap option_copied w.in-Some-Some.is-0) (ap option_copied w.in-Some-Some.is-1) (ap items_of w.text-is ∙ w.write_amid.ensures ∙ (λ i. text_between (Some (w.bytes-in-Some-Some.ensures.text i)) (Some (w.bytes-in-Some-Some-2.ensures.text i)))) c.push_over_least.ensures
    ]
