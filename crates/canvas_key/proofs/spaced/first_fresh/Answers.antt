use Rattle.std.proofs.Common.{◌≡◌, ◌∷◌, ◌++◌, [], refl, sym, subst, ap, ◌∙◌, arith, take, replicate}
use Rattle.std.proofs.lemmas.List.{replicate_more}
use Rattle.canvas_key.specs.Rank.{part_above, part_of_rank, fresh_key}
use Rattle.canvas_key.specs.Text.{IsKey}
use Rattle.canvas_key.proofs.spaced.first_fresh.Goals as goal

first : 97 ∷ 48 ∷ [] ≡ fresh_key 0
unfolding fresh_key part_of_rank part_above
first = refl

short : (c : goal.After-truncate) → c.truncate.new.self.items ≡ 97 ∷ 48 ∷ []
short c =
    let all : c.loop.counter ≡ 7 = omega arith in
    c.truncate.ensures.items ∙ ap (take 2) (c.loop.invariant ∙ ap (λ count. 97 ∷ replicate count 48) all)

pub returns-clause-value : goal.returns-clause-value
returns-clause-value c = short c ∙ first

pub returns-clause-key : goal.returns-clause-key
returns-clause-key c = subst IsKey (sym (short c)) refl

pub invariant_of-result : goal.invariant_of-result
invariant_of-result c = subst IsKey (sym (short c)) refl

pub loop-preserved : goal.loop-preserved
loop-preserved c =
    c.push-in-loop.ensures.items ∙ ap (λ l. l ++ 48 ∷ []) c.loop.invariant ∙ ap (λ l. 97 ∷ l) (replicate_more c.loop.counter 48)
