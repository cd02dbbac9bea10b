-- Edits that make a history, one after another.
use Rattle.std.proofs.Common.{◌≡◌, ℕ, List, [], ◌∷◌, ◌++◌, length, take, drop, Ok, Option, None, Some, ap, sym, ◌∙◌, subst, arith, length-append}
use Rattle.std.proofs.lemmas.List.{take-append-le, drop-append-le, take-append-drop}
use Rattle.canvas_record.specs.declared.edits.Change.{Change}
use Rattle.canvas_record.specs.declared.edits.Edit.{Edit}
use Rattle.canvas_record.specs.Contents.{Contents}
use Rattle.canvas_record.specs.Decision.{decision_of}
use Rattle.canvas_record.specs.Effect.{effect_of}
use Rattle.canvas_record.specs.History.{replay_of}
use Rattle.canvas_record.proofs.Histories.{replay-append}
use Rattle.canvas_line.specs.Recording.{Makes, MakesRest, Records, noted}

-- what was taken before and what is taken now make what they end
pub makes_both : (d : Contents) (es : List Edit) (cs : List Change) (fs : List Edit) (ds : List Change) → Makes d es cs → Makes (replay_of d cs) fs ds → Makes d (es ++ fs) (cs ++ ds)
makes_both d [] [] fs ds m n = n
makes_both d [] (c ∷ cs) fs ds m n = absurd m
makes_both d (e ∷ es) [] fs ds m n = absurd m
makes_both d (e ∷ es) (c ∷ cs) fs ds m n = (m.0, makes_both (effect_of c d) es cs fs ds m.1 n)

rest_more : (opening : Contents) (h : List Change) (taken : ℕ) (es : List Edit) (e : Edit) (c : Change)
    → MakesRest opening h taken es → decision_of e (replay_of opening h) ≡ Ok c → MakesRest opening (h ++ c ∷ []) taken (es ++ e ∷ [])
rest_more opening h taken es e c m decided =
    let before = replay_of opening (take taken h) in
    let whole : replay_of before (drop taken h) ≡ replay_of opening h = sym (replay-append opening (take taken h) (drop taken h)) ∙ ap (replay_of opening) (take-append-drop taken h) in
    let last : Makes (replay_of before (drop taken h)) (e ∷ []) (c ∷ []) = (ap (decision_of e) whole ∙ decided, tt) in
    let all : Makes before (es ++ e ∷ []) (drop taken h ++ c ∷ []) = makes_both before es (drop taken h) (e ∷ []) (c ∷ []) m.1 last in (
      omega (arith, m.0, length-append h (c ∷ [])),
      rw (take-append-le taken h (c ∷ []) m.0, drop-append-le taken h (c ∷ []) m.0) all,
    )

-- an edit was accepted, and recorded where the line records
pub records_more : (opening : Contents) (h : List Change) (taken : Option ℕ) (es : List Edit) (e : Edit) (c : Change)
    → Records opening h taken es → decision_of e (replay_of opening h) ≡ Ok c → Records opening (h ++ c ∷ []) taken (es ++ noted taken e)
records_more opening h None es e c r decided = ap (λ l. l ++ []) r
records_more opening h (Some taken) es e c r decided = rest_more opening h taken es e c r decided

-- the same of a history that is published: what stands at the desk after an edit is what stood there before and one edit more
pub recorded : (opening o : Contents) (h k h' : List Change) (t t1 t2 : Option ℕ) (es es1 es2 : List Edit) (e : Edit) (c : Change)
    → Records opening h t es → o ≡ opening → k ≡ h → decision_of e (replay_of o k) ≡ Ok c → h' ≡ k ++ c ∷ [] → t1 ≡ t → es1 ≡ es → t2 ≡ t1 → es2 ≡ es1 ++ noted t1 e
    → Records opening h' t2 es2
recorded opening o h k h' t t1 t2 es es1 es2 e c before opens is decided grown taken1 edits1 taken2 edits2 =
    let here : decision_of e (replay_of opening h) ≡ Ok c = ap (λ (x : List Change). decision_of e (replay_of opening x)) (sym is) ∙ ap (λ (x : Contents). decision_of e (replay_of x k)) (sym opens) ∙ decided in
    let after = records_more opening h t es e c before here in
    let history : h ++ c ∷ [] ≡ h' = ap (λ x. x ++ c ∷ []) (sym is) ∙ sym grown in
    let edits : es ++ noted t e ≡ es2 = ap (λ x. x ++ noted t e) (sym edits1) ∙ ap (λ (x : Option ℕ). es1 ++ noted x e) (sym taken1) ∙ sym edits2 in
    subst (λ (x : List Change). Records opening x t2 es2) history
    (subst (λ (x : Option ℕ). Records opening (h ++ c ∷ []) x es2) (sym taken1 ∙ sym taken2) (subst (λ (x : List Edit). Records opening (h ++ c ∷ []) t x) edits after))
