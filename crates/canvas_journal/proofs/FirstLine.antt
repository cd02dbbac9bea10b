-- The steps of reading a file.
use Rattle.std.proofs.Common.{◌≡◌, ℕ, ◌+◌, ◌-◌, ◌≤◌, List, [], ◌∷◌, ◌++◌, length, take, drop, get_or, sym, ◌∙◌, ap, arith, append_assoc, Option, Some, None, IfNone}
use Rattle.std.proofs.lemmas.List.{take_all}
use Rattle.canvas_journal.specs.Lines.{IsLine, text, recovered}
use Rattle.canvas_journal.proofs.Texts.{first_read, first_size, text_more}

pub first_is : (bytes : List ℕ) → 1 ≤ length bytes → get_or bytes 0 0 ≡ 32 → bytes ≡ 32 ∷ take (length bytes - 1) (drop 1 bytes)
first_is [] some is = absurd (omega arith)
first_is (b ∷ bytes) some is = ap (λ k. k ∷ bytes) is ∙ ap (λ (l : List ℕ). 32 ∷ l) (sym (take_all (length (b ∷ bytes) - 1) bytes (omega arith)))

pub if_none : {A : Type 0} (r : Option A) (X : Type 0) → X → IfNone r X
if_none None X x = x
if_none (Some a) X x = tt

-- a line is read: what was read, and what is to come
pub goes_on_reading : (read after : List (List ℕ)) (line rest more all : List ℕ) → read ++ recovered rest ≡ recovered all → rest ≡ 32 ∷ line ++ 10 ∷ more → IsLine line → after ≡ read ++ line ∷ [] → after ++ recovered more ≡ recovered all
goes_on_reading read after line rest more all so_far is is_line next =
    ap (λ (ls : List (List ℕ)). ls ++ recovered more) next ∙ append_assoc read (line ∷ []) (recovered more) ∙ ap (λ (ls : List (List ℕ)). read ++ ls) (sym (first_read rest line more is is_line)) ∙ so_far

pub size_goes_on : (read after : List (List ℕ)) (line rest more all : List ℕ) → length (text read) + length rest ≡ length all → rest ≡ 32 ∷ line ++ 10 ∷ more → after ≡ read ++ line ∷ [] → length (text after) + length more ≡ length all
size_goes_on read after line rest more all so_far is next =
    omega (arith, so_far, ap (λ ls. length (text ls)) next, text_more read line, first_size rest line more is)
