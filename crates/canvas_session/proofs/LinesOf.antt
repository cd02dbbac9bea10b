-- The lines of an input, from the lines that were read of it.
use Rattle.std.proofs.Common.{◌≡◌, ◌≢◌, ℕ, zero, suc, ◌<◌, ◌≤◌, ◌==◌, Bool, true, false, cond, List, [], ◌∷◌, ◌++◌, Option, Some, None, length, take, refl, sym, ap, ◌∙◌, arith, append_assoc, append-nil, length-append}
use Rattle.std.specs.List.{flat_map, AllByRecursion, take_while}
use Rattle.std.specs.Io.KnownBytes.{Consumes, IsAtEnd}
use Rattle.std.proofs.lemmas.Bool.Decides.{nat_tests}
use Rattle.std.proofs.lemmas.List.Sums.{take_while-cons}
use Rattle.std.proofs.Math.Seq.{take-append_seam}
use Rattle.canvas_session.specs.Line.{HasNoLf, IsLine, ended, is_short, pieces, lines_of, AreAllLines, AreFirstLines}
use Rattle.canvas_session.specs.Session.{IsTooLong}

no_lf : (b : ℕ) → b ≢ 10 → (b == 10) ≡ false
no_lf b h = grind (arith, nat_tests)

is_short-line : (line : List ℕ) → length line ≤ 65536 → is_short line ≡ true
is_short-line line h = grind (arith, nat_tests)

is_short-long : (piece : List ℕ) → 65536 < length piece → is_short piece ≡ false
is_short-long piece h = grind (arith, nat_tests)

-- a line and its LF are the first piece
first_piece : (front line rest : List ℕ) → HasNoLf line → pieces front (line ++ (10 ∷ rest)) ≡ (front ++ line) ∷ pieces [] rest
first_piece front [] rest h = ap (λ (l : List ℕ). l ∷ pieces [] rest) (sym (append-nil front))
first_piece front (b ∷ line) rest h =
    let here : (b == 10) ≡ false = no_lf b (h 0 (omega arith)) in
    rw here (first_piece (front ++ b ∷ []) line rest (λ k lt e. h (suc k) (omega arith) e) ∙ ap (λ (l : List ℕ). l ∷ pieces [] rest) (append_assoc front (b ∷ []) line))

-- what has no LF is the beginning of a piece
pieces-no_lf : (front rest more : List ℕ) → HasNoLf rest → pieces front (rest ++ more) ≡ pieces (front ++ rest) more
pieces-no_lf front [] more h = ap (λ (l : List ℕ). pieces l more) (sym (append-nil front))
pieces-no_lf front (b ∷ rest) more h =
    let here : (b == 10) ≡ false = no_lf b (h 0 (omega arith)) in
    rw here (pieces-no_lf (front ++ b ∷ []) rest more (λ k lt e. h (suc k) (omega arith) e) ∙ ap (λ (l : List ℕ). pieces l more) (append_assoc front (b ∷ []) rest))

-- lines come before the pieces of what follows
pieces-lines : (lines : List (List ℕ)) (rest : List ℕ) → AllByRecursion IsLine lines → pieces [] (flat_map ended lines ++ rest) ≡ lines ++ pieces [] rest
pieces-lines [] rest h = refl
pieces-lines (line ∷ lines) rest h =
    let whole : (ended line ++ flat_map ended lines) ++ rest ≡ line ++ (10 ∷ (flat_map ended lines ++ rest)) = append_assoc (ended line) (flat_map ended lines) rest ∙ append_assoc line (10 ∷ []) (flat_map ended lines ++ rest) in
    ap (pieces []) whole ∙ first_piece [] line (flat_map ended lines ++ rest) h.0.whole ∙ ap (λ (ls : List (List ℕ)). line ∷ ls) (pieces-lines lines rest h.1)

short-lines : (lines more : List (List ℕ)) → AllByRecursion IsLine lines → take_while is_short (lines ++ more) ≡ lines ++ take_while is_short more
short-lines [] more h = refl
short-lines (line ∷ lines) more h =
    take_while-cons is_short line (lines ++ more)
    ∙ ap (λ (t : Bool). cond t (line ∷ take_while is_short (lines ++ more)) []) (is_short-line line h.0.short)
    ∙ ap (λ (ls : List (List ℕ)). line ∷ ls) (short-lines lines more h.1)

-- a piece that begins too long is none that counts, nor is any after it
short-long : (front rest : List ℕ) → 65536 < length front → take_while is_short (pieces front rest) ≡ []
short-long front [] h = refl
short-long front (b ∷ rest) h =
    let here : take_while is_short (front ∷ pieces [] rest) ≡ [] =
    take_while-cons is_short front (pieces [] rest) ∙ ap (λ (t : Bool). cond t (front ∷ take_while is_short (pieces [] rest)) []) (is_short-long front h) in
    let later : take_while is_short (pieces (front ++ b ∷ []) rest) ≡ [] = short-long (front ++ b ∷ []) rest (omega (arith, length-append front (b ∷ []))) in
    elim (b == 10) as (λ (t : Bool). take_while is_short (cond t (front ∷ pieces [] rest) (pieces (front ++ b ∷ []) rest)) ≡ []) [ true ↦ here | false ↦ later ]

-- the first elements of a list's beginning
first_of : (n : ℕ) (xs ys : List (List ℕ)) → length xs ≤ n → take (length xs) (take n (xs ++ ys)) ≡ xs
first_of n [] ys h = refl
first_of zero (x ∷ xs) ys h = absurd (omega arith)
first_of (suc n) (x ∷ xs) ys h = ap (λ (l : List (List ℕ)). x ∷ l) (first_of n xs ys (omega arith))

all_of : (n : ℕ) (xs : List (List ℕ)) → length xs ≤ n → take n (xs ++ []) ≡ xs
all_of zero [] h = refl
all_of (suc n) [] h = refl
all_of zero (x ∷ xs) h = absurd (omega arith)
all_of (suc n) (x ∷ xs) h = ap (λ (l : List (List ℕ)). x ∷ l) (all_of n xs (omega arith))

most_of : (n : ℕ) (xs ys : List (List ℕ)) → length xs ≡ n → take n (xs ++ ys) ≡ xs
most_of n xs ys h = ap (λ k. take k (xs ++ ys)) (sym h) ∙ take-append_seam xs ys

lines_of-lines : (lines : List (List ℕ)) (rest : List ℕ) → AllByRecursion IsLine lines → lines_of (flat_map ended lines ++ rest) ≡ take 1000000 (lines ++ take_while is_short (pieces [] rest))
unfolding lines_of
lines_of-lines lines rest h =
    ap (λ (ps : List (List ℕ)). take 1000000 (take_while is_short ps)) (pieces-lines lines rest h) ∙ ap (take 1000000) (short-lines lines (pieces [] rest) h)

-- up to 1,000,000 lines, and then what has no LF
pub lines_of-ended : (lines : List (List ℕ)) (rest : List ℕ) → AllByRecursion IsLine lines → length lines ≤ 1000000 → HasNoLf rest → lines_of (flat_map ended lines ++ rest) ≡ lines
lines_of-ended lines rest h few none =
    let no_more : pieces [] rest ≡ [] = ap (pieces []) (sym (append-nil rest)) ∙ pieces-no_lf [] rest [] none in
    lines_of-lines lines rest h ∙ ap (λ (ps : List (List ℕ)). take 1000000 (lines ++ take_while is_short ps)) no_more ∙ all_of 1000000 lines few

-- up to 1,000,000 lines, and then a piece that is too long
lines_of-long : (lines : List (List ℕ)) (pending rest : List ℕ) → AllByRecursion IsLine lines → length lines ≤ 1000000 → IsTooLong pending → lines_of (flat_map ended lines ++ (pending ++ rest)) ≡ lines
lines_of-long lines pending rest h few long =
    let above : 65536 < length pending = omega (arith, long.0) in
    let no_more : take_while is_short (pieces [] (pending ++ rest)) ≡ [] = ap (take_while is_short) (pieces-no_lf [] pending rest long.1) ∙ short-long pending rest above in
    lines_of-lines lines (pending ++ rest) h ∙ ap (λ (ps : List (List ℕ)). take 1000000 (lines ++ ps)) no_more ∙ all_of 1000000 lines few

-- a told input, as the bytes that were taken from it and the rest
input-is : (xs ys : List ℕ) (lines : List (List ℕ)) (pending : List ℕ) → xs ≡ (flat_map ended lines ++ pending) ++ ys → lines_of xs ≡ lines_of (flat_map ended lines ++ (pending ++ ys))
input-is xs ys lines pending e = ap lines_of (e ∙ append_assoc (flat_map ended lines) pending ys)

pub first_lines : (from to : Option (List ℕ)) (lines : List (List ℕ)) (pending : List ℕ) → AllByRecursion IsLine lines → length lines ≤ 1000000 → Consumes from to (flat_map ended lines ++ pending) → AreFirstLines from lines
first_lines None to lines pending each few took = tt
first_lines (Some xs) None lines pending each few took = absurd took
first_lines (Some xs) (Some ys) lines pending each few took =
    sym (ap (take (length lines)) (input-is xs ys lines pending took ∙ lines_of-lines lines (pending ++ ys) each) ∙ first_of 1000000 lines (take_while is_short (pieces [] (pending ++ ys))) few)

pub all_lines-ended : (from to : Option (List ℕ)) (lines : List (List ℕ)) (pending : List ℕ) → AllByRecursion IsLine lines → length lines ≤ 1000000 → HasNoLf pending → IsAtEnd to
    → Consumes from to (flat_map ended lines ++ pending) → AreAllLines from lines
all_lines-ended None to lines pending each few none done took = tt
all_lines-ended (Some xs) None lines pending each few none done took = absurd took
all_lines-ended (Some xs) (Some ys) lines pending each few none done took =
    let rest : pending ++ ys ≡ pending = ap (λ (l : List ℕ). pending ++ l) done ∙ append-nil pending in
    sym (input-is xs ys lines pending took ∙ ap (λ (l : List ℕ). lines_of (flat_map ended lines ++ l)) rest ∙ lines_of-ended lines pending each few none)

pub all_lines-long : (from to : Option (List ℕ)) (lines : List (List ℕ)) (pending : List ℕ) → AllByRecursion IsLine lines → length lines ≤ 1000000 → IsTooLong pending
    → Consumes from to (flat_map ended lines ++ pending) → AreAllLines from lines
all_lines-long None to lines pending each few long took = tt
all_lines-long (Some xs) None lines pending each few long took = absurd took
all_lines-long (Some xs) (Some ys) lines pending each few long took = sym (input-is xs ys lines pending took ∙ lines_of-long lines pending ys each few long)

pub all_lines-most : (from to : Option (List ℕ)) (lines : List (List ℕ)) (pending : List ℕ) → AllByRecursion IsLine lines → length lines ≡ 1000000
    → Consumes from to (flat_map ended lines ++ pending) → AreAllLines from lines
all_lines-most None to lines pending each most took = tt
all_lines-most (Some xs) None lines pending each most took = absurd took
all_lines-most (Some xs) (Some ys) lines pending each most took =
    sym (input-is xs ys lines pending took ∙ lines_of-lines lines (pending ++ ys) each ∙ most_of 1000000 lines (take_while is_short (pieces [] (pending ++ ys))) most)
