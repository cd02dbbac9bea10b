-- What texts of lines stand for.
use Rattle.std.proofs.Common.{◌≡◌, ◌≢◌, inl, inr, ℕ, zero, suc, ◌+◌, ◌-◌, ◌==◌, Bool, true, false, cond, List, [], ◌∷◌, ◌++◌, length, take, refl, sym, ◌∙◌, ap, subst, arith, append_assoc, append-nil, length-append, Option, Some, None, IfNone, Result, Ok, Err, OnOk, OnErr}
use Rattle.std.specs.List.{AllByRecursion}
use Rattle.std.proofs.lemmas.List.{take_at}
use Rattle.std.proofs.lemmas.List.Concat.{flat_map-append}
use Rattle.std.proofs.lemmas.Bool.{cases_eq}
use Rattle.std.proofs.lemmas.Bool.Decides.{nat_tests}
use Rattle.memchr.specs.Find.{IsFirstByte, is_byte}
use Rattle.canvas_journal.specs.Lines.{IsLine, written, text, lines_from, recovered}

differs : (b n : ℕ) → b ≢ n → (b == n) ≡ false
differs b n h = grind (arith, nat_tests)

equals : (b n : ℕ) → b ≡ n → (b == n) ≡ true
equals b n h = grind (arith, nat_tests)

-- a line and its LF, within a line
ends_line : (front line rest : List ℕ) → IsLine line → lines_from true front (line ++ (10 ∷ rest)) ≡ (front ++ line) ∷ recovered rest
ends_line front [] rest h = ap (λ (l : List ℕ). l ∷ recovered rest) (sym (append-nil front))
ends_line front (b ∷ line) rest h =
    let here : (b == 10) ≡ false = differs b 10 (h 0 (omega arith)) in
    rw here (ends_line (front ++ b ∷ []) line rest (λ k lt e. h (suc k) (omega arith) e) ∙ ap (λ (l : List ℕ). l ∷ recovered rest) (append_assoc front (b ∷ []) line))

-- a line without an end
pub no_end : (front line : List ℕ) → IsLine line → lines_from true front line ≡ []
no_end front [] h = refl
no_end front (b ∷ line) h =
    let here : (b == 10) ≡ false = differs b 10 (h 0 (omega arith)) in
    rw here (no_end (front ++ b ∷ []) line (λ k lt e. h (suc k) (omega arith) e))

line_is : (line rest : List ℕ) → written line ++ rest ≡ 32 ∷ (line ++ (10 ∷ rest))
line_is line rest = ap (λ (l : List ℕ). 32 ∷ l) (append_assoc line (10 ∷ []) rest)

-- lines come before whatever the rest stands for
pub recovered-text : (lines : List (List ℕ)) (rest : List ℕ) → AllByRecursion IsLine lines → recovered (text lines ++ rest) ≡ lines ++ recovered rest
recovered-text [] rest h = refl
recovered-text (line ∷ lines) rest h =
    let whole : text (line ∷ lines) ++ rest ≡ 32 ∷ (line ++ (10 ∷ (text lines ++ rest))) = append_assoc (written line) (text lines) rest ∙ line_is line (text lines ++ rest) in
    ap recovered whole ∙ ends_line [] line (text lines ++ rest) h.0 ∙ ap (λ (ls : List (List ℕ)). line ∷ ls) (recovered-text lines rest h.1)

-- what begins with no blank stands for no line
pub closed : (gate : ℕ) (rest : List ℕ) → gate ≢ 32 → recovered (gate ∷ rest) ≡ []
closed gate rest h = let shut : (gate == 32) ≡ false = differs gate 32 h in rw shut refl

pub recovered_closed : (lines : List (List ℕ)) (gate : ℕ) (rest : List ℕ) → AllByRecursion IsLine lines → gate ≢ 32 → recovered (text lines ++ gate ∷ rest) ≡ lines
recovered_closed lines gate rest h shut = recovered-text lines (gate ∷ rest) h ∙ ap (λ (ls : List (List ℕ)). lines ++ ls) (closed gate rest shut) ∙ append-nil lines

more_line : (front : List ℕ) (b : ℕ) → IsLine front → b ≢ 10 → IsLine (front ++ b ∷ [])
more_line [] b h ne zero lt e = ne e
more_line [] b h ne (suc k) lt e = absurd (omega arith)
more_line (x ∷ front) b h ne zero lt e = h 0 (omega arith) e
more_line (x ∷ front) b h ne (suc k) lt e = more_line front b (λ j below. h (suc j) (omega arith)) ne k (omega arith) e

pub empty_line : IsLine []
empty_line k lt e = absurd (omega arith)

take_line : (n : ℕ) (line : List ℕ) → IsLine line → IsLine (take n line)
take_line zero line h k lt e = absurd (omega arith)
take_line (suc n) [] h k lt e = absurd (omega arith)
take_line (suc n) (b ∷ line) h zero lt e = h 0 (omega arith) e
take_line (suc n) (b ∷ line) h (suc k) lt e = take_line n line (λ j below. h (suc j) (omega arith)) k (omega arith) e

nothing_there : (n : ℕ) → recovered (take n []) ≡ []
nothing_there zero = refl
nothing_there (suc n) = refl

unended : (front : List ℕ) → IsLine front → (n : ℕ) → recovered (take n (32 ∷ (front ++ []))) ≡ []
unended front h zero = refl
unended front h (suc k) = ap (λ (l : List ℕ). lines_from true [] (take k l)) (append-nil front) ∙ no_end [] (take k front) (take_line k front h)

still_closed : (b : ℕ) (bs : List ℕ) → b ≢ 32 → (n : ℕ) → recovered (take n (b ∷ bs)) ≡ []
still_closed b bs other zero = refl
still_closed b bs other (suc k) = closed b (take k bs) other

-- A file is its lines, and an end that stands for nothing, wherever it is cut
pub record Parts (file : List ℕ) (lines : List (List ℕ)) : Type 0 where
  pub end : List ℕ
  pub split : file ≡ text lines ++ end
  pub nothing : (n : ℕ) → recovered (take n end) ≡ []
  pub whole : AllByRecursion IsLine lines

parts_from : (within : Bool) (front bs : List ℕ) → IsLine front → Parts (cond within (32 ∷ (front ++ bs)) bs) (lines_from within front bs)
parts_from false front [] h = record { end = []; split = refl; nothing = nothing_there; whole = tt }
parts_from true front [] h = record {
  end = 32 ∷ (front ++ []);
  split = refl;
  nothing = unended front h;
  whole = tt;
}
parts_from false front (b ∷ bs) h = elim (cases_eq b 32) [
  | inl blank ↦
      let p = parts_from true [] bs empty_line in
      let goes_on : lines_from false front (b ∷ bs) ≡ lines_from true [] bs = rw (equals b 32 blank) refl in
      subst (λ (ls : List (List ℕ)). Parts (b ∷ bs) ls) (sym goes_on) (record { end = p.end; split = ap (λ k. k ∷ bs) blank ∙ p.split; nothing = p.nothing; whole = p.whole })
  | inr other ↦
      let none : lines_from false front (b ∷ bs) ≡ [] = closed b bs other in
      subst (λ (ls : List (List ℕ)). Parts (b ∷ bs) ls) (sym none) (record {
        end = b ∷ bs;
        split = refl;
        nothing = still_closed b bs other;
        whole = tt;
      })
]
parts_from true front (b ∷ bs) h = elim (cases_eq b 10) [
  | inl lf ↦
      let p = parts_from false [] bs empty_line in
      let ends : lines_from true front (b ∷ bs) ≡ front ∷ lines_from false [] bs = rw (equals b 10 lf) refl in
      subst (λ (ls : List (List ℕ)). Parts (32 ∷ (front ++ (b ∷ bs))) ls) (sym ends) (record {
        end = p.end;
        split =
            ap (λ k. 32 ∷ (front ++ (k ∷ bs))) lf
            ∙ ap (λ (l : List ℕ). 32 ∷ (front ++ (10 ∷ l))) p.split
            ∙ sym (line_is front (text (lines_from false [] bs) ++ p.end))
            ∙ sym (append_assoc (written front) (text (lines_from false [] bs)) p.end);
        nothing = p.nothing;
        whole = (h, p.whole);
      })
  | inr other ↦
      let p = parts_from true (front ++ b ∷ []) bs (more_line front b h other) in
      let goes_on : lines_from true front (b ∷ bs) ≡ lines_from true (front ++ b ∷ []) bs = rw (differs b 10 other) refl in
      subst (λ (ls : List (List ℕ)). Parts (32 ∷ (front ++ (b ∷ bs))) ls) (sym goes_on) (record {
        end = p.end;
        split = ap (λ (l : List ℕ). 32 ∷ l) (sym (append_assoc front (b ∷ []) bs)) ∙ p.split;
        nothing = p.nothing;
        whole = p.whole;
      })
]

pub parts : (file : List ℕ) → Parts file (recovered file)
parts file = parts_from false [] file empty_line

-- the lines of a file are lines
pub are_lines : (file : List ℕ) → AllByRecursion IsLine (recovered file)
are_lines file = (parts file).whole

-- a batch with one line more
pub record Pushed (bytes new : List ℕ) (line : List ℕ) : Type 0 where
  pub lines : recovered new ≡ recovered bytes ++ line ∷ []
  pub shape : new ≡ text (recovered new) ++ 10 ∷ []

all_more : (lines : List (List ℕ)) (line : List ℕ) → AllByRecursion IsLine lines → IsLine line → AllByRecursion IsLine (lines ++ line ∷ [])
all_more [] line h one = (one, tt)
all_more (l ∷ lines) line h one = (h.0, all_more lines line h.1 one)

pub pushed : (bytes new line : List ℕ) → bytes ≡ text (recovered bytes) ++ 10 ∷ [] → IsLine line → new ≡ take (length bytes - 1) bytes ++ 32 ∷ line ++ 10 ∷ 10 ∷ [] → Pushed bytes new line
pushed bytes new line shape is_line is =
    let lines = recovered bytes in
    let more = lines ++ line ∷ [] in
    let long : length bytes ≡ length (text lines) + 1 = omega (arith, ap length shape, length-append (text lines) (10 ∷ [])) in
    let front : take (length bytes - 1) bytes ≡ text lines = ap (λ (l : List ℕ). take (length bytes - 1) l) shape ∙ take_at (text lines) (10 ∷ []) (length bytes - 1) (omega arith) in
    let joined : text more ≡ text lines ++ written line = flat_map-append written lines (line ∷ []) ∙ ap (λ (l : List ℕ). text lines ++ l) (append-nil (written line)) in
    let tail : 32 ∷ line ++ 10 ∷ 10 ∷ [] ≡ written line ++ 10 ∷ [] = sym (line_is line (10 ∷ [])) in
    let new_is : new ≡ text more ++ 10 ∷ [] =
    is ∙ ap (λ (l : List ℕ). l ++ 32 ∷ line ++ 10 ∷ 10 ∷ []) front ∙ append_here (text lines) line
    ∙ ap (λ (l : List ℕ). text lines ++ l) tail ∙ sym (append_assoc (text lines) (written line) (10 ∷ [])) ∙ ap (λ (l : List ℕ). l ++ 10 ∷ []) (sym joined) in
    let back : recovered new ≡ more = ap recovered new_is ∙ recovered_closed more 10 [] (all_more lines line (are_lines bytes) is_line) (omega arith) in
    record { lines = back; shape = new_is ∙ ap (λ (ls : List (List ℕ)). text ls ++ 10 ∷ []) (sym back) }
  where
    append_here : (xs line : List ℕ) → xs ++ 32 ∷ line ++ 10 ∷ 10 ∷ [] ≡ xs ++ (32 ∷ (line ++ (10 ∷ 10 ∷ [])))
    append_here xs line = append_assoc xs (32 ∷ line) (10 ∷ 10 ∷ [])

-- where no LF is found, nothing counts
pub none_found : (bytes after : List ℕ) (r : Option ℕ) → IsFirstByte (is_byte 10) after r → IfNone r (recovered (32 ∷ after) ≡ [])
none_found bytes after None h = no_end [] after (λ k lt e. h k (omega arith) lt (rw e refl))
none_found bytes after (Some n) h = tt

-- a batch after a push that may have failed
pub push_shape : {E : Type 0} (bytes new line : List ℕ) (r : Result (Unit {0}) E) → bytes ≡ text (recovered bytes) ++ 10 ∷ [] → IsLine line → OnOk r (new ≡ take (length bytes - 1) bytes ++ 32 ∷ line ++ 10 ∷ 10 ∷ []) → OnErr r (new ≡ bytes)
    → new ≡ text (recovered new) ++ 10 ∷ []
push_shape bytes new line (Ok u) shape is_line added same = (pushed bytes new line shape is_line added).shape
push_shape bytes new line (Err e) shape is_line added same = same ∙ shape ∙ ap (λ (l : List ℕ). text (recovered l) ++ 10 ∷ []) (sym same)

pub push_lines : {E : Type 0} (bytes new line : List ℕ) (r : Result (Unit {0}) E) → bytes ≡ text (recovered bytes) ++ 10 ∷ [] → IsLine line → OnOk r (new ≡ take (length bytes - 1) bytes ++ 32 ∷ line ++ 10 ∷ 10 ∷ [])
    → OnOk r (recovered new ≡ recovered bytes ++ line ∷ [])
push_lines bytes new line (Ok u) shape is_line added = (pushed bytes new line shape is_line added).lines
push_lines bytes new line (Err e) shape is_line added = tt

-- the first line of a file is read, and what is behind it is to come
pub first_read : (file line after : List ℕ) → file ≡ 32 ∷ line ++ 10 ∷ after → IsLine line → recovered file ≡ line ∷ recovered after
first_read file line after is h = ap recovered is ∙ ends_line [] line after h

pub first_size : (file line after : List ℕ) → file ≡ 32 ∷ line ++ 10 ∷ after → length file ≡ length (written line) + length after
first_size file line after is = omega (arith, ap length is, length-append line (10 ∷ after), length-append line (10 ∷ []))

pub text_more : (lines : List (List ℕ)) (line : List ℕ) → length (text (lines ++ line ∷ [])) ≡ length (text lines) + length (written line)
text_more lines line = ap length (flat_map-append written lines (line ∷ [])) ∙ ap (λ (l : List ℕ). length (text lines ++ l)) (append-nil (written line)) ∙ length-append (text lines) (written line)
