-- What a beginning of the input tells of the whole input.
use Rattle.std.proofs.Common.{◌≡◌, ℕ, ◌+◌, ◌<◌, ◌≤◌, List, [], ◌∷◌, ◌++◌, Bool, true, false, ◌&&◌, ◌||◌, nat_eq, nat_le, length, take, drop, refl, Option, None, Some, sym, ap, ◌∙◌, arith, append_assoc, length-append, length-take-le, length-drop}
use Rattle.std.proofs.KnownBytes.{Consumes-trans}
use Rattle.std.proofs.lemmas.Bool.Decides.{Decides-eqb, nat_tests}
use Rattle.std.proofs.lemmas.List.{take-append-drop, take-append-le}
use Rattle.std.proofs.lemmas.List.Folds.{prefix_len-append}
use Rattle.std.proofs.lemmas.Slice.Eq.{starts_is}
use Rattle.std.proofs.Math.Seq.{take-append-add, take-length}
use Rattle.std.specs.Cmp.Lexicographic.{pointwise}
use Rattle.std.specs.List.{starts_with}
use Rattle.std.specs.Io.KnownBytes.{Consumes}
use Rattle.canvas_doors.specs.Beginning.{Brings, TellsOf}
use Rattle.canvas_doors.specs.declared.first_line.Beginning.TheVariants.{Session}
use Rattle.canvas_doors.specs.Foreign.{begins_with_control, begins_with_method, begins_with_one, first_line, has_line, is_foreign, is_http, is_inside, line_len, methods}

-- bytes without an LF, and others behind them
pub line_len-unended : (xs ys : List ℕ) → line_len xs ≡ length xs → line_len (xs ++ ys) ≡ length xs + line_len ys
line_len-unended xs ys unended = grind (arith, nat_tests, prefix_len-append is_inside xs ys, unended)

-- bytes with an LF, and others behind them
pub line_len-whole : (xs ys : List ℕ) → line_len xs < length xs → line_len (xs ++ ys) ≡ line_len xs
line_len-whole xs ys whole = grind (arith, nat_tests, prefix_len-append is_inside xs ys, whole)

-- neither the bytes that were seen nor those behind them have an LF
pub line_len-more : (xs : List ℕ) (seen : ℕ) → seen ≤ length xs → line_len (take seen xs) ≡ seen → line_len (drop seen xs) ≡ length (drop seen xs) → line_len xs ≡ length xs
line_len-more xs seen within front more =
    let len : length (take seen xs) ≡ seen = length-take-le seen xs within in
    let all : line_len (take seen xs ++ drop seen xs) ≡ length (take seen xs) + line_len (drop seen xs) = line_len-unended (take seen xs) (drop seen xs) (front ∙ sym len) in
    let joined : line_len xs ≡ length (take seen xs) + line_len (drop seen xs) = sym (ap line_len (take-append-drop seen xs)) ∙ all in
    omega (arith, joined, more, len, length-drop seen xs, within)

-- a test that holds of more bytes too, or another one
or_on : (a b c d : Bool) → (a ≡ true → c ≡ true) → (b ≡ true → d ≡ true) → a || b ≡ true → c || d ≡ true
or_on true b c d left right h = rw (left refl) refl
or_on false true true d left right h = refl
or_on false true false d left right h = right refl
or_on false false c d left right h = grind (arith, h)

neither : (a b c : Bool) → a || b || c ≡ false → (a ≡ false) × (b ≡ false)
neither true b c h = grind (arith, h)
neither false true c h = grind (arith, h)
neither false false c h = (refl, refl)

and_false : (a : Bool) → (false || false || (a && (false && true))) ≡ false
and_false true = refl
and_false false = refl

-- more bytes begin as those did
pub starts_on : (xs ys needle : List ℕ) → starts_with nat_eq xs needle ≡ true → starts_with nat_eq (xs ++ ys) needle ≡ true
starts_on xs ys needle h =
    let is : xs ≡ needle ++ drop (length needle) xs = (starts_is Decides-eqb xs needle (starts_with nat_eq xs needle) refl).0 h in
    (starts_is Decides-eqb (xs ++ ys) needle (starts_with nat_eq (xs ++ ys) needle) refl).1 (drop (length needle) xs ++ ys) (ap (λ l. l ++ ys) is ∙ append_assoc needle (drop (length needle) xs) ys)

pub words_on : (words : List (List ℕ)) (xs ys : List ℕ) → begins_with_one words xs ≡ true → begins_with_one words (xs ++ ys) ≡ true
words_on [] xs ys h = h
words_on (word ∷ words) xs ys h = or_on _ _ _ _ (starts_on xs ys (word ++ 32 ∷ [])) (words_on words xs ys) h

-- bytes that are longer than a word begin with it, or not, whatever follows them
pub starts_same : (xs ys needle : List ℕ) → length needle ≤ length xs → starts_with nat_eq (xs ++ ys) needle ≡ starts_with nat_eq xs needle
starts_same xs ys needle within = ap (pointwise nat_eq needle) (take-append-le (length needle) xs ys within)

abbrev AreShort : List (List ℕ) → Type 0
AreShort [] = Unit {0}
AreShort (word ∷ words) = (length word ≤ 7) × AreShort words

pub words_same : (words : List (List ℕ)) (xs ys : List ℕ) → AreShort words → 8 ≤ length xs → begins_with_one words (xs ++ ys) ≡ begins_with_one words xs
words_same [] xs ys short long = refl
words_same (word ∷ words) xs ys short long =
    let within : length (word ++ 32 ∷ []) ≤ length xs = omega (arith, length-append word (32 ∷ []), short.0, long) in
    rw (starts_same xs ys (word ++ 32 ∷ []) within, words_same words xs ys short.1 long) refl

pub method_same : (xs ys : List ℕ) → 8 ≤ length xs → begins_with_method (xs ++ ys) ≡ begins_with_method xs
method_same xs ys long = words_same methods xs ys (omega arith, (omega arith, (omega arith, (omega arith, (omega arith, (omega arith, (omega arith, (omega arith, (omega arith, (omega arith, tt)))))))))) long

pub control_same : (xs ys : List ℕ) → 1 ≤ length xs → begins_with_control (xs ++ ys) ≡ begins_with_control xs
control_same [] ys some = grind (arith, some)
control_same (x ∷ xs) ys some = refl

pub control_on : (xs ys : List ℕ) → begins_with_control xs ≡ true → begins_with_control (xs ++ ys) ≡ true
control_on [] ys h = grind (arith, h)
control_on (x ∷ xs) ys h = h

-- the first line of bytes without an LF goes on in those behind them
pub line_on : (xs ys : List ℕ) → line_len xs ≡ length xs → first_line (xs ++ ys) ≡ xs ++ first_line ys
line_on xs ys unended = ap (λ n. take n (xs ++ ys)) (line_len-unended xs ys unended) ∙ take-append-add xs ys (line_len ys)

-- what a whole line tells
pub told_whole : (xs ys : List ℕ) → line_len xs < length xs → is_foreign (xs ++ ys) ≡ is_foreign xs
told_whole xs ys whole =
    let same : line_len (xs ++ ys) ≡ line_len xs = line_len-whole xs ys whole in
    let line : first_line (xs ++ ys) ≡ first_line xs = ap (λ n. take n (xs ++ ys)) same ∙ take-append-le (line_len xs) xs ys (omega (arith, whole)) in
    let there : has_line (xs ++ ys) ≡ has_line xs = grind (arith, nat_tests, same, whole, length-append xs ys) in
    let control : begins_with_control (xs ++ ys) ≡ begins_with_control xs = control_same xs ys (omega (arith, whole)) in
    rw (control, line, there) refl

-- what the first bytes tell by themselves
pub told_early : (xs ys : List ℕ) → line_len xs ≡ length xs → begins_with_control xs || begins_with_method xs ≡ true → is_foreign (xs ++ ys) ≡ true
told_early xs ys unended h =
    let begun : begins_with_control (xs ++ ys) || begins_with_method (first_line (xs ++ ys)) ≡ true =
    or_on _ _ _ _ (control_on xs ys) (λ m. ap begins_with_method (line_on xs ys unended) ∙ words_on methods xs (first_line ys) m) h in
    rw begun refl

-- what bytes without an LF tell that tell nothing yet
pub untold : (xs : List ℕ) → line_len xs ≡ length xs → begins_with_control xs || begins_with_method xs ≡ false → is_foreign xs ≡ false
untold xs unended none =
    let line : first_line xs ≡ xs = ap (λ n. take n xs) unended ∙ take-length xs in
    let there : has_line xs ≡ false = grind (arith, nat_tests, unended) in
    rw (line, none, there) refl

-- what a line that is too long tells
pub told_long : (xs ys : List ℕ) → line_len xs ≡ length xs → 65537 ≤ length xs → is_foreign xs ≡ false → is_foreign (xs ++ ys) ≡ false
told_long xs ys unended long told =
    let line : first_line (xs ++ ys) ≡ xs ++ first_line ys = line_on xs ys unended in
    let short : nat_le (length (xs ++ first_line ys)) 65536 ≡ false = grind (arith, nat_tests, length-append xs (first_line ys), long) in
    let control : begins_with_control (xs ++ ys) ≡ begins_with_control xs = control_same xs ys (omega (arith, long)) in
    let method : begins_with_method (xs ++ first_line ys) ≡ begins_with_method xs = method_same xs (first_line ys) (omega (arith, long)) in
    let all : first_line xs ≡ xs = ap (λ n. take n xs) unended ∙ take-length xs in
    let parts = neither (begins_with_control xs) (begins_with_method xs) (has_line xs && is_http xs) (ap (λ l. begins_with_control xs || begins_with_method l || (has_line xs && is_http l)) (sym all) ∙ told) in
    rw (control, line, method, parts.0, parts.1, short) (and_false (has_line (xs ++ ys)))

-- the bytes behind those that were seen have an LF
pub line_len-behind : (xs more : List ℕ) (seen n : ℕ) → seen ≤ length xs → line_len (take seen xs) ≡ seen → more ≡ drop seen xs → n ≡ line_len more → n < length more → line_len xs < length xs
line_len-behind xs more seen n within front is counts whole =
    let len : length (take seen xs) ≡ seen = length-take-le seen xs within in
    let all : line_len (take seen xs ++ drop seen xs) ≡ length (take seen xs) + line_len (drop seen xs) = line_len-unended (take seen xs) (drop seen xs) (front ∙ sym len) in
    let joined : line_len xs ≡ length (take seen xs) + line_len (drop seen xs) = sym (ap line_len (take-append-drop seen xs)) ∙ all in
    let parts : n ≡ line_len (drop seen xs) = counts ∙ ap line_len is in
    omega (arith, joined, parts, len, whole, ap length is, length-drop seen xs, within)

-- nor have these one
pub line_len-none : (xs more : List ℕ) (seen n : ℕ) → seen ≤ length xs → line_len (take seen xs) ≡ seen → more ≡ drop seen xs → n ≡ line_len more → n ≤ length more → length more ≤ n → line_len xs ≡ length xs
line_len-none xs more seen n within front is counts most none =
    line_len-more xs seen within front (ap line_len (sym is) ∙ sym counts ∙ omega (arith, most, none) ∙ ap length is)

-- more was read behind what was read before
pub brought : (a b c : Option (List ℕ)) (old new : List ℕ) (count : Option ℕ) (n : ℕ) → count ≡ Some n → Consumes a b old → Brings count b c old new → Consumes a c new
brought a b c old new count n is first brings =
    let more : Brings (Some n) b c old new = rw is at brings in
    rw (more.2) (Consumes-trans a b c old more.0 first more.1)

-- what a line that is too long tells of what a reader brings
pub long_told : (xs : List ℕ) (rest : Option (List ℕ)) → line_len xs ≡ length xs → 65536 < length xs → is_foreign xs ≡ false → TellsOf Session xs rest
long_told xs None unended long told = tt
long_told xs (Some ys) unended long told = told_long xs ys unended long told
