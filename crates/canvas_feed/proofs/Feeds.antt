-- The feed of a history that goes on at its end.
use Rattle.std.proofs.Common.{◌≡◌, ℕ, zero, suc, ◌+◌, ◌-◌, ◌≤◌, List, [], ◌∷◌, ◌++◌, length, take, drop, slice_get, refl, sym, subst, ap, ◌∙◌, arith, append_assoc, add-zero, length-append, Option, Some, None}
use Rattle.std.proofs.Math.Seq.{drop-append_seam, take-append_seam}
use Rattle.std.proofs.lemmas.List.{take-take, take-append-drop, length-take-le}
use Rattle.canvas_record.specs.declared.edits.Change.{Change}
use Rattle.canvas_record.specs.Contents.{Contents}
use Rattle.canvas_feed.specs.Feed.{change_told, effect_told, document_after, feed_line, feed_text, feed_ends, IsTold, AreTold, Scribing, Tells, opening_line, whole_feed, place_behind}
use Rattle.std.specs.Io.KnownBytes.{Appends}
use Rattle.canvas_feed.specs.Sending.{AppendsBeginning, between}

pub document_after-append : (d : Contents) (xs ys : List (List ℕ)) → document_after d (xs ++ ys) ≡ document_after (document_after d xs) ys
document_after-append d [] ys = refl
document_after-append d (x ∷ xs) ys = document_after-append (effect_told d (change_told d x)) xs ys

pub feed_text-append : (d : Contents) (n : ℕ) (xs ys : List (List ℕ)) → feed_text d n (xs ++ ys) ≡ feed_text d n xs ++ feed_text (document_after d xs) (n + length xs) ys
feed_text-append d n [] ys = ap (λ k. feed_text d k ys) (sym (add-zero n))
feed_text-append d n (x ∷ xs) ys =
    let e = effect_told d (change_told d x) in
    let line = feed_line d (n + 1) x in
    ap (λ t. line ++ t) (feed_text-append e (n + 1) xs ys)
    ∙ sym (append_assoc line (feed_text e (n + 1) xs) (feed_text (document_after e xs) (n + 1 + length xs) ys))
    ∙ ap (λ k. (line ++ feed_text e (n + 1) xs) ++ feed_text (document_after e xs) k ys) (omega arith)

pub feed_ends-append : (d : Contents) (n at : ℕ) (xs ys : List (List ℕ))
    → feed_ends d n at (xs ++ ys) ≡ feed_ends d n at xs ++ feed_ends (document_after d xs) (n + length xs) (at + length (feed_text d n xs)) ys
feed_ends-append d n at [] ys = ap (λ k. feed_ends d k at ys) (sym (add-zero n)) ∙ ap (λ k. feed_ends d (n + 0) k ys) (sym (add-zero at))
feed_ends-append d n at (x ∷ xs) ys =
    let e = effect_told d (change_told d x) in
    let line = feed_line d (n + 1) x in
    let end = at + length line in
    let total : end + length (feed_text e (n + 1) xs) ≡ at + length (line ++ feed_text e (n + 1) xs) = omega (arith, length-append line (feed_text e (n + 1) xs)) in
    ap (λ t. end ∷ t) (feed_ends-append e (n + 1) end xs ys
    ∙ ap (λ k. feed_ends e (n + 1) end xs ++ feed_ends (document_after e xs) k (end + length (feed_text e (n + 1) xs)) ys) (omega arith)
    ∙ ap (λ k. feed_ends e (n + 1) end xs ++ feed_ends (document_after e xs) (n + length (x ∷ xs)) k ys) total)

told_then : (o : Option Change) (P Q : Type 0) → (P → Q) → IsTold o P → IsTold o Q
told_then None P Q f h = h
told_then (Some c) P Q f h = f h

told_of : (o : Option Change) (P : Type 0) → IsTold o P → P
told_of None P h = absurd h
told_of (Some c) P h = h

pub AreTold-append : (d : Contents) (xs ys : List (List ℕ)) → AreTold d xs → AreTold (document_after d xs) ys → AreTold d (xs ++ ys)
AreTold-append d [] ys p q = q
AreTold-append d (x ∷ xs) ys p q =
    let e = effect_told d (change_told d x) in
    told_then (change_told d x) (AreTold e xs) (AreTold e (xs ++ ys)) (λ (t : AreTold e xs). AreTold-append e xs ys t q) p

-- a scribe tells lines, and then some more
pub Tells-append : (a b c : Scribing) (xs ys : List (List ℕ)) → Tells xs a b → Tells ys b c → Tells (xs ++ ys) a c
Tells-append a b c xs ys p q =
    let d = a.document in
    let n = a.version in
    let after = document_after d xs in
    let text : feed_text b.document b.version ys ≡ feed_text after (n + length xs) ys = ap (λ k. feed_text k b.version ys) p.document ∙ ap (λ k. feed_text after k ys) p.version in
    let joined : feed_text d n xs ++ feed_text b.document b.version ys ≡ feed_text d n (xs ++ ys) = ap (λ t. feed_text d n xs ++ t) text ∙ sym (feed_text-append d n xs ys) in
    let size : length (feed_text d n xs) + length (feed_text b.document b.version ys) ≡ length (feed_text d n (xs ++ ys)) = sym (length-append (feed_text d n xs) (feed_text b.document b.version ys)) ∙ ap length joined in
    let ends : feed_ends b.document b.version b.end ys ≡ feed_ends after (n + length xs) (a.end + length (feed_text d n xs)) ys =
    ap (λ k. feed_ends k b.version b.end ys) p.document ∙ ap (λ k. feed_ends after k b.end ys) p.version ∙ ap (λ k. feed_ends after (n + length xs) k ys) p.end in
    record {
      told = AreTold-append d xs ys p.told (subst (λ k. AreTold k ys) p.document q.told);
      document = q.document ∙ ap (λ k. document_after k ys) p.document ∙ sym (document_after-append d xs ys);
      version = q.version ∙ ap (λ k. k + length ys) p.version ∙ omega (arith, length-append xs ys);
      end = q.end ∙ ap (λ k. k + length (feed_text b.document b.version ys)) p.end ∙ omega (arith, size);
      text = q.text ∙ ap (λ t. t ++ feed_text b.document b.version ys) p.text ∙ append_assoc a.text (feed_text d n xs) (feed_text b.document b.version ys) ∙ ap (λ t. a.text ++ t) joined;
      ends =
          q.ends ∙ ap (λ t. t ++ feed_ends b.document b.version b.end ys) p.ends ∙ append_assoc a.ends (feed_ends d n a.end xs) (feed_ends b.document b.version b.end ys)
          ∙ ap (λ t. a.ends ++ (feed_ends d n a.end xs ++ t)) ends ∙ ap (λ t. a.ends ++ t) (sym (feed_ends-append d n a.end xs ys));
    }

-- each line has its end
pub length-ends : (d : Contents) (n at : ℕ) (lines : List (List ℕ)) → length (feed_ends d n at lines) ≡ length lines
length-ends d n at [] = refl
length-ends d n at (line ∷ lines) = ap suc (length-ends (effect_told d (change_told d line)) (n + 1) (at + length (feed_line d (n + 1) line)) lines)

-- where the text of the first lines ends
pub ends_at : (d : Contents) (n at k : ℕ) (lines : List (List ℕ)) → k ≤ length lines → slice_get (at ∷ feed_ends d n at lines) k ≡ Some (at + length (feed_text d n (take k lines)))
ends_at d n at zero lines within = ap Some (sym (add-zero at))
ends_at d n at (suc k) [] within = absurd (omega arith)
ends_at d n at (suc k) (line ∷ lines) within =
    let e = effect_told d (change_told d line) in
    let text = feed_line d (n + 1) line in
    let rest = feed_text e (n + 1) (take k lines) in
    ends_at e (n + 1) (at + length text) k lines (omega arith)
    ∙ ap Some (omega (arith, length-append text rest))

-- the bytes of a text between two places
between_is : (front mid rest : List ℕ) (from to : ℕ) → from ≡ length front → to ≡ length (front ++ mid) → between from to ((front ++ mid) ++ rest) ≡ mid
between_is front mid rest from to begins ends =
    let size : to - from ≡ length mid = omega (arith, begins, ends, length-append front mid) in
    ap (λ t. take (to - from) (drop from t)) (append_assoc front mid rest)
    ∙ ap (λ k. take (to - from) (drop k (front ++ (mid ++ rest)))) begins
    ∙ ap (take (to - from)) (drop-append_seam front (mid ++ rest))
    ∙ ap (λ k. take k (mid ++ rest)) size
    ∙ take-append_seam mid rest

-- a feed between the places behind two versions
pub lines_between : (generation : ℕ) (d : Contents) (lines : List (List ℕ)) (n m from to : ℕ) → n ≤ m → m ≤ length lines → from ≡ place_behind generation d lines n → to ≡ place_behind generation d lines m
    → between from to (whole_feed generation d lines) ≡ feed_text (document_after d (take n lines)) n (drop n (take m lines))
unfolding whole_feed place_behind
lines_between generation d lines n m from to less within begins ends =
    let head = opening_line generation d in
    let first = take n lines in
    let mid = drop n (take m lines) in
    let count : length first ≡ n = length-take-le n lines (omega arith) in
    let some : take m lines ≡ first ++ mid = sym (take-append-drop n (take m lines)) ∙ ap (λ ls. ls ++ mid) (take-take n m lines less) in
    let told : feed_text d 0 (take m lines) ≡ feed_text d 0 first ++ feed_text (document_after d first) n mid =
    ap (feed_text d 0) some ∙ feed_text-append d 0 first mid ∙ ap (λ k. feed_text d 0 first ++ feed_text (document_after d first) k mid) (omega (arith, count)) in
    let front : head ++ feed_text d 0 (take m lines) ≡ (head ++ feed_text d 0 first) ++ feed_text (document_after d first) n mid =
    ap (λ t. head ++ t) told ∙ sym (append_assoc head (feed_text d 0 first) (feed_text (document_after d first) n mid)) in
    let rest = feed_text (document_after d (take m lines)) (0 + length (take m lines)) (drop m lines) in
    let all : head ++ feed_text d 0 lines ≡ ((head ++ feed_text d 0 first) ++ feed_text (document_after d first) n mid) ++ rest =
    ap (λ ls. head ++ feed_text d 0 ls) (sym (take-append-drop m lines)) ∙ ap (λ t. head ++ t) (feed_text-append d 0 (take m lines) (drop m lines))
    ∙ sym (append_assoc head (feed_text d 0 (take m lines)) rest) ∙ ap (λ t. t ++ rest) front in
    ap (between from to) all ∙ between_is (head ++ feed_text d 0 first) (feed_text (document_after d first) n mid) rest from to begins (ends ∙ ap length front)

-- of a feed all was sent that lies between the places behind two versions: the lines between these
pub lines_sent : (a b : Option (List ℕ)) (generation : ℕ) (d : Contents) (lines : List (List ℕ)) (n m from at to : ℕ) → at ≤ to → to ≤ at → n ≤ m → m ≤ length lines → from ≡ place_behind generation d lines n → to ≡ place_behind generation d lines m
    → Appends a b (take (at - from) (drop from (whole_feed generation d lines))) → Appends a b (feed_text (document_after d (take n lines)) n (drop n (take m lines)))
lines_sent a b generation d lines n m from at to low high less within begins ends sent =
    let same : at ≡ to = omega (arith, low, high) in
    subst (λ t. Appends a b t) (ap (λ k. take (k - from) (drop from (whole_feed generation d lines))) same ∙ lines_between generation d lines n m from to less within begins ends) sent

-- the same of a beginning
pub lines_begun : (a b : Option (List ℕ)) (generation : ℕ) (d : Contents) (lines : List (List ℕ)) (n m from to : ℕ) → n ≤ m → m ≤ length lines → from ≡ place_behind generation d lines n → to ≡ place_behind generation d lines m
    → AppendsBeginning a b (between from to (whole_feed generation d lines)) → AppendsBeginning a b (feed_text (document_after d (take n lines)) n (drop n (take m lines)))
lines_begun a b generation d lines n m from to less within begins ends sent =
    subst (AppendsBeginning a b) (lines_between generation d lines n m from to less within begins ends) sent
