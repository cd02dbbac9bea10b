-- Messages and answers, part by part.
use Rattle.std.proofs.Common.{◌≡◌, ℕ, List, [], ◌∷◌, ◌++◌, Option, Some, IfSome, length, subst, ◌∙◌, refl}
use Rattle.std.proofs.KnownBytes.{Consumes-trans}
use Rattle.std.specs.Io.KnownBytes.{Consumes}
use Rattle.canvas_store.specs.Answers.{held_message, held_text}
use Rattle.canvas_store.specs.declared.held.HeldLine.{HeldLine}

with_lengths : (h : HeldLine) (m n : ℕ) → m ≡ h.opening → n ≡ h.journal → held_text h ≡ held_text (record { epoch = h.epoch; generation = h.generation; opening = m; journal = n })
with_lengths h m n opening journal = rw (opening, journal) refl

-- the line of a lease, and then the bytes that it tells of
pub lease_read : (a b c d : Option (List ℕ)) (line opening journal : List ℕ) (found : Option HeldLine) (h : HeldLine)
    → Consumes a b (line ++ 10 ∷ []) → IfSome found (λ k. line ++ 10 ∷ [] ≡ held_text k) → found ≡ Some h
    → Consumes b c opening → Consumes c d journal → length opening ≡ h.opening → length journal ≡ h.journal
    → Consumes a d (held_message h.epoch h.generation opening journal)
lease_read a b c d line opening journal found h first reads some second third opening_len journal_len =
    let is : line ++ 10 ∷ [] ≡ held_text h = subst (λ (o : Option HeldLine). IfSome o (λ k. line ++ 10 ∷ [] ≡ held_text k)) some reads in
    let both = Consumes-trans b c d opening journal second third in
    let head = subst (λ (l : List ℕ). Consumes a b l) (is ∙ with_lengths h (length opening) (length journal) opening_len journal_len) first in
    Consumes-trans a b d _ (opening ++ journal) head both
