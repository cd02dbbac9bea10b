-- What a crash leaves while the lines of a file are written into a new one.
use Rattle.std.proofs.Common.{◌≡◌, ◌⊎◌, inl, inr, ⊎_elim, ℕ, List, [], ◌∷◌, ◌++◌, length, take, ◌∙◌, ap, sym, arith}
use Rattle.std.proofs.lemmas.List.{take_at}
use Rattle.canvas_journal.specs.Device.{Elapses, LeavesOnly}
use Rattle.canvas_journal.specs.Lines.{text, recovered}
use Rattle.canvas_journal.specs.Journal.{at_rest, IsKeptOr}
use Rattle.canvas_journal.proofs.Moments.{started, goes_on}
use Rattle.canvas_journal.proofs.Texts.{parts, are_lines, recovered_closed}

module _ (file : List ℕ) (end : ℕ) (ends : end ≡ length (text (recovered file))) where
  abbrev lines : List (List ℕ)
  lines = recovered file

  -- the lines stand at the begin of the file
  front : take end file ≡ text lines
  front = let p = parts file in ap (λ (l : List ℕ). take end l) p.split ∙ take_at (text lines) p.end end (sym ends)

  pub rests : recovered (at_rest lines []) ≡ lines
  rests = recovered_closed lines 10 [] (are_lines file) (omega arith)

  -- what is written
  pub written_is : (cut bytes : List ℕ) → cut ≡ take end file → bytes ≡ cut ++ 10 ∷ [] → bytes ≡ at_rest lines []
  written_is cut bytes is pushed = pushed ∙ ap (λ (l : List ℕ). l ++ 10 ∷ []) (is ∙ front)

  pub same_front : (cut bytes : List ℕ) → cut ≡ take end file → bytes ≡ cut ++ 10 ∷ [] → take end bytes ≡ take end file
  same_front cut bytes is pushed =
      ap (λ (l : List ℕ). take end l) (written_is cut bytes is pushed) ∙ take_at (text lines) (10 ∷ []) end (sym ends) ∙ sym front

  pub written_rests : (cut bytes : List ℕ) → cut ≡ take end file → bytes ≡ cut ++ 10 ∷ [] → recovered bytes ≡ lines
  written_rests cut bytes is pushed = ap recovered (written_is cut bytes is pushed) ∙ rests

module _ {D : Type 0} (seen : D → List ℕ) (may_leave : D → List ℕ → Type 0) (moment : D → ℕ) (left_since : D → ℕ → List ℕ → Type 0) where
  -- the file after one call leads to that after the next
  abbrev Passes : D → D → Type 0
  Passes one two = Elapses (moment one) (moment two) (left_since one) (left_since two) (may_leave two)

  module _ (old : D) (only_now : (c : List ℕ) → left_since old (moment old) c → may_leave old c)
      (one : D) (read : (c : List ℕ) → may_leave one c → may_leave old c) (time : Passes old one) where
    abbrev P : List ℕ → Type 0
    P = IsKeptOr (may_leave old) (recovered (seen old))

    pub in_read : LeavesOnly moment left_since old one P
    in_read = goes_on moment left_since old old one P (may_leave one) (started moment left_since old P (λ c left. inl (only_now c left))) time (λ c now. inl (read c now))

    pub in_rewrite : (two : D) (bytes : List ℕ) → recovered bytes ≡ recovered (seen old) → ((c : List ℕ) → may_leave two c → may_leave one c ⊎ (c ≡ bytes)) → Passes one two → LeavesOnly moment left_since old two P
    in_rewrite two bytes same crash last =
        goes_on moment left_since old one two P (may_leave two) in_read last
        (λ c now. ⊎_elim (λ before. inl (read c before)) (λ here. inr (ap recovered here ∙ same)) (crash c now))
