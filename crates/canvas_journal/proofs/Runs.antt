-- What a turn or an opening adds to a run.
use Rattle.std.proofs.Common.{◌≡◌, ℕ, List, [], ◌++◌, length, sym, ap, ◌∙◌, arith, append_assoc, append-nil, ⊎_elim}
use mathlib.Core.List.{IsPrefix}
use Rattle.canvas_journal.specs.Device.{Only, LeavesOnly}
use Rattle.canvas_journal.specs.Lines.{recovered, text}
use Rattle.canvas_journal.specs.Journal.{IsSettled, at_rest, done_of, IsWithOrWithout}
use Rattle.canvas_journal.specs.Runs.{handed_of, Lasts, HasKept}
use Rattle.canvas_journal.specs.declared.journal.Journal.{Journal}

same : {A : Type 0} (xs ys : List A) → xs ≡ ys → IsPrefix xs ys
same xs ys e = ([], append-nil xs ∙ e)

longer : {A : Type 0} (xs ys zs : List A) → IsPrefix xs ys → IsPrefix xs (ys ++ zs)
longer xs ys zs p = (p.0 ++ zs, sym (append_assoc xs p.0 zs) ∙ ap (λ l. l ++ zs) p.1)

along : {A : Type 0} (xs ys zs : List A) → zs ≡ ys → IsPrefix xs ys → IsPrefix xs zs
along xs ys zs e p = (p.0, p.1 ∙ sym e)

module _ {D : Type 0} (seen : D → List ℕ) (may_leave : D → List ℕ → Type 0) (moment : D → ℕ) (left_since : D → ℕ → List ℕ → Type 0) where
  -- a turn, whether it succeeds or not
  pub turn_lasts : (old : Journal D) (new : D) (since : ℕ) (known : List (List ℕ)) → HasKept seen moment left_since old since known
      → LeavesOnly moment left_since old.device new (IsWithOrWithout (done_of seen old) old.staged) → Lasts left_since new since known (handed_of seen old)
  turn_lasts old new since known k leaves c left =
      ⊎_elim (λ before. k.lasts c before)
      (λ now. ⊎_elim
      (λ without. (along known (done_of seen old) (recovered c) without k.counts, longer (recovered c) (done_of seen old) old.staged (same (recovered c) (done_of seen old) without)))
      (λ together. (along known (handed_of seen old) (recovered c) together (longer known (done_of seen old) old.staged k.counts), same (recovered c) (handed_of seen old) together))
      now)
      (leaves.before since c k.begun left)

  -- a turn that succeeds
  pub turn_keeps : (old new : Journal D) (since : ℕ) (known : List (List ℕ)) → HasKept seen moment left_since old since known
      → LeavesOnly moment left_since old.device new.device (IsWithOrWithout (done_of seen old) old.staged) → done_of seen new ≡ handed_of seen old
      → HasKept seen moment left_since new since known
  turn_keeps old new since known k leaves done = record {
    begun = omega (arith, k.begun, leaves.later);
    counts = along known (handed_of seen old) (done_of seen new) done (longer known (done_of seen old) old.staged k.counts);
    lasts = λ c left.
        let each = turn_lasts old new.device since known k leaves c left in
        (each.0, longer (recovered c) (done_of seen new) new.staged (along (recovered c) (handed_of seen old) (done_of seen new) done each.1));
  }

  -- what it acknowledges
  pub turn_acknowledges : (old new : Journal D) → ((c : List ℕ) → left_since new.device (moment new.device) c → may_leave new.device c) → IsSettled seen may_leave new → done_of seen new ≡ handed_of seen old
      → HasKept seen moment left_since new (moment new.device) (handed_of seen old)
  turn_acknowledges old new only_now settled done = record {
    begun = omega arith;
    counts = same (handed_of seen old) (done_of seen new) (sym done);
    lasts = λ c left.
        let is : recovered c ≡ done_of seen new = ap recovered (settled.durable c (only_now c left)) in
        (same (handed_of seen old) (recovered c) (sym (is ∙ done)), longer (recovered c) (done_of seen new) new.staged (same (recovered c) (done_of seen new) is));
  }

  -- a journal that was just opened
  pub opened_settled : (old : D) (journal : Journal D) → seen journal.device ≡ at_rest (recovered (seen old)) [] → recovered (seen journal.device) ≡ recovered (seen old)
      → journal.end ≡ length (text (recovered (seen old))) → journal.staged ≡ [] → Only (seen journal.device) (may_leave journal.device) → IsSettled seen may_leave journal
  opened_settled old journal rests is end staged durable = record {
    file = rests ∙ ap (λ ls. at_rest ls []) (sym is) ∙ ap (at_rest (recovered (seen journal.device))) (sym staged);
    end = end ∙ ap (λ ls. length (text ls)) (sym is);
    durable = durable;
  }

  pub opened_keeps : (old : D) (journal : Journal D) (known : List (List ℕ)) → ((c : List ℕ) → left_since journal.device (moment journal.device) c → may_leave journal.device c)
      → recovered (seen journal.device) ≡ recovered (seen old) → Only (seen journal.device) (may_leave journal.device) → IsPrefix known (recovered (seen old))
      → HasKept seen moment left_since journal (moment journal.device) known
  opened_keeps old journal known only_now is durable counts = record {
    begun = omega arith;
    counts = along known (recovered (seen old)) (done_of seen journal) is counts;
    lasts = λ c left.
        let left_is : recovered c ≡ done_of seen journal = ap recovered (durable c (only_now c left)) in
        (along known (recovered (seen old)) (recovered c) (left_is ∙ is) counts, longer (recovered c) (done_of seen journal) journal.staged (same (recovered c) (done_of seen journal) left_is));
  }
