-- What a crash leaves at each moment of a turn.
use Rattle.std.proofs.Common.{◌≡◌, inl, ℕ, ◌+◌, List, ◌++◌, length, drop, sym, ◌∙◌, ap, subst, arith}
use Rattle.std.specs.List.{AllByRecursion}
use Rattle.canvas_journal.specs.Device.{Holds, Torn, Follows, Only, Elapses, LeavesOnly}
use Rattle.canvas_journal.specs.Lines.{IsLine, text, recovered}
use Rattle.canvas_journal.specs.Journal.{at_rest, IsSettled, IsWithOrWithout}
use Rattle.canvas_journal.specs.declared.journal.Journal.{Journal}
use Rattle.canvas_journal.proofs.Moments.{started, goes_on}
use Rattle.canvas_journal.proofs.Texts.{are_lines}
use Rattle.canvas_journal.proofs.Crash.{Opening, shut, gate_of, torn_gate, written_gate, torn_body, opening_now, written_body, at_rest_stands, length-both, length-opening, length-shut}
use Rattle.std.proofs.Common.{length-append}

module _ {D : Type 0} (seen : D → List ℕ) (may_leave : D → List ℕ → Type 0) (moment : D → ℕ) (left_since : D → ℕ → List ℕ → Type 0) where
  module _ (old : Journal D) (s : IsSettled seen may_leave old) (are_staged : AllByRecursion IsLine old.staged)
      (gate : List ℕ) (gate_is : gate ≡ gate_of old.staged) (n : ℕ) (n_is : n ≡ length (text old.staged)) where
    abbrev done : List (List ℕ)
    done = recovered (seen old.device)

    abbrev P : List ℕ → Type 0
    P = IsWithOrWithout done old.staged

    are_done : AllByRecursion IsLine done
    are_done = are_lines (seen old.device)

    pub long : length (seen old.device) ≡ old.end + n + 1
    long = omega (arith, ap length s.file, length-opening done old.staged old.end s.end 10, n_is)

    -- after the first write
    opening : (one : D) → Follows (Torn old.end (length gate)) (may_leave old.device) (may_leave one) → (c : List ℕ) → may_leave one c → Opening done old.staged c
    opening one crash c now =
        let from = crash c now in
        let torn : Torn old.end (length (gate_of old.staged)) from.0 c = subst (λ (g : List ℕ). Torn old.end (length g) from.0 c) gate_is from.2 in
        torn_gate done old.staged old.end s.end c (subst (λ (d : List ℕ). Torn old.end (length (gate_of old.staged)) d c) (s.durable from.0 from.1 ∙ s.file) torn)

    first_leaves : (one : D) → Follows (Torn old.end (length gate)) (may_leave old.device) (may_leave one) → (c : List ℕ) → may_leave one c → P c
    first_leaves one crash c now = opening_now done old.staged old.end s.end are_done are_staged c (opening one crash c now)

    -- after the second
    second_leaves : (one two : D) (m : ℕ) → Follows (Torn old.end (length gate)) (may_leave old.device) (may_leave one) → Follows (Torn (old.end + n + 1) m) (may_leave one) (may_leave two) → (c : List ℕ) → may_leave two c → P c
    second_leaves one two m crash more c now =
        let from = more c now in
        torn_body done old.staged old.end s.end are_done are_staged from.0 c m (opening one crash from.0 from.1) (subst (λ k. Torn (old.end + k + 1) m from.0 c) n_is from.2)

    module _ (only_now : (c : List ℕ) → left_since old.device (moment old.device) c → may_leave old.device c)
        (one : D) (crash : Follows (Torn old.end (length gate)) (may_leave old.device) (may_leave one))
        (time : Elapses (moment old.device) (moment one) (left_since old.device) (left_since one) (may_leave one)) where
      pub in_first : LeavesOnly moment left_since old.device one P
      in_first =
          let begins : LeavesOnly moment left_since old.device old.device P = started moment left_since old.device P (λ c left. inl (ap recovered (s.durable c (only_now c left)))) in
          goes_on moment left_since old.device old.device one P (may_leave one) begins time (first_leaves one crash)

      module _ (two : D) (m : ℕ) (more : Follows (Torn (old.end + n + 1) m) (may_leave one) (may_leave two))
          (later : Elapses (moment one) (moment two) (left_since one) (left_since two) (may_leave two)) where
        pub in_second : LeavesOnly moment left_since old.device two P
        in_second = goes_on moment left_since old.device one two P (may_leave two) in_first later (second_leaves one two m crash more)

        pub in_sync : (three : D) → ((c : List ℕ) → may_leave three c → may_leave two c) → Elapses (moment two) (moment three) (left_since two) (left_since three) (may_leave three) → LeavesOnly moment left_since old.device three P
        in_sync three kept last = goes_on moment left_since old.device two three P (may_leave three) in_second last (λ c now. second_leaves one two m crash more c (kept c now))

    -- once the first write is done
    opened : (first : List ℕ) → Holds (seen old.device) old.end gate first → first ≡ text done ++ shut old.staged
    opened first holds =
        let holds_gate : Holds (seen old.device) old.end (gate_of old.staged) first = subst (λ (g : List ℕ). Holds (seen old.device) old.end g first) gate_is holds in
        written_gate done old.staged old.end s.end first (subst (λ (f : List ℕ). Holds f old.end (gate_of old.staged) first) s.file holds_gate)

    pub opened_length : (first : List ℕ) → Holds (seen old.device) old.end gate first → length first ≡ old.end + n + 1
    opened_length first holds = omega (arith, ap length (opened first holds), length-append (text done) (shut old.staged), length-shut old.staged, s.end, n_is)

    -- and the second
    pub staged_behind : (batch : List (List ℕ)) (body first second : List ℕ) → body ≡ drop 1 (shut batch) → Holds (seen old.device) old.end gate first → Holds first (old.end + n + 1) body second → second ≡ at_rest (done ++ old.staged) batch
    staged_behind batch body first second body_is holds more =
        let at_text : Holds first (old.end + length (text old.staged) + 1) body second = subst (λ k. Holds first (old.end + k + 1) body second) n_is more in
        let of_batch : Holds first (old.end + length (text old.staged) + 1) (drop 1 (shut batch)) second = subst (λ (b : List ℕ). Holds first (old.end + length (text old.staged) + 1) b second) body_is at_text in
        written_body done old.staged old.end s.end are_done are_staged batch second
        (subst (λ (f : List ℕ). Holds f (old.end + length (text old.staged) + 1) (drop 1 (shut batch)) second) (opened first holds) of_batch)

    pub now_done : (file : List ℕ) (batch : List (List ℕ)) → file ≡ at_rest (done ++ old.staged) batch → recovered file ≡ done ++ old.staged
    now_done file batch is = ap recovered is ∙ at_rest_stands done old.staged old.end s.end are_done are_staged batch

    pub now_settled : (three : D) (batch : List (List ℕ)) → seen three ≡ at_rest (done ++ old.staged) batch → Only (seen three) (may_leave three) → IsSettled seen may_leave (record { device = three; end = old.end + n; staged = batch })
    now_settled three batch is only =
        let all = now_done (seen three) batch is in
        record {
          file = is ∙ ap (λ ls. at_rest ls batch) (sym all);
          end = omega (arith, s.end, n_is, length-both done old.staged, ap (λ ls. length (text ls)) all);
          durable = only;
        }
