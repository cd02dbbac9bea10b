-- How a session ends.
use Rattle.std.proofs.Common.{◌≡◌, ℕ, ◌+◌, ◌<◌, ◌≤◌, ◌⊎◌, inl, inr, List, [], Option, length, take, refl, sym, ◌∙◌, arith, subst, add-zero}
use Rattle.std.specs.Io.KnownBytes.{Appends, IsAtEnd}
use Rattle.std.proofs.KnownBytes.{Appends-nil}
use Rattle.canvas_look.specs.Seen.{Seen}
use Rattle.canvas_session.specs.declared.fault.Cause.{Cause}
use Rattle.canvas_session.specs.declared.fault.Cause.TheVariants.{LineTooLong, WriteFault, TooManyRequests}
use Rattle.canvas_session.specs.declared.fault.SessionFault.{SessionFault}
use Rattle.canvas_session.specs.Line.{HasNoLf}
use Rattle.canvas_session.specs.Session.{IsSession, IsServed, IsCut, IsUnread, IsBroken, IsClosed, IsTooLong, HasLine, IsStopped, Closes, closing_line, MayClose}
use Rattle.canvas_session.proofs.Exchanges.{ends, session_closed, session_closing}
use Rattle.canvas_session.proofs.LinesOf.{all_lines-ended, all_lines-long, all_lines-most, first_lines}

pub served : (workers : ℕ) (from to out o : Option (List ℕ)) (s t : Seen) (pending : List ℕ) (n w : ℕ) → IsSession workers (ends from to out o s t) pending n w → pending ≡ [] → IsAtEnd to
    → IsServed workers (ends from to out o s t) n w
served workers from to out o s t pending n w h empty done =
    let h' : IsSession workers (ends from to out o s t) [] n w = subst (λ (p : List ℕ). IsSession workers (ends from to out o s t) p n w) empty h in
    record { session = h'; at_end = done; lines = all_lines-ended from to h'.talk.lines [] h'.talk.each h'.talk.few (λ k lt e. absurd (omega arith)) done h'.talk.took }

pub cut : (workers : ℕ) (from to out o : Option (List ℕ)) (s t : Seen) (pending : List ℕ) (n w : ℕ) → IsSession workers (ends from to out o s t) pending n w → 0 < length pending → length pending ≤ 65536 → HasNoLf pending → IsAtEnd to
    → IsCut workers (ends from to out o s t) n w
cut workers from to out o s t pending n w h some short none done =
    record { rest = pending; session = h; inside = some; short = short; whole = none; at_end = done; lines = all_lines-ended from to h.talk.lines pending h.talk.each h.talk.few none done h.talk.took }

pub unread : (workers : ℕ) (from to out o : Option (List ℕ)) (s t : Seen) (pending : List ℕ) (n w : ℕ) → IsSession workers (ends from to out o s t) pending n w → HasNoLf pending → length pending ≤ 65536 → IsUnread workers (ends from to out o s t) n w
unread workers from to out o s t pending n w h none short =
    record { rest = pending; session = h; short = short; whole = none; lines = first_lines from to h.talk.lines pending h.talk.each h.talk.few h.talk.took }

-- the writer cannot pass on what it holds
pub unflushed : (workers : ℕ) (from to out o : Option (List ℕ)) (s t : Seen) (pending : List ℕ) (n w : ℕ) → IsSession workers (ends from to out o s t) pending n w → IsBroken workers (ends from to out o s t) n w
unflushed workers from to out o s t pending n w h =
    subst (λ (k : ℕ). IsBroken workers (ends from to out o s t) n k) (add-zero w) (session_closing workers from to out o o s t pending [] n w 0 h (inl refl) (Appends-nil o) (omega arith))

-- a closing line, whose writing may fail
closes_with : (workers : ℕ) (from to out o p : Option (List ℕ)) (s t : Seen) (pending : List ℕ) (n w : ℕ) (cause : Cause) (fault : SessionFault) (code : ℕ) → IsSession workers (ends from to out o s t) pending n w
    → MayClose n pending (closing_line code) → (c : Closes o p cause n w fault) → (sent : ℕ) → sent ≤ length (closing_line code) → Appends o p (take sent (closing_line code))
    → ((k m : ℕ) → k ≡ n → m ≡ w + sent → sent ≡ length (closing_line code) → IsStopped workers (ends from to out p s t) cause k m)
    → ((fault.cause ≡ cause) × (sent ≡ length (closing_line code))) ⊎ (fault.cause ≡ WriteFault) → fault.answered ≡ n → fault.written ≡ w + sent
    → IsStopped workers (ends from to out p s t) fault.cause fault.answered fault.written
closes_with workers from to out o p s t pending n w cause fault code h may c sent within wrote stopped whole same more =
    elim whole [
      | inl done ↦ subst (λ (x : Cause). IsStopped workers (ends from to out p s t) x fault.answered fault.written) (sym done.0) (stopped fault.answered fault.written same more done.1)
      | inr broken ↦
          subst (λ (x : Cause). IsStopped workers (ends from to out p s t) x fault.answered fault.written) (sym broken)
          (subst (λ (k : ℕ). IsBroken workers (ends from to out p s t) k fault.written) (sym same)
          (subst (λ (m : ℕ). IsBroken workers (ends from to out p s t) n m) (sym more) (session_closing workers from to out o p s t pending (closing_line code) n w sent h may wrote within)))
    ]

pub closes_long : (workers : ℕ) (from to out o p : Option (List ℕ)) (s t : Seen) (pending : List ℕ) (n w : ℕ) (fault : SessionFault) → IsSession workers (ends from to out o s t) pending n w
    → IsTooLong pending → Closes o p LineTooLong n w fault → IsStopped workers (ends from to out p s t) fault.cause fault.answered fault.written
closes_long workers from to out o p s t pending n w fault h long c =
    closes_with workers from to out o p s t pending n w LineTooLong fault 70 h (inr (inl (refl, long))) c c.sent c.within c.wrote
    (λ k m same more all.
    let closed : IsClosed workers 70 (ends from to out p s t) pending n (w + c.sent) = session_closed workers 70 from to out o p s t pending n w c.sent h c.wrote all in
    let closed' : IsClosed workers 70 (ends from to out p s t) pending k m = rw (same, more) closed in
    record { pending = pending; closed = closed'; long = long; lines = all_lines-long from to closed'.talk.lines pending closed'.talk.each closed'.talk.few long closed'.talk.took })
    c.whole c.answered_same c.more

pub closes_spent : (workers : ℕ) (from to out o p : Option (List ℕ)) (s t : Seen) (pending : List ℕ) (n w : ℕ) (fault : SessionFault) → IsSession workers (ends from to out o s t) pending n w
    → n ≡ 1000000 → HasLine pending → Closes o p TooManyRequests n w fault → IsStopped workers (ends from to out p s t) fault.cause fault.answered fault.written
closes_spent workers from to out o p s t pending n w fault h most line c =
    closes_with workers from to out o p s t pending n w TooManyRequests fault 73 h (inr (inr (refl, most, line))) c c.sent c.within c.wrote
    (λ k m same more all.
    let closed : IsClosed workers 73 (ends from to out p s t) pending n (w + c.sent) = session_closed workers 73 from to out o p s t pending n w c.sent h c.wrote all in
    let closed' : IsClosed workers 73 (ends from to out p s t) pending k m = rw (same, more) closed in
    record { pending = pending; closed = closed'; most = same ∙ most; another = line; lines = all_lines-most from to closed'.talk.lines pending closed'.talk.each (sym closed'.counted ∙ same ∙ most) closed'.talk.took })
    c.whole c.answered_same c.more
