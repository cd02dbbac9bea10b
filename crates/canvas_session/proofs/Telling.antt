-- What sessions tell, by what they did.
use Rattle.std.proofs.Common.{◌≡◌, ℕ, ◌≤◌, ◌⊎◌, inl, inr, List, [], ◌∷◌, ◌++◌, Option, Result, Ok, Err, length, take, refl, sym, arith, subst}
use Rattle.std.specs.List.{AllByRecursion}
use Rattle.std.specs.Io.KnownBytes.{Consumes, Appends}
use Rattle.std.proofs.KnownBytes.{Consumes-nil, Appends-nil}
use Rattle.std.proofs.Math.Seq.{take-append_seam, take-length}
use mathlib.Core.List.{IsPrefix}
use Rattle.canvas_record.specs.declared.edits.Change.{Change}
use Rattle.canvas_record.specs.Contents.{Contents}
use Rattle.canvas_record.specs.History.{AllFit}
use Rattle.canvas_look.proofs.Prefixes.{prefix_self, prefix_trans, take_prefix}
use Rattle.canvas_look.specs.Seen.{IsSound}
use Rattle.canvas_session.specs.Response.{texts_of}
use Rattle.canvas_session.specs.Session.{Ends, Exchange, IsSession, IsClosed, IsBroken, IsUntouched, IsStopped, MayClose, Serves, closing_line}
use Rattle.canvas_session.specs.OneHistory.{OneSession, AreOfOneLine, EachBelongs, SessionTells, board_of}
use Rattle.canvas_session.specs.declared.fault.Cause.{Cause}
use Rattle.canvas_session.specs.declared.fault.Cause.TheVariants.{OutOfMemory, LineTooLong, ReadFault, WriteFault, TooManyRequests, CutLine}
use Rattle.canvas_session.specs.declared.fault.SessionFault.{SessionFault}
use Rattle.canvas_session.specs.declared.served.Served.{Served}
use Rattle.canvas_session.proofs.Belonging.{belongs}
use Rattle.canvas_session.proofs.Longer.{longer-belongs}

-- what may be the closing line
abbrev Closing : List ℕ → Type 0
Closing closing = (closing ≡ []) ⊎ ((closing ≡ closing_line 70) ⊎ (closing ≡ closing_line 73))

-- an exchange, and what was written of it
exchange-tells : (workers : ℕ) (e : Ends) (pending : List ℕ) (talk : Exchange workers e pending) (closing : List ℕ) (written : ℕ) → IsSound e.before
    → Appends e.held e.output (take written (texts_of talk.answers ++ closing)) → Closing closing → SessionTells workers e
exchange-tells workers e pending talk closing written sound wrote closes = record {
  lines = talk.lines;
  pending = pending;
  reads = talk.reads;
  answers = talk.answers;
  closing = closing;
  written = written;
  each = talk.each;
  are_read = talk.are_read;
  took = talk.took;
  wrote = wrote;
  closes = closes;
  belongs = belongs workers e.before e.after talk.reads talk.answers sound talk.steps;
}

of-session : (workers : ℕ) (e : Ends) (pending : List ℕ) (requests written : ℕ) → IsSound e.before → IsSession workers e pending requests written → SessionTells workers e
of-session workers e pending requests written sound s =
    exchange-tells workers e pending s.talk [] (length (texts_of s.talk.answers)) sound (subst (Appends e.held e.output) (sym (take-append_seam (texts_of s.talk.answers) [])) s.wrote) (inl refl)

of-closed : (workers code : ℕ) (e : Ends) (pending : List ℕ) (answered written : ℕ) → IsSound e.before → Closing (closing_line code) → IsClosed workers code e pending answered written
    → SessionTells workers e
of-closed workers code e pending answered written sound closes s =
    let all = texts_of s.talk.answers ++ closing_line code in
    exchange-tells workers e pending s.talk (closing_line code) (length all) sound (subst (Appends e.held e.output) (sym (take-length all)) s.wrote) closes

may_close : (answered : ℕ) (pending closing : List ℕ) → MayClose answered pending closing → Closing closing
may_close answered pending closing (inl none) = inl none
may_close answered pending closing (inr (inl long)) = inr (inl long.0)
may_close answered pending closing (inr (inr spent)) = inr (inr spent.0)

of-broken : (workers : ℕ) (e : Ends) (answered written : ℕ) → IsSound e.before → IsBroken workers e answered written → SessionTells workers e
of-broken workers e answered written sound s = exchange-tells workers e s.pending s.talk s.closing written sound s.wrote (may_close answered s.pending s.closing s.closes)

of-untouched : (workers : ℕ) (e : Ends) → IsSound e.before → IsUntouched e → SessionTells workers e
of-untouched workers e sound same = record {
  lines = [];
  pending = [];
  reads = [];
  answers = [];
  closing = [];
  written = 0;
  each = tt;
  are_read = tt;
  took = subst (λ (to : Option (List ℕ)). Consumes e.input to []) (sym same.reader) (Consumes-nil e.input);
  wrote = subst (λ (to : Option (List ℕ)). Appends e.held to []) (sym same.writer) (Appends-nil e.held);
  closes = inl refl;
  belongs = belongs workers e.before e.after [] [] sound same.board;
}

stopped : (workers : ℕ) (e : Ends) (cause : Cause) (answered written : ℕ) → IsSound e.before → IsStopped workers e cause answered written → SessionTells workers e
stopped workers e OutOfMemory answered written sound s = of-untouched workers e sound s.0
stopped workers e LineTooLong answered written sound s = of-closed workers 70 e s.pending answered written sound (inr (inl refl)) s.closed
stopped workers e ReadFault answered written sound s = of-session workers e s.rest answered written sound s.session
stopped workers e WriteFault answered written sound s = of-broken workers e answered written sound s
stopped workers e TooManyRequests answered written sound s = of-closed workers 73 e s.pending answered written sound (inr (inr refl)) s.closed
stopped workers e CutLine answered written sound s = of-session workers e s.rest answered written sound s.session

pub session_tells : (workers : ℕ) (e : Ends) (result : Result Served SessionFault) → IsSound e.before → Serves workers e result → SessionTells workers e
session_tells workers e (Ok served) sound s = of-session workers e [] served.requests served.written sound s.session
session_tells workers e (Err fault) sound s = stopped workers e fault.cause fault.answered fault.written sound s

-- of two beginnings of one list one begins the other
begin_alike : {A : Type 0} (xs ys zs : List A) → IsPrefix xs zs → IsPrefix ys zs → IsPrefix xs ys ⊎ IsPrefix ys xs
begin_alike [] ys zs p q = inl (ys, refl)
begin_alike (x ∷ xs) [] zs p q = inr (x ∷ xs, refl)
begin_alike (x ∷ xs) (y ∷ ys) [] p q = absurd (cc (p.1))
begin_alike (x ∷ xs) (y ∷ ys) (z ∷ zs) p q =
    let heads : x ≡ y = cc (p.1, q.1) in
    elim (begin_alike xs ys zs (p.0, cc (p.1)) (q.0, cc (q.1))) [
      | inl r ↦ inl (r.0, cc (heads, r.1))
      | inr r ↦ inr (r.0, cc (heads, r.1))
    ]

takes_alike : {A : Type 0} (n m : ℕ) (xs ys : List A) → IsPrefix xs ys ⊎ IsPrefix ys xs → IsPrefix (take n xs) (take m ys) ⊎ IsPrefix (take m ys) (take n xs)
takes_alike n m xs ys (inl p) = begin_alike (take n xs) (take m ys) ys (prefix_trans (take n xs) xs ys (take_prefix n xs) p) (take_prefix m ys)
takes_alike n m xs ys (inr p) = begin_alike (take n xs) (take m ys) xs (take_prefix n xs) (prefix_trans (take m ys) ys xs (take_prefix m ys) p)

-- what a session told of
abbrev told_of : OneSession → List Change
told_of s = take s.known s.seen

-- of two lists one begins the other
abbrev Agree : List Change → List Change → Type 0
Agree xs ys = IsPrefix xs ys ⊎ IsPrefix ys xs

agree-each : (s : OneSession) (others : List OneSession) → AllByRecursion (λ t. IsPrefix s.seen t.seen ⊎ IsPrefix t.seen s.seen) others
    → AllByRecursion (λ t. Agree (told_of s) (told_of t)) others
agree-each s [] h = tt
agree-each s (t ∷ others) h = (takes_alike s.known t.known s.seen t.seen h.0, agree-each s others h.1)

-- a history that begins with what each session told of, and agrees with whatever agrees with all of these
record Longest (opening : Contents) (limit : ℕ) (sessions : List OneSession) (one : List Change) : Type 0 where
  fits : AllFit opening one
  within : length one ≤ limit
  begin : AllByRecursion (λ s. IsPrefix (told_of s) one) sessions
  agrees : (xs : List Change) → AllByRecursion (λ s. Agree xs (told_of s)) sessions → Agree xs one

begin-longer : (sessions : List OneSession) (a b : List Change) → IsPrefix a b → AllByRecursion (λ s. IsPrefix (told_of s) a) sessions
    → AllByRecursion (λ s. IsPrefix (told_of s) b) sessions
begin-longer [] a b p h = tt
begin-longer (s ∷ sessions) a b p h = (prefix_trans (told_of s) a b h.0 p, begin-longer sessions a b p h.1)

longer-of : (opening : Contents) (limit : ℕ) (s : OneSession) (others : List OneSession) (one : List Change) → AllFit opening (told_of s) → length (told_of s) ≤ limit
    → Longest opening limit others one → Agree (told_of s) one → (more : List Change) × Longest opening limit (s ∷ others) more
longer-of opening limit s others one fits within rest (inl p) =
    (one, record { fits = rest.fits; within = rest.within; begin = (p, rest.begin); agrees = λ xs h. rest.agrees xs h.1 })
longer-of opening limit s others one fits within rest (inr p) = (
  told_of s,
  record {
    fits = fits;
    within = within;
    begin = (prefix_self (told_of s), begin-longer others one (told_of s) p rest.begin);
    agrees = λ xs h. h.0;
  },
)

longest-of : (opening : Contents) (limit : ℕ) (sessions : List OneSession) → EachBelongs opening limit told_of sessions → AreOfOneLine sessions
    → (one : List Change) × Longest opening limit sessions one
longest-of opening limit [] t p = ([], record { fits = tt; within = omega arith; begin = tt; agrees = λ xs h. inr (xs, refl) })
longest-of opening limit (s ∷ others) t p =
    let rest = longest-of opening limit others t.1 p.1 in
    longer-of opening limit s others rest.0 t.0.fits t.0.within rest.1 (rest.1.agrees (told_of s) (agree-each s others p.0))

each-belongs : (opening : Contents) (limit : ℕ) (sessions : List OneSession) (one : List Change) → AllFit opening one → length one ≤ limit
    → AllByRecursion (λ s. IsPrefix (told_of s) one) sessions → EachBelongs opening limit told_of sessions → EachBelongs opening limit (λ s. one) sessions
each-belongs opening limit [] one fits within p t = tt
each-belongs opening limit (s ∷ others) one fits within p t = (
  longer-belongs s.workers (board_of opening limit s) (told_of s) one s.requests s.answers refl t.0 p.0 fits within,
  each-belongs opening limit others one fits within p.1 t.1,
)

pub all_belong : (opening : Contents) (limit : ℕ) (sessions : List OneSession) → EachBelongs opening limit (λ s. take s.known s.seen) sessions → AreOfOneLine sessions
    → (one : List Change) × EachBelongs opening limit (λ s. one) sessions
all_belong opening limit sessions t p =
    let longest = longest-of opening limit sessions t p in
    (longest.0, each-belongs opening limit sessions longest.0 longest.1.fits longest.1.within longest.1.begin t)
