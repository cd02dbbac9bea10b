-- How a session goes on.
use Rattle.std.proofs.Common.{◌≡◌, ℕ, suc, ◌+◌, ◌<◌, ◌≤◌, inl, inr, List, [], ◌∷◌, ◌++◌, Option, Result, length, take, drop, get_or, refl, sym, ap, ◌∙◌, arith, subst, append_assoc, append-nil, add-one, length-append, length-take-le}
use Rattle.std.specs.List.{flat_map, AllByRecursion}
use Rattle.std.specs.Io.KnownBytes.{Consumes, Appends, Keeps}
use Rattle.std.proofs.KnownBytes.{Consumes-nil, Consumes-trans, Appends-nil, Appends-trans, Appends-kept}
use Rattle.std.proofs.Math.Seq.{drop-cons, take-length, take-add, take-append_seam, drop-append_seam}
use Rattle.std.proofs.lemmas.Grind.{flat_map-append}
use Rattle.std.proofs.lemmas.List.{take-append-drop, get_or-take}
use Rattle.canvas_wire.specs.declared.request.Request.{Request}
use Rattle.canvas_wire.specs.declared.fault.WireFault.{WireFault}
use Rattle.canvas_wire.specs.Faults.{Gives}
use Rattle.canvas_wire.specs.Requests.{request_of}
use Rattle.canvas_look.specs.Seen.{Seen}
use Rattle.canvas_session.specs.Line.{LacksLf, IsLine, ended}
use Rattle.canvas_session.specs.Pending.{TakesIn}
use Rattle.canvas_session.specs.Response.{Response, text_of, texts_of}
use Rattle.canvas_session.specs.Transcript.{Answers, AreRead, IsTranscript, Step}
use Rattle.canvas_session.specs.Session.{Ends, Exchange, IsSession, IsClosed, IsBroken, MayClose, closing_line}
use Rattle.canvas_session.proofs.LinesOf.{first_lines}

all_push : {X : Type 0} (P : X → Type 0) (xs : List X) (x : X) → AllByRecursion P xs → P x → AllByRecursion P (xs ++ x ∷ [])
all_push P [] x h p = (p, tt)
all_push P (y ∷ ys) x h p = (h.0, all_push P ys x h.1 p)

-- a transcript goes on by one step
transcript_push : (workers : ℕ) (s : Seen) (rs : List (Result Request WireFault)) (answers : List Response) (t : Seen) (r : Result Request WireFault) (a : Response) (u : Seen)
    → IsTranscript workers s rs answers t → Step workers t r a u → IsTranscript workers s (rs ++ r ∷ []) (answers ++ a ∷ []) u
transcript_push workers s [] [] t r a u h step = (u, subst (λ (x : Seen). Step workers x r a u) h step, refl)
transcript_push workers s (q ∷ rs) (b ∷ answers) t r a u h step = (h.0, h.1, transcript_push workers h.0 rs answers t r a u h.2 step)
transcript_push workers s [] (b ∷ answers) t r a u h step = absurd h
transcript_push workers s (q ∷ rs) [] t r a u h step = absurd h

transcript_length : (workers : ℕ) (s : Seen) (rs : List (Result Request WireFault)) (answers : List Response) (t : Seen) → IsTranscript workers s rs answers t → length rs ≡ length answers
transcript_length workers s [] [] t h = refl
transcript_length workers s (q ∷ rs) (b ∷ answers) t h = ap (λ k. suc k) (transcript_length workers h.0 rs answers t h.2)
transcript_length workers s [] (b ∷ answers) t h = absurd h
transcript_length workers s (q ∷ rs) [] t h = absurd h

-- one more line is read
read_push : (lines : List (List ℕ)) (reads : List (Result Request WireFault)) (line : List ℕ) (read : Result Request WireFault) → AreRead lines reads → Gives read (request_of line)
    → AreRead (lines ++ line ∷ []) (reads ++ read ∷ [])
read_push [] [] line read h gives = (gives, tt)
read_push (x ∷ lines) (r ∷ reads) line read h gives = (h.0, read_push lines reads line read h.1 gives)
read_push [] (r ∷ reads) line read h gives = absurd h
read_push (x ∷ lines) [] line read h gives = absurd h

read_length : (lines : List (List ℕ)) (reads : List (Result Request WireFault)) → AreRead lines reads → length lines ≡ length reads
read_length [] [] h = refl
read_length (x ∷ lines) (r ∷ reads) h = ap (λ k. suc k) (read_length lines reads h.1)
read_length [] (r ∷ reads) h = absurd h
read_length (x ∷ lines) [] h = absurd h

-- each line has one answer
answers_length : (workers : ℕ) (e : Ends) (pending : List ℕ) (talk : Exchange workers e pending) → length talk.lines ≡ length talk.answers
answers_length workers e pending talk = read_length talk.lines talk.reads talk.are_read ∙ transcript_length workers e.before talk.reads talk.answers e.after talk.steps

-- the line at the front, as a line
pub line_at : (xs : List ℕ) (n : ℕ) → n ≤ 65536 → n < length xs → LacksLf n xs → IsLine (take n xs)
line_at xs n short within lacks =
    let len : length (take n xs) ≡ n = length-take-le n xs (omega arith) in
    record { short = omega arith; whole = λ k lt e. let below : k < n = omega arith in lacks k below (sym (get_or-take n xs k 0 below) ∙ e) }

-- the line, its LF, and the rest
pub line_and_rest : (xs : List ℕ) (n : ℕ) → n < length xs → get_or xs n 0 ≡ 10 → ended (take n xs) ++ drop (n + 1) xs ≡ xs
line_and_rest xs n within at =
    let rest : drop n xs ≡ get_or xs n 0 ∷ drop (suc n) xs = drop-cons xs n 0 within in
    let lf : drop n xs ≡ 10 ∷ drop (suc n) xs = rest ∙ ap (λ b. b ∷ drop (suc n) xs) at in
    rw (add-one, append_assoc, ← lf) (take-append-drop n xs)

-- the two ends of a session
abbrev pub ends : Option (List ℕ) → Option (List ℕ) → Option (List ℕ) → Option (List ℕ) → Seen → Seen → Ends
ends from to out o s t = record { input = from; unread = to; held = out; output = o; before = s; after = t }

pub session_begins : (workers : ℕ) (from out : Option (List ℕ)) (s : Seen) (pending : List ℕ) → pending ≡ [] → IsSession workers (ends from from out out s s) pending 0 0
session_begins workers from out s pending e = rw e (record {
  talk = record {
    lines = [];
    reads = [];
    answers = [];
    each = tt;
    few = omega arith;
    are_read = tt;
    steps = refl;
    took = Consumes-nil from;
  };
  wrote = Appends-nil out;
  counted = refl;
  bytes = refl;
})

-- bytes come, and the writer passes on what it holds
pub session_waits : (workers : ℕ) (from mid to out o p : Option (List ℕ)) (s t : Seen) (old new : List ℕ) (n w : ℕ) → IsSession workers (ends from mid out o s t) old n w
    → TakesIn mid to old new → Keeps o p → IsSession workers (ends from to out p s t) new n w
session_waits workers from mid to out o p s t old new n w h takes keeps =
    let before : List ℕ = flat_map ended h.talk.lines in
    let joined : (before ++ old) ++ takes.0 ≡ before ++ new = append_assoc before old takes.0 ∙ ap (λ (l : List ℕ). before ++ l) (sym takes.2) in
    record {
      talk = record {
        lines = h.talk.lines;
        reads = h.talk.reads;
        answers = h.talk.answers;
        each = h.talk.each;
        few = h.talk.few;
        are_read = h.talk.are_read;
        steps = h.talk.steps;
        took = subst (Consumes from to) joined (Consumes-trans from mid to (before ++ old) takes.0 h.talk.took takes.1);
      };
      wrote = Appends-kept out o p (texts_of h.talk.answers) h.wrote keeps;
      counted = h.counted;
      bytes = h.bytes;
    }

-- one more line is answered
pub exchange_more : (workers : ℕ) (from to out o p : Option (List ℕ)) (s t u : Seen) (old new : List ℕ) (k : ℕ) (a : Response) (h : Exchange workers (ends from to out o s t) old) → length h.lines < 1000000
    → IsLine (take k old) → ended (take k old) ++ new ≡ old → Answers workers t (take k old) a u → Exchange workers (ends from to out p s u) new
exchange_more workers from to out o p s t u old new k a h room line whole step =
    let lines : flat_map ended (h.lines ++ take k old ∷ []) ≡ flat_map ended h.lines ++ ended (take k old) = flat_map-append ended h.lines (take k old ∷ []) ∙ ap (λ (l : List ℕ). flat_map ended h.lines ++ l) (append-nil (ended (take k old))) in
    let took : flat_map ended h.lines ++ old ≡ flat_map ended (h.lines ++ take k old ∷ []) ++ new =
    ap (λ (l : List ℕ). flat_map ended h.lines ++ l) (sym whole) ∙ sym (append_assoc (flat_map ended h.lines) (ended (take k old)) new) ∙ ap (λ (l : List ℕ). l ++ new) (sym lines) in
    record {
      lines = h.lines ++ take k old ∷ [];
      reads = h.reads ++ step.0 ∷ [];
      answers = h.answers ++ a ∷ [];
      each = all_push IsLine h.lines (take k old) h.each line;
      few = omega (arith, room, length-append h.lines (take k old ∷ []));
      are_read = read_push h.lines h.reads (take k old) step.0 h.are_read step.1;
      steps = transcript_push workers s h.reads h.answers t step.0 a u h.steps step.2;
      took = subst (Consumes from to) took h.took;
    }

texts_of-push : (answers : List Response) (a : Response) → texts_of (answers ++ a ∷ []) ≡ texts_of answers ++ text_of a
texts_of-push answers a = flat_map-append text_of answers (a ∷ []) ∙ ap (λ (l : List ℕ). texts_of answers ++ l) (append-nil (text_of a))

pub session_answers : (workers : ℕ) (from to out o p : Option (List ℕ)) (s t u : Seen) (old new : List ℕ) (n w k sent : ℕ) (a : Response)
    → IsSession workers (ends from to out o s t) old n w → n < 1000000 → IsLine (take k old) → ended (take k old) ++ new ≡ old
    → Answers workers t (take k old) a u → Appends o p (take sent (text_of a)) → sent ≡ length (text_of a)
    → IsSession workers (ends from to out p s u) new (n + 1) (w + sent)
unfolding exchange_more
session_answers workers from to out o p s t u old new n w k sent a h room line whole step wrote all =
    let sent_all : take sent (text_of a) ≡ text_of a = ap (λ j. take j (text_of a)) all ∙ take-length (text_of a) in
    let texts : texts_of (h.talk.answers ++ a ∷ []) ≡ texts_of h.talk.answers ++ text_of a = texts_of-push h.talk.answers a in
    let wrote' : Appends o p (text_of a) = rw (← sent_all) wrote in
    record {
      talk = exchange_more workers from to out o p s t u old new k a h.talk (omega (arith, h.counted)) line whole step;
      wrote = rw texts (Appends-trans out o p (texts_of h.talk.answers) (text_of a) h.wrote wrote');
      counted = omega (arith, h.counted, length-append h.talk.lines (take k old ∷ []));
      bytes = rw texts (omega (arith, h.bytes, all, length-append (texts_of h.talk.answers) (text_of a)));
    }

-- the first bytes of two texts, one after the other
take_both : (front back : List ℕ) (w k : ℕ) → w ≡ length front → take (w + k) (front ++ back) ≡ front ++ take k back
take_both front back w k e =
    ap (λ j. take (j + k) (front ++ back)) e ∙ take-add (length front) k (front ++ back)
    ∙ ap (λ (l : List ℕ). l ++ take k (drop (length front) (front ++ back))) (take-append_seam front back)
    ∙ ap (λ (l : List ℕ). front ++ take k l) (drop-append_seam front back)

-- the last answer is cut off
pub session_breaks : (workers : ℕ) (from to out o p : Option (List ℕ)) (s t u : Seen) (old new : List ℕ) (n w k sent : ℕ) (a : Response)
    → IsSession workers (ends from to out o s t) old n w → n < 1000000 → IsLine (take k old) → ended (take k old) ++ new ≡ old
    → Answers workers t (take k old) a u → Appends o p (take sent (text_of a)) → sent < length (text_of a)
    → IsBroken workers (ends from to out p s u) n (w + sent)
unfolding exchange_more
session_breaks workers from to out o p s t u old new n w k sent a h room line whole step wrote short =
    let talk : Exchange workers (ends from to out p s u) new = exchange_more workers from to out o p s t u old new k a h.talk (omega (arith, h.counted)) line whole step in
    let texts : texts_of (h.talk.answers ++ a ∷ []) ++ [] ≡ texts_of h.talk.answers ++ text_of a = append-nil (texts_of (h.talk.answers ++ a ∷ [])) ∙ texts_of-push h.talk.answers a in
    let same : n ≡ length h.talk.answers = h.counted ∙ answers_length workers (ends from to out o s t) old h.talk in
    let front : take n (h.talk.answers ++ a ∷ []) ≡ h.talk.answers = ap (λ j. take j (h.talk.answers ++ a ∷ [])) same ∙ take-append_seam h.talk.answers (a ∷ []) in
    let size : length (texts_of (h.talk.answers ++ a ∷ [])) ≡ length (texts_of h.talk.answers) + length (text_of a) = ap length (texts_of-push h.talk.answers a) ∙ length-append (texts_of h.talk.answers) (text_of a) in
    let below : w + sent < length (texts_of (h.talk.answers ++ a ∷ [])) = omega (arith, size, h.bytes, short) in
    record {
      pending = new;
      talk = talk;
      closing = [];
      closes = inl refl;
      wrote = rw (texts, take_both (texts_of h.talk.answers) (text_of a) w sent h.bytes) (Appends-trans out o p (texts_of h.talk.answers) (take sent (text_of a)) h.wrote wrote);
      within = rw (append-nil (texts_of (h.talk.answers ++ a ∷ []))) (omega (arith, below));
      whole = rw front (omega (arith, h.bytes));
      counted = inr (omega (arith, h.counted, length-append h.talk.lines (take k old ∷ [])), below);
      lines = first_lines from to talk.lines new talk.each talk.few talk.took;
    }

-- the writer fails after whole answers and some bytes of a closing line, or of none
pub session_closing : (workers : ℕ) (from to out o p : Option (List ℕ)) (s t : Seen) (pending closing : List ℕ) (n w k : ℕ) → IsSession workers (ends from to out o s t) pending n w
    → MayClose n pending closing → Appends o p (take k closing) → k ≤ length closing → IsBroken workers (ends from to out p s t) n (w + k)
session_closing workers from to out o p s t pending closing n w k h closes wrote within =
    let same : n ≡ length h.talk.answers = h.counted ∙ answers_length workers (ends from to out o s t) pending h.talk in
    let front : take n h.talk.answers ≡ h.talk.answers = ap (λ j. take j h.talk.answers) same ∙ take-length h.talk.answers in
    record {
      pending = pending;
      talk = record { lines = h.talk.lines; reads = h.talk.reads; answers = h.talk.answers; each = h.talk.each; few = h.talk.few; are_read = h.talk.are_read; steps = h.talk.steps; took = h.talk.took };
      closing = closing;
      closes = closes;
      wrote = rw (take_both (texts_of h.talk.answers) closing w k h.bytes) (Appends-trans out o p (texts_of h.talk.answers) (take k closing) h.wrote wrote);
      within = omega (arith, within, h.bytes, length-append (texts_of h.talk.answers) closing);
      whole = rw front (omega (arith, h.bytes));
      counted = inl h.counted;
      lines = first_lines from to h.talk.lines pending h.talk.each h.talk.few h.talk.took;
    }

-- a closing line follows the answers
pub session_closed : (workers code : ℕ) (from to out o p : Option (List ℕ)) (s t : Seen) (pending : List ℕ) (n w k : ℕ) → IsSession workers (ends from to out o s t) pending n w
    → Appends o p (take k (closing_line code)) → k ≡ length (closing_line code) → IsClosed workers code (ends from to out p s t) pending n (w + k)
session_closed workers code from to out o p s t pending n w k h wrote all =
    let sent_all : take k (closing_line code) ≡ closing_line code = ap (λ j. take j (closing_line code)) all ∙ take-length (closing_line code) in
    record {
      talk = record { lines = h.talk.lines; reads = h.talk.reads; answers = h.talk.answers; each = h.talk.each; few = h.talk.few; are_read = h.talk.are_read; steps = h.talk.steps; took = h.talk.took };
      wrote = Appends-trans out o p (texts_of h.talk.answers) (closing_line code) h.wrote (subst (Appends o p) sent_all wrote);
      counted = h.counted;
      bytes = omega (arith, h.bytes, all, length-append (texts_of h.talk.answers) (closing_line code));
    }
