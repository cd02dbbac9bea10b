-- What a journal stands for after it was opened, and after a turn.
use Rattle.std.proofs.Common.{◌≡◌, ◌⊎◌, inl, inr, Bool, true, false, Option, Some, ℕ, zero, suc, ◌≤◌, List, [], ◌∷◌, ◌++◌, length, take, drop, refl, ap, sym, ◌∙◌, subst, arith, length-append}
use Rattle.std.proofs.lemmas.List.{append-nil, drop_at}
use Rattle.std.proofs.lemmas.Bool.{leb-true}
use Rattle.std.specs.Bool.{OnTrue}
use lib.Dec.{leb}
use mathlib.Core.List.{IsPrefix}
use Rattle.canvas_record.specs.declared.edits.Change.{Change}
use Rattle.canvas_record.specs.declared.edits.Edit.{Edit}
use Rattle.canvas_record.specs.Contents.{Contents}
use Rattle.canvas_record.specs.History.{replay_of, AllFit}
use Rattle.canvas_journal.specs.Lines.{recovered}
use Rattle.canvas_journal.specs.Journal.{IsSettled, done_of}
use Rattle.canvas_journal.specs.Runs.{handed_of, HasKept}
use Rattle.canvas_journal.specs.declared.journal.Journal.{Journal}
use Rattle.canvas_line.specs.Lines.{Sight, with_front}
use Rattle.canvas_line.specs.Recording.{Makes, MakesRest}
use Rattle.canvas_line.specs.Seats.{GoesOn, TakesAt}
use Rattle.canvas_line.specs.declared.recorder.Taken.{Taken}
use Rattle.canvas_look.proofs.Prefixes.{prefix_trans, prefix_whole, take_more_same, take_all}
use Rattle.canvas_keep.specs.Telling.{Tells, TellsBeginning, Replays}
use Rattle.canvas_keep.specs.Keeping.{Keeping, StandsFor}
use Rattle.canvas_keep.proofs.Histories.{tells_both, tells_length, tells_prefix, tells_beginning}

prefix_split : {A : Type 0} (xs ys : List A) → IsPrefix xs ys → xs ++ drop (length xs) ys ≡ ys
prefix_split xs ys p = ap (λ l. xs ++ drop (length xs) l) (sym p.1) ∙ ap (λ l. xs ++ l) (drop_at xs p.0 (length xs) refl) ∙ p.1

prefix_take : {A : Type 0} (xs ys : List A) → IsPrefix xs ys → take (length xs) ys ≡ xs
prefix_take xs ys p = take_more_same (length xs) xs ys p (omega arith) ∙ take_all (length xs) xs refl

-- what begins a list, and is no longer than n, begins its first n
prefix_within : {A : Type 0} (xs ys : List A) (n : ℕ) → IsPrefix xs ys → length xs ≤ n → IsPrefix xs (take n ys)
prefix_within [] ys n p le = (take n ys, refl)
prefix_within (x ∷ xs) [] n p le = absurd (cc (p.1))
prefix_within (x ∷ xs) (y ∷ ys) zero p le = absurd (omega arith)
prefix_within (x ∷ xs) (y ∷ ys) (suc n) p le =
    let rest = prefix_within xs ys n (p.0, cc (p.1)) (omega arith) in (rest.0, cc (p.1, rest.1))

-- of two histories of which one begins the other, the one that is no longer than what is kept of the other is kept
begins_kept : (own other : List Change) (kept : ℕ) → kept ≤ length own → length other ≤ kept → IsPrefix own other ⊎ IsPrefix other own → IsPrefix other (take kept own)
begins_kept own other kept within short (inl longer) =
    let same : own ≡ other = prefix_whole own other longer (omega arith) in
    prefix_within other own kept ([], append-nil other ∙ sym same) short
begins_kept own other kept within short (inr shorter) = prefix_within other own kept shorter short

-- lines that tell a front, and then those of edits that make the rest of a longer one
tells_rest : (d : Contents) (ls ms : List (List ℕ)) (front longer : List Change) (es : List Edit) (before : ℕ) → Tells d ls front → IsPrefix front longer
    → MakesRest d longer before es → before ≡ length front → ((x : Contents) (cs : List Change) → Makes x es cs → Tells x ms cs) → Tells d (ls ++ ms) longer
tells_rest d ls ms front longer es before told p rest at texts =
    let makes : Makes (replay_of d front) es (drop (length front) longer) = subst (λ (x : List Change). Makes (replay_of d x) es (drop (length front) longer)) (prefix_take front longer p)
    (subst (λ (n : ℕ). Makes (replay_of d (take n longer)) es (drop n longer)) at rest.1) in
    subst (Tells d (ls ++ ms)) (prefix_split front longer p) (tells_both d ls front ms (drop (length front) longer) told (texts (replay_of d front) (drop (length front) longer) makes))

stands_next : {D : Type 0} (seen : D → List ℕ) (may_leave : D → List ℕ → Type 0) (moment : D → ℕ) (left_since : D → ℕ → List ℕ → Type 0) (old new : Journal D) (s t : Sight) (kept : ℕ) (opened : D) (es : List Edit) (before : ℕ)
    → StandsFor seen may_leave moment left_since old s kept opened → IsSettled seen may_leave new → done_of seen new ≡ done_of seen old ++ old.staged
    → ((x : Contents) (cs : List Change) → Makes x es cs → Tells x new.staged cs) → GoesOn s t → MakesRest s.opening t.front before es → before ≡ length s.front
    → ((since : ℕ) (known : List (List ℕ)) → HasKept seen moment left_since old since known → HasKept seen moment left_since new since known)
    → StandsFor seen may_leave moment left_since new t (length s.front) opened
stands_next seen may_leave moment left_since old new s t kept opened es before stands settled done texts goes rest at keeps = record {
  settled = settled;
  told = subst (λ (x : Contents). Tells x (handed_of seen new) t.front) (sym (ap (λ (x : Sight). x.opening) goes.2))
      (subst (λ (ls : List (List ℕ)). Tells s.opening (ls ++ new.staged) t.front) (sym done)
      (tells_rest s.opening (handed_of seen old) new.staged s.front t.front es before stands.told goes.0 rest at texts));
  count = sym (ap length done ∙ tells_length s.opening (handed_of seen old) s.front stands.told);
  lasts = keeps (moment opened) (recovered (seen opened)) stands.lasts;
}

stands_first : {D : Type 0} (seen : D → List ℕ) (may_leave : D → List ℕ → Type 0) (moment : D → ℕ) (left_since : D → ℕ → List ℕ → Type 0) (journal : Journal D) (s : Sight) (kept : ℕ) (opened : D)
    → IsSettled seen may_leave journal → done_of seen journal ≡ recovered (seen opened) → journal.staged ≡ [] → Tells s.opening (recovered (seen opened)) s.front → kept ≡ length s.front
    → HasKept seen moment left_since journal (moment opened) (recovered (seen opened))
    → StandsFor seen may_leave moment left_since journal s kept opened
stands_first seen may_leave moment left_since journal s kept opened settled done staged told count lasts = record {
  settled = settled;
  told = subst (λ (ls : List (List ℕ)). Tells s.opening ls s.front) (sym (ap (λ (ls : List (List ℕ)). done_of seen journal ++ ls) staged ∙ append-nil (done_of seen journal) ∙ done)) told;
  count = count ∙ sym (tells_length s.opening (recovered (seen opened)) s.front told) ∙ sym (ap length done);
  lasts = lasts;
}

kept_within : {D : Type 0} (seen : D → List ℕ) (may_leave : D → List ℕ → Type 0) (moment : D → ℕ) (left_since : D → ℕ → List ℕ → Type 0) (journal : Journal D) (line : Sight) (kept : ℕ) (opened : D)
    → StandsFor seen may_leave moment left_since journal line kept opened → kept ≤ length line.front
kept_within seen may_leave moment left_since journal line kept opened stands =
    omega (arith, stands.count, tells_length line.opening (handed_of seen journal) line.front stands.told, length-append (done_of seen journal) journal.staged)

-- ---- the same of a keeper as contracts see it

abbrev shown : {D : Type 0} → Journal D → Sight → ℕ → D → Keeping D
shown journal line kept opened = record { line = line; kept = kept; journal = journal; opened = opened }

pub shows_within : {D : Type 0} (seen : D → List ℕ) (may_leave : D → List ℕ → Type 0) (moment : D → ℕ) (left_since : D → ℕ → List ℕ → Type 0) (journal : Journal D) (line : Sight) (kept : ℕ) (opened : D) (keeper : Keeping D)
    → StandsFor seen may_leave moment left_since journal line kept opened → shown journal line kept opened ≡ keeper → kept ≤ length keeper.line.front
shows_within {D} seen may_leave moment left_since journal line kept opened keeper stands is =
    subst (λ (k : Keeping D). kept ≤ length k.line.front) is (kept_within seen may_leave moment left_since journal line kept opened stands)

-- the lines that count tell what is kept
pub shows_told : {D : Type 0} (seen : D → List ℕ) (may_leave : D → List ℕ → Type 0) (moment : D → ℕ) (left_since : D → ℕ → List ℕ → Type 0) (journal : Journal D) (line : Sight) (kept : ℕ) (opened : D) (keeper : Keeping D)
    → StandsFor seen may_leave moment left_since journal line kept opened → shown journal line kept opened ≡ keeper → Tells keeper.line.opening (done_of seen keeper.journal) (take kept keeper.line.front)
shows_told {D} seen may_leave moment left_since journal line kept opened keeper stands is =
    let told : Tells line.opening (done_of seen journal) (take kept line.front) = subst (λ (n : ℕ). Tells line.opening (done_of seen journal) (take n line.front)) (sym stands.count)
    (tells_prefix line.opening (handed_of seen journal) line.front (done_of seen journal) stands.told (journal.staged, refl)) in
    subst (λ (k : Keeping D). Tells k.line.opening (done_of seen k.journal) (take kept k.line.front)) is told

-- each crash leaves the lines of a beginning
pub shows_crash : {D : Type 0} (seen : D → List ℕ) (may_leave : D → List ℕ → Type 0) (moment : D → ℕ) (left_since : D → ℕ → List ℕ → Type 0) (journal : Journal D) (line : Sight) (kept : ℕ) (opened : D) (keeper : Keeping D)
    → StandsFor seen may_leave moment left_since journal line kept opened → shown journal line kept opened ≡ keeper
    → (c : List ℕ) → left_since keeper.journal.device (moment keeper.opened) c → TellsBeginning keeper.line.opening c keeper.line.front
shows_crash {D} seen may_leave moment left_since journal line kept opened keeper stands is =
    subst (λ (k : Keeping D). (c : List ℕ) → left_since k.journal.device (moment k.opened) c → TellsBeginning k.line.opening c k.line.front) is
    (λ c left. tells_beginning line.opening (handed_of seen journal) line.front c stands.told (stands.lasts.lasts c left).1)

-- what a seat has seen that has no more changes than are kept
pub shows_has : {D : Type 0} (seen : D → List ℕ) (may_leave : D → List ℕ → Type 0) (moment : D → ℕ) (left_since : D → ℕ → List ℕ → Type 0) (journal : Journal D) (line : Sight) (kept : ℕ) (opened : D) (keeper : Keeping D) (other : List Change)
    → StandsFor seen may_leave moment left_since journal line kept opened → shown journal line kept opened ≡ keeper → length other ≤ kept → IsPrefix line.front other ⊎ IsPrefix other line.front
    → IsPrefix other (take keeper.kept keeper.line.front)
shows_has {D} seen may_leave moment left_since journal line kept opened keeper other stands is short either =
    subst (λ (k : Keeping D). IsPrefix other (take k.kept k.line.front)) is
    (begins_kept line.front other kept (kept_within seen may_leave moment left_since journal line kept opened stands) short either)

-- ---- a turn

pub stands_turned : {D : Type 0} (seen : D → List ℕ) (may_leave : D → List ℕ → Type 0) (moment : D → ℕ) (left_since : D → ℕ → List ℕ → Type 0) (old new : Journal D) (s t : Sight) (kept now : ℕ) (opened : D)
    (given : Option Taken) (taken : Taken) (edits : List Edit) (batch : List (List ℕ))
    → StandsFor seen may_leave moment left_since old s kept opened → TakesAt s t given → given ≡ Some taken → taken.before ≡ now → now ≡ length s.front → edits ≡ taken.edits.items
    → ((x : Contents) (cs : List Change) → Makes x edits cs → Tells x batch cs)
    → IsSettled seen may_leave new → done_of seen new ≡ done_of seen old ++ old.staged → new.staged ≡ batch
    → ((since : ℕ) (known : List (List ℕ)) → HasKept seen moment left_since old since known → HasKept seen moment left_since new since known)
    → StandsFor seen may_leave moment left_since new t now opened
stands_turned seen may_leave moment left_since old new s t kept now opened given taken edits batch stands takes some at number listed told settled done staged keeps =
    let takes' : TakesAt s t (Some taken) = subst (TakesAt s t) some takes in
    let texts : (x : Contents) (cs : List Change) → Makes x taken.edits.items cs → Tells x new.staged cs =
    λ x cs makes. subst (λ (ls : List (List ℕ)). Tells x ls cs) (sym staged) (told x cs (subst (λ (es : List Edit). Makes x es cs) (sym listed) makes)) in
    subst (λ (n : ℕ). StandsFor seen may_leave moment left_since new t n opened) (sym number)
    (stands_next seen may_leave moment left_since old new s t kept opened taken.edits.items taken.before stands settled done texts takes'.0 takes'.1 (at ∙ number) keeps)

-- what is known of a journal is known of the same one
pub kept_along : {D : Type 0} (seen : D → List ℕ) (moment : D → ℕ) (left_since : D → ℕ → List ℕ → Type 0) (a b : Journal D) (since : ℕ) (known : List (List ℕ))
    → a ≡ b → HasKept seen moment left_since a since known → HasKept seen moment left_since b since known
kept_along {D} seen moment left_since a b since known same kept = subst (λ (j : Journal D). HasKept seen moment left_since j since known) same kept

-- a line that goes on, and goes on again
pub goes_on_both : (s t u : Sight) → GoesOn s t → GoesOn t u → GoesOn s u
goes_on_both s t u a b = (
  prefix_trans s.front t.front u.front a.0 b.0,
  (
    subst (λ (d : Contents). AllFit d u.front) (ap (λ (x : Sight). x.opening) a.2) b.1.0,
    subst (λ (n : ℕ). length u.front ≤ n) (ap (λ (x : Sight). x.limit) a.2) b.1.1,
  ),
  b.2 ∙ ap (λ (x : Sight). with_front x u.front) a.2,
)

-- ---- an opening

same_front : (m t : Sight) → GoesOn m t → length t.front ≡ length m.front → t.front ≡ m.front
same_front m t goes same = sym (prefix_whole m.front t.front goes.0 (omega arith))

-- a line at its beginning that was replayed, and edited by nobody else
pub told_from_start : (s m t : Sight) (ls : List (List ℕ)) → s.front ≡ [] → Replays s ls m → GoesOn m t → length t.front ≡ length m.front → Tells s.opening ls t.front
told_from_start s m t ls empty replays goes same =
    let told : Tells s.opening ls replays.0 = subst (λ (h : List Change). Tells (replay_of s.opening h) ls replays.0) empty replays.1 in
    let front : t.front ≡ replays.0 = same_front m t goes same ∙ ap (λ (x : Sight). x.front) replays.2 ∙ ap (λ h. h ++ replays.0) empty in
    subst (Tells s.opening ls) (sym front) told

pub stands_opened : {D : Type 0} (seen : D → List ℕ) (may_leave : D → List ℕ → Type 0) (moment : D → ℕ) (left_since : D → ℕ → List ℕ → Type 0) (journal : Journal D) (s m t : Sight) (ls : List (List ℕ)) (kept : ℕ) (device opened : D)
    → opened ≡ journal.device → IsSettled seen may_leave journal → done_of seen journal ≡ recovered (seen device) → journal.staged ≡ [] → ls ≡ recovered (seen device)
    → s.front ≡ [] → Replays s ls m → GoesOn m t → length t.front ≡ length m.front → kept ≡ length m.front
    → ((known : List (List ℕ)) → IsPrefix known (recovered (seen device)) → HasKept seen moment left_since journal (moment journal.device) known)
    → StandsFor seen may_leave moment left_since journal t kept opened
stands_opened {D} seen may_leave moment left_since journal s m t ls kept device opened is settled done staged lines empty replays goes same number keeps =
    let opening : t.opening ≡ s.opening = ap (λ (x : Sight). x.opening) goes.2 ∙ ap (λ (x : Sight). x.opening) replays.2 in
    let told : Tells t.opening (recovered (seen journal.device)) t.front = subst (λ (d : Contents). Tells d (recovered (seen journal.device)) t.front) (sym opening)
    (subst (λ (x : List (List ℕ)). Tells s.opening x t.front) (lines ∙ sym done) (told_from_start s m t ls empty replays goes same)) in
    subst (λ (o : D). StandsFor seen may_leave moment left_since journal t kept o) (sym is)
    (stands_first seen may_leave moment left_since journal t kept journal.device settled refl staged told (number ∙ sym same)
    (keeps (recovered (seen journal.device)) ([], append-nil (recovered (seen journal.device)) ∙ done)))

-- ---- numbers

on_true : (b : Bool) (P : Type 0) → (b ≡ true → P) → OnTrue b P
on_true true P f = f refl
on_true false P f = tt

pub on_leb : (m n : ℕ) (P : Type 0) → (m ≤ n → P) → OnTrue (leb m n) P
on_leb m n P f = on_true (leb m n) P (λ e. f (leb-true m n e))
