-- What a file shows and what a crash may leave of it, by the calls that were made, the last one first.
use Rattle.std.specs.Prelude.{◌≡◌, ◌⊎◌, ℕ, zero, suc, ◌+◌, ◌≤◌, Bool, true, false, List, [], ◌∷◌, ◌++◌, length, take, drop, if◌then◌else◌, MatchBool, Result, Ok, Err}
use Rattle.std.proofs.Common.{inl, inr, arith}
use Rattle.canvas_journal.specs.declared.device.DeviceError.{DeviceError}
use Rattle.canvas_journal.specs.declared.device.DeviceError.TheVariants.{Failed}
use Rattle.canvas_journal.specs.Device.{Torn}
use Rattle.canvas_journal_file.specs.Events.{Event}

pub data Call : Type 0 where
  -- at first it showed these bytes, whatever the disk has of it
  shown : List ℕ → Call
  wrote : ℕ → List ℕ → Bool → Call
  synced : Bool → Call
  -- it was not read
  unread : Call
  -- a new file was written beside it
  wrote_new : List ℕ → Bool → Call
  synced_new : Bool → Call
  -- the new file took its name, and its place
  named : Bool → Call

-- the call of an event's numbers
abbrev pub call_of : ℕ → ℕ → Bool → List ℕ → Call
call_of zero place done bytes = shown bytes
call_of (suc zero) place done bytes = wrote place bytes done
call_of (suc (suc zero)) place done bytes = synced done
call_of (suc (suc (suc zero))) place done bytes = unread
call_of (suc (suc (suc (suc zero)))) place done bytes = wrote_new bytes done
call_of (suc (suc (suc (suc (suc zero))))) place done bytes = synced_new done
call_of (suc (suc (suc (suc (suc (suc n)))))) place done bytes = named done

abbrev pub call_in : Event → Call
call_in e = call_of e.0 e.1 e.2 e.3

-- what the new file shows after a call
abbrev pub new_after : Call → List ℕ → List ℕ
new_after (wrote_new bytes done) new = if done then bytes else []
new_after _ new = new

-- what the disk may have of the new file after a call
abbrev pub new_leaves_after : Call → (List ℕ → Type 0) → List ℕ → List ℕ → Type 0
new_leaves_after (wrote_new bytes done) outcomes new c = Unit {0}
new_leaves_after (synced_new done) outcomes new c = outcomes c × MatchBool done (c ≡ new) (Unit {0})
new_leaves_after _ outcomes new c = outcomes c

-- what is seen after a call
abbrev pub seen_after : Call → List ℕ → List ℕ → List ℕ
seen_after (shown bytes) new seen = bytes
seen_after (wrote at bytes done) new seen = if done then take at seen ++ bytes ++ drop (at + length bytes) seen else seen
seen_after (named done) new seen = if done then new else seen
seen_after _ new seen = seen

-- what a crash may leave after a call
abbrev pub leaves_after : Call → (List ℕ → Type 0) → (List ℕ → Type 0) → List ℕ → List ℕ → Type 0
leaves_after (shown bytes) new_outcomes outcomes seen c = Unit {0}
leaves_after (wrote at bytes done) new_outcomes outcomes seen c = (d : List ℕ) × outcomes d × Torn at (length bytes) d c
leaves_after (synced done) new_outcomes outcomes seen c = outcomes c × MatchBool done (c ≡ seen) (Unit {0})
leaves_after (named done) new_outcomes outcomes seen c = MatchBool done (new_outcomes c) (outcomes c ⊎ new_outcomes c)
leaves_after _ new_outcomes outcomes seen c = outcomes c

-- whether it failed
abbrev pub fault_of : Call → ℕ
fault_of (shown bytes) = 0
fault_of (wrote at bytes done) = if done then 0 else 1
fault_of (synced done) = if done then 0 else 1
fault_of unread = 1
fault_of (wrote_new bytes done) = if done then 0 else 1
fault_of (synced_new done) = if done then 0 else 1
fault_of (named done) = if done then 0 else 1

-- the same of all calls that were made
abbrev pub new_of : List Event → List ℕ
new_of [] = []
new_of (e ∷ es) = new_after (call_in e) (new_of es)

abbrev pub new_leaves : List Event → List ℕ → Type 0
new_leaves [] c = Unit {0}
new_leaves (e ∷ es) c = new_leaves_after (call_in e) (new_leaves es) (new_of es) c

abbrev pub seen_of : List Event → List ℕ
seen_of [] = []
seen_of (e ∷ es) = seen_after (call_in e) (new_of es) (seen_of es)

abbrev pub may_leave : List Event → List ℕ → Type 0
may_leave [] c = Unit {0}
may_leave (e ∷ es) c = leaves_after (call_in e) (new_leaves es) (may_leave es) (seen_of es) c

abbrev pub faults_of : List Event → ℕ
faults_of [] = 0
faults_of (e ∷ es) = faults_of es + fault_of (call_in e)

-- at some moment from t on
abbrev pub left_since : List Event → ℕ → List ℕ → Type 0
left_since [] t c = t ≤ 0
left_since (e ∷ es) t c = ((t ≤ length (e ∷ es)) × may_leave (e ∷ es) c) ⊎ left_since es t c

-- what is answered of a call
abbrev pub answer_of : Bool → Result (Unit {0}) DeviceError
answer_of true = Ok tt
answer_of false = Err Failed

pub counts : (es : List Event) (t : ℕ) (c : List ℕ) → t ≤ length es → may_leave es c → left_since es t c
counts [] t c le now = le
counts (e ∷ es) t c le now = inl (le, now)

within : (es : List Event) (t : ℕ) (c : List ℕ) → left_since es t c → t ≤ length es
within [] t c left = left
within (e ∷ es) t c (inl now) = now.0
within (e ∷ es) t c (inr before) = omega (arith, within es t c before)

pub only : (es : List Event) (c : List ℕ) → left_since es (length es) c → may_leave es c
only [] c left = tt
only (e ∷ es) c (inl now) = now.1
only (e ∷ es) c (inr before) = absurd (omega (arith, within es (length (e ∷ es)) c before))
