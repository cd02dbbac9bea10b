-- The damage that a log tells, as it goes on.
use Rattle.std.proofs.Common.{◌≡◌, ℕ, ◌+◌, ◌<◌, ◌≤◌, List, [], ◌++◌, length, take, refl, sym, ap, ◌∙◌, subst, arith, append_assoc}
use Rattle.circular_buffer.specs.Buffer.{Buffer, buffer, keep_last}
use Rattle.canvas_record.specs.Contents.{Contents}
use Rattle.canvas_record.specs.History.{replay_of}
use Rattle.canvas_line.specs.declared.recent.Damage.{Damage}
use Rattle.canvas_line.specs.declared.version.Version.{Version}
use Rattle.canvas_line.specs.Lines.{Sight}
use Rattle.canvas_line.specs.Recent.{damages_from}
use Rattle.canvas_line.specs.Seats.{Begins}
use Rattle.canvas_line.specs.Standing.{IsVersionOf}
use Rattle.canvas_line.proofs.Recently.{damages-append, length-damages}
use Rattle.canvas_board.specs.Kept.{IsEndOf}
use Rattle.canvas_board.proofs.Ends.{Ends, end-cut-twice, end-more}
use Rattle.canvas_board.proofs.Lasting.{version-tells}

-- two lists put on a buffer one after another leave an end of what it would be with both
pub told-end : (start mid end : Buffer Damage) (older newer whole : List Damage) → Ends (start.items ++ (older ++ newer)) whole
    → mid ≡ buffer (keep_last start.capacity (start.items ++ older)) start.capacity → end ≡ buffer (keep_last mid.capacity (mid.items ++ newer)) mid.capacity → Ends end.items whole
told-end start mid end older newer whole is one two =
    let c : ℕ = start.capacity in
    let first : List Damage = start.items ++ older in
    let joined : Ends (first ++ newer) whole = subst (λ (e : List Damage). Ends e whole) (sym (append_assoc start.items older newer)) is in
    let items : mid.items ≡ keep_last c first = ap (λ (b : Buffer Damage). b.items) one in
    let room : mid.capacity ≡ c = ap (λ (b : Buffer Damage). b.capacity) one in
    let last : end.items ≡ keep_last c (keep_last c first ++ newer) =
    ap (λ (b : Buffer Damage). b.items) two ∙ ap (λ (n : ℕ). keep_last n (mid.items ++ newer)) room ∙ ap (λ (xs : List Damage). keep_last c (xs ++ newer)) items in
    subst (λ (e : List Damage). Ends e whole) (sym last) (end-cut-twice c first newer whole joined)

-- a log begins with what a version tells
pub log-begins : (s : Sight) (v : Version) (start mid end : Buffer Damage) (older newer : List Damage) → IsVersionOf s.opening s.limit s.front v → older ++ newer ≡ v.recent → start.items ≡ []
    → mid ≡ buffer (keep_last start.capacity (start.items ++ older)) start.capacity → end ≡ buffer (keep_last mid.capacity (mid.items ++ newer)) mid.capacity → IsEndOf end.items s.opening s.front
log-begins s v start mid end older newer at is empty one two =
    let told : Ends (older ++ newer) (damages_from 0 s.opening s.front) = version-tells s s v (older ++ newer) at is refl in
    told-end start mid end older newer (damages_from 0 s.opening s.front) (subst (λ (e : List Damage). Ends (e ++ (older ++ newer)) (damages_from 0 s.opening s.front)) (sym empty) told) one two

-- and goes on to a later version: what is told again is cut off first, and all where some changes between are not told
pub log-goes-on : (s t : Sight) (v : Version) (n left : ℕ) (start cut mid end : Buffer Damage) (older newer : List Damage) → Begins s t → IsVersionOf t.opening t.limit t.front v → n ≡ length s.front
    → IsEndOf start.items s.opening s.front → older ++ newer ≡ v.recent → left ≤ length start.items → (0 < left → left + length v.recent + n ≡ length start.items + v.number)
    → cut ≡ buffer (take left start.items) start.capacity → mid ≡ buffer (keep_last cut.capacity (cut.items ++ older)) cut.capacity → end ≡ buffer (keep_last mid.capacity (mid.items ++ newer)) mid.capacity
    → IsEndOf end.items t.opening t.front
log-goes-on s t v n left start cut mid end older newer on at number before is within meets zero one two =
    let opening : t.opening ≡ s.opening = ap (λ (x : Sight). x.opening) on.1 in
    let old : List Damage = damages_from 0 s.opening s.front in
    let more : List Damage = damages_from (0 + length s.front) (replay_of s.opening s.front) on.0.0 in
    let parts : damages_from 0 t.opening t.front ≡ old ++ more =
    ap (λ (d : Contents). damages_from 0 d t.front) opening ∙ ap (damages_from 0 s.opening) (sym on.0.1) ∙ damages-append 0 s.opening s.front on.0.0 in
    let recent : Ends (older ++ newer) (old ++ more) = subst (λ (w : List Damage). Ends (older ++ newer) w) parts (version-tells t t v (older ++ newer) at is refl) in
    let told : length (older ++ newer) ≡ length v.recent = ap length is in
    let total : length (old ++ more) ≡ v.number = sym (ap length parts) ∙ length-damages 0 t.opening t.front ∙ sym at.number in
    let count : length old ≡ n = length-damages 0 s.opening s.front ∙ sym number in
    let both : Ends (take left start.items ++ (older ++ newer)) (old ++ more) = end-more start.items old (older ++ newer) more left before recent within (λ some. omega (arith, meets some, told, total, count)) in
    let items : cut.items ≡ take left start.items = ap (λ (b : Buffer Damage). b.items) zero in
    let whole : Ends end.items (old ++ more) = told-end cut mid end older newer (old ++ more) (subst (λ (e : List Damage). Ends (e ++ (older ++ newer)) (old ++ more)) (sym items) both) one two in
    subst (λ (w : List Damage). Ends end.items w) (sym parts) whole
