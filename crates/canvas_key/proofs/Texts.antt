-- The text that is written below a key, and the room for it.
use Rattle.std.proofs.Common.{◌≡◌, ◌≢◌, ℕ, ◌+◌, ◌-◌, ◌<◌, ◌≤◌, false, List, [], ◌++◌, Some, None, sym, ap, ◌∙◌, subst, arith, length, get_or}
use Rattle.std.proofs.lemmas.Bool.{cond-false}
use Rattle.std.proofs.lemmas.List.{at_drop_more, drop_all}
use Rattle.canvas_key.specs.Text.{IsKey, integer_part, integer_part_len, fraction, least_part, is_same}
use Rattle.canvas_key.specs.Part.{IsPart}
use Rattle.canvas_key.specs.Rank.{part_before}
use Rattle.canvas_key.specs.Middle.{midpoint}
use Rattle.canvas_key.specs.Between.{or_split, text_below, text_between}
use Rattle.canvas_key.proofs.Keys.{key-sound, part-length}
use Rattle.canvas_key.proofs.Parts.{part-long}

below-other : (high out : List ℕ) → is_same (integer_part high) least_part ≡ false → out ≡ text_below high (fraction high) → out ≡ text_between None (Some high)
below-other high out n e =
    e ∙ sym (cond-false (is_same (integer_part high) least_part) (least_part ++ midpoint [] (Some (fraction high))) (text_below high (fraction high)) n)

-- a key that is an integer part alone
pub below-whole : (high part out : List ℕ) (n : ℕ) → part ≡ integer_part high → is_same part least_part ≡ false → n ≡ length part → length part ≡ integer_part_len (get_or high 0 0) → n ≡ length high → out ≡ or_split (part_before part) high → out ≡ text_between None (Some high)
below-whole high part out n e other l k h o =
    let all : length high ≤ integer_part_len (get_or high 0 0) = omega (arith, l, k, h) in
    below-other high out (ap (λ p. is_same p least_part) (sym e) ∙ other)
    (o ∙ ap (λ p. or_split (part_before p) high) e ∙ sym (ap (text_below high) (drop_all (integer_part_len (get_or high 0 0)) high all)))

-- a key that goes on after its integer part
pub below-longer : (high part out : List ℕ) (n : ℕ) → part ≡ integer_part high → is_same part least_part ≡ false → n ≡ length part → length part ≡ integer_part_len (get_or high 0 0) → length part ≤ length high → n ≢ length high → out ≡ part → out ≡ text_between None (Some high)
below-longer high part out n e other l k m h o =
    let more : integer_part_len (get_or high 0 0) < length high = omega (arith, l, k, m, h) in
    below-other high out (ap (λ p. is_same p least_part) (sym e) ∙ other)
    (o ∙ e ∙ sym (at_drop_more (text_below high) high (integer_part_len (get_or high 0 0)) 0 more))

room : (m k n : ℕ) → n ≡ m → m ≤ 27 → k ≤ 128 → m + (k - n) < 129
room m k n e h l = omega arith

-- an integer part, and what a key has behind one as long
pub room-beside : (part key : List ℕ) (n : ℕ) → IsPart part → IsKey key → n ≡ length part → length part + (length key - n) < 129
room-beside part key n p k e = room (length part) (length key) n e (part-length part p) (key-sound key k).1

pub room-alone : (part : List ℕ) (n : ℕ) → IsPart part → n ≡ length part → length part + (0 - n) < 129
room-alone part n p e = room (length part) 0 n e (part-length part p) (omega arith)

pub some-long : (part : List ℕ) (n : ℕ) → IsPart part → n ≡ length part → 0 < n
some-long part n p e = subst (λ k. 0 < k) (sym e) (part-long part p)
