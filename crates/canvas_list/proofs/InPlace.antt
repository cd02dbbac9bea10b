-- A table after a change in place of one of its parts.
use Rattle.std.proofs.Common.{◌≡◌, ◌∙◌, ℕ, ◌+◌, ◌-◌, ◌<◌, ◌≤◌, ◌^◌, Bool, true, false, List, ◌++◌, take, drop, set, refl, sym, ap, arith, length, get_or}
use Rattle.std.proofs.lemmas.List.{append_assoc, drop-set-lt, get_or-set_same, length-append, take-set}
use Rattle.std.proofs.lemmas.List.Edits.{length-insert, length-remove}
use Rattle.std.proofs.lemmas.List.Elements.{All-set}
use Rattle.std.proofs.Math.ListN.{length-set}
use Rattle.canvas_list.specs.declared.in_place.ItemChange.{ItemChange}
use Rattle.canvas_list.specs.declared.in_place.ItemChange.TheVariants.{Replace, Remove, Insert}
use Rattle.canvas_list.specs.Changed.{changed_if, IsPositionOf}
use Rattle.canvas_list.specs.Chunks.{joined, IsSpot, IsTable}
use Rattle.canvas_list.proofs.Blocks.{of-block}
use Rattle.canvas_list.proofs.Joined.{len-is, split_at}
use Rattle.canvas_list.proofs.Spliced.{inserted, removed, replaced, IsOfSpot}

-- the items of a table, one of whose parts is another
pub other-part : {X : Type 0} (cs : List (List X)) (k : ℕ) (new : List X) → k < length cs → joined (set cs k new) ≡ joined (take k cs) ++ new ++ joined (drop (k + 1) cs)
other-part cs k new h =
    split_at (set cs k new) k new (omega (arith, length-set cs k new))
    ∙ ap (λ l. joined l ++ (get_or (set cs k new) k new ++ joined (drop (k + 1) (set cs k new)))) (take-set cs k new)
    ∙ ap (λ l. joined (take k cs) ++ (l ++ joined (drop (k + 1) (set cs k new)))) (get_or-set_same cs k new new h)
    ∙ ap (λ l. joined (take k cs) ++ (new ++ joined l)) (drop-set-lt (k + 1) cs k new (omega arith))
    ∙ sym (append_assoc (joined (take k cs)) new (joined (drop (k + 1) cs)))

-- what is found of a position of a list, and that a change may be made there
pub record IsChangedPart {X : Type 0} (cs : List (List X)) (xs : List X) (n k s at : ℕ) (c : List X) (change : ItemChange X) : Type 0 where
  pub table : IsTable cs n
  pub all : joined cs ≡ xs
  pub spot : IsOfSpot cs xs k s at c
  pub is : c ≡ get_or cs k c
  pub place : IsPositionOf change at xs

pub changed-part : {X : Type 0} (cs rs : List (List X)) (xs : List X) (n k s at : ℕ) (c : List X) (change : ItemChange X) → IsTable cs n → rs ≡ cs → IsSpot length rs at k s → joined cs ≡ xs → c ≡ get_or cs k c → IsPositionOf change at xs → IsChangedPart cs xs n k s at c change
changed-part cs rs xs n k s at c change table same spot all is place =
    record { table = table; all = all; spot = of-block cs rs xs n k s at c c table same spot all is refl; is = is; place = place }

module _ {X : Type 0} (cs : List (List X)) (xs : List X) (n k s at : ℕ) (c : List X) where
  -- how many items stand before the part, in it and behind it
  counts : (change : ItemChange X) → IsChangedPart cs xs n k s at c change → n ≡ length (joined (take k cs)) + (length c + length (joined (drop (k + 1) cs)))
  counts change p =
      p.table.has_len
      ∙ ap length (split_at cs k c p.spot.within ∙ ap (λ l. joined (take k cs) ++ (l ++ joined (drop (k + 1) cs))) (sym p.is))
      ∙ length-append (joined (take k cs)) (c ++ joined (drop (k + 1) cs))
      ∙ ap (λ m. length (joined (take k cs)) + m) (length-append c (joined (drop (k + 1) cs)))

  pub part-fewer : (change : ItemChange X) → IsChangedPart cs xs n k s at c change → length c ≤ n
  part-fewer change p = omega (arith, counts change p)

  -- the change may be made in the part
  pub place-in : (change : ItemChange X) → IsChangedPart cs xs n k s at c change → IsPositionOf change (at - s) c
  place-in (Replace item) p = p.spot.place.before p.place
  place-in Remove p = p.spot.place.before p.place
  place-in (Insert item) p = (p.spot.place.behind p.place.0, omega (arith, part-fewer (Insert item) p, len-is cs n xs p.table p.all, p.place.1))

  -- the table has the items after the change
  pub items-after : (made : Bool) (change : ItemChange X) (new : List X) → IsChangedPart cs xs n k s at c change → new ≡ changed_if made change (at - s) c → joined (set cs k new) ≡ changed_if made change at xs
  items-after false change new p e =
      other-part cs k new p.spot.within
      ∙ ap (λ l. joined (take k cs) ++ l ++ joined (drop (k + 1) cs)) (e ∙ p.is)
      ∙ append_assoc (joined (take k cs)) (get_or cs k c) (joined (drop (k + 1) cs))
      ∙ sym (split_at cs k c p.spot.within)
      ∙ p.all
  items-after true (Replace item) new p e = other-part cs k new p.spot.within ∙ replaced cs cs xs k (k + 1) s at c new item p.spot.part p.spot.place refl e p.place
  items-after true Remove new p e = other-part cs k new p.spot.within ∙ removed cs cs xs k (k + 1) s at c new p.spot.part p.spot.place refl e p.place
  items-after true (Insert item) new p e = other-part cs k new p.spot.within ∙ inserted cs cs xs k (k + 1) s at c new item p.spot.part p.spot.place refl e p.place.0

  -- no more items than a table may have
  still-few : (made : Bool) (change : ItemChange X) (new : List X) → IsChangedPart cs xs n k s at c change → new ≡ changed_if made change (at - s) c → n - length c + length new < 2 ^ 32
  still-few false change new p e = omega (arith, ap length e, p.table.is_small, part-fewer change p)
  still-few true (Replace item) new p e = omega (arith, ap length e ∙ length-set c (at - s) item, p.table.is_small, part-fewer (Replace item) p)
  still-few true Remove new p e = omega (arith, ap length e, length-remove c (at - s) (place-in Remove p), p.table.is_small, part-fewer Remove p)
  still-few true (Insert item) new p e = omega (arith, ap length e ∙ length-insert c (at - s) item (place-in (Insert item) p).0, len-is cs n xs p.table p.all, p.place.1, part-fewer (Insert item) p)

  pub table-after : (made : Bool) (change : ItemChange X) (new : List X) (before after : ℕ) → IsChangedPart cs xs n k s at c change → new ≡ changed_if made change (at - s) c → before ≡ length c → after ≡ length new → 0 < after → IsTable (set cs k new) (n - before + after)
  table-after made change new before after p e b a some =
      let has : List X → Type 0 = λ d. 0 < length d in
      let long : length (joined (set cs k new)) ≡ length (joined (take k cs)) + length new + length (joined (drop (k + 1) cs)) =
      ap length (other-part cs k new p.spot.within)
      ∙ length-append (joined (take k cs) ++ new) (joined (drop (k + 1) cs))
      ∙ ap (λ m. m + length (joined (drop (k + 1) cs))) (length-append (joined (take k cs)) new) in
      record {
        some = All-set has cs k new (omega arith) p.table.some;
        has_len = omega (arith, long, counts change p);
        is_small = omega (arith, still-few made change new p e);
      }
