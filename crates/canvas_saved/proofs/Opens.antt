-- A document's JSON value opens as that document.
use Rattle.std.proofs.Common.{◌≡◌, ℕ, suc, ◌+◌, ◌^◌, ◌<◌, ◌≤◌, true, List, [], ◌∷◌, map, length, Some, Ok, refl, ap, arith, All, Bor, get_or, take, subst}
use Rattle.std.specs.Prelude.{nat_lt, nat_le, ◌&&◌}
use Rattle.std.specs.List.{AllByRecursion}
use Rattle.std.proofs.lemmas.Bool.{lt-ltb, le-leb, and_from}
use Rattle.std.proofs.lemmas.List.Elements.{recursion_from_All, All-nil, All-cons, All-head, All-tail, All-map, All-more}
use Rattle.serde_json.specs.Data.{Data, number, unsigned}
use Rattle.serde_json.specs.Events.{items_len}
use Rattle.serde_json.specs.View.{items_of}
use Rattle.canvas_plane.specs.Limits.{is_pose}
use Rattle.canvas_plane.specs.Motion.{reach_of}
use Rattle.canvas_shape.specs.Limits.{has_sides, has_vertices}
use Rattle.canvas_shape.proofs.Limits.{sound-sides, sound-vertices}
use Rattle.canvas_record.specs.declared.records.Record.{Record}
use Rattle.canvas_record.specs.Contents.{Contents, IsWellFormed}
use Rattle.canvas_record.specs.Restored.{is_record}
use Rattle.canvas_record.specs.Tree.{IsInLimits}
use Rattle.canvas_doc.proofs.restoring.Saved.{restoration_of-same}
use Rattle.canvas_saved.specs.declared.formats.Format.{Format}
use Rattle.canvas_saved.specs.declared.formats.Format.TheVariants.{One, Two}
use Rattle.canvas_saved.specs.declared.formats.Head.{Head}
use Rattle.canvas_saved.specs.Formats.{number_of, most_of}
use Rattle.canvas_json.specs.Json.{has_others}
use Rattle.canvas_saved.specs.Kept.{IsKept}
use Rattle.canvas_saved.specs.Opened.{format_of, head_of, shapes_of, records_from, records_in, records_read, opened}
use Rattle.canvas_saved.specs.Records.{element_of}
use Rattle.canvas_saved.specs.Saved.{record_data, data_in, text_in}
use Rattle.canvas_json.proofs.Json.{json_some}
use Rattle.canvas_json.proofs.Back.{u32-back}
use Rattle.canvas_saved.proofs.ReadBack.{kept-back, data-written, data-shallow}
use Rattle.canvas_json.proofs.RoundTrip.{text-reads}

items-length : (f : Record → Data) (rs : List Record) → items_len (items_of (map f rs)) ≡ length rs
items-length f [] = refl
items-length f (r ∷ rs) = ap suc (items-length f rs)

within : (next : ℕ) (r : Record) → (1 ≤ r.id) × (r.id < next) → IsInLimits r → is_record next r ≡ true
within next r ids limits =
    and_from (nat_le 1 r.id && nat_lt r.id next) (is_pose r.pose && (has_sides r.kind && has_vertices r.kind))
    (and_from (nat_le 1 r.id) (nat_lt r.id next) (le-leb 1 r.id ids.0) (lt-ltb r.id next ids.1))
    (and_from (is_pose r.pose) (has_sides r.kind && has_vertices r.kind)
    (and_from (nat_le r.pose.quarter 3) (nat_le (reach_of r.pose) (2 ^ 20)) (le-leb r.pose.quarter 3 limits.quarter) (le-leb (reach_of r.pose) (2 ^ 20) limits.reach))
    (and_from (has_sides r.kind) (has_vertices r.kind) (sound-sides r.kind limits.kind) (sound-vertices r.kind limits.kind)))

element-back : (head : Head) (r : Record) → head.next < 2 ^ 32 → (1 ≤ r.id) × (r.id < head.next) → IsInLimits r → IsKept r → element_of head (record_data head.format r) ≡ Some r
unfolding element_of
element-back head r below ids limits kept =
    let id : r.id < head.next = ids.1 in
    rw (kept-back r (omega arith) limits kept head.format, within head.next r ids limits) refl

records-back : (head : Head) (at : ℕ) (rs : List Record) → head.next < 2 ^ 32 → AllByRecursion (λ r. (1 ≤ r.id) × (r.id < head.next)) rs → AllByRecursion IsInLimits rs → AllByRecursion IsKept rs
    → records_from head at (items_of (map (record_data head.format) rs)) ≡ Ok rs
records-back head at [] below ids limits kept = refl
records-back head at (r ∷ rs) below ids limits kept =
    rw (element-back head r below ids.0 limits.0 kept.0, records-back head (at + 1) rs below ids.1 limits.1 kept.1) refl

format-back : (format : Format) → format_of (number (unsigned (number_of format))) ≡ Some format
unfolding format_of
format-back One = rw (u32-back 1 (omega arith)) refl
format-back Two = rw (u32-back 2 (omega arith)) refl

head-back : (format : Format) (d : Contents) → 1 ≤ d.next → d.next < 2 ^ 32 → head_of (data_in format d) ≡ Some (record { format = format; next = d.next })
unfolding head_of has_others
head-back format d least most = rw (format-back format, u32-back d.next most, le-leb 1 d.next least) refl

shapes-back : (format : Format) (d : Contents) → length d.records ≤ most_of format → shapes_of format (data_in format d) ≡ Some (items_of (map (record_data format) d.records))
unfolding shapes_of
shapes-back format d few = rw (items-length (record_data format) d.records, le-leb (length d.records) (most_of format) few) refl

data-back : (d : Contents) → IsWellFormed d → All IsKept d.records → (format : Format) → length d.records ≤ most_of format → records_in (data_in format d) ≡ Ok d
unfolding records_in
data-back d well kept format few =
    rw (
      head-back format d well.next_above well.next_below,
      shapes-back format d few,
      records-back (record { format = format; next = d.next }) 0 d.records well.next_below (recursion_from_All _ d.records well.ids) (recursion_from_All _ d.records well.limits) (recursion_from_All IsKept d.records kept),
    ) refl

-- the text of a document in a format that has room for it is read as its records
pub text-read_back : (format : Format) (d : Contents) → IsWellFormed d → All IsKept d.records → length d.records ≤ most_of format → records_read (text_in format d) ≡ Ok d
unfolding records_read
text-read_back format d well kept few =
    let written = data-written format d well kept in
    rw (json_some (text_in format d) (data_in format d) written.text (text-reads (data_in format d) written (data-shallow format d))) (data-back d well kept format few)

-- it opens as the document
pub text-opens : (format : Format) (d : Contents) → IsWellFormed d → All IsKept d.records → length d.records ≤ most_of format → opened (text_in format d) ≡ Ok d
unfolding opened
text-opens format d well kept few = rw (text-read_back format d well kept few, restoration_of-same d well) refl

-- ---- references to a document's records, in order

-- what holds of each value under a map
All-under : {X Y : Type 0} (P : X → Type 0) (f : Y → X) (ys : List Y) → All P (map f ys) → All (λ y. P (f y)) ys
All-under P f [] h = All-nil (λ y. P (f y))
All-under P f (y ∷ ys) h = All-cons (λ y. P (f y)) y ys (All-head P (f y) (map f ys) h) (All-under P f ys (All-tail P (f y) (map f ys) h))

pub limits-held : (rs : List (Bor Record)) → All IsInLimits (map (λ r. r.now) rs) → All (λ r. IsInLimits r.now) rs
limits-held rs limits = All-under IsInLimits (λ r. r.now) rs limits

pub kept-held : (rs : List (Bor Record)) → All (λ r. IsKept r.now) rs → All IsKept (map (λ r. r.now) rs)
kept-held rs kept = All-map IsKept (λ r. r.now) rs kept

-- one more record that is kept
pub kept-more : (rs : List (Bor Record)) (i : ℕ) (x : Bor Record) → i < length rs → x ≡ get_or rs i x → All (λ r. IsKept r.now) (take i rs) → IsKept x.now
    → All (λ r. IsKept r.now) (take (i + 1) rs)
kept-more rs i x within is kept here =
    let P : Bor Record → Type 0 = λ r. IsKept r.now in
    All-more P rs i x within kept (subst P is here)
