-- The text of a saved document is the compact text of the document's JSON value.
use Rattle.std.proofs.Common.{◌≡◌, ◌∙◌, ◌++◌, ℕ, Bool, true, false, List, [], ◌∷◌, map, refl, sym, ap, append_assoc, All, decimal, Bor, lit<}
use Rattle.std.specs.Prelude.{codes}
use Rattle.std.specs.List.{AllByRecursion}
use Rattle.std.proofs.lemmas.Fmt.{decimal_digit}
use Rattle.std.proofs.lemmas.List.Elements.{recursion_from_All}
use Rattle.json.specs.Print.{escape_byte}
use Rattle.serde_json.specs.Data.{Items}
use Rattle.serde_json.specs.View.{items_of}
use Rattle.serde_json.specs.Written.{compact_text, items_text}
use Rattle.canvas_key.specs.Text.{IsKey}
use Rattle.canvas_record.specs.declared.records.Place.{Place}
use Rattle.canvas_record.specs.declared.records.Record.{Record}
use Rattle.canvas_record.specs.Tree.{IsInLimits}
use Rattle.canvas_json.specs.Saved.{place_data, saved_text_of}
use Rattle.canvas_json.specs.Texts.{list_text}
use Rattle.canvas_json.proofs.Spelled.{boolean-spelled, key-spelled, parent-spelled, pose-spelled, kind-spelled, item-spelled, two-laid, five-laid}
use Rattle.canvas_saved.specs.declared.formats.Format.TheVariants.{Two}
use Rattle.canvas_saved.specs.Kept.{IsKept}
use Rattle.canvas_saved.specs.Saved.{record_data, document_data, contents_with}
use Rattle.canvas_saved.specs.SavedText.{place_text, record_text, document_text}

place-spelled : (place : Place) → IsKey place.index → place_text place ≡ compact_text (place_data place)
unfolding place_text escape_byte
place-spelled place key = two-laid (codes "{\"index\":") (codes ",\"parent\":") (codes "}") (key-spelled place.index key) (parent-spelled place.parent)

record-spelled : (r : Record) → IsKey r.place.index → IsKept r → record_text r ≡ compact_text (record_data Two r)
unfolding escape_byte
record-spelled r key kept =
    five-laid (codes "{\"hidden\":") (codes ",\"id\":") (codes ",\"place\":") (codes ",\"pose\":") (codes ",\"shape\":") (codes "}")
    (boolean-spelled r.hidden) refl (place-spelled r.place key) (pose-spelled r.pose) (kind-spelled r.kind kept.kind)

records-spelled : (later : Bool) (rs : List (Bor Record)) → AllByRecursion (λ r. IsInLimits r.now) rs → AllByRecursion (λ r. IsKept r.now) rs
    → list_text (λ r. record_text r.now) later rs ≡ items_text later (items_of (map (record_data Two) (map (λ r. r.now) rs)))
records-spelled later [] limits kept = refl
records-spelled later (r ∷ rs) limits kept = item-spelled later _ _ _ _ (record-spelled r.now limits.0.key kept.0) (records-spelled true rs limits.1 kept.1)

two : decimal 2 ≡ codes "2"
two = decimal_digit 2 (lit< tt)

document-pieces : (next shapes : List ℕ) → codes "{\"format\":2,\"next\":" ++ next ++ codes ",\"shapes\":[" ++ shapes ++ codes "}"
    ≡ codes "{\"format\":" ++ (codes "2" ++ (codes ",\"next\":" ++ (next ++ (codes ",\"shapes\":[" ++ (shapes ++ codes "}")))))
document-pieces next shapes = simp append_assoc

document-joined : (next : ℕ) (shapes : List ℕ) (items : Items) → shapes ≡ items_text false items
    → document_text next shapes ≡ compact_text (document_data Two next items)
unfolding escape_byte
document-joined next shapes items e =
    let rest : List ℕ = codes ",\"next\":" ++ (decimal next ++ (codes ",\"shapes\":[" ++ (shapes ++ codes "}"))) in
    document-pieces (decimal next) shapes ∙ ap (λ format. codes "{\"format\":" ++ (format ++ rest)) (sym two) ∙ rw e refl

pub document-json : (next : ℕ) (rs : List (Bor Record)) → All (λ r. IsInLimits r.now) rs → All (λ r. IsKept r.now) rs
    → document_text next (list_text (λ r. record_text r.now) false rs) ≡ saved_text_of (contents_with next rs)
document-json next rs limits kept =
    document-joined next _ _ (records-spelled false rs (recursion_from_All (λ r. IsInLimits r.now) rs limits) (recursion_from_All (λ r. IsKept r.now) rs kept))
