-- The names of members, against those that an object may have.
use Rattle.std.specs.Prelude.{◌≡◌, ℕ, List, [], ◌∷◌, map, Bool, not, ◌||◌, Option, Some, refl}
use Rattle.std.specs.List.{list_any}
use Rattle.std.specs.Option.{option_map_or}
use Rattle.std.specs.Str.{bytes_eq}
use Rattle.std.proofs.Common.{ap, ◌∙◌, sym}
use Rattle.json.specs.Json as json
use Rattle.serde_json.specs.Data.{Data, Members}
use Rattle.serde_json.specs.Find.{as_object}
use Rattle.canvas_json.specs.Json.{names_of, is_among, has_others}
use Rattle.canvas_json.specs.MemberNames.{given_names, HaveSameNames}

list_any-map : {X Y : Type 0} (p : Y → Bool) (f : X → Y) (xs : List X) → list_any p (map f xs) ≡ list_any (λ x. p (f x)) xs
list_any-map p f [] = refl
list_any-map p f (x ∷ xs) = ap (λ b. p (f x) || b) (list_any-map p f xs)

list_any-same : {X : Type 0} (p q : X → Bool) (same : (x : X) → p x ≡ q x) (xs : List X) → list_any p xs ≡ list_any q xs
list_any-same p q same [] = refl
list_any-same p q same (x ∷ xs) = rw (same x, list_any-same p q same xs) refl

-- a test of the names in a text is the test of its object's names
pub has_others_of_members : {R : Type 0} (text : R → List ℕ) (names : List R) (d : Data) (given : json.Members) (ms : Members) (r : Bool)
    → as_object d ≡ Some ms → HaveSameNames given ms
    → r ≡ list_any (λ name. not (list_any (λ n. bytes_eq (text n) name) names)) (given_names given)
    → r ≡ has_others (map text names) d
unfolding has_others
has_others_of_members text names d given ms r e same is =
    is
    ∙ list_any-same (λ name. not (list_any (λ n. bytes_eq (text n) name) names)) (λ name. not (is_among (map text names) name)) (λ name. ap not (sym (list_any-map (λ n. bytes_eq n name) text names))) (given_names given)
    ∙ same (λ name. not (is_among (map text names) name)) ∙ ap (λ (o : Option Members). list_any (λ name. not (is_among (map text names) name)) (option_map_or names_of o [])) (sym e)
