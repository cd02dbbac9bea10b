-- Which objects inside a request of each verb can have extra members, once the request has none itself.
use Rattle.std.proofs.Common.{◌≡◌, ℕ, List, Bool, true, false, ◌||◌, not, Some, None, Ordering, Less, Equal, Greater, is_eq, nat_cmp, refl, sym, ap, ◌∙◌}
use Rattle.std.specs.Prelude.{codes}
use Rattle.std.specs.Cmp.Lexicographic.{slice_cmp}
use Rattle.std.specs.List.{list_any}
use Rattle.std.specs.Option.{option_map_or}
use Rattle.std.specs.Ordering.{match_ordering}
use Rattle.std.proofs.lemmas.Bool.{or_parts, not-false, false≢true}
use Rattle.std.proofs.lemmas.Map.Text.{is_eq-slice_cmp}
use Rattle.std.proofs.lemmas.Slice.Eq.{bytes_eq-Decides}
use Rattle.serde_json.specs.Data.{Data, null, boolean, number, string, array, object, Members, no_members, member}
use Rattle.serde_json.specs.Find.{get, get_member}
use Rattle.canvas_json.specs.Json.{names_of, is_among, has_others}
use Rattle.canvas_wire.specs.declared.verb.Verb.{Verb}
use Rattle.canvas_wire.specs.declared.verb.Verb.TheVariants.{Create, Move, Pose, Reshape, Show, Delete, Respace, Tile, Patch, Point, Export}
use Rattle.canvas_wire.specs.Extra.{pose_has_extra, shape_has_extra, spot_has_extra, inside, inside_of, has_extra}
use Rattle.canvas_wire.specs.Verbs.{verb_members}

-- ---- names that an object does not have

absent-at : (o : Ordering) (names : List (List ℕ)) (name l : List ℕ) (e : Data) (ms : Members) → slice_cmp nat_cmp name l ≡ o → is_among names name ≡ false → is_among names l ≡ true
    → get_member name ms ≡ None → match_ordering o (get_member name ms) (Some e) (get_member name ms) ≡ None
absent-at Less names name l e ms is out among later = later
absent-at Equal names name l e ms is out among later =
    let same : name ≡ l = (bytes_eq-Decides name l).0 (sym (is_eq-slice_cmp name l) ∙ ap is_eq is) in
    absurd (false≢true (sym out ∙ ap (is_among names) same ∙ among))
absent-at Greater names name l e ms is out among later = later

absent-member : (names : List (List ℕ)) (name : List ℕ) (ms : Members) → is_among names name ≡ false → list_any (λ other. not (is_among names other)) (names_of ms) ≡ false → get_member name ms ≡ None
absent-member names name no_members out none = refl
absent-member names name (member l e ms) out none =
    let parts = or_parts (not (is_among names l)) (list_any (λ other. not (is_among names other)) (names_of ms)) none in
    absent-at (slice_cmp nat_cmp name l) names name l e ms refl out (not-false (is_among names l) parts.0) (absent-member names name ms out parts.1)

absent : (names : List (List ℕ)) (name : List ℕ) (d : Data) → is_among names name ≡ false → has_others names d ≡ false → get name d ≡ None
unfolding has_others
absent names name null out none = refl
absent names name (boolean b) out none = refl
absent names name (number n) out none = refl
absent names name (string s) out none = refl
absent names name (array ds) out none = refl
absent names name (object ms) out none = absent-member names name ms out none

none_inside : (names : List (List ℕ)) (extra : Data → Bool) (name : List ℕ) (d : Data) → is_among names name ≡ false → has_others names d ≡ false → inside extra name d ≡ false
none_inside names extra name d out none = ap (λ o. option_map_or extra o false) (absent names name d out none)

-- ---- verb by verb

any_of : (a p s t x y z : Bool) → a ≡ false → p ≡ x → s ≡ y → t ≡ z → (a || p || s || t) ≡ (false || x || y || z)
any_of a p s t x y z ha hp hs ht = rw (ha, hp, hs, ht) refl

or_false : (b : Bool) → (b || false) ≡ b
or_false true = refl
or_false false = refl

or_falses : (b : Bool) → (b || false || false) ≡ b
or_falses true = refl
or_falses false = refl

pub extra-inside : (verb : Verb) (d : Data) → has_others (verb_members verb) d ≡ false → has_extra verb d ≡ inside_of verb d
unfolding has_extra verb_members
extra-inside Create d none = any_of (has_others (verb_members Create) d) (inside pose_has_extra (codes "pose") d) (inside shape_has_extra (codes "shape") d) (inside spot_has_extra (codes "spot") d) (inside pose_has_extra (codes "pose") d) (inside shape_has_extra (codes "shape") d) (inside spot_has_extra (codes "spot") d) none refl refl refl
extra-inside Move d none = any_of (has_others (verb_members Move) d) (inside pose_has_extra (codes "pose") d) (inside shape_has_extra (codes "shape") d) (inside spot_has_extra (codes "spot") d) false false (inside spot_has_extra (codes "spot") d) none (none_inside (verb_members Move) pose_has_extra (codes "pose") d refl none) (none_inside (verb_members Move) shape_has_extra (codes "shape") d refl none) refl
extra-inside Pose d none = any_of (has_others (verb_members Pose) d) (inside pose_has_extra (codes "pose") d) (inside shape_has_extra (codes "shape") d) (inside spot_has_extra (codes "spot") d) (inside pose_has_extra (codes "pose") d) false false none refl (none_inside (verb_members Pose) shape_has_extra (codes "shape") d refl none) (none_inside (verb_members Pose) spot_has_extra (codes "spot") d refl none) ∙ or_falses (inside pose_has_extra (codes "pose") d)
extra-inside Reshape d none = any_of (has_others (verb_members Reshape) d) (inside pose_has_extra (codes "pose") d) (inside shape_has_extra (codes "shape") d) (inside spot_has_extra (codes "spot") d) false (inside shape_has_extra (codes "shape") d) false none (none_inside (verb_members Reshape) pose_has_extra (codes "pose") d refl none) refl (none_inside (verb_members Reshape) spot_has_extra (codes "spot") d refl none) ∙ or_false (inside shape_has_extra (codes "shape") d)
extra-inside Show d none = any_of (has_others (verb_members Show) d) (inside pose_has_extra (codes "pose") d) (inside shape_has_extra (codes "shape") d) (inside spot_has_extra (codes "spot") d) false false false none (none_inside (verb_members Show) pose_has_extra (codes "pose") d refl none) (none_inside (verb_members Show) shape_has_extra (codes "shape") d refl none) (none_inside (verb_members Show) spot_has_extra (codes "spot") d refl none)
extra-inside Delete d none = any_of (has_others (verb_members Delete) d) (inside pose_has_extra (codes "pose") d) (inside shape_has_extra (codes "shape") d) (inside spot_has_extra (codes "spot") d) false false false none (none_inside (verb_members Delete) pose_has_extra (codes "pose") d refl none) (none_inside (verb_members Delete) shape_has_extra (codes "shape") d refl none) (none_inside (verb_members Delete) spot_has_extra (codes "spot") d refl none)
extra-inside Respace d none = any_of (has_others (verb_members Respace) d) (inside pose_has_extra (codes "pose") d) (inside shape_has_extra (codes "shape") d) (inside spot_has_extra (codes "spot") d) false false false none (none_inside (verb_members Respace) pose_has_extra (codes "pose") d refl none) (none_inside (verb_members Respace) shape_has_extra (codes "shape") d refl none) (none_inside (verb_members Respace) spot_has_extra (codes "spot") d refl none)
extra-inside Tile d none = any_of (has_others (verb_members Tile) d) (inside pose_has_extra (codes "pose") d) (inside shape_has_extra (codes "shape") d) (inside spot_has_extra (codes "spot") d) false false false none (none_inside (verb_members Tile) pose_has_extra (codes "pose") d refl none) (none_inside (verb_members Tile) shape_has_extra (codes "shape") d refl none) (none_inside (verb_members Tile) spot_has_extra (codes "spot") d refl none)
extra-inside Patch d none = any_of (has_others (verb_members Patch) d) (inside pose_has_extra (codes "pose") d) (inside shape_has_extra (codes "shape") d) (inside spot_has_extra (codes "spot") d) false false false none (none_inside (verb_members Patch) pose_has_extra (codes "pose") d refl none) (none_inside (verb_members Patch) shape_has_extra (codes "shape") d refl none) (none_inside (verb_members Patch) spot_has_extra (codes "spot") d refl none)
extra-inside Point d none = any_of (has_others (verb_members Point) d) (inside pose_has_extra (codes "pose") d) (inside shape_has_extra (codes "shape") d) (inside spot_has_extra (codes "spot") d) false false false none (none_inside (verb_members Point) pose_has_extra (codes "pose") d refl none) (none_inside (verb_members Point) shape_has_extra (codes "shape") d refl none) (none_inside (verb_members Point) spot_has_extra (codes "spot") d refl none)
extra-inside Export d none = any_of (has_others (verb_members Export) d) (inside pose_has_extra (codes "pose") d) (inside shape_has_extra (codes "shape") d) (inside spot_has_extra (codes "spot") d) false false false none (none_inside (verb_members Export) pose_has_extra (codes "pose") d refl none) (none_inside (verb_members Export) shape_has_extra (codes "shape") d refl none) (none_inside (verb_members Export) spot_has_extra (codes "spot") d refl none)

any_more : (a p s t : Bool) → a ≡ true → (a || p || s || t) ≡ true
any_more a p s t h = rw h refl

pub extra-itself : (verb : Verb) (d : Data) → has_others (verb_members verb) d ≡ true → has_extra verb d ≡ true
unfolding has_extra
extra-itself verb d some = any_more (has_others (verb_members verb) d) (inside pose_has_extra (codes "pose") d) (inside shape_has_extra (codes "shape") d) (inside spot_has_extra (codes "spot") d) some
