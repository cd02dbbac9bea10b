-- The children that a walk has still to go over, and what they answer.
use Rattle.std.proofs.Common.{◌≡◌, ◌≢◌, ℕ, ◌+◌, ◌-◌, ◌*◌, ◌^◌, ◌<◌, ◌≤◌, List, [], ◌∷◌, Bor, ℤ, drop, get_or, length, map, ap, refl, sym, ◌∙◌, Bool, false, Option, All, subst, arith}
use Rattle.std.proofs.lemmas.List.{drop_all, drop_more}
use mathlib.Core.Path.{fun_ext}
use Rattle.canvas_plane.specs.declared.Point.{Point}
use Rattle.canvas_plane.specs.declared.Pose.{Pose}
use Rattle.canvas_plane.specs.Motion.{carry}
use Rattle.canvas_shape.specs.declared.Colour.{Colour}
use Rattle.canvas_shape.specs.Inside.{holds_of}
use Rattle.canvas_record.specs.declared.records.Parent.TheVariants.{Shape}
use Rattle.canvas_record.specs.declared.records.Record.{Record}
use Rattle.canvas_record.specs.Tree.{IsInLimits}
use Rattle.canvas_record.specs.Picture.{answer_among, answer_of, or_else, shape_answer}
use Rattle.canvas_record.proofs.Walk.{answer-by}
use Rattle.canvas_scene.specs.Nodes.{seen, shown_of}

abbrev pub record_of : Bor Record → Record
record_of b = b.now

-- those from i on
abbrev pub left_from : ℕ → List (Bor Record) → List Record
left_from i bs = map record_of (drop i bs)

pub left-more : (bs : List (Bor Record)) (i : ℕ) (b : Bor Record) → i < length bs → b ≡ get_or bs i b → left_from i bs ≡ b.now ∷ left_from (i + 1) bs
left-more bs i b h e = ap (map record_of) (drop_more bs i b h) ∙ ap (λ (x : Bor Record). x.now ∷ left_from (i + 1) bs) (sym e)

pub left-none : (bs : List (Bor Record)) (i : ℕ) → length bs ≤ i → left_from i bs ≡ []
left-none bs i h = ap (map record_of) (drop_all i bs h)

pub child-limits : (all bs : List (Bor Record)) (i : ℕ) (b : Bor Record) → All (λ (s : Bor Record). IsInLimits s.now) all → bs ≡ all → i < length bs → b ≡ get_or bs i b → IsInLimits b.now
child-limits all bs i b h same lt is =
    let P : List (Bor Record) → Type 0 = λ l. All (λ (s : Bor Record). IsInLimits s.now) l in
    subst (λ (s : Bor Record). IsInLimits s.now) (sym is) (subst P (sym same) h i b lt)

-- a child's levels are fewer
pub falls-below : (levels t : ℕ) → levels ≢ 0 → 2 * levels ≡ t → 2 * (levels - 1) + 1 < t
falls-below levels t some is = omega arith

pub fewer-left : (count i : ℕ) → i < count → count - (i + 1) < count - i
fewer-left count i lt = omega arith

-- how far children lie from their parent
pub reach-near : (child out levels : ℕ) → child ≤ 2 ^ 20 → levels ≢ 0 → out + levels * 2 ^ 20 ≤ 2 ^ 26 → child + out ≤ 2 ^ 26
reach-near child out levels near some far = omega arith

pub reach-most : (page both : ℕ) → page ≤ both → both ≤ 2 ^ 26 → page ≤ 2 ^ 26
reach-most page both p q = omega arith

pub reach-below : (page child out levels : ℕ) → page ≤ child + out → child ≤ 2 ^ 20 → levels ≢ 0 → out + levels * 2 ^ 20 ≤ 2 ^ 26 → page + (levels - 1) * 2 ^ 20 ≤ 2 ^ 26
reach-below page child out levels p near some far = omega arith

-- nothing more is shown once a child that may not be seen is passed by
pub child-unseen : (levels : ℕ) (rs : List Record) (out : Point → Point) (x y : ℤ) (r : Record) (page : Pose) (clip : Bool) (old : Option Colour) → ((q : Point) → carry page q ≡ out (carry r.pose q)) → old ≡ or_else old (seen clip (shape_answer r (holds_of r.kind (carry page) x y) (answer_among levels rs (Shape r.id) (carry page) x y))) → old ≡ or_else old (seen clip (answer_of levels rs out x y r))
child-unseen levels rs out x y r page clip old carries e =
    e
    ∙ ap (λ (f : Point → Point). or_else old (seen clip (shape_answer r (holds_of r.kind f x y) (answer_among levels rs (Shape r.id) f x y)))) (fun_ext carries)

-- what is shown once a child that may be seen is, by its kind
pub child-answered : (levels : ℕ) (rs : List Record) (out : Point → Point) (x y : ℤ) (r : Record) (page : Pose) (clip : Bool) (old new : Option Colour) → ((q : Point) → carry page q ≡ out (carry r.pose q)) → r.hidden ≡ false → new ≡ or_else old (seen clip (shown_of r.kind page (answer_among levels rs (Shape r.id) (carry page) x y) x y)) → new ≡ or_else old (seen clip (answer_of levels rs out x y r))
child-answered levels rs out x y r page clip old new carries shown e =
    e ∙ ap (λ o. or_else old (seen clip o)) (answer-by levels rs out x y r page r.kind _ _ carries shown refl refl refl)
