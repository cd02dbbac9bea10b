-- The walk's steps against the definition.
use Rattle.std.proofs.Common.{◌≡◌, ℕ, zero, suc, ◌-◌, ◌<◌, List, ◌∷◌, Bool, true, false, cond, Option, Some, None, ℤ, refl, sym, ap, ◌∙◌, arith}
use Rattle.std.specs.Option.{is_some}
use mathlib.Core.Path.{fun_ext}
use Rattle.canvas_plane.specs.declared.Point.{Point}
use Rattle.canvas_plane.specs.declared.Pose.{Pose}
use Rattle.canvas_plane.specs.Motion.{carry}
use Rattle.canvas_shape.specs.declared.Colour.{Colour}
use Rattle.canvas_shape.specs.declared.Kind.{Kind}
use Rattle.canvas_shape.specs.Inside.{holds_of}
use Rattle.canvas_record.specs.declared.records.Parent.{Parent}
use Rattle.canvas_record.specs.declared.records.Parent.TheVariants.{Shape}
use Rattle.canvas_record.specs.declared.records.Record.{Record}
use Rattle.canvas_record.specs.Children.{children}
use Rattle.canvas_record.specs.Picture.{answer_among, answer_of, first_answer, kind_answer, or_else}

-- what a shape of kind k answers, by what was computed of it
pub answer-by : (levels : ℕ) (rs : List Record) (out : Point → Point) (x y : ℤ) (r : Record) (page : Pose) (k : Kind) (holds : Bool) (inner : Option Colour) → ((q : Point) → carry page q ≡ out (carry r.pose q)) → r.hidden ≡ false → r.kind ≡ k → holds ≡ holds_of r.kind (carry page) x y → inner ≡ answer_among levels rs (Shape r.id) (carry page) x y → kind_answer k holds inner ≡ answer_of levels rs out x y r
answer-by levels rs out x y r page k holds inner carries shown kind h i =
    let whole : Bool → Kind → (Point → Point) → Option Colour = λ b j f. cond b None (kind_answer j (holds_of r.kind f x y) (answer_among levels rs (Shape r.id) f x y)) in
    let same : carry page ≡ (λ q. out (carry r.pose q)) = fun_ext carries in
    ap (λ b. kind_answer k b inner) h ∙ ap (kind_answer k (holds_of r.kind (carry page) x y)) i
    ∙ ap (λ j. whole false j (carry page)) (sym kind) ∙ ap (λ b. whole b r.kind (carry page)) (sym shown) ∙ ap (whole r.hidden r.kind) same

-- no level, no answer
pub answer-none : (levels : ℕ) (rs : List Record) (p : Parent) (out : Point → Point) (x y : ℤ) → levels ≡ 0 → None ≡ answer_among levels rs p out x y
unfolding answer_among
answer-none levels rs p out x y h = rw h refl

-- a level down
pub answer-children : (levels : ℕ) (rs : List Record) (p : Parent) (out : Point → Point) (x y : ℤ) → 0 < levels → answer_among levels rs p out x y ≡ first_answer (answer_of (levels - 1) rs out x y) (children p rs)
unfolding answer_among
answer-children zero rs p out x y h = absurd (omega arith)
answer-children (suc n) rs p out x y h =
    let e : suc n - 1 ≡ n = omega arith in
    rw e refl

silent-step : (o a b : Option Colour) → is_some o ≡ false → or_else o a ≡ b → a ≡ b
silent-step None a b h e = e
silent-step (Some c) a b h e = cc

-- behind a child with no answer the rest answers
pub silent-rest : (f : Record → Option Colour) (r : Record) (rest front all : List Record) → front ≡ r ∷ rest → is_some (f r) ≡ false → first_answer f front ≡ first_answer f all → first_answer f rest ≡ first_answer f all
silent-rest f r rest front all e h k = silent-step (f r) (first_answer f rest) (first_answer f all) h (ap (first_answer f) (sym e) ∙ k)

loud-step : (o a : Option Colour) → is_some o ≡ true → or_else o a ≡ o
loud-step None a h = cc
loud-step (Some c) a h = refl

-- a child with an answer answers for all
pub first-answer : (f : Record → Option Colour) (r : Record) (rest front all : List Record) → front ≡ r ∷ rest → is_some (f r) ≡ true → first_answer f front ≡ first_answer f all → f r ≡ first_answer f all
first-answer f r rest front all e h k = sym (loud-step (f r) (first_answer f rest) h) ∙ ap (first_answer f) (sym e) ∙ k
