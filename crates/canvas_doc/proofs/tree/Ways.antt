-- The way from a parent up to the page, step by step.
use Rattle.std.proofs.Common.{◌≡◌, ◌∙◌, ℕ, suc, ◌+◌, ◌-◌, ◌*◌, ◌^◌, ◌<◌, ◌≤◌, ◌==◌, ◌||◌, List, Bool, true, false, Some, None, All, refl, sym, ap, arith, nat_le}
use Rattle.canvas_plane.specs.declared.Point.{Point}
use Rattle.canvas_plane.specs.declared.Pose.{Pose}
use Rattle.canvas_plane.specs.Motion.{carry, reach_of}
use Rattle.canvas_record.specs.declared.records.Parent.{Parent}
use Rattle.canvas_record.specs.declared.records.Parent.TheVariants.{Page, Shape}
use Rattle.canvas_record.specs.declared.records.Record.{Record}
use Rattle.canvas_record.specs.Contents.{Contents, IsWellFormed, reaches_page}
use Rattle.canvas_record.specs.Damage.{to_page}
use Rattle.canvas_record.specs.Decision.{can_have_children}
use Rattle.canvas_record.specs.Depth.{depth_of}
use Rattle.canvas_record.specs.Effect.{is_below}
use Rattle.canvas_record.specs.Tree.{IsInLimits}
use Rattle.canvas_doc.specs.Ways.{holder_in, IsWay}
use Rattle.canvas_doc.proofs.extents.Extents.{still, still-carries, to_page-page, to_page-none, to_page-step}
use Rattle.canvas_doc.proofs.fitting.Fit.{found-all, parent-reaches}
use Rattle.canvas_doc.proofs.tree.DepthAgrees.{reaches-depth}
use Rattle.canvas_doc.proofs.tree.Paths.{below-page, below-none, below-step, depth-page, depth-none, depth-step}

-- some steps were made, and the rest of the way begins at a parent
pub record IsOnWay (rs : List Record) (id steps : ℕ) (parent : Parent) (made : ℕ) (at : Parent) (has_own : Bool) (pose : Pose) : Type 0 where
  pub depth : made + depth_of (steps - made) rs at ≡ depth_of steps rs parent
  pub own : (has_own || is_below (steps - made) id rs at) ≡ is_below steps id rs parent
  pub carries : (q : Point) → to_page (steps - made) rs at (carry pose q) ≡ to_page steps rs parent q
  pub quarter : pose.quarter ≤ 3
  pub reach : reach_of pose ≤ made * 2 ^ 20

-- before the first step
pub way-begins : (rs : List Record) (id steps : ℕ) (parent : Parent) → IsOnWay rs id steps parent 0 parent false still
way-begins rs id steps parent =
    let all : steps - 0 ≡ steps = omega arith in
    let deep : depth_of (steps - 0) rs parent ≡ depth_of steps rs parent = ap (λ n. depth_of n rs parent) all in
    record {
      depth = omega (arith, deep);
      own = ap (λ n. is_below n id rs parent) all;
      carries = λ q. ap (λ n. to_page n rs parent (carry still q)) all ∙ ap (to_page steps rs parent) (still-carries q);
      quarter = omega arith;
      reach = omega arith;
    }

or-turn : (a b c : Bool) → ((a || b) || c) ≡ (a || (b || c))
or-turn true b c = refl
or-turn false b c = refl

or-none : (a : Bool) → (a || false) ≡ a
or-none true = refl
or-none false = refl

no-holder : (r : Record) → Some r ≡ None → ⊥
no-holder r h = cc

-- what holds of all records holds of a parent's
pub holder-all : (P : Record → Type 0) (at : Parent) (rs : List Record) (r : Record) → All P rs → Some r ≡ holder_in at rs → P r
holder-all P Page rs r a e = absurd (no-holder r e)
holder-all P (Shape p) rs r a e = found-all P p rs r a (sym e)

-- one step more
pub way-goes_on : (rs : List Record) (id steps : ℕ) (parent : Parent) (made : ℕ) (at : Parent) (has_own : Bool) (pose next : Pose) (r : Record) → IsOnWay rs id steps parent made at has_own pose → made < steps → Some r ≡ holder_in at rs → IsInLimits r
    → ((q : Point) → carry next q ≡ carry r.pose (carry pose q)) → next.quarter ≤ 3 → reach_of next ≤ reach_of pose + reach_of r.pose → IsOnWay rs id steps parent (made + 1) r.place.parent (has_own || (r.id == id)) next
way-goes_on rs id steps parent made Page has_own pose next r way more found limits both turned near = absurd (no-holder r found)
way-goes_on rs id steps parent made (Shape p) has_own pose next r way more found limits both turned near =
    let left : 0 < steps - made = omega arith in
    let less : steps - made - 1 ≡ steps - (made + 1) = omega arith in
    let up : Parent = r.place.parent in
    let deep : depth_of (steps - made) rs (Shape p) ≡ suc (depth_of (steps - (made + 1)) rs up) = depth-step (steps - made) p rs (Some r) left found ∙ ap (λ n. suc (depth_of n rs up)) less in
    let below : is_below (steps - made) id rs (Shape p) ≡ ((r.id == id) || is_below (steps - (made + 1)) id rs up) = below-step (steps - made) id p rs (Some r) left found ∙ ap (λ n. (r.id == id) || is_below n id rs up) less in
    record {
      depth = omega (arith, way.depth, deep);
      own = or-turn has_own (r.id == id) (is_below (steps - (made + 1)) id rs up) ∙ ap (λ b. has_own || b) (sym below) ∙ way.own;
      carries = λ q.
          ap (to_page (steps - (made + 1)) rs up) (both q)
          ∙ ap (λ n. to_page n rs up (carry r.pose (carry pose q))) (sym less)
          ∙ sym (to_page-step (steps - made) p rs (Some r) (carry pose q) left found)
          ∙ way.carries q;
      quarter = turned;
      reach = omega (arith, way.reach, limits.reach, near);
    }

-- nothing is left of a way
pub record IsEnd (rs : List Record) (id left : ℕ) (at : Parent) : Type 0 where
  pub depth : depth_of left rs at ≡ 0
  pub own : is_below left id rs at ≡ false
  pub stays : (q : Point) → to_page left rs at q ≡ q

-- no step is left
pub end-spent : (rs : List Record) (id left : ℕ) (at : Parent) → left ≡ 0 → IsEnd rs id left at
end-spent rs id left Page h = record { depth = depth-page left rs; own = below-page left id rs; stays = to_page-page left rs }
end-spent rs id left (Shape p) h = record { depth = depth-none left p rs h; own = below-none left id p rs h; stays = λ q. to_page-none left p rs q h }

-- the page, or a parent that is not there
pub end-nowhere : (rs : List Record) (id left : ℕ) (at : Parent) → 0 < left → None ≡ holder_in at rs → IsEnd rs id left at
end-nowhere rs id left Page h e = record { depth = depth-page left rs; own = below-page left id rs; stays = to_page-page left rs }
end-nowhere rs id left (Shape p) h e = record { depth = depth-step left p rs None h e; own = below-step left id p rs None h e; stays = λ q. to_page-step left p rs None q h e }

-- the whole way
pub way-is : (rs : List Record) (id steps : ℕ) (parent : Parent) (made : ℕ) (at : Parent) (has_own : Bool) (pose : Pose) → IsOnWay rs id steps parent made at has_own pose → IsEnd rs id (steps - made) at → made ≤ 32 → IsWay rs id steps parent (record { depth = made; has_own = has_own; pose = pose })
way-is rs id steps parent made at has_own pose way done few =
    record {
      depth = omega (arith, way.depth, done.depth);
      own = sym (or-none has_own) ∙ ap (λ b. has_own || b) (sym done.own) ∙ way.own;
      carries = λ q. sym (done.stays (carry pose q)) ∙ way.carries q;
      quarter = way.quarter;
      reach = omega (arith, way.reach, few);
      small = few;
    }

-- a parent that can have children leads to the page where its depth is at most 31
pub shallow-is : (d : Contents) → IsWellFormed d → (p : Parent) (n : ℕ) → can_have_children d.records p ≡ true → n ≡ depth_of 32 d.records p → nat_le n 31 ≡ reaches_page 31 d.records p
shallow-is d w p n h e = ap (λ m. nat_le m 31) e ∙ sym (reaches-depth 32 31 d.records p (parent-reaches d w p h))
