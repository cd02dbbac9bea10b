use Rattle.std.proofs.Common.{FitsSigned, rules}
use Rattle.std.specs.Int.{w32}
use Rattle.std.proofs.lemmas.Int.{to_z-of_z}
use Rattle.canvas_doc.proofs.boxes.BoundsLaws.{edges-same, joined-has-first, joined-has-second}
use Rattle.canvas_doc.proofs.boxes.EdgeLaws.{joined-edges}
use Rattle.canvas_doc.proofs.bounds.Bounds.joined.Goals as goal

pub invariant_of-result : goal.invariant_of-result
invariant_of-result c =
    let s = c.args.self.now in
    let o = c.args.other.now in
    let sl : FitsSigned w32 s.left = search rules in
    let st : FitsSigned w32 s.top = search rules in
    let sr : FitsSigned w32 s.right = search rules in
    let sb : FitsSigned w32 s.bottom = search rules in
    let ol : FitsSigned w32 o.left = search rules in
    let ot : FitsSigned w32 o.top = search rules in
    let or : FitsSigned w32 o.right = search rules in
    let ob : FitsSigned w32 o.bottom = search rules in
    let l : FitsSigned w32 c.lesser.result = search rules in
    let t : FitsSigned w32 c.lesser-2.result = search rules in
    let r : FitsSigned w32 c.greater.result = search rules in
    let b : FitsSigned w32 c.greater-2.result = search rules in
    record {
      edges = simp to_z-of_z (edges-same c.lesser.result c.lesser-2.result c.greater.result c.greater-2.result _ _ _ _ (simp to_z-of_z at c.lesser.ensures) (simp to_z-of_z at c.lesser-2.ensures) (simp to_z-of_z at c.greater.ensures) (simp to_z-of_z at c.greater-2.ensures) (joined-edges s.left s.top s.right s.bottom o.left o.top o.right o.bottom s.edges o.edges));
    }

pub returns-clause-first : goal.returns-clause-first
returns-clause-first c =
    let s = c.args.self.now in
    let o = c.args.other.now in
    let sl : FitsSigned w32 s.left = search rules in
    let st : FitsSigned w32 s.top = search rules in
    let sr : FitsSigned w32 s.right = search rules in
    let sb : FitsSigned w32 s.bottom = search rules in
    let ol : FitsSigned w32 o.left = search rules in
    let ot : FitsSigned w32 o.top = search rules in
    let or : FitsSigned w32 o.right = search rules in
    let ob : FitsSigned w32 o.bottom = search rules in
    let l : FitsSigned w32 c.lesser.result = search rules in
    let t : FitsSigned w32 c.lesser-2.result = search rules in
    let r : FitsSigned w32 c.greater.result = search rules in
    let b : FitsSigned w32 c.greater-2.result = search rules in
    joined-has-first s o _ (record {
      left = simp to_z-of_z (simp to_z-of_z at c.lesser.ensures);
      top = simp to_z-of_z (simp to_z-of_z at c.lesser-2.ensures);
      right = simp to_z-of_z (simp to_z-of_z at c.greater.ensures);
      bottom = simp to_z-of_z (simp to_z-of_z at c.greater-2.ensures);
    })

pub returns-clause-second : goal.returns-clause-second
returns-clause-second c =
    let s = c.args.self.now in
    let o = c.args.other.now in
    let sl : FitsSigned w32 s.left = search rules in
    let st : FitsSigned w32 s.top = search rules in
    let sr : FitsSigned w32 s.right = search rules in
    let sb : FitsSigned w32 s.bottom = search rules in
    let ol : FitsSigned w32 o.left = search rules in
    let ot : FitsSigned w32 o.top = search rules in
    let or : FitsSigned w32 o.right = search rules in
    let ob : FitsSigned w32 o.bottom = search rules in
    let l : FitsSigned w32 c.lesser.result = search rules in
    let t : FitsSigned w32 c.lesser-2.result = search rules in
    let r : FitsSigned w32 c.greater.result = search rules in
    let b : FitsSigned w32 c.greater-2.result = search rules in
    joined-has-second s o _ (record {
      left = simp to_z-of_z (simp to_z-of_z at c.lesser.ensures);
      top = simp to_z-of_z (simp to_z-of_z at c.lesser-2.ensures);
      right = simp to_z-of_z (simp to_z-of_z at c.greater.ensures);
      bottom = simp to_z-of_z (simp to_z-of_z at c.greater-2.ensures);
    })
