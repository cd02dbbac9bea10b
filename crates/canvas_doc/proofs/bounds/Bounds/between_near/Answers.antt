use Rattle.std.proofs.Common.{FitsSigned, rules}
use Rattle.std.specs.Int.{w32, w64}
use Rattle.std.proofs.lemmas.Int.{to_z-of_z}
use Rattle.canvas_doc.proofs.boxes.BoundsLaws.{between-has, edges-same}
use Rattle.canvas_doc.proofs.boxes.EdgeLaws.{ends-edges}
use Rattle.canvas_doc.proofs.bounds.Bounds.between_near.Goals as goal

pub invariant_of-result : goal.invariant_of-result
invariant_of-result c =
    let p = c.args.p in
    let q = c.args.q in
    let px : FitsSigned w64 p.x = search rules in
    let py : FitsSigned w64 p.y = search rules in
    let qx : FitsSigned w64 q.x = search rules in
    let qy : FitsSigned w64 q.y = search rules in
    let l : FitsSigned w32 c.ends-left.result.0 = search rules in
    let r : FitsSigned w32 c.ends-left.result.1 = search rules in
    let t : FitsSigned w32 c.ends-top.result.0 = search rules in
    let b : FitsSigned w32 c.ends-top.result.1 = search rules in
    record {
      edges = simp to_z-of_z (edges-same c.ends-left.result.0 c.ends-top.result.0 c.ends-left.result.1 c.ends-top.result.1 _ _ _ _ (simp to_z-of_z at c.ends-left.ensures.from) (simp to_z-of_z at c.ends-top.ensures.from) (simp to_z-of_z at c.ends-left.ensures.to) (simp to_z-of_z at c.ends-top.ensures.to) (ends-edges p.x p.y q.x q.y c.requires));
    }

pub returns : goal.returns
returns c =
    let p = c.args.p in
    let q = c.args.q in
    let px : FitsSigned w64 p.x = search rules in
    let py : FitsSigned w64 p.y = search rules in
    let qx : FitsSigned w64 q.x = search rules in
    let qy : FitsSigned w64 q.y = search rules in
    let l : FitsSigned w32 c.ends-left.result.0 = search rules in
    let r : FitsSigned w32 c.ends-left.result.1 = search rules in
    let t : FitsSigned w32 c.ends-top.result.0 = search rules in
    let b : FitsSigned w32 c.ends-top.result.1 = search rules in
    between-has p q _ (record {
      left = simp to_z-of_z (simp to_z-of_z at c.ends-left.ensures.from);
      top = simp to_z-of_z (simp to_z-of_z at c.ends-top.ensures.from);
      right = simp to_z-of_z (simp to_z-of_z at c.ends-left.ensures.to);
      bottom = simp to_z-of_z (simp to_z-of_z at c.ends-top.ensures.to);
    })
