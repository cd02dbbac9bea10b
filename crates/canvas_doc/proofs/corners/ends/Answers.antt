use Rattle.std.proofs.Common.{◌≡◌, ◌∙◌, ◌≤◌, ℤ, Bool, true, false, FitsSigned, ap, arith, cond, of_z, subst, sym, to_z}
use Rattle.std.specs.Prelude.{int_lt, unsigned_abs}
use Rattle.std.specs.Int.{int_max, int_min, w32, w64}
use Rattle.std.proofs.lemmas.Int.{fits_signed_from_abs, to_z-of_z}
use Rattle.canvas_doc.proofs.corners.ends.Goals as goal

either-near : (t : Bool) (a b : ℤ) → unsigned_abs a ≤ 134217728 → unsigned_abs b ≤ 134217728 → unsigned_abs (cond t a b) ≤ 134217728
either-near true a b h k = h
either-near false a b h k = k

near-kept : (z : ℤ) → unsigned_abs z ≤ 134217728 → to_z w64 (of_z w64 z) ≡ z
near-kept z h = to_z-of_z w64 z (fits_signed_from_abs w64 z (omega arith))

near-fits : (r z : ℤ) → r ≡ z → unsigned_abs z ≤ 134217728 → FitsSigned w32 (to_z w64 (of_z w64 r))
near-fits r z e h = subst (FitsSigned w32) (sym (ap (λ x. to_z w64 (of_z w64 x)) e ∙ near-kept z h)) (fits_signed_from_abs w32 z (omega arith))

near-cast : (r z : ℤ) → r ≡ z → unsigned_abs z ≤ 134217728 → to_z w32 (of_z w32 (to_z w64 (of_z w64 r))) ≡ z
near-cast r z e h = to_z-of_z w32 (to_z w64 (of_z w64 r)) (near-fits r z e h) ∙ ap (λ x. to_z w64 (of_z w64 x)) e ∙ near-kept z h

-- of two numbers as they are kept
of-kept : (f : ℤ → ℤ → ℤ) (a b r : ℤ) → unsigned_abs a ≤ 134217728 → unsigned_abs b ≤ 134217728 → r ≡ f (to_z w64 (of_z w64 a)) (to_z w64 (of_z w64 b)) → r ≡ f a b
of-kept f a b r h k e = e ∙ ap (λ x. f x (to_z w64 (of_z w64 b))) (near-kept a h) ∙ ap (f a) (near-kept b k)

pub returns-clause-from : goal.returns-clause-from
returns-clause-from c =
    near-cast c.min.result (int_min c.args.a c.args.b) (of-kept int_min c.args.a c.args.b c.min.result c.requires.first c.requires.second c.min.ensures.value) (either-near (int_lt c.args.b c.args.a) c.args.b c.args.a c.requires.second c.requires.first)

pub returns-clause-to : goal.returns-clause-to
returns-clause-to c =
    near-cast c.max.result (int_max c.args.a c.args.b) (of-kept int_max c.args.a c.args.b c.max.result c.requires.first c.requires.second c.max.ensures.value) (either-near (int_lt c.args.b c.args.a) c.args.a c.args.b c.requires.first c.requires.second)

pub overflow_cast-result : goal.overflow_cast-result
overflow_cast-result c =
    near-fits c.min.result (int_min c.args.a c.args.b) (of-kept int_min c.args.a c.args.b c.min.result c.requires.first c.requires.second c.min.ensures.value) (either-near (int_lt c.args.b c.args.a) c.args.b c.args.a c.requires.second c.requires.first)
