-- What is pending as more is read.
use Rattle.std.proofs.Common.{◌≡◌, ℕ, ◌≤◌, Bool, false, List, [], ◌++◌, Option, length, get_or, sym, ap, ◌∙◌, append_assoc, arith, length-append, subst}
use Rattle.std.specs.Io.KnownBytes.{IsAtEnd}
use Rattle.std.proofs.KnownBytes.{Consumes-trans}
use Rattle.std.proofs.lemmas.List.{get_or_append_left, nil_from_length}
use Rattle.canvas_session.specs.Line.{LacksLf, HasNoLf}
use Rattle.canvas_session.specs.Pending.{IsMore, TakesIn}

-- one read after another
pub takes_on : (a b c : Option (List ℕ)) (old mid new : List ℕ) → TakesIn a b old mid → TakesIn b c mid new → TakesIn a c old new
takes_on a b c old mid new p q = (p.0 ++ q.0, Consumes-trans a b c p.0 q.0 p.1 q.1, q.2 ∙ ap (λ (l : List ℕ). l ++ q.0) p.2 ∙ append_assoc old p.0 q.0)

pub longer_on : (a b : Option (List ℕ)) (old new : List ℕ) → TakesIn a b old new → length old ≤ length new
longer_on a b old new p = omega (arith, ap length p.2, length-append old p.0)

-- what was read stands behind bytes that have no LF
pub lacks_on : (a b : Option (List ℕ)) (old new : List ℕ) → TakesIn a b old new → HasNoLf old → LacksLf (length old) new
lacks_on a b old new p h k lt is = h k lt (sym (get_or_append_left old p.0 0 k lt) ∙ ap (λ (l : List ℕ). get_or l k 0) (sym p.2) ∙ is)

-- nothing was read, and nothing is pending
pub ended_empty : (to : Option (List ℕ)) (old new : List ℕ) (any : Bool) → any ≡ false → IsMore any to old new → length old ≡ 0 → (new ≡ []) × IsAtEnd to
ended_empty to old new any e h none =
    let end : IsMore false to old new = subst (λ (b : Bool). IsMore b to old new) e h in
    (end.1 ∙ nil_from_length old none, end.0)
