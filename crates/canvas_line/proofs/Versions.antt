-- The version after one more change.
use Rattle.std.proofs.Common.{◌≡◌, ℕ, ◌<◌, ◌+◌, List, [], ◌∷◌, ◌++◌, None, Some, ap, refl, sym, ◌∙◌, subst, arith, length-append}
use Rattle.canvas_record.specs.declared.edits.Change.{Change}
use Rattle.canvas_record.specs.Contents.{Contents}
use Rattle.canvas_record.specs.Damage.{damage_of}
use Rattle.canvas_record.specs.Effect.{effect_of, Fits}
use Rattle.canvas_record.proofs.Histories.{replay-snoc, all_fit-snoc, last-snoc}
use Rattle.canvas_line.specs.declared.version.Version.{Version}
use Rattle.canvas_line.specs.declared.recent.Damage.{Damage}
use Rattle.canvas_line.specs.Recent.{last_64}
use Rattle.canvas_line.specs.Standing.{IsVersionOf}
use Rattle.canvas_line.proofs.Recently.{recent-snoc}

pub version_more : (opening : Contents) (limit : ℕ) (changes : List Change) (c : Change) (v w : Version) → IsVersionOf opening limit changes v → Fits c v.document → v.number < limit
    → w.number ≡ v.number + 1 → w.change ≡ Some c → w.document ≡ effect_of c v.document
    → w.recent ≡ last_64 (v.recent ++ record { number = v.number + 1; area = damage_of c v.document } ∷ []) → IsVersionOf opening limit (changes ++ c ∷ []) w
version_more opening limit changes c v w is fits room number change document recent = record {
  number = number ∙ omega (arith, is.number, length-append changes (c ∷ []));
  change = change ∙ sym (last-snoc changes c);
  document = document ∙ (ap (effect_of c) is.document ∙ sym (replay-snoc opening changes c));
  fits = all_fit-snoc opening changes c is.fits (subst (Fits c) is.document fits);
  within = omega (arith, is.number, length-append changes (c ∷ []));
  recent = recent ∙ (rw (is.recent, is.number, is.document) refl ∙ sym (recent-snoc opening changes c));
}

abbrev first_of : Contents → List Damage → Version
first_of d recent = record { number = 0; change = None; document = d; recent = recent }

-- a version before all changes
pub version_first : (d : Contents) (limit : ℕ) (recent : List Damage) (changes : List Change) (opening v : Version) → recent ≡ [] → changes ≡ [] → opening ≡ v
    → v ≡ record { number = 0; change = None; document = d; recent = recent } → IsVersionOf opening.document limit changes v
version_first d limit recent changes opening v none empty same is =
    let base : IsVersionOf d limit [] (first_of d []) = record { number = refl; change = refl; document = refl; fits = tt; within = omega arith; recent = refl } in
    let known : IsVersionOf d limit [] v = subst (λ (w : Version). IsVersionOf d limit [] w) (ap (first_of d) (sym none) ∙ sym is) base in
    let opened : IsVersionOf opening.document limit [] v = subst (λ (c : Contents). IsVersionOf c limit [] v) (sym (ap (λ (w : Version). w.document) (same ∙ is))) known in
    subst (λ (cs : List Change). IsVersionOf opening.document limit cs v) (sym empty) opened
