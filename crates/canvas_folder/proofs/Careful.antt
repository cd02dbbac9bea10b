-- Each moment of a making leaves what is sound.
use Rattle.std.specs.Prelude.{◌≡◌, ◌≢◌, ◌⊎◌, ◌&&◌, ◌||◌, ◌<◌, ◌≤◌, ◌+◌, ◌++◌, ◌∷◌, [], ℕ, zero, suc, Bool, true, false, not, List, length}
use Rattle.std.proofs.Common.{refl, sym, ap, subst, ◌∙◌, inl, inr, take, get_or}
use Rattle.std.proofs.lemmas.List.{take_more, take_all}
use Rattle.std.proofs.lemmas.Bool.{false≢true, true≢false, and_parts}
use Rattle.canvas_folder.specs.declared.step.Step.{Step}
use Rattle.canvas_folder.specs.declared.making.TheConstants.{STEPS}
use Rattle.canvas_folder.specs.Making.{Opening, absent, older, torn, whole, Left, Done, IsSound, MayLeave, LeftBy, LeavesSound, LeavesWhole, undone, after, after_all}
use Rattle.canvas_folder.proofs.Moments.{whole_left, found_whole}

-- the name comes behind the bytes, and the journal behind the name
abbrev named_late : Bool → Bool → Bool
named_late named written_kept = written_kept || not named

abbrev journal_late : Bool → Bool → Bool → Bool
journal_late journal folder_kept named_kept = not journal || (folder_kept && named_kept)

abbrev is_careful : Done → Bool
is_careful d = named_late d.named d.written_kept && journal_late d.journal d.folder_kept d.named_kept

abbrev careful_along : Done → List Step → Bool
careful_along d [] = is_careful d
careful_along d (s ∷ ss) = is_careful d && careful_along (after d s) ss

late_name : (n w : Bool) → named_late n w ≡ true → n ≡ true → w ≡ false → ⊥
late_name n true late named kept = true≢false kept
late_name true false late named kept = false≢true late
late_name false false late named kept = false≢true named

late_journal : (j f n : Bool) → journal_late j f n ≡ true → j ≡ true → (f && n) ≡ true
late_journal true f n late made = late
late_journal false f n late made = absurd (false≢true made)

and_second : (a b : Bool) → (a && b) ≡ true → b ≡ true
and_second a b e = (and_parts a b e).1

only_whole : (o : Opening) → o ≢ absent → o ≢ older → o ≢ torn → o ≡ whole
only_whole absent a b t = absurd (a refl)
only_whole older a b t = absurd (b refl)
only_whole torn a b t = absurd (t refl)
only_whole whole a b t = refl

careful_sound : (d : Done) (c : Left) → is_careful d ≡ true → MayLeave d c → IsSound c
careful_sound d c careful m =
    let parts : (named_late d.named d.written_kept ≡ true) × (journal_late d.journal d.folder_kept d.named_kept ≡ true) = and_parts _ _ careful in
    let not_torn : c.opening ≢ torn = λ is. late_name d.named d.written_kept parts.0 (m.torn_before_kept is).0 (m.torn_before_kept is).1 in
    record {
      not_torn = not_torn;
      journal_last = λ there.
          let kept : (d.folder_kept && d.named_kept) ≡ true = late_journal d.journal d.folder_kept d.named_kept parts.1 (m.journal_made there) in
          only_whole c.opening (m.opening_stays kept) (m.older_goes (and_second d.folder_kept d.named_kept kept)) not_torn;
    }

sound_along : (d : Done) (ss : List Step) (c : Left) → careful_along d ss ≡ true → LeftBy d ss c → IsSound c
sound_along d [] c careful left = careful_sound d c careful left
sound_along d (s ∷ ss) c careful (inl now) = careful_sound d c (and_parts _ _ careful).0 now
sound_along d (s ∷ ss) c careful (inr later) = sound_along (after d s) ss c (and_parts _ _ careful).1 later

beginning_left : (d : Done) (k : ℕ) (ss : List Step) (c : Left) → LeftBy d (take k ss) c → LeftBy d ss c
beginning_left d zero [] c left = left
beginning_left d zero (s ∷ ss) c left = inl left
beginning_left d (suc k) [] c left = left
beginning_left d (suc k) (s ∷ ss) c (inl now) = inl now
beginning_left d (suc k) (s ∷ ss) c (inr later) = inr (beginning_left (after d s) k ss c later)

-- a beginning of the steps is sound
pub steps_sound : (k : ℕ) (asked : List Step) → asked ≡ take k STEPS → LeavesSound asked
steps_sound k asked is =
    let P : List Step → Type 0 = λ ss. LeavesSound ss in
    subst P (sym is) (λ c left. sound_along undone STEPS c refl (beginning_left undone k STEPS c left))

-- also where one more was asked
pub one_more_sound : (k : ℕ) (d : Step) (asked before : List Step) → before ≡ take k STEPS → k < length STEPS → (asked ≡ before) ⊎ (asked ≡ before ++ get_or STEPS k d ∷ []) → LeavesSound asked
one_more_sound k d asked before is within (inl same) = steps_sound k asked (same ∙ is)
one_more_sound k d asked before is within (inr more) =
    steps_sound (k + 1) asked (more ∙ ap (λ ss. ss ++ get_or STEPS k d ∷ []) is ∙ sym (take_more STEPS k d within))

-- all of them make it
pub all_made : (k : ℕ) (asked : List Step) → asked ≡ take k STEPS → length STEPS ≤ k → LeavesWhole asked
all_made k asked is end =
    let P : List Step → Type 0 = λ ss. LeavesWhole ss in
    subst P (sym (is ∙ take_all k STEPS end)) (λ before served n next c left g f.
    let there : c.has_journal ≡ true = left.journal_stays refl in
    let is_whole : c.opening ≡ whole = (careful_sound (after_all undone STEPS) c refl left).journal_last there in
    (whole_left before served n g (found_whole n c g f is_whole there) f.number next, is_whole))
