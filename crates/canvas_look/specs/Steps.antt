-- What each call of a board may answer, and what it leaves.
use Rattle.std.specs.Prelude.{◌≡◌, ◌≢◌, ℕ, ℤ, ◌<◌, ◌≤◌, true, false, length, Result, Ok, Err}
use Rattle.std.specs.Arc.{arc_value}
use Rattle.canvas_record.specs.declared.edits.Change.{Change}
use Rattle.canvas_record.specs.declared.edits.Edit.{Edit}
use Rattle.canvas_record.specs.Decision.{decision_of}
use Rattle.canvas_record.specs.Effect.{Fits, new_id}
use Rattle.canvas_record.specs.Picture.{colour}
use Rattle.canvas_look.specs.declared.answers.Edited.{Edited}
use Rattle.canvas_look.specs.declared.answers.Picture.{Picture}
use Rattle.canvas_look.specs.declared.answers.Dot.{Dot}
use Rattle.canvas_look.specs.declared.answers.Saved.{Saved}
use Rattle.canvas_paint.specs.Workers.{are_workers}
use Rattle.canvas_json.specs.Saved.{saved_text_of}
use Rattle.canvas_look.specs.declared.fault.BoardFault.{BoardFault}
use Rattle.canvas_look.specs.declared.fault.BoardFault.TheVariants.{OutOfMemory, Refused, VersionsSpent, Behind, Strangers, BadWorkers, BadSetting, NoView}
use Rattle.canvas_plane.specs.declared.windows.Window.{Window}
use Rattle.canvas_look.specs.Raster.{file_of}
use Rattle.canvas_look.specs.Seen.{Seen, Grows, document_of, with_change}

-- An edit was accepted: at a board h that begins with the old front, the change was decided and put after h's front.
pub record Accepts (s : Seen) (edit : Edit) (edited : Edited) (t : Seen) : Type 0 where
  pub h : Seen
  pub begins : Grows s h
  pub room : length h.front < h.limit
  pub change : Change
  pub decided : decision_of edit (document_of h) ≡ Ok change
  pub fits : Fits change (document_of h)
  pub after : t ≡ with_change h change
  pub number : edited.number ≡ length t.front
  pub id : edited.id ≡ new_id change

-- Memory was refused, and nothing else stood against the edit: at a board h that begins with the old front, a change was decided.
pub record WantsMemory (s : Seen) (edit : Edit) : Type 0 where
  pub h : Seen
  pub begins : Grows s h
  pub room : length h.front < h.limit
  pub change : Change
  pub decided : decision_of edit (document_of h) ≡ Ok change

-- what an edit may answer, and what it leaves
abbrev pub Edits : Seen → Edit → Result Edited BoardFault → Seen → Type 0
Edits s edit (Ok edited) t = Accepts s edit edited t
Edits s edit (Err VersionsSpent) t = Grows s t × (length t.front ≡ t.limit)
Edits s edit (Err (Refused why)) t = Grows s t × (length t.front < t.limit) × (decision_of edit (document_of t) ≡ Err why)
Edits s edit (Err (Behind desk front)) t = (t ≡ s) × (s.alone ≡ false) × (length s.front ≤ front) × (desk < front)
Edits s edit (Err (Strangers own found)) t = (t ≡ s) × (s.alone ≡ false) × (own ≢ found)
Edits s edit (Err NoView) t = (t ≡ s) × (s.alone ≡ false)
Edits s edit (Err OutOfMemory) t = (t ≡ s) × WantsMemory s edit
Edits s edit (Err BadWorkers) t = ⊥
Edits s edit (Err BadSetting) t = ⊥

-- what a picture may answer, and what it leaves
abbrev pub Paints : Seen → Window → ℕ → Result Picture BoardFault → Seen → Type 0
Paints s window workers (Ok picture) t =
    Grows s t × (are_workers workers ≡ true) × (picture.version ≡ length t.front) × ((arc_value picture.bytes).items ≡ file_of (document_of t) window)
Paints s window workers (Err BadWorkers) t = (t ≡ s) × (are_workers workers ≡ false)
Paints s window workers (Err NoView) t = (t ≡ s) × (are_workers workers ≡ true) × (s.alone ≡ false)
Paints s window workers (Err OutOfMemory) t = (t ≡ s) × (are_workers workers ≡ true)
Paints s window workers (Err VersionsSpent) t = ⊥
Paints s window workers (Err (Refused why)) t = ⊥
Paints s window workers (Err (Behind desk front)) t = ⊥
Paints s window workers (Err (Strangers own found)) t = ⊥
Paints s window workers (Err BadSetting) t = ⊥

-- what a point may answer, and what it leaves
abbrev pub Looks : Seen → ℤ → ℤ → Result Dot BoardFault → Seen → Type 0
Looks s x y (Ok dot) t = Grows s t × (dot.version ≡ length t.front) × (dot.colour ≡ colour (document_of t).records x y)
Looks s x y (Err NoView) t = (t ≡ s) × (s.alone ≡ false)
Looks s x y (Err OutOfMemory) t = ⊥
Looks s x y (Err VersionsSpent) t = ⊥
Looks s x y (Err (Refused why)) t = ⊥
Looks s x y (Err (Behind desk front)) t = ⊥
Looks s x y (Err (Strangers own found)) t = ⊥
Looks s x y (Err BadWorkers) t = ⊥
Looks s x y (Err BadSetting) t = ⊥

-- what saving may answer, and what it leaves
abbrev pub Saves : Seen → Result Saved BoardFault → Seen → Type 0
Saves s (Ok saved) t = Grows s t × (saved.version ≡ length t.front) × ((arc_value saved.text).items ≡ saved_text_of (document_of t))
Saves s (Err NoView) t = (t ≡ s) × (s.alone ≡ false)
Saves s (Err OutOfMemory) t = t ≡ s
Saves s (Err VersionsSpent) t = ⊥
Saves s (Err (Refused why)) t = ⊥
Saves s (Err (Behind desk front)) t = ⊥
Saves s (Err (Strangers own found)) t = ⊥
Saves s (Err BadWorkers) t = ⊥
Saves s (Err BadSetting) t = ⊥
