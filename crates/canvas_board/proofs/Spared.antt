-- What changes leave as it is: a window that the damage of each misses shows the same picture after them.
use Rattle.std.proofs.Common.{◌≡◌, ℕ, suc, ◌+◌, ◌<◌, ◌≤◌, Bool, true, false, ◌&&◌, List, [], ◌∷◌, ◌++◌, length, take, drop, All, refl, sym, ap, ◌∙◌, subst, arith}
use Rattle.std.specs.Prelude.{ℤ}
use Rattle.std.proofs.lemmas.List.{drop_at, take-append-drop}
use Rattle.canvas_plane.specs.declared.PageBox.{PageBox}
use Rattle.canvas_plane.specs.declared.windows.Window.{Window}
use Rattle.canvas_plane.specs.Page.{is_in, meet_of}
use Rattle.canvas_plane.specs.Window.{IsWindowAt, covered_by}
use Rattle.canvas_plane.proofs.Boxes.{empty-none, meet-exact}
use Rattle.canvas_record.specs.declared.edits.Change.{Change}
use Rattle.canvas_record.specs.Contents.{Contents, IsWellFormed}
use Rattle.canvas_record.specs.Damage.{damage_of}
use Rattle.canvas_record.specs.Effect.{effect_of, Fits}
use Rattle.canvas_record.specs.History.{replay_of, AllFit}
use Rattle.canvas_record.specs.Picture.{colour}
use Rattle.canvas_record.proofs.Histories.{all_fit-front, replay-append}
use Rattle.canvas_ppm.specs.P6.{p6_of}
use Rattle.canvas_paint.proofs.Joined.{joined-picture}
use Rattle.canvas_look.proofs.Prefixes.{length_take_within}
use Rattle.canvas_look.specs.Raster.{file_of}
use Rattle.canvas_look.proofs.Windows.{window-file}
use Rattle.canvas_line.specs.declared.recent.Damage.{Damage}
use Rattle.canvas_board.specs.declared.window_key.WindowKey.{WindowKey}
use Rattle.canvas_line.specs.Recent.{damages_from}
use Rattle.canvas_board.specs.Kept.{key_of, misses, IsEndOf, IsStillRight}
use Rattle.canvas_line.proofs.Recently.{damages-append, length-damages}
use Rattle.canvas_board.proofs.Ends.{all-past}

-- outside the damage of a change each colour is as it was
abbrev pub DamageKeeps : Type 0
DamageKeeps = (c : Change) (d : Contents) → IsWellFormed d → Fits c d → (x y : ℤ) → is_in (damage_of c d) x y ≡ false → colour (effect_of c d).records x y ≡ colour d.records x y

not-first : (p q : Bool) → (p && q) ≡ false → q ≡ true → p ≡ false
not-first false q h t = refl
not-first true q h t = absurd (cc (h, t))

-- a box that misses a window has no pixel that the window covers
pub missed-pixel : (window : Window) (area : PageBox) (x y : ℤ) → misses window area ≡ true → is_in (covered_by window) x y ≡ true → is_in area x y ≡ false
missed-pixel window area x y m h =
    let none : is_in (meet_of area (covered_by window)) x y ≡ false = (empty-none (meet_of area (covered_by window))).0 m x y in
    not-first (is_in area x y) (is_in (covered_by window) x y) (sym (meet-exact area (covered_by window) x y) ∙ none) h

-- colours that agree in a window make one file
pub same-file : (d e : Contents) (window : Window) → ((x y : ℤ) → is_in (covered_by window) x y ≡ true → colour e.records x y ≡ colour d.records x y) → file_of e window ≡ file_of d window
unfolding file_of
same-file d e window h = ap (p6_of window.w window.h) (joined-picture (colour e.records) (colour d.records) window h)

-- colours in a window stay over changes whose damage misses it
pub same-after : DamageKeeps → (window : Window) (k n : ℕ) → k ≤ n → (d : Contents) (cs : List Change) → IsWellFormed d → AllFit d cs → All (λ (e : Damage). k < e.number → misses window e.area ≡ true) (damages_from n d cs)
    → (x y : ℤ) → is_in (covered_by window) x y ≡ true → colour (replay_of d cs).records x y ≡ colour d.records x y
same-after keeps window k n le d [] w fit all x y h = refl
same-after keeps window k n le d (c ∷ cs) w fit all x y h =
    let first : misses window (damage_of c d) ≡ true = all 0 (record { number = n + 1; area = damage_of c d }) (omega arith) (omega arith) in
    same-after keeps window k (n + 1) (omega arith) (effect_of c d) cs fit.0.left fit.1 (λ j e lt. all (suc j) e (omega (arith, lt))) x y h
    ∙ keeps c d w fit.0 x y (missed-pixel window (damage_of c d) x y first h)

-- what holds of the last damages that are told holds of those after the k-th, if these are told
pub all-later : (P : Damage → Type 0) (told : List Damage) (opening : Contents) (changes : List Change) (k : ℕ) → IsEndOf told opening changes → k ≤ length changes → length changes ≤ k + length told → All P told
    → All P (damages_from k (replay_of opening (take k changes)) (drop k changes))
all-later P told opening changes k end within near all =
    let whole : List Damage = damages_from 0 opening changes in
    let before : List Damage = damages_from 0 opening (take k changes) in
    let after : List Damage = damages_from k (replay_of opening (take k changes)) (drop k changes) in
    let taken : length (take k changes) ≡ k = length_take_within k changes within in
    let number : 0 + length (take k changes) ≡ k = omega (arith, taken) in
    let parts : whole ≡ before ++ after =
    ap (damages_from 0 opening) (sym (take-append-drop k changes)) ∙ damages-append 0 opening (take k changes) (drop k changes)
    ∙ ap (λ (n : ℕ). before ++ damages_from n (replay_of opening (take k changes)) (drop k changes)) number in
    let count : length before ≡ k = length-damages 0 opening (take k changes) ∙ taken in
    let long : length whole ≤ k + length told = omega (arith, length-damages 0 opening changes, near) in
    let same : drop k whole ≡ after = ap (drop k) parts ∙ drop_at before after k count in
    subst (All P) same (all-past P k told whole end long all)

-- a picture that is still right shows the document after all changes
pub still-shows : DamageKeeps → (told : List Damage) (opening : Contents) (changes : List Change) (k : ℕ) (window : Window) → IsWellFormed (replay_of opening (take k changes)) → AllFit opening changes → IsEndOf told opening changes
    → IsStillRight told k (length changes) window → file_of (replay_of opening changes) window ≡ file_of (replay_of opening (take k changes)) window
still-shows keeps told opening changes k window w fit end right =
    let d : Contents = replay_of opening (take k changes) in
    let parts : take k changes ++ drop k changes ≡ changes = take-append-drop k changes in
    let fits : AllFit d (drop k changes) = (all_fit-front opening (take k changes) (drop k changes) (subst (AllFit opening) (sym parts) fit)).1 in
    let same : replay_of d (drop k changes) ≡ replay_of opening changes = sym (replay-append opening (take k changes) (drop k changes)) ∙ ap (replay_of opening) parts in
    let missed : All (λ (e : Damage). k < e.number → misses window e.area ≡ true) (damages_from k d (drop k changes)) =
    all-later (λ (e : Damage). k < e.number → misses window e.area ≡ true) told opening changes k end right.later right.near right.missed in
    ap (λ (e : Contents). file_of e window) (sym same) ∙ same-file d (replay_of d (drop k changes)) window (same-after keeps window k k (omega arith) d (drop k changes) w fits missed)

-- the file of a window goes by its numbers
pub file-key : (d : Contents) (a b : Window) → key_of a ≡ key_of b → file_of d a ≡ file_of d b
file-key d a b e =
    let own : IsWindowAt b.level b.x b.y b.w b.h b = record { at_level = refl; left = refl; top = refl; width = refl; height = refl } in
    let same : IsWindowAt b.level b.x b.y b.w b.h a = record {
      at_level = ap (λ (k : WindowKey). k.level) e;
      left = ap (λ (k : WindowKey). k.x) e;
      top = ap (λ (k : WindowKey). k.y) e;
      width = ap (λ (k : WindowKey). k.w) e;
      height = ap (λ (k : WindowKey). k.h) e;
    } in
    window-file d b.level b.x b.y b.w b.h a b same own
