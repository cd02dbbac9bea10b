-- Tests by which a change fits.
use Rattle.std.specs.Prelude.{ℕ, ◌==◌, ◌&&◌, ◌||◌, not, nat_le, List, Bool, length}
use Rattle.std.specs.List.{list_all}
use Rattle.canvas_plane.specs.declared.Pose.{Pose}
use Rattle.canvas_plane.specs.Limits.{is_pose}
use Rattle.canvas_shape.specs.declared.Kind.{Kind}
use Rattle.canvas_shape.specs.Limits.{has_sides, has_vertices}
use Rattle.canvas_record.specs.declared.records.Parent.TheVariants.{Shape}
use Rattle.canvas_record.specs.declared.records.Place.{Place}
use Rattle.canvas_record.specs.declared.records.Record.{Record}
use Rattle.canvas_record.specs.declared.edits.Change.{Change}
use Rattle.canvas_record.specs.declared.edits.Change.TheVariants as change
use Rattle.canvas_record.specs.Children.{is_child}
use Rattle.canvas_record.specs.Contents.{Contents, is_container, reaches_page, most_records}
use Rattle.canvas_record.specs.Decision.{has_shape, has_parent, lies_too_deep}
use Rattle.canvas_record.specs.Siblings.{siblings, is_taken}

abbrev pub has_no_child : ℕ → List Record → Bool
has_no_child id rs = list_all (λ r. not (is_child (Shape id) r)) rs

-- a new shape may be put here
abbrev pub creation_test : Kind → Pose → Place → Contents → Bool
creation_test kind pose pl d = not (d.next == 4294967295) && (not (nat_le most_records (length d.records)) && (has_sides kind && (has_vertices kind && (is_pose pose && (reaches_page 31 d.records pl.parent && not (is_taken pl.index (siblings d.next pl.parent d.records)))))))

-- the shape may be moved here
abbrev pub move_test : ℕ → Place → List Record → Bool
move_test id pl rs = has_shape rs id && (not (lies_too_deep rs id pl.parent) && not (is_taken pl.index (siblings id pl.parent rs)))

-- the shape may have this kind
abbrev pub kind_test : ℕ → Kind → List Record → Bool
kind_test id kind rs = has_shape rs id && (has_sides kind && (has_vertices kind && (is_container kind || has_no_child id rs)))

-- the change passes the tests
abbrev pub fits_test : Change → Contents → Bool
fits_test (change.Create id kind pose hidden pl) d = (id == d.next) && creation_test kind pose pl d
fits_test (change.Move id pl) d = move_test id pl d.records
fits_test (change.Pose id pose) d = has_shape d.records id && is_pose pose
fits_test (change.Reshape id kind) d = kind_test id kind d.records
fits_test (change.Show id hidden) d = has_shape d.records id
fits_test (change.Delete id) d = has_shape d.records id
fits_test (change.Respace p) d = has_parent d.records p
