-- Pictures of a document as files.
use Rattle.std.specs.Prelude.{ℕ, List}
use Rattle.canvas_record.specs.Contents.{Contents}
use Rattle.canvas_record.specs.Picture.{colour}
use Rattle.canvas_plane.specs.declared.windows.Window.{Window}
use Rattle.canvas_ppm.specs.P6.{p6_of}
use Rattle.canvas_paint.specs.Pictures.{picture_of}

-- the P6 file of a window (Netpbm ppm manual): the colours that the document shows there, walked from front to back, row by row
unfoldable pub file_of : Contents → Window → List ℕ
file_of document window = p6_of window.w window.h (picture_of (colour document.records) window)
