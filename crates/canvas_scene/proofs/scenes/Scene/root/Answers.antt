use Rattle.std.proofs.Common.{refl}
use Rattle.canvas_scene.proofs.scenes.Scene.root.Goals as goal

pub returns : goal.returns
returns c = refl
