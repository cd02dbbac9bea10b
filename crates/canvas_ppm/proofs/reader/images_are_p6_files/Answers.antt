use Rattle.canvas_ppm.proofs.Files.{file-image_of, image_of-file}
use Rattle.canvas_ppm.proofs.reader.images_are_p6_files.Goals as goal

pub returns : goal.returns
returns c = λ bytes image. (file-image_of bytes image, image_of-file bytes image)
