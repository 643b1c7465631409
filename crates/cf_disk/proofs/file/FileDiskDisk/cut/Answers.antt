use Rattle.cf_disk.proofs.Untold.{half_cut_same}
use Rattle.cf_disk.proofs.file.FileDiskDisk.cut.Goals as goal

pub returns-clause-images : goal.returns-clause-images
returns-clause-images g c = λ image is. (image, tt, half_cut_same c.args.len image)
