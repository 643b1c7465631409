use Rattle.std.proofs.Common.{length}
use Rattle.cf_disk.proofs.Untold.{torn_same}
use Rattle.cf_disk.proofs.file.FileDiskDisk.write_at.Goals as goal

pub returns-clause-images : goal.returns-clause-images
returns-clause-images g c = λ image is. (image, tt, torn_same c.args.at (length c.args.piece.now) image)
