-- What is known of the machine that the program runs on.
use Rattle.sqlite_disk.specs.{declared.Disk.Ghosts, declared.start.Start.Ghosts as First}
pub use Rattle.sqlite_wal.specs.Files.{image_at}
use Rattle.sqlite_wal.specs.Recovery.{Image}
use Rattle.cms.specs.declared.signer.Signer.{Ghosts as Signs}

-- its disk, what the files of the database held (which path these have, no definition says), its signer, and how a
-- reading leaves its clock
pub record Machine (D X C R : Type 0) : Type 1 where
  pub disk : Ghosts D
  pub held : Image
  pub signer : Signs X
  pub reads : C → R → C → Type 0

abbrev pub machine_of : {D F X C R : Type 0} → Ghosts D → First F → Signs X → (C → R → C → Type 0) → Machine D X C R
machine_of disk first signer reads = record {
  disk = disk;
  held = image_at first;
  signer = signer;
  reads = reads;
}
