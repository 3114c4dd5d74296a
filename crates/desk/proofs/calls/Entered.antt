-- What is answered where a calibration or a hold is added, told in two ways.
use Rattle.std.proofs.Common.{◌≡◌, ℕ, Result, Ok, Err, refl}
use Rattle.book.specs.declared.fault.StoreFault.{StoreFault}
use Rattle.desk.specs.{Answers.entered, auxiliary.Obstacles.adding, auxiliary.Obstacles.told_with, Shown.numbered_as}

pub entered_as_told : (outcome : Result ℕ StoreFault) → entered outcome ≡ told_with numbered_as (adding outcome)
entered_as_told (Ok number) = refl
entered_as_told (Err fault) = refl
