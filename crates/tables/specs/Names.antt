-- The tables by their names.
use Rattle.std.specs.Prelude.{List, [], ◌∷◌}

pub data Name : Type 0 where
  Meta : Name
  Stamp : Name
  Calibration : Name
  Hold : Name
  Deposit : Name
  Reader : Name
  Tally : Name
  GroupReader : Name
  Identity : Name

-- in the order in which they are made
abbrev pub names : List Name
names = Meta ∷ Stamp ∷ Calibration ∷ Hold ∷ Deposit ∷ Reader ∷ Tally ∷ GroupReader ∷ Identity ∷ []
