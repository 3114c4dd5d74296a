-- What is told of sessions with a key holder, a line for each that was lost, and for each that was opened after one.
use Rattle.std.specs.Prelude.{◌≡◌, ℕ, List, [], ◌∷◌, ◌++◌, Option, Some, None, Bool, true, codes}
use Rattle.std.specs.Io.KnownBytes.{Appends}
use Rattle.cms.specs.Framed.{SendsBeginning}

abbrev pub found_line : List ℕ
found_line = codes "event=signer-found" ++ (10 ∷ [])

abbrev pub lost_line : List ℕ
lost_line = codes "event=signer-lost" ++ (10 ∷ [])

abbrev pub line_of_opening : {S : Type 0} → Option S → List ℕ
line_of_opening (Some session) = found_line
line_of_opening None = []

-- the octets that were told, where lines are told at all
abbrev pub contents_in : {W : Type 0} → (W → Option (List ℕ)) → Option W → Option (List ℕ)
contents_in contents None = None
contents_in contents (Some writer) = contents writer

-- A line is written, all of it, or where a write fails a beginning; from then on it isn't claimed that all were.
pub record Tells (old new : Option (List ℕ)) (line : List ℕ) (heard still_heard : Bool) : Type 0 where
  pub whole : still_heard ≡ true → (heard ≡ true) × Appends old new line
  pub part : SendsBeginning old new line
