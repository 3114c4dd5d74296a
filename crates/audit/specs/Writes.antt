-- What was written of an extract.
use Rattle.std.specs.Prelude.{◌≡◌, ℕ, ◌+◌, ◌<◌, List, length, take, Option, Result, Ok, Err, OnOk}
use Rattle.std.specs.Io.KnownBytes.{Appends}
use Rattle.book.specs.{declared.standing.Standing.Ghosts, Rows.StampRow, History.History, Stands.Stands}
use Rattle.audit.specs.declared.fault.ExtractFault.TheVariants.{Write}
use Rattle.audit.specs.{Extract.extract_text, Extract.lines_text, declared.fault.ExtractFault.ExtractFault}

-- So many octets were written: a beginning of the columns' names and the lines of some stamps, whatever the store is,
-- and all of these where there was no refusal. Of each history that the store stood for they are a beginning of its
-- extract, the whole of it where there was no refusal, and not the whole where a write failed.
pub record Writes {B : Type 0} (g : Ghosts B) (before after : B) (out out' : Option (List ℕ)) (from to : ℕ)
    (octets : ℕ) (outcome : Result (Unit {0}) ExtractFault)
    : Type 0 where
  pub written : List ℕ
  pub count : octets ≡ length written
  pub appended : Appends out out' written
  pub told : List StampRow
  pub lines : written ≡ take octets (lines_text told)
  pub all : OnOk outcome (written ≡ lines_text told)
  pub beginning : g.honest after → (b : History) → Stands g b before → written ≡ take octets (extract_text from to b)
  pub whole : g.honest after → (b : History) → Stands g b before
      → OnOk outcome (written ≡ extract_text from to b)
  pub cut : g.honest after → (b : History) → Stands g b before
      → outcome ≡ Err Write → octets < length (extract_text from to b)

-- a beginning of a line was written and counted: all of it, or less where it is refused
abbrev pub IsTaken : List ℕ → ℕ → Result (Unit {0}) ExtractFault → Type 0
IsTaken line taken (Ok done) = taken ≡ length line
IsTaken line taken (Err fault) = (taken < length line) × (fault ≡ Write)

pub record WritesLine (out out' : Option (List ℕ)) (line : List ℕ) (octets octets' : ℕ)
    (outcome : Result (Unit {0}) ExtractFault)
    : Type 0 where
  pub taken : ℕ
  pub is : IsTaken line taken outcome
  pub count : octets' ≡ octets + taken
  pub appended : Appends out out' (take taken line)
