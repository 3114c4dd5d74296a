-- The stamp that a request asks for, apart from the desk's answer to it; and what holds of what it asks for.
use Rattle.std.specs.Prelude.{ℤ, List, take, Option, Result, Ok, ℕ}
use Rattle.std.specs.Io.KnownBytes.{Consumes}
use Rattle.policy.specs.Record.{PolicyValue}
use Rattle.desk.specs.Batches.{Question, stamp_for}
use Rattle.service.specs.Requests.{Asked, IsRequest, Step}
use Rattle.service.specs.{Received.ReceivedValue, declared.refusal.Refusal.Refusal}

-- From whatever reader these octets are read, what is read as the request is one, and asks for that stamp.
abbrev pub AsksStamp : PolicyValue → ℤ → ReceivedValue → Question → Type 0
AsksStamp file reading r asked =
    (before after : Option (List ℕ)) → Consumes before after (take r.taken r.octets)
    → IsRequest file reading before after (Ok (Step (stamp_for asked)))

-- What was read, from what a reader had left to what it has left then, is a request, and P holds of what it asks for.
abbrev pub ReadsWhere : PolicyValue → ℤ → (Result Asked Refusal → Type 0) → (before after : Option (List ℕ)) → Type 0
ReadsWhere file reading P before after =
    (asked : Result Asked Refusal) × P asked × IsRequest file reading before after asked

-- The same from whatever reader these octets are read.
abbrev pub AsksWhere : PolicyValue → ℤ → (Result Asked Refusal → Type 0) → ReceivedValue → Type 0
AsksWhere file reading P r =
    (before after : Option (List ℕ)) → Consumes before after (take r.taken r.octets)
    → ReadsWhere file reading P before after
