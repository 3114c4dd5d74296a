-- What `serve` does: connections at an address are served over HTTP, as a run of the machine.
use Rattle.std.specs.Prelude.{◌≡◌, ℕ, List, Result, Ok, Err}
use Rattle.book.specs.declared.standing.Standing.{Ghosts}
use Rattle.cms.specs.declared.signer.SignerFault.{SignerFault}
use Rattle.connections.specs.{Clock.Reading, Run.ServesEach, Turns.State, declared.clock.ClockFailed.ClockFailed}
use Rattle.command_line.specs.declared.words.ServeWords.{ServeWords}
use Rattle.console.specs.Files.{Source}
use Rattle.operations.specs.OverFiles.{IsAny, IsDoneOver, IsReached}
use Rattle.operations.specs.declared.fault.OperationFault.{OperationFault}
use Rattle.operations.specs.{Machine.Machine, SignerSource.algorithm_of, Visits.IsVisited, Visits.Visit}
use Rattle.operations.specs.declared.fault.OperationFault.TheVariants as operation
use Rattle.counter.specs.Files.{ReadsDesk, setting_of}

-- the clock, and desk and signer, before what is done and after it
abbrev pub state_before : {I O C B X : Type 0} → C → Visit I O B X → State C B X
state_before clock visit = record { clock = clock; desk = visit.desk; signer = visit.signer }

abbrev pub state_after : {I O C B X : Type 0} → C → Visit I O B X → State C B X
state_after clock visit = record { clock = clock; desk = visit.desk_after; signer = visit.signer_after }

module _ {C B X : Type 0} (reads : C → Reading → C → Type 0) (g : Ghosts B)
    (signs : X → List ℕ → Result (List ℕ) SignerFault → X → Type 0) (count : X → ℕ) where
  -- So many connections were served, or fewer, as the clock failed: a run of the machine. Where the address can't be
  -- listened on nothing is done.
  abbrev pub ServesAt : ℕ → State C B X → State C B X → Result (Unit {0}) OperationFault → Type 0
  ServesAt connections old new (Ok done) = ServesEach reads g signs count connections old new (Ok done)
  ServesAt connections old new (Err operation.Clock) =
      (failed : ClockFailed) × ServesEach reads g signs count connections old new {A = Unit {0}} (Err failed)
  ServesAt connections old new (Err operation.Unheard) = new ≡ old
  ServesAt connections old new (Err _) = ⊥

-- all connections that the words ask for, or fewer where that is told
pub record ServesConnections {D X C S F : Type 0} (m : Machine D X C Reading) (files : Source S F) (words : ServeWords)
    (done : Result (Unit {0}) OperationFault) : Type 0 where
  -- what the files say by which the desk answers: policy, certificate and chain, and who signs
  pub read : ReadsDesk files words.desk
  -- a desk is opened over the store of the database, which installs the identity unless it is the latest there; with a
  -- signer of that algorithm the connections are a run of the machine, at the readings of a clock
  pub served : IsDoneOver m.disk m.held (λ g opened left.
      IsVisited g (setting_of read) (IsReached m.signer (algorithm_of read.signing)) IsAny opened left
      (λ desk desk' signer signer'. (clock clock' : C)
      × ServesAt m.reads g m.signer.signs m.signer.fault_count words.connections
      (record { clock = clock; desk = desk; signer = signer })
      (record { clock = clock'; desk = desk'; signer = signer' }) done))
