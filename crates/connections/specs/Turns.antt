-- Connections one after the other. Streams tell no octets, so what came in and what went out has no name here: there is
-- a request, and its answer.
use Rattle.std.specs.Prelude.{◌≡◌, ℕ, ◌+◌, ◌<◌, ℤ, List, [], ◌∷◌, length, Option, None, Result, Ok, Err}
use Rattle.book.specs.declared.standing.Standing.{Ghosts}
use Rattle.cms.specs.declared.signer.SignerFault.{SignerFault}
use Rattle.desk.specs.CallContract.{DeskValue}
use Rattle.connections.specs.Parts.{Part, handed_along, readings, AreDone}
use Rattle.connections.specs.declared.clock.ClockFailed.{ClockFailed}

-- the clock, the desk and the signer
pub record State (C B X : Type 0) : Type 0 where
  pub clock : C
  pub desk : DeskValue B
  pub signer : X

-- what a stream tells of its octets
abbrev pub untold : Unit {0} → Option (List ℕ)
untold stream = None

-- the clock gave these readings, one after the other
abbrev pub AreGiven : {C : Type 0} → (C → Result ℤ ClockFailed → C → Type 0) → C → List ℤ → C → Type 0
AreGiven reads old [] new = new ≡ old
AreGiven {C} reads old (reading ∷ rest) new =
    (next : C) × (reads old (Ok reading) next × AreGiven reads next rest new)

module _ {C B X : Type 0} (reads : C → Result ℤ ClockFailed → C → Type 0) (g : Ghosts B)
    (signs : X → List ℕ → Result (List ℕ) SignerFault → X → Type 0) (count : X → ℕ) where
  -- So many connections lead from the one state to the other. Some failed, or nothing came of them: then nothing was
  -- done, and the clock wasn't asked. The requests of the others were answered, in parts, over streams that tell no
  -- octets, each at a reading that the clock gave for it.
  pub record IsServedBy (connections : ℕ) (old new : State C B X) : Type 0 where
    pub parts : List (Part (Unit {0}))
    pub failed : ℕ
    pub counted : failed + length (handed_along parts) ≡ connections
    pub given : AreGiven reads old.clock (readings (handed_along parts)) new.clock
    pub done : AreDone untold g signs count parts old.desk old.signer new.desk new.signer

  -- Fewer connections were served; for the next one the clock was asked, or for it and some behind it, and failed for
  -- the last of these, and no more was done.
  pub record StopsByClock (connections : ℕ) (old new : State C B X) : Type 0 where
    pub served : ℕ
    pub last : State C B X
    pub before : IsServedBy served old last
    pub readings : List ℤ
    pub clock : C
    pub given : AreGiven reads last.clock readings clock
    pub failed : (fault : ClockFailed) × reads clock (Err fault) new.clock
    pub fewer : served + length readings < connections
    pub desk : new.desk ≡ last.desk
    pub signer : new.signer ≡ last.signer
