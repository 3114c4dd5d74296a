-- Connections one after the other, as what they are heard on tells of them: each one that is handed out is served by
-- the octets that came of it, and its answer goes to it.
use Rattle.std.specs.Prelude.{◌≡◌, ◌⊎◌, ℕ, ◌+◌, ◌-◌, ◌<◌, ℤ, List, [], ◌∷◌, length, Option, Some, None}
use Rattle.std.specs.Prelude.{Result, Err}
use Rattle.book.specs.declared.standing.Standing.{Ghosts}
use Rattle.cms.specs.declared.signer.SignerFault.{SignerFault}
use Rattle.desk.specs.CallContract.{DeskValue}
use Rattle.service.specs.{Received.ReceivedValue, declared.exchange.Exchanged.Exchanged}
use Rattle.connections.specs.Parts.{Answered, HandedValue, Part, answered_along, handed_along, readings, AreDone}
use Rattle.connections.specs.{Turns.State, Turns.AreGiven, declared.clock.ClockFailed.ClockFailed}

-- what connections are heard on, and the clock, the desk and the signer
pub record Hall (L C B X : Type 0) : Type 0 where
  pub source : L
  pub others : State C B X

abbrev pub hall : {L C B X : Type 0} → L → C → DeskValue B → X → Hall L C B X
hall source clock desk signer = record {
  source = source;
  others = record { clock = clock; desk = desk; signer = signer };
}

-- how many are waited for at most behind these: those behind the first are handed out without waiting
abbrev pub waits_behind : {A : Type 0} → Option ℕ → List A → Option ℕ
waits_behind waits [] = waits
waits_behind waits (one ∷ rest) = None

-- These were handed out, one after the other: the first while at most so many were waited for, and those behind it
-- without waiting.
abbrev pub AreHanded : {L S : Type 0} → (L → Option ℕ → ReceivedValue → S → L → Type 0) → Option ℕ → L
    → List (HandedValue S) → L → Type 0
AreHanded hands waits old [] new = new ≡ old
AreHanded {L} hands waits old (one ∷ rest) new =
    (next : L) × (hands old waits one.received one.stream next × AreHanded hands None next rest new)

-- these were taken back, one after the other, each with what became of it
abbrev pub AreTakenBack : {L S : Type 0} → (L → S → Exchanged → L → Type 0) → L → List (Answered S) → L → Type 0
AreTakenBack takes_back old [] new = new ≡ old
AreTakenBack {L} takes_back old (one ∷ rest) new =
    (next : L) × (takes_back old one.stream_after one.exchanged next × AreTakenBack takes_back next rest new)

-- how many all of them are
abbrev pub counted_along : {A : Type 0} → List (ℕ × A) → ℕ
counted_along [] = 0
counted_along (next ∷ rest) = next.0 + counted_along rest

module _ {L S C : Type 0} (hands : L → Option ℕ → ReceivedValue → S → L → Type 0)
    (reads : C → Result ℤ ClockFailed → C → Type 0) where
  -- The clock was asked for a connection that was handed out, and failed, behind fewer others.
  pub record IsCutShort (waits : Option ℕ) (connections : ℕ) (old : L) (clock : C) (new : L) (clock' : C) : Type 0 where
    pub gathered : List (HandedValue S)
    pub fewer : length gathered < connections
    pub between : L
    pub handed : AreHanded hands waits old gathered between
    pub asked : C
    pub given : AreGiven reads clock (readings gathered) asked
    pub received : ReceivedValue
    pub stream : S
    pub last : hands between (waits_behind waits gathered) received stream new
    pub fault : ClockFailed
    pub refused : reads asked (Err fault) clock'

module _ {L S C : Type 0} (hands : L → Option ℕ → ReceivedValue → S → L → Type 0) (stays : L → L → Type 0)
    (reads : C → Result ℤ ClockFailed → C → Type 0) where
  -- These were handed out, each at a reading that the clock gave for it; then there may have been none that was whole.
  pub record AreGathered (waits : Option ℕ) (ones : List (HandedValue S)) (old : L) (clock : C) (new : L) (clock' : C)
      : Type 0 where
    pub last : L
    pub handed : AreHanded hands waits old ones last
    pub stayed : (new ≡ last) ⊎ stays last new
    pub given : AreGiven reads clock (readings ones) clock'

module _ {L S C B X : Type 0} (takes_back : L → S → Exchanged → L → Type 0) (contents : S → Option (List ℕ))
    (g : Ghosts B) (signs : X → List ℕ → Result (List ℕ) SignerFault → X → Type 0) (count : X → ℕ) where
  -- These are answered in their order, and taken back.
  pub record AreAnswered (ones : List (HandedValue S)) (old new : Hall L C B X) : Type 0 where
    pub parts : List (Part S)
    pub are : handed_along parts ≡ ones
    pub done : AreDone contents g signs count parts old.others.desk old.others.signer new.others.desk new.others.signer
    pub back : AreTakenBack takes_back old.source (answered_along parts) new.source

module _ {L S C B X : Type 0} (hands : L → Option ℕ → ReceivedValue → S → L → Type 0)
    (reads : C → Result ℤ ClockFailed → C → Type 0) where
  -- The clock was asked for a connection that was handed out, and failed: it is dropped, with those that were gathered
  -- before it, and nothing is done for them.
  pub record IsDropped (connections : ℕ) (old new : Hall L C B X) : Type 0 where
    pub cut : IsCutShort hands reads (Some connections) connections old.source old.others.clock new.source
        new.others.clock
    pub desk : new.others.desk ≡ old.others.desk
    pub signer : new.others.signer ≡ old.others.signer

module _ {L S C B X : Type 0} (hands : L → Option ℕ → ReceivedValue → S → L → Type 0) (fails : L → ℕ → L → Type 0)
    (stays : L → L → Type 0) (takes_back : L → S → Exchanged → L → Type 0) (contents : S → Option (List ℕ))
    (reads : C → Result ℤ ClockFailed → C → Type 0) (g : Ghosts B)
    (signs : X → List ℕ → Result (List ℕ) SignerFault → X → Type 0) (count : X → ℕ) where
  -- So many are handed out, each at a reading that the clock gave for it, and then all are answered and taken back. At
  -- most as many are waited for as are still to be counted.
  pub record IsServed (most connections : ℕ) (old new : Hall L C B X) : Type 0 where
    pub handed : List (HandedValue S)
    pub counted : length handed ≡ connections
    pub between : L
    pub gathered : AreGathered hands stays reads (Some most) handed old.source old.others.clock between
        new.others.clock
    pub answered : AreAnswered takes_back contents g signs count handed
        (hall between new.others.clock old.others.desk old.others.signer) new

  -- what comes of one connection, or of several that were gathered, of so many that are still to be counted
  pub data IsHeard (most connections : ℕ) (old new : Hall L C B X) : Type 0 where
    -- one fails, or is given up: nothing is done, and the clock isn't asked
    failed : connections ≡ 1 → fails old.source most new.source → new.others ≡ old.others
        → IsHeard most connections old new
    -- they are answered
    answered : IsServed most connections old new → IsHeard most connections old new

  -- Each turn finds what the one before it left, and how many are still to be counted: how many connections each is,
  -- and all after it, in their order.
  abbrev pub Follow : ℕ → Hall L C B X → List (ℕ × Hall L C B X) → Hall L C B X → Type 0
  Follow most old [] new = new ≡ old
  Follow most old (next ∷ rest) new = IsHeard most next.0 old next.1 × Follow (most - next.0) next.1 rest new

  -- Of so many connections that are to be counted so many lead from the one to the other.
  pub record AreHeard (most connections : ℕ) (old new : Hall L C B X) : Type 0 where
    pub after : List (ℕ × Hall L C B X)
    pub counted : counted_along after ≡ connections
    pub follow : Follow most old after new

  -- Fewer connections were heard than are to be counted, and for one of the next the clock failed.
  pub record StopsHearing (connections : ℕ) (old new : Hall L C B X) : Type 0 where
    pub heard : ℕ
    pub left : ℕ
    pub counted : heard + left ≡ connections
    pub last : Hall L C B X
    pub before : AreHeard connections heard old last
    pub dropped : IsDropped hands reads left last new
