-- Connections that were handed out, by the program's types, and the parts of their answering.
use Rattle.std.specs.Prelude.{◌≡◌, ℕ, ℤ, List, [], ◌∷◌, ◌++◌, map, Option, Some, None, Result}
use Rattle.policy.specs.Record.{PolicyValue}
use Rattle.book.specs.declared.standing.Standing.{Ghosts}
use Rattle.cms.specs.declared.signer.SignerFault.{SignerFault}
use Rattle.desk.specs.Batches.{Question, stamp_for}
use Rattle.desk.specs.{CallContract.DeskValue, Command.Answer, Together.IsAnsweredTogether}
use Rattle.service.specs.declared.exchange.Exchanged.{Exchanged}
use Rattle.service.specs.{Answers.answer_to, Received.ReceivedValue, Served.Sends, Stamps.AsksStamp}
use Rattle.connections.specs.Parts.{Answered, HandedValue, TellsAll}
use Rattle.connections.specs.{Heard.AreGathered, Heard.AreTakenBack, declared.clock.ClockFailed.ClockFailed}
use Rattle.connections.specs.{declared.gathering.Gathering.Gathering, declared.gathering.Handed.Handed}

abbrev pub handed_view : {S : Type 0} → Handed S → HandedValue S
handed_view one = record { received = one.request; stream = one.stream; reading = one.reading }

abbrev pub last_in : {S : Type 0} → Option (Handed S) → List (HandedValue S)
last_in None = []
last_in (Some one) = handed_view one ∷ []

abbrev pub gathered_in : {S : Type 0} → Gathering S → List (HandedValue S)
gathered_in gathering = map handed_view gathering.stamps.items ++ last_in gathering.last

-- More were handed out behind these without waiting, each at a reading that the clock gave for it.
pub record AreGatheredBehind {L S C : Type 0} (hands : L → Option ℕ → ReceivedValue → S → L → Type 0)
    (stays : L → L → Type 0) (reads : C → Result ℤ ClockFailed → C → Type 0) (before after last : List (HandedValue S))
    (old : L) (clock : C) (new : L) (clock' : C) : Type 0 where
  pub more : List (HandedValue S)
  pub behind : after ≡ before ++ more
  pub gathered : AreGathered hands stays reads None (more ++ last) old clock new clock'

-- each asks for its stamp, by the octets that came of it
abbrev pub AreAsked : {S : Type 0} → PolicyValue → List (HandedValue S) → List Question → Type 0
AreAsked file [] [] = Unit {0}
AreAsked file (one ∷ ones) (question ∷ asked) =
    AsksStamp file one.reading one.received question × AreAsked file ones asked
AreAsked file [] (question ∷ asked) = ⊥
AreAsked file (one ∷ ones) [] = ⊥

-- The desk answers the stamps of all of them together.
pub record AreReplied {S B X : Type 0} (g : Ghosts B) (signs : X → List ℕ → Result (List ℕ) SignerFault → X → Type 0)
    (count : X → ℕ) (ones : List (HandedValue S)) (answers : List Answer) (old : DeskValue B) (x : X)
    (new : DeskValue B) (y : X) : Type 0 where
  pub asked : List Question
  pub each : AreAsked old.setting.file ones asked
  pub setting : new.setting ≡ old.setting
  pub honest : g.honest new.store → g.honest old.store
  pub answered : IsAnsweredTogether g signs count old.setting asked answers old.store x new.store y

-- its reply is written to it, whatever stamp it asked for
pub record IsSent {S : Type 0} (contents : S → Option (List ℕ)) (a : Answered S) (reply : Answer) : Type 0 where
  pub sent : (asked : Question) → Sends contents a.handed.reading a.handed.stream a.stream_after
      (answer_to (stamp_for asked) reply) a.exchanged.served
  pub all : TellsAll a

-- to each its reply
abbrev pub AreSent : {S : Type 0} → (S → Option (List ℕ)) → List (Answered S) → List Answer → Type 0
AreSent contents [] [] = Unit {0}
AreSent contents (a ∷ written) (reply ∷ replies) = IsSent contents a reply × AreSent contents written replies
AreSent contents [] (reply ∷ replies) = ⊥
AreSent contents (a ∷ written) [] = ⊥

-- To each its reply is written, and then it is taken back.
pub record AreWritten {L S : Type 0} (takes_back : L → S → Exchanged → L → Type 0) (contents : S → Option (List ℕ))
    (ones : List (HandedValue S)) (replies : List Answer) (old new : L) : Type 0 where
  pub written : List (Answered S)
  pub are : map (λ a. a.handed) written ≡ ones
  pub sent : AreSent contents written replies
  pub back : AreTakenBack takes_back old written new
