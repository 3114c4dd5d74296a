-- Chains of what was handed out, read, answered and taken back: one more, and one behind the other.
use Rattle.std.proofs.Common.{◌≡◌, ◌∙◌, ℕ, ℤ, List, [], ◌∷◌, ◌++◌, map, Option, None, Result}
use Rattle.std.proofs.Common.{refl, sym, ap, subst}
use Rattle.std.proofs.lemmas.List.{append_assoc, map-append}
use Rattle.book.specs.declared.standing.Standing.{Ghosts}
use Rattle.cms.specs.declared.signer.SignerFault.{SignerFault}
use Rattle.desk.specs.CallContract.{DeskValue}
use Rattle.service.specs.{Received.ReceivedValue, declared.exchange.Exchanged.Exchanged}
use Rattle.connections.specs.Parts.{Answered, HandedValue, Part, alone, together, answered_in, answered_along}
use Rattle.connections.specs.declared.clock.ClockFailed.{ClockFailed}
use Rattle.connections.specs.{Heard.AreHanded, Heard.AreTakenBack, Parts.handed_along, Parts.AreDone, Turns.AreGiven}

pub given_then : {C : Type 0} (reads : C → Result ℤ ClockFailed → C → Type 0) (old : C) (rs : List ℤ) (mid : C)
    (more : List ℤ) (new : C) → AreGiven reads old rs mid → AreGiven reads mid more new
    → AreGiven reads old (rs ++ more) new
given_then reads old [] mid more new same given = subst (λ c. AreGiven reads c more new) same given
given_then reads old (r ∷ rs) mid more new first given =
    (first.0, (first.1.0, given_then reads first.0 rs mid more new first.1.1 given))

pub handed_then : {L S : Type 0} (hands : L → Option ℕ → ReceivedValue → S → L → Type 0) (old : L)
    (ones : List (HandedValue S)) (mid : L) (more : List (HandedValue S)) (new : L) → AreHanded hands None old ones mid
    → AreHanded hands None mid more new → AreHanded hands None old (ones ++ more) new
handed_then hands old [] mid more new same handed = subst (λ l. AreHanded hands None l more new) same handed
handed_then hands old (one ∷ ones) mid more new first handed =
    (first.0, (first.1.0, handed_then hands first.0 ones mid more new first.1.1 handed))

pub taken_then : {L S : Type 0} (takes_back : L → S → Exchanged → L → Type 0) (old : L) (ones : List (Answered S)) (mid : L)
    (more : List (Answered S)) (new : L) → AreTakenBack takes_back old ones mid → AreTakenBack takes_back mid more new
    → AreTakenBack takes_back old (ones ++ more) new
taken_then takes_back old [] mid more new same taken = subst (λ l. AreTakenBack takes_back l more new) same taken
taken_then takes_back old (one ∷ ones) mid more new first taken =
    (first.0, (first.1.0, taken_then takes_back first.0 ones mid more new first.1.1 taken))

pub answered_then : {S : Type 0} (parts more : List (Part S))
    → answered_along (parts ++ more) ≡ answered_along parts ++ answered_along more
answered_then [] more = refl
answered_then (part ∷ parts) more =
    ap (λ xs. answered_in part ++ xs) (answered_then parts more)
    ∙ sym (append_assoc (answered_in part) (answered_along parts) (answered_along more))

pub handed_in_turn : {S : Type 0} (parts more : List (Part S))
    → handed_along (parts ++ more) ≡ handed_along parts ++ handed_along more
handed_in_turn parts more =
    ap (map (λ a. a.handed)) (answered_then parts more)
    ∙ map-append (λ a. a.handed) (answered_along parts) (answered_along more)

module _ {S B X : Type 0} (contents : S → Option (List ℕ)) (g : Ghosts B)
    (signs : X → List ℕ → Result (List ℕ) SignerFault → X → Type 0) (count : X → ℕ) where
  abbrev Done : List (Part S) → DeskValue B → X → DeskValue B → X → Type 0
  Done = AreDone contents g signs count

  pub done_then : (parts : List (Part S)) (old : DeskValue B) (x : X) (mid : DeskValue B) (z : X) (more : List (Part S))
      (new : DeskValue B) (y : X) → Done parts old x mid z → Done more mid z new y → Done (parts ++ more) old x new y
  done_then [] old x mid z more new y same done =
      subst (λ u. Done more old u new y) same.1 (subst (λ d. Done more d z new y) same.0 done)
  done_then (part ∷ parts) old x mid z more new y first done =
      record {
        desk = first.desk;
        signer = first.signer;
        first = first.first;
        rest = done_then parts first.desk first.signer mid z more new y first.rest done;
      }

  pub done_setting : (parts : List (Part S)) (old : DeskValue B) (x : X) (new : DeskValue B) (y : X)
      → Done parts old x new y → new.setting ≡ old.setting
  done_setting [] old x new y done = ap (λ d. d.setting) done.0
  done_setting (alone a steps ∷ parts) old x new y done =
      done_setting parts done.desk done.signer new y done.rest ∙ done.first.setting
  done_setting (together members ∷ parts) old x new y done =
      done_setting parts done.desk done.signer new y done.rest ∙ done.first.setting

  pub done_honest : (parts : List (Part S)) (old : DeskValue B) (x : X) (new : DeskValue B) (y : X)
      → Done parts old x new y → g.honest new.store → g.honest old.store
  done_honest [] old x new y done honest = subst (λ d. g.honest d.store) done.0 honest
  done_honest (alone a steps ∷ parts) old x new y done honest =
      done.first.honest (done_honest parts done.desk done.signer new y done.rest honest)
  done_honest (together members ∷ parts) old x new y done honest =
      done.first.honest (done_honest parts done.desk done.signer new y done.rest honest)
