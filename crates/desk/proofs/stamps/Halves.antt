-- Stamps that were begun, signed and finished together are answered together.
use Rattle.std.proofs.Common.{◌≡◌, ℕ, List, map, Option, Result, ◌∙◌, ap, subst}
use Rattle.std.specs.List.{AllByRecursion}
use Rattle.tsp.specs.declared.rule.Rule.{Rule}
use Rattle.cms.specs.{Signer.count_after_each, Signer.SignsEach, declared.signer.SignerFault.SignerFault}
use Rattle.book.specs.History.{Reserved, History}
use Rattle.book.specs.{declared.standing.Standing.Ghosts, Shows.ShowsSame, Sound.IsSound, Stands.Stands}
use Rattle.desk.specs.{WaitingStamps.waiting_view, WaitingStamps.pendings_in, WaitingStamps.HasText, Batches.Question}
use Rattle.desk.specs.{Command.Setting, Command.Answer, auxiliary.Completions.texts_of, auxiliary.Halves.AreBegun}
use Rattle.desk.specs.{auxiliary.Halves.AreFinished, Outcome.Fine, Sent.SendsReserved, Together.IsAnsweredTogether}
use Rattle.desk.specs.{auxiliary.Verdicts.merged, declared.waiting_stamp.WaitingStamp.WaitingStamp}
use Rattle.desk.proofs.stamps.Answered as answered
use Rattle.desk.proofs.stamps.Completions.{texts_written, texts_reserved, texts_judged}
use Rattle.desk.proofs.{stamps.Batches.ShowLaws, stamps.Committed.commit_honest, journeys.Sound.TextLaws}

module _ {B : Type 0} (g : Ghosts B) (s : Setting) (asked : List Question) where
  pub begun_honest : (rules : List (Option Rule)) (ws : List WaitingStamp) (old new : B) → AreBegun g s asked rules ws old new
      → g.honest new → g.honest old
  begun_honest rules ws old new h honest =
      answered.tried_honest g s asked ws old h.begun h.tried (h.judges.looks.honest
      (commit_honest g (map Reserved (map waiting_view ws)) h.judged new Fine h.reserved honest))

  -- the texts of what waits are written
  pub begun_texts : (rules : List (Option Rule)) (ws : List WaitingStamp) (old new : B) → AreBegun g s asked rules ws old new
      → map (λ w. w.unsigned.text.items) ws ≡ texts_of (pendings_in s ws)
  begun_texts rules ws old new h = texts_written s ws
      (subst (AllByRecursion (HasText s)) h.judges.waits (texts_judged s h.judges.stamps h.judges.rightly))

  pub halves : {S : Type 0} (signs : S → List ℕ → Result (List ℕ) SignerFault → S → Type 0) (count : S → ℕ)
      (sent : S → List (List ℕ) → S → Type 0) (shows : ShowLaws) (laws : TextLaws) (rules : List (Option Rule))
      (ws : List WaitingStamp) (ss : List (Result (List ℕ) SignerFault)) (answers : List Answer) (old held new : B) (x y : S)
      → AreBegun g s asked rules ws old held → SignsEach signs x (texts_of (pendings_in s ws)) ss y
      → sent x (texts_of (pendings_in s ws)) y → count y ≡ count_after_each ss (count x)
      → AreFinished g s rules ws ss answers held new
      → ((b d : History) → Stands g b new → IsSound d → ShowsSame b d → Stands g d new)
      → IsAnsweredTogether g signs count s asked answers old x new y
      × SendsReserved g sent s asked old x new y
  halves signs count sent shows laws rules ws ss answers old held new x y h moves sends counts f tell =
      answered.assembled g signs count sent shows laws s asked rules ws ss f.seals answers f.replies f.sealing old h.begun
      h.judged held x new y h.tried h.judges h.reserved moves counts f.written f.sealed
      (subst (λ (ts : List (List ℕ)). sent x ts y) (texts_reserved s ws) sends) f.says tell
