-- The two halves of stamps that are answered together: up to the one commit of their reservations, and from their
-- signatures on.
use Rattle.std.specs.Prelude.{◌≡◌, ℕ, ◌≤◌, List, [], map, length, Option, Result, Vec, vec_capacity}
use Rattle.tsp.specs.declared.rule.Rule.{Rule}
use Rattle.cms.specs.declared.signer.SignerFault.{SignerFault}
use Rattle.book.specs.{declared.standing.Standing.Ghosts, History.Reserved}
use Rattle.desk.specs.{auxiliary.Verdicts.JudgesEach, auxiliary.Verdicts.merged, Batches.Question, Batches.SealValue}
use Rattle.desk.specs.{Batches.seal_entry, Command.Setting, Command.Answer, Commits.IsCommitted, Commits.if_accepted}
use Rattle.desk.specs.{auxiliary.Completions.AreWritten, Outcome.Call, Outcome.Fine, WaitingStamps.waiting_view}
use Rattle.desk.specs.{WaitingStamps.pendings_in, declared.pending_batch.PendingBatch.PendingBatch}
use Rattle.desk.specs.declared.waiting_stamp.WaitingStamp.{WaitingStamp}

-- An earlier try to reserve all of them: there was none, or its commit was refused, and none waits now.
pub data IsTried {B : Type 0} (g : Ghosts B) (s : Setting) (asked : List Question) (ws : List WaitingStamp)
    (old new : B) : Type 0 where
  at_once : new ≡ old → IsTried g s asked ws old new
  anew : (rules : List (Option Rule)) (tried : List WaitingStamp) (reserving : Call) (judged : B)
      → JudgesEach g s asked rules tried old judged
      → IsCommitted g (map Reserved (map waiting_view tried)) judged new reserving → (reserving ≡ Fine → ⊥) → ws ≡ []
      → IsTried g s asked ws old new

-- Stamps are begun together: a rule for each that is rejected, and what waits of the others, reserved in one commit.
-- Each is judged by the history with the reservations of those before it.
pub record AreBegun {B : Type 0} (g : Ghosts B) (s : Setting) (asked : List Question) (rules : List (Option Rule))
    (ws : List WaitingStamp) (old new : B) : Type 0 where
  pub begun : B
  pub tried : IsTried g s asked ws old begun
  pub judged : B
  pub judges : JudgesEach g s asked rules ws begun judged
  pub reserved : IsCommitted g (map Reserved (map waiting_view ws)) judged new Fine

-- They are finished together: the tokens of all that were signed are sealed, in one commit, and each is answered.
pub record AreFinished {B : Type 0} (g : Ghosts B) (s : Setting) (rules : List (Option Rule)) (ws : List WaitingStamp)
    (signed : List (Result (List ℕ) SignerFault)) (answers : List Answer) (old new : B) : Type 0 where
  pub seals : List SealValue
  pub replies : List Answer
  pub written : AreWritten (pendings_in s ws) signed seals replies
  pub sealing : Call
  pub sealed : IsCommitted g (map seal_entry seals) old new sealing
  pub says : answers ≡ merged rules (if_accepted sealing replies)

-- an empty list with room for so many
abbrev pub IsRoom : {X A : Type 0} → ℕ → Vec X A → Type 0
IsRoom count list = (list.items ≡ []) × (count ≤ vec_capacity list)

-- what is written of what waits has room, and so have the replies
pub record HasRoom (p : PendingBatch) : Type 0 where
  pub seals : IsRoom (length p.waits.items) p.written.seals
  pub completed : IsRoom (length p.waits.items) p.written.replies
  pub replies : IsRoom (length p.verdicts.items) p.replies

-- of no stamp, with room for so many
pub record IsEmptyBatch (count : ℕ) (p : PendingBatch) : Type 0 where
  pub verdicts : IsRoom count p.verdicts
  pub waits : IsRoom count p.waits
  pub seals : IsRoom count p.written.seals
  pub completed : IsRoom count p.written.replies
  pub replies : IsRoom count p.replies
