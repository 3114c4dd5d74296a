-- What is promised of each command of the machine on a sound history, as the laws say it: of what it has signed and
-- grants, of what it shows, of what it tells its account of others and leaves of others' for it, and of what it adds.
use Rattle.std.specs.Prelude.{◌≡◌, ℕ, List, Some}
use Rattle.book.specs.{History.History, Sound.IsSound}
use Rattle.desk.specs.Command.{InForce, Setting, PendingValue, Command, Succeed, Begun, Done, setting_after}
use Rattle.desk.specs.Laws.{IsReservedText, IsPendingOf, IsOfPlan, IsCommandOfOther, Concerns, StaysFor}
use Rattle.desk.specs.{Agreement.Agree, Agreement.IsCommandOf, Content.IsSoundInFull, Outcome.Outcome, Effects.Effect}
use Rattle.desk.specs.{MachineStep.HasEffect, MachineStep.IsMet, MachineRuns.IsProper, MachineRuns.after}
use Rattle.desk.specs.{Sight.ShowsExactly, Names.IsNameableFor, Succession.IsInForce, Viewers.viewer_in}

-- the same effect from another history, and that the histories after it agree
pub record IsAlike (account : List ℕ) (s : Setting) (c : Command) (o : Outcome) (b other : History) (e : Effect)
    : Type 0 where
  pub has : HasEffect s c o other e
  pub agree : Agree (viewer_in s.file account) (after e b) (after e other)

pub record KeepsPromises (s : Setting) (c : Command) (o : Outcome) (b : History) (e : Effect) : Type 0 where
  -- What a signer is asked to sign, and what waits for its signature, is over the reservation that the command adds
  -- before all else, under a serial number above all before it.
  pub asked : (text : List ℕ) → e.asks ≡ Some text → IsReservedText s e b text
  pub begun : (p : PendingValue) → e.says ≡ Begun p → IsPendingOf s e b p
  -- A grant, a rejection and a deposit is of its plan, or by the first rule that fails.
  pub of_plan : IsOfPlan s c o b e e.says
  -- A deposit is shown or listed to exactly its owner and its current readers.
  pub shows : ShowsExactly s.file c o b e.says
  -- An account's command has the same effect, and so the same answer, from each sound history that agrees for the
  -- account, under the same outcome, and the histories that follow agree again.
  pub isolated : (account : List ℕ) → IsCommandOf account c → (other : History) → IsSound other
      → Agree (viewer_in s.file account) b other → IsAlike account s c o b other e
  -- Another account's command changes, of what agreement for this one names, at most the greatest serial number, the
  -- last genTime and the one deposit to which it gives or takes a right.
  pub undisturbed : (account : List ℕ) → IsCommandOfOther account c
      → StaysFor (viewer_in s.file account) (λ number. Concerns number c) b (after e b)
  -- A history that is sound in full is left sound in full: each deposit's stamp has the digest of its octets, and each
  -- reservation the TSTInfo that answers its request, and that names nobody or the identity of its serial number.
  pub whole : IsProper s → IsNameableFor s c b → IsSoundInFull b → IsMet c b → IsSoundInFull (after e b)
  -- What is in force stays the identity that was installed last, and what a succession brings is it from then on.
  pub in_force : IsInForce s.in_force b → IsInForce (setting_after s c e.says).in_force (after e b)
  pub brought : (next : InForce) → c ≡ Succeed next → e.says ≡ Done → IsInForce next (after e b)
