-- A commit of entries, of which there may be none.
use Rattle.std.specs.Prelude.{◌≡◌, List, [], Result, Ok, Err}
use Rattle.book.specs.declared.fault.StoreFault.{StoreFault}
use Rattle.book.specs.{declared.standing.Standing.Ghosts, Entries.Appends, Fault.IsOfStorage, History.Entry}
use Rattle.desk.specs.{Calls.call_of, Outcome.Call, Outcome.Fine}

-- how it was answered
abbrev pub call_for : {A : Type 0} → Result A StoreFault → Call
call_for (Ok done) = Fine
call_for (Err fault) = call_of fault

-- these, where a commit was answered so, and none where it was refused
abbrev pub if_accepted : {A : Type 0} → Call → List A → List A
if_accepted Fine xs = xs
if_accepted _ xs = []

-- What it does: nothing where there is none to add; else they are added, or it is refused. Of entries that fit some
-- history that says something of every store, whatever it returns: a body over any `Book` can show `Appends` only of
-- what it gave to `append`.
pub data IsCommitted {B : Type 0} (g : Ghosts B) (entries : List Entry) (old new : B) (call : Call) : Type 0 where
  untried : entries ≡ [] → call ≡ Fine → new ≡ old → IsCommitted g entries old new call
  added : (entries ≡ [] → ⊥) → call ≡ Fine → Appends {A = Unit {0}} g entries old new (Ok tt)
      → IsCommitted g entries old new call
  refused : (entries ≡ [] → ⊥) → (fault : StoreFault) → call ≡ call_of fault → IsOfStorage fault
      → Appends {A = Unit {0}} g entries old new (Err fault) → IsCommitted g entries old new call
