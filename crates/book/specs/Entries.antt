-- Entries that one call adds, as the history has them, and what such a call does.
use Rattle.std.specs.Prelude.{◌⊎◌, List, [], ◌∷◌, map, Result, OnOk, OnErr}
use Rattle.book.specs.{declared.fault.StoreFault.StoreFault, declared.standing.Standing.Ghosts, Readers.Reader}
use Rattle.book.specs.{Readers.Account, Readers.Group, Fault.CountsFaults, History.History, Sound.Fits, Stands.Stands}
use Rattle.book.specs.declared.entries.{Entry.Entry as Added, Reader.Reader as Named}
use Rattle.book.specs.History.{Entry, Reserved, Sealed, Deposited, Calibrated, Held, Granted, Revoked, Installed}
use Rattle.book.specs.Values.{reservation_view, calibration_view, hold_view, deposit_of, installed_of}
use Rattle.book.specs.declared.entries.Entry.TheVariants as added
use Rattle.book.specs.declared.entries.Reader.TheVariants as named

abbrev pub reader_view : Named → Reader
reader_view (named.Account name) = Account name.now
reader_view (named.Group name) = Group name.now

abbrev pub entry_view : Added → Entry
entry_view (added.Reserved reservation) = Reserved (reservation_view reservation)
entry_view (added.Sealed serial token) = Sealed serial token.now
entry_view (added.Deposited serial token owner reference bytes) =
    Deposited (deposit_of serial owner.now reference.now bytes.now) token.now
entry_view (added.Calibrated calibration) = Calibrated (calibration_view calibration)
entry_view (added.Held hold) = Held (hold_view hold)
entry_view (added.Granted number reader) = Granted number (reader_view reader)
entry_view (added.Revoked number reader) = Revoked number (reader_view reader)
entry_view (added.Installed certificate chain) = Installed (installed_of certificate.now chain.now)

abbrev pub entries_view : List Added → List Entry
entries_view entries = map entry_view entries

-- the history with each entry in turn, the first of the list first
abbrev pub with_all : List Entry → History → History
with_all [] b = b
with_all (entry ∷ entries) b = with_all entries (entry ∷ b)

-- each entry fits the history before it
abbrev pub FitInTurn : List Entry → History → Type 0
FitInTurn [] b = Unit {0}
FitInTurn (entry ∷ entries) b = Fits entry b × FitInTurn entries (entry ∷ b)

-- after a stop in the call or at its end: what could be left before, or the history with all the entries
abbrev pub LeavesOrAddsAll : {X : Type 0} → Ghosts X → List Entry → X → X → Type 0
LeavesOrAddsAll g entries old new =
    g.honest new → (left : g.Left) → g.leaves new left
    → g.leaves old left ⊎ ((b : History) → Stands g b old → FitInTurn entries b → g.holds left (with_all entries b))

-- what a call does that adds these entries in one commit
pub record Appends {X A : Type 0} (g : Ghosts X) (entries : List Entry) (old new : X)
    (result : Result A StoreFault) : Type 0 where
  -- a book that returned what was written by the call's end did so before
  pub honest : g.honest new → g.honest old
  -- where they are accepted it was open, and is
  pub opened : g.honest new → OnOk result (g.is_open old × g.is_open new)
  -- accepted: the book stands for the history with them
  pub ok : (b : History) → Stands g b old → FitInTurn entries b → OnOk result (Stands g (with_all entries b) new)
  -- refused: for the same history
  pub err : (b : History) → Stands g b old → OnErr result (Stands g b new)
  pub crash : LeavesOrAddsAll g entries old new
  pub faults : CountsFaults result (g.fault_count old) (g.fault_count new)
