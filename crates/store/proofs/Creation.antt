-- What the making of the tables leaves.
use Rattle.store.proofs.Words.{BaseValue, Entry, Err, Error, FitInTurn, Ghosts, IfOk, IsStored, Keeps, List, Ok, Result}
use Rattle.store.proofs.Words.{State, StoreFault, [], applied_all, inl, inr, no_rows, sound_all, subst, with_all, ◌≡◌}
use Rattle.store.proofs.Calls.{tables_step}
use Rattle.tables.specs.Versions.{Creates}
use Rattle.store.specs.{Files.LeavesAsItWas, Files.LeavesOrMakes, Stands.Stands, TablesOf.tables_of}

-- entries that fit in turn make the tables of their history
tables_made : (entries : List Entry) → FitInTurn entries [] → applied_all entries no_rows
    ≡ tables_of (with_all entries [])
tables_made entries fit = tables_step entries [] tt fit

pub left_or_made : (entries : List Entry) (old new : State) (r : Result (Unit {0}) Error) → Creates entries old new r
    → LeavesOrMakes entries old new
left_or_made entries old new r made clean db may = elim (made.crash clean db may) [
  | inl before ↦ inl before
  | inr now ↦ inr (λ has fit. subst (λ t. IsStored t db) (tables_made entries fit) (now.1 no_rows has))
]

pub left_as_it_was : (entries : List Entry) (old new : State) (e : Error) → Creates entries old new (Err e)
    → LeavesAsItWas old new
left_as_it_was entries old new e made =
    record { clean = made.clean; reopens = made.reopens; kept = made.err; usable = made.usable }

pub stands_made : {S : Type 0} (g : Ghosts S) (entries : List Entry) (store : BaseValue S) → FitInTurn entries []
    → Keeps g (applied_all entries no_rows) store → Stands g (with_all entries []) store
stands_made g entries store fit keeps = record {
  sound = sound_all entries [] tt fit;
  kept = subst (λ t. Keeps g t store) (tables_made entries fit) keeps;
}

-- with no entries it is the empty history's
pub made_of_none : {S : Type 0} (g : Ghosts S) (r : Result (BaseValue S) StoreFault)
    → IfOk r (λ store. FitInTurn [] [] → Stands g (with_all [] []) store) → IfOk r (λ store. Stands g [] store)
made_of_none g (Ok store) made = made tt
made_of_none g (Err fault) made = tt
