-- Entries in turn, inside one transaction.
use Rattle.book.specs.declared.entries.Entry.{Entry}
use Rattle.tables.proofs.Words.{Database, Err, Error, IsTrue, List, Ok, Result, State, [], ap, arith, entries_view}
use Rattle.tables.proofs.Words.{entry_view, eqb-true, get_or, length, map-append, refl, sym, take, take_all, take_more}
use Rattle.tables.proofs.Words.{true, ℕ, ◌++◌, ◌+◌, ◌<◌, ◌==◌, ◌∙◌, ◌∷◌, ◌≡◌, ◌≤◌}
use Rattle.tables.proofs.AnswerLemmas.{keeps_same, survives_same}
use Rattle.tables.proofs.CountLemmas.{built_on, chained, restated}
use Rattle.tables.specs.{Changes.applied, Changes.applied_all, Schema.no_schema, Tables.Tables, Tables.no_rows}
use Rattle.tables.specs.{Transaction.Carries, Transaction.CarriesFrom, Transaction.IsSoundOf, Versions.Fills}
use Rattle.book.specs.History as history

applied_more : (entries : List history.Entry) (entry : history.Entry) (t : Tables)
    → applied_all (entries ++ entry ∷ []) t ≡ applied entry (applied_all entries t)
applied_more [] entry t = refl
applied_more (first ∷ entries) entry t = applied_more entries entry (applied first t)

-- what the first so many entries made of a connection, of which nothing is known before the first
abbrev pub MadeSome : List Entry → ℕ → State → State → Type 0
MadeSome entries i old new =
    CarriesFrom IsSoundOf (0 < i) {X = Unit {0}} (applied_all (entries_view (take i entries))) old new (Ok tt)

pub made_none : (entries : List Entry) (s : State) → MadeSome entries 0 s s
made_none entries s = record {
  survives = survives_same s _;
  kept = λ clean inside. keeps_same s;
  ok = λ clean inside. record {
    was_open = λ none. absurd (omega arith);
    inside = inside;
    goes = λ t d. d.database;
    sound = λ t d. d.sound;
  };
}

pub made_next : {X : Type 0} (entries : List Entry) (i : ℕ) (d : Entry) (old mid new : State) (x : X)
    → i < length entries → MadeSome entries i old mid
    → Carries (applied (entry_view (get_or entries i d))) mid new (Ok x) → MadeSome entries (i + 1) old new
made_next entries i d old mid new x within before p =
    let q = restated _ (applied_all (entries_view (take (i + 1) entries))) old new _ (λ _. tt)
    (chained (applied_all (entries_view (take i entries))) (applied (entry_view (get_or entries i d))) old mid new tt
    (Ok x) before p)
    (λ clean inside t s. sym (ap (λ (es : List history.Entry). applied_all es t)
    (ap entries_view (take_more entries i d within)
    ∙ map-append entry_view (take i entries) (get_or entries i d ∷ []))
    ∙ applied_more (entries_view (take i entries)) (entry_view (get_or entries i d)) t)) in
    record { survives = q.survives; kept = q.kept; ok = q.ok }

-- all of them, where there is one
pub made_whole : (entries : List Entry) (i : ℕ) (old new : State) → 0 < length entries → length entries ≤ i
    → MadeSome entries i old new
    → Carries {X = Unit {0}} (applied_all (entries_view entries)) old new (Ok tt)
made_whole entries i old new some past made =
    restated _ (applied_all (entries_view entries)) old new _ (λ _. omega arith) made
    (λ clean inside t s. ap (λ (es : List Entry). applied_all (entries_view es) t) (take_all i entries past))

-- the next is refused
pub refused_next : {X Y : Type 0} (entries : List Entry) (i : ℕ) (entry : Entry) (old mid new : State) (e told : Error)
    → MadeSome entries i old mid → Carries {X = X} (applied (entry_view entry)) mid new (Err e)
    → Carries {X = Y} (applied_all (entries_view entries)) old new (Err told)
refused_next {X} {Y} entries i entry old mid new e told before p =
    let failed : Result X Error = Err e in
    let q = chained (applied_all (entries_view (take i entries))) (applied (entry_view entry)) old mid new tt failed
    before p in
    record { survives = q.survives; kept = q.kept; ok = λ clean inside. tt }

-- ---- entries behind the making of the tables

abbrev Makes : State → State → Type 0
Makes old new =
    CarriesFrom (λ _ (d : Database). d.schema ≡ no_schema) (IsTrue old.is_open) {X = Unit {0}} (λ _. no_rows) old new
    (Ok tt)

pub filled_none : (entries : List Entry) (old new : State) → (length entries == 0) ≡ true → Makes old new
    → Fills (entries_view entries) old new (Ok tt)
filled_none [] old new none makes = makes
filled_none (x ∷ xs) old new none makes = absurd (let some = eqb-true (length (x ∷ xs)) 0 none in cc)

pub filled_each : (entries : List Entry) (old mid new : State) → Makes old mid
    → Carries {X = Unit {0}} (applied_all (entries_view entries)) mid new (Ok tt)
    → Fills (entries_view entries) old new (Ok tt)
filled_each entries old mid new makes carries =
    built_on (λ _. no_rows) (applied_all (entries_view entries)) old mid new tt (Ok tt) makes carries
