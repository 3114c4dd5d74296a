use Rattle.store.proofs.Words.{Appends, IsCounted, Result, StoreFault, TableFault, ap, count_after, entries_view}
use Rattle.store.proofs.{Words.fault_of, Words.subst, Words.sym, Words.ℕ, Words.◌∙◌, Words.◌≡◌, Calls.appends}
use Rattle.store.proofs.{Calls.refused, store.StoreBook.append.Goals.in-Err, store.StoreBook.append.Goals.in-Ok}
use Rattle.store.specs.Stands.{over_tables}
use Rattle.tables.specs.declared.fault.TableFault.TheVariants as table
use Rattle.store.proofs.store.StoreBook.append.Goals as goal

counted : (f : TableFault) (old new : ℕ) → IsCounted f old new → new ≡ count_after (fault_of f) old
counted table.Memory old new is = is
counted table.Database old new is = is

pub returns-clause-appends : goal.returns-clause-appends
returns-clause-appends g c =
    let entries = entries_view c.args.entries.now in
    let P : Result (Unit {0}) StoreFault → Type 0 =
    λ r. Appends {A = Unit {0}} (over_tables g.S.Store) entries c.args.self.now c.commit.new.self r in
    elim c.match-commit.branch [
      | in-Ok w ↦ subst P (sym w.result-is)
          (appends g.S.Store entries c.self.inside.base c.args.self.now c.commit.new.self c.self.view_is
          w.in-Ok.ensures.honest w.in-Ok.ensures.crash w.in-Ok.ensures.opened w.in-Ok.ensures.ok
          w.in-Ok.ensures.uncounted)
      | in-Err w ↦ subst P (sym w.result-is)
          (refused g.S.Store entries c.self.inside.base c.args.self.now c.commit.new.self c.self.view_is
          w.in-Err.ensures.honest w.in-Err.ensures.crash w.from.result w.in-Err.ensures.err
          (counted w.in-Err.fault _ _ w.in-Err.ensures.counted
          ∙ ap (λ f. count_after f c.self.inside.base.faults) (sym w.from.ensures)))
    ]
