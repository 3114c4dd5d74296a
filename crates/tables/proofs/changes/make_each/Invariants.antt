use Rattle.tables.proofs.{Words.state, Words.◌≡◌, EachLemmas.MadeSome}
use Rattle.tables.proofs.changes.make_each.Given as goal

abbrev pub invariant-loop-entry : goal.invariant-loop-entry
invariant-loop-entry g l = record {
  same : l.tx.conn.ghost_name ≡ l.fn.tx.conn.ghost_name;
  made : MadeSome l.entries l.entry-index (state g.S.Store l.fn.tx.conn.now) (state g.S.Store l.tx.conn.now);
}
