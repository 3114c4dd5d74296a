use Rattle.store.proofs.path.look_for_tables.Goals as goal

pub returns-clause-bare : goal.returns-clause-bare
returns-clause-bare c = record {
  was = c.in_ok-conn.conn;
  found = λ clean. (c.in_ok-conn.ensures.opened clean, c.in_ok-conn.ensures.found clean);
  bare = c.in_ok-drop_if_bare.ensures.bare;
}
