use Rattle.store.proofs.path.Store+FileStore+FileFrom+T.migrate_at_place.Goals as goal

pub returns-in-Ok-clause-migrated : goal.returns-in-Ok-clause-migrated
returns-in-Ok-clause-migrated g c = record {
  was = c.in_ok-conn.conn;
  found = λ clean. (c.in_ok-conn.ensures.opened clean, c.in_ok-conn.ensures.found clean);
  done = c.in-Ok._closed;
  migrated = c.in-Ok.ensures.migrated;
}
