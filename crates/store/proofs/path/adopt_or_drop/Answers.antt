use Rattle.store.proofs.path.adopt_or_drop.Goals as goal

pub returns-in-Err-clause-foreign : goal.returns-in-Err-clause-foreign
returns-in-Err-clause-foreign g c is = record {
  left = c.in-Err._conn;
  looks = c.in-Err.ensures.unchanged;
  foreign = c.in-Err.ensures.foreign is;
  other = c.in-Err.ensures.not_ours is;
}
