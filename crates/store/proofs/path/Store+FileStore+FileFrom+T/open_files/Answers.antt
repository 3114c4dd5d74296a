use Rattle.store.proofs.Words.{inr}
use Rattle.store.proofs.path.Store+FileStore+FileFrom+T.open_files.Goals as goal

pub returns-in-Ok-clause-found : goal.returns-in-Ok-clause-found
returns-in-Ok-clause-found g c is clean =
    let looks = c.in-Ok.ensures.looks is in
    let early = looks.clean clean in record {
      was = c.in_ok-conn.conn;
      opened = c.in_ok-conn.ensures.opened early;
      found = c.in_ok-conn.ensures.found early;
      ours = c.in-Ok.ensures.ours is clean;
      looks = looks;
      stands = c.in-Ok.ensures.stands is;
    }

pub returns-in-Err-clause-foreign : goal.returns-in-Err-clause-foreign
returns-in-Err-clause-foreign g c adopts is =
    let seems = c.in-Err.ensures.foreign adopts is in
    inr (record {
      was = c.in_ok-conn.conn;
      seems = seems;
      found = λ clean. let early = seems.looks.clean clean in
          (c.in_ok-conn.ensures.opened early, c.in_ok-conn.ensures.found early);
    })

pub returns-in-Err-clause-refusals : goal.returns-in-Err-clause-refusals
returns-in-Err-clause-refusals g c = c.in-Err.ensures.refusals
