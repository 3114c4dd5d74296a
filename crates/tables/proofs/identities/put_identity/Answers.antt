use Rattle.tables.proofs.Lookups.{finds_greatest_identity, finds_last_stamp}
use Rattle.tables.proofs.NumberLemmas.{number_is, numbered}
use Rattle.tables.proofs.{Words.refl, Words.ℕ, Words.◌+◌, CellLemmas.value_more, InsertLemmas.adds_identity}
use Rattle.tables.specs.{Changes.greatest_by, Tables.InstalledRow, Tables.with_identity}
use Rattle.tables.proofs.identities.put_identity.Goals as goal

pub number_in-requires : goal.number_in-requires
number_in-requires g c = finds_greatest_identity.text

pub number_in-requires-2 : goal.number_in-requires-2
number_in-requires-2 g c = finds_last_stamp.text

pub returns-clause-carries : goal.returns-clause-carries
returns-clause-carries g c =
    let row = λ (number : ℕ) (serial : ℕ). let r : InstalledRow = record {
      number = number;
      after_serial = serial;
      certificate = c.args.certificate.now;
      chain = c.args.chain.now;
    } in r in
    let greatest = c.in_ok-greatest in
    let serial = c.in_ok-serial in
    numbered (λ n t. with_identity (row (n + 1) (greatest_by (λ s. s.serial) t.stamps)) t)
    (λ t. greatest_by (λ i. i.number) t.identities) _ _ _ _ _ greatest.ensures.carries
    (λ clean t d. number_is _ _ (λ x. refl) _ _ finds_greatest_identity t _ _ d.holds
    (greatest.ensures.told clean d.schema))
    (numbered (λ n. with_identity (row (greatest.greatest + 1) n)) (λ t. greatest_by (λ s. s.serial) t.stamps)
    _ _ _ _ _ serial.ensures.carries
    (λ clean t d. number_is _ _ (λ x. refl) _ _ finds_last_stamp t _ _ d.holds
    (serial.ensures.told clean d.schema))
    (adds_identity (row (greatest.greatest + 1) serial.serial) _ _ _ c.execute.ensures.survives _
    (value_more _ _ c.in_ok-number.ensures.value (value_more _ _ c.in_ok-after_serial.ensures.value refl))
    c.execute.ensures.runs))
