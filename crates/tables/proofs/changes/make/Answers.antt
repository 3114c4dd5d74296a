use Rattle.tables.proofs.{Words.ap, Words.day_of, Words.reader_view, AnswerLemmas.refused_carries, CountLemmas.chained}
use Rattle.tables.proofs.{CountLemmas.reworded, RightLemmas.right_given}
use Rattle.tables.specs.auxiliary.Steps.{with_count}
use Rattle.tables.proofs.changes.make.Goals as goal

pub returns-in_ok-put_stamp-in-Reserved-clause-carries : goal.returns-in_ok-put_stamp-in-Reserved-clause-carries
returns-in_ok-put_stamp-in-Reserved-clause-carries g c =
    let account = c.in-Reserved.reservation.account.now in
    let counted =
    reworded _ (with_count account (day_of c.in-Reserved.reservation.gen_time)) _ _ _ c.count_stamp.ensures.carries
    (λ clean inside t d. ap (λ day. with_count account day t) c.day_of.ensures) in
    rw c.in-Reserved.is (chained _ _ _ _ _ _ _ c.in_ok-put_stamp-in-Reserved.ensures.carries counted)

pub returns-in-Sealed-clause-carries : goal.returns-in-Sealed-clause-carries
returns-in-Sealed-clause-carries g c = rw c.in-Sealed.is c.set_token.ensures.carries

pub returns-in_ok-set_token-in-Deposited-clause-carries : goal.returns-in_ok-set_token-in-Deposited-clause-carries
returns-in_ok-set_token-in-Deposited-clause-carries g c =
    rw c.in-Deposited.is (chained _ _ _ _ _ _ _ c.in_ok-set_token-in-Deposited.ensures.carries
    c.put_deposit.ensures.carries)

pub returns-in-Calibrated-clause-carries : goal.returns-in-Calibrated-clause-carries
returns-in-Calibrated-clause-carries g c = rw c.in-Calibrated.is c.put_calibration.ensures.carries

pub returns-in-Held-clause-carries : goal.returns-in-Held-clause-carries
returns-in-Held-clause-carries g c = rw c.in-Held.is c.put_hold.ensures.carries

pub returns-in_ok-drop_right-in-Granted-clause-carries : goal.returns-in_ok-drop_right-in-Granted-clause-carries
returns-in_ok-drop_right-in-Granted-clause-carries g c =
    rw c.in-Granted.is (reworded _ _ _ _ _
    (chained _ _ _ _ _ _ _ c.in_ok-drop_right-in-Granted.ensures.carries c.put_right.ensures.carries)
    (λ clean inside t d. right_given (reader_view c.in-Granted.reader) c.in-Granted.number t))

pub returns-in-Revoked-clause-carries : goal.returns-in-Revoked-clause-carries
returns-in-Revoked-clause-carries g c = rw c.in-Revoked.is c.drop_right-in-Revoked.ensures.carries

pub returns-in-Installed-clause-carries : goal.returns-in-Installed-clause-carries
returns-in-Installed-clause-carries g c = rw c.in-Installed.is c.put_identity.ensures.carries

pub returns-in_err-put_stamp-in-Reserved-clause-carries : goal.returns-in_err-put_stamp-in-Reserved-clause-carries
returns-in_err-put_stamp-in-Reserved-clause-carries g c =
    refused_carries _ _ _ _ _ _ c.in_err-put_stamp-in-Reserved.ensures.carries c.from_residual.ensures.0

pub returns-in_err-set_token-in-Deposited-clause-carries : goal.returns-in_err-set_token-in-Deposited-clause-carries
returns-in_err-set_token-in-Deposited-clause-carries g c =
    refused_carries _ _ _ _ _ _ c.in_err-set_token-in-Deposited.ensures.carries
    c.from_residual-in_err-set_token-in-Deposited.ensures.0

pub returns-in_err-drop_right-in-Granted-clause-carries : goal.returns-in_err-drop_right-in-Granted-clause-carries
returns-in_err-drop_right-in-Granted-clause-carries g c =
    refused_carries _ _ _ _ _ _ c.in_err-drop_right-in-Granted.ensures.carries
    c.from_residual-in_err-drop_right-in-Granted.ensures.0
