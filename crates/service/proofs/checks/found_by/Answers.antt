use Rattle.service.proofs.checks.found_by.Goals as goal

pub returns-in-Stamp : goal.returns-in-Stamp
returns-in-Stamp c = rw c.in-Stamp.is c.stamp.ensures

pub returns-in-Keep : goal.returns-in-Keep
returns-in-Keep c = rw c.in-Keep.is c.keep.ensures

pub returns-in-List : goal.returns-in-List
returns-in-List c = rw c.in-List.is c.list.ensures

pub returns-in-Deposit : goal.returns-in-Deposit
returns-in-Deposit c = rw c.in-Deposit.is c.deposit.ensures

pub returns-in-Extract : goal.returns-in-Extract
returns-in-Extract c = rw c.in-Extract.is c.extract.ensures

pub returns-in-Calibrate : goal.returns-in-Calibrate
returns-in-Calibrate c = rw c.in-Calibrate.is c.calibrate.ensures

pub returns-in-Hold : goal.returns-in-Hold
returns-in-Hold c = rw c.in-Hold.is c.hold.ensures

pub returns-in-Status : goal.returns-in-Status
returns-in-Status c = rw c.in-Status.is c.status.ensures

pub returns-in-Account : goal.returns-in-Account
returns-in-Account c = rw c.in-Account.is c.account.ensures
