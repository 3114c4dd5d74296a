use Rattle.tables.proofs.CellLemmas.{text_more, value_more}
use Rattle.tables.proofs.{Words.refl, BaseReads.fault_alone, FoundLemmas.any_looks, Lookups.finds_is_owner}
use Rattle.tables.proofs.base.Base.is_owner.Goals as goal

pub returns : goal.returns
returns g c =
    any_looks g.S.Store _ (value_more _ _ c.in_ok-serial.ensures.value (text_more c.as_bytes.ensures.value refl)) _ _ _
    (rw c.in_ok-serial.ensures.same at c.any_row.ensures) (finds_is_owner c.args.serial c.args.account.now)

pub returns-in_err-serial : goal.returns-in_err-serial
returns-in_err-serial g c =
    fault_alone g.S.Store _ _ _ _ _ c.from_residual.ensures.1
    c.in_err-serial.ensures.unasked c.in_err-serial.ensures.counted
