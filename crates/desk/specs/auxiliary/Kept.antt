-- In what a token is kept, and what is answered then.
use Rattle.policy.specs.View.{account_view}
use Rattle.desk.specs.{Command.Answer, Effects.Keeping, Effects.in_seal, Effects.in_deposit}
use Rattle.desk.specs.{declared.keeping.Keeping.Keeping as Kept, declared.unsigned_token.Written.Written}
use Rattle.desk.specs.declared.keeping.Keeping.TheVariants as kept

abbrev pub keeping_view : Kept → Keeping
keeping_view kept.Seal = in_seal
keeping_view (kept.Deposit submission) =
    in_deposit (account_view submission.account.now).name submission.reference.now submission.bytes.now

-- a token that is kept so is answered so
abbrev pub kept_as : Keeping → Written → Answer
kept_as k w = k.says w.serial w.token.items
