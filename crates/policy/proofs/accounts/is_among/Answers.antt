use Rattle.std.proofs.Common.{◌≡◌, rules, tests}
use Rattle.std.proofs.lemmas.Iterator.{YieldsList-from_slice, cases_from_any}
use Rattle.policy.{specs.View.account_view, proofs.Among.tells_among}
use Rattle.policy.proofs.accounts.is_among.Goals as goal

pub returns : goal.returns
returns c =
    let account = account_view c.args.account.now in
    tells_among account_view c.args.accounts.now account c.any.result
    (cases_from_any _ _ c.any.result (λ x. account_view x ≡ account) (λ x. account_view x ≡ account → ⊥)
    c.any.ensures.ran (YieldsList-from_slice c.args.accounts.now cc) (λ x q k. search (rules, tests))
    (λ x q k. search (rules, tests)))
