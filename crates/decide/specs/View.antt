-- What the types stand for.
use Rattle.std.{specs.Prelude.Option, specs.Prelude.option_map, proofs.Common.Bor}
use Rattle.policy.specs.{Record.AccountValue, View.account_view, declared.entries.Account.Account}
use Rattle.decide.specs.Verdict.{PlanValue, VerdictValue, Allowed, Denied}
use Rattle.decide.specs.declared.verdict.Plan.{Plan}
use Rattle.decide.specs.declared.verdict.Verdict.{Verdict, TheVariants.Allow, TheVariants.Deny}

-- the account that asks, where one does
abbrev pub account_asked : Option (Bor Account) → Option AccountValue
account_asked account = option_map (λ a. account_view a.now) account

abbrev pub plan_view : Plan → PlanValue
plan_view plan = record { policy = plan.policy.now; gen_time = plan.gen_time; certificate = plan.certificate }

abbrev pub verdict_view : Verdict → VerdictValue
verdict_view (Allow plan) = Allowed (plan_view plan)
verdict_view (Deny rule) = Denied rule
