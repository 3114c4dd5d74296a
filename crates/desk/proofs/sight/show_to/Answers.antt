use Rattle.std.proofs.{Common.[], Common.Ok, Common.refl, Common.subst, Common.◌∙◌, lemmas.Result.err_from_is_err_and}
use Rattle.policy.specs.View.{account_view}
use Rattle.book.specs.{Readers.Account, Values.deposit_view}
use Rattle.desk.specs.{Calls.settings_view, Viewers.viewer_in, Command.Show, Command.Shown, Command.Refused}
use Rattle.desk.specs.{auxiliary.Obstacles.Sees, auxiliary.Obstacles.IsUnseen, Outcome.all_fine}
use Rattle.desk.specs.declared.fault.Fault.TheVariants as fault
use Rattle.desk.specs.declared.obstacle.Obstacle.TheVariants as obstacle
use Rattle.desk.proofs.documents.Denied.{looks_as, denied, deposit_found, sight_is_right, unlooked, unshown, shown}
use Rattle.desk.proofs.calls.Wrapped.{call_ok, call_err}
use Rattle.desk.proofs.{stamps.Judgement.looks_then, documents.Shows.unseen}
use Rattle.desk.proofs.sight.show_to.Goals as goal

pub returns-in_err-see-clause-step : goal.returns-in_err-see-clause-step
returns-in_err-see-clause-step g c =
    let s = settings_view c.args.settings in
    let a = account_view c.args.account.now in
    let n = c.args.number in
    let viewer = viewer_in s.file a.name in
    let x = c.in_err-see.field-0.0 in
    let refused = c.in_err-see.ensures in
    let told = err_from_is_err_and c.from_residual.result c.from_residual.ensures.1 in
    rw (told.1, told.2) (denied (Account a.name) g.B.Standing s (Show a n) c.args.store.now c.see.new.store x
    (λ searching looking. (refl, (tt, tt))) (λ f. tt) (sight_is_right (Account a.name) x refused.refusals) refused.looks
    refused.counted
    (λ honest b st. unshown viewer n b x refused.refusals
    (subst (λ k. IsUnseen (viewer_in s.file k) n b x) c.as_str.ensures.value (refused.sees honest b st))))

pub returns-in_err-found-clause-step : goal.returns-in_err-found-clause-step
returns-in_err-found-clause-step g c =
    let s = settings_view c.args.settings in
    let a = account_view c.args.account.now in
    let n = c.args.number in
    let viewer = viewer_in s.file a.name in
    let refused = call_err obstacle.Looking c.deposit.result c.in_err-found.field-0.0 c.in_err-found.ensures.cases in
    let told = err_from_is_err_and c.from_residual-in_err-found.result c.from_residual-in_err-found.ensures.1 in
    let of = rw refused.1 at c.deposit.ensures.refusals in
    rw (told.1, told.2, refused.2) (unlooked (Account a.name) g.B.Standing s (Show a n) viewer n c.args.store.now
    c.see.new.store c.deposit.new.self refused.0 (λ searching looking. (refl, (tt, tt))) (λ f. tt) of
    c.in_ok-see.ensures.looks c.in_ok-see.ensures.counted c.deposit.ensures.looks
    (rw refused.1 at c.deposit.ensures.faults)
    (λ honest b st. subst (λ k. Sees (viewer_in s.file k) n b) c.as_str.ensures.value
    (c.in_ok-see.ensures.sees honest b st))
    (λ b seen. unshown viewer n b (obstacle.Looking refused.0) of seen))

pub returns-in_default-clause-step : goal.returns-in_default-clause-step
returns-in_default-clause-step g c =
    let s = settings_view c.args.settings in
    let a = account_view c.args.account.now in
    let n = c.args.number in
    let viewer = viewer_in s.file a.name in
    let told = call_ok obstacle.Looking c.deposit.result c.in_ok-found.found c.in_ok-found.ensures.cases in
    looks_as g.B.Standing s (Show a n) c.args.store.now c.deposit.new.self (all_fine (Ok [])) (Refused fault.NotHere)
    (refl, (tt, tt)) ((rw told at c.deposit.ensures.faults) ∙ c.in_ok-see.ensures.counted) tt tt
    (looks_then g.B.Standing _ _ _ c.in_ok-see.ensures.looks c.deposit.ensures.looks)
    (λ honest b st. unshown viewer n b (obstacle.Denied fault.NotHere) refl (unseen viewer n b st.sound (rw (told, c.in_default.is)
    at (c.deposit.ensures.value honest b (c.in_ok-see.ensures.looks.stands b st)))))

pub returns-clause-step : goal.returns-clause-step
returns-clause-step g c =
    let s = settings_view c.args.settings in
    let a = account_view c.args.account.now in
    let n = c.args.number in
    let viewer = viewer_in s.file a.name in
    let told = call_ok obstacle.Looking c.deposit.result c.in_ok-found.found c.in_ok-found.ensures.cases in
    let d = deposit_view c.in-Some.found.deposit in
    looks_as g.B.Standing s (Show a n) c.args.store.now c.deposit.new.self (all_fine (Ok [])) (Shown d.bytes)
    (refl, (tt, tt)) ((rw told at c.deposit.ensures.faults) ∙ c.in_ok-see.ensures.counted) tt tt
    (looks_then g.B.Standing _ _ _ c.in_ok-see.ensures.looks c.deposit.ensures.looks)
    (λ honest b st. let seen = subst (λ k. Sees (viewer_in s.file k) n b) c.as_str.ensures.value
    (c.in_ok-see.ensures.sees (c.deposit.ensures.looks.honest honest) b st) in
    let found = rw (told, c.in-Some.is) at (c.deposit.ensures.value honest b (c.in_ok-see.ensures.looks.stands b st)) in
    shown viewer n b d (deposit_found viewer n b seen.0 c.in-Some.found seen.1 found))
