use Rattle.std.proofs.Common.{[], Ok, refl, sym, ◌∙◌, ap, subst}
use Rattle.std.proofs.lemmas.Result.{err_from_is_err_and}
use Rattle.std.specs.Option.{option_map}
use Rattle.policy.specs.View.{account_view}
use Rattle.book.specs.Readers.{Account}
use Rattle.book.proofs.Stamps.{stamp_found}
use Rattle.tsp.specs.Granted.{granted_octets}
use Rattle.desk.specs.{Calls.settings_view, Viewers.viewer_in, Command.Token, Command.Shown, Command.Refused}
use Rattle.desk.specs.{auxiliary.Obstacles.Sees, auxiliary.Obstacles.IsUnseen, Outcome.OutOfMemory, Outcome.all_fine}
use Rattle.desk.specs.declared.fault.Fault.TheVariants as fault
use Rattle.desk.specs.declared.obstacle.Obstacle.TheVariants as obstacle
use Rattle.desk.proofs.documents.Denied.{looks_as, denied, sight_is_right, token_found, unlooked, untold, untokened}
use Rattle.desk.proofs.{documents.Denied.told, documents.Denied.ungrown, calls.Fits.none_failed}
use Rattle.desk.proofs.{stamps.Judgement.looks_then, calls.Wrapped.call_ok, calls.Wrapped.call_err}
use Rattle.desk.proofs.sight.token_to.Goals as goal

pub returns-in_err-see-clause-step : goal.returns-in_err-see-clause-step
returns-in_err-see-clause-step g c =
    let s = settings_view c.args.settings in
    let a = account_view c.args.account.now in
    let n = c.args.number in
    let viewer = viewer_in s.file a.name in
    let x = c.in_err-see.field-0.0 in
    let refused = c.in_err-see.ensures in
    let told = err_from_is_err_and c.from_residual.result c.from_residual.ensures.1 in
    rw (told.1, told.2) (denied (Account a.name) g.B.Standing s (Token a n) c.args.store.now c.see.new.store x
    (λ searching looking. (refl, (tt, tt))) (λ f. tt) (sight_is_right (Account a.name) x refused.refusals) refused.looks
    refused.counted
    (λ honest b st. untold viewer n b x refused.refusals
    (subst (λ k. IsUnseen (viewer_in s.file k) n b x) c.as_str.ensures.value (refused.sees honest b st))))

pub returns-in_err-found-clause-step : goal.returns-in_err-found-clause-step
returns-in_err-found-clause-step g c =
    let s = settings_view c.args.settings in
    let a = account_view c.args.account.now in
    let n = c.args.number in
    let viewer = viewer_in s.file a.name in
    let refused = call_err obstacle.Looking c.next_stamp.result c.in_err-found.field-0.0 c.in_err-found.ensures.cases in
    let told = err_from_is_err_and c.from_residual-in_err-found.result c.from_residual-in_err-found.ensures.1 in
    let of = rw refused.1 at c.next_stamp.ensures.refusals in
    rw (told.1, told.2, refused.2) (unlooked (Account a.name) g.B.Standing s (Token a n) viewer n c.args.store.now
    c.see.new.store c.next_stamp.new.self refused.0 (λ searching looking. (refl, (tt, tt))) (λ f. tt) of
    c.in_ok-see.ensures.looks c.in_ok-see.ensures.counted c.next_stamp.ensures.looks
    (rw refused.1 at c.next_stamp.ensures.faults)
    (λ honest b st. subst (λ k. Sees (viewer_in s.file k) n b) c.as_str.ensures.value
    (c.in_ok-see.ensures.sees honest b st))
    (λ b seen. untold viewer n b (obstacle.Looking refused.0) of seen))

pub returns-in_default-clause-step : goal.returns-in_default-clause-step
returns-in_default-clause-step g c =
    let s = settings_view c.args.settings in
    let a = account_view c.args.account.now in
    let n = c.args.number in
    let viewer = viewer_in s.file a.name in
    let asked = call_ok obstacle.Looking c.next_stamp.result c.in_ok-found.found c.in_ok-found.ensures.cases in
    looks_as g.B.Standing s (Token a n) c.args.store.now c.next_stamp.new.self (all_fine (Ok [])) (Refused fault.NotHere)
    (refl, (tt, tt)) ((rw asked at c.next_stamp.ensures.faults) ∙ c.in_ok-see.ensures.counted) tt tt
    (looks_then g.B.Standing _ _ _ c.in_ok-see.ensures.looks c.next_stamp.ensures.looks)
    (λ honest b st. let seen = subst (λ k. Sees (viewer_in s.file k) n b) c.as_str.ensures.value
    (c.in_ok-see.ensures.sees (c.next_stamp.ensures.looks.honest honest) b st) in
    let next = rw asked at (c.next_stamp.ensures.value honest b (c.in_ok-see.ensures.looks.stands b st)) in
    let token = token_found viewer n b seen.0 _ st.sound seen.1 (stamp_found b n c.in_ok-found.found st.sound next) in
    untokened viewer n b seen.0 seen.1 (token ∙ sym c.token_in.ensures ∙ ap (option_map (λ t. t.items)) c.in_default.is))

pub returns-clause-step : goal.returns-clause-step
returns-clause-step g c =
    let s = settings_view c.args.settings in
    let a = account_view c.args.account.now in
    let n = c.args.number in
    let viewer = viewer_in s.file a.name in
    let asked = call_ok obstacle.Looking c.next_stamp.result c.in_ok-found.found c.in_ok-found.ensures.cases in
    let reply = c.in-Ok.reply.items in
    looks_as g.B.Standing s (Token a n) c.args.store.now c.next_stamp.new.self (all_fine (Ok [])) (Shown reply)
    (refl, (tt, tt)) ((rw asked at c.next_stamp.ensures.faults) ∙ c.in_ok-see.ensures.counted) tt tt
    (looks_then g.B.Standing _ _ _ c.in_ok-see.ensures.looks c.next_stamp.ensures.looks)
    (λ honest b st. let seen = subst (λ k. Sees (viewer_in s.file k) n b) c.as_str.ensures.value
    (c.in_ok-see.ensures.sees (c.next_stamp.ensures.looks.honest honest) b st) in
    let next = rw asked at (c.next_stamp.ensures.value honest b (c.in_ok-see.ensures.looks.stands b st)) in
    let token = token_found viewer n b seen.0 _ st.sound seen.1 (stamp_found b n c.in_ok-found.found st.sound next) in
    told viewer n b seen.0 c.in-Some.token.items reply seen.1
    (token ∙ sym c.token_in.ensures ∙ ap (option_map (λ t. t.items)) c.in-Some.is)
    (c.in-Ok.ensures.text ∙ ap granted_octets c.deref.ensures.value))

pub returns-in_default-write_granted-clause-step : goal.returns-in_default-write_granted-clause-step
returns-in_default-write_granted-clause-step g c =
    let s = settings_view c.args.settings in
    let a = account_view c.args.account.now in
    let n = c.args.number in
    let viewer = viewer_in s.file a.name in
    let asked = call_ok obstacle.Looking c.next_stamp.result c.in_ok-found.found c.in_ok-found.ensures.cases in
    let o = record (all_fine (Ok [])) { growing = OutOfMemory } in
    looks_as g.B.Standing s (Token a n) c.args.store.now c.next_stamp.new.self o (Refused fault.Memory)
    (refl, (tt, tt)) ((rw asked at c.next_stamp.ensures.faults) ∙ c.in_ok-see.ensures.counted) (none_failed o tt tt tt tt tt tt tt tt) tt
    (looks_then g.B.Standing _ _ _ c.in_ok-see.ensures.looks c.next_stamp.ensures.looks)
    (λ honest b st. let seen = subst (λ k. Sees (viewer_in s.file k) n b) c.as_str.ensures.value
    (c.in_ok-see.ensures.sees (c.next_stamp.ensures.looks.honest honest) b st) in
    ungrown viewer n b seen.0 seen.1)
