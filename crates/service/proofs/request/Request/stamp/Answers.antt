use Rattle.std.proofs.Common.{◌≡◌, ℤ, Option, rules, subst, sym, SFits, to_z-of_z, w64}
use Rattle.std.specs.Prelude.{MatchOption}
use Rattle.desk.specs.{Batches.Question, Batches.stamp_for, Together.question_view, declared.batch.Asked.Asked}
use Rattle.policy.specs.View.{policy_view}
use Rattle.service.specs.{Requests.Step, Requests.asked_by, Stamps.AsksStamp, Views.head_view, Views.result_by}
use Rattle.service.specs.declared.routes.Action.TheVariants as action
use Rattle.service.proofs.StampLemmas.{found_stamp}
use Rattle.service.proofs.request.Request.stamp.Goals as goal

pub returns : goal.returns
returns c =
    let file = policy_view c.args.policy.now in
    let reading = c.args.reading in
    let fits : SFits w64 reading = search rules in
    let P : ℤ → Type 0 = λ at. result_by (λ asked. Step (stamp_for (question_view asked))) c.stamp_asked.result
    ≡ asked_by file at (head_view c.in-Some.head) c.in-Some.body.now action.Stamp in
    let M : Option Asked → Type 0 = λ found. MatchOption found ((q : Question) → AsksStamp file reading c.args.self.now q → ⊥)
    (λ asked. AsksStamp file reading c.args.self.now (question_view asked)) in
    subst M (sym c.ok.ensures.value)
    (found_stamp file reading c.args.self.now c.in-Some.head c.in-Some.body c.in-Some.ensures.due
    c.stamp_asked.result (subst P (to_z-of_z fits) c.stamp_asked.ensures))
