use Rattle.std.proofs.Common.{◌≡◌, ◌∙◌, ◌+◌, ◌-◌, ◌≤◌, [], ◌∷◌, ◌++◌, map, ap, arith, vec_capacity, vec_len}
use Rattle.connections.specs.auxiliary.Gathering.{handed_view}
use Rattle.connections.proofs.GatheringLemmas.{gathered_one, gathered_first, cut_first, cut_alone}
use Rattle.connections.proofs.HeardLemmas.{on_err}
use Rattle.connections.proofs.gathering.gather.Goals as goal

pub returns-in_err-first-clause-cut : goal.returns-in_err-first-clause-cut
returns-in_err-first-clause-cut g c =
    on_err c.from_residual.result _ (cut_alone c.requires.some _ _ c.in-Some.ensures _ c.in_err-first.ensures.given)

pub returns-in_err-last-clause-cut : goal.returns-in_err-last-clause-cut
returns-in_err-last-clause-cut g c =
    let one = handed_view c.in_ok-first.first in
    let all = c.push_reserved.new.self in
    let within : (vec_capacity all - vec_len all) + 1 ≤ c.args.most =
    omega (
      arith,
      c.room_beside-stamps.ensures.few,
      c.push_reserved.ensures.capacity,
      c.push_reserved.ensures.len,
      all.ok.1,
    ) in
    on_err c.from_residual-in_err-last.result _
    (cut_first one (rw (← c.in_ok-first.ensures.request, ← c.in_ok-first.ensures.stream) at c.in-Some.ensures)
    c.in_ok-first.ensures.given within c.in_err-last.ensures.cut)

pub returns-then-capacity-eq0-clause-gathered : goal.returns-then-capacity-eq0-clause-gathered
returns-then-capacity-eq0-clause-gathered g c =
    rw c.room_beside-stamps.ensures.empty
    (gathered_one (rw (← c.in_ok-first.ensures.request, ← c.in_ok-first.ensures.stream) at c.in-Some.ensures)
    c.in_ok-first.ensures.given)

pub returns-clause-gathered : goal.returns-clause-gathered
returns-clause-gathered g c =
    let first = c.in_ok-first.first in
    let before : map handed_view c.push_reserved.new.self.items ≡ handed_view first ∷ [] =
    ap (map handed_view) (c.push_reserved.ensures.items
    ∙ ap (λ xs. xs ++ (first ∷ [])) c.room_beside-stamps.ensures.empty) in
    gathered_first (rw (← c.in_ok-first.ensures.request, ← c.in_ok-first.ensures.stream) at c.in-Some.ensures)
    c.in_ok-first.ensures.given (rw before at c.in_ok-last.ensures.gathered)
