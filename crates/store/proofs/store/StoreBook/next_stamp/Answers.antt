use Rattle.store.proofs.Words.{IsLeastAs, IsNextStamp, ShowsStamp, arith, is_within, subst, sym, ◌≡◌}
use Rattle.store.proofs.{Between.empty_view, Between.next_view, Between.small_found, Calls.kept_seen, Calls.looks_now}
use Rattle.store.specs.auxiliary.Replay.{replayed}
use Rattle.store.proofs.store.StoreBook.next_stamp.Goals as goal

pub returns-then-from-last-clause-value : goal.returns-then-from-last-clause-value
returns-then-from-last-clause-value g c honest b s =
    empty_view b c.args.from c.args.to c.at_most-last.result.value s.sound c.at_most-last.ensures c.if-from-last.true

pub returns-in_err-found-clause-looks : goal.returns-in_err-found-clause-looks
returns-in_err-found-clause-looks g c = looks_now g.S.Store _ _ _ c.self.view_is c.in_err-found.ensures.reads

pub returns-clause-looks : goal.returns-clause-looks
returns-clause-looks g c = looks_now g.S.Store _ _ _ c.self.view_is c.in_ok-found.ensures.reads

pub returns-clause-value : goal.returns-clause-value
returns-clause-value g c honest b s =
    let kept = kept_seen g.S.Store _ _ b c.self.view_is s in
    let first : c.at_most-first.result.value ≡ c.args.from = omega arith in
    subst (IsNextStamp c.args.from c.args.to b) (sym c.only_within.ensures.same)
    (next_view b c.args.from c.args.to c.at_most-last.result.value c.in_ok-found.found s.sound
    c.at_most-last.ensures
    (subst (λ from. IsLeastAs ShowsStamp (λ row. row.serial) (is_within from c.at_most-last.result.value)
    (replayed b).stamps c.in_ok-found.found) first (c.in_ok-found.ensures.value honest _ kept)))

pub returns-clause-small : goal.returns-clause-small
returns-clause-small g c =
    small_found c.args.from c.args.to c.at_most-last.result.value c.only_within.result c.at_most-last.ensures
    c.only_within.ensures.within
