use Rattle.store.proofs.Words.{ap, length-map, map, subst, sym, viewer_of, ◌∙◌}
use Rattle.store.proofs.{Calls.no_answer, Lists.later_view, Lists.next_view, Walk.looks_after}
use Rattle.store.specs.auxiliary.Steps.{IsNextSeen, later_of, least_of}
use Rattle.store.proofs.store.Store.next_seen.Goals as goal

pub returns-in_err-advance-clause-looks : goal.returns-in_err-advance-clause-looks
returns-in_err-advance-clause-looks g c =
    looks_after g.S.Store _ _ _ c.in_ok-owned.ensures.looks c.in_err-advance.ensures.looks

pub returns-clause-looks : goal.returns-clause-looks
returns-clause-looks g c = looks_after g.S.Store _ _ _ c.in_ok-owned.ensures.looks c.in_ok-advance.ensures.looks

pub returns-clause-known : goal.returns-clause-known
returns-clause-known g c honest b s owned =
    c.in_ok-owned.ensures.known (c.in_ok-advance.ensures.looks.honest honest) b s owned

pub returns-clause-value : goal.returns-clause-value
returns-clause-value g c honest b s known owned =
    let viewer = viewer_of c.args.account.now (map (λ name. name.now) c.args.groups.now) in
    let ahead = c.in_ok-advance.ensures.value honest b (c.in_ok-owned.ensures.looks.stands b s) known in
    let owns = c.in_ok-owned.ensures.value (c.in_ok-advance.ensures.looks.honest honest) b s owned in
    let sized = c.in_ok-advance.ensures.sized ∙ c.requires ∙ sym (length-map c.args.groups.now (λ name. name.now)) in
    let least = c.next_of.ensures.next
    ∙ ap (λ n. later_of c.args.after (least_of c.in_ok-owned.owned n)) c.least.ensures in (
      subst (λ next. IsNextSeen viewer c.args.after b next) (sym least)
          (later_view b viewer _ _ s.sound (next_view b viewer _ _ _ _ s.sound sized owns ahead)),
      ahead,
    )

pub returns-in_err-owned-clause-value : goal.returns-in_err-owned-clause-value
returns-in_err-owned-clause-value g c honest b s are owned = no_answer _ _ c.from_residual.ensures.0

pub returns-in_err-advance-clause-value : goal.returns-in_err-advance-clause-value
returns-in_err-advance-clause-value g c honest b s are owned =
    no_answer _ _ c.from_residual-in_err-advance.ensures.0
