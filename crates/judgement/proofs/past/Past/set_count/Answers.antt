use Rattle.std.proofs.Common.{◌≡◌, ◌==◌, ℕ, List, Some, rules, string_bytes, refl, ap, ◌∙◌, subst, if◌then◌else◌}
use Rattle.std.proofs.lemmas.Map.Text.{btree_map_updates_text}
use Rattle.std.specs.{BTreeMap.get_by_text, Map.update, Str.bytes_eq}
use Rattle.judgement.specs.Past.{count_on}
use Rattle.judgement.proofs.RowsBefore.{match_more, set_in, kept_in}
use Rattle.judgement.proofs.past.Past.set_count.Goals as goal

pub returns-in-Some-clause-count : goal.returns-in-Some-clause-count
returns-in-Some-clause-count c =
    let old = c.args.self.now.counts in
    let days = c.set_on.new.days in
    let new = c.get_mut.follows.lender days in
    let name = c.args.account.now in
    let updates = btree_map_updates_text name old new _ ((c.get_mut.follows.holds days).3 (search rules)) in
    let found = c.in-Some.ensures.value in
    match_more c.set_on.result _ _ _ _
    (λ x on. set_in old new name days updates c.args.day c.args.count
    (λ d. subst (λ o. count_on (Some days) d ≡ (if c.args.day == d then c.args.count else count_on o d)) found (on d)))
    (λ e on. kept_in old new name days updates (λ d. subst (λ o. count_on (Some days) d ≡ count_on o d) found (on d)))
    c.set_on.ensures

pub returns-clause-count : goal.returns-clause-count
returns-clause-count c =
    let days = c.set_on-2.new.days in
    let name = c.args.account.now in
    let key : string_bytes c.in_ok-key.key ≡ name = c.in_ok-key.ensures.ok in
    let same : c.get_mut.follows.lender-at-none ≡ c.args.self.now.counts = search rules in
    let given = btree_map_updates_text (string_bytes c.in_ok-key.key) c.get_mut.follows.lender-at-none c.insert.new.self _
    c.in_ok-insert.ensures.updates in
    let updates = subst (λ m. (other : List ℕ)
    → get_by_text c.insert.new.self other ≡ update bytes_eq (get_by_text m) name (Some days) other) same (rw key at given) in
    set_in c.args.self.now.counts c.insert.new.self name days updates c.args.day c.args.count
    (λ d.
    let none : count_on (Some c.new-days.result) d ≡ 0 = rw c.new-days.ensures.empty refl in
    let on : count_on (Some days) d ≡ (if c.args.day == d then c.args.count else 0) =
    c.in_ok-set_on.ensures d ∙ ap (λ n. if c.args.day == d then c.args.count else n) none in
    subst (λ o. count_on (Some days) d ≡ (if c.args.day == d then c.args.count else count_on o d))
    c.in_default.ensures.value on)
