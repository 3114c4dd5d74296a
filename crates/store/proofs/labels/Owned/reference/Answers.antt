use Rattle.store.proofs.Words.{IsNonDecreasingBy, IsPartitionPoint, IsPartitionPoint-from_clause, IsPartitionedBy-ltb}
use Rattle.store.proofs.Words.{Label, ap, arith, false, length, ltb, nat_tests, rules, string_bytes, subst, sym, true}
use Rattle.store.proofs.LabelRows.{another_there, its_reference, none_there, rising}
use Rattle.store.proofs.{Words.◌<◌, Words.◌∙◌, Words.◌≡◌, Words.◌≤◌, CursorMoves.any_default}
use Rattle.store.proofs.labels.Owned.reference.Goals as goal

pub returns-then-at-len-clause-value : goal.returns-then-at-len-clause-value
returns-then-at-len-clause-value c rows are =
    let labels = c.args.self.now.labels.items in
    let owner = string_bytes c.args.self.now.owner in
    let at = c.partition_point-at.result in
    let past : length labels ≤ at = grind (arith, nat_tests) in
    let listed = c.deref.ensures.value in
    let parted = IsPartitionedBy-ltb (λ (l : Label). l.serial) c.deref.result.now c.args.number
    (subst (IsNonDecreasingBy (λ (l : Label). l.serial)) (sym listed) (rising owner rows labels are)) in
    let found = IsPartitionPoint-from_clause (λ (l : Label). ltb l.serial c.args.number) _ _
    c.partition_point-at.ensures.partitioned parted (λ a r q k. search rules) in
    let point = subst (λ ls. IsPartitionPoint (λ (l : Label). ltb l.serial c.args.number ≡ true)
    (λ (l : Label). ltb l.serial c.args.number ≡ false) ls at) listed found in
    none_there owner rows labels are c.args.number at point past

pub returns-then-index-number-clause-value : goal.returns-then-index-number-clause-value
returns-then-index-number-clause-value c rows are =
    let labels = c.args.self.now.labels.items in
    let owner = string_bytes c.args.self.now.owner in
    let at = c.partition_point-at.result in
    let item = c.index.result.now in
    let more : c.args.number < item.serial = grind (arith, nat_tests) in
    let listed = c.deref.ensures.value in
    let parted = IsPartitionedBy-ltb (λ (l : Label). l.serial) c.deref.result.now c.args.number
    (subst (IsNonDecreasingBy (λ (l : Label). l.serial)) (sym listed) (rising owner rows labels are)) in
    let found = IsPartitionPoint-from_clause (λ (l : Label). ltb l.serial c.args.number) _ _
    c.partition_point-at.ensures.partitioned parted (λ a r q k. search rules) in
    let point = subst (λ ls. IsPartitionPoint (λ (l : Label). ltb l.serial c.args.number ≡ true)
    (λ (l : Label). ltb l.serial c.args.number ≡ false) ls at) listed found in
    another_there owner rows labels are c.args.number at point item
    (subst (λ (l : Label). c.args.number < l.serial) c.index.ensures more)

pub returns-in-Ok-clause-value : goal.returns-in-Ok-clause-value
returns-in-Ok-clause-value c rows are =
    let labels = c.args.self.now.labels.items in
    let owner = string_bytes c.args.self.now.owner in
    let at = c.partition_point-at.result in
    let item = c.index.result.now in
    let other = c.index-2.result.now in
    let within : at < length labels = grind (arith, nat_tests) in
    let less : item.serial ≤ c.args.number = grind (arith, nat_tests) in
    let listed = c.deref.ensures.value in
    let parted = IsPartitionedBy-ltb (λ (l : Label). l.serial) c.deref.result.now c.args.number
    (subst (IsNonDecreasingBy (λ (l : Label). l.serial)) (sym listed) (rising owner rows labels are)) in
    let found = IsPartitionPoint-from_clause (λ (l : Label). ltb l.serial c.args.number) _ _
    c.partition_point-at.ensures.partitioned parted (λ a r q k. search rules) in
    let point = subst (λ ls. IsPartitionPoint (λ (l : Label). ltb l.serial c.args.number ≡ true)
    (λ (l : Label). ltb l.serial c.args.number ≡ false) ls at) listed found in
    let same : other ≡ item = c.index-2.ensures ∙ any_default labels at other item within ∙ sym c.index.ensures in
    its_reference owner rows labels are c.args.number at point item c.in-Ok.reference within
    (subst (λ (l : Label). l.serial ≤ c.args.number) c.index.ensures less)
    (c.in-Ok.ensures.cases ∙ ap (λ (l : Label). string_bytes l.reference) (same ∙ c.index.ensures))
