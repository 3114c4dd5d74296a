use Rattle.store.proofs.Words.{IsLeastAs, IsNonDecreasingBy, IsPartitionPoint, IsPartitionPoint-from_clause}
use Rattle.store.proofs.Words.{IsPartitionedBy-leb, Label, ShowsDepositSerial, Some, arith, false, is_owned_after, leb}
use Rattle.store.proofs.Words.{length, nat_tests, rules, string_bytes, subst, sym, true, ◌<◌, ◌≡◌, ◌≤◌}
use Rattle.store.proofs.LabelRows.{first_after, none_after, rising}
use Rattle.store.proofs.labels.Owned.number_after.Goals as goal

pub returns-then-at-len : goal.returns-then-at-len
returns-then-at-len c rows are =
    let labels = c.args.self.now.labels.items in
    let owner = string_bytes c.args.self.now.owner in
    let at = c.partition_point-at.result in
    let past : length labels ≤ at = grind (arith, nat_tests) in
    let listed = c.deref.ensures.value in
    let parted = IsPartitionedBy-leb (λ (l : Label). l.serial) c.deref.result.now c.args.after
    (subst (IsNonDecreasingBy (λ (l : Label). l.serial)) (sym listed) (rising owner rows labels are)) in
    let point = IsPartitionPoint-from_clause (λ (l : Label). leb l.serial c.args.after) _ _
    c.partition_point-at.ensures.partitioned parted (λ a r q k. search rules) in
    none_after owner rows labels are c.args.after at
    (subst (λ ls. IsPartitionPoint (λ (l : Label). leb l.serial c.args.after ≡ true)
    (λ (l : Label). leb l.serial c.args.after ≡ false) ls at) listed point) past

pub returns : goal.returns
returns c rows are =
    let labels = c.args.self.now.labels.items in
    let owner = string_bytes c.args.self.now.owner in
    let at = c.partition_point-at.result in
    let item = c.index.result.now in
    let within : at < length labels = grind (arith, nat_tests) in
    let listed = c.deref.ensures.value in
    let parted = IsPartitionedBy-leb (λ (l : Label). l.serial) c.deref.result.now c.args.after
    (subst (IsNonDecreasingBy (λ (l : Label). l.serial)) (sym listed) (rising owner rows labels are)) in
    let point = IsPartitionPoint-from_clause (λ (l : Label). leb l.serial c.args.after) _ _
    c.partition_point-at.ensures.partitioned parted (λ a r q k. search rules) in
    subst (λ (l : Label). IsLeastAs ShowsDepositSerial (λ row. row.serial) (is_owned_after owner c.args.after) rows
    (Some l.serial)) (sym c.index.ensures)
    (first_after owner rows labels are c.args.after at
    (subst (λ ls. IsPartitionPoint (λ (l : Label). leb l.serial c.args.after ≡ true)
    (λ (l : Label). leb l.serial c.args.after ≡ false) ls at) listed point) item within)
