use Rattle.std.proofs.Common.{◌≡◌, ◌≤◌, length, map, take, string_bytes}
use Rattle.std.specs.List.{filter}
use Rattle.policy.specs.{LookUp.has_member, View.group_view}
use Rattle.policy.proofs.groups.GroupNames.of.Given as goal

-- the names so far are those of the groups that were passed
abbrev pub invariant-loop-group : goal.invariant-loop-group
invariant-loop-group l = record {
  room : length l.names ≡ 16;
  within : l.count ≤ l.group-index;
  named : map (λ n. n.now) (take l.count l.names) ≡ map (λ g. string_bytes g.name)
      (filter (λ g. has_member (group_view g) l.account) (take l.group-index l.groups));
}
