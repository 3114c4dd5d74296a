-- The lines of the rules before.
use Rattle.std.proofs.Common.{◌≡◌, ◌++◌, take}
use Rattle.std.specs.List.{flat_map}
use Rattle.book.specs.Values.{stamp_view}
use Rattle.judgement.specs.{Explanation.rule_line, Explanation.rules, View.evidence_view}
use Rattle.judgement.proofs.explanation.add_rules.Given as goal

abbrev pub invariant-loop-rule : goal.invariant-loop-rule
invariant-loop-rule l =
    l.lines.items
    ≡ l.fn.lines.items
    ++ flat_map (rule_line (evidence_view l.evidence) (stamp_view l.stamp) l.facts l.judged) (take l.rule-index rules)
