use Rattle.std.proofs.Common.{◌∙◌, ◌++◌, ap, codes, option_map, subst}
use Rattle.std.specs.List.{flat_map}
use Rattle.book.specs.{Identities.identity_before, Values.stamp_view}
use Rattle.tsp.specs.View.{request_view}
use Rattle.judgement.specs.Explanation.{IsRequestOf, IsSubjectOf, clock_lines, named, row_lines, rule_line, rules}
use Rattle.judgement.specs.Explanation.{signing_lines, verdict_text}
use Rattle.judgement.specs.{Readings.ComesFurthest, Readings.unheld, View.evidence_view}
use Rattle.judgement.proofs.Explaining.{five_lines}
use Rattle.judgement.proofs.explanation.explain.Goals as goal

pub returns : goal.returns
returns c = λ before is.
    let e = evidence_view c.args.evidence.now in
    let stamp = stamp_view c.args.stamp.now in
    let facts = c.furthest-facts.result in
    let asked = option_map request_view c.request_in-request.result in
    let judged = c.judge_behind-judged.result in
    let signing = c.in_ok-add_signing.ensures in
    record {
      asked = asked;
      spelled = subst (λ octets. IsRequestOf octets asked) c.deref.ensures.value c.request_in-request.ensures;
      facts = facts;
      furthest = subst (λ b. ComesFurthest (unheld e) b c.args.stamp.now.gen_time facts)
          (c.before-known.ensures before is) c.furthest-facts.ensures;
      subject = signing.0;
      named = subst (λ i. IsSubjectOf i signing.0) c.identity_at.ensures signing.1;
      judged = judged;
      judgement = c.judge_behind-judged.ensures before is;
      lines = five_lines c.new-lines.result.items c.add_row.new.lines.items c.add_rules.new.lines.items
          c.add_clock.new.lines.items c.add_signing.new.lines.items c.add_verdict.new.lines.items
          (row_lines stamp asked) (flat_map (rule_line e stamp facts judged) rules) (clock_lines e.file.counter facts)
          (signing_lines (identity_before stamp.serial e.identities) signing.0 stamp.token)
          (named (codes "verdict") (verdict_text judged)) c.new-lines.ensures.items c.in_ok-add_row.ensures
          c.in_ok-add_rules.ensures c.in_ok-add_clock.ensures
          (signing.2 ∙ ap (λ i. c.add_clock.new.lines.items ++ signing_lines i signing.0 stamp.token) c.identity_at.ensures)
          c.in_ok-add_verdict.ensures;
    }
