use Rattle.std.proofs.Common.{inl, inr}
use Rattle.command_line.specs.Words.{texts_of}
use Rattle.counter.specs.Stops.{tells_fault, in_help}
use Rattle.counter.proofs.Stops.{audit_or_not, cut_stops, failing_or_not, failing_stops, other_stops}
use Rattle.counter.proofs.run.run_words.Goals as goal

pub returns-in-Ok-run_word-clause-exits : goal.returns-in-Ok-run_word-clause-exits
returns-in-Ok-run_word-clause-exits g c =
    elim (failing_or_not c.in-Ok-run_word.outcome) [
      | inl failing ↦
          let one = c.status.ensures.failing failing in
          record {
            done = λ none. cc;
            stopped = λ one. failing_stops _ _ _ (texts_of c.args.words.now) _ _ _ _ _ _ c.in-Ok.word
                c.in-Ok.ensures.asked _ (c.in-Ok-run_word.ensures.failing failing);
          }
      | inr other ↦
          let none = c.status.ensures.done other in
          record {
            done = λ zero. inl (c.in-Ok.word, c.in-Ok.ensures.asked, c.in-Ok-run_word.ensures.done other);
            stopped = λ one. cc;
          }
    ]

pub returns-in-Err-run_word-clause-exits : goal.returns-in-Err-run_word-clause-exits
returns-in-Err-run_word-clause-exits g c = record {
  done = λ none.
      let one = c.report.ensures.status in
      cc;
  stopped = λ _.
      elim (audit_or_not c.in-Ok.word) [
        | inl audit ↦
            cut_stops _ _ _ (texts_of c.args.words.now) _ _ _ _ _ _ c.in-Ok.word c.in-Ok.ensures.asked _ _
            c.in-Err-run_word.fault c.report.ensures.told audit.0 audit.1
            (c.in-Err-run_word.ensures.cut audit.0 audit.1)
        | inr other ↦
            other_stops _ _ _ (texts_of c.args.words.now) _ _ _ _ _ _ c.in-Ok.word c.in-Ok.ensures.asked _ _
            c.in-Err-run_word.fault c.report.ensures.told other (c.in-Err-run_word.ensures.untold other)
            (c.in-Err-run_word.ensures.kept other)
      ];
}

pub returns-in-Err-clause-exits : goal.returns-in-Err-clause-exits
returns-in-Err-clause-exits g c = record {
  done = λ none. inr (rw (c.explain.ensures.shown none).1 at c.in-Err.ensures.refused);
  stopped = λ one.
      let told = c.explain.ensures.told one in
      elim c.explain.ensures.unwritten [
        | inl same ↦ tells_fault told.0 same told.1
        | inr help ↦ in_help (rw help.1 at c.in-Err.ensures.refused) told.0 told.1
      ];
}
