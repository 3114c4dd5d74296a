use Rattle.std.proofs.Common.{inr, refl}
use Rattle.console.proofs.Writes.{begins_whatever, whole_whatever}
use Rattle.console.specs.declared.fault.InputFault.TheVariants.{Memory}
use Rattle.console.proofs.status.explain.Goals as goal

pub returns-in-Ok-clause-unwritten : goal.returns-in-Ok-clause-unwritten
returns-in-Ok-clause-unwritten g c = inr (c.in-Help.text, c.in-Help.is)

pub returns-in-Ok-clause-shown : goal.returns-in-Ok-clause-shown
returns-in-Ok-clause-shown g c =
    λ _. (c.in-Help.text, c.in-Help.is, rw c.as_str.ensures.value at c.in-Ok.ensures.written)

pub returns-in-Err-clause-unwritten : goal.returns-in-Err-clause-unwritten
returns-in-Err-clause-unwritten g c = inr (c.in-Help.text, c.in-Help.is)

pub returns-in-Err-clause-begun : goal.returns-in-Err-clause-begun
returns-in-Err-clause-begun g c =
    λ _. inr (c.in-Help.text, c.in-Help.is, rw c.as_str.ensures.value at c.in-Err.ensures.begun)

pub returns-in-Mistake-clause-refused : goal.returns-in-Mistake-clause-refused
returns-in-Mistake-clause-refused g c =
    λ _. (
      c.in-Mistake.text,
      c.in-Mistake.is,
      rw c.as_str-in-Mistake.ensures.value at
          (begins_whatever (g.E.Write.contents c.args.errors.now)
          (g.E.Write.contents c.write_text-in-Mistake.new.output) c.as_str-in-Mistake.result.now
          c.write_text-in-Mistake.result c.write_text-in-Mistake.ensures.written
          c.write_text-in-Mistake.ensures.begun),
    )

pub returns-in-Mistake-clause-whole_reason : goal.returns-in-Mistake-clause-whole_reason
returns-in-Mistake-clause-whole_reason g c =
    λ _. (
      c.in-Mistake.text,
      c.in-Mistake.is,
      rw c.as_str-in-Mistake.ensures.value at
          (whole_whatever (g.E.Write.contents c.args.errors.now)
          (g.E.Write.contents c.write_text-in-Mistake.new.output) (g.E.Output.failures c.args.errors.now)
          (g.E.Output.failures c.write_text-in-Mistake.new.output) c.as_str-in-Mistake.result.now
          c.write_text-in-Mistake.result c.write_text-in-Mistake.ensures.written
          c.write_text-in-Mistake.ensures.failed),
    )

pub returns-in-Memory-clause-whole_line : goal.returns-in-Memory-clause-whole_line
returns-in-Memory-clause-whole_line g c =
    λ _. (Memory, rw c.in-Memory.is refl, c.report-in-Memory.ensures.whole)
