use Rattle.std.proofs.Common.{map}
use Rattle.std.specs.Prelude.{string_bytes}
use Rattle.command_line.proofs.Refusals.{refusal_of}
use Rattle.command_line.proofs.words.Word.parse.Goals as goal

pub returns-in-Ok-refusal_of-clause-refused : goal.returns-in-Ok-refusal_of-clause-refused
returns-in-Ok-refusal_of-clause-refused c =
    refusal_of (map (λ word. string_bytes word) c.args.words.now) c.in-Err.error c.in-Ok-refusal_of.refusal
    c.in-Err.ensures.refused c.in-Ok-refusal_of.ensures
