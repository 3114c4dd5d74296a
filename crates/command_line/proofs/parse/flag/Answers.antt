use Rattle.std.proofs.Common.{◌∙◌}
use Rattle.clap.specs.Words.{found_of}
use Rattle.clap.proofs.WalkLemmas.{one_text-rows}
use Rattle.command_line.proofs.parse.flag.Goals as goal

pub returns : goal.returns
returns c =
    let flag = one_text-rows (found_of c.args.matches.now) c.args.name.now in
    record {
      absent = λ is. c.get_flag.ensures.none (flag ∙ is);
      given = λ is. c.get_flag.ensures.value (flag ∙ is);
      default = λ is. c.get_flag.ensures.other (flag ∙ is);
    }
