use Rattle.clap.specs.Words.{found_of}
use Rattle.command_line.proofs.Stated.{reads_some_text}
use Rattle.command_line.proofs.parse.text.Goals as goal

pub returns : goal.returns
returns c = reads_some_text (found_of c.args.matches.now) c.args.name.now c.get_str.result c.get_str.ensures
