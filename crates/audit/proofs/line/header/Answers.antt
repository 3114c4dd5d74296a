use Rattle.std.proofs.Common.{refl}
use Rattle.csv.specs.Writing.{escaped, fields_text, is_blank}
use Rattle.audit.specs.Extract.{header_text}
use Rattle.audit.proofs.line.header.Goals as goal

pub returns : goal.returns
unfolding header_text escaped fields_text is_blank
returns c = refl
