use Rattle.std.proofs.Common.{rules}
use Rattle.console.proofs.Digits.{encode_lower-halves}
use Rattle.console.proofs.hexadecimal.encode_line.Goals as goal

pub returns : goal.returns
returns c = search (rules, encode_lower-halves)
