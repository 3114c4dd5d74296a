use Rattle.std.proofs.Common.{arith, length-take-le, subst, take}
use Rattle.service.specs.{Known.IsKnown, declared.known.Known.Known}
use Rattle.service.proofs.KnownLemmas.{wanting_room}
use Rattle.service.proofs.known.with_room.Goals as goal

pub returns-in-Err-clause-known : goal.returns-in-Err-clause-known
returns-in-Err-clause-known c = λ headers is.
    let octets = take c.args.filled c.args.room.now.items in
    let P : Known → Type 0 = λ k. IsKnown octets headers k in
    wanting_room octets headers c.in-Parsed.parsed (subst P c.in-Parsed.is is)
    (omega (arith, c.if-filled-parsed.true, length-take-le c.args.filled c.args.room.now.items c.requires.within))
