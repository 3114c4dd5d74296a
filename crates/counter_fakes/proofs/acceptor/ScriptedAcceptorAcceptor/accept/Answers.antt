use Rattle.std.proofs.Common.{◌<◌, length, rules}
use Rattle.counter_fakes.proofs.ScriptedLemmas.{first_given}
use Rattle.counter_fakes.proofs.acceptor.ScriptedAcceptorAcceptor.accept.Goals as goal

pub returns : goal.returns
returns g c =
    let streams = c.args.self.now.streams.items in
    let some : 0 < length streams = search rules in
    first_given streams c.remove.new.self.items c.remove.result some c.remove.ensures.value c.remove.ensures.by_index.2
