use Rattle.std.proofs.Common.{◌≡◌, false}
use Rattle.decide.specs.auxiliary.Tests.{stands_once}
use Rattle.decide.proofs.rules.stands_once.Given as goal

-- those left stand once where all do
abbrev pub invariant-loop-extension : goal.invariant-loop-extension
invariant-loop-extension l = stands_once l.identifier l.seen l.extension-iterator
    ≡ stands_once l.identifier false l.extensions
