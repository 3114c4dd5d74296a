-- Connections that come one after the other.
use Rattle.std.proofs.Common.{◌≡◌, ◌<◌, List, [], ◌∷◌, ◌++◌, length, take, drop, get_or, arith}
use Rattle.connections.specs.declared.acceptor.Accepted.TheVariants.{One}
use Rattle.counter_fakes.specs.Scripted.{Gives}

pub first_given : {S : Type 0} (streams after : List S) (stream : S) → 0 < length streams
    → stream ≡ get_or streams 0 stream → after ≡ take 0 streams ++ drop 1 streams → Gives streams (One stream) after
first_given [] after stream some is rest = absurd (omega (arith, some))
first_given (next ∷ streams) after stream some is rest = (is, rest)
