use Rattle.std.proofs.Common.{◌≡◌, ◌-◌, ◌++◌, map, take, drop}
use Rattle.der.proofs.number.invert.Given as goal

-- the octets so far are turned round, and the others are as they were
abbrev pub invariant-loop-octet : goal.invariant-loop-octet
invariant-loop-octet l =
    l.octets ≡ map (λ octet. 255 - octet) (take l.octet-index l.initial.octets) ++ drop l.octet-index l.initial.octets
