use Rattle.std.proofs.Common.{◌≡◌, ◌-◌, map, vec_capacity, vec_len}
use Rattle.connections.specs.auxiliary.Gathering.{handed_view}
use Rattle.connections.proofs.GatheringLemmas.{AreBehind}
use Rattle.connections.proofs.gathering.gather_behind.Given as goal

abbrev pub invariant-gathering : goal.invariant-gathering
invariant-gathering g l = record {
  room : vec_capacity l.stamps ≡ vec_capacity l.fn.stamps;
  behind : AreBehind g.L.RequestSource.hands g.C.Clock.reads (map handed_view l.fn.stamps.items)
      (map handed_view l.stamps.items) l.fn.source l.fn.clock l.source l.clock;
}

abbrev pub decreases-gathering : goal.decreases-gathering
decreases-gathering g l = vec_capacity l.stamps - vec_len l.stamps
