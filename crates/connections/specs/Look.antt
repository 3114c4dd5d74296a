-- The looks that a clock keeps, as contracts see them.
use Rattle.std.specs.{Prelude.Option, Prelude.Some, Prelude.None, Time.instant_nanos, Time.system_time_nanos}
use Rattle.connections.specs.declared.look.Looks.{Looks as AllKept}
use Rattle.connections.specs.{Clock.Look, Clock.Looks, declared.look.Look.Look as Kept}

abbrev pub look_of : Kept → Look
look_of kept = record {
  before = instant_nanos kept.before;
  wall = system_time_nanos kept.wall;
  after = instant_nanos kept.after;
}

abbrev pub looks_of : Option AllKept → Option Looks
looks_of None = None
looks_of (Some kept) = Some (record { first = look_of kept.first; last = look_of kept.last })
