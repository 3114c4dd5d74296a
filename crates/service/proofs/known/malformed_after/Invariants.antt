-- A head may begin the octets up to the lower place, and none those up to the higher.
use Rattle.std.proofs.Common.{◌<◌, ◌≤◌, ◌-◌, length, take}
use Rattle.httparse.specs.Spans.{RequestOverflows}
use Rattle.service.specs.Heads.{most_fields, MayBegin}
use Rattle.service.proofs.known.malformed_after.Given as goal

abbrev pub invariant-loop-low : goal.invariant-loop-low
invariant-loop-low l = record {
  from : l.before ≤ l.low;
  order : l.low < l.high;
  within : l.high ≤ length l.octets;
  may : MayBegin (take l.low l.octets);
  never : RequestOverflows most_fields (take l.high l.octets);
}

abbrev pub decreases-loop-low : goal.decreases-loop-low
decreases-loop-low l = l.high - l.low
