-- Each moment that was passed is held.
use Rattle.std.proofs.Common.{◌≡◌, ◌<◌, ◌≤◌, ◌-◌, ◌^◌, ℕ, pos, map, true}
use Rattle.book.specs.Values.{hold_view}
use Rattle.judgement.specs.Readings.{is_held_by}
use Rattle.judgement.proofs.readings.first_free.Given as goal

abbrev pub invariant-loop-hold : goal.invariant-loop-hold
invariant-loop-hold l =
    (l.from ≤ l.now) × ((n : ℕ) → l.from ≤ n → n < l.now → is_held_by (map hold_view l.holds) (pos n) ≡ true)

abbrev pub decreases-loop-hold : goal.decreases-loop-hold
decreases-loop-hold l = 2 ^ 63 - l.now
