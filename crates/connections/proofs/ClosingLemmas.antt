-- What is dropped of a stream, counted.
use Rattle.std.proofs.Common.{ℕ, ◌+◌, ◌≤◌, List, ◌++◌, [], length, take, Option, arith}
use Rattle.std.proofs.KnownBytes.{Consumes-kept, Consumes-nil, Consumes-trans}
use Rattle.std.proofs.lemmas.List.{length-append, length-take-le}
use Rattle.std.specs.Io.KnownBytes.{Consumes, Keeps}
use Rattle.connections.specs.ClosingConnection.{IsCounted}

pub counted_none : (known : Option (List ℕ)) (n : ℕ) → IsCounted known known n n
counted_none known n = record { dropped = []; consumed = Consumes-nil known; counted = omega arith }

pub counted_then : (old mid new : Option (List ℕ)) (n m k : ℕ) → IsCounted old mid n m → IsCounted mid new m k
    → IsCounted old new n k
counted_then old mid new n m k first second = record {
  dropped = first.dropped ++ second.dropped;
  consumed = Consumes-trans old mid new first.dropped second.dropped first.consumed second.consumed;
  counted = omega (arith, first.counted, second.counted, length-append first.dropped second.dropped);
}

pub counted_read : (old new : Option (List ℕ)) (n count : ℕ) (octets : List ℕ) → count ≤ length octets
    → Consumes old new (take count octets) → IsCounted old new n (n + count)
counted_read old new n count octets within consumed = record {
  dropped = take count octets;
  consumed = consumed;
  counted = omega (arith, length-take-le count octets within);
}

pub counted_failed : (old new : Option (List ℕ)) (n : ℕ) → Keeps old new → IsCounted old new n n
counted_failed old new n keeps = record {
  dropped = [];
  consumed = Consumes-kept old old new [] (Consumes-nil old) keeps;
  counted = omega arith;
}
