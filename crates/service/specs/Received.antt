-- What has come of a request, as contracts see it.
use Rattle.std.specs.Prelude.{◌≡◌, ℕ, ◌-◌, ◌+◌, ◌<◌, Bool, true, false, ◌&&◌, ◌||◌, not, List, ◌++◌, length, codes}
use Rattle.std.specs.{Prelude.Option, Prelude.Ok, Prelude.if◌then◌else◌, Io.KnownBytes.Consumes, Io.KnownBytes.IsAtEnd}
use Rattle.httparse.specs.Grammar.{RequestHead, print_request}
use Rattle.service.specs.Checks.{WantedValue, has_body, is_never, most_body, wanted_by}
use Rattle.service.specs.Fields.{stated}
use Rattle.service.specs.Heads.{HeadValue, IsBegun, IsHead, head_value, most_octets}

-- the octets that came; how many of them are read as the request; whether others are wanted to it; and whether the
-- input ended behind them
pub record ReceivedValue : Type 0 where
  pub octets : List ℕ
  pub taken : ℕ
  pub is_wanting : Bool
  pub is_ended : Bool

-- others are wanted, and may come
abbrev pub is_open : ReceivedValue → Bool
is_open r = r.is_wanting && not r.is_ended

-- a reader gave octets, which stand behind those before, or it has ended
pub record Receives (old new : Option (List ℕ)) (before after : ReceivedValue) : Type 0 where
  pub got : List ℕ
  pub octets : after.octets ≡ before.octets ++ got
  pub consumed : Consumes old new got
  pub ended : before.is_ended ≡ false → after.is_ended ≡ true → IsAtEnd new

-- the most octets of a request
abbrev pub most : ℕ
most = most_octets + most_body

-- how many reads may still be wanted
abbrev pub reads_left : ReceivedValue → ℕ
reads_left r = (most - length r.octets) + (if r.is_ended then 0 else 1)

-- a beginning of a request to which at least one octet is wanting
pub data IsPartial (octets : List ℕ) : Type 0 where
  in_head : IsBegun octets → IsPartial octets
  in_body : (h : RequestHead) → IsHead (print_request h) h → (w : WantedValue) → wanted_by (head_value h) ≡ Ok w
      → (part : List ℕ) → length part < w.count → octets ≡ print_request h ++ part → IsPartial octets

-- no body comes with a head, and no field tells of one (RFC 9112 6.3)
abbrev pub has_no_body : HeadValue → Bool
has_no_body h =
    not (has_body h.method) && is_never (stated (codes "content-length") h.fields)
    && is_never (stated (codes "transfer-encoding") h.fields)

-- nothing of a request follows its head and the body that was asked for
abbrev pub ends_with_body : HeadValue → Bool
ends_with_body h = has_body h.method || has_no_body h

-- the octets are a request of which nothing follows: a head and its body, or a head alone
pub data IsAll (octets : List ℕ) : Type 0 where
  with_body : (h : RequestHead) → IsHead (print_request h) h → ends_with_body (head_value h) ≡ true → (w : WantedValue)
      → wanted_by (head_value h) ≡ Ok w → (body : List ℕ) → length body ≡ w.count → octets ≡ print_request h ++ body
      → IsAll octets
  without_body : (h : RequestHead) → IsHead (print_request h) h → has_no_body (head_value h) ≡ true
      → octets ≡ print_request h → IsAll octets
