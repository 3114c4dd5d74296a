-- What the octets that came of a request are known to be, whatever others follow.
use Rattle.std.specs.Prelude.{◌≡◌, ◌⊎◌, ℕ, ◌+◌, ◌<◌, ◌≤◌, nat_lt, Bool, true, false, List, [], ◌++◌, length}
use Rattle.std.specs.Prelude.{take, if◌then◌else◌, Ok, Err, Option}
use Rattle.std.specs.Io.KnownBytes.{Consumes, IsAtEnd}
use Rattle.httparse.specs.{Grammar.RequestHead, Grammar.print_request, Spans.IsRequestWithin, Spans.IsRequestAt}
use Rattle.httparse.specs.{declared.spans.HeaderSpan.HeaderSpan, declared.spans.RequestSpans.RequestSpans}
use Rattle.service.specs.Heads.{IsBegun, IsHead, IsHeadless, head_value, most_octets}
use Rattle.service.specs.Received.{IsAll, IsPartial, ReceivedValue, ends_with_body, most}
use Rattle.service.specs.{declared.known.Known.Known, declared.known.Parsed.Parsed, declared.known.Refused.Refused}
use Rattle.service.specs.{Checks.WantedValue, Checks.wanted_by, Views.IsInPlace, Views.head_view, declared.due.Due.Due}
use Rattle.service.specs.{declared.head.Head.Head, declared.refusal.Refusal.Refusal, declared.routes.Action.Action}
use Rattle.service.specs.declared.due.Due.TheVariants as due
use Rattle.service.specs.declared.known.Known.TheVariants as known
use Rattle.service.specs.declared.refusal.Refusal.TheVariants as refusal

-- a head begins the octets, and its parts lie where they are said to
pub record BeginsAt (octets : List ℕ) (headers : List HeaderSpan) (spans : RequestSpans) : Type 0 where
  pub within : IsRequestWithin octets headers spans
  pub read : RequestHead
  pub at : IsRequestAt octets headers spans read
  pub head : IsHead (print_request read) read

-- why the octets are refused, or memory is wanting for those behind them
pub data IsRefused (octets : List ℕ) (f : Refusal) : Type 0 where
  malformed : IsHeadless octets → f ≡ refusal.BadRequest → IsRefused octets f
  checked : (h : RequestHead) → IsHead (print_request h) h → wanted_by (head_value h) ≡ Err f
      → octets ≡ print_request h → IsRefused octets f
  out_of_memory : octets ≡ [] → f ≡ refusal.Unavailable → IsRefused octets f
  out_of_memory_for_body : (h : RequestHead) → IsHead (print_request h) h → (w : WantedValue)
      → wanted_by (head_value h) ≡ Ok w
      → 0 < w.count → octets ≡ print_request h → f ≡ refusal.Unavailable → IsRefused octets f

-- a head begins the octets, and asks for this
pub record IsParsed (octets : List ℕ) (headers : List HeaderSpan) (parsed : Parsed) : Type 0 where
  pub seen : parsed.seen ≤ length octets
  pub begins : BeginsAt (take parsed.seen octets) headers parsed.spans
  pub asked : WantedValue
  pub wanted : wanted_by (head_value begins.read) ≡ Ok asked
  pub action : parsed.action ≡ asked.action
  pub size : parsed.size ≡ parsed.spans.len + asked.count
  pub ends : parsed.is_all ≡ true → ends_with_body (head_value begins.read) ≡ true

-- the first of the octets are refused
pub record IsRefusedAt (octets : List ℕ) (refused : Refused) : Type 0 where
  pub within : refused.taken ≤ length octets
  pub is : IsRefused (take refused.taken octets) refused.refusal
  pub all : refused.is_all ≡ true → IsAll (take refused.taken octets)

abbrev pub IsKnown : List ℕ → List HeaderSpan → Known → Type 0
IsKnown octets headers known.Open = IsBegun octets
IsKnown octets headers (known.Parsed parsed) = IsParsed octets headers parsed
IsKnown octets headers (known.Refused refused) = IsRefusedAt octets refused

-- so many octets are no head
abbrev pub headless : ℕ → Known
headless taken = known.Refused (record { refusal = refusal.BadRequest; taken = taken; is_all = false })

-- it is known by octets behind so many
abbrev pub IsBehind : ℕ → Known → Type 0
IsBehind before known.Open = Unit {0}
IsBehind before (known.Parsed parsed) = before < parsed.spans.len
IsBehind before (known.Refused refused) = before < refused.taken

-- a request has no more octets than there may be
abbrev pub IsShort : Known → Type 0
IsShort known.Open = Unit {0}
IsShort (known.Parsed parsed) = (parsed.spans.len ≤ parsed.size) × (parsed.size ≤ most)
IsShort (known.Refused refused) = Unit {0}

-- there is room for the octets that are wanted, of which so many came, and for no others behind a body
abbrev pub HasRoom : ℕ → ℕ → Known → Type 0
HasRoom room filled known.Open = room ≡ most_octets
HasRoom room filled (known.Parsed parsed) = filled < parsed.size → room ≡ parsed.size
HasRoom room filled (known.Refused refused) = Unit {0}

-- what is kept of a request: the octets at the front of the room, and what they are known to be
pub record IsKept (room : List ℕ) (headers : List HeaderSpan) (filled : ℕ) (k : Known) : Type 0 where
  pub within : filled ≤ length room
  pub few : length room ≤ most
  pub is : IsKnown (take filled room) headers k
  pub short : IsShort k
  pub left : HasRoom (length room) filled k

-- whether octets are wanted to a request of which so many came
abbrev pub is_wanting : Known → ℕ → Bool
is_wanting known.Open filled = true
is_wanting (known.Parsed parsed) filled = nat_lt filled parsed.size
is_wanting (known.Refused refused) filled = false

-- how many of the octets that came are read as the request: none behind its head where others are wanted to its body
-- and may come
abbrev pub taken_of : Known → ℕ → Bool → ℕ
taken_of known.Open filled is_ended = if is_ended then filled else 0
taken_of (known.Parsed parsed) filled is_ended =
    if nat_lt filled parsed.size then (if is_ended then filled else parsed.spans.len) else parsed.size
taken_of (known.Refused refused) filled is_ended = refused.taken

abbrev pub received : List ℕ → ℕ → Known → Bool → ReceivedValue
received room filled k is_ended = record {
  octets = take filled room;
  taken = taken_of k filled is_ended;
  is_wanting = is_wanting k filled;
  is_ended = is_ended;
}

-- what a reader gave is behind what is filled: so many octets, and none only where it has ended
pub record Fills (old new : Option (List ℕ)) (before after : List ℕ) (filled count : ℕ) : Type 0 where
  pub got : List ℕ
  pub consumed : Consumes old new got
  pub fills : take (filled + count) after ≡ take filled before ++ got
  pub within : filled + count ≤ length before
  pub ended : count ≡ 0 → IsAtEnd new

-- the octets that are read as the request are a head and its body, which it asks for
pub record IsAnswerable (octets : List ℕ) (action : Action) (head : Head) (body : List ℕ) : Type 0 where
  pub read : RequestHead
  pub is_head : IsHead (print_request read) read
  pub same : head_view head ≡ head_value read
  pub in_place : IsInPlace head
  pub asked : WantedValue
  pub wanted : wanted_by (head_value read) ≡ Ok asked
  pub action_is : action ≡ asked.action
  pub count : length body ≡ asked.count
  pub split : octets ≡ print_request read ++ body

-- the input ended in the request
pub record IsCut (r : ReceivedValue) : Type 0 where
  pub ended : r.is_ended ≡ true
  pub all : r.taken ≡ length r.octets
  pub some : r.octets ≡ [] → ⊥
  pub partial : IsPartial r.octets

-- what is due to a request of which that came
abbrev pub IsDue : ReceivedValue → Due → Type 0
IsDue r due.Nothing = (r.octets ≡ []) × (r.is_ended ≡ true) × (r.taken ≡ 0)
IsDue r (due.Refusal f) = IsRefused (take r.taken r.octets) f ⊎ (IsCut r × (f ≡ refusal.BadRequest))
IsDue r (due.Answer action head body) = IsAnswerable (take r.taken r.octets) action head body.now

-- the fields of a head lie in its octets
abbrev pub IsDueInPlace : Due → Type 0
IsDueInPlace due.Nothing = Unit {0}
IsDueInPlace (due.Refusal f) = Unit {0}
IsDueInPlace (due.Answer action head body) = IsInPlace head

-- what is due where the input ended in it
abbrev pub IsDueAtEnd : Due → Type 0
IsDueAtEnd due.Nothing = Unit {0}
IsDueAtEnd (due.Refusal f) = f ≡ refusal.BadRequest
IsDueAtEnd (due.Answer action head body) = ⊥
