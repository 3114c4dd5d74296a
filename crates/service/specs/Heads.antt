-- The head of a request (RFC 9112 2 to 5) within this service's limits. What a head is, `httparse` says.
use Rattle.std.specs.Prelude.{◌≡◌, ◌⊎◌, ℕ, ◌<◌, ◌≤◌, List, [], ◌++◌, length, map}
use Rattle.httparse.specs.Grammar.{RequestHead, print_request, ReadsRequest, MayBecomeRequest}
use Rattle.httparse.specs.Spans.{name_and_value}

-- the most octets of a head, with the empty lines before it
abbrev pub most_octets : ℕ
most_octets = 8192

-- the most field lines
abbrev pub most_fields : ℕ
most_fields = 32

-- the octets are a head within the limits, and then the rest
pub record BeginsWith (octets : List ℕ) (h : RequestHead) (rest : List ℕ) : Type 0 where
  pub reads : ReadsRequest octets h rest
  pub octet_limit : length (print_request h) ≤ most_octets
  pub field_limit : length h.fields ≤ most_fields

-- the octets are a head within the limits, and nothing more
abbrev pub IsHead : List ℕ → RequestHead → Type 0
IsHead octets h = BeginsWith octets h []

-- no head within the limits begins the octets
abbrev pub HasNoHead : List ℕ → Type 0
HasNoHead octets = (h : RequestHead) (rest : List ℕ) → BeginsWith octets h rest → ⊥

-- nor does one whatever octets follow
abbrev pub NeverHasHead : List ℕ → Type 0
NeverHasHead octets = (more : List ℕ) → HasNoHead (octets ++ more)

-- a head may begin with them: there are none, or more may follow, as far as `httparse` says
abbrev pub MayBegin : List ℕ → Type 0
MayBegin octets = (octets ≡ []) ⊎ MayBecomeRequest octets

-- a beginning of a head to which octets are wanting
pub record IsBegun (octets : List ℕ) : Type 0 where
  pub none : HasNoHead octets
  pub may : MayBegin octets
  pub short : length octets < most_octets

-- No head begins them, whatever follows; at most the last of them was read once that was so.
pub record IsHeadless (octets : List ℕ) : Type 0 where
  pub front : List ℕ
  pub more : List ℕ
  pub split : octets ≡ front ++ more
  pub may : MayBegin front
  pub few : length more ≤ 1
  pub never : NeverHasHead octets
  pub short : length octets ≤ most_octets

-- what counts of a head: method and target as sent, and each field's name and value, without the white space around
-- it, in their order
pub record HeadValue : Type 0 where
  pub method : List ℕ
  pub target : List ℕ
  pub fields : List (List ℕ × List ℕ)

abbrev pub head_value : RequestHead → HeadValue
head_value h = record { method = h.method; target = h.target; fields = map name_and_value h.fields }
