-- Rules that are judged of a request, whichever they are, and of the octets that spell it: the law that carries the
-- first failing rule from the one to the other. Its premise that the octets spell one request is a clause of
-- `requests_have_one_reading`.
use Rattle.std.specs.Prelude.{◌≡◌, ℕ, ◌≤◌, List, length}
use Rattle.std.proofs.Common.{subst}
use Rattle.tsp.specs.{Request.RequestValue, Request.Spells, Rules.HoldsOfOctets, Rules.IsFirstFailing}
use Rattle.tsp.specs.declared.rule.Rule.{Rule, TheVariants.Spelling}

-- the octets spell no other request
abbrev pub SpellsOnly : List ℕ → RequestValue → Type 0
SpellsOnly octets r = (s : RequestValue) → Spells octets s → r ≡ s

-- what holds of the request that is spelled holds of the octets
pub to_octets : (HoldsOf : RequestValue → Rule → Type 0) (octets : List ℕ) (r : RequestValue)
    → Spells octets r → SpellsOnly octets r → length octets ≤ 65536
    → (rule : Rule) → HoldsOf r rule → HoldsOfOctets HoldsOf octets rule
to_octets HoldsOf octets r spelled only short Spelling holds = ((r, spelled), short)
to_octets HoldsOf octets r spelled only short rule holds = λ s h. subst (λ x. HoldsOf x rule) (only s h) holds

-- and the other way round, where the spelling isn't judged of a request
pub from_octets : (HoldsOf : RequestValue → Rule → Type 0) (octets : List ℕ) (r : RequestValue)
    → Spells octets r → HoldsOf r Spelling
    → (rule : Rule) → HoldsOfOctets HoldsOf octets rule → HoldsOf r rule
from_octets HoldsOf octets r spelled spelling Spelling holds = spelling
from_octets HoldsOf octets r spelled spelling rule holds = holds r spelled

-- so the first rule that fails is the same
pub first_of_octets : (HoldsOf : RequestValue → Rule → Type 0) (octets : List ℕ) (r : RequestValue)
    → Spells octets r → SpellsOnly octets r → length octets ≤ 65536 → HoldsOf r Spelling
    → (rule : Rule) → IsFirstFailing (HoldsOf r) rule → IsFirstFailing (HoldsOfOctets HoldsOf octets) rule
first_of_octets HoldsOf octets r spelled only short spelling rule first = record {
  fails = λ holds. first.fails (from_octets HoldsOf octets r spelled spelling rule holds);
  before = λ earlier less. to_octets HoldsOf octets r spelled only short earlier (first.before earlier less);
}
