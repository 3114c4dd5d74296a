-- What the counter tells of its state: lines of a name and a value, of what a look at the store finds.
use Rattle.std.specs.Prelude.{◌≡◌, ℕ, ◌+◌, ◌-◌, ◌*◌, ◌/◌, ◌==◌, min, nat_le, ℤ, pos, negsuc, ◌-ℤ◌, Bool, true, false}
use Rattle.std.specs.Prelude.{List, ◌++◌, codes, Option, Some, None, option_map, if◌then◌else◌}
use Rattle.std.specs.Fmt.{decimal, signed_decimal}
use Rattle.gentime.specs.GenTime.{text_of}
use Rattle.policy.specs.Record.{CounterValue}
use Rattle.decide.specs.declared.facts.Calibration.{Calibration}
use Rattle.decide.specs.{Clock.IsGood, Clock.step, declared.facts.ClockFacts.ClockFacts}
use Rattle.desk.specs.declared.clock_facts.Looked.{Looked}
use Rattle.service.specs.Answers.{line_feed}

-- what uncertainty and rounding leave of the accuracy for the drift, in microseconds
abbrev pub room : CounterValue → Calibration → ℕ
room counter c = counter.accuracy_us - (c.uncertainty + (step counter - 1))

-- how old a calibration may become until the drift, in parts of 10^9, has used that up
abbrev pub drifting : CounterValue → ℕ → ℕ
drifting counter left =
    if counter.drift_ppb == 0 then counter.max_age_us
    else min counter.max_age_us ((left * 1_000_000_000) / counter.drift_ppb)

-- how old it may become, in microseconds, until no token is given under it any more
unfoldable pub greatest_age : CounterValue → Calibration → ℕ
greatest_age counter c =
    if nat_le (c.uncertainty + (step counter - 1)) counter.accuracy_us then drifting counter (room counter c) else 0

-- how old it is, in microseconds: less than nothing where its reading is still to come
abbrev pub age : ℤ → Calibration → ℤ
age reading c = reading -ℤ c.reading

-- what is left of the greatest age: nothing where the calibration's reading is still to come
abbrev pub left_of : ℕ → ℤ → ℕ
left_of greatest (pos since) = greatest - since
left_of greatest (negsuc until) = 0

-- how long it lasts yet
abbrev pub age_left : CounterValue → ℤ → Calibration → ℕ
age_left counter reading c = left_of (greatest_age counter c) (age reading c)

-- a value, or that there is none
abbrev pub or_none : {A : Type 0} → (A → List ℕ) → Option A → List ℕ
or_none text None = codes "none"
or_none text (Some a) = text a

abbrev pub yes_or_no : Bool → List ℕ
yes_or_no answer = if answer then codes "yes" else codes "no"

-- a name and its value on a line
abbrev pub named : List ℕ → List ℕ → List ℕ
named name value = name ++ codes " " ++ value ++ line_feed

-- how long ago the latest calibration was, and how long it lasts yet
abbrev pub calibration_lines : Option ℤ → Option ℕ → List ℕ
calibration_lines age left =
    named (codes "calibration-age-us") (or_none signed_decimal age)
    ++ named (codes "calibration-left-us") (or_none decimal left)

-- whether now is held, and whether the clock lets a token be given
abbrev pub giving_lines : Bool → Bool → List ℕ
giving_lines held gives = named (codes "held") (yes_or_no held) ++ named (codes "tokens") (yes_or_no gives)

-- the clock at its reading
abbrev pub clock_lines : CounterValue → ClockFacts → Bool → List ℕ
clock_lines counter clock gives =
    named (codes "last-gen-time") (or_none (text_of 6) clock.last_gen_time)
    ++ calibration_lines (option_map (age clock.reading) clock.calibration)
    (option_map (age_left counter clock.reading) clock.calibration)
    ++ giving_lines clock.held gives

-- the faults of store and signer since the start
abbrev pub fault_lines : ℕ → ℕ → List ℕ
fault_lines store signer =
    named (codes "store-faults") (decimal store) ++ named (codes "signer-faults") (decimal signer)

-- how many octets the database had when it was opened, if that is known
abbrev pub size_line : Option ℕ → List ℕ
size_line octets = named (codes "database-octets") (or_none decimal octets)

abbrev pub status_text : CounterValue → Looked → Bool → ℕ → ℕ → Option ℕ → List ℕ
status_text counter looked gives store signer octets =
    named (codes "serial") (decimal looked.serial) ++ clock_lines counter looked.clock gives ++ fault_lines store signer
    ++ size_line octets

-- whether the clock lets a token be given
abbrev pub Gives : CounterValue → ClockFacts → Bool → Type 0
Gives counter clock true = IsGood counter clock
Gives counter clock false = IsGood counter clock → ⊥

-- the text is the state that was looked at, with these octets of the database
pub record IsStatusText (counter : CounterValue) (looked : Looked) (store signer : ℕ) (octets : Option ℕ)
    (text : List ℕ) : Type 0 where
  pub gives : Bool
  pub given : Gives counter looked.clock gives
  pub lines : text ≡ status_text counter looked gives store signer octets
