-- What the forms of operators state. A form's fields are those of the URL Standard 5.1; names and values are taken as
-- they stand, since a form in which they are right has nothing to escape.
use Rattle.std.specs.Prelude.{ℕ, ◌==◌, nat_le, nat_lt, pos, List, length, find, codes, Option, Some, None, option_map}
use Rattle.std.specs.{Prelude.Result, Prelude.Ok, Str.bytes_eq}
use Rattle.form_urlencoded.specs.Form.{raw_pairs}
use Rattle.book.specs.History.{CalibrationValue, HoldValue}
use Rattle.service.specs.Checks.{◌>>=◌, given_or, check}
use Rattle.service.specs.{Numbers.micros_in, Numbers.signed_in, declared.refusal.Refusal.Refusal}
use Rattle.service.specs.declared.refusal.Refusal.TheVariants as refusal

-- the value of a field
abbrev pub field_of : List ℕ → List (List ℕ × List ℕ) → Option (List ℕ)
field_of name fields = option_map (λ f. f.1) (find (λ f. bytes_eq f.0 name) fields)

abbrev pub read_by : {A : Type 0} → (List ℕ → Option A) → Option (List ℕ) → Option A
read_by kind None = None
read_by kind (Some value) = kind value

-- a field of that kind stands
abbrev pub field_stated : {A : Type 0} → (List ℕ → Option A) → List ℕ → List ℕ → Result A Refusal
field_stated kind name form = given_or refusal.BadField (read_by kind (field_of name (raw_pairs form)))

-- So many fields stand. If so many names are asked for, each of them stands once then, and no other.
abbrev pub fields_counted : ℕ → List ℕ → Result (Unit {0}) Refusal
fields_counted count form = check (length (raw_pairs form) == count) refusal.BadField

-- the greatest uncertainty of a calibration, in microseconds
abbrev pub most_uncertainty : ℕ
most_uncertainty = 1_000_000_000_000

unfoldable pub calibration_stated : List ℕ → Result CalibrationValue Refusal
calibration_stated form = do
  few ← fields_counted 3 form
  reading ← field_stated micros_in (codes "reading") form
  offset ← field_stated signed_in (codes "offset") form
  uncertainty ← field_stated micros_in (codes "uncertainty") form
  sure ← check (nat_le uncertainty most_uncertainty) refusal.BadField
  Ok (record { reading = pos reading; offset = offset; uncertainty = uncertainty })

-- moments from the first on and before the second, of which there is one
unfoldable pub hold_stated : List ℕ → Result HoldValue Refusal
hold_stated form = do
  few ← fields_counted 2 form
  from ← field_stated micros_in (codes "from") form
  to ← field_stated micros_in (codes "to") form
  some ← check (nat_lt from to) refusal.BadField
  Ok (record { from = pos from; to = pos to })
