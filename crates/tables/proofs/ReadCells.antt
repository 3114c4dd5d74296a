-- What was read of a row, from what it shows.
use Rattle.book.specs.declared.values.Hold.{Hold}
use Rattle.tables.proofs.Words.{Int, List, None, Option, Row, Some, Text, ap, ap₂, column, pos, refl, sym, ℕ, ℤ, ◌∙◌}
use Rattle.tables.proofs.Words.{◌≡◌}
use Rattle.tables.specs.Queries.{ShowsCalibration, ShowsHold, ShowsLast}
use Rattle.tables.specs.auxiliary.Shown.{calibration_shown, hold_shown, last_shown}
use Rattle.tables.specs.{Layout.token_cell, Tables.CalibrationRow, Tables.HoldRow, Tables.StampRow}
use Rattle.tables.specs.{declared.rows.LastStamp.LastStamp, declared.rows.NumberedCalibration.NumberedCalibration}

pub number_of : (row shown : Row) (at n m : ℕ) → row ≡ shown → column row at ≡ Int (pos n)
    → column shown at ≡ Int (pos m) → n ≡ m
number_of row shown at n m is e f = let same : Int (pos n) ≡ Int (pos m) = sym e ∙ ap (λ r. column r at) is ∙ f in cc

pub signed_of : (row shown : Row) (at : ℕ) (n m : ℤ) → row ≡ shown → column row at ≡ Int n → column shown at ≡ Int m
    → n ≡ m
signed_of row shown at n m is e f = let same : Int n ≡ Int m = sym e ∙ ap (λ r. column r at) is ∙ f in cc

pub text_of : (row shown : Row) (at : ℕ) (s t : List ℕ) → row ≡ shown → column row at ≡ Text s
    → column shown at ≡ Text t → s ≡ t
text_of row shown at s t is e f = let same : Text s ≡ Text t = sym e ∙ ap (λ r. column r at) is ∙ f in cc

pub token_of : (row shown : Row) (at : ℕ) (s t : Option (List ℕ)) → row ≡ shown → column row at ≡ token_cell s
    → column shown at ≡ token_cell t → s ≡ t
token_of row shown at s t is e f = same_token s t (sym e ∙ ap (λ r. column r at) is ∙ f) where
  same_token : (s t : Option (List ℕ)) → token_cell s ≡ token_cell t → s ≡ t
  same_token None None e = refl
  same_token None (Some b) e = cc
  same_token (Some a) None e = cc
  same_token (Some a) (Some b) e = cc

pub last_read : (x : StampRow) (row : Row) (last : LastStamp) → row ≡ last_shown x
    → (column row 0 ≡ Int (pos last.serial)) × (column row 1 ≡ Int (pos last.gen_time)) → ShowsLast x last
last_read x row last is read =
    let of : ℕ → ℕ → LastStamp = λ serial gen_time. record { serial = serial; gen_time = gen_time } in
    ap₂ of (number_of _ _ 0 _ _ is read.0 refl) (number_of _ _ 1 _ _ is read.1 refl)

pub calibration_read : (x : CalibrationRow) (row : Row) (c : NumberedCalibration) → row ≡ calibration_shown x
    → (column row 0 ≡ Int (pos c.n)) × (column row 1 ≡ Int c.reading) × (column row 2 ≡ Int c.offset)
    × (column row 3 ≡ Int (pos c.uncertainty)) → ShowsCalibration x c
calibration_read x row c is read = (
  number_of _ _ 0 _ _ is read.0 refl,
  signed_of _ _ 1 _ _ is read.1 refl,
  signed_of _ _ 2 _ _ is read.2 refl,
  number_of _ _ 3 _ _ is read.3 refl,
)

pub hold_read : (x : HoldRow) (row : Row) (h : Hold) → row ≡ hold_shown x
    → (column row 0 ≡ Int h.from) × (column row 1 ≡ Int h.to) → ShowsHold x h
hold_read x row h is read = (signed_of _ _ 0 _ _ is read.0 refl, signed_of _ _ 1 _ _ is read.1 refl)
