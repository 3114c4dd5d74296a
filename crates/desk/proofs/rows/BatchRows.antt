-- Stamps that are answered together, computed on rows: a quota that ends inside, equal readings, and a signer that
-- fails at the first of two.
use Rattle.std.proofs.Common.{◌≡◌, ℕ, pos, List, [], ◌∷◌, map, Some, None, Ok, Err, refl}
use Rattle.std.specs.Prelude.{codes, Result}
use Rattle.tsp.specs.declared.rule.Rule.TheVariants.{System}
use Rattle.cms.specs.declared.signer.SignerFault.{SignerFault}
use Rattle.cms.specs.declared.signer.SignerFault.TheVariants as signer
use Rattle.book.specs.History.{Reserved, Sealed, Calibrated, History, ReservationValue, reservations}
use Rattle.desk.specs.Effects.{Effect, next_reservation, stamping_of, stamp_effect}
use Rattle.desk.specs.Batches.{batch_of, with_reserved, once_reserved, after_batch, faults_along}
use Rattle.desk.specs.{Facts.clock_of, Facts.count_in, Outcome.Failed, Outcome.all_fine, Command.Rejected}
use Rattle.desk.specs.{Texts.pending_of, Texts.token_with, MachineRuns.after}
use Rattle.desk.proofs.rows.Rows.{carol, file, setting, reserved, history, plan}

-- carol may have two stamps a day, and has one
abbrev one_left : History
one_left = Reserved (reserved 1 86399000000)
    ∷ Calibrated (record { reading = pos 0; offset = pos 0; uncertainty = 0 }) ∷ []

count_of_first : count_in file (Some carol) (pos 86399000000) one_left ≡ 1
count_of_first = refl

-- the second stamp of the batch is judged with the first, which waits
count_of_second : count_in file (Some carol) (pos 86399000000)
    (with_reserved (reserved 2 86399000000 ∷ []) one_left) ≡ 2
count_of_second = refl

-- of two equal readings the second comes after the first one's genTime
last_of_second : (clock_of (pos 86399500000) (with_reserved (reserved 2 86399500000 ∷ []) one_left)).last_gen_time
    ≡ Some 86399500000
last_of_second = refl

-- what a stamp does, by what the signer answers
abbrev stamped : Result (List ℕ) SignerFault → History → Effect
stamped signing b =
    stamp_effect setting (stamping_of setting (codes "carol") plan [] (all_fine signing) b None)

abbrev two : Result (List ℕ) SignerFault → Result (List ℕ) SignerFault → List Effect
two first second =
    let one = stamped first history in
    one ∷ stamped second (with_reserved (reservations one.adds) history) ∷ []

abbrev third : ReservationValue
third = next_reservation setting (codes "carol") plan [] history

abbrev fourth : ReservationValue
fourth = next_reservation setting (codes "carol") plan [] (Reserved third ∷ history)

serials : map (λ r. r.serial) (batch_of (two (Ok (7 ∷ [])) (Ok (8 ∷ [])))).reserves ≡ 3 ∷ 4 ∷ []
serials = refl

-- both seals stand behind both reservations, and in a run each behind its own
abbrev third_token : List ℕ
third_token = token_with (pending_of setting plan third) (7 ∷ [])

abbrev fourth_token : List ℕ
fourth_token = token_with (pending_of setting plan fourth) (8 ∷ [])

both_sealed : after_batch (batch_of (two (Ok (7 ∷ [])) (Ok (8 ∷ [])))) history
    ≡ Sealed 4 fourth_token ∷ Sealed 3 third_token ∷ Reserved fourth ∷ Reserved third ∷ history
both_sealed = refl

one_by_one : after (stamped (Ok (8 ∷ [])) (after (stamped (Ok (7 ∷ [])) history) history))
    (after (stamped (Ok (7 ∷ [])) history) history)
    ≡ Sealed 4 fourth_token ∷ Reserved fourth ∷ Sealed 3 third_token ∷ Reserved third ∷ history
one_by_one = refl

-- a signer that fails at the first: the second has its token, and the first stays void
first_void : after_batch (batch_of (two (Err signer.Failed) (Ok (8 ∷ [])))) history
    ≡ Sealed 4 fourth_token ∷ Reserved fourth ∷ Reserved third ∷ history
first_void = refl

first_rejected : (stamped (Err signer.Failed) history).says ≡ Rejected System
first_rejected = refl

-- a stop between the commits
between : once_reserved (batch_of (two (Ok (7 ∷ [])) (Ok (8 ∷ [])))) history
    ≡ Reserved fourth ∷ Reserved third ∷ history
between = refl

-- what the judging of two met, of which one asked a store that failed
one_counted : faults_along (record (all_fine (Ok [])) { looking = Failed } ∷ all_fine (Ok []) ∷ []) 7 ≡ 8
one_counted = refl
