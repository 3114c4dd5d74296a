-- What a request asks for has what its caller has to see to, whatever the history.
use Rattle.std.proofs.Common.{◌≡◌, ℕ, ◌≤◌, ℤ, pos, ◌<ℤ◌, Bool, true, false, List, Option, Result, Ok, Err, IfOk, codes}
use Rattle.std.proofs.Common.{T, nat_le, nat_lt, refl, sym, subst}
use Rattle.std.proofs.lemmas.Bool.{leb-true}
use Rattle.book.specs.History.{History, CalibrationValue, HoldValue}
use Rattle.desk.specs.declared.rights.Change.TheVariants.{Give, Take}
use Rattle.desk.specs.{Command.Command, Command.Calibrate, Command.Hold, MachineStep.IsMet}
use Rattle.policy.specs.Record.{AccountValue, PolicyValue}
use Rattle.service.specs.Forms.{calibration_stated, hold_stated, most_uncertainty, fields_counted, field_stated}
use Rattle.service.specs.Requests.{Asked, Step, Look, IsRequest, headless, cut_head, refused_head, cut_body, whole}
use Rattle.service.specs.Requests.{asked_by, asked_of, asked_of_deposit, calibration_asked, found_by, hold_asked}
use Rattle.service.specs.{Checks.◌>>=◌, Checks.check, Checks.operator_shown, Heads.HeadValue, Heads.head_value}
use Rattle.service.specs.{Numbers.micros_in, Numbers.signed_in, Routes.segment, declared.refusal.Refusal.Refusal}
use Rattle.service.specs.{declared.routes.Action.Action, declared.routes.DepositAction.DepositAction}
use Rattle.service.specs.declared.refusal.Refusal.TheVariants as refusal
use Rattle.service.specs.declared.routes.Action.TheVariants as action
use Rattle.service.specs.declared.routes.DepositAction.TheVariants as deposit

abbrev IsMetBy : History → Result Asked Refusal → Type 0
IsMetBy b (Ok (Step c)) = IsMet c b
IsMetBy b (Ok (Look report)) = Unit {0}
IsMetBy b (Err fault) = Unit {0}

met_behind : {A : Type 0} (b : History) (P : A → Type 0) (first : Result A Refusal) (next : A → Result Asked Refusal)
    → IfOk first P → ((a : A) → P a → IsMetBy b (next a)) → IsMetBy b (first >>= next)
met_behind b P (Ok a) next holds met = met a holds
met_behind b P (Err fault) next holds met = tt

met_after : {A : Type 0} (b : History) (first : Result A Refusal) (next : A → Result Asked Refusal)
    → ((a : A) → IsMetBy b (next a)) → IsMetBy b (first >>= next)
met_after b (Ok a) next met = met a
met_after b (Err fault) next met = tt

ok_behind : {A C : Type 0} (P : C → Type 0) (first : Result A Refusal) (next : Result C Refusal) → IfOk next P
    → IfOk (first >>= (λ a. next)) P
ok_behind P (Ok a) next holds = holds
ok_behind P (Err fault) next holds = tt

ok_checked : {C : Type 0} (P : C → Type 0) (passed : Bool) (fault : Refusal) (value : C) → (passed ≡ true → P value)
    → IfOk (check passed fault >>= (λ sure. Ok value)) P
ok_checked P true fault value holds = holds refl
ok_checked P false fault value holds = tt

abbrev calibration_of : ℕ → ℤ → ℕ → CalibrationValue
calibration_of r o u = record { reading = pos r; offset = o; uncertainty = u }

abbrev hold_of : ℕ → ℕ → HoldValue
hold_of x y = record { from = pos x; to = pos y }

certain_by : (few : Result (Unit {0}) Refusal) (reading : Result ℕ Refusal) (offset : Result ℤ Refusal)
    (uncertainty : Result ℕ Refusal) → IfOk (few >>= (λ f. reading >>= (λ r. offset >>= (λ o. uncertainty >>= (λ u.
    check (nat_le u most_uncertainty) refusal.BadField >>= (λ sure.
    Ok (calibration_of r o u)))))))
    (λ (c : CalibrationValue). c.uncertainty ≤ 1_000_000_000_000)
certain_by (Err e) reading offset uncertainty = tt
certain_by (Ok f) (Err e) offset uncertainty = tt
certain_by (Ok f) (Ok r) (Err e) uncertainty = tt
certain_by (Ok f) (Ok r) (Ok o) (Err e) = tt
certain_by (Ok f) (Ok r) (Ok o) (Ok u) =
    ok_checked (λ (c : CalibrationValue). c.uncertainty ≤ 1_000_000_000_000) (nat_le u most_uncertainty)
    refusal.BadField (calibration_of r o u)
    (λ passed. leb-true u most_uncertainty passed)

calibration_certain : (form : List ℕ) → IfOk (calibration_stated form) (λ c. c.uncertainty ≤ 1_000_000_000_000)
unfolding calibration_stated
calibration_certain form =
    certain_by (fields_counted 3 form) (field_stated micros_in (codes "reading") form)
    (field_stated signed_in (codes "offset") form) (field_stated micros_in (codes "uncertainty") form)

lasting_by : (few : Result (Unit {0}) Refusal) (from to : Result ℕ Refusal) → IfOk (few >>= (λ f. from >>= (λ x.
    to >>= (λ y. check (nat_lt x y) refusal.BadField >>= (λ sure. Ok (hold_of x y))))))
    (λ (h : HoldValue). h.from <ℤ h.to)
lasting_by (Err e) from to = tt
lasting_by (Ok f) (Err e) to = tt
lasting_by (Ok f) (Ok x) (Err e) = tt
lasting_by (Ok f) (Ok x) (Ok y) =
    ok_checked (λ (h : HoldValue). h.from <ℤ h.to) (nat_lt x y) refusal.BadField (hold_of x y)
    (λ passed. record { lt = subst T (sym passed) tt })

hold_lasting : (form : List ℕ) → IfOk (hold_stated form) (λ h. h.from <ℤ h.to)
unfolding hold_stated
hold_lasting form =
    lasting_by (fields_counted 2 form) (field_stated micros_in (codes "from") form)
    (field_stated micros_in (codes "to") form)

of_deposit_met : (account : AccountValue) (number : ℕ) (name : List ℕ) (what : DepositAction) (b : History)
    → IsMetBy b (Ok (asked_of_deposit account number name what))
of_deposit_met account number name deposit.Readers b = tt
of_deposit_met account number name (deposit.Right Give kind) b = tt
of_deposit_met account number name (deposit.Right Take kind) b = tt
of_deposit_met account number name what b = tt

asked_met : (file : PolicyValue) (reading : ℤ) (h : HeadValue) (body : List ℕ) (a : Action) (b : History)
    → IsMetBy b (asked_by file reading h body a)
asked_met file reading h body action.Calibrate b =
    met_behind b (λ c. c.uncertainty ≤ 1_000_000_000_000) (calibration_asked file h body)
    (λ c. Ok (Step (Calibrate c)))
    (ok_behind (λ c. c.uncertainty ≤ 1_000_000_000_000) (operator_shown file h) (calibration_stated body)
    (calibration_certain body)) (λ c certain. certain)
asked_met file reading h body action.Hold b =
    met_behind b (λ x. x.from <ℤ x.to) (hold_asked file h body) (λ x. Ok (Step (Hold x)))
    (ok_behind (λ x. x.from <ℤ x.to) (operator_shown file h) (hold_stated body) (hold_lasting body))
    (λ x lasting. lasting)
asked_met file reading h body (action.Deposit what) b =
    met_after b (found_by file h body (action.Deposit what))
    (λ found. Ok (asked_of reading h body (action.Deposit what) found))
    (λ found. of_deposit_met found.0 found.1 (segment 4 h.target) what b)
asked_met file reading h body a b =
    met_after b (found_by file h body a) (λ found. Ok (asked_of reading h body a found)) (λ found. tt)

-- of a result that is another one's
met_as : (b : History) (c : Command) (asked : Result Asked Refusal) → Ok (Step c) ≡ asked → IsMetBy b asked → IsMet c b
met_as b c asked is met = subst (IsMetBy b) (sym is) met

pub request_met : (file : PolicyValue) (reading : ℤ) (old new : Option (List ℕ)) (c : Command)
    → IsRequest file reading old new (Ok (Step c)) → (b : History) → IsMet c b
request_met file reading old new c (headless octets never taken is) b = met_as b c _ is tt
request_met file reading old new c (cut_head octets some begun taken end is) b = met_as b c _ is tt
request_met file reading old new c (refused_head h head taken r fails is) b = met_as b c _ is tt
request_met file reading old new c (cut_body h head w wants part short taken end is) b = met_as b c _ is tt
request_met file reading old new c (whole h head w wants body long taken is) b =
    met_as b c _ is (asked_met file reading (head_value h) body w.action b)
