-- What a signer answers.
use Rattle.std.specs.Prelude.{◌≡◌, ℕ, ◌≤◌, List, [], ◌∷◌, Result, Ok, Err, IfOk, Vec, vec_len}
use Rattle.std.specs.Hash.DefaultHasher.{wrapping_add}
use Rattle.cms.specs.declared.signer.SignerFault.{SignerFault, TheVariants.Failed, TheVariants.Memory}

-- the refusals' numbers
abbrev pub number_of : SignerFault → ℕ
number_of Failed = 1
number_of Memory = 2

-- an answer's octets, or the fault
abbrev pub signed_by : {A : Type 0} → Result (Vec ℕ A) SignerFault → Result (List ℕ) SignerFault
signed_by (Ok signature) = Ok signature.items
signed_by (Err fault) = Err fault

-- the count of faults after a call: one more after a failed one, modulo 2^64, else the same
abbrev pub count_after : {A : Type 0} → Result A SignerFault → ℕ → ℕ
count_after (Ok signature) count = count
count_after (Err Failed) count = wrapping_add count 1
count_after (Err Memory) count = count

-- the same after several calls
abbrev pub count_after_each : {A : Type 0} → List (Result A SignerFault) → ℕ → ℕ
count_after_each [] count = count
count_after_each (answer ∷ answers) count = count_after_each answers (count_after answer count)

-- a signature has 1 to 4,096 octets
abbrev pub IsSized : {A : Type 0} → Result (Vec ℕ A) SignerFault → Type 0
IsSized answer = IfOk answer (λ signature. (1 ≤ vec_len signature) × (vec_len signature ≤ 4096))

-- Texts are signed one after the other, an answer for each: the signer before, the texts, the answers in the texts'
-- order, and the signer after.
abbrev pub SignsEach : {S : Type 0} → (S → List ℕ → Result (List ℕ) SignerFault → S → Type 0) → S → List (List ℕ)
    → List (Result (List ℕ) SignerFault) → S → Type 0
SignsEach signs x [] [] y = y ≡ x
SignsEach {S} signs x (text ∷ texts) (answer ∷ answers) y =
    (z : S) × (signs x text answer z × SignsEach signs z texts answers y)
SignsEach signs x [] (answer ∷ answers) y = ⊥
SignsEach signs x (text ∷ texts) [] y = ⊥

-- How far a signer is with texts that were handed to it, where it is asked for one at a time, when its answer is
-- received: those that were answered were signed one after the other, and of those that are outstanding nothing went
-- out.
pub record AwaitsInTurn {S : Type 0} (signs : S → List ℕ → Result (List ℕ) SignerFault → S → Type 0)
    (sent : S → List (List ℕ) → S → Type 0) (x : S) (texts : List (List ℕ))
    (answers : List (Result (List ℕ) SignerFault)) (outstanding : List (List ℕ)) (y : S) : Type 0 where
  pub signed : SignsEach signs x texts answers y
  pub went_out : sent x texts y
