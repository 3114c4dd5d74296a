-- Texts that are signed one after the other, and texts that are handed over: one more.
use Rattle.std.proofs.Common.{◌≡◌, ℕ, List, [], ◌∷◌, ◌++◌, Result, Vec, refl, ap, subst, sym, ◌∙◌, ◌<◌, ◌≤◌, ◌+◌, suc}
use Rattle.std.proofs.Common.{length, take, drop, map, slice_index_or, IfOk, Ok, Err, vec_len, arith, drop-cons}
use Rattle.std.{specs.List.AllByRecursion, proofs.lemmas.List.take_more, proofs.lemmas.List.map-append}
use Rattle.cms.specs.declared.signer.SignerFault.{SignerFault}
use Rattle.cms.specs.Signer.{count_after, count_after_each, SignsEach, IsSized, AwaitsInTurn}

pub signs_then : {S : Type 0} (signs : S → List ℕ → Result (List ℕ) SignerFault → S → Type 0) (x : S)
    (texts : List (List ℕ)) (answers : List (Result (List ℕ) SignerFault)) (y : S) (text : List ℕ)
    (answer : Result (List ℕ) SignerFault) (z : S) → SignsEach signs x texts answers y → signs y text answer z
    → SignsEach signs x (texts ++ (text ∷ [])) (answers ++ (answer ∷ [])) z
signs_then signs x [] [] y text answer z each one = (z, (subst (λ w. signs w text answer z) each one, refl))
signs_then signs x (first ∷ texts) (a ∷ answers) y text answer z each one =
    (each.0, (each.1.0, signs_then signs each.0 texts answers y text answer z each.1.1 one))
signs_then signs x [] (a ∷ answers) y text answer z each one = absurd each
signs_then signs x (first ∷ texts) [] y text answer z each one = absurd each

-- the next of the texts that are outstanding, whose answer is put behind the others
pub awaits_next : {S T A : Type 0} (awaits : S → List (List ℕ) → List (Result (List ℕ) SignerFault) → List (List ℕ) → S
    → Type 0)
    (f : T → List ℕ) (h : A → Result (List ℕ) SignerFault) (texts : List T) (i : ℕ) (d : T) (answers now : List A)
    (answer : A) (x y z : S) → i < length texts → now ≡ answers ++ (answer ∷ [])
    → awaits x (map f (take i texts)) (map h answers) (map f (drop i texts)) y
    → ((before : List (List ℕ)) (told : List (Result (List ℕ) SignerFault)) (outstanding : List (List ℕ))
    → awaits x before told (f (slice_index_or texts i d) ∷ outstanding) y
    → awaits x (before ++ (f (slice_index_or texts i d) ∷ [])) (told ++ (h answer ∷ [])) outstanding z)
    → awaits x (map f (take (i + 1) texts)) (map h now) (map f (drop (i + 1) texts)) z
awaits_next awaits f h texts i d answers now answer x y z within all before one =
    let text = slice_index_or texts i d in
    let on : suc i ≡ i + 1 = omega arith in
    let rest : map f (drop i texts) ≡ f text ∷ map f (drop (i + 1) texts) =
    ap (map f) (drop-cons texts i d within) ∙ ap (λ j. f text ∷ map f (drop j texts)) on in
    let longer : map f (take (i + 1) texts) ≡ map f (take i texts) ++ (f text ∷ []) =
    ap (map f) (take_more texts i d within) ∙ map-append f (take i texts) (text ∷ []) in
    let told : map h now ≡ map h answers ++ (h answer ∷ []) = ap (map h) all ∙ map-append h answers (answer ∷ []) in
    subst (λ ts. awaits x ts (map h now) (map f (drop (i + 1) texts)) z) (sym longer)
    (subst (λ rs. awaits x (map f (take i texts) ++ (f text ∷ [])) rs (map f (drop (i + 1) texts)) z) (sym told)
    (one (map f (take i texts)) (map h answers) (map f (drop (i + 1) texts))
    (subst (λ us. awaits x (map f (take i texts)) (map h answers) us y) rest before)))

pub count_more : {A : Type 0} (answers : List (Result A SignerFault)) (answer : Result A SignerFault) (count : ℕ)
    → count_after_each (answers ++ (answer ∷ [])) count ≡ count_after answer (count_after_each answers count)
count_more [] answer count = refl
count_more (a ∷ answers) answer count = count_more answers answer (count_after a count)

pub sized_more : {A : Type 0} (answers : List (Result (Vec ℕ A) SignerFault)) (answer : Result (Vec ℕ A) SignerFault)
    → AllByRecursion IsSized answers → IsSized answer → AllByRecursion IsSized (answers ++ (answer ∷ []))
sized_more [] answer all one = (one, tt)
sized_more (a ∷ answers) answer all one = (all.0, sized_more answers answer all.1 one)

pub is_sized : {A : Type 0} (answer : Result (Vec ℕ A) SignerFault) → IfOk answer (λ signature. 1 ≤ vec_len signature)
    → IfOk answer (λ signature. vec_len signature ≤ 4096) → IsSized answer
is_sized (Ok signature) some few = (some, few)
is_sized (Err fault) some few = tt

-- A signer that is asked for one text at a time: one more.
pub awaits_more : {S : Type 0} (signs : S → List ℕ → Result (List ℕ) SignerFault → S → Type 0)
    (sent : S → List (List ℕ) → S → Type 0) (text : List ℕ) (answer : Result (List ℕ) SignerFault) (y z : S)
    → ((x y z : S) (texts others : List (List ℕ)) → sent x texts y → sent y others z → sent x (texts ++ others) z)
    → signs y text answer z → sent y (text ∷ []) z → (x : S) (texts : List (List ℕ))
    (answers : List (Result (List ℕ) SignerFault)) (outstanding : List (List ℕ))
    → AwaitsInTurn signs sent x texts answers (text ∷ outstanding) y
    → AwaitsInTurn signs sent x (texts ++ (text ∷ [])) (answers ++ (answer ∷ [])) outstanding z
awaits_more signs sent text answer y z after one goes x texts answers outstanding awaits = record {
  signed = signs_then signs x texts answers y text answer z awaits.signed one;
  went_out = after x y z texts (text ∷ []) awaits.went_out goes;
}
