-- The text of an object identifier, read.
use Rattle.std.proofs.Common.{◌≡◌, ℕ, zero, suc, ◌+◌, ◌-◌, ◌*◌, ◌<◌, Bool, true, false, ◌&&◌, eqb, ◌^◌, Decides, List}
use Rattle.std.proofs.Common.{[], ◌∷◌, ◌++◌, map, Some, None, refl, sym, ap, subst, ◌∙◌, arith}
use Rattle.std.specs.Int.Digits.{digits_of, number_from_digits_after}
use Rattle.std.specs.{List.flat_map, Str.bytes_eq, Prelude.if◌then◌else◌}
use Rattle.std.proofs.lemmas.{Option.same_Some, Slice.Eq.bytes_eq-Decides, Int.Digits.number_digits_of}
use Rattle.std.proofs.lemmas.Bool.{ne_eqb, cond-false, cond-true, Decides.nat_tests, Decides.Decides-and}
use Rattle.der.specs.ObjectIdentifier.{IsOid, is_oid, oid_text, decimal, dotted, first_arc, AreOthers, IsNumberAt}
use Rattle.der.specs.{ObjectIdentifier.IsDottedNumberAt, OidText.arcs_after, OidText.joined, OidText.oid_of_text}
use Rattle.der.proofs.{OidContents.is_oid-decides, OidTexts.parsed}

digit_step : (n d : ℕ) (cs : List ℕ) → arcs_after n ((48 + d) ∷ cs) ≡ arcs_after (n * 10 + d) cs
digit_step n d cs =
    let other : eqb (48 + d) 46 ≡ false = ne_eqb (48 + d) 46 (λ e. omega (arith, e)) in
    let same : n * 10 + (48 + d - 48) ≡ n * 10 + d = omega arith in
    cond-false _ _ _ other ∙ ap (λ k. arcs_after k cs) same

digits_read : (n : ℕ) (ds rest : List ℕ)
    → arcs_after n (map (λ digit. 48 + digit) ds ++ rest) ≡ arcs_after (number_from_digits_after 10 n ds) rest
digits_read n [] rest = refl
digits_read n (d ∷ ds) rest = digit_step n d (map (λ digit. 48 + digit) ds ++ rest) ∙ digits_read (n * 10 + d) ds rest

decimal_positive : (n : ℕ) → 0 < n → decimal n ≡ map (λ digit. 48 + digit) (digits_of 10 n)
unfolding decimal
decimal_positive n some = cond-false (eqb n 0) (48 ∷ []) (map (λ digit. 48 + digit) (digits_of 10 n))
    (ne_eqb n 0 (λ e. omega arith))

-- a number in decimal, read from the front
decimal_read : (n : ℕ) (rest : List ℕ) → arcs_after 0 (decimal n ++ rest) ≡ arcs_after n rest
unfolding decimal
decimal_read zero rest = refl
decimal_read (suc m) rest =
    ap (λ k. arcs_after 0 (k ++ rest)) (decimal_positive (suc m) (omega arith))
    ∙ digits_read 0 (digits_of 10 (suc m)) rest
    ∙ ap (λ k. arcs_after k rest) (number_digits_of 10 (suc m) (omega arith))

dotted_read : (n : ℕ) (ss : List ℕ) → arcs_after n (flat_map dotted ss) ≡ n ∷ ss
dotted_read n [] = refl
dotted_read n (s ∷ ss) = ap (λ k. n ∷ k) (decimal_read s (flat_map dotted ss) ∙ dotted_read s ss)

joined_arcs : (s : ℕ) → 40 * first_arc s + (s - 40 * first_arc s) ≡ s
joined_arcs s = grind (arith, nat_tests)

arcs_read : (s : ℕ) (ss : List ℕ) → joined (arcs_after 0 (oid_text (s ∷ ss))) ≡ s ∷ ss
arcs_read s ss =
    ap joined (decimal_read (first_arc s) (flat_map dotted ((s - 40 * first_arc s) ∷ ss))
    ∙ dotted_read (first_arc s) ((s - 40 * first_arc s) ∷ ss))
    ∙ ap (λ k. k ∷ ss) (joined_arcs s)

read_back : (oid : List ℕ) → IsOid oid → joined (arcs_after 0 (oid_text oid)) ≡ oid
read_back [] h = absurd (omega (arith, h.some))
read_back (s ∷ ss) h = arcs_read s ss

-- ---- the tests

-- the list is an object identifier with this text
abbrev tests : List ℕ → List ℕ → Bool
tests oid text = is_oid oid && bytes_eq (oid_text oid) text

tests_decide : (oid text : List ℕ) → Decides (tests oid text) (IsOid oid × (oid_text oid ≡ text))
tests_decide oid text = Decides-and (is_oid oid) (bytes_eq (oid_text oid) text) (is_oid-decides oid)
    (bytes_eq-Decides (oid_text oid) text)

-- an object identifier's text gives it
pub oid_of_text-written : (oid : List ℕ) → IsOid oid → oid_of_text (oid_text oid) ≡ Some oid
unfolding oid_of_text
oid_of_text-written oid h =
    let same = read_back oid h in
    cond-true _ _ _ ((tests_decide (joined (arcs_after 0 (oid_text oid))) (oid_text oid)).1
    (subst IsOid (sym same) h, ap oid_text same)) ∙ ap Some same

no_text : (b : Bool) (oid text : List ℕ) → Decides b (IsOid oid × (oid_text oid ≡ text))
    → (IsOid oid → text ≡ oid_text oid → ⊥) → b ≡ false
no_text true oid text h other = absurd (other (h.0 refl).0 (sym (h.0 refl).1))
no_text false oid text h other = refl

-- another text gives none
pub oid_of_text-other : (text : List ℕ) → ((oid : List ℕ) → IsOid oid → text ≡ oid_text oid → ⊥)
    → oid_of_text text ≡ None
unfolding oid_of_text
oid_of_text-other text other =
    let oid : List ℕ = joined (arcs_after 0 text) in
    cond-false _ _ _ (no_text (tests oid text) oid text (tests_decide oid text) (other oid))

-- what a text gives is an object identifier, and the text its own
from_test : (b : Bool) (oid text x : List ℕ) → Decides b (IsOid oid × (oid_text oid ≡ text))
    → (if b then Some oid else None) ≡ Some x → IsOid x × (text ≡ oid_text x)
from_test true oid text x h e =
    let same : oid ≡ x = same_Some oid x e in
    (subst IsOid same (h.0 refl).0, sym (h.0 refl).1 ∙ ap oid_text same)
from_test false oid text x h e = absurd (cc e)

pub oid_of_text-some : (text x : List ℕ) → oid_of_text text ≡ Some x → IsOid x × (text ≡ oid_text x)
unfolding oid_of_text
oid_of_text-some text x e =
    let oid : List ℕ = joined (arcs_after 0 text) in
    from_test (tests oid text) oid text x (tests_decide oid text) e

-- ---- what is answered

-- a text that gives none is no object identifier's
pub none-not_text : (text oid : List ℕ) → oid_of_text text ≡ None → IsOid oid → text ≡ oid_text oid → ⊥
none-not_text text oid none is written =
    let some : oid_of_text text ≡ Some oid = ap oid_of_text written ∙ oid_of_text-written oid is in
    let same : Some oid ≡ None = sym some ∙ none in
    cc

-- ..so after its first two arcs no others follow
pub none-no_others : (text seen : List ℕ) (first : ℕ) (rest : List ℕ) (second : ℕ) (last : List ℕ) (s : ℕ)
    → seen ≡ text → IsNumberAt seen first rest → IsDottedNumberAt rest second last → s < 2 ^ 128
    → first_arc s ≡ first → s - 40 * first_arc s ≡ second → oid_of_text text ≡ None → (others : List ℕ)
    → AreOthers others → last ≡ flat_map dotted others → ⊥
none-no_others text seen first rest second last s same h k small a b none others are e =
    let is = parsed seen first rest second last s others h k small a b are e in
    none-not_text text (s ∷ others) none is.oid (sym same ∙ is.spelled)
