use Rattle.std.proofs.Common.{◌≡◌, ◌∙◌, ℕ, ◌<◌, List, Result, Ok, Err, Bor, ap, arith, true, get_or, length}
use Rattle.std.proofs.lemmas.Bool.{cases_lt, and_parts}
use Rattle.std.proofs.{Common.refl, Common.subst, Common.sym, Common.inl, Common.inr, lemmas.Bool.Decides.nat_tests}
use Rattle.std.proofs.{lemmas.List.get_or_past, lemmas.List.Sums.AllPass-from_list_all, lemmas.Str.IsUtf8-from_ascii}
use Rattle.std.specs.{List.list_all, Prelude.MatchResult, Prelude.codes, Result.IsErrAnd, Str.IsUtf8}
use Rattle.service.specs.{Fields.stated, Views.head_view, Views.octets_given, declared.refusal.Refusal.Refusal}
use Rattle.service.specs.{Checks.◌>>=◌, Checks.check, Checks.once, Numbers.is_reference, Numbers.is_reference_octet}
use Rattle.service.specs.declared.refusal.Refusal.TheVariants as refusal
use Rattle.service.proofs.checks.reference_stated.Goals as goal

-- letters, digits and the three signs are ASCII
below_128 : (c : ℕ) → is_reference_octet c ≡ true → c < 128
below_128 c is = grind (arith, nat_tests)

each_below : (octets : List ℕ) → list_all is_reference_octet octets ≡ true → (i : ℕ) → get_or octets i 0 < 128
each_below octets all i =
    elim (cases_lt i (length octets)) [
      | inl within ↦ below_128 (get_or octets i 0) (AllPass-from_list_all is_reference_octet octets all i 0 within)
      | inr past ↦ rw get_or_past (omega arith)
    ]

reference_is_text : (octets : List ℕ) → is_reference octets ≡ true → IsUtf8 octets
unfolding is_reference
reference_is_text octets is = IsUtf8-from_ascii octets (each_below octets (and_parts _ _ is).1)

-- the reference that is told once
told_once : (m : Result (List ℕ) Refusal) (reference : List ℕ) → Ok reference ≡ m → is_reference reference ≡ true
    → Ok reference
    ≡ (m >>= (λ l. check (is_reference l) refusal.BadReference >>= (λ (formed : Unit {0}). Ok l)))
told_once m reference once formed =
    subst (λ n. Ok reference ≡ (n >>= (λ l. check (is_reference l) refusal.BadReference
    >>= (λ (formed : Unit {0}). Ok l)))) once (rw formed refl)

-- octets that are a text are given as that text
text_given : {E : Type 0} (Q : E → Refusal → Type 0) (P : E → Type 0) (r : Result (Bor (List ℕ)) E)
    (told : Result (Bor (List ℕ)) Refusal) (octets : List ℕ)
    → MatchResult r (λ x. told ≡ Ok x) (λ e. IsErrAnd told (Q e))
    → MatchResult r (λ s. (s.now ≡ octets) × IsUtf8 octets) (λ e. (IsUtf8 octets → ⊥) × P e) → IsUtf8 octets
    → octets_given told ≡ Ok octets
text_given Q P (Ok x) told octets same is text = ap octets_given same ∙ ap Ok is.0
text_given Q P (Err e) told octets same is text = absurd (is.0 text)

pub returns : goal.returns
returns c =
    let reference = c.in_ok-reference.reference.now in
    let formed : is_reference reference ≡ true = sym c.is_reference.ensures ∙ c.if-not-is_reference.false in
    text_given _ _ c.from_utf8.result c.map_err.result reference c.map_err.ensures.cases c.from_utf8.ensures.cases
    (reference_is_text reference formed)
    ∙ told_once (once refusal.BadReference refusal.BadReference
    (stated (codes "deposit-reference") (head_view c.args.head).fields)) reference
    (c.in_ok-reference.ensures ∙ ap (once refusal.BadReference refusal.BadReference) c.stated-found.ensures) formed
