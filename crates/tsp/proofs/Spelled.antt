-- What is read from a lawful value is the request that its octets spell.
use Rattle.std.proofs.Common.{◌≡◌, ℕ, List, Option, Some, None, Result, Err, IfOk, MatchResult, [], ◌++◌, sym, ap, ◌∙◌}
use Rattle.std.proofs.{Common.subst, lemmas.Option.same_Some, lemmas.Option.none-some}
use Rattle.std.specs.Option.{IfSome, MatchOption, option_map, ok_or}
use Rattle.der.{specs.Node.Node, specs.Node.encoding, specs.Node.IsLawful, proofs.ReadingNodes.encoding_ends}
use Rattle.tsp.{specs.Request.RequestValue, specs.Request.Spells, specs.Request.time_stamp_req, specs.Parser.request_of}
use Rattle.tsp.{specs.View.request_view, proofs.RequestReads.request_of-request, proofs.RequestTakes.request_takes}
use Rattle.tsp.specs.declared.{request.Request.Request, fault.TspFault.TspFault, fault.TspFault.TheVariants.Form}

pub spelled_from_read : (octets : List ℕ) (n : Node) (r : RequestValue) → IsLawful n → octets ≡ encoding n
    → request_of n ≡ Some r → Spells octets r
spelled_from_read octets n r lawful is e =
    let found = request_takes n r lawful.formed e in
    record {
      proper = found.0;
      stated = found.1.0;
      lawful = subst IsLawful found.1.1 lawful;
      spelled = is
          ∙ ap encoding found.1.1;
    }

pub read_from_spelled : (octets : List ℕ) (n : Node) (r : RequestValue) (h : Spells octets r)
    → n ≡ time_stamp_req h.stated r → request_of n ≡ Some r
read_from_spelled octets n r h is = ap request_of is ∙ request_of-request h.stated r h.proper

pub found_from_read : (octets : List ℕ) (n : Node) (result : Option Request) → IsLawful n → octets ≡ encoding n
    → option_map request_view result ≡ request_of n → IfSome result (λ found. Spells octets (request_view found))
found_from_read octets n (Some found) lawful is e = spelled_from_read octets n (request_view found) lawful is (sym e)
found_from_read octets n None lawful is e = tt

pub only_from_read : (n : Node) (r : RequestValue) (result : Option Request)
    → option_map request_view result ≡ request_of n → request_of n ≡ Some r
    → MatchOption result ⊥ (λ found. request_view found ≡ r)
only_from_read n r (Some found) e is = same_Some (request_view found) r (e ∙ is)
only_from_read n r None e is = none-some r (e ∙ is)

-- an answer that is none becomes Form
pub ok_found : {X : Type 0} (P : X → Type 0) (o : Option X) (r : Result X TspFault) → r ≡ ok_or o Form → IfSome o P
    → IfOk r P
ok_found P None r e h = subst (λ x. IfOk x P) (sym e) tt
ok_found P (Some x) r e h = subst (λ x. IfOk x P) (sym e) h

pub ok_only : {X : Type 0} (P : X → Type 0) (o : Option X) (r : Result X TspFault) → r ≡ ok_or o Form
    → MatchOption o ⊥ P → MatchResult r P (λ fault. ⊥)
ok_only P None r e h = absurd h
ok_only P (Some x) r e h = subst (λ x. MatchResult x P (λ fault. ⊥)) (sym e) h

pub not_form : {X : Type 0} (P : X → Type 0) (o : Option X) (r : Result X TspFault) → r ≡ ok_or o Form → r ≡ Err Form
    → MatchOption o ⊥ P → ⊥
not_form P None r e form h = h
not_form P (Some x) r e form h = cc (sym e ∙ form)

-- octets spell one request
pub same_request : (octets : List ℕ) (r s : RequestValue) → Spells octets r → Spells octets s → r ≡ s
same_request octets r s h g =
    let same = (encoding_ends (time_stamp_req h.stated r)
    (time_stamp_req g.stated s) [] [] h.lawful.formed g.lawful.formed
    (ap (λ w. w ++ []) (sym h.spelled ∙ g.spelled))).0 in
    same_Some r s (sym (request_of-request h.stated r h.proper) ∙ ap request_of same
    ∙ request_of-request g.stated s g.proper)
