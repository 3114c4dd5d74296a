-- What the grammar gives for a TSTInfo is read as its parts.
use Rattle.std.proofs.Common.{◌≡◌, ℕ, zero, suc, ◌+◌, ◌*◌, ◌/◌, ◌%◌, ◌<◌, ◌≤◌, true, false, ltb, leb, pos, [], ◌∷◌}
use Rattle.std.proofs.Common.{◌++◌, Option, Some, None, refl, sym, ap, ◌∙◌, arith}
use Rattle.std.specs.{List.AllByRecursion, Option.IfSome}
use Rattle.std.proofs.lemmas.Bool.{Decides.nat_tests, eq-eqb}
use borrow.Author.Tests.{ne_eqb}
use Rattle.der.specs.Node.{Node, primitive, Nodes, no_nodes, node}
use Rattle.der.specs.{Tree.nodes, Number.number_content, ObjectIdentifier.IsOid}
use Rattle.der.proofs.NumberContents.{twos_value-number_content, is_shortest-number_content}
use Rattle.tsp.specs.Grammar.{integer, object_identifier, optional, false_by_default}
use Rattle.tsp.specs.{Request.message_imprint, Request.extensions_under, Tst.IsName, Tst.accuracy_part, Tst.accuracy}
use Rattle.tsp.specs.{Tst.tsa, Parser.integer_value_of, Parser.integer_of, Parser.only, Parser.end_of}
use Rattle.tsp.specs.auxiliary.TstParser.{TstHead, TstParts, natural, natural_of, up_to, number_in, part_at}
use Rattle.tsp.specs.auxiliary.TstParser.{accuracy_of, head_of, explicit_of, name_of, tsa_of, parts_of, info_of}
use Rattle.tsp.proofs.Components.{before, nodes-append}
use Rattle.tsp.proofs.RequestReads.{before-none, integer_of-integer, oid_in-object_identifier}
use Rattle.tsp.proofs.RequestReads.{imprint_of-message_imprint, optional_at-some, optional_at-none}
use Rattle.tsp.proofs.RequestReads.{optional_at-optional, StartsApart, flag_at-false_by_default}
use Rattle.tsp.proofs.RequestReads.{extensions_at-extensions_under, apart-optional, apart-extensions_under, any, never}

pub natural_of-number_content : (n : ℕ) → n < 9223372036854775808 → natural_of (number_content (pos n)) ≡ Some n
unfolding natural_of integer_value_of natural
natural_of-number_content n small =
    let test : ltb n 9223372036854775808 ≡ true = grind (arith, nat_tests) in
    rw (is_shortest-number_content (pos n), twos_value-number_content (pos n), test) refl

pub up_to-within : (most n : ℕ) → 1 ≤ n → n ≤ most → up_to most n ≡ Some n
unfolding up_to
up_to-within most n some small =
    let least : leb 1 n ≡ true = grind (arith, nat_tests) in
    let greatest : leb n most ≡ true = grind (arith, nat_tests) in
    rw (least, greatest) refl

pub number_in-number : (tag most n : ℕ) → 1 ≤ n → n ≤ most → n < 9223372036854775808
    → number_in tag most (primitive tag (number_content (pos n))) ≡ Some n
unfolding number_in
number_in-number tag most n some small fits =
    rw (eq-eqb tag tag refl, natural_of-number_content n fits) (up_to-within most n some small)

pub accuracy_part-some : (tag n : ℕ) → 1 ≤ n → accuracy_part tag n ≡ primitive tag (number_content (pos n)) ∷ []
accuracy_part-some tag n some = rw (ne_eqb n 0 (λ e. omega arith)) refl

pub part_at-accuracy_part : (tag most n : ℕ) (rest : Nodes) → n ≤ most → n < 9223372036854775808 → StartsApart tag rest
    → part_at tag most (before (accuracy_part tag n) rest) ≡ Some (n, rest)
unfolding part_at
part_at-accuracy_part tag most zero rest small fits apart =
    rw (optional_at-none tag (number_in tag most) rest apart) refl
part_at-accuracy_part tag most (suc n) rest small fits apart =
    rw (
      accuracy_part-some tag (suc n) (omega arith),
      optional_at-some tag (number_in tag most) (primitive tag (number_content (pos (suc n)))) (suc n) rest refl
          (number_in-number tag most (suc n) (omega arith) small fits),
    ) refl

apart-accuracy_part : (tag other n : ℕ) (rest : Nodes) → (other ≡ tag → ⊥) → StartsApart tag rest
    → StartsApart tag (before (accuracy_part other n) rest)
apart-accuracy_part tag other zero rest differs apart = apart
apart-accuracy_part tag other (suc n) rest differs apart = rw (accuracy_part-some other (suc n) (omega arith)) differs

-- the parts of an accuracy, one after the other
pub accuracy_parts : (s m u : ℕ) → nodes (accuracy_part 2 s ++ (accuracy_part 128 m ++ accuracy_part 129 u))
    ≡ before (accuracy_part 2 s) (before (accuracy_part 128 m) (before (accuracy_part 129 u) no_nodes))
accuracy_parts s m u = nodes-append _ _
    ∙ ap (before (accuracy_part 2 s)) (nodes-append _ _
    ∙ ap (before (accuracy_part 128 m)) (sym (before-none (accuracy_part 129 u))))

pub accuracy_of-accuracy : (n : ℕ) → 1 ≤ n → n ≤ 1000000 → accuracy_of (accuracy n) ≡ Some n
unfolding accuracy_of only end_of
accuracy_of-accuracy n some small =
    let s = n / 1000000 in
    let m = n / 1000 % 1000 in
    let u = n % 1000 in
    let last = part_at-accuracy_part 129 999 u no_nodes (omega arith) (omega arith) tt in
    let apart_m : StartsApart 128 (before (accuracy_part 129 u) no_nodes) =
    apart-accuracy_part 128 129 u no_nodes (λ q. absurd (omega (arith, q))) tt in
    let middle = part_at-accuracy_part 128 999 m (before (accuracy_part 129 u) no_nodes) (omega arith) (omega arith)
    apart_m in
    let apart_s : StartsApart 2 (before (accuracy_part 128 m) (before (accuracy_part 129 u) no_nodes)) =
    apart-accuracy_part 2 128 m _ (λ q. absurd (omega (arith, q)))
    (apart-accuracy_part 2 129 u no_nodes (λ q. absurd (omega (arith, q))) tt) in
    let first = part_at-accuracy_part 2 1 s (before (accuracy_part 128 m) (before (accuracy_part 129 u) no_nodes))
    (omega arith) (omega arith) apart_s in
    let whole : s * 1000000 + (m * 1000 + u) ≡ n = omega arith in
    rw (accuracy_parts s m u, first, middle, last, whole) (up_to-within 1000000 n some small)

pub record IsHead (h : TstHead) : Type 0 where
  pub policy : IsOid h.policy
  pub algorithm : IsOid h.imprint.algorithm
  pub some_serial : 1 ≤ h.serial
  pub last_serial : h.serial ≤ 9223372036854775807
  pub some_accuracy : 1 ≤ h.accuracy
  pub most_accuracy : h.accuracy ≤ 1000000

-- the first values of a TSTInfo, in front of others
abbrev pub head_before : TstHead → Nodes → Nodes
head_before h rest =
    node (integer (pos 1)) (node (object_identifier h.policy)
    (node (message_imprint h.imprint) (node (integer (pos h.serial))
    (node (primitive 24 h.time) (node (accuracy h.accuracy) rest)))))

pub head_of-head_before : (h : TstHead) (rest : Nodes) → IsHead h → head_of (head_before h rest) ≡ Some (h, rest)
unfolding head_of
head_of-head_before h rest is =
    let one = number_in-number 2 1 1 (omega arith) (omega arith) (omega arith) in
    let policy = oid_in-object_identifier h.policy is.policy in
    let imprint = imprint_of-message_imprint h.imprint is.algorithm in
    let serial = number_in-number 2 9223372036854775807 h.serial is.some_serial is.last_serial
    (omega (arith, is.last_serial)) in
    let accurate = accuracy_of-accuracy h.accuracy is.some_accuracy is.most_accuracy in
    rw (one, policy, imprint, serial, accurate) refl

pub tail_parts : (p : TstParts) → nodes (false_by_default false p.ordering
    ++ (optional integer p.nonce ++ (optional tsa p.tsa ++ extensions_under 161 [] p.extensions)))
    ≡ before (false_by_default false p.ordering)
    (before (optional integer p.nonce) (before (optional tsa p.tsa) (nodes (extensions_under 161 [] p.extensions))))
tail_parts p = nodes-append _ _ ∙ ap (before (false_by_default false p.ordering))
    (nodes-append _ _ ∙ ap (before (optional integer p.nonce)) (nodes-append _ _))

-- a Name under its tags is read as that Name
tsa_of-tsa : (n : Node) → IsName n → tsa_of (tsa n) ≡ Some n
unfolding tsa_of explicit_of name_of only end_of
tsa_of-tsa n h = rw (h.sequence) refl

names_are_read : (name : Option Node) → IfSome name IsName → IfSome name (λ n. tsa_of (tsa n) ≡ Some n)
names_are_read None h = tt
names_are_read (Some n) h = tsa_of-tsa n h

pub parts_of-info_of : (p : TstParts) → IsHead p.head → IfSome p.tsa IsName
    → AllByRecursion (λ e. IsOid e.identifier) p.extensions → parts_of (info_of p) ≡ Some p
unfolding parts_of only end_of
parts_of-info_of p is named oids =
    let ext = nodes (extensions_under 161 [] p.extensions) in
    let names = before (optional tsa p.tsa) ext in
    let nonces = before (optional integer p.nonce) names in
    let none_tsa : StartsApart 160 ext =
    apart-extensions_under 160 161 [] p.extensions (λ q. absurd (omega (arith, q))) in
    let none_two : StartsApart 2 names =
    apart-optional 2 160 tsa p.tsa ext (λ x. refl) (λ q. absurd (omega (arith, q)))
    (apart-extensions_under 2 161 [] p.extensions (λ q. absurd (omega (arith, q)))) in
    let none_one : StartsApart 1 nonces =
    apart-optional 1 2 integer p.nonce names (λ x. refl) (λ q. absurd (omega (arith, q)))
    (apart-optional 1 160 tsa p.tsa ext (λ x. refl) (λ q. absurd (omega (arith, q)))
    (apart-extensions_under 1 161 [] p.extensions (λ q. absurd (omega (arith, q))))) in
    let flag = flag_at-false_by_default false false p.ordering nonces (never false) none_one in
    let nonce = optional_at-optional 2 integer_of integer p.nonce names (λ x. refl)
    (any (λ x. integer_of (integer x) ≡ Some x) p.nonce integer_of-integer) none_two in
    let name = optional_at-optional 160 tsa_of tsa p.tsa ext (λ x. refl) (names_are_read p.tsa named) none_tsa in
    let extensions = extensions_at-extensions_under false 161 [] p.extensions tt oids in
    rw (
      tail_parts p,
      head_of-head_before p.head (before (false_by_default false p.ordering) nonces) is,
      flag,
      nonce,
      name,
      extensions,
    ) refl
