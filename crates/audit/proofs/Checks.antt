-- Whether a row's octets say what it says, by what they are read as.
use Rattle.std.proofs.Common.{◌≡◌, ℕ, ◌≤◌, Bool, true, false, List, [], ◌∷◌, ◌++◌, length, map, refl, sym, ap, ◌∙◌}
use Rattle.std.proofs.Common.{Option, Some, None, option_map, find, nat_lt, subst}
use Rattle.std.proofs.lemmas.List.{map-append, reverse-append}
use Rattle.std.specs.Prelude.{reverse, ◌↔◌, IsTrue}
use Rattle.der.specs.{DataValue.value_in, Node.Node, Node.encoding, Node.IsLawful}
use Rattle.book.specs.{Identities.identity_before, Rows.StampRow, Rows.InstalledRow}
use Rattle.cms.specs.Certificate.{IsSubject}
use Rattle.tsp.specs.{Request.RequestValue, Request.Spells, Tst.TstValue, Tst.SpellsTst}
use Rattle.audit.specs.Consistent.{Agree, IsConsistent}

-- the octets are read as no other TSTInfo and as no other request
pub tells_consistent : (stamp : StampRow) (identities : List InstalledRow) (tst : TstValue) (request : RequestValue)
    (answer : Bool) (first second : List ℕ)
    → first ≡ stamp.tst → second ≡ stamp.request → SpellsTst first tst
    → ((t : TstValue) → SpellsTst first t → tst ≡ t) → Spells second request → length second ≤ 65536
    → ((r : RequestValue) → Spells second r → length second ≤ 65536 → request ≡ r)
    → (IsTrue answer ↔ Agree stamp (identity_before stamp.serial identities) tst request)
    → IsTrue answer ↔ IsConsistent stamp identities
tells_consistent stamp identities tst request answer first second is_first is_second spelled one_tst asked short
    one_request agree = (
      λ e. record {
        tst = tst;
        spelled = subst (λ o. SpellsTst o tst) is_first spelled;
        request = request;
        asked = subst (λ o. Spells o request) is_second asked;
        short = subst (λ (o : List ℕ). length o ≤ 65536) is_second short;
        agree = agree.0 e;
      },
      λ k.
          (let same_tst = one_tst k.tst (subst (λ o. SpellsTst o k.tst) (sym is_first) k.spelled) in
          let same_request = one_request k.request (subst (λ o. Spells o k.request) (sym is_second) k.asked) short in
          let identity = identity_before stamp.serial identities in
          agree.1 (subst (λ t. Agree stamp identity t request) (sym same_tst)
          (subst (λ r. Agree stamp identity k.tst r) (sym same_request) k.agree))),
    )

-- octets that are read as no request
pub none_consistent : (stamp : StampRow) (identities : List InstalledRow) (second : List ℕ) → second ≡ stamp.request
    → ((r : RequestValue) → Spells second r → length second ≤ 65536 → ⊥) → IsConsistent stamp identities → ⊥
none_consistent stamp identities second is none k =
    none k.request (subst (λ o. Spells o k.request) (sym is) k.asked)
    (subst (λ (o : List ℕ). length o ≤ 65536) (sym is) k.short)

-- ---- the identity that was in force

map_reverse : {A B : Type 0} (f : A → B) (xs : List A) → map f (reverse xs) ≡ reverse (map f xs)
map_reverse f [] = refl
map_reverse f (x ∷ xs) =
    ap (map f) (reverse-append (x ∷ []) xs) ∙ map-append f (reverse xs) (x ∷ [])
    ∙ ap (λ l. l ++ f x ∷ []) (map_reverse f xs) ∙ sym (reverse-append (f x ∷ []) (map f xs))

found_or_later : {A B : Type 0} (view : A → B) (test : B → Bool) (x : A) (xs : List A) (b : Bool) → test (view x) ≡ b
    → option_map view (find (λ x. test (view x)) xs) ≡ find test (map view xs)
    → option_map view (find (λ x. test (view x)) (x ∷ xs)) ≡ find test (map view (x ∷ xs))
found_or_later view test x xs true e h = rw e refl
found_or_later view test x xs false e h = rw e h

first_seen : {A B : Type 0} (view : A → B) (test : B → Bool) (xs : List A)
    → option_map view (find (λ x. test (view x)) xs) ≡ find test (map view xs)
first_seen view test [] = refl
first_seen view test (x ∷ xs) = found_or_later view test x xs (test (view x)) refl (first_seen view test xs)

map_twice : {A B C : Type 0} (now : A → B) (view : B → C) (o : Option A)
    → option_map (λ x. view (now x)) o ≡ option_map view (option_map now o)
map_twice now view None = refl
map_twice now view (Some x) = refl

-- what a search from the end finds is the last row before a serial number
pub last_before : {A B : Type 0} (now : A → B) (view : B → InstalledRow) (serial : ℕ) (o : Option A) (xs : List B)
    → option_map now o ≡ find (λ x. nat_lt (view x).after_serial serial) (reverse xs)
    → option_map (λ x. view (now x)) o ≡ identity_before serial (map view xs)
last_before now view serial o xs e =
    map_twice now view o ∙ ap (option_map view) e
    ∙ first_seen view (λ row. nat_lt row.after_serial serial) (reverse xs)
    ∙ ap (find (λ (row : InstalledRow). nat_lt row.after_serial serial)) (map_reverse view xs)

-- a value with the octets of a certificate's subject is that subject
pub tells_subject : (certificate : List ℕ) (found name : Node) (r : Bool)
    → ((n : Node) → IsLawful n → value_in (encoding n) ≡ n) → IsLawful found → IsLawful name
    → IsSubject certificate found → ((n : Node) → IsSubject certificate n → found ≡ n)
    → IsTrue r ↔ (encoding found ≡ encoding name) → IsTrue r ↔ IsSubject certificate name
tells_subject certificate found name r law lawful named is only told = (
  λ e. subst (IsSubject certificate) (sym (law found lawful) ∙ ap value_in (told.0 e) ∙ law name named) is,
  λ s. told.1 (ap encoding (only name s)),
)
