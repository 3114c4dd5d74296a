-- Each record that a policy file means is sound.
use Rattle.std.proofs.Common.{◌≡◌, ℕ, ◌≤◌, Bool, true, false, not, ◌&&◌, ◌||◌, List, [], ◌∷◌, ◌++◌, length, map, ◌+◌}
use Rattle.std.proofs.Common.{◌/◌, ◌%◌, ◌==◌, codes, Option, Some, None, Result, Ok, Err, refl, ap, subst, ◌∙◌}
use Rattle.std.proofs.{Common.eqb-true, Common.arith, lemmas.List.map-append, lemmas.List.length-append}
use Rattle.std.proofs.{lemmas.List.length-map, lemmas.Option.same_Some, lemmas.Bool.and_parts, lemmas.Bool.leb-true}
use Rattle.std.specs.{List.AllByRecursion, List.list_all, List.list_any, Str.bytes_eq, Result.result_ok}
use Rattle.std.specs.Prelude.{nat_le, if◌then◌else◌, IfSome}
use Rattle.der.specs.{ObjectIdentifier.IsOid, ObjectIdentifier.oid_content, OidText.oid_of_text}
use Rattle.hex.{specs.Hex.decode_pairs, specs.Hex.decode_sized, proofs.HexLemmas.decode_pairs-ok}
use Rattle.hex.specs.declared.error.FromHexError.{FromHexError, TheVariants.OddLength, TheVariants.InvalidStringLength}
use Rattle.toml.specs.Data.{Data, Items, no_items, item, Members, get_member, as_table, as_integer, as_str}
use Rattle.toml.specs.Parse.{parse_document}
use Rattle.policy.specs.Kinds.{◌>>=◌, test, check, given, natural_of, wanted, optional, is_among, is_hash, is_name}
use Rattle.policy.specs.Kinds.{are_distinct, number_in, name_in, some_name_in, truth_in, oid_in, new_name_in}
use Rattle.policy.specs.Kinds.{new_oid_in, new_hash_in, hash_in, names_in, listed, values_in, fresh, entries_after}
use Rattle.policy.specs.Kinds.{entry_in, tables_in, are_tables, count_of, array_in, only}
use Rattle.policy.specs.Meaning.{lengths_of, is_none_or_among, counter_of, counter_in, algorithm_of, algorithm_in}
use Rattle.policy.specs.Meaning.{extension_of, extension_in, tsa_policy_of, tsa_policy_in, account_of, account_in}
use Rattle.policy.specs.Meaning.{group_of, group_in, policy_in, document_in, meaning_of}
use Rattle.policy.specs.Record.{AlgorithmValue, ExtensionValue, TsaPolicyValue, AccountValue, GroupValue, CounterValue}
use Rattle.policy.specs.{Record.PolicyValue, declared.fault.PolicyFault.PolicyFault, declared.field.Field.Field}
use Rattle.policy.specs.Sound.{are_apart, same_hash, AreListed, IsCounter, IsAlgorithm, IsExtension, IsTsaPolicy}
use Rattle.policy.specs.Sound.{IsAccount, IsGroup, AreEntries, AreAccounts, AreGroups, IsSound}
use Rattle.policy.specs.declared.fault.PolicyFault.TheVariants.{BadValue, Duplicate, UnknownName, TooMany}
use Rattle.der.proofs.OidOfTexts.{oid_of_text-some}
use Rattle.policy.specs.declared.field.Field.TheVariants as field

-- ---- steps

record Bound {A B : Type 0} (r : Result A PolicyFault) (f : A → Result B PolicyFault) (y : B) : Type 0 where
  value : A
  is : r ≡ Ok value
  after : f value ≡ Ok y

bound : {A B : Type 0} (r : Result A PolicyFault) (f : A → Result B PolicyFault) (y : B) → (r >>= f) ≡ Ok y
    → Bound r f y
bound (Ok x) f y e = record { value = x; is = refl; after = e }
bound (Err fault) f y e = absurd (cc e)

abbrev good : {A : Type 0} → A → Result A PolicyFault
good x = Ok x

same_Ok : {A : Type 0} (x y : A) → good x ≡ good y → x ≡ y
same_Ok x y e = cc

tested : {A : Type 0} (b : Bool) (fault : PolicyFault) (x y : A) → test b fault x ≡ Ok y → (b ≡ true) × (x ≡ y)
tested true fault x y e = (refl, same_Ok x y e)
tested false fault x y e = absurd (cc e)

not_true : (b : Bool) → not b ≡ true → b ≡ false
not_true true e = absurd (cc e)
not_true false e = refl

present : {A : Type 0} (name : Field) (o : Option A) (x : A) → given name o ≡ Ok x → o ≡ Some x
present name None x e = absurd (cc e)
present name (Some y) x e = ap Some (same_Ok y x e)

-- what a present value and an absent one are
from_wanted : {A : Type 0} (P : A → Type 0) (name : Field) (read : Data → Result A PolicyFault)
    → ((d : Data) (x : A) → read d ≡ Ok x → P x)
    → (o : Option Data) (x : A) → wanted name read o ≡ Ok x → P x
from_wanted P name read h None x e = absurd (cc e)
from_wanted P name read h (Some d) x e = h d x e

from_optional : {A : Type 0} (P : A → Type 0) (absent : A) (read : Data → Result A PolicyFault) → P absent
    → ((d : Data) (x : A) → read d ≡ Ok x → P x)
    → (o : Option Data) (x : A) → optional absent read o ≡ Ok x → P x
from_optional P absent read none h None x e = subst P (same_Ok absent x e) none
from_optional P absent read none h (Some d) x e = h d x e

-- ---- kinds

in_range : (name : Field) (low high : ℕ) (d : Data) (n : ℕ) → number_in name low high d ≡ Ok n → (low ≤ n) × (n ≤ high)
unfolding number_in
in_range name low high d n e =
    let a = bound (given name (as_integer d)) _ n e in
    let b = bound (given name (natural_of a.value)) _ n a.after in
    let t = tested (nat_le low b.value && nat_le b.value high) (BadValue name) b.value n b.after in
    let p = and_parts (nat_le low b.value) (nat_le b.value high) t.0 in
    subst (λ k. (low ≤ k) × (k ≤ high)) t.1 (leb-true low b.value p.0, leb-true b.value high p.1)

wanted_in_range : (name : Field) (low high : ℕ) (o : Option Data) (n : ℕ)
    → wanted name (number_in name low high) o ≡ Ok n → (low ≤ n) × (n ≤ high)
wanted_in_range name low high =
    from_wanted (λ n. (low ≤ n) × (n ≤ high)) name (number_in name low high) (in_range name low high)

named : (name : Field) (d : Data) (x : List ℕ) → name_in name d ≡ Ok x → is_name x ≡ true
unfolding name_in
named name d x e =
    let a = bound (given name (as_str d)) _ x e in
    let t = tested (is_name a.value) (BadValue name) a.value x a.after in
    subst (λ k. is_name k ≡ true) t.1 t.0

record IsNew (earlier : List (List ℕ)) (x : List ℕ) : Type 0 where
  fresh_one : is_among earlier x ≡ false
  name : is_name x ≡ true

new_named : (name : Field) (earlier : List (List ℕ)) (ms : Members) (x : List ℕ) → new_name_in name earlier ms ≡ Ok x
    → IsNew earlier x
unfolding new_name_in
new_named name earlier ms x e =
    let a = bound (wanted name (name_in name) (get_member (codes "name") ms)) _ x e in
    let t = tested (not (is_among earlier a.value)) (Duplicate name) a.value x a.after in
    subst (IsNew earlier) t.1 (record {
      fresh_one = not_true (is_among earlier a.value) t.0;
      name =
          from_wanted (λ k. is_name k ≡ true) name (name_in name) (named name)
          (get_member (codes "name") ms) a.value a.is;
    })

identified : (name : Field) (d : Data) (x : List ℕ) → oid_in name d ≡ Ok x → IsOid x
unfolding oid_in
identified name d x e =
    let a = bound (given name (as_str d)) _ x e in
    (oid_of_text-some a.value x (present name (oid_of_text a.value) x a.after)).0

record IsNewOid (earlier : List (List ℕ)) (x : List ℕ) : Type 0 where
  fresh_one : is_among earlier (oid_content x) ≡ false
  oid : IsOid x

new_identified : (name : Field) (earlier : List (List ℕ)) (ms : Members) (x : List ℕ)
    → new_oid_in name earlier ms ≡ Ok x → IsNewOid earlier x
unfolding new_oid_in
new_identified name earlier ms x e =
    let a = bound (wanted name (oid_in name) (get_member (codes "oid") ms)) _ x e in
    let b = bound (fresh name earlier (oid_content a.value)) _ x a.after in
    let t = tested (not (is_among earlier (oid_content a.value))) (Duplicate name) (oid_content a.value) b.value b.is in
    subst (IsNewOid earlier) (same_Ok a.value x b.after) (record {
      fresh_one = not_true (is_among earlier (oid_content a.value)) t.0;
      oid = from_wanted IsOid name (oid_in name) (identified name) (get_member (codes "oid") ms) a.value a.is;
    })

no_hash : (earlier : List (Option (List ℕ))) → list_any (λ first. same_hash first None) earlier ≡ false
no_hash [] = refl
no_hash (x ∷ xs) = no_hash xs

from_sized : (odd right : Bool) (text : List ℕ) (n : ℕ) (hash : List ℕ) → (right ≡ true → length text / 2 ≡ n)
    → (if odd then Err OddLength else if right then decode_pairs 0 text else Err InvalidStringLength) ≡ Ok hash
    → length hash ≡ n
from_sized true right text n hash half e = absurd (cc e)
from_sized false true text n hash half e =
    let pairs = (decode_pairs-ok 0 text hash e).1 in
    let whole = half refl in omega (arith, pairs, whole)
from_sized false false text n hash half e = absurd (cc e)

decoded : (r : Result (List ℕ) FromHexError) (hash : List ℕ) → result_ok r ≡ Some hash → r ≡ Ok hash
decoded (Ok bytes) hash e = ap Ok (same_Some bytes hash e)
decoded (Err fault) hash e = absurd (cc e)

hashed : (name : Field) (d : Data) (x : List ℕ) → hash_in name d ≡ Ok x → length x ≡ 32
unfolding hash_in
hashed name d x e =
    let a = bound (given name (as_str d)) _ x e in
    let read = decoded (decode_sized a.value 32) x (present name (result_ok (decode_sized a.value 32)) x a.after) in
    from_sized (length a.value % 2 == 1) (length a.value / 2 == 32) a.value 32 x (eqb-true (length a.value / 2) 32) read

key_hashed : (name : Field) (earlier : List (Option (List ℕ))) (d : Data) (x : Option (List ℕ))
    → new_hash_in name earlier d ≡ Ok x → IfSome x (λ hash. length hash ≡ 32)
unfolding new_hash_in
key_hashed name earlier d x e =
    let a = bound (hash_in name d) _ x e in
    let t = tested (not (list_any (is_hash a.value) earlier)) (Duplicate name) (Some a.value) x a.after in
    subst (λ k. IfSome k (λ hash. length hash ≡ 32)) t.1 (hashed name d a.value a.is)

new_hashed : (name : Field) (earlier : List (Option (List ℕ))) (d : Data) (x : Option (List ℕ))
    → new_hash_in name earlier d ≡ Ok x → list_any (λ first. same_hash first x) earlier ≡ false
unfolding new_hash_in
new_hashed name earlier d x e =
    let a = bound (hash_in name d) _ x e in
    let t = tested (not (list_any (is_hash a.value) earlier)) (Duplicate name) (Some a.value) x a.after in
    subst (λ k. list_any (λ first. same_hash first k) earlier ≡ false) t.1
    (not_true (list_any (is_hash a.value) earlier) t.0)

are_listed : (name : Field) (least : ℕ) (existing : List (List ℕ)) (d : Data) (x : List (List ℕ))
    → names_in name least existing d ≡ Ok x → AreListed least existing x
unfolding names_in listed
are_listed name least existing d x e =
    let a = bound (values_in name d) _ x e in
    let b = bound (entries_after (λ earlier. name_in name) [] a.value) _ x a.after in
    let c = bound (listed name least existing b.value) _ x b.after in
    let enough = bound (check (nat_le least (length b.value)) (BadValue name)) _ c.value c.is in
    let different = bound (check (are_distinct b.value) (Duplicate name)) _ c.value enough.after in
    subst (AreListed least existing) (same_Ok b.value x c.after) (record {
      enough = leb-true least (length b.value)
          (tested (nat_le least (length b.value)) (BadValue name) tt enough.value enough.is).0;
      distinct = (tested (are_distinct b.value) (Duplicate name) tt different.value different.is).0;
      exist = (tested (list_all (is_among existing) b.value) (UnknownName name) tt c.value different.after).0;
    })

wanted_listed : (name : Field) (existing : List (List ℕ)) (o : Option Data) (x : List (List ℕ))
    → wanted name (names_in name 1 existing) o ≡ Ok x → AreListed 1 existing x
wanted_listed name existing =
    from_wanted (AreListed 1 existing) name (names_in name 1 existing) (are_listed name 1 existing)

-- ---- entries

-- what each entry keeps holds of them all
kept : {A : Type 0} (read : List A → Data → Result A PolicyFault) (Q : List A → Type 0)
    → ((earlier : List A) (d : Data) (entry : A) → read earlier d ≡ Ok entry → Q earlier → Q (earlier ++ entry ∷ []))
    → (ds : Items) (earlier entries : List A) → entries_after read earlier ds ≡ Ok entries → Q earlier → Q entries
kept read Q more no_items earlier entries e q = subst Q (same_Ok earlier entries e) q
kept read Q more (item d ds) earlier entries e q =
    let a = bound (read earlier d) _ entries e in
    kept read Q more ds (earlier ++ a.value ∷ []) entries a.after (more earlier d a.value a.is q)

in_array : {A : Type 0} (name : Field) (most : ℕ) (read : List A → Members → Result A PolicyFault) (Q : List A → Type 0)
    → ((earlier : List A) (ms : Members) (entry : A) → read earlier ms ≡ Ok entry → Q earlier
    → Q (earlier ++ entry ∷ [])) → Q []
    → (o : Option Data) (entries : List A) → array_in name most read o ≡ Ok entries → Q entries
unfolding array_in entry_in
in_array name most read Q more none o entries e =
    let a = bound (optional no_items (tables_in name most) o) _ entries e in
    kept (entry_in name read) Q (λ earlier d entry h q. let b = bound (given name (as_table d)) _ entry h in
    more earlier b.value entry b.after q) a.value [] entries a.after none

-- how many there are
counted : {A : Type 0} (read : List A → Data → Result A PolicyFault) (ds : Items) (earlier entries : List A)
    → entries_after read earlier ds ≡ Ok entries
    → length entries ≡ length earlier + count_of ds
counted read no_items earlier entries e = let same = ap length (same_Ok earlier entries e) in omega (arith, same)
counted read (item d ds) earlier entries e =
    let a = bound (read earlier d) _ entries e in
    let others = counted read ds (earlier ++ a.value ∷ []) entries a.after in
    let one = length-append earlier (a.value ∷ []) in omega (arith, others, one)

few_tables : (name : Field) (most : ℕ) (d : Data) (ds : Items) → tables_in name most d ≡ Ok ds → count_of ds ≤ most
unfolding tables_in
few_tables name most d ds e =
    let a = bound (values_in name d) _ ds e in
    let b = bound (check (are_tables a.value) (BadValue name)) _ ds a.after in
    let t = tested (nat_le (count_of a.value) most) (TooMany name) a.value ds b.after in
    subst (λ k. count_of k ≤ most) t.1 (leb-true (count_of a.value) most t.0)

few_in : {A : Type 0} (name : Field) (most : ℕ) (read : List A → Members → Result A PolicyFault) (o : Option Data)
    (entries : List A)
    → array_in name most read o ≡ Ok entries → length entries ≤ most
unfolding array_in
few_in name most read o entries e =
    let a = bound (optional no_items (tables_in name most) o) _ entries e in
    let n = counted (entry_in name read) a.value [] entries a.after in
    let least : 0 ≤ most = omega arith in
    let m = from_optional (λ ds. count_of ds ≤ most) no_items (tables_in name most) least
    (few_tables name most) o a.value a.is in
    omega (arith, n, m)

-- the same of the entries that an answer has
pub few_answered : {A E : Type 0} (see : E → A) (name : Field) (most : ℕ)
    (read : List A → Members → Result A PolicyFault) (o : Option Data) (entries : List E)
    → array_in name most read o ≡ Ok (map see entries) → length entries ≤ most
few_answered see name most read o entries e =
    subst (λ n. n ≤ most) (length-map entries see) (few_in name most read o (map see entries) e)

or_false : (a b : Bool) → (a || b) ≡ false → (a ≡ false) × (b ≡ false)
or_false true b e = absurd (cc e)
or_false false b e = (refl, e)

none_more : {A : Type 0} (p : A → Bool) (xs : List A) (x : A) → list_any p xs ≡ false → p x ≡ false
    → list_any p (xs ++ x ∷ []) ≡ false
none_more p [] x none last = rw last refl
none_more p (y ∷ ys) x none last =
    let (here, others) = or_false (p y) (list_any p ys) none in
    rw here (none_more p ys x others last)

-- one more that is new
apart_more : {A : Type 0} (same : A → A → Bool) (xs : List A) (x : A) → are_apart same xs ≡ true
    → list_any (λ first. same first x) xs ≡ false → are_apart same (xs ++ x ∷ []) ≡ true
apart_more same [] x apart new = refl
apart_more same (y ∷ ys) x apart new =
    let (here, others) = and_parts (not (list_any (same y) ys)) (are_apart same ys) apart in
    let (first, rest) = or_false (same y x) (list_any (λ first. same first x) ys) new in
    rw (none_more (same y) ys x (not_true _ here) first) (apart_more same ys x others rest)

apart_with : {A B : Type 0} (same : B → B → Bool) (f : A → B) (xs : List A) (x : A) → are_apart same (map f xs) ≡ true
    → list_any (λ first. same first (f x)) (map f xs) ≡ false → are_apart same (map f (xs ++ x ∷ [])) ≡ true
apart_with same f xs x apart new = ap (are_apart same) (map-append f xs (x ∷ []))
    ∙ apart_more same (map f xs) (f x) apart new

all_more : {A : Type 0} (P : A → Type 0) (xs : List A) (x : A) → AllByRecursion P xs → P x
    → AllByRecursion P (xs ++ x ∷ [])
all_more P [] x all last = (last, tt)
all_more P (y ∷ ys) x all last = (all.0, all_more P ys x all.1 last)

entries_more : {A : Type 0} (name oid : A → List ℕ) (IsEntry : A → Type 0) (earlier : List A) (entry : A)
    → AreEntries name oid IsEntry earlier
    → is_among (map name earlier) (name entry) ≡ false → is_among (map oid earlier) (oid entry) ≡ false → IsEntry entry
    → AreEntries name oid IsEntry (earlier ++ entry ∷ [])
entries_more name oid IsEntry earlier entry are new_name new_oid is = record {
  names = apart_with bytes_eq name earlier entry are.names new_name;
  oids = apart_with bytes_eq oid earlier entry are.oids new_oid;
  each = all_more IsEntry earlier entry are.each is;
}

algorithms_more : (earlier : List AlgorithmValue) (ms : Members) (entry : AlgorithmValue)
    → algorithm_in earlier ms ≡ Ok entry
    → AreEntries (λ e. e.name) (λ e. oid_content e.oid) IsAlgorithm earlier
    → AreEntries (λ e. e.name) (λ e. oid_content e.oid) IsAlgorithm (earlier ++ entry ∷ [])
unfolding algorithm_of
algorithms_more earlier ms entry e are =
    let a = bound (only (codes "name" ∷ codes "oid" ∷ codes "length" ∷ []) ms) _ entry e in
    let name = bound (new_name_in field.AlgorithmName (map (λ e. e.name) earlier) ms) _ entry a.after in
    let oid = bound (new_oid_in field.AlgorithmOid (map (λ e. oid_content e.oid) earlier) ms) _ entry name.after in
    let size = bound (wanted field.AlgorithmLength
    (number_in field.AlgorithmLength (lengths_of (oid_content oid.value)).0 (lengths_of (oid_content oid.value)).1)
    (get_member (codes "length") ms)) _ entry oid.after in
    let new = new_named field.AlgorithmName (map (λ e. e.name) earlier) ms name.value name.is in
    let new_oid = new_identified field.AlgorithmOid (map (λ e. oid_content e.oid) earlier) ms oid.value oid.is in
    let range = wanted_in_range field.AlgorithmLength (lengths_of (oid_content oid.value)).0
    (lengths_of (oid_content oid.value)).1 (get_member (codes "length") ms) size.value size.is in
    subst (λ k. AreEntries (λ e. e.name) (λ e. oid_content e.oid) IsAlgorithm (earlier ++ k ∷ []))
    (same_Ok (record { name = name.value; oid = oid.value; length = size.value }) entry size.after)
    (entries_more (λ e. e.name) (λ e. oid_content e.oid) IsAlgorithm earlier
    (record { name = name.value; oid = oid.value; length = size.value }) are new.fresh_one new_oid.fresh_one
    (record { name = new.name; oid = new_oid.oid; least = range.0; greatest = range.1 }))

extensions_more : (earlier : List ExtensionValue) (ms : Members) (entry : ExtensionValue)
    → extension_in earlier ms ≡ Ok entry
    → AreEntries (λ e. e.name) (λ e. oid_content e.oid) IsExtension earlier
    → AreEntries (λ e. e.name) (λ e. oid_content e.oid) IsExtension (earlier ++ entry ∷ [])
unfolding extension_of
extensions_more earlier ms entry e are =
    let a = bound (only (codes "name" ∷ codes "oid" ∷ codes "max_length" ∷ []) ms) _ entry e in
    let name = bound (new_name_in field.ExtensionName (map (λ e. e.name) earlier) ms) _ entry a.after in
    let oid = bound (new_oid_in field.ExtensionOid (map (λ e. oid_content e.oid) earlier) ms) _ entry name.after in
    let size = bound (wanted field.ExtensionMaxLength (number_in field.ExtensionMaxLength 0 4096)
    (get_member (codes "max_length") ms)) _ entry oid.after in
    let new = new_named field.ExtensionName (map (λ e. e.name) earlier) ms name.value name.is in
    let new_oid = new_identified field.ExtensionOid (map (λ e. oid_content e.oid) earlier) ms oid.value oid.is in
    let range = wanted_in_range field.ExtensionMaxLength 0 4096 (get_member (codes "max_length") ms) size.value size.is
    in
    subst (λ k. AreEntries (λ e. e.name) (λ e. oid_content e.oid) IsExtension (earlier ++ k ∷ []))
    (same_Ok (record { name = name.value; oid = oid.value; max_length = size.value }) entry size.after)
    (entries_more (λ e. e.name) (λ e. oid_content e.oid) IsExtension earlier
    (record { name = name.value; oid = oid.value; max_length = size.value }) are new.fresh_one new_oid.fresh_one
    (record { name = new.name; oid = new_oid.oid; max_length = range.1 }))

-- no names
no_names : (existing : List (List ℕ)) → AreListed 0 existing []
no_names existing = record { enough = omega arith; distinct = refl; exist = refl }

tsa_policies_more : (algorithm_names extension_names : List (List ℕ)) (earlier : List TsaPolicyValue) (ms : Members)
    (entry : TsaPolicyValue) → tsa_policy_in algorithm_names extension_names earlier ms ≡ Ok entry
    → AreEntries (λ e. e.name) (λ e. oid_content e.oid) (IsTsaPolicy algorithm_names extension_names) earlier
    → AreEntries (λ e. e.name) (λ e. oid_content e.oid) (IsTsaPolicy algorithm_names extension_names)
    (earlier ++ entry ∷ [])
unfolding tsa_policy_of
tsa_policies_more algorithm_names extension_names earlier ms entry e are =
    let a = bound (only (codes "name" ∷ codes "oid" ∷ codes "algorithms" ∷ codes "extensions" ∷ codes "certificate"
    ∷ []) ms) _ entry e in
    let name = bound (new_name_in field.PolicyName (map (λ e. e.name) earlier) ms) _ entry a.after in
    let oid = bound (new_oid_in field.PolicyOid (map (λ e. oid_content e.oid) earlier) ms) _ entry name.after in
    let algorithms = bound (wanted field.PolicyAlgorithms (names_in field.PolicyAlgorithms 1 algorithm_names)
    (get_member (codes "algorithms") ms)) _ entry oid.after in
    let extensions = bound (optional [] (names_in field.PolicyExtensions 0 extension_names)
    (get_member (codes "extensions") ms)) _ entry algorithms.after in
    let certificate = bound (optional true (truth_in field.PolicyCertificate) (get_member (codes "certificate") ms)) _
    entry extensions.after in
    let new = new_named field.PolicyName (map (λ e. e.name) earlier) ms name.value name.is in
    let new_oid = new_identified field.PolicyOid (map (λ e. oid_content e.oid) earlier) ms oid.value oid.is in
    subst (λ k. AreEntries (λ e. e.name) (λ e. oid_content e.oid) (IsTsaPolicy algorithm_names extension_names)
    (earlier ++ k ∷ [])) (same_Ok (record {
      name = name.value;
      oid = oid.value;
      algorithms =
          algorithms.value;
      extensions = extensions.value;
      certificate = certificate.value;
    }) entry certificate.after)
    (entries_more (λ e. e.name) (λ e. oid_content e.oid) (IsTsaPolicy algorithm_names extension_names) earlier
    (record {
      name = name.value;
      oid = oid.value;
      algorithms = algorithms.value;
      extensions =
          extensions.value;
      certificate = certificate.value;
    }) are new.fresh_one new_oid.fresh_one
    (record {
      name = new.name;
      oid = new_oid.oid;
      algorithms = wanted_listed field.PolicyAlgorithms algorithm_names (get_member (codes "algorithms") ms)
          algorithms.value algorithms.is;
      extensions = from_optional (AreListed 0 extension_names) [] (names_in field.PolicyExtensions 0 extension_names)
          (no_names extension_names) (are_listed field.PolicyExtensions 0 extension_names)
          (get_member (codes "extensions") ms) extensions.value extensions.is;
    }))

accounts_more : (policy_names : List (List ℕ)) (earlier : List AccountValue) (ms : Members) (entry : AccountValue)
    → account_in policy_names earlier ms ≡ Ok entry → AreAccounts policy_names earlier
    → AreAccounts policy_names (earlier ++ entry ∷ [])
unfolding account_of
accounts_more policy_names earlier ms entry e are =
    let a = bound (only (codes "name" ∷ codes "key_sha256" ∷ codes "active" ∷ codes "auditor" ∷ codes "operator" ∷ codes
    "policies" ∷ codes "daily_quota" ∷ []) ms) _ entry e in
    let name = bound (new_name_in field.AccountName (map (λ e. e.name) earlier) ms) _ entry a.after in
    let key = bound (optional None (new_hash_in field.AccountKeySha256 (map (λ e. e.key_sha256) earlier))
    (get_member (codes "key_sha256") ms)) _ entry name.after in
    let active = bound (optional true (truth_in field.AccountActive) (get_member (codes "active") ms)) _ entry
    key.after in
    let auditor = bound (optional false (truth_in field.AccountAuditor) (get_member (codes "auditor") ms)) _ entry
    active.after in
    let operator = bound (optional false (truth_in field.AccountOperator) (get_member (codes "operator") ms)) _ entry
    auditor.after in
    let policies = bound (wanted field.AccountPolicies (names_in field.AccountPolicies 1 policy_names)
    (get_member (codes "policies") ms)) _ entry operator.after in
    let quota = bound (wanted field.AccountDailyQuota (number_in field.AccountDailyQuota 0 1000000000)
    (get_member (codes "daily_quota") ms)) _ entry policies.after in
    let new = new_named field.AccountName (map (λ e. e.name) earlier) ms name.value name.is in
    let account : AccountValue = record {
      name = name.value;
      key_sha256 = key.value;
      active = active.value;
      auditor =
          auditor.value;
      operator =
          operator.value;
      policies = policies.value;
      daily_quota = quota.value;
    } in
    let range = wanted_in_range field.AccountDailyQuota 0 1000000000 (get_member (codes "daily_quota") ms) quota.value
    quota.is in
    subst (λ k. AreAccounts policy_names (earlier ++ k ∷ [])) (same_Ok account entry quota.after) (record {
      names = apart_with bytes_eq (λ e. e.name) earlier account are.names new.fresh_one;
      hashes = apart_with same_hash (λ e. e.key_sha256) earlier account are.hashes
          (from_optional (λ k. list_any (λ first. same_hash first k) (map (λ e. e.key_sha256) earlier) ≡ false) None
          (new_hash_in field.AccountKeySha256 (map (λ e. e.key_sha256) earlier))
          (no_hash (map (λ e. e.key_sha256) earlier))
          (new_hashed field.AccountKeySha256 (map (λ e. e.key_sha256) earlier))
          (get_member (codes "key_sha256") ms) key.value key.is);
      each = all_more (IsAccount policy_names) earlier account are.each (record {
        name = new.name;
        key_sha256 = from_optional (λ k. IfSome k (λ hash. length hash ≡ 32)) None
            (new_hash_in field.AccountKeySha256 (map (λ e. e.key_sha256) earlier)) tt
            (key_hashed field.AccountKeySha256 (map (λ e. e.key_sha256) earlier))
            (get_member (codes "key_sha256") ms) key.value key.is;
        policies = wanted_listed field.AccountPolicies policy_names (get_member (codes "policies") ms) policies.value
            policies.is;
        daily_quota = range.1;
      });
    })

groups_more : (account_names : List (List ℕ)) (earlier : List GroupValue) (ms : Members) (entry : GroupValue)
    → group_in account_names earlier ms ≡ Ok entry → AreGroups account_names earlier
    → AreGroups account_names (earlier ++ entry ∷ [])
unfolding group_of
groups_more account_names earlier ms entry e are =
    let a = bound (only (codes "name" ∷ codes "members" ∷ []) ms) _ entry e in
    let name = bound (new_name_in field.GroupName (map (λ e. e.name) earlier) ms) _ entry a.after in
    let members = bound (wanted field.GroupMembers (names_in field.GroupMembers 1 account_names)
    (get_member (codes "members") ms)) _ entry name.after in
    let new = new_named field.GroupName (map (λ e. e.name) earlier) ms name.value name.is in
    let group : GroupValue = record { name = name.value; members = members.value } in
    subst (λ k. AreGroups account_names (earlier ++ k ∷ [])) (same_Ok group entry members.after) (record {
      names = apart_with bytes_eq (λ e. e.name) earlier group are.names new.fresh_one;
      each = all_more (IsGroup account_names) earlier group are.each (record {
        name = new.name;
        members = wanted_listed field.GroupMembers account_names (get_member (codes "members") ms) members.value
            members.is;
      });
    })

is_counter : (d : Data) (counter : CounterValue) → counter_in d ≡ Ok counter → IsCounter counter
unfolding counter_in counter_of
is_counter d counter e =
    let t = bound (given field.Counter (as_table d)) _ counter e in
    let a = bound (only (codes "accuracy_us" ∷ codes "fraction_digits" ∷ codes "ordering" ∷ codes "drift_ppb" ∷ codes
    "max_age_us" ∷ codes "anonymous" ∷ codes "tsa_name" ∷ []) t.value) _ counter t.after in
    let accuracy = bound (wanted field.CounterAccuracyUs (number_in field.CounterAccuracyUs 1 1000000)
    (get_member (codes "accuracy_us") t.value)) _ counter a.after in
    let digits = bound (wanted field.CounterFractionDigits (number_in field.CounterFractionDigits 0 6)
    (get_member (codes "fraction_digits") t.value)) _ counter accuracy.after in
    let ordering = bound (optional false (truth_in field.CounterOrdering) (get_member (codes "ordering") t.value)) _
    counter digits.after in
    let drift = bound (wanted field.CounterDriftPpb (number_in field.CounterDriftPpb 0 1000000)
    (get_member (codes "drift_ppb") t.value)) _ counter ordering.after in
    let age = bound (wanted field.CounterMaxAgeUs (number_in field.CounterMaxAgeUs 1 31536000000000)
    (get_member (codes "max_age_us") t.value)) _ counter drift.after in
    let anonymous = bound (optional None (some_name_in field.CounterAnonymous) (get_member (codes "anonymous") t.value))
    _ counter age.after in
    let tsa_name = bound (optional false (truth_in field.CounterTsaName) (get_member (codes "tsa_name") t.value)) _
    counter anonymous.after in
    let accuracy_range = wanted_in_range field.CounterAccuracyUs 1 1000000 (get_member (codes "accuracy_us") t.value)
    accuracy.value accuracy.is in
    let digits_range = wanted_in_range field.CounterFractionDigits 0 6 (get_member (codes "fraction_digits") t.value)
    digits.value digits.is in
    let drift_range = wanted_in_range field.CounterDriftPpb 0 1000000 (get_member (codes "drift_ppb") t.value)
    drift.value drift.is in
    let age_range = wanted_in_range field.CounterMaxAgeUs 1 31536000000000 (get_member (codes "max_age_us") t.value)
    age.value age.is in
    subst IsCounter (same_Ok (record {
      accuracy_us = accuracy.value;
      fraction_digits = digits.value;
      ordering =
          ordering.value;
      drift_ppb = drift.value;
      max_age_us = age.value;
      anonymous = anonymous.value;
      tsa_name = tsa_name.value;
    }) counter
    tsa_name.after) (record {
      accuracy_some = accuracy_range.0;
      accuracy = accuracy_range.1;
      fraction_digits = digits_range.1;
      drift = drift_range.1;
      age_some = age_range.0;
      age = age_range.1;
    })

sound_table : (ms : Members) (p : PolicyValue) → policy_in ms ≡ Ok p → IsSound p
unfolding policy_in
sound_table ms p e =
    let a = bound (only (codes "counter" ∷ codes "algorithm" ∷ codes "extension" ∷ codes "policy" ∷ codes "account"
    ∷ codes "group" ∷ []) ms) _ p e in
    let counter = bound (wanted field.Counter counter_in (get_member (codes "counter") ms)) _ p a.after in
    let algorithms = bound (array_in field.Algorithm 8 algorithm_in (get_member (codes "algorithm") ms)) _ p
    counter.after in
    let extensions = bound (array_in field.Extension 32 extension_in (get_member (codes "extension") ms)) _ p
    algorithms.after in
    let policies = bound (array_in field.Policy 16
    (tsa_policy_in (map (λ e. e.name) algorithms.value) (map (λ e. e.name) extensions.value))
    (get_member (codes "policy") ms)) _ p extensions.after in
    let accounts = bound (array_in field.Account 64 (account_in (map (λ e. e.name) policies.value))
    (get_member (codes "account") ms)) _ p policies.after in
    let groups = bound (array_in field.Group 16 (group_in (map (λ e. e.name) accounts.value))
    (get_member (codes "group") ms)) _ p accounts.after in
    let t = tested (is_none_or_among (map (λ e. e.name) accounts.value) counter.value.anonymous)
    (UnknownName field.CounterAnonymous) (record {
      counter = counter.value;
      algorithms = algorithms.value;
      extensions = extensions.value;
      policies =
          policies.value;
      accounts = accounts.value;
      groups = groups.value;
    }) p groups.after in
    subst IsSound t.1 (record {
      few = record {
        algorithms = few_in field.Algorithm 8 algorithm_in (get_member (codes "algorithm") ms) algorithms.value
            algorithms.is;
        extensions = few_in field.Extension 32 extension_in (get_member (codes "extension") ms) extensions.value
            extensions.is;
        policies = few_in field.Policy 16 (tsa_policy_in (map (λ e. e.name) algorithms.value)
            (map (λ e. e.name) extensions.value)) (get_member (codes "policy") ms) policies.value policies.is;
        accounts = few_in field.Account 64 (account_in (map (λ e. e.name) policies.value))
            (get_member (codes "account") ms) accounts.value accounts.is;
        groups = few_in field.Group 16 (group_in (map (λ e. e.name) accounts.value))
            (get_member (codes "group") ms) groups.value groups.is;
      };
      counter = from_wanted IsCounter field.Counter counter_in is_counter (get_member (codes "counter") ms)
          counter.value counter.is;
      algorithms = in_array field.Algorithm 8 algorithm_in
          (AreEntries (λ e. e.name) (λ e. oid_content e.oid) IsAlgorithm) algorithms_more
          (record { names = refl; oids = refl; each = tt })
          (get_member (codes "algorithm") ms) algorithms.value algorithms.is;
      extensions = in_array field.Extension 32 extension_in
          (AreEntries (λ e. e.name) (λ e. oid_content e.oid) IsExtension) extensions_more
          (record { names = refl; oids = refl; each = tt })
          (get_member (codes "extension") ms) extensions.value extensions.is;
      policies = in_array field.Policy 16 (tsa_policy_in (map (λ e. e.name) algorithms.value)
          (map (λ e. e.name) extensions.value)) (AreEntries (λ e. e.name) (λ e. oid_content e.oid)
          (IsTsaPolicy (map (λ e. e.name) algorithms.value) (map (λ e. e.name) extensions.value)))
          (tsa_policies_more (map (λ e. e.name) algorithms.value) (map (λ e. e.name) extensions.value))
          (record { names = refl; oids = refl; each = tt }) (get_member (codes "policy") ms) policies.value policies.is;
      accounts = in_array field.Account 64 (account_in (map (λ e. e.name) policies.value))
          (AreAccounts (map (λ e. e.name) policies.value)) (accounts_more (map (λ e. e.name) policies.value))
          (record { names = refl; hashes = refl; each = tt })
          (get_member (codes "account") ms) accounts.value accounts.is;
      groups = in_array field.Group 16 (group_in (map (λ e. e.name) accounts.value))
          (AreGroups (map (λ e. e.name) accounts.value)) (groups_more (map (λ e. e.name) accounts.value))
          (record { names = refl; each = tt }) (get_member (codes "group") ms) groups.value groups.is;
      anonymous = t.0;
    })

sound_document : (o : Option Members) (p : PolicyValue) → document_in o ≡ Ok p → IsSound p
sound_document None p e = absurd (cc e)
sound_document (Some ms) p e = sound_table ms p e

pub records_are_sound : (text : List ℕ) (p : PolicyValue) → meaning_of text ≡ Ok p → IsSound p
unfolding meaning_of
records_are_sound text p e = sound_document (parse_document text) p e
