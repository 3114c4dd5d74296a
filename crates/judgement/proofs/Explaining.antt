-- Lines behind one another, and whose subject is told.
use Rattle.std.proofs.Common.{◌≡◌, ◌∙◌, ℕ, List, [], ◌++◌, Option, Some, None, Result, Ok, Err, ap, append_assoc}
use Rattle.std.proofs.Common.{option_map, subst, sym}
use Rattle.std.specs.Prelude.{IfOk, IfSome, MatchOption, OnOk}
use Rattle.der.specs.{DataValueView.value_view, Node.Node, declared.data_value.DataValue.DataValue}
use Rattle.cms.specs.Certificate.{IsSubject}
use Rattle.book.specs.Rows.{InstalledRow}
use Rattle.judgement.specs.Explanation.{IsSubjectOf}

pub two_behind : (l0 l1 l2 a b : List ℕ) → l1 ≡ l0 ++ a → l2 ≡ l1 ++ b → l2 ≡ l0 ++ (a ++ b)
two_behind l0 l1 l2 a b first second = second ∙ ap (λ l. l ++ b) first ∙ append_assoc l0 a b

pub three_behind : (l0 l1 l2 l3 a b c : List ℕ) → l1 ≡ l0 ++ a → l2 ≡ l1 ++ b → l3 ≡ l2 ++ c
    → l3 ≡ l0 ++ (a ++ (b ++ c))
three_behind l0 l1 l2 l3 a b c first second third =
    two_behind l0 l1 l3 a (b ++ c) first (two_behind l1 l2 l3 b c second third)

pub five_lines : (l0 l1 l2 l3 l4 l5 a b c d e : List ℕ) → l0 ≡ [] → l1 ≡ l0 ++ a → l2 ≡ l1 ++ b → l3 ≡ l2 ++ c
    → l4 ≡ l3 ++ d → l5 ≡ l4 ++ e → l5 ≡ a ++ (b ++ (c ++ (d ++ e)))
five_lines l0 l1 l2 l3 l4 l5 a b c d e none first second third fourth fifth =
    two_behind l0 l1 l5 a (b ++ (c ++ (d ++ e))) first
    (two_behind l1 l2 l5 b (c ++ (d ++ e)) second (three_behind l2 l3 l4 l5 c d e third fourth fifth))
    ∙ ap (λ l. l ++ (a ++ (b ++ (c ++ (d ++ e))))) none

pub then_ok : {A E : Type 0} (r : Result A E) (P Q : Type 0) → OnOk r P → (P → Q) → OnOk r Q
then_ok (Ok a) P Q holds tells = tells holds
then_ok (Err e) P Q holds tells = tt

pub where_ok : {A E : Type 0} (r : Result A E) (P Q : Type 0) → OnOk r P → (P → Q) → IfOk r (λ _. Q)
where_ok (Ok a) P Q holds tells = tells holds
where_ok (Err e) P Q holds tells = tt

pub subject_is : (identity : InstalledRow) (certificate : List ℕ) → certificate ≡ identity.certificate
    → (found : Option DataValue) → IfSome found (λ name. IsSubject certificate (value_view name))
    → ((name : Node) → IsSubject certificate name → MatchOption found ⊥ (λ f. value_view f ≡ name))
    → IsSubjectOf (Some identity) (option_map value_view found)
subject_is identity certificate same (Some name) is only = subst (λ c. IsSubject c (value_view name)) same is
subject_is identity certificate same None is only =
    λ name subject. only name (subst (λ c. IsSubject c name) (sym same) subject)
