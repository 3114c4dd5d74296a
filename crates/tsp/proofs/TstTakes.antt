-- What is read as a TSTInfo's parts is what the grammar gives for them.
use Rattle.std.proofs.Common.{◌≡◌, ℕ, ◌+◌, ◌*◌, ◌/◌, ◌%◌, ◌≤◌, Bool, true, false, ltb, leb, ◌&&◌, ℤ, pos, negsuc, List}
use Rattle.std.proofs.Common.{[], ◌∷◌, ◌++◌, Option, Some, None, ◌⊎◌, inl, inr, refl, sym, ap, ◌∙◌, subst, arith}
use Rattle.std.specs.{Option.option_and_then, Option.unwrap_or, Option.IfSome, List.AllByRecursion}
use Rattle.std.proofs.lemmas.{Option.option_and_then_some, Option.cond_some, Bool.leb-true}
use Rattle.der.specs.Node.{Node, primitive, constructed, Nodes, no_nodes, node, contents_of, components_of, first_of}
use Rattle.der.specs.{Node.IsFormed, Node.AreFormed, ObjectIdentifier.IsOid, Tree.nodes, Number.number_content}
use Rattle.tsp.specs.Grammar.{integer, object_identifier, sequence, optional, false_by_default}
use Rattle.tsp.specs.Request.{ExtensionValue, message_imprint, extension, extension_nodes, extensions_under}
use Rattle.tsp.specs.{Tst.IsName, Tst.accuracy_part, Tst.accuracy, Tst.tsa, Parser.extensions_at}
use Rattle.tsp.specs.Parser.{integer_value_of, integer_of, oid_in, only, imprint_of, optional_at, flag_at}
use Rattle.tsp.specs.auxiliary.TstParser.{TstHead, TstParts, natural, natural_of, up_to, number_in, part_at}
use Rattle.tsp.specs.auxiliary.TstParser.{accuracy_of, head_of, explicit_of, name_of, tsa_of, parts_of, info_of}
use Rattle.tsp.proofs.Components.{before, contents_takes, components_takes, front_takes}
use Rattle.tsp.proofs.RequestReads.{before-none, IsAllowed}
use Rattle.tsp.proofs.RequestTakes.{number_takes, integer_takes, oid_takes, imprint_takes, only_takes}
use Rattle.tsp.proofs.RequestTakes.{optional_at_takes, optional_takes, flag_takes, extensions_at_takes, formed_after}
use Rattle.tsp.proofs.TstReads.{accuracy_part-some, accuracy_parts, IsHead, head_before, tail_parts}

natural_takes : (z : ℤ) (n : ℕ) → natural z ≡ Some n → z ≡ pos n
unfolding natural
natural_takes (pos m) n e = ap pos (cond_some (ltb m 9223372036854775808) m n e).1
natural_takes (negsuc m) n e = cc

and_both : (a b : Bool) → (a && b) ≡ true → (a ≡ true) × (b ≡ true)
and_both true b e = (refl, e)
and_both false b e = cc

up_to_takes : (most n m : ℕ) → up_to most n ≡ Some m → (n ≡ m) × (1 ≤ m) × (m ≤ most)
unfolding up_to
up_to_takes most n m e =
    let t = cond_some (leb 1 n && leb n most) n m e in
    let tests = and_both (leb 1 n) (leb n most) t.0 in
    let some = leb-true 1 n tests.0 in
    let small = leb-true n most tests.1 in
    (t.1, omega (arith, t.1, some), omega (arith, t.1, small))

-- a number from 1 on, under a tag
pub number_in_takes : (tag most : ℕ) (n : Node) (m : ℕ) → IsFormed n → number_in tag most n ≡ Some m
    → (n ≡ primitive tag (number_content (pos m))) × (1 ≤ m) × (m ≤ most)
unfolding number_in natural_of
number_in_takes tag most n m formed e =
    option_and_then_some _ (contents_of tag n) m e (λ octets e1 r1.
    option_and_then_some _ (option_and_then natural (integer_value_of octets)) m r1 (λ k e2 r2.
    option_and_then_some natural (integer_value_of octets) k e2 (λ z e3 r3.
    let is = contents_takes tag n octets e1 in
    let parts = subst IsFormed is formed in
    let content = number_takes octets z parts.2 e3 in
    let bound = up_to_takes most k m r2 in
    (is ∙ ap (primitive tag) (content ∙ ap number_content (natural_takes z k r3 ∙ ap pos bound.0)), bound.1, bound.2))))

-- such a number is at most the greatest
pub number_in_bound : (tag most : ℕ) (n : Node) (m : ℕ) → number_in tag most n ≡ Some m → m ≤ most
unfolding number_in
number_in_bound tag most n m e =
    option_and_then_some _ (contents_of tag n) m e (λ octets e1 r1.
    option_and_then_some (up_to most) (natural_of octets) m r1 (λ k e2 r2. (up_to_takes most k m r2).2))

part_found : (tag most : ℕ) (ns : Nodes) (f : Option ℕ × Nodes) → AreFormed ns
    → ((f.0 ≡ None) × (ns ≡ f.1)) ⊎ ((n : Node) × (x : ℕ) × (f.0 ≡ Some x) × (number_in tag most n ≡ Some x)
    × (ns ≡ node n f.1))
    → (unwrap_or f.0 0 ≤ most) × (ns ≡ before (accuracy_part tag (unwrap_or f.0 0)) f.1)
part_found tag most ns f formed (inl none) = rw (none.0) (omega arith, none.1)
part_found tag most ns f formed (inr some) =
    let inside : IsFormed some.0 × AreFormed f.1 = subst AreFormed some.4 formed in
    let read = number_in_takes tag most some.0 some.1 inside.0 some.3 in
    rw (some.2) (
      read.2,
      some.4 ∙ ap (λ n. node n f.1) read.0
          ∙ sym (ap (λ xs. before xs f.1) (accuracy_part-some tag some.1 read.1)),
    )

pub part_takes : (tag most : ℕ) (ns : Nodes) (found : ℕ × Nodes) → AreFormed ns → part_at tag most ns ≡ Some found
    → (found.0 ≤ most) × (ns ≡ before (accuracy_part tag found.0) found.1)
unfolding part_at
part_takes tag most ns found formed e =
    option_and_then_some (λ f. Some (unwrap_or f.0 0, f.1)) (optional_at tag (number_in tag most) ns) found e (λ f p q.
    let same : (unwrap_or f.0 0, f.1) ≡ found = cc in
    let Good : ℕ × Nodes → Type 0 = λ x. (x.0 ≤ most) × (ns ≡ before (accuracy_part tag x.0) x.1) in
    subst Good same (part_found tag most ns f formed (optional_at_takes tag (number_in tag most) ns f p)))

pub accuracy_takes : (n : Node) (v : ℕ) → IsFormed n → accuracy_of n ≡ Some v → (n ≡ accuracy v) × (1 ≤ v)
    × (v ≤ 1000000)
unfolding accuracy_of
accuracy_takes n v formed e =
    option_and_then_some _ (components_of 48 n) v e (λ members e1 r1.
    option_and_then_some _ (part_at 2 1 members) v r1 (λ s e2 r2.
    option_and_then_some _ (part_at 128 999 s.1) v r2 (λ m e3 r3.
    option_and_then_some _ (part_at 129 999 m.1) v r3 (λ u e4 r4.
    option_and_then_some _ (only u.1 (s.0 * 1000000 + (m.0 * 1000 + u.0))) v r4 (λ whole e5 r5.
    let is_n = components_takes 48 n members e1 in
    let formed_s : AreFormed members = (subst IsFormed is_n formed).2 in
    let of_s = part_takes 2 1 members s formed_s e2 in
    let formed_m = formed_after (accuracy_part 2 s.0) s.1 (subst AreFormed of_s.1 formed_s) in
    let of_m = part_takes 128 999 s.1 m formed_m e3 in
    let formed_u = formed_after (accuracy_part 128 m.0) m.1 (subst AreFormed of_m.1 formed_m) in
    let of_u = part_takes 129 999 m.1 u formed_u e4 in
    let end = only_takes u.1 (s.0 * 1000000 + (m.0 * 1000 + u.0)) whole e5 in
    let bound = up_to_takes 1000000 whole v r5 in
    let sum : s.0 * 1000000 + (m.0 * 1000 + u.0) ≡ v = end.1 ∙ bound.0 in
    let seconds : v / 1000000 ≡ s.0 = omega (arith, sum, of_s.0, of_m.0, of_u.0) in
    let millis : v / 1000 % 1000 ≡ m.0 = omega (arith, sum, of_s.0, of_m.0, of_u.0) in
    let micros : v % 1000 ≡ u.0 = omega (arith, sum, of_s.0, of_m.0, of_u.0) in
    let parts : n ≡ constructed 48 (before (accuracy_part 2 s.0)
    (before (accuracy_part 128 m.0) (before (accuracy_part 129 u.0) no_nodes))) =
    is_n ∙ ap (constructed 48) (of_s.1 ∙ ap (before (accuracy_part 2 s.0))
    (of_m.1 ∙ ap (before (accuracy_part 128 m.0)) (of_u.1 ∙ ap (before (accuracy_part 129 u.0)) end.0))) in (
      parts ∙ ap (constructed 48) (sym (accuracy_parts s.0 m.0 u.0))
          ∙ ap (λ x. sequence (accuracy_part 2 x ++ (accuracy_part 128 m.0 ++ accuracy_part 129 u.0))) (sym seconds)
          ∙ ap (λ x. sequence (accuracy_part 2 (v / 1000000) ++ (accuracy_part 128 x ++ accuracy_part 129 u.0)))
          (sym millis)
          ∙ ap (λ x. sequence (accuracy_part 2 (v / 1000000)
          ++ (accuracy_part 128 (v / 1000 % 1000) ++ accuracy_part 129 x))) (sym micros),
      bound.1,
      bound.2,
    ))))))

first_formed : (ns : Nodes) (found : Node × Nodes) → ns ≡ node found.0 found.1 → AreFormed ns → IsFormed found.0
    × AreFormed found.1
first_formed ns found is formed = subst AreFormed is formed

pub head_takes : (ns : Nodes) (found : TstHead × Nodes) → AreFormed ns → head_of ns ≡ Some found → IsHead found.0
    × (ns ≡ head_before found.0 found.1)
unfolding head_of
head_takes ns found formed e =
    option_and_then_some _ (first_of ns) found e (λ first e1 r1.
    option_and_then_some _ (number_in 2 1 first.0) found r1 (λ version e2 r2.
    option_and_then_some _ (first_of first.1) found r2 (λ second e3 r3.
    option_and_then_some _ (oid_in second.0) found r3 (λ policy e4 r4.
    option_and_then_some _ (first_of second.1) found r4 (λ third e5 r5.
    option_and_then_some _ (imprint_of third.0) found r5 (λ imprint e6 r6.
    option_and_then_some _ (first_of third.1) found r6 (λ fourth e7 r7.
    option_and_then_some _ (number_in 2 9223372036854775807 fourth.0) found r7 (λ serial e8 r8.
    option_and_then_some _ (first_of fourth.1) found r8 (λ fifth e9 r9.
    option_and_then_some _ (contents_of 24 fifth.0) found r9 (λ time e10 r10.
    option_and_then_some _ (first_of fifth.1) found r10 (λ sixth e11 r11.
    option_and_then_some _ (accuracy_of sixth.0) found r11 (λ accurate e12 r12.
    let i1 = front_takes ns first e1 in
    let i3 = front_takes first.1 second e3 in
    let i5 = front_takes second.1 third e5 in
    let i7 = front_takes third.1 fourth e7 in
    let i9 = front_takes fourth.1 fifth e9 in
    let i11 = front_takes fifth.1 sixth e11 in
    let f1 = first_formed ns first i1 formed in
    let f3 = first_formed first.1 second i3 f1.1 in
    let f5 = first_formed second.1 third i5 f3.1 in
    let f7 = first_formed third.1 fourth i7 f5.1 in
    let f9 = first_formed fourth.1 fifth i9 f7.1 in
    let f11 = first_formed fifth.1 sixth i11 f9.1 in
    let v = number_in_takes 2 1 first.0 version f1.0 e2 in
    let one : version ≡ 1 = omega (arith, v.1, v.2) in
    let p = oid_takes second.0 policy e4 in
    let i = imprint_takes third.0 imprint e6 in
    let n = number_in_takes 2 9223372036854775807 fourth.0 serial f7.0 e8 in
    let t = contents_takes 24 fifth.0 time e10 in
    let a = accuracy_takes sixth.0 accurate f11.0 e12 in
    let h : TstHead = record {
      policy = policy;
      imprint = imprint;
      serial = serial;
      time = time;
      accuracy =
          accurate;
    } in
    let is : IsHead h = record {
      policy = p.0;
      algorithm = i.0;
      some_serial = n.1;
      last_serial = n.2;
      some_accuracy =
          a.1;
      most_accuracy = a.2;
    } in
    let whole : ns ≡ head_before h sixth.1 =
    i1 ∙ ap (λ x. node x first.1) (v.0 ∙ ap (λ x. integer (pos x)) one)
    ∙ ap (node (integer (pos 1))) (i3 ∙ ap (λ x. node x second.1) p.1
    ∙ ap (node (object_identifier policy)) (i5 ∙ ap (λ x. node x third.1) i.1
    ∙ ap (node (message_imprint imprint)) (i7 ∙ ap (λ x. node x fourth.1) n.0
    ∙ ap (node (integer (pos serial))) (i9 ∙ ap (λ x. node x fifth.1) t
    ∙ ap (node (primitive 24 time)) (i11 ∙ ap (λ x. node x sixth.1) a.0))))) in
    let same : (h, sixth.1) ≡ found = cc in
    let Good : TstHead × Nodes → Type 0 = λ x. IsHead x.0 × (ns ≡ head_before x.0 x.1) in
    subst Good same (is, whole)))))))))))))

-- where no FALSE may be stated, none is
none_stated : (stated : Bool) → IsAllowed false stated → stated ≡ false
none_stated true allowed = sym (allowed refl)
none_stated false allowed = refl

strict_nodes : (stated : List Bool) (es : List ExtensionValue) → AllByRecursion (IsAllowed false) stated
    → extension_nodes stated es ≡ extension_nodes [] es
strict_nodes stated [] allowed = refl
strict_nodes [] (e ∷ es) allowed = refl
strict_nodes (s ∷ ss) (e ∷ es) allowed = ap (λ b. extension b e ∷ extension_nodes ss es) (none_stated s allowed.0)
    ∙ ap (λ xs. extension false e ∷ xs) (strict_nodes ss es allowed.1)

strict_extensions : (tag : ℕ) (stated : List Bool) (es : List ExtensionValue) → AllByRecursion (IsAllowed false) stated
    → extensions_under tag stated es ≡ extensions_under tag [] es
strict_extensions tag stated [] allowed = refl
strict_extensions tag stated (e ∷ es) allowed =
    ap (λ xs. constructed tag (nodes xs) ∷ []) (strict_nodes stated (e ∷ es) allowed)

explicit_takes : (tag : ℕ) (n m : Node) → explicit_of tag n ≡ Some m → n ≡ constructed tag (node m no_nodes)
unfolding explicit_of
explicit_takes tag n m e =
    option_and_then_some _ (components_of tag n) m e (λ members e1 r1.
    option_and_then_some _ (first_of members) m r1 (λ first e2 r2.
    let end = only_takes first.1 first.0 m r2 in
    components_takes tag n members e1 ∙ ap (constructed tag) (front_takes members first e2
    ∙ ap (node first.0) end.0 ∙ ap (λ x. node x no_nodes) end.1)))

name_takes : (n m : Node) → name_of n ≡ Some m → (n ≡ m) × IsName m
unfolding name_of
name_takes n m e =
    option_and_then_some _ (components_of 48 n) m e (λ components e1 r1.
    let same : n ≡ m = cc in
    (same, subst IsName same (record { components = components; sequence = components_takes 48 n components e1 })))

-- what is read as a name under tsa is such a name, under its tags
pub tsa_takes : (n m : Node) → tsa_of n ≡ Some m → IsName m × (n ≡ tsa m)
unfolding tsa_of
tsa_takes n m e =
    option_and_then_some _ (explicit_of 160 n) m e (λ general_name e1 r1.
    option_and_then_some _ (explicit_of 164 general_name) m r1 (λ name e2 r2.
    let is = name_takes name m r2 in (
      is.1,
      explicit_takes 160 n general_name e1 ∙ ap (λ x. constructed 160 (node x no_nodes))
          (explicit_takes 164 general_name name e2 ∙ ap (λ x. constructed 164 (node x no_nodes)) is.0),
    )))

pub parts_takes : (n : Node) (p : TstParts) → IsFormed n → parts_of n ≡ Some p → IsHead p.head
    × (IfSome p.tsa IsName × (AllByRecursion (λ x. IsOid x.identifier) p.extensions × (n ≡ info_of p)))
unfolding parts_of
parts_takes n p formed e =
    option_and_then_some _ (components_of 48 n) p e (λ members e1 r1.
    option_and_then_some _ (head_of members) p r1 (λ head e2 r2.
    option_and_then_some _ (flag_at false head.1) p r2 (λ ordering e3 r3.
    option_and_then_some _ (optional_at 2 integer_of ordering.1) p r3 (λ nonce e4 r4.
    option_and_then_some _ (optional_at 160 tsa_of nonce.1) p r4 (λ name e5 r5.
    option_and_then_some _ (extensions_at false 161 name.1) p r5 (λ extensions e6 r6.
    let is_n = components_takes 48 n members e1 in
    let formed_members : AreFormed members = (subst IsFormed is_n formed).2 in
    let of_head = head_takes members head formed_members e2 in
    let formed_head : AreFormed (head_before head.0 head.1) = subst AreFormed of_head.1 formed_members in
    let formed_rest : AreFormed head.1 = formed_head.1.1.1.1.1.1 in
    let of_flag = flag_takes false head.1 ordering e3 in
    let formed_flag = formed_after (false_by_default of_flag.0 ordering.0) ordering.1
    (subst AreFormed of_flag.1.1 formed_rest) in
    let of_nonce = optional_takes 2 integer_of integer (λ x. Unit {0}) ordering.1 nonce e4
    (λ m x q r. (tt, integer_takes m x (subst AreFormed q formed_flag).0 r)) in
    let of_name = optional_takes 160 tsa_of tsa IsName nonce.1 name e5 (λ m x q r. tsa_takes m x r) in
    let of_extensions = extensions_at_takes false 161 name.1 extensions e6 in
    let end = only_takes extensions.1 _ p r6 in
    let found : TstParts = record {
      head = head.0;
      ordering = ordering.0;
      nonce = nonce.0;
      tsa = name.0;
      extensions =
          extensions.0;
    } in
    let whole : n ≡ info_of found =
    is_n ∙ ap (constructed 48) (of_head.1
    ∙ ap (head_before head.0) (of_flag.1.1
    ∙ ap (λ s. before (false_by_default s ordering.0) ordering.1) (none_stated of_flag.0 of_flag.1.0)
    ∙ ap (before (false_by_default false ordering.0))
    (of_nonce.1 ∙ ap (before (optional integer nonce.0)) (of_name.1 ∙ ap (before (optional tsa name.0))
    (of_extensions.1.1.1
    ∙ ap (λ xs. before xs extensions.1) (strict_extensions 161 of_extensions.1.0 extensions.0 of_extensions.1.1.0)
    ∙ ap (before (extensions_under 161 [] extensions.0)) end.0 ∙ before-none (extensions_under 161 [] extensions.0))))
    ∙ sym (tail_parts found))) in (
      subst (λ (x : TstParts). IsHead x.head) end.1 of_head.0,
      (
        subst (λ (x : TstParts). IfSome x.tsa IsName) end.1 of_name.0,
        (
          subst (λ (x : TstParts). AllByRecursion (λ y. IsOid y.identifier) x.extensions) end.1 of_extensions.0,
          whole
              ∙ ap info_of end.1,
        ),
      ),
    )))))))
