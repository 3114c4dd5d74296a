-- What is read from a lawful value is the TSTInfo whose octets they are.
use Rattle.std.proofs.Common.{◌≡◌, ℕ, ◌≤◌, [], ◌++◌, List, Option, Some, None, refl, sym, ap, ◌∙◌, subst, arith}
use Rattle.std.specs.{Option.IfSome, Option.MatchOption, List.AllByRecursion}
use Rattle.std.proofs.lemmas.Option.{same_Some, none-some}
use Rattle.der.{specs.Node.Node, specs.Node.IsFormed, specs.ObjectIdentifier.IsOid, proofs.ReadingNodes.encoding_ends}
use Rattle.gentime.{specs.GenTime.last_moment, specs.GenTime.text_of, proofs.Moments.same_text}
use Rattle.tsp.specs.{Tst.TstValue, Tst.IsName, Tst.IsTst, Tst.SpellsTst, Tst.tst_info, declared.tst.TstInfo.TstInfo}
use Rattle.tsp.specs.{declared.tst_parser.Parts.Parts, auxiliary.TstView.parts_view, View.tst_view}
use Rattle.tsp.specs.auxiliary.TstParser.{TstParts, parts_of, parts_in, info_of}
use Rattle.tsp.proofs.{TstReads.IsHead, TstReads.parts_of-info_of, TstTakes.parts_takes}

pub written_from_read : (n : Node) (p : TstParts) (t : TstValue) → IsFormed n → parts_of n ≡ Some p → parts_in t ≡ p
    → t.gen_time ≤ last_moment → IsTst t × (n ≡ tst_info t)
written_from_read n p t formed e same bound =
    let found = parts_takes n p formed e in
    let head : IsHead (parts_in t).head = subst (λ (x : TstParts). IsHead x.head) (sym same) found.0 in
    let named : IfSome t.tsa IsName = subst (λ (x : TstParts). IfSome x.tsa IsName) (sym same) found.1.0 in
    let oids : AllByRecursion (λ x. IsOid x.identifier) t.extensions =
    subst (λ (x : TstParts). AllByRecursion (λ y. IsOid y.identifier) x.extensions) (sym same) found.1.1.0 in
    let ranges : IsTst t = record {
      policy = head.policy;
      algorithm = head.algorithm;
      some_serial = head.some_serial;
      last_serial = omega (arith, head.last_serial);
      gen_time = bound;
      some_accuracy = head.some_accuracy;
      most_accuracy = head.most_accuracy;
      tsa = named;
      extensions = oids;
    } in
    (ranges, found.1.1.1 ∙ ap info_of (sym same))

pub read_from_written : (n : Node) (t : TstValue) → IsTst t → n ≡ tst_info t → parts_of n ≡ Some (parts_in t)
read_from_written n t h is =
    let head : IsHead (parts_in t).head = record {
      policy = h.policy;
      algorithm = h.algorithm;
      some_serial = h.some_serial;
      last_serial = omega (arith, h.last_serial);
      some_accuracy = h.some_accuracy;
      most_accuracy = h.most_accuracy;
    } in
    ap parts_of is ∙ parts_of-info_of (parts_in t) head h.tsa h.extensions

rebuilt : TstParts → ℕ → TstValue
rebuilt p moment = record {
  policy = p.head.policy;
  imprint = p.head.imprint;
  serial = p.head.serial;
  gen_time = moment;
  accuracy = p.head.accuracy;
  ordering = p.ordering;
  nonce = p.nonce;
  tsa = p.tsa;
  extensions = p.extensions;
}

parts_from_read : (n : Node) (t : TstValue) (parts : Parts) → Some (parts_view parts) ≡ parts_of n
    → parts_of n ≡ Some (parts_in t) → parts_view parts ≡ parts_in t
parts_from_read n t parts e is = same_Some (parts_view parts) (parts_in t) (e ∙ is)

same_tst : (s t : TstValue) → parts_in s ≡ parts_in t → s.gen_time ≡ t.gen_time → s ≡ t
unfolding rebuilt
same_tst s t p g = ap (λ x. rebuilt x s.gen_time) p ∙ ap (rebuilt (parts_in t)) g

-- what reading the time answers is the TSTInfo
pub only_from_time : (n : Node) (parts : Parts) (t : TstValue) (result : Option TstInfo)
    → Some (parts_view parts) ≡ parts_of n → IsTst t → n ≡ tst_info t
    → IfSome result (λ tst. (parts_in (tst_view tst) ≡ parts_view parts) × (tst.gen_time ≤ last_moment))
    → ((moment : ℕ) → moment ≤ last_moment → parts.head.time.now ≡ text_of 6 moment
    → MatchOption result ⊥ (λ tst. tst.gen_time ≡ moment))
    → MatchOption result ⊥ (λ tst. tst_view tst ≡ t)
only_from_time n parts t (Some tst) e ranges is found only =
    let same = parts_from_read n t parts e (read_from_written n t ranges is) in
    same_tst (tst_view tst) t (found.0 ∙ same) (only t.gen_time ranges.gen_time (ap (λ p. p.head.time) same))
only_from_time n parts t None e ranges is found only =
    let same = parts_from_read n t parts e (read_from_written n t ranges is) in
    only t.gen_time ranges.gen_time (ap (λ p. p.head.time) same)

pub found_from_time : (n : Node) (parts : Parts) (result : Option TstInfo) → Some (parts_view parts) ≡ parts_of n
    → IfSome result (λ tst. (parts_in (tst_view tst) ≡ parts_view parts) × (tst.gen_time ≤ last_moment))
    → IfSome result (λ tst. IsFormed n → IsTst (tst_view tst) × (n ≡ tst_info (tst_view tst)))
found_from_time n parts (Some tst) e found =
    λ formed. written_from_read n (parts_view parts) (tst_view tst) formed (sym e) found.0 found.1
found_from_time n parts None e found = tt

-- a value that is not read is no TSTInfo
pub none_from_read : (n : Node) (t : TstValue) → IsTst t → n ≡ tst_info t → None ≡ parts_of n → ⊥
none_from_read n t ranges is none = none-some (parts_in t) (none ∙ read_from_written n t ranges is)

-- no other TSTInfo has a TSTInfo's octets
pub same_written : (octets : List ℕ) (s t : TstValue) → SpellsTst octets s → SpellsTst octets t → s ≡ t
same_written octets s t h g =
    let same = (encoding_ends (tst_info s) (tst_info t) [] [] h.lawful.formed g.lawful.formed
    (ap (λ w. w ++ []) (sym h.spelled ∙ g.spelled))).0 in
    let parts = same_Some (parts_in s) (parts_in t)
    (sym (read_from_written (tst_info s) s h.ranges refl) ∙ ap parts_of same
    ∙ read_from_written (tst_info t) t g.ranges refl) in
    same_tst s t parts (same_text s.gen_time t.gen_time h.ranges.gen_time g.ranges.gen_time
    (ap (λ p. p.head.time) parts))
