use Rattle.std.proofs.Common.{[], ◌∷◌, option_map, ap, sym, ◌∙◌}
use Rattle.std.specs.Str.{bytes_eq}
use Rattle.der.specs.ObjectIdentifier.{oid_content}
use Rattle.policy.{specs.HashAlgorithms.value_of, specs.HashAlgorithms.hash_algorithms, proofs.Searches.first_value}
use Rattle.policy.specs.declared.hash_algorithm.HashAlgorithm.TheVariants.{Sha1, Sha224, Sha256, Sha384, Sha512}
use Rattle.policy.proofs.hash_algorithm.HashAlgorithm.of_identifier.Goals as goal

-- what the search answered is what the table has
pub returns-clause-look_up : goal.returns-clause-look_up
unfolding hash_algorithms
returns-clause-look_up c =
    let all = Sha1 ∷ Sha224 ∷ Sha256 ∷ Sha384 ∷ Sha512 ∷ [] in
    ap (option_map value_of) (c.copied.ensures ∙ c.find_by_identifier.ensures)
    ∙ sym (first_value value_of (λ a. bytes_eq (oid_content a.oid) c.args.content.now) all)
