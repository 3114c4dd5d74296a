use Rattle.std.proofs.Common.{◌+◌, [], ◌∷◌, ◌++◌, length, ap, ◌∙◌, arith, append_assoc}
use Rattle.der.specs.Node.{length_octets}
use Rattle.tsp.proofs.GrantedText.{granted_text}
use Rattle.tsp.proofs.granted.write_granted.Goals as goal

pub returns-clause-text : goal.returns-clause-text
returns-clause-text c =
    let count = 5 + length c.args.token.now in
    let front = c.in_ok-push.ensures.items ∙ ap (λ xs. xs ++ 48 ∷ []) c.new-reply.ensures.items in
    let head = c.in_ok-append_length.ensures ∙ ap (λ xs. xs ++ length_octets count) front in
    let body = c.in_ok-extend_from_slice.ensures.items ∙ ap (λ xs. xs ++ 48 ∷ 3 ∷ 2 ∷ 1 ∷ 0 ∷ []) head in
    c.in_ok-extend_from_slice-2.ensures.items ∙ ap (λ xs. xs ++ c.args.token.now) body
    ∙ append_assoc (48 ∷ length_octets count) (48 ∷ 3 ∷ 2 ∷ 1 ∷ 0 ∷ []) c.args.token.now
    ∙ granted_text c.args.token.now count (omega arith)
