use Rattle.std.proofs.Common.{◌≡◌, ℕ, length, take, arith, sym, ap, ◌∙◌, eq-eqb}
use Rattle.std.proofs.{lemmas.List.take_all, lemmas.List.Sums.position_or_len_is}
use Rattle.std.specs.{List.position_or_len, Prelude.◌==◌}
use Rattle.service.proofs.fields.before.Goals as goal

pub returns-then-octet-end : goal.returns-then-octet-end
returns-then-octet-end c =
    let octets = c.args.octets.now in
    let place : position_or_len (λ (octet : ℕ). octet == c.args.end) octets ≡ c.loop-index.index =
    position_or_len_is (λ (octet : ℕ). octet == c.args.end) octets c.loop-index.index 0 (omega arith)
    c.loop-index.invariant
    (λ within. eq-eqb _ _ c.if-octet-end.true) in
    c.split_at.ensures.front ∙ ap (λ n. take n octets) (sym place)

pub returns : goal.returns
returns c =
    let octets = c.args.octets.now in
    let place : position_or_len (λ (octet : ℕ). octet == c.args.end) octets ≡ length octets =
    position_or_len_is (λ (octet : ℕ). octet == c.args.end) octets (length octets) 0 (omega arith)
    (λ k within. c.loop-index.invariant k (omega (arith, within))) (λ within. absurd (omega (arith, within))) in
    sym (take_all (length octets) octets (omega arith)) ∙ ap (λ n. take n octets) (sym place)
