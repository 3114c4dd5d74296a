use Rattle.std.{proofs.Common.◌≡◌, proofs.Common.map, proofs.Common.string_bytes, specs.List.list_all}
use Rattle.toml.specs.View.{table_view}
use Rattle.policy.specs.Kinds.{is_among, has_only}
use Rattle.policy.proofs.parser.only.Given as goal

-- the keys left are known where all are
abbrev pub invariant-loop-key : goal.invariant-loop-key
invariant-loop-key l = let known = map (λ k. k.now) l.known in
    list_all (is_among known) (map string_bytes l.key-iterator) ≡ has_only known (table_view l.table)
