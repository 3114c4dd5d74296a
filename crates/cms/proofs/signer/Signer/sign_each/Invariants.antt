use Rattle.std.proofs.Common.{◌≡◌, ◌≤◌, map, take, drop, length, vec_len}
use Rattle.std.specs.{Prelude.vec_capacity, List.AllByRecursion}
use Rattle.cms.specs.Signer.{signed_by, count_after_each, IsSized}
use Rattle.cms.proofs.signer.Signer.sign_each.Given as goal

abbrev pub invariant-loop-text : goal.invariant-loop-text
invariant-loop-text g l = record {
  counted : vec_len l.answers ≡ l.text-index;
  room : length l.texts ≤ vec_capacity l.answers;
  awaits : g.Self.Signer.awaits l.fn.self (map (λ text. text.now) (take l.text-index l.texts))
      (map signed_by l.answers.items) (map (λ text. text.now) (drop l.text-index l.texts)) l.self;
  sized : AllByRecursion IsSized l.answers.items;
  faults : g.Self.Signer.fault_count l.self ≡ count_after_each l.answers.items (g.Self.Signer.fault_count l.fn.self);
  algorithm : g.Self.Signer.algorithm_octets l.self ≡ g.Self.Signer.algorithm_octets l.fn.self;
}
