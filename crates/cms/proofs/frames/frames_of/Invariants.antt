use Rattle.std.{proofs.Common.◌≡◌, proofs.Common.◌++◌, proofs.Common.map, proofs.Common.drop, specs.List.AllByRecursion}
use Rattle.cms.specs.Framed.{frames, IsShort}
use Rattle.cms.proofs.frames.frames_of.Given as goal

abbrev pub invariant-loop-text : goal.invariant-loop-text
invariant-loop-text l = record {
  octets : l.octets.items ++ frames (map (λ text. text.now) (drop l.text-index l.texts))
      ≡ frames (map (λ text. text.now) l.texts);
  short : AllByRecursion IsShort (map (λ text. text.now) (drop l.text-index l.texts))
      → AllByRecursion IsShort (map (λ text. text.now) l.texts);
}
