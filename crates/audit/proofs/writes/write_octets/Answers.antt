use Rattle.std.proofs.Common.{ℕ, ◌≤◌, List, length, drop, arith, sym, subst, ◌∙◌}
use Rattle.std.proofs.{KnownBytes.Appends-trans, lemmas.List.length-drop}
use Rattle.std.specs.Io.KnownBytes.{Appends}
use lib.Seq.{take-add}
use Rattle.audit.proofs.writes.write_octets.Goals as goal

-- what a write took goes behind what was taken before
pub loop-taken-preserved : goal.loop-taken-preserved
loop-taken-preserved g c =
    let octets = c.args.octets.now in
    let taken = c.loop-taken.taken in
    let count = c.write_some-count.result in
    let P : List ℕ → Type 0 =
    λ l. Appends (g.W.Write.contents c.args.out.now) (g.W.Write.contents c.write_some-count.new.self) l in
    let within : count ≤ length (drop taken octets) = rw c.split_at.ensures.back at c.write_some-count.ensures.within in
    let written = rw c.split_at.ensures.back at c.write_some-count.ensures.written in (
      omega (arith, c.loop-taken.invariant.0, within, length-drop taken octets),
      subst P (sym (take-add taken count octets)) (Appends-trans _ _ _ _ _ c.loop-taken.invariant.1 written),
      c.write_some-count.ensures.kept (omega (arith, c.if-count-eq0.false)) ∙ c.loop-taken.invariant.2,
    )
