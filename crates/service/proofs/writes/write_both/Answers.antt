use Rattle.std.proofs.Common.{◌≡◌, ◌∙◌, ℕ, ◌+◌, ◌≤◌, List, ◌++◌, length, take, ap, arith, subst, sym}
use Rattle.std.proofs.{KnownBytes.Appends-trans, lemmas.List.take_all}
use Rattle.std.specs.Io.KnownBytes.{Appends}
use Rattle.service.proofs.Joined.{front_of_joined}
use Rattle.service.proofs.writes.write_both.Goals as goal

pub returns-clause-written : goal.returns-clause-written
returns-clause-written g c =
    let text = c.args.text.now in
    let octets = c.args.octets.now in
    let sent = c.write_octets-sent.result in
    let n = c.write_octets-2.result in
    let P : List ℕ → Type 0 =
    λ l. Appends (g.W.Write.contents c.args.writer.now) (g.W.Write.contents c.write_octets-2.new.out) l in
    let whole : length text ≤ sent = omega (arith, c.if-sent-text.false) in
    let same : sent ≡ length text = omega (arith, whole, c.write_octets-sent.ensures.within) in
    let front : take (sent + n) (text ++ octets) ≡ text ++ take n octets =
    ap (λ k. take (k + n) (text ++ octets)) same ∙ front_of_joined text octets n in
    let first = subst (Appends (g.W.Write.contents c.args.writer.now) _) (take_all sent text whole)
    c.write_octets-sent.ensures.written in
    subst P (sym front) (Appends-trans _ _ _ text (take n octets) first c.write_octets-2.ensures.written)
