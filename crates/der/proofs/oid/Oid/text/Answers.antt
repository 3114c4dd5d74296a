use Rattle.std.proofs.Common.{◌≡◌, ◌+◌, ◌*◌, ◌<◌, length, refl, sym, subst, ap, string_bytes, arith}
use Rattle.std.{specs.String.string_len, proofs.lemmas.Bool.eqb-true, proofs.lemmas.Bool.eqb-false}
use Rattle.der.specs.ObjectIdentifier.{ReadsAsOid}
use Rattle.der.proofs.OidTextLoops.{written_none, written_first, written_other, written_as, written_more}
use Rattle.der.proofs.oid.Oid.text.Goals.{then-is_empty+in_ok-push_first_arcs, else-is_empty+in_ok-push_dotted}
use Rattle.der.proofs.oid.Oid.text.Goals as goal

pub loop-octet-init : goal.loop-octet-init
loop-octet-init c =
    written_none _ _ (subst ReadsAsOid (sym c.deref-octet-items.ensures.value) c.self.invariant)
    c.new-text.ensures.bytes

pub loop-octet-preserved : goal.loop-octet-preserved
loop-octet-preserved c =
    let octet = c.from-in-loop-octet.result in
    let low : octet < 128 = omega (arith, c.from-in-loop-octet.ensures, c.if-octet-ge128.false) in
    elim c.if-is_empty.branch [
      | then-is_empty+in_ok-push_first_arcs w ↦
          let none : length (string_bytes c.loop-octet.text) ≡ 0 =
          omega (
            arith,
            c.loop-octet.text.bytes.ok.0,
            eqb-true (string_len c.loop-octet.text) 0 (sym w.if-is_empty.ensures),
          ) in
          written_as _ _ _ _ _ _ (ap string_bytes w.text-is) w.subidentifier-is
          (written_first _ _ _ _ _ octet c.loop-octet-test.true c.from-in-loop-octet.ensures c.loop-octet.invariant low
          none w.in_ok-push_first_arcs.ensures)
      | else-is_empty+in_ok-push_dotted w ↦
          let some : 0 < length (string_bytes c.loop-octet.text) =
          omega (
            arith,
            c.loop-octet.text.bytes.ok.0,
            eqb-false (string_len c.loop-octet.text) 0 (sym w.if-is_empty.ensures),
          ) in
          written_as _ _ _ _ _ _ (ap string_bytes w.text-is) w.subidentifier-is
          (written_other _ _ _ _ _ octet c.loop-octet-test.true c.from-in-loop-octet.ensures c.loop-octet.invariant low
          some w.in_ok-push_dotted.ensures)
    ]

pub loop-octet-preserved-then-octet-ge128 : goal.loop-octet-preserved-then-octet-ge128
loop-octet-preserved-then-octet-ge128 c =
    written_as _ _ _ _ _ _ refl (ap (λ bits. c.loop-octet.subidentifier * 128 + bits) c.from.ensures)
    (written_more _ _ _ _ _ c.loop-octet-test.true refl c.loop-octet.invariant c.if-octet-ge128.true)
