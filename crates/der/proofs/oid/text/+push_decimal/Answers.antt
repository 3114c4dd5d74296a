use Rattle.std.proofs.{Common.[], Common.ap, Common.◌∙◌, Common.string_bytes, Common.sym, lemmas.List.append-nil}
use Rattle.der.proofs.{OidNumbers.decimal-step, OidNumbers.decimal-last, OidTexts.decimal_pushed}
use Rattle.der.proofs.oid.text.+push_decimal.Goals.{then-number-ge10+in_ok-push_decimal, else-number-ge10}
use Rattle.der.proofs.oid.text.+push_decimal.Goals as goal

pub returns : goal.returns
returns t c =
    elim c.if-number-ge10.branch [
      | then-number-ge10+in_ok-push_decimal w ↦
          decimal_pushed c.push.result (string_bytes c.args.text.now) _ _ _ _ c.args.number _ c.from.ensures
          c.push.ensures.ascii c.push.ensures.bytes (ap string_bytes w.text-is ∙ w.in_ok-push_decimal.ensures)
          (decimal-step c.args.number w.if-number-ge10.true)
      | else-number-ge10 w ↦
          decimal_pushed c.push.result (string_bytes c.args.text.now) _ _ [] _ c.args.number _ c.from.ensures
          c.push.ensures.ascii c.push.ensures.bytes (ap string_bytes w.text-is ∙ sym (append-nil _))
          (decimal-last c.args.number w.if-number-ge10.false)
    ]
