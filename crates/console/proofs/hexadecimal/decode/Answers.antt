use Rattle.std.proofs.lemmas.Result.{err_from_is_err_and}
use Rattle.console.proofs.Digits.{digits_from_decode, memory_alone, same_octets}
use Rattle.console.proofs.hexadecimal.decode.Goals as goal

pub returns-in_err-decode-clause-only : goal.returns-in_err-decode-clause-only
returns-in_err-decode-clause-only c =
    let digits = c.digits_of.result.items in
    let p = err_from_is_err_and c.from_residual.result c.from_residual.ensures.1 in
    λ octets h. rw (p.1, p.2) (
      tt,
      memory_alone c.in_err-decode.field-0.0 digits octets c.in_err-decode.ensures.err
          (rw c.digits_of.ensures h),
    )

pub returns-clause-found : goal.returns-clause-found
returns-clause-found c =
    rw (← c.digits_of.ensures) (digits_from_decode c.digits_of.result.items c.in_ok-decode.field-0.items
    c.in_ok-decode.ensures.ok)

pub returns-clause-only : goal.returns-clause-only
returns-clause-only c =
    λ octets h. (
      same_octets c.digits_of.result.items c.in_ok-decode.field-0.items octets c.in_ok-decode.ensures.ok
          (rw c.digits_of.ensures h),
      tt,
    )
