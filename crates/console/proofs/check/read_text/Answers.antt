use Rattle.std.proofs.Common.{◌≡◌, ◌∙◌, ℕ, ◌<◌, List, length, take, Option, None, Some, IfSome, ap, arith, inr, refl}
use Rattle.std.proofs.Common.{subst, sym}
use Rattle.std.proofs.{lemmas.Bool.false≢true, lemmas.List.length-take, lemmas.List.take_all, lemmas.Option.IfSome_then}
use Rattle.std.specs.Prelude.{IsUtf8}
use Rattle.console.proofs.check.read_text.Goals as goal

-- fewer octets than were asked for are all
whole : (n : ℕ) (told : Option (List ℕ)) (octets : List ℕ) → length octets < n
    → IfSome told (λ all. octets ≡ take n all) → IfSome told (λ all. octets ≡ all)
whole n None octets few is = tt
whole n (Some all) octets few is = is ∙ take_all n all (omega (arith, few, ap length is, length-take n all))

pub returns-in-Ok-clause-reads : goal.returns-in-Ok-clause-reads
returns-in-Ok-clause-reads g c =
    let read = c.in_ok-octets.ensures in (
      read.0,
      (
        read.1.0,
        IfSome_then (g.F.File.Read.remaining read.0)
            (whole 0xffffffffffffffff (g.F.File.Read.remaining read.0) c.in_ok-octets.octets.items
            (omega (arith, c.in_ok-octets.octets.ok.0, c.in_ok-octets.octets.ok.1, c.in_ok-octets.octets.small)) read.1.1)
            (λ all is. ap (λ v. v.items) c.in-Ok.ensures.ok ∙ is),
      ),
    )

pub returns-clause-reads : goal.returns-clause-reads
returns-clause-reads g c =
    let read = c.in_ok-octets.ensures in
    inr (
      refl,
      (
        read.0,
        (
          read.1.0,
          IfSome_then (g.F.File.Read.remaining read.0)
              (whole 0xffffffffffffffff (g.F.File.Read.remaining read.0) c.in_ok-octets.octets.items
              (omega (arith, c.in_ok-octets.octets.ok.0, c.in_ok-octets.octets.ok.1, c.in_ok-octets.octets.small)) read.1.1)
              (λ all is text. false≢true (c.in-Err.ensures.succeeds (subst IsUtf8 (sym is) text))),
        ),
      ),
    )
