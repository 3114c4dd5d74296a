use Rattle.std.proofs.Common.{◌≡◌, ◌∙◌, List, [], ℕ, ap, arith, inl, inr, length, refl, rules, subst, sym, take, true}
use Rattle.std.proofs.{Common.false, Common.SFits, Common.w64, Common.to_z-of_z, KnownBytes.Consumes-nil}
use Rattle.std.proofs.{KnownBytes.Consumes-trans, lemmas.List.append-nil, lemmas.List.take_all}
use Rattle.std.specs.Io.KnownBytes.{Consumes}
use Rattle.service.specs.{Received.is_open, Requests.nothing}
use Rattle.service.proofs.{RequestLemmas.open_parts, ServingLemmas.failing, ServingLemmas.wanting_early}
use Rattle.service.proofs.exchange.serve_over.Goals as goal

pub returns-in_default-clause-served : goal.returns-in_default-clause-served
returns-in_default-clause-served g c =
    let fits : SFits w64 c.args.surroundings.reading = search rules in (
      [],
      wanting_early _ _ _ _ _ _ c.out_of_memory.result (nothing (Consumes-nil _)) (record {
        desk = refl;
        signer = refl;
      })
          (rw (to_z-of_z fits) at c.out_of_memory.ensures.sent),
    )

pub returns-in-Err-clause-served : goal.returns-in-Err-clause-served
returns-in-Err-clause-served g c =
    let octets = c.reading.request.octets in
    let C : List ℕ → Type 0 = λ l. Consumes (g.R.Read.remaining c.args.reader.now) (g.R.Read.remaining
    c.read.new.reader) l in (
      [],
      failing _ _ _ _ _ _
          (record {
            octets = octets;
            is = c.in-Err.ensures.partial;
            consumed = subst C (append-nil octets)
                (Consumes-trans _ _ _ octets [] c.reading.invariant.consumed c.in-Err.ensures.failed);
          })
          (record { writer = refl; idle = record { desk = refl; signer = refl } }),
    )

pub reading-preserved : goal.reading-preserved
reading-preserved g c =
    let before = c.reading.invariant in
    let read = c.in-Ok-read.ensures.receives in
    let opened : is_open c.reading.request ≡ true = sym c.is_open.ensures ∙ c.reading-test.true in
    let P : List ℕ → Type 0 =
    λ l. Consumes (g.R.Read.remaining c.args.reader.now) (g.R.Read.remaining c.read.new.reader) l in
    record {
      consumed = subst P (sym read.octets) (Consumes-trans _ _ _ _ _ before.consumed read.consumed);
      ended = read.ended (open_parts c.reading.request.is_wanting c.reading.request.is_ended opened).1;
      exact = c.in-Ok-read.ensures.exact opened;
    }

pub returns-clause-served : goal.returns-clause-served
returns-clause-served g c =
    let r = c.reading.request in
    let before = g.R.Read.remaining c.args.reader.now in
    let after = g.R.Read.remaining c.reading.reader in
    let closed : is_open r ≡ false = sym c.is_open.ensures ∙ c.reading-test.false in
    let all : take r.taken r.octets ≡ r.octets =
    ap (λ n. take n r.octets) (c.reading.invariant.exact closed) ∙ take_all (length r.octets) r.octets (omega arith) in
    let C : List ℕ → Type 0 = λ l. Consumes before after l in (
      c.serve.ensures.served.0,
      c.serve.ensures.served.1 before after (subst C (sym all) c.reading.invariant.consumed)
          (λ ended some. c.reading.invariant.ended ended),
    )

pub returns-clause-failed : goal.returns-clause-failed
returns-clause-failed g c =
    let r = c.reading.request in
    let before = g.R.Read.remaining c.args.reader.now in
    let after = g.R.Read.remaining c.reading.reader in
    let closed : is_open r ≡ false = sym c.is_open.ensures ∙ c.reading-test.false in
    let all : take r.taken r.octets ≡ r.octets =
    ap (λ n. take n r.octets) (c.reading.invariant.exact closed) ∙ take_all (length r.octets) r.octets (omega arith) in
    let C : List ℕ → Type 0 = λ l. Consumes before after l in
    elim c.serve.ensures.failed [
      | inl tells ↦ inl tells
      | inr rows ↦ inr (rows before after (subst C (sym all) c.reading.invariant.consumed))
    ]
