use Rattle.std.proofs.Common.{ℕ, List, [], Ok, Err, ◌∙◌, subst}
use Rattle.desk.specs.{Outcome.all_fine, auxiliary.Kept.keeping_view}
use Rattle.desk.proofs.stamps.Endings.{unsigned, signer_counted}
use Rattle.desk.proofs.stamp_end.complete.Goals as goal

pub returns-in-Err-clause-completes : goal.returns-in-Err-clause-completes
returns-in-Err-clause-completes g c =
    let fault = c.in-Err.fault in
    let signed = subst (λ (t : List ℕ). g.X.Signer.signs c.args.signer.now t (Err fault) c.sign.new.self)
    c.text.ensures c.in-Err.ensures.signs in
    rw c.in_ok-pending.was (
      Err fault,
      all_fine (Ok []),
      record {
        signer = c.in-Err.ensures.counted ∙ signer_counted ⊥ fault (g.X.Signer.fault_count c.args.signer.now);
        moves = signed;
        ends = unsigned g.B.Standing (keeping_view c.args.keeping) c.in_ok-pending.pending fault c.args.store.now;
      },
    )
