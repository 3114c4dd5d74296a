use Rattle.std.proofs.Common.{rules, ap, sym, subst}
use Rattle.std.specs.Prelude.{IfSome}
use Rattle.tsp.specs.{Tst.TstValue, Tst.IsTsaName, View.tst_view}
use Rattle.console.proofs.tst.write_reply.Goals as goal

pub write_tst-requires-clause-lawful : goal.write_tst-requires-clause-lawful
write_tst-requires-clause-lawful c =
    let same = c.into_tst_info-tst.ensures in
    c.requires.lawful (tst_view c.into_tst_info-tst.result) (search rules)
    (ap (λ (t : TstValue). t.imprint) same) (ap (λ (t : TstValue). t.nonce) same)
    (ap (λ (t : TstValue). t.extensions) same)
    (subst (λ (t : TstValue). IfSome t.tsa IsTsaName) (sym same) tt)
