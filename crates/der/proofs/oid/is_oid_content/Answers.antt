use Rattle.std.proofs.Common.{◌≡◌, ◌+◌, ◌-◌, ◌*◌, slice_index_or, refl, arith}
use Rattle.der.proofs.OidLoop.{read_none, refused_large, refused_padded, tells_refused, tells_at_end}
use Rattle.der.proofs.OidLoop.{tells_others_at_end, tells_none}
use Rattle.der.proofs.oid.is_oid_content.Goals as goal

pub loop-octet-init : goal.loop-octet-init
loop-octet-init c = read_none c.args.content.now

pub returns-then-subidentifier : goal.returns-then-subidentifier
returns-then-subidentifier c =
    let tells = tells_refused c.args.content.now
    (refused_large _ _ _ _ c.loop-octet-test.true c.loop-octet.invariant c.if-subidentifier.true) in
    record { content = tells.content; read = tells.read }

pub returns-then-subidentifier-eq0 : goal.returns-then-subidentifier-eq0
returns-then-subidentifier-eq0 c =
    let at = slice_index_or c.args.content.now c.loop-octet.octet-index 0 in
    let none : c.loop-octet.subidentifier * 128 + (at - 128) ≡ 0 =
    omega (arith, c.if-subidentifier-eq0.true, c.from.ensures) in
    let tells = tells_refused c.args.content.now
    (refused_padded _ _ _ _ at c.loop-octet-test.true refl c.loop-octet.invariant c.if-subidentifier.false
    c.if-octet-lt128.false none) in
    record { content = tells.content; read = tells.read }

pub returns-then-count-gt32 : goal.returns-then-count-gt32
returns-then-count-gt32 c =
    let tells = tells_others_at_end c.args.content.now _ _ _ c.loop-octet-test.false c.loop-octet.invariant
    (λ none some few. absurd (omega arith)) in
    record { content = tells.content; read = tells.read }

pub returns-then-count-gt0 : goal.returns-then-count-gt0
returns-then-count-gt0 c =
    let tells = tells_at_end c.args.content.now _ _ _ (λ k. (c.type_inv.content k).fits) c.loop-octet-test.false
    c.loop-octet.invariant (omega arith) (omega arith) in
    record { content = tells.content; read = tells.read }

pub returns-else-count-gt0 : goal.returns-else-count-gt0
returns-else-count-gt0 c =
    let tells = tells_none c.args.content.now _ _ _ c.loop-octet-test.false c.loop-octet.invariant
    c.if-count-gt0.false in
    record { content = tells.content; read = tells.read }
