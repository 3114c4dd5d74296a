use Rattle.std.proofs.Common.{[], ap, ◌∙◌}
use Rattle.cms.proofs.Sending.{writes_nothing, receives_one, receives_none}
use Rattle.cms.proofs.framed_signer.FramedSignerPipeline.receive_ahead.Goals as goal

pub returns-then-self-clause-sent : goal.returns-then-self-clause-sent
returns-then-self-clause-sent g c =
    writes_nothing c.args.self.now c.fail.new.self [] (ap (λ s. s.written) c.fail.ensures.closed)
    (λ closed. ap (λ s. s.is_closed) c.fail.ensures.closed)

pub returns-in-Ok-clause-receives : goal.returns-in-Ok-clause-receives
returns-in-Ok-clause-receives g c =
    receives_one c.args.self.now _ (g.R.Read.remaining c.self.inside.reader) c.receive.new.room.items
    (ap (λ s. s.unread) c.self.view_is) c.in-Ok.ensures.ok (ap (λ s. s.written) c.self.view_is) c.if-self.false

pub returns-in-Ok-clause-sent : goal.returns-in-Ok-clause-sent
returns-in-Ok-clause-sent g c =
    writes_nothing c.args.self.now _ [] (ap (λ s. s.written) c.self.view_is)
    (λ closed. ap (λ s. s.is_closed) c.self.view_is ∙ closed)

pub returns-in-Err-clause-receives : goal.returns-in-Err-clause-receives
returns-in-Err-clause-receives g c =
    receives_none c.args.self.now (g.R.Read.remaining c.self.inside.reader) (g.R.Read.remaining c.receive.new.reader)
    (ap (λ s. s.unread) c.self.view_is) c.in-Err.ensures.err

pub returns-in-Err-clause-sent : goal.returns-in-Err-clause-sent
returns-in-Err-clause-sent g c =
    writes_nothing c.args.self.now c.fail-in-Err.new.self []
    (ap (λ s. s.written) c.fail-in-Err.ensures.closed ∙ ap (λ s. s.written) c.self.view_is)
    (λ closed. ap (λ s. s.is_closed) c.fail-in-Err.ensures.closed)
