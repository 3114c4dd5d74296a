-- What `exchange` writes, out of what the operation says of it.
use Rattle.std.proofs.Common.{◌≡◌, ◌⊎◌, ◌∙◌, ℕ, ℤ, List, [], Option, length, sym, subst, inl, inr}
use Rattle.std.proofs.Math.Seq.{take-length}
use Rattle.std.specs.Io.KnownBytes.{Appends, Keeps}
use Rattle.policy.specs.Record.{PolicyValue}
use Rattle.service.specs.declared.answer.Media.TheVariants.{Csv}
use Rattle.service.specs.declared.served.Served.TheVariants.{Closed, Answered, ReadFailed, WriteFailed}
use Rattle.service.specs.{Answers.answer_text, Answers.success, declared.served.Served.Served}
use Rattle.console.specs.declared.fault.InputFault.TheVariants.{Failed}
use Rattle.console.specs.{declared.fault.Fault.Fault, declared.fault.Fault.TheVariants.Input, Writes.Begins}
use Rattle.counter.specs.Exchange.{HasEnded, HasStopped, WritesAnswer}
use Rattle.counter.specs.HttpRequest as known
use Rattle.console.proofs.Writes.{appends_nothing, keeps_beginning}

module _ (policy : PolicyValue) (reading : ℤ) (old new before : Option (List ℕ)) where
  -- the input is at its end
  pub writes_nothing : (after : Option (List ℕ)) → known.IsExchanged policy reading old new before after Closed
      → WritesAnswer policy reading old new (Appends before after)
  writes_nothing after e =
      let P : Option (List ℕ) → Type 0 = λ x. Appends before x [] in
      inl (e.0, e.1, subst P (sym e.2) (appends_nothing before))

  -- the answer is written, and the output flushed
  pub writes_all : (mid after : Option (List ℕ)) (status : ℕ)
      → known.IsExchanged policy reading old new before mid (Answered status) → Keeps mid after
      → WritesAnswer policy reading old new (Appends before after)
  writes_all mid after status (inl e) kept =
      inr (inl (e.answer, e.is, keeps_beginning before mid after (answer_text reading e.answer) e.written kept))
  writes_all mid after status (inr e) kept =
      let text = answer_text reading (success 200 Csv e.1.0) in
      inr (inr (e.0, (text, keeps_beginning before mid after text e.1.1.1 kept)))

  begun : (mid after : Option (List ℕ)) (text : List ℕ) → Appends before mid text → Keeps mid after
      → Begins before after text
  begun mid after text written kept =
      (length text, rw (take-length text) (keeps_beginning before mid after text written kept))

  -- the answer is written, and the output not flushed
  pub writes_unflushed : (mid after : Option (List ℕ)) (status : ℕ)
      → known.IsExchanged policy reading old new before mid (Answered status) → Keeps mid after
      → WritesAnswer policy reading old new (Begins before after)
  writes_unflushed mid after status (inl e) kept =
      inr (inl (e.answer, e.is, begun mid after (answer_text reading e.answer) e.written kept))
  writes_unflushed mid after status (inr e) kept =
      let text = answer_text reading (success 200 Csv e.1.0) in
      inr (inr (e.0, (text, begun mid after text e.1.1.1 kept)))

  -- a beginning of the answer is written
  pub writes_part : (after : Option (List ℕ)) (status sent : ℕ)
      → known.IsExchanged policy reading old new before after (WriteFailed status sent)
      → WritesAnswer policy reading old new (Begins before after)
  writes_part after status sent (inl e) = inr (inl (e.answer, e.is, (sent, e.written)))
  writes_part after status sent (inr e) =
      let octets = e.1.1 in
      inr (inr (e.0, (octets, (length octets, rw (take-length octets) e.1.3))))

  -- what is written where it has ended
  pub ended : (mid after : Option (List ℕ)) (outcome : Served)
      → known.IsExchanged policy reading old new before mid outcome → HasEnded outcome mid after
      → WritesAnswer policy reading old new (Appends before after)
  ended mid after Closed told end =
      let P : Option (List ℕ) → Type 0 = λ x. WritesAnswer policy reading old new (Appends before x) in
      subst P (sym end) (writes_nothing mid told)
  ended mid after (Answered status) told end = writes_all mid after status told end
  ended mid after _ told end = absurd end

  -- and where it is stopped
  pub stopped : (mid after : Option (List ℕ)) (outcome : Served) (fault : Fault)
      → known.IsExchanged policy reading old new before mid outcome → HasStopped outcome mid after fault
      → (after ≡ before)
      ⊎ ((fault ≡ Input Failed) × WritesAnswer policy reading old new (Begins before after))
  stopped mid after Closed fault told stop = absurd stop
  stopped mid after (Answered status) fault told stop = inr (stop.0, writes_unflushed mid after status told stop.1)
  stopped mid after ReadFailed fault told stop = inl (stop.1 ∙ told.1)
  stopped mid after (WriteFailed status sent) fault told stop =
      inr (
        stop.0,
        subst (λ x. WritesAnswer policy reading old new (Begins before x)) (sym stop.1)
            (writes_part mid status sent told),
      )
