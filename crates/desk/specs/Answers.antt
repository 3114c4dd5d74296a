-- The answers of the machine that the program's are.
use Rattle.std.specs.Prelude.{ℕ, Result, Ok, Err}
use Rattle.desk.specs.Command as answer
use Rattle.desk.specs.declared.refusal.StampRefusal.{StampRefusal}
use Rattle.desk.specs.{Command.Answer, Calls.why_of, Calls.store_cause, Effects.fault_of, Outcome.Refusal}
use Rattle.desk.specs.{declared.fault.Fault.Fault, declared.reply.Begun.Begun, declared.reply.Reply.Reply}
use Rattle.book.specs.declared.fault.StoreFault.{StoreFault}
use Rattle.desk.specs.declared.reply.Begun.TheVariants as begun
use Rattle.desk.specs.declared.reply.Reply.TheVariants as reply

abbrev pub begun_as : Begun → Answer
begun_as (begun.Rejected rejection) = answer.Rejected rejection.rule
begun_as (begun.Pending p) = answer.Begun p

abbrev pub reply_as : Reply → Answer
reply_as (reply.Granted serial bytes) = answer.Stamped serial bytes.items
reply_as (reply.Rejected rejection) = answer.Rejected rejection.rule

-- what is answered, or the fault
abbrev pub answered : {A : Type 0} → (A → Answer) → Result A Fault → Answer
answered as_answer (Ok a) = as_answer a
answered as_answer (Err fault) = answer.Refused fault

-- the same of the parts of a stamp, whose refusals tell why
abbrev pub ended_as : {A : Type 0} → (A → Answer) → Result A StampRefusal → Result Answer Refusal
ended_as as_answer (Ok a) = Ok (as_answer a)
ended_as as_answer (Err r) = Err (why_of r)

-- a calibration or a hold is added under its number, or the store refuses it
abbrev pub entered : Result ℕ StoreFault → Answer
entered (Ok number) = answer.Numbered number
entered (Err f) = answer.Refused (fault_of (store_cause f))
