-- Refusals, and the answers that tell them.
use Rattle.std.specs.Prelude.{ℕ, List, codes}
use Rattle.tsp.specs.Rejection.{number_of, reason}
use Rattle.tsp.specs.{declared.rule.Rule.Rule, declared.rule.Rule.TheVariants.Clock}
use Rattle.desk.specs.declared.fault.Fault.{Fault}
use Rattle.desk.specs.declared.fault.Fault.TheVariants as fault
use Rattle.audit.specs.declared.fault.ExtractFault.{ExtractFault}
use Rattle.audit.specs.declared.fault.ExtractFault.TheVariants as extract
use Rattle.service.specs.declared.refusal.Refusal.{Refusal}
use Rattle.service.specs.declared.refusal.Refusal.TheVariants as refusal

-- while the clock is out of accuracy the service is unavailable
abbrev pub status_of_rule : Rule → ℕ
status_of_rule Clock = 503
status_of_rule rule = 403

abbrev pub status_of : Refusal → ℕ
status_of refusal.BadRequest = 400
status_of refusal.TransferEncoding = 501
status_of refusal.NoRoute = 404
status_of (refusal.Method methods) = 405
status_of refusal.Length = 411
status_of refusal.BadLength = 400
status_of refusal.TooLarge = 413
status_of refusal.Type = 415
status_of refusal.NoAccount = 403
status_of refusal.NotHere = 404
status_of refusal.BadReference = 400
status_of refusal.NotOwner = 403
status_of refusal.Conflict = 409
status_of refusal.UnknownReader = 400
status_of refusal.UnknownGroup = 400
status_of refusal.SelfGrant = 400
status_of refusal.NotAuditor = 403
status_of refusal.BadRange = 400
status_of refusal.NotOperator = 403
status_of refusal.BadField = 400
status_of refusal.Backwards = 409
status_of (refusal.Rule rule) = status_of_rule rule
status_of refusal.Unavailable = 503

abbrev pub word_of : Refusal → List ℕ
word_of refusal.BadRequest = codes "BadRequest"
word_of refusal.TransferEncoding = codes "TransferEncoding"
word_of refusal.NoRoute = codes "NoRoute"
word_of (refusal.Method methods) = codes "Method"
word_of refusal.Length = codes "Length"
word_of refusal.BadLength = codes "BadLength"
word_of refusal.TooLarge = codes "TooLarge"
word_of refusal.Type = codes "Type"
word_of refusal.NoAccount = codes "NoAccount"
word_of refusal.NotHere = codes "NotHere"
word_of refusal.BadReference = codes "BadReference"
word_of refusal.NotOwner = codes "NotOwner"
word_of refusal.Conflict = codes "Conflict"
word_of refusal.UnknownReader = codes "UnknownReader"
word_of refusal.UnknownGroup = codes "UnknownGroup"
word_of refusal.SelfGrant = codes "SelfGrant"
word_of refusal.NotAuditor = codes "NotAuditor"
word_of refusal.BadRange = codes "BadRange"
word_of refusal.NotOperator = codes "NotOperator"
word_of refusal.BadField = codes "BadField"
word_of refusal.Backwards = codes "Backwards"
word_of (refusal.Rule rule) = reason (number_of rule)
word_of refusal.Unavailable = codes "Unavailable"

-- the refusal that a desk's is
abbrev pub refusal_of : Fault → Refusal
refusal_of fault.NotHere = refusal.NotHere
refusal_of fault.NotOwner = refusal.NotOwner
refusal_of fault.Conflict = refusal.Conflict
refusal_of fault.UnknownReader = refusal.UnknownReader
refusal_of fault.UnknownGroup = refusal.UnknownGroup
refusal_of fault.SelfGrant = refusal.SelfGrant
refusal_of fault.TooLarge = refusal.TooLarge
refusal_of (fault.Rejected rule) = refusal.Rule rule
refusal_of fault.Memory = refusal.Unavailable
refusal_of fault.Store = refusal.Unavailable
refusal_of fault.Signer = refusal.Unavailable

-- the refusal that an extract's is
abbrev pub refusal_of_extract : ExtractFault → Refusal
refusal_of_extract extract.NotAuditor = refusal.NotAuditor
refusal_of_extract extract.Range = refusal.BadRange
refusal_of_extract extract.Memory = refusal.Unavailable
refusal_of_extract extract.Store = refusal.Unavailable
refusal_of_extract extract.Write = refusal.Unavailable
