-- What `answer` does: one time-stamp request gets its reply (RFC 3161 2.4).
use Rattle.std.specs.Prelude.{◌≡◌, ℕ, pos, List}
use Rattle.der.specs.Node.{encoding}
use Rattle.desk.specs.Command as desk
use Rattle.desk.specs.CallContract.{IsStep, with_signer}
use Rattle.desk.specs.declared.reply.Reply.TheVariants.{Granted, Rejected}
use Rattle.desk.specs.{Command.Answer, Command.Stamp, Findings.HoldsUnasked, declared.reply.Reply.Reply}
use Rattle.tsp.specs.{Rejection.rejection, Rules.IsFirstFailing, declared.rule.Rule.Rule}
use Rattle.command_line.specs.declared.words.AnswerWords.{AnswerWords}
use Rattle.console.specs.Hexadecimal.{IsHexadecimal, line}
use Rattle.console.specs.{Accounts.IsKnown, Accounts.account_shown, Files.Source}
use Rattle.connections.specs.Clock.{Reading}
use Rattle.operations.specs.OverFiles.{IsAny, IsDoneOver, IsReached}
use Rattle.operations.specs.{Machine.Machine, SignerSource.algorithm_of, Visits.IsVisited}
use Rattle.counter.specs.Files.{ReadsDesk, setting_of}

-- the octets of a reply
abbrev pub octets_of : Reply → List ℕ
octets_of (Granted serial bytes) = bytes.items
octets_of (Rejected rejected) = encoding (rejection rejected.rule)

-- the octets of a reply that the machine answers, a token's or a rejection's
abbrev pub IsReplyOf : Answer → List ℕ → Type 0
IsReplyOf (desk.Stamped serial octets) reply = reply ≡ octets
IsReplyOf (desk.Rejected rule) reply = reply ≡ encoding (rejection rule)
IsReplyOf _ reply = ⊥

pub record Replies {D X C S F : Type 0} (m : Machine D X C Reading) (files : Source S F) (words : AnswerWords)
    (text written : List ℕ) : Type 0 where
  -- what the files say by which the desk answers: policy, certificate and chain, and who signs
  pub read : ReadsDesk files words.desk
  -- where a key is shown, an account of the policy has it
  pub known : IsKnown read.policy words.key
  -- the input is hexadecimal digits of the request's octets
  pub query : List ℕ
  pub spelled : IsHexadecimal text query
  -- a desk is opened over the store of the database, which installs the identity unless it is the latest there; with a
  -- signer of that algorithm the machine answers by one step, for that account and at the reading that the words state
  pub answer : Answer
  pub stepped : IsDoneOver m.disk m.held (λ g opened left.
      IsVisited g (setting_of read) (IsReached m.signer (algorithm_of read.signing)) IsAny opened left
      (λ desk desk' signer signer'. IsStep g (with_signer m.signer.signs m.signer.fault_count signer signer')
      (Stamp (account_shown read.policy words.key) (pos words.reading) query) desk desk' answer))
  -- the reply is its token or its rejection (TimeStampResp, RFC 3161 2.4.2)
  pub reply : List ℕ
  pub says : IsReplyOf answer reply
  -- by the first rule of 1 to 9 that fails of the request, it is that rule's rejection, whatever the database holds
  pub judged : (rule : Rule)
      → IsFirstFailing (HoldsUnasked read.policy (account_shown read.policy words.key) query) rule
      → reply ≡ encoding (rejection rule)
  -- what is written is the reply's hexadecimal digits, and LF
  pub digits : written ≡ line reply
