-- Octets that are a request for a stamp are nothing else.
use Rattle.std.proofs.Common.{◌≡◌, ◌∙◌, ℕ, ℤ, Bool, false, true, List, [], ◌++◌, Option, Some, Result, Ok, Err, codes}
use Rattle.std.proofs.Common.{Bor, ap, append-nil, arith, refl, inl, inr, subst, sym}
use Rattle.std.proofs.{Common.length, Common.take, lemmas.List.take_all}
use Rattle.std.specs.{Prelude.MatchOption, Result.result_ok}
use Rattle.httparse.specs.Grammar.{RequestHead, print_request}
use Rattle.httparse.proofs.GrammarLemmas.{request_unique}
use Rattle.desk.specs.declared.batch.Asked.{Asked as AskedStamp}
use Rattle.desk.specs.declared.rights.Change.TheVariants.{Give, Take}
use Rattle.desk.specs.{Batches.Question, Batches.stamp_for, Command.Stamp, Together.question_view}
use Rattle.policy.specs.{Record.AccountValue, Record.PolicyValue, LookUp.account_of_key, LookUp.anonymous_account}
use Rattle.service.specs.Checks.{◌>>=◌, WantedValue, account_by, is_stamp, wanted_by}
use Rattle.service.specs.Known.{IsAnswerable, IsDue, IsRefused, checked, malformed, out_of_memory}
use Rattle.service.specs.Received.{IsPartial, ReceivedValue, in_body, in_head}
use Rattle.service.specs.Requests.{Asked, Found, IsRequest, Step, asked_by, asked_of, found_by}
use Rattle.service.specs.Requests.{cut_body, cut_head, headless, refused_head, whole}
use Rattle.service.specs.{Fields.Stated, Fields.Never, Fields.Once, Fields.Twice, Fields.stated, Heads.HeadValue}
use Rattle.service.specs.{Heads.IsHead, Heads.BeginsWith, Heads.head_value, Known.out_of_memory_for_body}
use Rattle.service.specs.{Stamps.AsksStamp, Views.head_view, Views.result_by, declared.due.Due.Due}
use Rattle.service.specs.{declared.head.Head.Head, declared.refusal.Refusal.Refusal, declared.routes.Action.Action}
use Rattle.service.specs.declared.due.Due.TheVariants as due
use Rattle.service.specs.declared.refusal.Refusal.TheVariants as refusal
use Rattle.service.specs.declared.routes.Action.TheVariants as action
use Rattle.service.specs.declared.routes.DepositAction.TheVariants as deposit
use Rattle.service.proofs.{KnownLemmas.no_octets, ServingLemmas.answerable}

-- what comes behind a check isn't given where it never is
bound : {A : Type 0} (m : Result A Refusal) (next : A → Result Asked Refusal) (asked : Asked)
    → ((a : A) → next a ≡ Ok asked → ⊥) → (m >>= next) ≡ Ok asked → ⊥
bound (Ok a) next asked never is = never a is
bound (Err f) next asked never is = cc

-- a request for something else asks for no stamp
no_question : (reading : ℤ) (h : HeadValue) (body : List ℕ) (a : Action) (found : Found a) (q : Question)
    → asked_of reading h body a found ≡ Step (stamp_for q) → (a ≡ action.Stamp → ⊥) → ⊥
no_question reading h body action.Stamp found q is other = other refl
no_question reading h body (action.Deposit deposit.Readers) found q is other = cc
no_question reading h body (action.Deposit (deposit.Right Give kind)) found q is other = cc
no_question reading h body (action.Deposit (deposit.Right Take kind)) found q is other = cc
no_question reading h body (action.Deposit what) found q is other = cc
no_question reading h body a found q is other = cc

pub only_stamp : (file : PolicyValue) (reading : ℤ) (h : HeadValue) (body : List ℕ) (a : Action) (q : Question)
    → asked_by file reading h body a ≡ Ok (Step (stamp_for q)) → (a ≡ action.Stamp → ⊥) → ⊥
only_stamp file reading h body a q is other =
    bound (found_by file h body a) (λ found. Ok (asked_of reading h body a found)) (Step (stamp_for q))
    (λ found same. no_question reading h body a found q (cc) other) is

-- octets are a head and its body, which ask for a stamp
pub record IsStampRequest (file : PolicyValue) (reading : ℤ) (octets : List ℕ) (q : Question) : Type 0 where
  pub read : RequestHead
  pub is_head : IsHead (print_request read) read
  pub wants : WantedValue
  pub wanted : wanted_by (head_value read) ≡ Ok wants
  pub body : List ℕ
  pub count : length body ≡ wants.count
  pub split : octets ≡ print_request read ++ body
  pub same : Ok (Step (stamp_for q)) ≡ asked_by file reading (head_value read) body wants.action

-- which they are if a reader of just these has it read
stamp_request : (file : PolicyValue) (reading : ℤ) (octets : List ℕ) (q : Question)
    → IsRequest file reading (Some octets) (Some []) (Ok (Step (stamp_for q))) → IsStampRequest file reading octets q
stamp_request file reading octets q (headless front is read same) = cc
stamp_request file reading octets q (cut_head front some begun read ended same) = cc
stamp_request file reading octets q (refused_head h is read f refused same) = cc
stamp_request file reading octets q (cut_body h is w wanted part short read ended same) = cc
stamp_request file reading octets q (whole h is w wanted body count read same) = record {
  read = h;
  is_head = is;
  wants = w;
  wanted = wanted;
  body = body;
  count = count;
  split = read ∙ append-nil (print_request h ++ body);
  same = same;
}

-- what a head wants, where it isn't refused
wants_or : WantedValue → Result WantedValue Refusal → WantedValue
wants_or w (Ok wants) = wants
wants_or w (Err f) = w

module _ (file : PolicyValue) (reading : ℤ) (octets : List ℕ) (q : Question)
    (is : IsStampRequest file reading octets q) where
  starts : BeginsWith octets is.read is.body
  starts = record {
    reads = (is.is_head.reads.0, is.split);
    octet_limit = is.is_head.octet_limit;
    field_limit = is.is_head.field_limit;
  }

  some : octets ≡ [] → ⊥
  some none = no_octets is.read is.body (is.is_head.reads.0, sym none ∙ is.split)

  -- they are read in one way
  same_request : (h : RequestHead) → IsHead (print_request h) h → (body : List ℕ) → octets ≡ print_request h ++ body
      → (is.read ≡ h) × (is.body ≡ body)
  same_request h head body split =
      request_unique octets is.read h is.body body (is.is_head.reads.0, is.split) (head.reads.0, split)

  same_wants : (h : RequestHead) → is.read ≡ h → (w : WantedValue) → wanted_by (head_value h) ≡ Ok w → is.wants ≡ w
  unfolding wants_or
  same_wants h same w wanted =
      ap (wants_or w) (sym is.wanted ∙ ap (λ r. wanted_by (head_value r)) same ∙ wanted)

  not_refused : (f : Refusal) → IsRefused octets f → ⊥
  not_refused f (malformed never same) =
      let P : List ℕ → Type 0 = λ l. BeginsWith l is.read is.body in
      never.never [] is.read is.body (subst P (sym (append-nil octets)) starts)
  not_refused f (checked h head refused split) =
      let same = (same_request h head [] (split ∙ sym (append-nil (print_request h)))).0 in
      let both : Ok is.wants ≡ Err f = sym is.wanted ∙ ap (λ r. wanted_by (head_value r)) same ∙ refused in
      cc
  not_refused f (out_of_memory none same) = some none
  not_refused f (out_of_memory_for_body h head w wanted more split same) =
      let both = same_request h head [] (split ∙ sym (append-nil (print_request h))) in
      omega (arith, more, is.count, ap length both.1, ap (λ v. v.count) (same_wants h both.0 w wanted))

  not_partial : IsPartial octets → ⊥
  not_partial (in_head begun) = begun.none is.read is.body starts
  not_partial (in_body h head w wanted part short split) =
      let both = same_request h head part split in
      omega (arith, short, is.count, ap length both.1, ap (λ v. v.count) (same_wants h both.0 w wanted))

  -- what is answered is that stamp
  answers_stamp : (a : Action) (head : Head) (body : List ℕ) → IsAnswerable octets a head body
      → asked_by file reading (head_view head) body a ≡ Ok (Step (stamp_for q))
  answers_stamp a head body answerable =
      let both = same_request answerable.read answerable.is_head body answerable.split in
      let wants = same_wants answerable.read both.0 answerable.asked answerable.wanted in
      ap (asked_by file reading (head_view head) body) (answerable.action_is ∙ ap (λ w. w.action) (sym wants))
      ∙ ap (λ v. asked_by file reading v body is.wants.action) (answerable.same ∙ ap head_value (sym both.0))
      ∙ ap (λ l. asked_by file reading (head_value is.read) l is.wants.action) (sym both.1) ∙ sym is.same

module _ (file : PolicyValue) (reading : ℤ) (r : ReceivedValue) (q : Question) (asks : AsksStamp file reading r q) where
  asked_in : IsStampRequest file reading (take r.taken r.octets) q
  asked_in =
      let octets = take r.taken r.octets in
      stamp_request file reading octets q (asks (Some octets) (Some []) (sym (append-nil octets)))

  -- where a stamp is asked for, that is answered
  answer_due : (a : Action) (head : Head) (body : Bor (List ℕ)) → IsDue r (due.Answer a head body)
      → asked_by file reading (head_view head) body.now a ≡ Ok (Step (stamp_for q))
  answer_due a head body is = answers_stamp file reading (take r.taken r.octets) q asked_in a head body.now is

  -- and nothing else is due
  pub nothing_else : (d : Due) → IsDue r d
      → ((head : Head) (body : Bor (List ℕ)) → d ≡ due.Answer action.Stamp head body → ⊥) → ⊥
  nothing_else due.Nothing is other =
      some file reading (take r.taken r.octets) q asked_in (ap (λ n. take n r.octets) is.2)
  nothing_else (due.Refusal f) (inl refused) other =
      not_refused file reading (take r.taken r.octets) q asked_in f refused
  nothing_else (due.Refusal f) (inr (cut, same)) other =
      let octets = take r.taken r.octets in
      let all : octets ≡ r.octets =
      ap (λ n. take n r.octets) cut.all ∙ take_all (length r.octets) r.octets (omega arith) in
      let P : List ℕ → Type 0 = λ l. IsPartial l in
      not_partial file reading octets q asked_in (subst P (sym all) cut.partial)
  nothing_else (due.Answer a head body) is other =
      only_stamp file reading (head_view head) body.now a q (answer_due a head body is)
      (λ same. other head body (ap (λ b. due.Answer b head body) same))

pub stamp_is : (a : Action) → is_stamp a ≡ true → a ≡ action.Stamp
stamp_is action.Stamp is = refl
stamp_is other is = cc

abbrev pub is_stamp_due : Due → Bool
is_stamp_due (due.Answer a head body) = is_stamp a
is_stamp_due other = false

-- who shows at most one key is known, or nobody is
key_found : (file : PolicyValue) (key : Stated) → (key ≡ Twice → ⊥)
    → (account : Option AccountValue) × (account_by file key ≡ Ok account)
key_found file Never once = (anonymous_account file, refl)
key_found file (Once key) once = (account_of_key file key, refl)
key_found file Twice once = absurd (once refl)

module _ (file : PolicyValue) (reading : ℤ) (r : ReceivedValue) (head : Head) (body : Bor (List ℕ))
    (is : IsDue r (due.Answer action.Stamp head body)) where
  abbrev Asks : Result Asked Refusal
  Asks = asked_by file reading (head_view head) body.now action.Stamp

  abbrev by_key : Result (Option AccountValue) Refusal → Result Asked Refusal
  by_key found = found >>= (λ account. Ok (Step (Stamp account reading body.now)))

  asks : (q : Question) → Asks ≡ Ok (Step (stamp_for q)) → AsksStamp file reading r q
  asks q same before after read =
      subst (λ asked. IsRequest file reading before after asked) same
      (answerable file reading is read)

  refuses : (f : Refusal) → Asks ≡ Err f → (q : Question) → AsksStamp file reading r q → ⊥
  refuses f same q asked =
      let both : Err f ≡ Ok (Step (stamp_for q)) =
      sym same ∙ answer_due file reading r q asked action.Stamp head body is in
      cc

  -- the stamp that the checks find
  pub found_stamp : (found : Result AskedStamp Refusal)
      → result_by (λ asked. Step (stamp_for (question_view asked))) found ≡ Asks
      → MatchOption (result_ok found) ((q : Question) → AsksStamp file reading r q → ⊥)
      (λ asked. AsksStamp file reading r (question_view asked))
  found_stamp (Ok asked) same = asks (question_view asked) (sym same)
  found_stamp (Err f) same = refuses f (sym same)

  -- where two keys are shown, none is asked for, and else one is
  pub by_two_keys : stated (codes "counter-key") (head_view head).fields ≡ Twice → (q : Question)
      → AsksStamp file reading r q → ⊥
  by_two_keys twice = refuses refusal.BadRequest (ap (λ key. by_key (account_by file key)) twice)

  pub by_one_key : (stated (codes "counter-key") (head_view head).fields ≡ Twice → ⊥)
      → (q : Question) × AsksStamp file reading r q
  by_one_key once =
      let found = key_found file (stated (codes "counter-key") (head_view head).fields) once in
      let q : Question = record { account = found.0; reading = reading; octets = body.now } in
      (q, asks q (ap by_key found.1))
