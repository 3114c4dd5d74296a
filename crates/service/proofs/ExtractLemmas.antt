-- The answer with an extract: its head, and then its octets as they come.
use Rattle.std.proofs.Common.{◌≡◌, ◌∙◌, ℕ, ℤ, ◌+◌, ◌-◌, ◌^◌, ◌<◌, ◌≤◌, List, [], ◌++◌, Option, None, Some, length, take}
use Rattle.std.proofs.Common.{refl, sym, ap, subst, length-append, arith, inl, inr}
use Rattle.std.proofs.KnownBytes.{Appends-nil, Appends-trans}
use Rattle.std.proofs.lemmas.List.{take_all}
use Rattle.std.specs.Io.KnownBytes.{Appends, Keeps}
use Rattle.std.specs.Prelude.{◌≢◌, ◌⊎◌, MatchResult, Result, Ok, Err, codes}
use Rattle.book.specs.{declared.standing.Standing.Ghosts, History.History, Stands.OnlyLooks, Stands.Stands}
use Rattle.audit.specs.declared.fault.ExtractFault.TheVariants.{NotAuditor, Range, Memory, Store, Write}
use Rattle.audit.specs.{Auditor.ComesWhere, Auditor.IfUnasked, Auditor.IsAllowed, Extract.extract_text}
use Rattle.audit.specs.{Failures.StopsFor, Fault.count_after, Writes.Writes, declared.fault.ExtractFault.ExtractFault}
use Rattle.policy.specs.Record.{AccountValue, PolicyValue}
use Rattle.service.specs.Answers.{AnswerValue, allow_line, answer_text, content_lines, crlf, extract_answer, head_text}
use Rattle.service.specs.Answers.{refusal_answer, status_line, success}
use Rattle.service.specs.auxiliary.ExtractAnswers.{SendingFails, SendsExtract, ServesExtract, extracted, kept_back}
use Rattle.service.specs.Served.{Sends, SendsOctets, IsCutBehindHead, TellsExtractFailure}
use Rattle.service.specs.{Refusals.refusal_of_extract, declared.refusal.Refusal.Refusal, declared.served.Served.Served}
use Rattle.service.specs.declared.answer.Media.TheVariants as media
use Rattle.service.specs.declared.served.Served.TheVariants as served
use Rattle.service.proofs.Joined.{front_of_joined}

-- the head of such an answer that is given at a reading, and whose body has so many octets
abbrev pub extract_head : ℤ → ℕ → List ℕ
extract_head reading count = head_text reading 200 media.Csv None count

-- its text, where the body has the length that the head states
text_of : (reading : ℤ) (head body : List ℕ) (count : ℕ) → head ≡ extract_head reading count → count ≡ length body
    → answer_text reading (success 200 media.Csv body) ≡ head ++ body
text_of reading head body count states is =
    ap (λ n. extract_head reading n ++ body) (sym is) ∙ ap (λ l. l ++ body) (sym states)

module _ {B W : Type 0} (g : Ghosts B) (contents : W → Option (List ℕ)) (reading : ℤ) (w mid w' : W) (old new : B)
    (from to count : ℕ) (head : List ℕ) (states : head ≡ extract_head reading count) where
  module _ (n octets : ℕ) (outcome : Result (Unit {0}) ExtractFault) (whole : length head ≤ n)
      (headed : Appends (contents w) (contents mid) (take n head))
      (rows : Writes g old new (contents mid) (contents w') from to octets outcome) where
    joined : Appends (contents w) (contents w') (head ++ rows.written)
    joined =
        let P : List ℕ → Type 0 = λ l. Appends (contents w) (contents mid) l in
        Appends-trans _ _ _ head rows.written (subst P (take_all n head whole) headed) rows.appended

    -- the head and a part of the extract are written
    pub rows_cut : octets < count
        → SendsExtract g contents reading w w' old new from to count (served.WriteFailed 200 (length head + octets))
    rows_cut short = record {
      sent = λ honest b stands is.
          let body = extract_text from to b in
          let text = text_of reading head body count states is in
          let P : List ℕ → Type 0 = λ l. Appends (contents w) (contents w') l in
          let front : take (length head + octets) (answer_text reading (success 200 media.Csv body)) ≡ head ++ rows.written =
          ap (take (length head + octets)) text ∙ front_of_joined head body octets
          ∙ ap (λ l. head ++ l) (sym (rows.beginning honest b stands)) in (
            refl,
            omega (arith, short, is, ap length text, length-append head body),
            subst P (sym front) joined,
          );
      told = (
        refl,
        head ++ rows.written,
        omega (arith, length-append head rows.written, rows.count),
        joined,
      );
    }

    -- all of it is written
    pub all_written : count ≤ octets → octets ≤ count
        → SendsExtract g contents reading w w' old new from to count (served.Answered 200)
    all_written least most = record {
      sent = λ honest b stands is.
          let body = extract_text from to b in
          let P : List ℕ → Type 0 = λ l. Appends (contents w) (contents w') l in
          let same : rows.written ≡ body =
          rows.beginning honest b stands ∙ take_all octets body (omega (arith, least, is)) in
          (refl, subst P (sym (text_of reading head body count states is ∙ ap (λ l. head ++ l) (sym same))) joined);
      told =
          let P : List ℕ → Type 0 = λ l. Appends (contents w) (contents w') l in
          let is : count ≡ length rows.written = omega (arith, least, most, rows.count) in
          (rows.written, (refl, subst P (sym (text_of reading head rows.written count states is)) joined));
    }

-- what is told of failures while it is written
module _ {B : Type 0} (g : Ghosts B) (reading : ℤ) (old new : B) (from to count : ℕ) (before after : Option ℕ)
    (head : List ℕ) (states : head ≡ extract_head reading count) where
  abbrev Fails : Served → Type 0
  Fails outcome = SendingFails g reading old new from to count before after outcome

  pub too_long : (status sent : ℕ) → 2 ^ 64 ≤ length head + count → Fails (served.WriteFailed status sent)
  too_long status sent long = λ honest b stands is.
      let body = extract_text from to b in
      inr (inr (omega (
        arith,
        long,
        is,
        ap length (text_of reading head body count states is),
        length-append head body,
      )))

  behind_head : (octets : ℕ) (fault : ExtractFault) → (fault ≡ Memory) ⊎ (fault ≡ Store)
      → g.fault_count new ≡ count_after fault (g.fault_count old) → (b : History)
      → count ≡ length (extract_text from to b)
      → IsCutBehindHead reading from to b (g.fault_count old) (g.fault_count new) (length head + octets)
  behind_head octets fault of counted b is = record {
    headed = omega (arith, ap length states, ap (λ n. length (extract_head reading n)) is);
    fault = fault;
    of = of;
    counted = counted;
  }

  module _ (file : PolicyValue) (account : AccountValue) (allowed : IsAllowed file account from to) (octets : ℕ)
      (out out' : Option (List ℕ)) where
    pub rows_fail : (outcome : Result (Unit {0}) ExtractFault) → Writes g old new out out' from to octets outcome
        → MatchResult outcome (λ done. IsAllowed file account from to) (ComesWhere file account from to)
        → MatchResult outcome (λ done. g.fault_count new ≡ g.fault_count old)
        (λ e. g.fault_count new ≡ count_after e (g.fault_count old))
        → (g.honest new → (b : History) → Stands g b old → outcome ≡ Err Write
        → StopsFor count (length (extract_text from to b)) before after)
        → octets < count → (status : ℕ) → Fails (served.WriteFailed status (length head + octets))
    rows_fail (Ok done) rows comes counted stopped short status = λ honest b stands is.
        absurd (omega (arith, short, is, rows.count, ap length (rows.whole honest b stands)))
    rows_fail (Err NotAuditor) rows comes counted stopped short status = absurd (comes allowed.auditor)
    rows_fail (Err Range) rows comes counted stopped short status = absurd (comes.1 allowed.range)
    rows_fail (Err Memory) rows comes counted stopped short status = λ honest b stands is.
        inr (inl (behind_head octets Memory (inl refl) counted b is))
    rows_fail (Err Store) rows comes counted stopped short status = λ honest b stands is.
        inr (inl (behind_head octets Store (inr refl) counted b is))
    rows_fail (Err Write) rows comes counted stopped short status = λ honest b stands is.
        elim (stopped honest b stands refl) [
          | inl long ↦ absurd (omega (arith, long, is))
          | inr failed ↦ inl failed
        ]

    pub none_failed : (outcome : Result (Unit {0}) ExtractFault) → Writes g old new out out' from to octets outcome
        → MatchResult outcome (λ done. after ≡ before) (λ e. e ≢ Write → after ≡ before) → count ≤ octets
        → (status : ℕ) → Fails (served.Answered status)
    none_failed (Ok done) rows kept whole status = λ honest b stands is. kept
    none_failed (Err Write) rows kept whole status = λ honest b stands is.
        absurd (omega (arith, whole, is, rows.cut honest b stands refl))
    none_failed (Err NotAuditor) rows kept whole status = λ honest b stands is. kept (λ same. cc)
    none_failed (Err Range) rows kept whole status = λ honest b stands is. kept (λ same. cc)
    none_failed (Err Memory) rows kept whole status = λ honest b stands is. kept (λ same. cc)
    none_failed (Err Store) rows kept whole status = λ honest b stands is. kept (λ same. cc)

-- what stands behind octets that stayed stands behind those before
kept_appends : (a b c : Option (List ℕ)) (bs : List ℕ) → Keeps a b → Appends b c bs → Appends a c bs
kept_appends None b c bs keeps more = tt
kept_appends (Some x) None c bs keeps more = absurd keeps
kept_appends (Some x) (Some y) None bs keeps more = absurd more
kept_appends (Some x) (Some y) (Some z) bs keeps more = more ∙ ap (λ l. l ++ bs) keeps

module _ {W : Type 0} (contents : W → Option (List ℕ)) (reading : ℤ) (w mid w' : W)
    (keeps : Keeps (contents w) (contents mid)) where
  pub sent_behind : (a : AnswerValue) (outcome : Served) → Sends contents reading mid w' a outcome
      → Sends contents reading w w' a outcome
  sent_behind a served.Closed s = s
  sent_behind a (served.Answered status) s = (s.0, kept_appends _ _ _ _ keeps s.1)
  sent_behind a served.ReadFailed s = s
  sent_behind a (served.WriteFailed status sent) s = (s.0, s.1, kept_appends _ _ _ _ keeps s.2)

  octets_behind : (outcome : Served) → SendsOctets contents reading mid w' outcome
      → SendsOctets contents reading w w' outcome
  octets_behind served.Closed s = s
  octets_behind (served.Answered status) s = (s.0, sent_behind (success 200 media.Csv s.0) (served.Answered status) s.1)
  octets_behind served.ReadFailed s = s
  octets_behind (served.WriteFailed status sent) s = (s.0, s.1, s.2, kept_appends _ _ _ _ keeps s.3)

-- a head has octets
some_head : (reading : ℤ) (count : ℕ) → 0 < length (extract_head reading count)
unfolding head_text
some_head reading count =
    let behind = content_lines media.Csv count ++ allow_line None ++ codes "Connection: close" ++ crlf ++ crlf in
    omega (arith, length-append (status_line 200) behind)

module _ {B W : Type 0} (g : Ghosts B) (contents : W → Option (List ℕ)) (reading : ℤ) (w mid w' : W) (old new : B)
    (file : PolicyValue) (account : AccountValue) (from to : ℕ) (keeps : Keeps (contents w) (contents mid)) where
  -- a refusal of an extract is told
  pub keeping_back : (f : ExtractFault) (r : Refusal) (outcome : Served) → ComesWhere file account from to f
      → IfUnasked (new ≡ old) f → g.fault_count new ≡ count_after f (g.fault_count old) → f ≢ Write
      → r ≡ refusal_of_extract f → Sends contents reading mid w' (refusal_answer r) outcome
      → ServesExtract g contents reading w w' old new file account from to outcome
  keeping_back f r outcome comes unasked counted written same sent =
      let P : Refusal → Type 0 = λ r. Sends contents reading w w' (refusal_answer r) outcome in
      kept_back f comes unasked counted written (subst P same (sent_behind contents reading w mid w' keeps
      (refusal_answer r) outcome sent))

  -- of one nothing is written
  pub unwritten : (status : ℕ) → IsAllowed file account from to → status ≡ 200
      → ServesExtract g contents reading w mid old new file account from to (served.WriteFailed status 0)
  unwritten status allowed same =
      let none : Appends (contents w) (contents mid) [] =
      kept_appends _ _ _ [] keeps (Appends-nil (contents mid)) in
      rw same (extracted allowed
      (λ honest b stands.
      let body = extract_text from to b in
      (refl, omega (arith, some_head reading (length body), length-append (extract_head reading (length body)) body), none))
      (refl, [], refl, none))

  -- an extract whose length was found is answered
  pub answering : (found : B) (count : ℕ) (outcome : Served) → IsAllowed file account from to
      → OnlyLooks g old found → OnlyLooks g found new
      → (g.honest found → (b : History) → Stands g b old → count ≡ length (extract_text from to b))
      → SendsExtract g contents reading mid w' found new from to count outcome
      → ServesExtract g contents reading w w' old new file account from to outcome
  answering found count outcome allowed first second length_is s =
      extracted allowed
      (λ honest b stands. sent_behind contents reading w mid w' keeps (extract_answer from to b) outcome
      (s.sent honest b (first.stands b stands) (length_is (second.honest honest) b stands)))
      (octets_behind contents reading w mid w' keeps outcome s.told)

-- what is told where its length isn't found for the writer
pub unfound_fails : (reading : ℤ) (from to : ℕ) (b : History) (faults faults' status : ℕ) (before after : Option ℕ)
    → StopsFor (2 ^ 64 - 1) (length (extract_text from to b)) before after
    → TellsExtractFailure reading from to b faults faults' before after (served.WriteFailed status 0)
unfound_fails reading from to b faults faults' status before after (inl long) =
    let body = extract_text from to b in
    inr (inr (omega (arith, long, length-append (extract_head reading (length body)) body)))
unfound_fails reading from to b faults faults' status before after (inr failed) = inl failed

-- what is told where it is found, and none failed till then
pub found_fails : {B : Type 0} (g : Ghosts B) (reading : ℤ) (old found new : B) (from to count : ℕ)
    (before mid after : Option ℕ) (outcome : Served) → OnlyLooks g old found → OnlyLooks g found new
    → (g.honest found → (b : History) → Stands g b old → count ≡ length (extract_text from to b))
    → g.fault_count found ≡ g.fault_count old → mid ≡ before
    → SendingFails g reading found new from to count mid after outcome → g.honest new → (b : History) → Stands g b old
    → TellsExtractFailure reading from to b (g.fault_count old) (g.fault_count new) before after outcome
found_fails g reading old found new from to count before mid after outcome first second length_is counted kept fails
    honest b stands =
    rw (← counted, ← kept) (fails honest b (first.stands b stands) (length_is (second.honest honest) b stands))
