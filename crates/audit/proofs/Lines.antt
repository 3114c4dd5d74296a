-- An extract, written line after line.
use Rattle.std.proofs.Common.{◌≡◌, ◌≢◌, ℕ, ◌+◌, ◌<◌, ◌≤◌, List, [], ◌∷◌, ◌++◌, length, take, Option, None, Some, Vec}
use Rattle.std.proofs.Common.{Result, Ok, Err, refl, sym, ap, ◌∙◌, subst, arith, append_assoc, append-nil}
use Rattle.std.proofs.Math.Seq.{take-append_seam, take-append-add, take-length}
use Rattle.std.proofs.lemmas.List.{length-append, length-take-le, take-append-le}
use Rattle.std.proofs.{KnownBytes.Appends-nil, KnownBytes.Appends-trans, lemmas.Grind.flat_map-append}
use Rattle.std.specs.{Io.KnownBytes.Appends, declared.alloc.Global.Global}
use Rattle.csv.specs.Writing.{default_writer, row_body}
use Rattle.book.specs.History.{History, stamps_between}
use Rattle.book.specs.{declared.standing.Standing.Ghosts, Rows.StampRow, Stands.Stands, Stands.OnlyLooks}
use Rattle.audit.specs.Extract.{columns, extract_text, fields, header_text, lines_text, stamp_text, stamps_text}
use Rattle.audit.specs.{Failures.IsAsked, auxiliary.Steps.IsNextLine, Writes.Writes, Writes.WritesLine}
use Rattle.audit.specs.{declared.fault.ExtractFault.ExtractFault, declared.fault.ExtractFault.TheVariants.Write}

pub looks_not : {B : Type 0} (g : Ghosts B) (s : B) → OnlyLooks g s s
looks_not g s = record { honest = λ h. h; stands = λ b x. x; leaves = λ h left r. r }

pub looks_after : {B : Type 0} (g : Ghosts B) (old mid new : B) → OnlyLooks g old mid → OnlyLooks g mid new
    → OnlyLooks g old new
looks_after g old mid new first second = record {
  honest = λ h. first.honest (second.honest h);
  stands = λ b s. second.stands b (first.stands b s);
  leaves = λ h left r. first.leaves (second.honest h) left (second.leaves h left r);
}

-- so many octets were written, and of each history's extract the lines of the stamps that are left are not
pub record HasWritten {B : Type 0} (g : Ghosts B) (old now : B) (out out' : Option (List ℕ)) (from to : ℕ)
    (octets left last : ℕ)
    : Type 0 where
  pub looks : OnlyLooks g old now
  pub faults : g.fault_count now ≡ g.fault_count old
  pub written : List ℕ
  pub count : octets ≡ length written
  pub appended : Appends out out' written
  pub told : List StampRow
  pub lines : written ≡ lines_text told
  pub splits : g.honest now → (b : History) → Stands g b old
      → extract_text from to b ≡ written ++ stamps_text (stamps_between left last b)

take_front : (n : ℕ) (xs ys all : List ℕ) → n ≡ length xs → all ≡ xs ++ ys → xs ≡ take n all
take_front n xs ys all count is = rw (count, is) (sym (take-append_seam xs ys))

-- all of them
take_same : (n : ℕ) (xs all : List ℕ) → n ≡ length xs → xs ≡ all → xs ≡ take n all
take_same n xs all count is = rw (count, sym is) (sym (take-length xs))

taken_whole : (line : List ℕ) (n : ℕ) → n ≡ length line → take n line ≡ line
taken_whole line n is = rw is (take-length line)

-- a line isn't empty
some_octets : (front middle : List ℕ) (last : ℕ) → 0 < length (front ++ (middle ++ last ∷ []))
some_octets front middle last =
    omega (arith, length-append front (middle ++ last ∷ []), length-append middle (last ∷ []))

pub some_line : (stamp : StampRow) (line : List ℕ) → line ≡ stamp_text stamp → 0 < length line
unfolding stamp_text
some_line stamp line is = subst (λ l. 0 < length l) (sym is) (some_octets (row_body default_writer (fields stamp)) _ 10)

pub some_header : (line : List ℕ) → line ≡ header_text → 0 < length line
unfolding header_text
some_header line is = subst (λ l. 0 < length l) (sym is) (some_octets (row_body default_writer columns) _ 10)

-- one stamp more
told_more : (told : List StampRow) (stamp : StampRow) (line : List ℕ) → line ≡ stamp_text stamp
    → lines_text (told ++ stamp ∷ []) ≡ lines_text told ++ line
told_more told stamp line is =
    ap (λ l. header_text ++ l) (flat_map-append stamp_text told (stamp ∷ [])
    ∙ ap (λ l. stamps_text told ++ l) (append-nil (stamp_text stamp) ∙ sym is))
    ∙ sym (append_assoc header_text (stamps_text told) line)

-- the line of the next stamp, where it lies
pub next_left : (before after : List StampRow) (found : Option (Vec ℕ Global)) (line : Vec ℕ Global) (octets : List ℕ)
    → found ≡ Some line → octets ≡ line.items → IsNextLine before after found
    → stamps_text before ≡ octets ++ stamps_text after
next_left before after found line octets is same next =
    (subst (IsNextLine before after) is next).0 ∙ ap (λ l. l ++ stamps_text after) (sym same)

-- and that is one of those that were left
pub one_left : (before after : List StampRow) (found : Option (Vec ℕ Global)) (line : Vec ℕ Global) → found ≡ Some line
    → IsNextLine before after found → length before ≡ length after + 1
one_left before after found line is next = (subst (IsNextLine before after) is next).1

-- the header is written
pub begun : {B : Type 0} (g : Ghosts B) (store : B) (out out' : Option (List ℕ)) (from to octets octets' : ℕ)
    (line : List ℕ)
    → octets ≡ 0 → line ≡ header_text → WritesLine out out' line octets octets' (Ok tt)
    → HasWritten g store store out out' from to octets' from to
begun g store out out' from to octets octets' line none is wrote =
    let whole = taken_whole line wrote.taken wrote.is ∙ is in
    record {
      looks = looks_not g store;
      faults = refl;
      written = header_text;
      count = omega (arith, wrote.count, none, wrote.is, ap length is);
      appended = subst (Appends out out') whole wrote.appended;
      told = [];
      lines = sym (append-nil header_text);
      splits = λ h b s. refl;
    }

-- a further line is written
pub added : {B : Type 0} (g : Ghosts B) (old now next : B) (out out' out'' : Option (List ℕ))
    (from to octets octets' left last left' last' : ℕ) (line : List ℕ) (stamp : StampRow)
    → HasWritten g old now out out' from to octets left last → OnlyLooks g now next
    → g.fault_count next ≡ g.fault_count now
    → line ≡ stamp_text stamp
    → (g.honest next → (b : History) → Stands g b now
    → stamps_text (stamps_between left last b) ≡ line ++ stamps_text (stamps_between left' last' b))
    → WritesLine out' out'' line octets octets' (Ok tt)
    → HasWritten g old next out out'' from to octets' left' last'
added g old now next out out' out'' from to octets octets' left last left' last' line stamp before looks same is value
    wrote =
    let whole = taken_whole line wrote.taken wrote.is in
    record {
      looks = looks_after g old now next before.looks looks;
      faults = same ∙ before.faults;
      written = before.written ++ line;
      count = omega (arith, wrote.count, before.count, wrote.is, length-append before.written line);
      appended = Appends-trans out out' out'' before.written line before.appended
          (subst (Appends out' out'') whole wrote.appended);
      told = before.told ++ stamp ∷ [];
      lines = ap (λ l. l ++ line) before.lines ∙ sym (told_more before.told stamp line is);
      splits = λ h b s.
          (before.splits (looks.honest h) b s
          ∙ ap (λ l. before.written ++ l) (value h b (before.looks.stands b s))
          ∙ sym (append_assoc before.written line (stamps_text (stamps_between left' last' b))));
    }

-- all lines are written
pub ended : {B : Type 0} (g : Ghosts B) (old now next : B) (out out' : Option (List ℕ))
    (from to octets left last : ℕ)
    → HasWritten g old now out out' from to octets left last → OnlyLooks g now next
    → (g.honest next → (b : History) → Stands g b now → stamps_between left last b ≡ [])
    → Writes g old next out out' from to octets (Ok tt)
ended g old now next out out' from to octets left last before looks none =
    let all : g.honest next → (b : History) → Stands g b old → extract_text from to b ≡ before.written =
    λ h b s. (before.splits (looks.honest h) b s
    ∙ ap (λ l. before.written ++ stamps_text l) (none h b (before.looks.stands b s)) ∙ append-nil before.written) in
    record {
      written = before.written;
      count = before.count;
      appended = before.appended;
      told = before.told;
      lines = take_same octets before.written (lines_text before.told) before.count before.lines;
      all = before.lines;
      beginning = λ h b s. take_front octets before.written (stamps_text (stamps_between left last b))
          (extract_text from to b) before.count (before.splits (looks.honest h) b s);
      whole = λ h b s. sym (all h b s);
      cut = λ h b s e. absurd (cc e);
    }

abbrev Outcome : Type 0
Outcome = Result (Unit {0}) ExtractFault

error_same : (f f' : ExtractFault) → ◌≡◌ {A = Outcome} (Err f) (Err f') → f ≡ f'
error_same f f' e = cc

-- nothing was asked
pub nothing_written : {B : Type 0} (g : Ghosts B) (store : B) (out : Option (List ℕ)) (from to : ℕ)
    (fault : ExtractFault)
    → fault ≢ Write → Writes g store store out out from to 0 (Err fault)
nothing_written g store out from to fault other = record {
  written = [];
  count = refl;
  appended = Appends-nil out;
  told = [];
  lines = refl;
  all = tt;
  beginning = λ h b s. refl;
  whole = λ h b s. tt;
  cut = λ h b s e. absurd (other (error_same fault Write e));
}

-- the next stamp isn't told
pub stopped : {B : Type 0} (g : Ghosts B) (old now next : B) (out out' : Option (List ℕ))
    (from to octets left last : ℕ) (fault : ExtractFault)
    → HasWritten g old now out out' from to octets left last → OnlyLooks g now next → fault ≢ Write
    → Writes g old next out out' from to octets (Err fault)
stopped g old now next out out' from to octets left last fault before looks other = record {
  written = before.written;
  count = before.count;
  appended = before.appended;
  told = before.told;
  lines = take_same octets before.written (lines_text before.told) before.count before.lines;
  all = tt;
  beginning = λ h b s. take_front octets before.written (stamps_text (stamps_between left last b))
      (extract_text from to b) before.count (before.splits (looks.honest h) b s);
  whole = λ h b s. tt;
  cut = λ h b s e. absurd (other (error_same fault Write e));
}

-- the header is cut
pub cut_first : {B : Type 0} (g : Ghosts B) (store : B) (out out' : Option (List ℕ))
    (from to octets octets' : ℕ) (line : List ℕ) (fault : ExtractFault) (outcome : Outcome)
    → outcome ≡ Err fault → octets ≡ 0 → line ≡ header_text → WritesLine out out' line octets octets' (Err fault)
    → Writes g store store out out' from to octets' outcome
cut_first g store out out' from to octets octets' line fault outcome refused none is wrote =
    let count : octets' ≡ wrote.taken = omega (arith, wrote.count, none) in
    let short : wrote.taken ≤ length line = omega (arith, wrote.is.0) in
    let front : (rest : List ℕ) → take wrote.taken line ≡ take octets' (header_text ++ rest) =
    λ rest. (sym (take-append-le wrote.taken line rest short)
    ∙ ap (λ n. take n (line ++ rest)) (sym count) ∙ ap (λ l. take octets' (l ++ rest)) is) in
    subst (Writes g store store out out' from to octets') (sym refused) (record {
      written = take wrote.taken line;
      count = count ∙ sym (length-take-le wrote.taken line short);
      appended = wrote.appended;
      told = [];
      lines = front (stamps_text []);
      all = tt;
      beginning = λ h b s. front (stamps_text (stamps_between from to b));
      whole = λ h b s. tt;
      cut = λ h b s e. omega (
        arith,
        wrote.is.0,
        count,
        ap length is,
        length-append header_text (stamps_text (stamps_between from to b)),
      );
    })

-- so many octets of a line, behind others
cut_line : (octets taken : ℕ) (written line rest all : List ℕ) → taken ≤ length line
    → octets ≡ length written + taken → all ≡ written ++ (line ++ rest)
    → written ++ take taken line ≡ take octets all
cut_line octets taken written line rest all short count is =
    ap (λ l. written ++ l) (sym (take-append-le taken line rest short))
    ∙ sym (take-append-add written (line ++ rest) taken)
    ∙ ap (λ n. take n (written ++ (line ++ rest))) (sym count) ∙ ap (take octets) (sym is)

-- a further line is cut
pub cut_later : {B : Type 0} (g : Ghosts B) (old now next : B) (out out' out'' : Option (List ℕ))
    (from to octets octets' left last left' last' : ℕ) (line : List ℕ) (stamp : StampRow) (fault : ExtractFault)
    (outcome : Outcome)
    → outcome ≡ Err fault → HasWritten g old now out out' from to octets left last → OnlyLooks g now next
    → line ≡ stamp_text stamp
    → (g.honest next → (b : History) → Stands g b now
    → stamps_text (stamps_between left last b) ≡ line ++ stamps_text (stamps_between left' last' b))
    → WritesLine out' out'' line octets octets' (Err fault)
    → Writes g old next out out'' from to octets' outcome
cut_later g old now next out out' out'' from to octets octets' left last left' last' line stamp fault outcome
    refused before looks is value wrote =
    let short : wrote.taken ≤ length line = omega (arith, wrote.is.0) in
    let count : octets' ≡ length before.written + wrote.taken = omega (arith, wrote.count, before.count) in
    let rest : History → List ℕ = λ b. stamps_text (stamps_between left' last' b) in
    let told : lines_text (before.told ++ stamp ∷ []) ≡ before.written ++ (line ++ []) =
    told_more before.told stamp line is ∙ ap (λ l. l ++ line) (sym before.lines)
    ∙ ap (λ l. before.written ++ l) (sym (append-nil line)) in
    let all : g.honest next → (b : History) → Stands g b old
    → extract_text from to b ≡ before.written ++ (line ++ rest b) =
    λ h b s. (before.splits (looks.honest h) b s
    ∙ ap (λ l. before.written ++ l) (value h b (before.looks.stands b s))) in
    subst (Writes g old next out out'' from to octets') (sym refused) (record {
      written = before.written ++ take wrote.taken line;
      count = omega (
        arith,
        count,
        length-append before.written (take wrote.taken line),
        length-take-le wrote.taken line short,
      );
      appended = Appends-trans out out' out'' before.written (take wrote.taken line) before.appended wrote.appended;
      told = before.told ++ stamp ∷ [];
      lines = cut_line octets' wrote.taken before.written line [] (lines_text (before.told ++ stamp ∷ [])) short count
          told;
      all = tt;
      beginning = λ h b s. cut_line octets' wrote.taken before.written line (rest b) (extract_text from to b) short
          count (all h b s);
      whole = λ h b s. tt;
      cut = λ h b s e. omega (
        arith,
        wrote.is.0,
        count,
        ap length (all h b s),
        length-append before.written (line ++ rest b),
        length-append line (rest b),
      );
    })

-- so many octets were counted
pub record HasCounted {B : Type 0} (g : Ghosts B) (old now : B) (from to octets left last : ℕ) : Type 0 where
  pub looks : OnlyLooks g old now
  pub faults : g.fault_count now ≡ g.fault_count old
  pub splits : g.honest now → (b : History) → Stands g b old
      → length (extract_text from to b) ≡ octets + length (stamps_text (stamps_between left last b))

pub counted_first : {B : Type 0} (g : Ghosts B) (store : B) (from to octets : ℕ) → octets ≡ length header_text
    → HasCounted g store store from to octets from to
counted_first g store from to octets is = record {
  looks = looks_not g store;
  faults = refl;
  splits = λ h b s. (length-append header_text (stamps_text (stamps_between from to b))
      ∙ ap (λ n. n + length (stamps_text (stamps_between from to b))) (sym is));
}

pub counted_more : {B : Type 0} (g : Ghosts B) (old now next : B) (from to octets left last left' last' : ℕ)
    (line : List ℕ)
    → HasCounted g old now from to octets left last → OnlyLooks g now next → g.fault_count next ≡ g.fault_count now
    → (g.honest next → (b : History) → Stands g b now
    → stamps_text (stamps_between left last b) ≡ line ++ stamps_text (stamps_between left' last' b))
    → HasCounted g old next from to (octets + length line) left' last'
counted_more g old now next from to octets left last left' last' line before looks same value = record {
  looks = looks_after g old now next before.looks looks;
  faults = same ∙ before.faults;
  splits = λ h b s. omega (
    arith,
    before.splits (looks.honest h) b s,
    ap length (value h b (before.looks.stands b s)),
    length-append line (stamps_text (stamps_between left' last' b)),
  );
}

-- it was asked so often as there were stamps before those that are left
pub record IsAskedOf {B : Type 0} (g : Ghosts B) (old now : B) (from to left last : ℕ) (asked asked' : Option ℕ) : Type 0
  where
    pub told : ℕ
    pub times : IsAsked told asked asked'
    pub splits : g.honest now → (b : History) → Stands g b old
        → length (stamps_between from to b) ≡ told + length (stamps_between left last b)

asked_none : (asked : Option ℕ) → IsAsked 0 asked asked
asked_none None = tt
asked_none (Some n) = omega arith

asked_then : (told : ℕ) (a b c : Option ℕ) → IsAsked told a b → IsAsked 1 b c → IsAsked (told + 1) a c
asked_then told None b c first second = tt
asked_then told (Some a) None c first second = absurd first
asked_then told (Some a) (Some b) None first second = absurd second
asked_then told (Some a) (Some b) (Some c) first second = omega (arith, first, second)

pub asked_first : {B : Type 0} (g : Ghosts B) (store : B) (from to : ℕ) (asked : Option ℕ)
    → IsAskedOf g store store from to from to asked asked
asked_first g store from to asked = record { told = 0; times = asked_none asked; splits = λ h b s. omega arith }

pub asked_more : {B : Type 0} (g : Ghosts B) (old now next : B) (from to left last left' last' : ℕ)
    (asked asked' asked'' : Option ℕ) → IsAskedOf g old now from to left last asked asked' → OnlyLooks g old now
    → OnlyLooks g now next
    → (g.honest next → (b : History) → Stands g b now
    → length (stamps_between left last b) ≡ length (stamps_between left' last' b) + 1)
    → IsAsked 1 asked' asked'' → IsAskedOf g old next from to left' last' asked asked''
asked_more g old now next from to left last left' last' asked asked' asked'' before looked looks one times = record {
  told = before.told + 1;
  times = asked_then before.told asked asked' asked'' before.times times;
  splits = λ h b s. omega (arith, before.splits (looks.honest h) b s, one h b (looked.stands b s));
}
