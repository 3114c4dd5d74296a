-- What the rows before a stamp say of it. They come in the order of their serial numbers.
use Rattle.std.specs.Prelude.{◌≡◌, ◌==◌, ◌&&◌, ℕ, min, List, reverse, count_by, Option, None, Some, option_map}
use Rattle.std.specs.BTreeMap.{BTreeMap, get, get_by_text}
use Rattle.std.specs.{Prelude.unwrap_or, Prelude.String, Ordering.nat_cmp, Str.bytes_eq}
use Rattle.gentime.specs.GenTime.{day_of, last_moment}
use Rattle.book.specs.{History.first_of, Rows.StampRow}
use Rattle.judgement.specs.{declared.evidence.Before.Before, declared.past.Past.Past}

-- the genTime of the last of them, as it is judged: no genTime can state a moment after the last one
abbrev pub last_gen_time : List StampRow → Option ℕ
last_gen_time rows = option_map (λ row. min row.gen_time last_moment) (first_of (reverse rows))

-- how many of them are an account's on a UTC day
abbrev pub count_of : List ℕ → ℕ → List StampRow → ℕ
count_of account day rows = count_by (λ row. bytes_eq row.account account && (day_of row.gen_time == day)) rows

abbrev pub before_of : List StampRow → StampRow → Before
before_of rows stamp = record {
  last_gen_time = last_gen_time rows;
  count = count_of stamp.account (day_of stamp.gen_time) rows;
}

-- ---- what is known of rows

-- how many of an account's rows are on a day, by how many there are on each of its days
abbrev pub count_on : Option (BTreeMap ℕ ℕ) → ℕ → ℕ
count_on None day = 0
count_on (Some days) day = unwrap_or (get nat_cmp days day) 0

abbrev pub count_in : {Y : Type 0} → BTreeMap (String Y) (BTreeMap ℕ ℕ) → List ℕ → ℕ → ℕ
count_in counts account day = count_on (get_by_text counts account) day

-- it is what these rows say
pub record IsPast (rows : List StampRow) (past : Past) : Type 0 where
  pub last : past.last_gen_time ≡ last_gen_time rows
  pub counts : (account : List ℕ) (day : ℕ) → count_in past.counts account day ≡ count_of account day rows
