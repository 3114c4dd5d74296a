-- What `check` says of a policy file.
use Rattle.std.specs.Prelude.{◌≡◌, ℕ, List, [], ◌∷◌, ◌++◌, length, Ok}
use Rattle.std.specs.Fmt.{decimal}
use Rattle.policy.specs.{Meaning.meaning_of, Record.PolicyValue}
use Rattle.command_line.specs.declared.words.CheckWords.{CheckWords}
use Rattle.console.specs.Files.{ReadsText, Source}

-- a line of words, joined by spaces
abbrev pub line_of_words : List (List ℕ) → List ℕ
line_of_words [] = 0x0a ∷ []
line_of_words (word ∷ []) = word ++ 0x0a ∷ []
line_of_words (word ∷ next ∷ words) = word ++ 0x20 ∷ line_of_words (next ∷ words)

-- how many algorithms, extensions, policies and accounts there are, in decimal
abbrev pub counts_line : PolicyValue → List ℕ
counts_line policy =
    line_of_words
    (decimal (length policy.algorithms)
    ∷ decimal (length policy.extensions)
    ∷ decimal (length policy.policies)
    ∷ decimal (length policy.accounts)
    ∷ [])

-- The policy file that the words name is read, and what is written is the line of the policy that its text means.
pub record Counts {S F : Type 0} (files : Source S F) (words : CheckWords) (written : List ℕ) : Type 0 where
  -- the file's text
  pub text : List ℕ
  pub read : ReadsText files words.rules.now (Ok text)
  -- the policy that it means
  pub policy : PolicyValue
  pub meant : meaning_of text ≡ Ok policy
  -- how many algorithms, extensions, policies and accounts that has
  pub line : written ≡ counts_line policy
