-- The texts of a line, while it is made: a stepping stone, no definition.
use Rattle.std.specs.{Prelude.◌≡◌, Prelude.string_bytes, Fmt.decimal}
use Rattle.hex.specs.Hex.{encode_lower}
use Rattle.book.specs.Rows.{StampRow}
use Rattle.audit.specs.{Extract.identifier_text, Extract.moment_text, Extract.token_text, declared.line.Texts.Texts}

pub record AreTexts (texts : Texts) (stamp : StampRow) : Type 0 where
  pub serial : string_bytes texts.serial ≡ decimal stamp.serial
  pub gen_time : texts.gen_time.items ≡ moment_text stamp.gen_time
  pub policy : string_bytes texts.policy ≡ identifier_text stamp.policy
  pub algorithm : string_bytes texts.algorithm ≡ identifier_text stamp.algorithm
  pub digest : string_bytes texts.digest ≡ encode_lower stamp.digest
  pub token : string_bytes texts.token ≡ token_text stamp.token
