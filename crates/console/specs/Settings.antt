-- What a TSTInfo says besides what its request says.
use Rattle.std.specs.Prelude.{◌≡◌, ℕ, Bool, List}
use Rattle.der.specs.ObjectIdentifier.{IsOid, oid_text}
use Rattle.console.specs.declared.settings.Settings.{Settings}
use Rattle.command_line.specs.declared.words.TstWords.{TstWords}

-- moment and accuracy are in microseconds
pub record SettingsValue : Type 0 where
  pub policy : List ℕ
  pub moment : ℕ
  pub digits : ℕ
  pub serial : ℕ
  pub accuracy : ℕ
  pub ordering : Bool

abbrev pub settings_value : Settings → SettingsValue
settings_value s = record {
  policy = s.policy;
  moment = s.moment;
  digits = s.digits;
  serial = s.serial;
  accuracy = s.accuracy;
  ordering = s.ordering;
}

-- The words state the settings: the policy by its text, and everything else as it is.
pub record States (words : TstWords) (settings : SettingsValue) : Type 0 where
  pub oid : IsOid settings.policy
  pub policy : words.policy.now ≡ oid_text settings.policy
  pub moment : words.moment ≡ settings.moment
  pub digits : words.digits ≡ settings.digits
  pub serial : words.serial ≡ settings.serial
  pub accuracy : words.accuracy ≡ settings.accuracy
  pub ordering : words.ordering ≡ settings.ordering
