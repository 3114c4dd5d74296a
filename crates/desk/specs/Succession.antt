-- Which identity is in force, by the history, and whom TSTInfos name.
use Rattle.std.specs.Prelude.{◌≡◌, Bool, true, false, ◌&&◌, if◌then◌else◌, Option, Some, None}
use Rattle.std.specs.Str.{bytes_eq}
use Rattle.der.specs.{DataValue.value_in, Node.Node}
use Rattle.cms.specs.{Certificate.IsSubject, Certificate.IsSubjectName, Identity.IdentityValue}
use Rattle.book.specs.{History.InstalledValue, History.History, Identities.latest_identity, Values.installed_of}
use Rattle.desk.specs.Command.{InForce, Setting}

-- an identity as a history keeps it
abbrev pub installed_by : IdentityValue → InstalledValue
installed_by identity = installed_of identity.certificate identity.chain

-- it is the one that was installed last: certificate and chain are equal
abbrev pub is_latest : InstalledValue → Option InstalledValue → Bool
is_latest i None = false
is_latest i (Some latest) = bytes_eq latest.certificate i.certificate && bytes_eq latest.chain i.chain

-- What is in force is the identity that was installed last.
abbrev pub IsInForce : InForce → History → Type 0
IsInForce k b = latest_identity b ≡ Some (installed_by k.identity)

-- the name of an identity: the subject of its certificate
abbrev pub subject_of : IdentityValue → Node
subject_of identity = value_in identity.subject

-- its name stands in its certificate, and a TSTInfo has room for it: each identity that was read is such a one
pub record HasSubject (identity : IdentityValue) : Type 0 where
  pub subject : IsSubject identity.certificate (subject_of identity)
  pub name : IsSubjectName (subject_of identity)

-- whom a TSTInfo names (RFC 3161 2.4.2, tsa): the identity in force, where the policy file wants it
abbrev pub tsa_of : Setting → Option Node
tsa_of s = if s.file.counter.tsa_name then Some (subject_of s.in_force.identity) else None

-- Where TSTInfos name it, what is in force is the identity that was installed last.
abbrev pub IsNameable : Setting → History → Type 0
IsNameable s b = s.file.counter.tsa_name ≡ true → IsInForce s.in_force b

-- nobody is named, or the subject of the identity that was installed last
abbrev pub NamesLatest : Option Node → History → Type 0
NamesLatest None b = Unit {0}
NamesLatest (Some name) b =
    (i : InstalledValue) × (latest_identity b ≡ Some i) × IsSubject i.certificate name
