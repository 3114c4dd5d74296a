-- The record that a policy file means.
use Rattle.std.specs.Prelude.{ℕ, List, Bool, Option}

-- names by their octets, object identifiers by their subidentifiers (X.690 8.19)
pub record AlgorithmValue : Type 0 where
  pub name : List ℕ
  pub oid : List ℕ
  pub length : ℕ

pub record ExtensionValue : Type 0 where
  pub name : List ℕ
  pub oid : List ℕ
  pub max_length : ℕ

pub record TsaPolicyValue : Type 0 where
  pub name : List ℕ
  pub oid : List ℕ
  pub algorithms : List (List ℕ)
  pub extensions : List (List ℕ)
  pub certificate : Bool

pub record AccountValue : Type 0 where
  pub name : List ℕ
  pub key_sha256 : Option (List ℕ)
  pub active : Bool
  pub auditor : Bool
  pub operator : Bool
  pub policies : List (List ℕ)
  pub daily_quota : ℕ

-- accounts with whom a deposit can be shared under one name
pub record GroupValue : Type 0 where
  pub name : List ℕ
  pub members : List (List ℕ)

pub record CounterValue : Type 0 where
  pub accuracy_us : ℕ
  pub fraction_digits : ℕ
  pub ordering : Bool
  pub drift_ppb : ℕ
  pub max_age_us : ℕ
  pub anonymous : Option (List ℕ)
  pub tsa_name : Bool

pub record PolicyValue : Type 0 where
  pub counter : CounterValue
  pub algorithms : List AlgorithmValue
  pub extensions : List ExtensionValue
  pub policies : List TsaPolicyValue
  pub accounts : List AccountValue
  pub groups : List GroupValue
