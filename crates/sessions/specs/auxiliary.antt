pub mod RenewedLaws
