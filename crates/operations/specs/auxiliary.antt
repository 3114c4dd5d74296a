pub mod AnySignerLaws
