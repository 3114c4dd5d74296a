pub mod ChainView
pub mod Outline
pub mod OutlineView
pub mod SentLaws
