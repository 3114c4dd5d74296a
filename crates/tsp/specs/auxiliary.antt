pub mod RulesOfOctets
pub mod TstParser
pub mod TstView
