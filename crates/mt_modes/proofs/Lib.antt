pub mod RuleLemmas
