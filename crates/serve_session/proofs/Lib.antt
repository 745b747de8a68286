pub mod ServeLemmas
