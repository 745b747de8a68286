mod EvaluateLemmas
mod SampleLemmas
mod CountLemmas
mod ValueLemmas
pub mod CallerLemmas
