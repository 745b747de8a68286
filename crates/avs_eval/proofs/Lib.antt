mod BodyLemmas
mod CallLemmas
mod DepthLemmas
mod RunLemmas
