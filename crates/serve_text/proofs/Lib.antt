mod TextLemmas
mod LineLemmas
mod SayLemmas
mod FormatLemmas
