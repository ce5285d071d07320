mod CaseLemmas
mod WordLemmas
mod EndingLemmas
