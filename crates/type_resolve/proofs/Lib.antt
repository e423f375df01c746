mod BarePackages
mod HeaderLemmas
mod MirrorLemmas
mod ScopesLemmas
mod SpellingLemmas
