pub mod AskedLaws
mod FirstPlaces
mod KindLaws
mod LineLaws
mod NameLaws
mod TurnLaws
