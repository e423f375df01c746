mod AnswerLaws
mod NameSets
mod ObjectLaws
mod OptionLaws
mod ReadLaws
mod SettledLaws
mod TextMaps
