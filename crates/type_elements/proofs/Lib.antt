pub mod ElementsAround
pub mod ListsAhead
pub mod TypesAtElements
