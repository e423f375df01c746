pub mod FirstOfEach
pub mod GatheredTypes
pub mod LevelsOfAlike
pub mod NearestTypes
pub mod NextLevels
pub mod ReachedLaws
