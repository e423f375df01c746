pub mod Conditions
pub mod OldTables
pub mod RecordReadings
