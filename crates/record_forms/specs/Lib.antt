pub mod Forms
pub mod RecordTable
pub mod Records
