pub mod StateTable
pub mod Agreement
pub mod Examples
pub mod EventExamples
pub mod BulkLaws
