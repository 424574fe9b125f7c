pub mod LongJobs
pub mod MappedErrors
pub mod PartsWritten
pub mod Printed
