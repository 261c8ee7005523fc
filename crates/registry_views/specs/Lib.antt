pub mod Reports
pub mod Records
pub mod Lists
