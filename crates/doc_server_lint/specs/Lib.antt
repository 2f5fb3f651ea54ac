pub mod Faults
pub mod Warnings
pub mod Findings
pub mod Laws
pub mod Lines
pub mod Reports
pub mod Syntax
