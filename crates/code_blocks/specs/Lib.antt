pub mod Divided
pub mod Faults
pub mod Kinds
pub mod Machines
pub mod Rules
pub mod Trellises
