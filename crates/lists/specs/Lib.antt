pub mod Forms
pub mod Formed
pub mod Left
