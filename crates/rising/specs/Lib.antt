pub mod Spread
pub mod Rises
pub mod Shut
pub mod Rising
pub mod Valid
