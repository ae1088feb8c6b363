-- The parts that a leaking list is made of. A reader need not believe these: what holds of a written list is proved.
pub mod Parts
pub mod Rise
pub mod RunsTo
