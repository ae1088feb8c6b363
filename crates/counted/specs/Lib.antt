-- What is asked of the window's calls (Sequence), its proof (SequenceHolds), and worked rows.
pub mod Sequence
pub mod Rows
