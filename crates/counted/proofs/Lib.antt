pub mod SequenceHolds
