pub mod LengthsKeep
