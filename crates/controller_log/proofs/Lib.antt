pub mod Answered
pub mod Entering
pub mod Leads
pub mod Pieces
pub mod RowFacts
pub mod Rules
pub mod WrittenBack
