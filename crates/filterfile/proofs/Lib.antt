pub mod Accepting
pub mod Answered
pub mod ClauseTurns
pub mod Handing
pub mod Heads
pub mod Parted
pub mod Undoing
pub mod WholeFiles
