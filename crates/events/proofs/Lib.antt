-- What the board has to do with the ledger of the proof: states, items in step, untaken messages.
pub mod Tools
pub mod Setting
pub mod PhaseByte
pub mod View
pub mod Changes
pub mod Pairs
pub mod Marks
pub mod Sim
pub mod Emit
-- Every event of a board is a step of the ledger.
pub mod Played
pub mod Sending
pub mod Caller
pub mod Leaving
pub mod Calling
pub mod Arriving
pub mod Taking
pub mod Storing
pub mod Delivering
pub mod Steps
