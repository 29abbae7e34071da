pub mod Beginnings
mod Blames
pub mod Ended
pub mod Ending
pub mod Ends
pub mod Grounds
pub mod Members
pub mod Noted
pub mod Others
pub mod OwnCalls
pub mod Rests
pub mod Standing
pub mod Stays
mod Stops
pub mod Waited
pub mod Waits
