-- What ties the code to the definitions beside this folder: none of these says what a message does.
pub mod AtHand
pub mod Interrupted
pub mod News
pub mod Published
pub mod Refused
pub mod Seen
pub mod SeenParams
pub mod Sessions
pub mod Renamings
