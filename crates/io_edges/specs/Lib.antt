pub mod Files
pub mod Made
pub mod Memory
pub mod Outside
pub mod Store
pub mod Wire
