mod Apart
mod InOrder
mod Placing
