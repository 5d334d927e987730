mod Fronts
mod Looking
mod Turns
