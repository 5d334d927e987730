mod Arms
mod Chains
mod Layers
