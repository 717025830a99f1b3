mod Buffers
mod Standing
mod Growth
