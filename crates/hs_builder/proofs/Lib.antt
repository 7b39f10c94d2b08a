mod Deepening
mod Lifting
