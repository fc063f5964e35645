pub mod Crossing
mod OneWay
