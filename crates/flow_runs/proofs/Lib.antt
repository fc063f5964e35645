mod Agreeing
mod Desks
mod Lines
mod Outcomes
