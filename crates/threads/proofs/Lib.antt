mod Acts
mod Agreeing
mod Keeping
mod Owns
mod Places
mod Promises
