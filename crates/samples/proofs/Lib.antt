mod Testing
mod Minimals
mod Judging
mod Sampling
mod Tables
mod Runs
