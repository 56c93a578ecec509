-- Lemmas about numbers that fit.
pub mod Walked
pub mod Places
