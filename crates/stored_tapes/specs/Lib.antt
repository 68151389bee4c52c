-- The definitions that the contracts cite.
pub mod AnswerText
pub mod Replays
pub mod StoredTapes
