pub mod ReplyLemmas
pub mod SessionLemmas
pub mod LoadLemmas
pub mod EndLemmas
