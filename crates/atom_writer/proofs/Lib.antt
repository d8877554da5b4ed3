-- entry_len, write_member, doc_len: a count holds the length of each text
pub mod LengthLemmas
-- Doc::new: distinct numbers rise once they are sorted
pub mod NumberLemmas
-- write_doc, doc_len, write_member: texts that are added part by part
pub mod PieceLemmas
-- for crates that read texts of pieces: one reading, and the offset of a refusal
pub mod PiecedLemmas
-- for crates that read texts of pieces: two lists of pieces, compared from the first
pub mod SameLemmas
