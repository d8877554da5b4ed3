-- Stamp::parse, Stamp::print: the calendar
pub mod CalendarLemmas
-- Copies::copy of drafts and entries
pub mod CopyLemmas
-- Stamp::parse: forms of texts and tests of numbers
pub mod DateFormLemmas
-- Stamp::parse: a date text has the value that its parts state
pub mod DateTextLemmas
-- Stamp::parse: a text with a value is a date text
pub mod DateTextReadLemmas
-- Draft::normal
pub mod EntryLemmas
-- escape_into, escaped_len
pub mod EscapeLemmas
-- Stamp::print
pub mod PrintLemmas
-- printed_is_read
pub mod PrintedLemmas
-- trimmed
pub mod SpaceLemmas
-- unescape
pub mod UnescapeLemmas
-- AtomText::of, unescape
pub mod XmlTextLemmas
-- Copies::copy of lists
pub mod WalkLemmas
