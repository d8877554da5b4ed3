-- serves `Certificate::read` and `certificates_have_one_text`: no line has an LF
pub mod BreakLemmas
-- serves `Certificate::read`: the fields of a line
pub mod FieldLemmas
-- serves `Certificate::of`, `certificate` and `parts`: the lines and the live entries of a mirror's documents
pub mod HeldLemmas
-- serves `Certificate::read`, `bad`, and `certificates_have_one_text`: lists of lines that begin alike
pub mod LineLemmas
-- serves `Certificate::read`, `bad` and `refused`: the line that may come next
pub mod NextLemmas
-- serves `Certificate::read`: the parts of a text that were read
pub mod PartLemmas
-- serves `Certificate::print`
pub mod PrintLemmas
-- serves `Certificate::read`, `bad` and `refused`: the first line that isn't allowed
pub mod ReadLemmas
-- serves `Certificate::read`: its clauses, from the result of the reading
pub mod ReadingLemmas
-- serves `certificates_have_one_text`
pub mod SameLemmas
-- serves `Certificate::of`, `served`, and the crates above: documents that one feed served
pub mod ServedLemmas
