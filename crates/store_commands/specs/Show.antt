-- `show`: how it ends by its input.
use Rattle.std.specs.Prelude.{◌≡◌, ◌⊎◌, ℕ, ◌<◌, ◌≤◌, List, ◌++◌, length}
use Rattle.atom_writer.specs.Doc.{DocValue, IsDoc}
use Rattle.atom_writer.specs.Pieces.{text}
use Rattle.atom_grammar.specs.Refusal.{IsNoDocument, IsPlaceOfRefusal}
use Rattle.doc_source.specs.Outside.{SourceState}
use Rattle.command_ends.specs.declared.fault.Refusal.TheVariants.{TooLong, BadDocument}
use Rattle.command_ends.specs.declared.status.Status.TheVariants.{Done}
use Rattle.command_ends.specs.Answer.{Answer}
use Rattle.command_ends.specs.Fault.{refusal_answer}
use Rattle.command_ends.specs.Summary.{summary}

-- how many bytes a document may have
abbrev pub document_limit : ℕ
document_limit = 67_108_864

-- the input has more bytes than any document
pub record IsPast (input : List ℕ) (answer : Answer) : Type 0 where
  pub past : document_limit < length input
  pub is : answer ≡ refusal_answer TooLong

-- the input is the text of a document
pub record IsSummary (input : List ℕ) (answer : Answer) : Type 0 where
  pub within : length input ≤ document_limit
  pub document : DocValue
  pub lawful : IsDoc document
  pub split : input ≡ text document
  pub is : answer ≡ record { status = Done; printed = summary document }

-- the input isn't the text of a document, and is refused at this offset
pub record IsBadDocument (input : List ℕ) (answer : Answer) : Type 0 where
  pub within : length input ≤ document_limit
  pub none : IsNoDocument input
  pub offset : ℕ
  pub place : IsPlaceOfRefusal input offset
  pub is : answer ≡ refusal_answer (BadDocument offset)

-- how `show` ends by its input
abbrev pub IsShown : List ℕ → Answer → Type 0
IsShown input answer = IsPast input answer ⊎ IsSummary input answer ⊎ IsBadDocument input answer

-- the bytes that were read before a call failed are within the limit
pub record ReadsWithinLimit (before after : SourceState) : Type 0 where
  pub read : List ℕ
  pub from : before.left ≡ read ++ after.left
  pub within : length read ≤ document_limit
