-- A document that is read while its bytes come.
use Rattle.std.specs.Prelude.{◌≡◌, ◌≢◌, ℕ, ◌<◌, ◌≤◌, ◌^◌, List, [], ◌∷◌, ◌++◌, map, length, All, Bool, Option, None, Some, IfSome, IsSome, Result, Ok, Err, true, false, if◌then◌else◌, codes}
use Rattle.deleted_entries.specs.declared.item.Item.{Item}
use Rattle.atom_writer.specs.Doc.{DocValue, IsDoc}
use Rattle.atom_writer.specs.Pieces.{item_piece, joined, text}
use Rattle.atom_grammar.specs.declared.body.Body.{Body}
use Rattle.atom_grammar.specs.declared.progress.Progress.{Progress}
use Rattle.atom_grammar.specs.declared.part_fault.PartFault.{PartFault}
use Rattle.atom_grammar.specs.declared.part_fault.PartFault.TheVariants.{Mismatch, NoMemory}
use Rattle.atom_grammar.specs.declared.read.ReadFault.{ReadFault}
use Rattle.atom_grammar.specs.declared.read.ReadFault.TheVariants.{NotADocument, NoMemory as Memory}
use Rattle.atom_grammar.specs.Cutting.{IsCut, IsUnfinished}
use Rattle.atom_grammar.specs.FeedParts.{IsSpanOf}
use Rattle.atom_grammar.specs.Refusal.{IsNoDocument, IsPlaceOfRefusal}
use Rattle.atom_grammar.specs.Stages.{IsRefused, IsOpening, AreItems, head_pieces}

-- the greatest length of a document's text that is read
abbrev pub document_limit : ℕ
document_limit = 67_108_864

-- the pieces that were read keep the rules of a document
pub record KeepsBody (body : Body) : Type 0 where
  pub opening : IsOpening body.name body.kind body.updated
  pub small : body.prev < 2 ^ 32
  pub span : IsSpanOf body.kind body.prev body.span
  pub items : AreItems body.span body.items.items

-- the text of the pieces that were read: those up to the span, some items, and perhaps the end
unfoldable pub body_text : Body → List ℕ
body_text body =
    joined (head_pieces body.name body.kind body.updated body.prev body.span)
    ++ joined (map (item_piece body.name) body.items.items)
    ++ (if body.ended then codes "</feed>\n" else [])

-- the text of what was read
abbrev pub read_text : Option Body → List ℕ
read_text None = []
read_text (Some body) = body_text body

-- the pieces up to the span are read
pub record IsBegun (body : Body) (before after : List ℕ) : Type 0 where
  pub keeps : KeepsBody body
  pub items : body.items.items ≡ []
  pub ended : body.ended ≡ false
  pub split : before ≡ body_text body ++ after

abbrev pub ReadsHead : List ℕ → Result Body PartFault → List ℕ → Type 0
ReadsHead before (Ok body) after = IsBegun body before after
ReadsHead before (Err Mismatch) after = IsRefused [] before after
ReadsHead before (Err NoMemory) after = Unit {0}

-- no piece is allowed next, and the document doesn't end here either
pub record IsStuck (body : Body) (rest : List ℕ) : Type 0 where
  pub no_more : body.ended ≡ false → (item : Item) (left : List ℕ)
      → AreItems body.span (body.items.items ++ item ∷ []) → rest ≢ item_piece body.name item ++ left
  pub no_end : body.ended ≡ false → (left : List ℕ) → rest ≢ codes "</feed>\n" ++ left
  pub unended : body.ended ≡ true → rest ≢ []

-- one more piece is read
pub record HasTaken (before after : Body) (input rest : List ℕ) : Type 0 where
  pub keeps : KeepsBody after
  pub split : body_text before ++ input ≡ body_text after ++ rest
  pub less : length rest < length input

-- all pieces that were left are read
pub record IsReadWhole (before after : Body) (input : List ℕ) : Type 0 where
  pub keeps : KeepsBody after
  pub ended : after.ended ≡ true
  pub split : body_text before ++ input ≡ body_text after

-- however the text goes on behind `input`, it is refused where `rest` begins
abbrev pub IsRefusedBehind : List ℕ → List ℕ → List ℕ → Type 0
IsRefusedBehind before input rest = (more : List ℕ) → IsRefused [] (before ++ input ++ more) (rest ++ more)

-- the document, once all pieces were read
abbrev pub document_of : Body → DocValue
document_of body = record {
  name = body.name;
  kind = body.kind;
  span = body.span;
  prev = body.prev;
  updated = body.updated;
  items = body.items.items;
}

-- whether the last piece was read
abbrev pub has_ended : Option Body → Bool
has_ended None = false
has_ended (Some body) = body.ended

-- what is left of a document is read, or refused
abbrev pub ReadsRest : Option Body → List ℕ → Result DocValue PartFault → List ℕ → Type 0
ReadsRest begun before (Ok d) after = IsDoc d × (read_text begun ++ before ≡ text d)
ReadsRest begun before (Err Mismatch) after = IsRefused [] (read_text begun ++ before) after
ReadsRest begun before (Err NoMemory) after = Unit {0}

-- whole pieces were read
pub record ReadsWhole (before after : Option Body) (input : List ℕ) : Type 0 where
  pub some : IsSome after
  pub keeps : IfSome after KeepsBody
  pub split : read_text after ≡ read_text before ++ input

-- whole pieces, and one that isn't whole from `start` on
pub record IsCutText (text : List ℕ) (start : ℕ) : Type 0 where
  pub pieces : List (List ℕ)
  pub pending : List ℕ
  pub cut : All IsCut pieces
  pub unfinished : IsUnfinished pending
  pub split : text ≡ joined pieces ++ pending
  pub place : start ≡ length (joined pieces)

-- all bytes that came
abbrev pub fed_text : Progress → List ℕ
fed_text progress = read_text progress.body ++ progress.text.items

-- how far a text was read that isn't refused
pub record IsGoing (progress : Progress) : Type 0 where
  pub keeps : IfSome progress.body KeepsBody
  pub cut : IsCutText progress.text.items progress.start
  pub used : progress.used ≡ length (read_text progress.body)

-- the fault holds of these bytes, whatever follows them
abbrev pub IsRefusalOf : List ℕ → ReadFault → Type 0
IsRefusalOf bytes (NotADocument at) =
    (more : List ℕ) → IsNoDocument (bytes ++ more) × IsPlaceOfRefusal (bytes ++ more) at
IsRefusalOf bytes Memory = Unit {0}

-- A reader as contracts see it. After a refusal `fed` says nothing.
pub record ReaderValue : Type 0 where
  pub length : ℕ
  pub refusal : Option ReadFault
  pub fed : List ℕ

-- the reader was given these bytes, however they were cut
pub record HasRead (reader : ReaderValue) (bytes : List ℕ) : Type 0 where
  pub length : reader.length ≡ length bytes
  pub fed : reader.refusal ≡ None → reader.fed ≡ bytes
  pub refused : IfSome reader.refusal (IsRefusalOf bytes)

-- what a reader keeps
pub record KeepsReader (progress : Progress) (came : ℕ) (refusal : Option ReadFault) : Type 0 where
  pub within : came ≤ document_limit
  pub going : refusal ≡ None → IsGoing progress
  pub whole : refusal ≡ None → came ≡ length (fed_text progress)
