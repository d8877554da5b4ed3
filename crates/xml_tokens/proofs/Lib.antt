-- the token layer: texts that begin with given bytes
pub mod BeginLemmas
-- the token layer: parts that are read one after another
pub mod PartLemmas
-- Cursor::spaces, name, before: the longest front whose bytes pass a test
pub mod RunLemmas
-- Cursor: names, quotes, literals and `=`
pub mod CursorLemmas
-- find, Cursor::up_to: the first place of a pattern
pub mod FindLemmas
-- Cursor::reference, named, number
pub mod ReferenceLemmas
-- Cursor::number
pub mod NumberLemmas
-- Cursor::reference: a reference, part by part
pub mod ReferencePartLemmas
-- push_lines, value: line ends
pub mod LineLemmas
-- value, Cursor::value: the pieces of a value
pub mod ValueLemmas
-- Cursor::value: the pieces of a value as they are written
pub mod PlainLemmas
-- Cursor::value: a value up to its quote
pub mod PlainReadLemmas
-- Cursor::version: the parts of a declaration
pub mod DeclarationLemmas
-- split_name: the parts of a qualified name
pub mod NameLemmas
-- Cursor::section, comment, closing: part by part
pub mod TokenLemmas
-- Cursor::attribute (open): a qualified name is read in one way
pub mod AttributeLemmas
-- Cursor::declaration: how a part is read that says the encoding
pub mod EncodingReadLemmas
-- Cursor::gap, encoding, behind_encoding, behind_version
pub mod EncodingLemmas
-- Cursor::encoding_name, begins_in_any_case
pub mod EncodingNameLemmas
-- Cursor::declaration: a declaration, part by part
pub mod DeclaredLemmas
-- texts of XML characters
pub mod XmlLemmas
-- Cursor::attribute: attributes in which a text ends
pub mod AttributeCutLemmas
-- Cursor::attributes: the attributes of a tag and its end
pub mod BehindNameLemmas
-- has_same_names: names behind numbers, in their order
pub mod KeyLemmas
-- has_same_pair: names that are the same
pub mod SameNameLemmas
-- Cursor::tag: tags, and the attributes that their texts are read as
pub mod TagLemmas
-- Cursor::tag: tags in which a text ends
pub mod OwnTagLemmas
-- Cursor::tag: a tag as it is read
pub mod WholeTagLemmas
-- Cursor::token: characters of content
pub mod CharacterLemmas
-- Cursor::token: how the spelling of each token begins
pub mod TokenFirstLemmas
-- Cursor::token: characters, white space and references
pub mod TokenReadLemmas
-- Cursor::end_tag, marked: tokens that begin with `<`
pub mod OpenTokenLemmas
-- Cursor::instruction_end
pub mod InstructionLemmas
-- Cursor::instruction: the name of an instruction
pub mod InstructionNameLemmas
-- Cursor::instructed: an instruction in which a text ends
pub mod InstructionCutLemmas
-- Cursor::instructed: instructions and declarations as tokens
pub mod InstructedLemmas
-- Scopes: the declarations of the open elements, and their places
pub mod PlaceLemmas
pub mod ScopeLemmas
-- first_suspect: the first suspect byte after blocks that have none
pub mod SuspectLemmas
-- xml_length, allowed_length: the first character that isn't allowed, byte by byte
pub mod AllowedLemmas
-- Elements: from point to point of a document
pub mod ProgressLemmas
-- Elements::content, skip: the content of an element, event by event
pub mod ContentLemmas
-- Elements::event: a text begins with one declaration at most, of one encoding
pub mod OneDeclarationLemmas
-- Elements::begin, event: a text begins with one token at most
pub mod OneTokenLemmas
-- a declaration is XML text
pub mod DeclaredXmlLemmas
-- XML text before bytes that no XML text begins with
pub mod SuffixLemmas
-- Elements::event: what a token adds to the tree
pub mod EventLemmas
-- Elements::begin: a whole tag opens its element
pub mod BeginTagLemmas
-- Elements::begin: why a tag is refused
pub mod RefusalLemmas
-- Elements::step: why a token that is not read is refused
pub mod StepLemmas
-- Elements::new, Element::attribute, Content::trimmed, xml_length
pub mod FirstLemmas
-- Elements: the tree of a whole document
pub mod DocumentLemmas
-- tokens_are_read_in_one_way: the clauses `trees` and `apart`
pub mod OneDocumentLemmas
-- tokens_are_read_in_one_way: the clauses `refusals` and `apart`
pub mod OneRefusalLemmas
-- the crates above: the elements of a document in order, and the first refusal, by any reader's rules
pub mod OrderLemmas
