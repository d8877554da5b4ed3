-- read_doc: the links of an archive, one after another
pub mod ArchiveLinkLemmas
-- read_doc: the own address of a document has one base
pub mod BaseLemmas
-- read_doc: what was read of a document, as pieces
pub mod BodyLemmas
-- DocReader: where a text is cut into pieces
pub mod CuttingLemmas
-- both laws: the pieces of two documents, compared from the first
pub mod PairLemmas
-- read_doc: decimal numbers
pub mod DecimalLemmas
-- read_doc: the pieces up to the span, one after another
pub mod HeadLemmas
-- read_doc: the items and the end of a document
pub mod EndLemmas
-- DocReader: the text of an entry has no end tag of an entry
pub mod EndTagLemmas
-- read_doc: the piece of an entry, and of a tombstone
pub mod EntryLemmas
-- read_doc: the pieces outside the items, part by part
pub mod FeedPartLemmas
-- both laws, read_doc: each piece outside the items has one reading
pub mod FeedPieceLemmas
-- read_doc: the items, one after another
pub mod ItemListLemmas
-- both laws, read_doc: the piece of an item has one reading
pub mod ItemLemmas
-- DocReader: the lines of the bytes that come
pub mod LineLemmas
-- DocReader: the pieces that are one line
pub mod LinePieceLemmas
-- read_doc: lists of persons, links and categories
pub mod ManyLemmas
-- DocReader: the marks that end pieces
pub mod MarkLemmas
-- read_doc: printed timestamps
pub mod MomentLemmas
-- read_doc: identifiers, addresses and numbers
pub mod NameLemmas
-- read_doc: the pieces that name the feed, one after another
pub mod OpeningLemmas
-- read_doc: the feed identifier and the own address of a document
pub mod OwnAddressLemmas
-- read_doc: a piece is consumed whole or not at all
pub mod PieceLemmas
-- item_offsets, read_entry: the pieces of items in a text
pub mod PlaceLemmas
-- DocReader: texts of identifiers, timestamps, numbers and addresses
pub mod PlainLemmas
-- DocReader: the bytes that came, and the refusals of them
pub mod ProgressLemmas
-- read_doc: readings of parts, put together
pub mod ReadingLemmas
-- both laws, and the clauses `only` and `refused` of read_doc
pub mod RefusalLemmas
-- read_doc, clause `refused`: each step of a document
pub mod RefusedLemmas
-- read_doc: the parts of an item
pub mod ShapeLemmas
-- read_doc: spans and items that keep the rules of their place
pub mod SpanLemmas
-- read_doc, clause `refused`: the pieces read so far begin a document
pub mod StartLemmas
-- read_doc, clause `refused`: the pieces that may come next
pub mod StuckLemmas
-- read_doc: texts that are read byte by byte
pub mod TextLemmas
-- both laws: texts without a byte, and the text before it
pub mod UntilLemmas
-- both laws, read_doc: the pieces with a text
pub mod ValueLemmas
-- DocReader: refusals of whole pieces stay, whatever follows
pub mod WholeLemmas
