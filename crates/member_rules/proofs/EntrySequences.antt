-- The lists of fields of an entry.
use Rattle.std.proofs.Common.{◌≡◌, ℕ, pos, List, [], ◌++◌, Some, None, refl, sym, append-nil, append_assoc, arith}
use Rattle.std.proofs.lemmas.Int.{ints}
use Rattle.std.proofs.lemmas.List.Elements.{All-nil}
use Rattle.atom_values.specs.Entry.{EntryValue, IsWhole, empty_text, person_limit, category_limit}
use Rattle.atom_values.specs.declared.link.Link.{Link}
use Rattle.atom_values.proofs.XmlTextLemmas.{IsXmlText-nil}
use Rattle.atom_writer.specs.Pieces.{joined}
use Rattle.atom_writer.proofs.PieceLemmas.{joined-cons, joined-none}
use Rattle.atom_writer.proofs.PiecedLemmas.{AreCompared}
use Rattle.member_rules.specs.Coding.{entry_fields, list_field, number_field}
use Rattle.member_rules.specs.EntryFields.{linked, contents, dates, front, persons, lists, texts, parts, FrontValue, ListsValue, TextsValue, PartsValue, entry_of, entries}
use Rattle.member_rules.specs.FieldLists.{one, both, StopsAt}
use Rattle.member_rules.specs.Fields.{Field, IsAbsent, counted, stamp, construct, optional, listed, person, link, category}
use Rattle.member_rules.proofs.FieldLemmas.{stamp_one, construct_one, optional_one, listed_one}
use Rattle.member_rules.proofs.PartLemmas.{person_one, category_one}
use Rattle.member_rules.proofs.RuledLemmas.{counted_one, linked_one, contents_one, construct_option_one}
use Rattle.member_rules.proofs.SequenceLemmas.{IsSequence, Continues, Renames, sequence_one, sequence_both, sequence_compared, stops_one, renamed, renamed_compared}

counted_is : counted.Is 1
unfolding counted
counted_is = (omega arith, omega arith)

pub counted_sequence : IsSequence (one counted)
counted_sequence = sequence_one counted counted_one 1 counted_is

pub counted_stops : (input : List ℕ) → IsAbsent counted input → StopsAt (one counted) input input
counted_stops input none = stops_one counted 1 counted_is input none

stamp_is : stamp.Is (pos 0)
unfolding stamp
stamp_is = (omega (arith, ints), omega (arith, ints))

pub stamp_sequence : IsSequence (one stamp)
stamp_sequence = sequence_one stamp stamp_one (pos 0) stamp_is

pub stamp_stops : (input : List ℕ) → IsAbsent stamp input → StopsAt (one stamp) input input
stamp_stops input none = stops_one stamp (pos 0) stamp_is input none

construct_is : construct.Is empty_text
unfolding construct
construct_is = record { short = omega arith; xml = IsXmlText-nil [] refl }

pub construct_sequence : IsSequence (one construct)
construct_sequence = sequence_one construct construct_one empty_text construct_is

pub construct_stops : (input : List ℕ) → IsAbsent construct input → StopsAt (one construct) input input
construct_stops input none = stops_one construct empty_text construct_is input none

none_is : {A : Type 0} (field : Field A) → (optional field).Is None
unfolding optional
none_is field = tt

pub stamp_option_sequence : IsSequence (one (optional stamp))
stamp_option_sequence = sequence_one (optional stamp) (optional_one stamp stamp_one) None (none_is stamp)

pub stamp_option_stops : (input : List ℕ) → IsAbsent (optional stamp) input
    → StopsAt (one (optional stamp)) input input
stamp_option_stops input none = stops_one (optional stamp) None (none_is stamp) input none

pub construct_option_sequence : IsSequence (one (optional construct))
construct_option_sequence = sequence_one (optional construct) construct_option_one None (none_is construct)

pub construct_option_stops : (input : List ℕ) → IsAbsent (optional construct) input
    → StopsAt (one (optional construct)) input input
construct_option_stops input none = stops_one (optional construct) None (none_is construct) input none

empty_is : {A : Type 0} (most : ℕ) (field : Field A) → (listed most field).Is []
unfolding listed
empty_is most field = (omega arith, All-nil field.Is)

pub persons_sequence : IsSequence (one (listed person_limit person))
persons_sequence =
    sequence_one (listed person_limit person) (listed_one person_limit person person_one) []
    (empty_is person_limit person)

pub persons_stops : (input : List ℕ) → IsAbsent (listed person_limit person) input
    → StopsAt (one (listed person_limit person)) input input
persons_stops input none = stops_one (listed person_limit person) [] (empty_is person_limit person) input none

pub categories_sequence : IsSequence (one (listed category_limit category))
categories_sequence =
    sequence_one (listed category_limit category) (listed_one category_limit category category_one) []
    (empty_is category_limit category)

pub categories_stops : (input : List ℕ) → IsAbsent (listed category_limit category) input
    → StopsAt (one (listed category_limit category)) input input
categories_stops input none =
    stops_one (listed category_limit category) [] (empty_is category_limit category) input none

linked_is : linked.Is []
unfolding linked listed
linked_is = ((omega arith, All-nil link.Is), refl)

pub linked_sequence : IsSequence (one linked)
linked_sequence = sequence_one linked linked_one [] linked_is

pub linked_stops : (input : List ℕ) → IsAbsent linked input → StopsAt (one linked) input input
linked_stops input none = stops_one linked [] linked_is input none

contents_is : (of : List Link) → (contents of).Is (Some empty_text)
unfolding contents optional
contents_is of = (construct_is, refl)

pub contents_sequence : (of : List Link) → IsSequence (one (contents of))
contents_sequence of = sequence_one (contents of) (contents_one of) (Some empty_text) (contents_is of)

pub contents_stops : (of : List Link) (input : List ℕ) → IsAbsent (contents of) input
    → StopsAt (one (contents of)) input input
contents_stops of input none = stops_one (contents of) (Some empty_text) (contents_is of) input none

pub stamps_sequence : IsSequence (both (one stamp) (λ _. one stamp))
stamps_sequence = sequence_both (one stamp) (λ _. one stamp) stamp_sequence (λ _ _. stamp_sequence)

pub dates_sequence : IsSequence dates
dates_sequence =
    sequence_both (one counted) (λ _. both (one stamp) (λ _. one stamp)) counted_sequence (λ _ _. stamps_sequence)

pub titled_sequence : IsSequence (both (one construct) (λ _. one (optional stamp)))
titled_sequence =
    sequence_both (one construct) (λ _. one (optional stamp)) construct_sequence (λ _ _. stamp_option_sequence)

pub front_sequence : IsSequence front
front_sequence =
    sequence_both dates (λ _. both (one construct) (λ _. one (optional stamp))) dates_sequence
    (λ _ _. titled_sequence)

pub both_persons_sequence : IsSequence persons
both_persons_sequence =
    sequence_both (one (listed person_limit person)) (λ _. one (listed person_limit person)) persons_sequence
    (λ _ _. persons_sequence)

pub linked_categories_sequence : IsSequence (both (one linked) (λ _. one (listed category_limit category)))
linked_categories_sequence =
    sequence_both (one linked) (λ _. one (listed category_limit category)) linked_sequence (λ _ _. categories_sequence)

pub lists_sequence : IsSequence lists
lists_sequence =
    sequence_both persons (λ _. both (one linked) (λ _. one (listed category_limit category))) both_persons_sequence
    (λ _ _. linked_categories_sequence)

pub summary_sequence : (of : List Link) → IsSequence (both (one (optional construct)) (λ _. one (contents of)))
summary_sequence of =
    sequence_both (one (optional construct)) (λ _. one (contents of)) construct_option_sequence
    (λ _ _. contents_sequence of)

pub texts_sequence : (of : List Link) → IsSequence (texts of)
texts_sequence of =
    sequence_both (one (optional construct)) (λ _. both (one (optional construct)) (λ _. one (contents of)))
    construct_option_sequence (λ _ _. summary_sequence of)

pub later_sequence : IsSequence (both lists (λ l. texts l.1.0))
later_sequence = sequence_both lists (λ l. texts l.1.0) lists_sequence (λ l _. texts_sequence l.1.0)

pub parts_sequence : IsSequence parts
parts_sequence = sequence_both front (λ _. both lists (λ l. texts l.1.0)) front_sequence (λ _ _. later_sequence)

abbrev pub parts_of : EntryValue → PartsValue
parts_of e = (
  ((e.number, (e.edited, e.updated)), (e.title, e.published)),
  (((e.authors, e.contributors), (e.links, e.categories)), (e.rights, (e.summary, e.content))),
)

entry_renames : Renames parts entries entry_of parts_of
unfolding one both counted stamp construct optional listed person link category linked contents entries entry_fields
entry_renames = record {
  is = λ b is. record {
    whole = record { counted = is.0.0.0.0; no_edit_link = is.1.0.1.0.1; shown = is.1.1.1.1.1 };
    number = is.0.0.0.1;
    edited = is.0.0.1.0;
    title = is.0.1.0;
    updated = is.0.0.1.1;
    published = is.0.1.1;
    authors = is.1.0.0.0;
    contributors = is.1.0.0.1;
    links = is.1.0.1.0.0;
    categories = is.1.0.1.1;
    rights = is.1.1.0;
    summary = is.1.1.1.0;
    content = is.1.1.1.1.0;
  };
  pieces = λ b. refl;
  was = λ e is. (
    (((is.whole.counted, is.number), (is.edited, is.updated)), (is.title, is.published)),
    (
      ((is.authors, is.contributors), ((is.links, is.whole.no_edit_link), is.categories)),
      (is.rights, (is.summary, (is.content, is.whole.shown))),
    ),
  );
  again = λ e. refl;
}

pub entry_begun : (input : List ℕ) → Continues entries input parts input entry_of
entry_begun input = renamed parts entries entry_of parts_of entry_renames input

pub entries_compared : AreCompared entries
entries_compared =
    renamed_compared parts entries entry_of parts_of entry_renames (sequence_compared parts parts_sequence)

-- the rules of the fields together
pub whole : (f : FrontValue) (l : ListsValue) (t : TextsValue) → front.Is f → lists.Is l → (texts l.1.0).Is t
    → IsWhole f.0.0 l.1.0 t.1.1
unfolding both entries
whole f l t is_front is_lists is_texts = (entry_renames.is (f, (l, t)) (is_front, (is_lists, is_texts))).whole

-- the fields that are written one after another
pub entry_written : (e : EntryValue)
    → number_field e.number ++ stamp.bytes e.edited ++ stamp.bytes e.updated ++ construct.bytes e.title
    ++ (optional stamp).bytes e.published ++ list_field person.bytes e.authors ++ list_field person.bytes e.contributors
    ++ list_field link.bytes e.links ++ list_field category.bytes e.categories ++ (optional construct).bytes e.rights
    ++ (optional construct).bytes e.summary ++ (optional construct).bytes e.content
    ≡ joined (entry_fields e)
unfolding stamp construct optional person link category entry_fields
entry_written e = sym (simp (joined-cons, joined-none, append-nil, append_assoc))
