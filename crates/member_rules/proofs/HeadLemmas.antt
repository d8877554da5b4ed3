-- The lists of fields of a head.
use Rattle.std.proofs.Common.{◌≡◌, ℕ, zero, suc, ◌<◌, pos, List, [], ◌∷◌, ◌++◌, None, All, replicate, refl, sym, append-nil, append_assoc, IsTrue, codes, arith}
use Rattle.std.proofs.lemmas.Int.{ints}
use Rattle.std.proofs.lemmas.List.Elements.{All-nil, All-cons}
use Rattle.atom_values.proofs.XmlTextLemmas.{IsXmlText-nil}
use Rattle.atom_writer.specs.Pieced.{text_of}
use Rattle.atom_writer.specs.Pieces.{joined}
use Rattle.atom_writer.proofs.PieceLemmas.{joined-cons, joined-none}
use Rattle.atom_writer.proofs.PiecedLemmas.{AreCompared}
use Rattle.chain_links.specs.Base.{base_text, is_label_char, is_segment_char, IsWord}
use Rattle.member_rules.specs.Coding.{head_fields, heads, number_field, size_field, stamp_field, text_field}
use Rattle.member_rules.specs.FieldLists.{one, both, StopsAt}
use Rattle.member_rules.specs.Fields.{IsAbsent, stamp, text}
use Rattle.member_rules.specs.Head.{HeadValue, IsHead}
use Rattle.member_rules.specs.HeadFields.{format, base, feed_id, title, window, capacity, created, titles, NameValue, name_parts, settings, SettingsValue, HeadParts, head_parts, head_of}
use Rattle.member_rules.proofs.RuledLemmas.{format_one, base_one, feed_id_one, title_one, window_one, capacity_one, created_one}
use Rattle.member_rules.proofs.SequenceLemmas.{IsSequence, Continues, Renames, sequence_one, sequence_both, sequence_compared, stops_one, renamed, renamed_compared}

format_is : format.Is 1
unfolding format
format_is = (omega arith, omega arith)

example_base : List ℕ
example_base = codes "http://a/"

base_is : base.Is example_base
unfolding base example_base base_text
base_is = record {
  short = omega arith;
  parts = record { labels = codes "a" ∷ []; port = None; segments = [] };
  rules = record {
    labels = (
      λ e. cc,
      All-cons (IsWord is_label_char) (codes "a") []
          (λ e. cc, All-cons (λ c. IsTrue (is_label_char c)) 97 [] refl (All-nil (λ c. IsTrue (is_label_char c))))
          (All-nil (IsWord is_label_char)),
    );
    port = tt;
    segments = All-nil (IsWord is_segment_char);
  };
  spelt = refl;
}

zeros : (n : ℕ) → All (λ b. b < 256) (replicate n 0)
zeros zero = All-nil (λ b. b < 256)
zeros (suc n) = All-cons (λ b. b < 256) 0 (replicate n 0) (omega arith) (zeros n)

id_is : feed_id.Is (replicate 16 0)
unfolding feed_id
id_is = record { size = refl; each = zeros 16; version = λ e. cc }

title_is : title.Is []
unfolding title
title_is = (record { short = omega arith; xml = IsXmlText-nil [] refl }, omega arith)

window_is : window.Is 1
unfolding window
window_is = (omega arith, omega arith)

capacity_is : capacity.Is 4_096
unfolding capacity
capacity_is = (omega arith, omega arith)

created_is : created.Is (pos 0)
unfolding created
created_is = ((omega (arith, ints), omega (arith, ints)), omega (arith, ints))

pub format_sequence : IsSequence (one format)
format_sequence = sequence_one format format_one 1 format_is

pub format_stops : (input : List ℕ) → IsAbsent format input → StopsAt (one format) input input
format_stops input none = stops_one format 1 format_is input none

pub base_sequence : IsSequence (one base)
base_sequence = sequence_one base base_one example_base base_is

pub base_stops : (input : List ℕ) → IsAbsent base input → StopsAt (one base) input input
base_stops input none = stops_one base example_base base_is input none

pub feed_id_sequence : IsSequence (one feed_id)
feed_id_sequence = sequence_one feed_id feed_id_one (replicate 16 0) id_is

pub feed_id_stops : (input : List ℕ) → IsAbsent feed_id input → StopsAt (one feed_id) input input
feed_id_stops input none = stops_one feed_id (replicate 16 0) id_is input none

pub title_sequence : IsSequence (one title)
title_sequence = sequence_one title title_one [] title_is

pub title_stops : (input : List ℕ) → IsAbsent title input → StopsAt (one title) input input
title_stops input none = stops_one title [] title_is input none

pub window_sequence : IsSequence (one window)
window_sequence = sequence_one window window_one 1 window_is

pub window_stops : (input : List ℕ) → IsAbsent window input → StopsAt (one window) input input
window_stops input none = stops_one window 1 window_is input none

pub capacity_sequence : IsSequence (one capacity)
capacity_sequence = sequence_one capacity capacity_one 4_096 capacity_is

pub capacity_stops : (input : List ℕ) → IsAbsent capacity input → StopsAt (one capacity) input input
capacity_stops input none = stops_one capacity 4_096 capacity_is input none

pub created_sequence : IsSequence (one created)
created_sequence = sequence_one created created_one (pos 0) created_is

pub created_stops : (input : List ℕ) → IsAbsent created input → StopsAt (one created) input input
created_stops input none = stops_one created (pos 0) created_is input none

pub titles_sequence : IsSequence titles
titles_sequence = sequence_both (one title) (λ _. one title) title_sequence (λ _ _. title_sequence)

pub id_titles_sequence : IsSequence (both (one feed_id) (λ _. titles))
id_titles_sequence = sequence_both (one feed_id) (λ _. titles) feed_id_sequence (λ _ _. titles_sequence)

pub name_sequence : IsSequence name_parts
name_sequence =
    sequence_both (one base) (λ _. both (one feed_id) (λ _. titles)) base_sequence (λ _ _. id_titles_sequence)

pub limits_sequence : IsSequence (both (one capacity) (λ _. one created))
limits_sequence = sequence_both (one capacity) (λ _. one created) capacity_sequence (λ _ _. created_sequence)

pub settings_sequence : IsSequence settings
settings_sequence =
    sequence_both (one window) (λ _. both (one capacity) (λ _. one created)) window_sequence (λ _ _. limits_sequence)

pub name_settings_sequence : IsSequence (both name_parts (λ _. settings))
name_settings_sequence = sequence_both name_parts (λ _. settings) name_sequence (λ _ _. settings_sequence)

parts_sequence : IsSequence head_parts
parts_sequence =
    sequence_both (one format) (λ _. both name_parts (λ _. settings)) format_sequence
    (λ _ _. name_settings_sequence)

parts_of : HeadValue → HeadParts
parts_of h = (
  h.format,
  ((h.name.base, (h.name.id, (h.name.title, h.name.author))), (h.window, (h.capacity, h.created))),
)

head_renames : Renames head_parts heads head_of parts_of
unfolding one both format base feed_id title window capacity created head_fields parts_of
head_renames = record {
  is = λ b is. record {
    name = record { base = is.1.0.0; id = is.1.0.1.0; title = is.1.0.1.1.0.0; author = is.1.0.1.1.1.0 };
    created = is.1.1.1.1.0;
    limits = record {
      format = is.0;
      window = is.1.1.0;
      capacity = is.1.1.1.0;
      title = is.1.0.1.1.0.1;
      author = is.1.0.1.1.1.1;
      created = is.1.1.1.1.1;
    };
  };
  pieces = λ b. refl;
  was = λ h is. (
    is.limits.format,
    (
      (is.name.base, (is.name.id, ((is.name.title, is.limits.title), (is.name.author, is.limits.author)))),
      (is.limits.window, (is.limits.capacity, (is.created, is.limits.created))),
    ),
  );
  again = λ h. refl;
}

pub head_begun : (input : List ℕ) → Continues heads input head_parts input head_of
head_begun input = renamed head_parts heads head_of parts_of head_renames input

-- the rules of the fields together
pub head_rules : (f : ℕ) (n : NameValue) (s : SettingsValue) → format.Is f → name_parts.Is n → settings.Is s
    → IsHead (head_of (f, (n, s)))
unfolding one both
head_rules f n s is_format is_name is_settings = head_renames.is (f, (n, s)) (is_format, (is_name, is_settings))

pub heads_compared : AreCompared heads
heads_compared =
    renamed_compared head_parts heads head_of parts_of head_renames (sequence_compared head_parts parts_sequence)

eight : (a b c d e f g h : List ℕ)
    → a ++ b ++ c ++ d ++ e ++ f ++ g ++ h ≡ joined (a ∷ b ∷ c ∷ d ∷ e ∷ f ∷ g ∷ h ∷ [])
eight a b c d e f g h = sym (simp (joined-cons, joined-none, append-nil, append_assoc))

-- the fields that are written one after another
pub head_written : (h : HeadValue)
    → (h.format ∷ []) ++ text_field h.name.base ++ h.name.id ++ text.bytes h.name.title ++ text.bytes h.name.author
    ++ number_field h.window ++ size_field h.capacity ++ stamp.bytes h.created ≡ text_of heads h
unfolding text stamp head_fields
head_written h =
    eight (h.format ∷ []) (text_field h.name.base) h.name.id (text_field h.name.title) (text_field h.name.author)
    (number_field h.window) (size_field h.capacity) (stamp_field h.created)
