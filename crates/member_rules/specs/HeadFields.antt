-- The fields of a head in the steps in which they are read. Contracts see each step as nested pairs.
use Rattle.std.specs.Prelude.{ℕ, ◌≤◌, ℤ, pos, ◌≤ℤ◌, List, [], ◌∷◌}
use Rattle.atom_values.specs.Stamp.{IsStamp}
use Rattle.atom_writer.specs.declared.doc.FeedName.{FeedName}
use Rattle.atom_writer.specs.Pieced.{Pieced}
use Rattle.chain_links.specs.Base.{IsBase}
use Rattle.deleted_entries.specs.FeedId.{IsFeedId}
use Rattle.member_rules.specs.Coding.{number_field, size_field, stamp_field, text_field}
use Rattle.member_rules.specs.FieldLists.{one, both}
use Rattle.member_rules.specs.Fields.{Field}
use Rattle.member_rules.specs.Head.{HeadValue, newest_format, capacity_floor, capacity_limit}
use Rattle.member_rules.specs.Setting.{IsTitle, IsWindowSize}
use Rattle.member_rules.specs.declared.codec.head_fields.Settings.{Settings}
use Rattle.member_rules.specs.declared.codec.head_fields.Titles.{Titles}

-- the first byte, which tells the format
unfoldable pub format : Field ℕ
format = record { Is = λ n. (1 ≤ n) × (n ≤ newest_format); bytes = λ n. n ∷ [] }

unfoldable pub base : Field (List ℕ)
base = record { Is = IsBase; bytes = text_field }

unfoldable pub feed_id : Field (List ℕ)
feed_id = record { Is = IsFeedId; bytes = λ id. id }

-- a text with the limit of a feed's title
unfoldable pub title : Field (List ℕ)
title = record { Is = IsTitle; bytes = text_field }

unfoldable pub window : Field ℕ
window = record { Is = IsWindowSize; bytes = number_field }

unfoldable pub capacity : Field ℕ
capacity = record { Is = λ n. (capacity_floor ≤ n) × (n ≤ capacity_limit); bytes = size_field }

-- a timestamp that isn't before 1970
unfoldable pub created : Field ℤ
created = record { Is = λ stamp. IsStamp stamp × (pos 0 ≤ℤ stamp); bytes = stamp_field }

-- title, author
abbrev pub titles_value : Titles → List ℕ × List ℕ
titles_value t = (t.title, t.author)

abbrev pub titles : Pieced (List ℕ × List ℕ)
titles = both (one title) (λ _. one title)

-- base, id, titles
abbrev pub NameValue : Type 0
NameValue = List ℕ × (List ℕ × (List ℕ × List ℕ))

abbrev pub name_value : FeedName → NameValue
name_value n = (n.base, (n.id, (n.title, n.author)))

abbrev pub name_parts : Pieced NameValue
name_parts = both (one base) (λ _. both (one feed_id) (λ _. titles))

abbrev pub name_of : NameValue → FeedName
name_of n = record { base = n.0; id = n.1.0; title = n.1.1.0; author = n.1.1.1 }

-- window, capacity, created
abbrev pub SettingsValue : Type 0
SettingsValue = ℕ × (ℕ × ℤ)

abbrev pub settings_value : Settings → SettingsValue
settings_value s = (s.window, (s.capacity, s.created))

abbrev pub settings : Pieced SettingsValue
settings = both (one window) (λ _. both (one capacity) (λ _. one created))

-- the format, the name and the settings
abbrev pub HeadParts : Type 0
HeadParts = ℕ × (NameValue × SettingsValue)

abbrev pub head_parts : Pieced HeadParts
head_parts = both (one format) (λ _. both name_parts (λ _. settings))

abbrev pub head_of : HeadParts → HeadValue
head_of h = record {
  format = h.0;
  name = name_of h.1.0;
  window = h.1.1.0;
  capacity = h.1.1.1.0;
  created = h.1.1.1.1;
}
