-- The documents of a history (RFC 5005 section 4). A history is cut into spans: archive `number` has the operations
-- from `ends (number - 1) + 1` to `ends number`, and the subscription document has those after the last archive.
use Rattle.std.specs.Prelude.{ℕ, ◌+◌, ◌-◌, List, take, drop, length, Option, Some, None}
use Rattle.atom_writer.specs.declared.doc.FeedName.{FeedName}
use Rattle.atom_writer.specs.declared.doc.Kind.{Kind}
use Rattle.atom_writer.specs.declared.doc.Kind.TheVariants.{Subscription, Archive}
use Rattle.atom_writer.specs.Doc.{DocValue}
use Rattle.member_rules.specs.declared.operation.Op.{Op}
use Rattle.member_rules.specs.declared.operation.Op.TheVariants.{Add, Change, Remove, Set}
use Rattle.member_rules.specs.declared.setting.Setting.TheVariants.{Title, Window}
use Rattle.member_rules.specs.Head.{HeadValue}
use Rattle.member_rules.specs.Fold.{last_moment}
use Rattle.member_rules.specs.Items.{items_of}
use Rattle.member_rules.specs.Latest.{latest}
use Rattle.member_rules.specs.Windows.{windows_of}

-- the title that the operation sets, if it sets one
abbrev pub title_set : Op → Option (List ℕ)
title_set (Add entry) = None
title_set (Change entry) = None
title_set (Remove removal) = None
title_set (Set (Title title) moment) = Some title
title_set (Set (Window size) moment) = None

-- the feed's title after these operations, if this was its first one
unfoldable pub title_after : List ℕ → List Op → List ℕ
title_after first operations = latest title_set first operations

-- the feed's name after these operations
unfoldable pub name_of : HeadValue → List Op → FeedName
name_of head operations = record head.name { title = title_after head.name.title operations }

-- the document of this kind, which has the covered operations after the first `before`
unfoldable pub document_of : HeadValue → Kind → ℕ → ℕ → List Op → DocValue
document_of head kind prev before covered = record {
  name = name_of head covered;
  kind = kind;
  span = record { first = before + 1; last = length covered };
  prev = prev;
  updated = last_moment head.created covered;
  items = items_of (drop before covered);
}

-- archive `number` of a cut
unfoldable pub archive_of : (ℕ → ℕ) → HeadValue → List Op → ℕ → DocValue
archive_of ends head history number =
    document_of head (Archive number) (number - 1) (ends (number - 1)) (take (ends number) history)

-- the subscription document of a cut with this many archives
unfoldable pub subscription_of : (ℕ → ℕ) → ℕ → HeadValue → List Op → DocValue
subscription_of ends archives head history = document_of head Subscription archives (ends archives) history

-- archive `number` of the history, where that window is full
unfoldable pub archive : HeadValue → List Op → ℕ → DocValue
archive head history number = archive_of (windows_of head history).ends head history number

-- the subscription document of the history
unfoldable pub subscription : HeadValue → List Op → DocValue
subscription head history =
    let windows = windows_of head history in
    subscription_of windows.ends windows.sealed head history
