-- The value of a feed's head that contracts see.
use Rattle.std.specs.Prelude.{ℕ, ◌≤◌, ◌^◌, ℤ, pos, ◌≤ℤ◌, length}
use Rattle.atom_values.specs.Stamp.{IsStamp}
use Rattle.atom_writer.specs.declared.doc.FeedName.{FeedName}
use Rattle.atom_writer.specs.Doc.{IsFeedName}

-- the format of its bytes, the feed's first name, how many operations the first window has, how many bytes an area may
-- have, and when the feed was made
pub record HeadValue : Type 0 where
  pub format : ℕ
  pub name : FeedName
  pub window : ℕ
  pub capacity : ℕ
  pub created : ℤ

-- the newest format of a head's bytes
abbrev pub newest_format : ℕ
newest_format = 3

-- the most operations of a window
abbrev pub window_limit : ℕ
window_limit = 100

-- the most bytes of a feed's title, and of its author
abbrev pub title_limit : ℕ
title_limit = 1_024

-- the fewest bytes that an area may be limited to
abbrev pub capacity_floor : ℕ
capacity_floor = 4_096

-- the most bytes that an area may be limited to
abbrev pub capacity_limit : ℕ
capacity_limit = 2 ^ 36

-- the limits of a head
pub record KeepsLimits (h : HeadValue) : Type 0 where
  pub format : (1 ≤ h.format) × (h.format ≤ newest_format)
  pub window : (1 ≤ h.window) × (h.window ≤ window_limit)
  pub capacity : (capacity_floor ≤ h.capacity) × (h.capacity ≤ capacity_limit)
  pub title : length h.name.title ≤ title_limit
  pub author : length h.name.author ≤ title_limit
  pub created : pos 0 ≤ℤ h.created

-- the rules that the types of a head keep
pub record IsHead (h : HeadValue) : Type 0 where
  pub name : IsFeedName h.name
  pub created : IsStamp h.created
  pub limits : KeepsLimits h
