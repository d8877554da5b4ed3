-- Laws of the live entries that the crates above cite. Each is a clause of a function of laws.rt.
use Rattle.std.specs.Prelude.{◌≡◌, List}
use Rattle.feed_reader.specs.Feed.{DocumentValue}
use Rattle.feed_reader.specs.declared.values.ForeignEntry.{ForeignEntry}
use Rattle.foreign_entries.specs.Live.{IsForeignLive}

-- documents have one list of live entries at most
abbrev pub DocumentsHaveOneLive : Type 0
DocumentsHaveOneLive =
    (documents : List DocumentValue) (one other : List ForeignEntry) → IsForeignLive documents one
    → IsForeignLive documents other → one ≡ other
