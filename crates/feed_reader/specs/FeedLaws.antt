-- Laws of feed documents that the crates above cite. Each is a clause of a function of laws.rt.
use Rattle.std.specs.Prelude.{◌≡◌, ℕ, List}
use Rattle.feed_reader.specs.declared.fault.FeedWhy.{FeedWhy}
use Rattle.feed_reader.specs.Feed.{DocumentValue}
use Rattle.feed_reader.specs.FeedDocument.{IsFeedRefusedAt, SpellsFeed}

-- bytes, in the document of an address, spell one feed document at most
abbrev pub BytesSpellOneFeed : Type 0
BytesSpellOneFeed =
    (bytes address : List ℕ) (one other : DocumentValue) → SpellsFeed bytes address one
    → SpellsFeed bytes address other → one ≡ other

-- they are refused for one reason at one offset at most
abbrev pub BytesHaveOneFeedRefusal : Type 0
BytesHaveOneFeedRefusal =
    (bytes address : List ℕ) (at place : ℕ) (why cause : FeedWhy) → IsFeedRefusedAt bytes address at why
    → IsFeedRefusedAt bytes address place cause → (at ≡ place) × (why ≡ cause)

-- those that spell a feed document aren't refused
abbrev pub FeedsAreNotRefused : Type 0
FeedsAreNotRefused =
    (bytes address : List ℕ) (d : DocumentValue) (at : ℕ) (why : FeedWhy) → SpellsFeed bytes address d
    → ¬ IsFeedRefusedAt bytes address at why
