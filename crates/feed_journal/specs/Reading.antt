-- The frames of an area as they are read one after the other.
use Rattle.std.specs.Prelude.{◌≡◌, ◌↔◌, IsTrue, ℕ, ◌+◌, ◌-◌, ◌<◌, List, [], ◌∷◌, ◌++◌, length, min, drop}
use Rattle.feed_journal.specs.Ahead.{AheadValue, IsAhead}
use Rattle.feed_journal.specs.Limits.{header_length, payload_count_limit}
use Rattle.feed_journal.specs.Log.{LogValue, IsLog, payloads_at}
use Rattle.feed_journal.specs.Records.{records, records_up_to, frames, Begins, IsClosed, IsWhole, StartsWith}
use Rattle.feed_journal.specs.declared.extent.Extent.{Extent}

-- the frames that were read, as a log; the size of the area; and the bytes that were read ahead
pub record ReadingValue : Type 0 where
  pub log : LogValue
  pub limit : ℕ
  pub ahead : AheadValue

-- the extents are those of the first payloads of the content, whose frames end at this offset
pub record AreFirst (extents : List Extent) (end : ℕ) (content : List ℕ) : Type 0 where
  pub below : end < length content
  pub so_far : records content ≡ payloads_at extents content
      ++ records_up_to (min (length content) payload_count_limit - length extents) (drop end content)
  pub begins : content ≡ frames (payloads_at extents content) ++ drop end content

-- the frames that were read are the first ones of the content, and the bytes that were read ahead are its own
pub record IsReading (reading : ReadingValue) (content : List ℕ) : Type 0 where
  pub size : reading.limit ≡ length content
  pub first : AreFirst reading.log.extents (reading.log.size - 1) content
  pub ahead : IsAhead reading.ahead content

-- all frames of the content were read, so the log tells whether it is whole
pub record IsAtEnd (log : LogValue) (content : List ℕ) : Type 0 where
  pub whole : IsTrue log.whole ↔ IsWhole content
  pub starts : StartsWith (records content) content
  pub begins : IsClosed content → Begins (records content) content

-- one more frame was read, with its whole payload; of the rest only the count of calls changed
pub record HasRead (extent : Extent) (payload : List ℕ) (before after : LogValue) : Type 0 where
  pub log : after ≡ record before {
    extents = before.extents ++ extent ∷ [];
    size = before.size + extent.length + header_length;
    calls = after.calls;
  }
  pub whole : length payload ≡ extent.length

-- the area has the header of one more frame, of this index, but not its whole payload
pub record LacksNext (log : LogValue) (index : ℕ) : Type 0 where
  pub is_next : index ≡ length log.extents
  pub length_said : ℕ
  pub rules : IsLog record log {
    extents = log.extents ++ record { offset = log.size + 4; length = length_said } ∷ [];
    size = log.size + length_said + header_length;
  }
