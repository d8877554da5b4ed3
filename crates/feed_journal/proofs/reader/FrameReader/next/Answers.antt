use Rattle.std.proofs.Common.{◌≡◌, ◌+◌, ◌-◌, ◌<◌, ◌≤◌, ℕ, List, [], ◌∷◌, ◌++◌, Option, None, Some, false, length, take, drop}
use Rattle.std.proofs.Common.{sym, ◌∙◌, ap, subst, arith, length-append}
use Rattle.std.specs.Prelude.{IfSome, slice_get}
use Rattle.std.proofs.lemmas.Grind.{common_steps}
use Rattle.feed_disk.proofs.MomentLemmas.{alone_joins}
use Rattle.feed_disk.specs.declared.area.Area.{Area}
use Rattle.feed_journal.specs.Ahead.{IsAhead}
use Rattle.feed_journal.specs.Limits.{payload_limit, payload_count_limit}
use Rattle.feed_journal.specs.Log.{KeepsLog, IsLog, IsScanned, LogValue, MakesSome}
use Rattle.feed_journal.specs.Reading.{AreFirst, IsReading, LacksNext, ReadingValue}
use Rattle.feed_journal.specs.Records.{records}
use Rattle.feed_journal.specs.Scan.{IsNext}
use Rattle.feed_journal.specs.declared.extent.Extent.{Extent}
use Rattle.feed_journal.proofs.CallLemmas.{calls_more}
use Rattle.feed_journal.proofs.ExtentLemmas.{follow_above, keeps_push}
use Rattle.feed_journal.proofs.ReadingLemmas.{follow_end, scanned_end, scanned_last, scanned_most}
use Rattle.feed_journal.proofs.ScanLemmas.{found_more, payload_next}
use Rattle.feed_journal.proofs.reader.FrameReader.next.Goals as goal
use Rattle.feed_journal.proofs.reader.FrameReader.next.Goals.{then-self-ge-PAYLOAD_COUNT_LIMIT-via-then-self-ge-PAYLOAD_COUNT_LIMIT}
use Rattle.feed_journal.proofs.reader.FrameReader.next.Goals.{then-self-ge-PAYLOAD_COUNT_LIMIT-via-else-self-ge-PAYLOAD_COUNT_LIMIT+then-self-end-le-HEADER_LENGTH}

pub overflow_sub-end : goal.overflow_sub-end
overflow_sub-end g c = follow_above 0 c.self.inside.extents.list c.self.inside.size c.self.invariant.0.follow

pub end-requires-clause-scanned : goal.end-requires-clause-scanned
end-requires-clause-scanned g c = λ tells.
    let s = g.D.Disk.state c.args.disk.now in
    let log = c.args.self.now.log in
    let reading = c.requires.reading tells in
    let keeps : IsLog log = subst (λ (v : ReadingValue). IsLog v.log) c.self.view_is c.self.invariant.0 in
    elim c.then-self-ge-PAYLOAD_COUNT_LIMIT.branch [
      | then-self-ge-PAYLOAD_COUNT_LIMIT-via-then-self-ge-PAYLOAD_COUNT_LIMIT w ↦
          scanned_most log (s.content log.area) keeps reading.first (omega (
            arith,
            w.if-self-ge-PAYLOAD_COUNT_LIMIT.true,
            c.self.invariant.1,
            ap (λ (v : ReadingValue). length v.log.extents) c.self.view_is,
          ))
      | then-self-ge-PAYLOAD_COUNT_LIMIT-via-else-self-ge-PAYLOAD_COUNT_LIMIT+then-self-end-le-HEADER_LENGTH w ↦
          scanned_end log (s.content log.area) keeps reading.first (omega (
            arith,
            w.if-self-end-le-HEADER_LENGTH.true,
            reading.size,
            follow_above 0 c.self.inside.extents.list c.self.inside.size c.self.invariant.0.follow,
            ap (λ (v : ReadingValue). v.limit) c.self.view_is,
            ap (λ (v : ReadingValue). v.log.size) c.self.view_is,
          ))
    ]

pub end-requires-in_default-clause-scanned : goal.end-requires-in_default-clause-scanned
end-requires-in_default-clause-scanned g c = λ tells.
    let s = g.D.Disk.state c.args.disk.now in
    let content = s.content c.self.inside.area in
    let log : LogValue = record {
      area = c.self.inside.area;
      extents = c.self.inside.extents.list;
      size = c.self.inside.size;
      calls = c.next_frame.new.calls;
      spent = false;
      whole = c.self.inside.whole;
      spare = 1;
    } in
    let first : AreFirst log.extents (log.size - 1) content =
    subst (λ (v : ReadingValue). AreFirst v.log.extents (v.log.size - 1) (s.content v.log.area)) (sym c.self.view_is)
    (c.requires.reading tells).first in
    let next : IsNext (drop (log.size - 1) content) None =
    subst (IsNext (drop (log.size - 1) content)) c.in_default.is (c.in_ok-length.ensures.found tells) in
    subst (IsScanned log.extents (log.size - 1)) (sym (c.next_frame.ensures.areas c.self.inside.area).content)
    (scanned_last log content c.self.invariant.0 first next)

pub returns-in_default-clause-areas : goal.returns-in_default-clause-areas
returns-in_default-clause-areas g c = λ a.
    alone_joins (g.D.Disk.state c.args.disk.now) (g.D.Disk.state c.next_frame.new.disk)
    (g.D.Disk.state c.end-in_default.new.disk) a (c.next_frame.ensures.areas a) (c.end-in_default.ensures.areas a)

pub returns-in_default-clause-calls : goal.returns-in_default-clause-calls
returns-in_default-clause-calls g c =
    let s = g.D.Disk.state c.args.disk.now in
    let t = g.D.Disk.state c.end-in_default.new.disk in
    subst (λ (v : ReadingValue). MakesSome s t v.log.calls c.end-in_default.new.self.log.calls) c.self.view_is
    (calls_more s (g.D.Disk.state c.next_frame.new.disk) t c.self.inside.calls c.next_frame.new.calls
    c.end-in_default.new.self.log.calls c.next_frame.ensures.calls c.end-in_default.ensures.calls)

pub returns-in_err-payload-clause-changed : goal.returns-in_err-payload-clause-changed
returns-in_err-payload-clause-changed g c = λ index is.
    let extents = c.self.inside.extents.list in
    let size = c.self.inside.size in
    let n = c.in-Some.length in
    let few : length extents < payload_count_limit =
    omega (arith, c.if-self-ge-PAYLOAD_COUNT_LIMIT.false, c.self.invariant.1) in
    let within : (n ≤ payload_limit) × (size - 1 + n + 5 < c.self.inside.limit) =
    subst (λ (o : Option ℕ). IfSome o (λ m. (m ≤ payload_limit) × (size - 1 + m + 5 < c.self.inside.limit))) c.in-Some.is
    c.in_ok-length.ensures.within in
    let is_next : index ≡ length extents = grind (arith, common_steps) in
    subst (λ (v : ReadingValue). LacksNext v.log index) c.self.view_is (record {
      is_next = is_next;
      length_said = n;
      rules = keeps_push extents size n c.self.invariant.0 few within.0;
    })

pub returns-in_err-payload-clause-areas : goal.returns-in_err-payload-clause-areas
returns-in_err-payload-clause-areas g c = λ a.
    alone_joins (g.D.Disk.state c.args.disk.now) (g.D.Disk.state c.next_frame.new.disk)
    (g.D.Disk.state c.payload.new.disk) a (c.next_frame.ensures.areas a) (c.payload.ensures.areas a)

pub returns-clause-areas : goal.returns-clause-areas
returns-clause-areas g c = λ a.
    alone_joins (g.D.Disk.state c.args.disk.now) (g.D.Disk.state c.next_frame.new.disk)
    (g.D.Disk.state c.payload.new.disk) a (c.next_frame.ensures.areas a) (c.payload.ensures.areas a)

pub returns-in_err-payload-clause-calls : goal.returns-in_err-payload-clause-calls
returns-in_err-payload-clause-calls g c =
    let s = g.D.Disk.state c.args.disk.now in
    let t = g.D.Disk.state c.payload.new.disk in
    subst (λ (v : ReadingValue). MakesSome s t v.log.calls c.payload.new.self.log.calls) c.self.view_is
    (calls_more s (g.D.Disk.state c.next_frame.new.disk) t c.self.inside.calls c.next_frame.new.calls
    c.payload.new.self.log.calls c.next_frame.ensures.calls c.payload.ensures.calls)

pub returns-clause-calls : goal.returns-clause-calls
returns-clause-calls g c =
    let s = g.D.Disk.state c.args.disk.now in
    let t = g.D.Disk.state c.payload.new.disk in
    subst (λ (v : ReadingValue). MakesSome s t c.args.self.now.log.calls v.log.calls) (sym c.self-2.view_is)
    (subst (λ (v : ReadingValue). MakesSome s t v.log.calls c.payload.new.self.log.calls) c.self.view_is
    (calls_more s (g.D.Disk.state c.next_frame.new.disk) t c.self.inside.calls c.next_frame.new.calls
    c.payload.new.self.log.calls c.next_frame.ensures.calls c.payload.ensures.calls))

pub invariant_of-self-2 : goal.invariant_of-self-2
invariant_of-self-2 g c =
    let extents = c.self.inside.extents.list in
    let size = c.self.inside.size in
    let n = c.in-Some.length in
    let few : length extents < payload_count_limit =
    omega (arith, c.if-self-ge-PAYLOAD_COUNT_LIMIT.false, c.self.invariant.1) in
    let within : (n ≤ payload_limit) × (size - 1 + n + 5 < c.self.inside.limit) =
    subst (λ (o : Option ℕ). IfSome o (λ m. (m ≤ payload_limit) × (size - 1 + m + 5 < c.self.inside.limit))) c.in-Some.is
    c.in_ok-length.ensures.within in
    let same = c.self-2.view_is ∙ c.payload.ensures.rest in
    let same_extents : c.self-2.inside.extents.list ≡ extents = ap (λ (v : ReadingValue). v.log.extents) same in
    let same_size : c.self-2.inside.size ≡ size = ap (λ (v : ReadingValue). v.log.size) same in
    let same_limit : c.self-2.inside.limit ≡ c.self.inside.limit = ap (λ (v : ReadingValue). v.limit) same in
    let above = follow_above 0 extents size c.self.invariant.0.follow in
    let extent : Extent = record { offset = size + 4; length = n } in
    let place : size - 1 + 5 ≡ size + 4 = omega (arith, above) in
    let kept : c.with-self-inside.result.list ≡ extents ++ extent ∷ [] =
    c.with-self-inside.ensures
    ∙ ap (λ (l : List Extent). l ++ record { offset = size - 1 + 5; length = n } ∷ []) same_extents
    ∙ ap (λ (o : ℕ). extents ++ record { offset = o; length = n } ∷ []) place in
    let end : size + n + 5 ≡ c.self-2.inside.size + (c.from.result + 5) = omega (arith, c.from.ensures, same_size) in
    let keeps = subst (λ (l : List Extent). KeepsLog l (c.self-2.inside.size + (c.from.result + 5))) (sym kept)
    (subst (KeepsLog (extents ++ extent ∷ [])) end (keeps_push extents size n c.self.invariant.0 few within.0)) in (
      keeps,
      omega (
        arith,
        c.self-2.invariant.1,
        ap length c.with-self-inside.ensures,
        length-append c.self-2.inside.extents.list (record { offset = size - 1 + 5; length = n } ∷ []),
      ),
      omega (arith, within.1, same_limit, end, above),
    )

pub returns-clause-rules : goal.returns-clause-rules
returns-clause-rules g c =
    let extents = c.self.inside.extents.list in
    let size = c.self.inside.size in
    let n = c.in-Some.length in
    let few : length extents < payload_count_limit =
    omega (arith, c.if-self-ge-PAYLOAD_COUNT_LIMIT.false, c.self.invariant.1) in
    let within : (n ≤ payload_limit) × (size - 1 + n + 5 < c.self.inside.limit) =
    subst (λ (o : Option ℕ). IfSome o (λ m. (m ≤ payload_limit) × (size - 1 + m + 5 < c.self.inside.limit))) c.in-Some.is
    c.in_ok-length.ensures.within in
    let same = c.self-2.view_is ∙ c.payload.ensures.rest in
    let same_extents : c.self-2.inside.extents.list ≡ extents = ap (λ (v : ReadingValue). v.log.extents) same in
    let same_size : c.self-2.inside.size ≡ size = ap (λ (v : ReadingValue). v.log.size) same in
    let same_limit : c.self-2.inside.limit ≡ c.self.inside.limit = ap (λ (v : ReadingValue). v.limit) same in
    let above = follow_above 0 extents size c.self.invariant.0.follow in
    let extent : Extent = record { offset = size + 4; length = n } in
    let place : size - 1 + 5 ≡ size + 4 = omega (arith, above) in
    let kept : c.with-self-inside.result.list ≡ extents ++ extent ∷ [] =
    c.with-self-inside.ensures
    ∙ ap (λ (l : List Extent). l ++ record { offset = size - 1 + 5; length = n } ∷ []) same_extents
    ∙ ap (λ (o : ℕ). extents ++ record { offset = o; length = n } ∷ []) place in
    let end : size + n + 5 ≡ c.self-2.inside.size + (c.from.result + 5) = omega (arith, c.from.ensures, same_size) in
    let keeps = subst (λ (l : List Extent). KeepsLog l (c.self-2.inside.size + (c.from.result + 5))) (sym kept)
    (subst (KeepsLog (extents ++ extent ∷ [])) end (keeps_push extents size n c.self.invariant.0 few within.0)) in (
      keeps,
      omega (arith, within.1, same_limit, end, above),
      same_limit ∙ ap (λ (v : ReadingValue). v.limit) c.self.view_is,
    )

pub returns-clause-payload : goal.returns-clause-payload
returns-clause-payload g c = λ tells.
    let s = g.D.Disk.state c.args.disk.now in
    let area = c.self.inside.area in
    let content = s.content area in
    let extents = c.self.inside.extents.list in
    let size = c.self.inside.size in
    let n = c.in-Some.length in
    let few : length extents < payload_count_limit =
    omega (arith, c.if-self-ge-PAYLOAD_COUNT_LIMIT.false, c.self.invariant.1) in
    let first = (subst (λ (v : ReadingValue). IsReading v (s.content v.log.area)) (sym c.self.view_is)
    (c.requires.reading tells)).first in
    let next : IsNext (drop (size - 1) content) (Some n) =
    subst (IsNext (drop (size - 1) content)) c.in-Some.is (c.in_ok-length.ensures.found tells) in
    let given = c.in_ok-payload.ensures.payload tells
    ∙ ap (λ (l : List ℕ). take n (drop (size - 1 + 5) l)) (c.next_frame.ensures.areas area).content in
    subst (λ (v : ReadingValue). slice_get (records (s.content v.log.area)) (length v.log.extents)
    ≡ Some c.in_ok-payload.payload.items) c.self.view_is
    (payload_next extents (size - 1) content first (follow_end extents size c.self.invariant.0.follow) few n next ∙ ap (λ (l : List ℕ). Some l) (sym given))

pub returns-clause-reading : goal.returns-clause-reading
returns-clause-reading g c = λ tells.
    let s = g.D.Disk.state c.args.disk.now in
    let m = g.D.Disk.state c.next_frame.new.disk in
    let t = g.D.Disk.state c.payload.new.disk in
    let area = c.self.inside.area in
    let content = s.content area in
    let extents = c.self.inside.extents.list in
    let size = c.self.inside.size in
    let n = c.in-Some.length in
    let few : length extents < payload_count_limit =
    omega (arith, c.if-self-ge-PAYLOAD_COUNT_LIMIT.false, c.self.invariant.1) in
    let same = c.self-2.view_is ∙ c.payload.ensures.rest in
    let same_extents : c.self-2.inside.extents.list ≡ extents = ap (λ (v : ReadingValue). v.log.extents) same in
    let same_size : c.self-2.inside.size ≡ size = ap (λ (v : ReadingValue). v.log.size) same in
    let same_limit : c.self-2.inside.limit ≡ c.self.inside.limit = ap (λ (v : ReadingValue). v.limit) same in
    let same_area : c.self-2.inside.area ≡ area = ap (λ (v : ReadingValue). v.log.area) same in
    let reading = subst (λ (v : ReadingValue). IsReading v (s.content v.log.area)) (sym c.self.view_is)
    (c.requires.reading tells) in
    let next : IsNext (drop (size - 1) content) (Some n) =
    subst (IsNext (drop (size - 1) content)) c.in-Some.is (c.in_ok-length.ensures.found tells) in
    let above = follow_above 0 extents size c.self.invariant.0.follow in
    let end : size - 1 + n + 5 ≡ c.self-2.inside.size + (c.from.result + 5) - 1 =
    omega (arith, c.from.ensures, same_size, above) in
    let kept = c.with-self-inside.ensures
    ∙ ap (λ (l : List Extent). l ++ record { offset = size - 1 + 5; length = n } ∷ []) same_extents in
    let content_same : t.content c.self-2.inside.area ≡ content = ap (λ (a : Area). t.content a) same_area
    ∙ (alone_joins s m t area (c.next_frame.ensures.areas area) (c.payload.ensures.areas area)).content in
    record {
      size = same_limit ∙ reading.size ∙ ap length (sym content_same);
      first = subst (λ (l : List ℕ). AreFirst c.with-self-inside.result.list
          (c.self-2.inside.size + (c.from.result + 5) - 1) l) (sym content_same)
          (subst (λ (l : List Extent). AreFirst l (c.self-2.inside.size + (c.from.result + 5) - 1) content) (sym kept)
          (subst (λ (e : ℕ). AreFirst (extents ++ record { offset = size - 1 + 5; length = n } ∷ []) e content) end
          (found_more extents (size - 1) content reading.first (follow_end extents size c.self.invariant.0.follow) few n
          next)));
      ahead = subst (λ (v : ReadingValue). IsAhead v.ahead (t.content c.self-2.inside.area)) (sym c.self-2.view_is)
          (subst (λ (a : Area). IsAhead c.payload.new.self.ahead (t.content a)) (sym same_area)
          (c.payload.ensures.ahead tells));
    }
