use Rattle.std.proofs.Common.{◌≡◌, ◌+◌, [], ◌∷◌, ◌++◌, ◌∙◌, ℕ, List, Some, take, length, ap, sym, subst}
use Rattle.std.proofs.Common.{arith, length-append}
use Rattle.std.specs.Prelude.{slice_get}
use Rattle.std.proofs.lemmas.Result.{err_from_is_err_and}
use Rattle.atom_writer.specs.Pieced.{text_of}
use Rattle.feed_disk.specs.declared.area.Area.TheVariants.{Journal}
use Rattle.feed_journal.specs.Log.{LogValue, payload_lengths}
use Rattle.feed_journal.specs.Reading.{HasRead}
use Rattle.feed_journal.specs.Records.{records}
use Rattle.feed_journal.specs.declared.extent.Extent.{Extent}
use Rattle.feed_recovery.specs.Loading.{HasReadAll, LogsHistory}
use Rattle.feed_recovery.specs.Opening.{journal_of}
use Rattle.feed_recovery.specs.Places.{ArePlaces}
use Rattle.feed_recovery.proofs.HistoryLemmas.{journal_more, take_next}
use Rattle.feed_recovery.proofs.ReadingLemmas.{operation_fails, read_count, read_length}
use Rattle.feed_recovery.proofs.RefusedLemmas.{refusal-next, refusal-operation}
use Rattle.feed_recovery.proofs.replay.Progress.read_next.Given.{Over}
use Rattle.feed_recovery.proofs.replay.Progress.read_next.Goals as goal
use Rattle.feed_recovery.proofs.replay.Progress.read_next.Goals.{In-Some, In_default}
use Rattle.member_rules.specs.Coding.{operations}
use Rattle.member_rules.specs.declared.operation.Op.{Op}
use Rattle.member_rules.proofs.PayloadLemmas.{operation-long}

pub returns-in_err-frame-clause-refused : goal.returns-in_err-frame-clause-refused
returns-in_err-frame-clause-refused g c =
    let before = c.requires.replayed in
    let returned = err_from_is_err_and c.from_residual.result c.from_residual.ensures.1 in
    rw (returned.1, returned.2) (refusal-next c.args.head.now c.args.self.now.window.history before.is_head
    before.lawful c.args.reader.now.log c.in_err-frame.field-0.0 c.requires.logs.count c.in_err-frame.ensures.refused)

-- no frame is left
ended : (g : Over) (c : In_default g) → HasReadAll g.D.Disk.observable
    ((g.D.Disk.state c.args.disk.now).content Journal) c.args.reader.now.log c.next_frame.new.reader.log
ended g c =
    let was = c.in_ok-frame.was in
    let is = c.in_default.is in
    c.next_frame.ensures.last (cc)

pub returns-in_default-clause-logs : goal.returns-in_default-clause-logs
returns-in_default-clause-logs g c =
    let logs = c.requires.logs in
    let all = ended g (goal.at.returns-in_default-clause-logs g c).In_default in
    subst (λ (l : LogValue). LogsHistory l c.args.self.now.window.history c.args.self.now.places.extents) (sym all.log)
    (record { rules = logs.rules; count = logs.count; long = logs.long; placed = logs.placed })

pub returns-in_default-clause-payloads : goal.returns-in_default-clause-payloads
returns-in_default-clause-payloads g c = λ tells.
    let all = ended g (goal.at.returns-in_default-clause-payloads g c).In_default in
    ap (λ (l : LogValue). take (length l.extents) (records ((g.D.Disk.state c.args.disk.now).content Journal))) all.log
    ∙ c.requires.payloads tells

pub returns-in_default-clause-last : goal.returns-in_default-clause-last
returns-in_default-clause-last g c = λ is. ended g (goal.at.returns-in_default-clause-last g c).In_default

-- the frame that was read
frame-read : (g : Over) (c : In-Some g) → HasRead c.in-Some.frame.extent c.in-Some.frame.payload.items
    c.args.reader.now.log c.next_frame.new.reader.log
frame-read g c = rw c.in-Some.is at c.in_ok-frame.ensures.frame

there : (g : Over) (c : In-Some g) → g.D.Disk.observable
    → slice_get (records ((g.D.Disk.state c.args.disk.now).content Journal)) (length c.args.reader.now.log.extents)
    ≡ Some c.in-Some.frame.payload.items
there g c = rw c.in-Some.is at c.in_ok-frame.ensures.payload

counted : (g : Over) (c : In-Some g)
    → length c.next_frame.new.reader.log.extents ≡ length c.args.reader.now.log.extents + 1
counted g c = read_count c.in-Some.frame.extent c.in-Some.frame.payload.items c.args.reader.now.log
    c.next_frame.new.reader.log (frame-read g c)

pub take-requires-clause-few : goal.take-requires-clause-few
take-requires-clause-few g c =
    let more = counted g (goal.at.take-requires-clause-few g c).In-Some in
    omega (arith, c.requires.logs.count, c.in_ok-frame.ensures.worked.rules.few)

pub take-requires-clause-placed : goal.take-requires-clause-placed
take-requires-clause-placed g c = c.requires.logs.placed.count

pub returns-in_err-take-clause-fault : goal.returns-in_err-take-clause-fault
returns-in_err-take-clause-fault g c =
    let s = g.D.Disk.state c.args.disk.now in
    let history = c.args.self.now.window.history in
    let count = c.requires.logs.count in
    let payload = c.in-Some.frame.payload.items in
    let returned = err_from_is_err_and c.from_residual-in_err-take.result c.from_residual-in_err-take.ensures.1 in
    rw (returned.1, returned.2) (operation_fails g.D.Disk.observable s (g.D.Disk.state c.next_frame.new.disk)
    (length history + 1) c.args.head.now history payload c.in_err-take.field-0.0 (omega arith) (λ tells. record {
      is_head = c.requires.replayed.is_head;
      lawful = c.requires.replayed.lawful;
      is = ap (λ (n : ℕ). take n (records (s.content Journal))) (sym count) ∙ c.requires.payloads tells;
    }) c.in_ok-frame.ensures.worked.faults
    (λ tells. subst (λ (n : ℕ). slice_get (records (s.content Journal)) n ≡ Some payload) count
    (there g (goal.at.returns-in_err-take-clause-fault g c).In-Some tells)) c.in_err-take.ensures.refused)

pub returns-in_err-take-clause-refused : goal.returns-in_err-take-clause-refused
returns-in_err-take-clause-refused g c =
    let after = (goal.at.returns-in_err-take-clause-refused g c).In-Some in
    let frame = c.in-Some.frame in
    let log = c.next_frame.new.reader.log in
    let history = c.args.self.now.window.history in
    let count = c.requires.logs.count in
    let before = c.requires.replayed in
    let more = counted g after in
    let returned = err_from_is_err_and c.from_residual-in_err-take.result c.from_residual-in_err-take.ensures.1 in
    rw (returned.1, returned.2) (refusal-operation c.args.head.now history before.is_head before.lawful log
    frame.payload.items c.in_err-take.field-0.0 c.in_ok-frame.ensures.worked.rules (omega (arith, more, count))
    (subst (λ (n : ℕ). slice_get (payload_lengths log.extents) n ≡ Some (length frame.payload.items)) count
    (read_length frame.extent frame.payload.items c.args.reader.now.log log (frame-read g after)))
    c.in_err-take.ensures.refused)

pub returns-clause-logs : goal.returns-clause-logs
returns-clause-logs g c =
    let after = (goal.at.returns-clause-logs g c).In-Some in
    let extent = c.in-Some.frame.extent in
    let read = frame-read g after in
    let before = c.args.reader.now.log in
    let log = c.next_frame.new.reader.log in
    let logs = c.requires.logs in
    let history = c.args.self.now.window.history in
    let taken = c.in_ok-take.ensures.taken in
    let grown = ap (λ (l : List Op). length l) taken.history ∙ length-append history (taken.operation ∷ []) in
    let size = ap (λ (l : LogValue). l.size) read.log in
    let long = operation-long taken.operation taken.rules in
    let bytes = ap (λ (l : List ℕ). length l) taken.bytes in
    record {
      rules = c.in_ok-frame.ensures.worked.rules;
      count = omega (arith, counted g after, logs.count, grown);
      long = omega (arith, logs.long, grown, size, long, bytes, read.whole);
      placed = subst
          (λ (l : List Extent). ArePlaces c.take.new.self.places.extents c.take.new.self.window.history l)
          (sym (ap (λ (l : LogValue). l.extents) read.log)) (c.in_ok-take.ensures.places before.extents logs.placed logs.count);
    }

pub returns-clause-payloads : goal.returns-clause-payloads
returns-clause-payloads g c = λ tells.
    let after = (goal.at.returns-clause-payloads g c).In-Some in
    let head = c.args.head.now in
    let history = c.args.self.now.window.history in
    let before = c.args.reader.now.log in
    let payloads = records ((g.D.Disk.state c.args.disk.now).content Journal) in
    let taken = c.in_ok-take.ensures.taken in
    let text = text_of operations taken.operation in
    ap (λ (n : ℕ). take n payloads) (counted g after)
    ∙ take_next payloads (length before.extents) text
    (there g after tells ∙ ap (λ (l : List ℕ). Some l) taken.bytes)
    ∙ ap (λ (l : List (List ℕ)). l ++ text ∷ []) (c.requires.payloads tells)
    ∙ sym (journal_more head history taken.operation)
    ∙ ap (journal_of head) (sym taken.history)

pub returns-clause-more : goal.returns-clause-more
returns-clause-more g c = λ is.
    let read = frame-read g (goal.at.returns-clause-more g c).In-Some in
    let taken = c.in_ok-take.ensures.taken in
    let size = ap (λ (l : LogValue). l.size) read.log in
    record { operation = taken.operation; history = taken.history; longer = omega (arith, size) }
