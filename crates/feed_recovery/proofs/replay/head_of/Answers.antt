use Rattle.std.proofs.Common.{◌≡◌, ◌+◌, List, ℕ, Some, Err, length, sym, ◌∙◌, ap, subst}
use Rattle.std.specs.Prelude.{slice_get}
use Rattle.std.proofs.lemmas.Result.{err_from_is_err_and}
use Rattle.atom_writer.specs.Pieced.{IsNoText, IsPlaceOfRefusal}
use Rattle.feed_disk.specs.declared.area.Area.TheVariants.{Journal}
use Rattle.feed_journal.specs.Log.{payload_lengths}
use Rattle.feed_journal.specs.Records.{records}
use Rattle.feed_journal.specs.declared.extent.Extent.{Extent}
use Rattle.feed_recovery.specs.Loading.{FailsBy, fault_of}
use Rattle.feed_recovery.specs.Refused.{IsNoHead, IsJournalRefusal}
use Rattle.feed_recovery.proofs.ReadingLemmas.{head_fails, read_count, read_length}
use Rattle.feed_recovery.proofs.RefusedLemmas.{refusal-first, refusal-head, refused-codec}
use Rattle.feed_recovery.proofs.replay.head_of.Goals as goal
use Rattle.member_rules.specs.Coding.{heads}
use Rattle.member_rules.specs.declared.codec.CodecFault.{CodecFault}

pub returns-in_err-frame-clause-refused : goal.returns-in_err-frame-clause-refused
returns-in_err-frame-clause-refused g c =
    let returned = err_from_is_err_and c.from_residual.result c.from_residual.ensures.1 in
    rw (returned.1, returned.2) (refusal-first c.args.reader.now.log c.in_err-frame.field-0.0 c.requires.none
    c.in_err-frame.ensures.refused)

pub returns-clause-fault : goal.returns-clause-fault
returns-clause-fault g c =
    let s = g.D.Disk.state c.args.disk.now in
    let t = g.D.Disk.state c.next_frame.new.disk in
    let payload = c.in-Some.frame.payload.items in
    let there = rw c.in-Some.is at c.in_ok-frame.ensures.payload in
    subst (FailsBy g.D.Disk.observable s t) (sym c.bad_record.ensures)
    (head_fails g.D.Disk.observable s t c.in-Err.fault payload c.in_ok-frame.ensures.worked.faults
    (λ tells. subst (λ (l : List Extent). slice_get (records (s.content Journal)) (length l) ≡ Some payload)
    c.requires.none (there tells))
    (λ at is. subst (λ (l : List ℕ). IsNoText heads l × IsPlaceOfRefusal heads l at) c.as_slice.ensures.value
    (c.in-Err.ensures.refused at (ap (λ (f : CodecFault). Err f) is))))

pub returns-clause-refused : goal.returns-clause-refused
returns-clause-refused g c =
    let before = c.args.reader.now.log in
    let after = c.next_frame.new.reader.log in
    let frame = c.in-Some.frame in
    let payload = frame.payload.items in
    let read = rw c.in-Some.is at c.in_ok-frame.ensures.frame in
    let none = ap (λ (l : List Extent). length l) c.requires.none in
    subst IsJournalRefusal (sym c.bad_record.ensures)
    (refusal-head after payload (fault_of 0 c.in-Err.fault) c.in_ok-frame.ensures.worked.rules
    (read_count frame.extent payload before after read ∙ ap (λ (n : ℕ). n + 1) none)
    (subst (λ (n : ℕ). slice_get (payload_lengths after.extents) n ≡ Some (length payload)) none
    (read_length frame.extent payload before after read))
    (refused-codec (IsNoHead payload) 0 c.in-Err.fault
    (λ at is. subst (λ (l : List ℕ). IsNoHead l at) c.as_slice.ensures.value
    (c.in-Err.ensures.refused at (ap (λ (f : CodecFault). Err f) is)))))
