use Rattle.std.proofs.Common.{subst, sym}
use Rattle.atom_values.specs.Entry.{EntryValue}
use Rattle.feed_recovery.specs.Documents.{IsVersion}
use Rattle.feed_recovery.proofs.EntryLemmas.{sets_one}
use Rattle.feed_recovery.proofs.documents.document_of.Goals as goal

pub returns-then-not-is_version-clause-never : goal.returns-then-not-is_version-clause-never
returns-then-not-is_version-clause-never c = λ entry is_entry sets version index.
    let is = sets_one c.args.payload.now c.in_ok-entry.entry entry c.in_ok-entry.ensures.entry.0 is_entry
    c.in_ok-entry.ensures.entry.1 sets in
    let same = c.is_version.ensures.1 (subst (λ (e : EntryValue). IsVersion e c.args.number c.args.edited c.args.updated)
    (sym is) version) in
    let differ = c.if-not-is_version.true in
    absurd (cc)
