use Rattle.std.proofs.Common.{◌≡◌, ℕ, ◌-◌, ◌^◌, ◌<◌, ◌∷◌, ◌++◌, [], List, Some, ap, ap₂, sym, subst, ◌∙◌, arith}
use Rattle.std.specs.Prelude.{slice_get}
use Rattle.std.proofs.lemmas.Option.{same_Some}
use Rattle.sha2.specs.Hashers.{Holds256}
use Rattle.sha2.specs.Sha256.{sha256}
use Rattle.atom_values.specs.Entry.{EntryValue}
use Rattle.atom_writer.specs.Doc.{DocValue}
use Rattle.atom_writer.specs.Members.{member_text}
use Rattle.atom_writer.specs.declared.doc.FeedName.{FeedName}
use Rattle.coverage_certificate.specs.Live.{live_entries_of, live_text}
use Rattle.coverage_auditor.specs.LiveList.{HasEntryAt}
use Rattle.coverage_auditor.proofs.DigestLemmas.{same-entry}
use Rattle.coverage_auditor.proofs.NextLiveLemmas.{text-last, text-next, text-none, text_up_to, within-greatest}
use Rattle.coverage_auditor.proofs.live.live_digest.Goals as goal

pub members-init : goal.members-init
members-init c =
    subst (Holds256 c.new-hasher.result) (sym (text-none c.name-name.result.now c.args.chain.now))
    c.new-hasher.ensures

pub entry_at-requires : goal.entry_at-requires
entry_at-requires c =
    let next = c.in-Some.ensures c.args.chain.now c.requires.entries in
    (next.entry, next.there)

pub members-smaller : goal.members-smaller
members-smaller c =
    let next = c.in-Some.ensures c.args.chain.now c.requires.entries in
    let within = within-greatest c.args.chain.now c.in-Some.number next.entry next.live in
    omega (arith, next.later, within)

pub members-preserved : goal.members-preserved
members-preserved c =
    let documents = c.args.chain.now in
    let name = c.name-name.result.now in
    let next = c.in-Some.ensures documents c.requires.entries in
    let entry = same-entry documents c.in-Some.place c.in_ok-entry.entry next.entry c.in_ok-entry.ensures next.there in
    let text = c.as_slice.ensures.value ∙ c.in_ok-text.ensures ∙ ap (member_text name) entry in
    let held = c.update.ensures (text_up_to name documents c.members.after) c.members.invariant in
    subst (Holds256 c.update.new.self)
    (ap (λ (t : List ℕ). text_up_to name documents c.members.after ++ t) text
    ∙ sym (text-next name documents c.members.after c.in-Some.number c.in-Some.place next))
    held

pub returns : goal.returns
returns c newest others split =
    let documents = c.args.chain.now in
    let name = c.name-name.result.now in
    let last = c.in_default.ensures documents c.requires.entries in
    let named : name ≡ newest.name = c.name-name.ensures.first newest others split in
    c.finalize.ensures (text_up_to name documents c.members.after) c.members.invariant
    ∙ ap sha256 (text-last name documents c.members.after last)
    ∙ ap (λ (n : FeedName). sha256 (live_text n (live_entries_of documents))) named
