use Rattle.std.proofs.Common.{sym, ap, ◌∙◌, arith}
use Rattle.std.proofs.lemmas.Bool.{both_ways}
use Rattle.std.proofs.lemmas.Bool.Decides.{not_from_Decides}
use Rattle.foreign_mirror.specs.Walk.{is_http}
use Rattle.foreign_mirror.proofs.KnownLemmas.{contained}
use Rattle.foreign_mirror.proofs.walk.Progress.check.Goals as goal

pub returns-then-contains-clause-checked : goal.returns-then-contains-clause-checked
returns-then-contains-clause-checked c = λ asked documents keeps.
    let there = contained (λ k. k.items) asked c.slice.result.now c.in-Some.address c.args.self.now.asked.keys
    c.contains.result keeps.knows c.slice.ensures c.contains.ensures in
    (c.in-Some.is, there.0 c.if-contains.true)

pub returns-then-not-is_http-clause-checked : goal.returns-then-not-is_http-clause-checked
returns-then-not-is_http-clause-checked c = λ asked documents keeps.
    let there = contained (λ k. k.items) asked c.slice.result.now c.in-Some.address c.args.self.now.asked.keys
    c.contains.result keeps.knows c.slice.ensures c.contains.ensures in (
      c.in-Some.is,
      not_from_Decides c.contains.result there c.if-contains.false,
      λ http. both_ways (is_http c.in-Some.address)
          (ap is_http (sym c.slice-2.ensures) ∙ sym c.is_http.ensures ∙ c.if-not-is_http.true) http,
    )

pub returns-then-self-ge-MAX_DOCUMENTS-clause-checked :
    goal.returns-then-self-ge-MAX_DOCUMENTS-clause-checked
returns-then-self-ge-MAX_DOCUMENTS-clause-checked c = λ asked documents keeps.
    let there = contained (λ k. k.items) asked c.slice.result.now c.in-Some.address c.args.self.now.asked.keys
    c.contains.result keeps.knows c.slice.ensures c.contains.ensures in
    let each = keeps.each in
    let few = keeps.few in
    let docs = keeps.taken.docs in
    let most = c.if-self-ge-MAX_DOCUMENTS.true in (
      c.in-Some.address,
      c.in-Some.is,
      not_from_Decides c.contains.result there c.if-contains.false,
      ap is_http (sym c.slice-2.ensures) ∙ sym c.is_http.ensures ∙ c.if-not-is_http.false,
      omega (arith, each, few, docs, most),
    )

pub returns-clause-checked : goal.returns-clause-checked
returns-clause-checked c = λ asked documents keeps.
    let there = contained (λ k. k.items) asked c.slice.result.now c.in-Some.address c.args.self.now.asked.keys
    c.contains.result keeps.knows c.slice.ensures c.contains.ensures in
    let each = keeps.each in
    let docs = keeps.taken.docs in
    let most = c.if-self-ge-MAX_DOCUMENTS.false in (
      c.in-Some.is,
      record {
        new = not_from_Decides c.contains.result there c.if-contains.false;
        http = ap is_http (sym c.slice-2.ensures) ∙ sym c.is_http.ensures ∙ c.if-not-is_http.false;
        few = omega (arith, each, docs, most);
      },
    )
