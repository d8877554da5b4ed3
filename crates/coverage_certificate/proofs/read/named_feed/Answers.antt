use Rattle.std.proofs.Common.{◌≡◌, ◌++◌, ℕ, List, None, Some, codes, ap, ◌∙◌}
use Rattle.deleted_entries.specs.FeedId.{feed_text}
use Rattle.coverage_certificate.proofs.FieldLemmas.{cut_is, feed_fields, feed_short}
use Rattle.coverage_certificate.proofs.read.named_feed.Goals as goal

pub returns-in_err-id-clause-none : goal.returns-in_err-id-clause-none
returns-in_err-id-clause-none c = λ _ feed base is e.
    feed_short c.args.line.now c.in_ok-fields.fields.now c.in_ok-fields.ensures.found c.in_err-id.ensures.cases feed
    base e

pub returns-in_err-feed-clause-none : goal.returns-in_err-feed-clause-none
returns-in_err-feed-clause-none c = λ _ feed base is e.
    let cut = c.in_ok-id.ensures.cases in
    let parts = feed_fields c.args.line.now c.in_ok-fields.fields.now c.in_ok-id.id.now c.in_ok-id.behind.now
    c.in_ok-fields.ensures.found (cut_is c.in_ok-fields.fields.now c.in_ok-id.id.now c.in_ok-id.behind.now
    36 cut.1 cut.2)
    cut.3 feed base e in
    let h : None ≡ Some feed = c.in_err-feed.ensures.only feed is parts.0 in cc

pub returns-in_err-after-clause-none : goal.returns-in_err-after-clause-none
returns-in_err-after-clause-none c = λ _ feed base is e.
    let cut = c.in_ok-id.ensures.cases in
    let parts = feed_fields c.args.line.now c.in_ok-fields.fields.now c.in_ok-id.id.now c.in_ok-id.behind.now
    c.in_ok-fields.ensures.found (cut_is c.in_ok-fields.fields.now c.in_ok-id.id.now c.in_ok-id.behind.now
    36 cut.1 cut.2)
    cut.3 feed base e in
    let h : None ≡ Some base = c.in_err-after.ensures.only base parts.1 in cc

pub returns-clause-found : goal.returns-clause-found
returns-clause-found c =
    let cut = c.in_ok-id.ensures.cases in
    let id = c.in_ok-feed.ensures.found in (
      id.0,
      c.in_ok-fields.ensures.found ∙ ap (λ (x : List ℕ). codes "feed " ++ x)
          (cut_is c.in_ok-fields.fields.now c.in_ok-id.id.now c.in_ok-id.behind.now 36 cut.1 cut.2
          ∙ ap (λ (x : List ℕ). x ++ c.in_ok-id.behind.now) id.1
          ∙ ap (λ (x : List ℕ). feed_text c.in_ok-feed.feed ++ x) c.in_ok-after.ensures.found),
    )
