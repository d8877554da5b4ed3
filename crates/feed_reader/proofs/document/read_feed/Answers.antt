use Rattle.std.proofs.Common.{◌≡◌, ◌⊎◌, Ok, Err, Some, None, refl, sym, ap, subst, ◌∙◌, inl, inr, rules, length}
use Rattle.xml_tokens.specs.declared.elements.Event.TheVariants.{Begin, End, Said}
use Rattle.xml_tokens.specs.Progress.{IsFaultFrom, first_point, pending}
use Rattle.xml_tokens.proofs.DocumentLemmas.{root_comes, root_led}
use Rattle.xml_tokens.proofs.OneDocumentLemmas.{never_broken}
use Rattle.xml_tokens.proofs.ProgressLemmas.{err_is}
use Rattle.feed_reader.specs.declared.fault.ForeignRead.TheVariants.{NotRead, NoMemory}
use Rattle.feed_reader.specs.FeedDocument.{IsFeedRefusedAt, feed_depth}
use Rattle.feed_reader.specs.FeedReading.{IsDocumentMade, foreign_fault}
use Rattle.feed_reader.specs.Rest.{IsDocumentFrom}
use Rattle.feed_reader.proofs.FeedEndLemmas.{fault_said, faulty, made_whole, never_faulty, spelled}
use Rattle.feed_reader.proofs.FeedLawLemmas.{one_feed, refused_never}
use Rattle.feed_reader.proofs.document.read_feed.Goals as goal

pub returns-in_err-elements-clause-only : goal.returns-in_err-elements-clause-only
returns-in_err-elements-clause-only c = λ document spells.
    let f = c.in_err-elements.ensures in
    absurd (never_broken c.args.bytes.now f.0 spells.document.utf8 f.2)

pub returns-in_err-root-clause-only : goal.returns-in_err-root-clause-only
returns-in_err-root-clause-only c = λ document spells.
    let bytes = c.args.bytes.now in
    let fault = c.in_err-root.field-0.0 in
    let f : IsFaultFrom (length bytes) (first_point feed_depth bytes) fault =
    subst (λ n. IsFaultFrom n (first_point feed_depth bytes) fault) c.in_ok-elements.ensures.total
    (c.in_err-root.ensures.read (first_point feed_depth bytes) c.in_ok-elements.ensures.at) in
    err_is (λ r. (r ≡ Ok document) ⊎ (r ≡ Err NoMemory)) (foreign_fault fault)
    c.from_residual-in_err-root.result c.from_residual-in_err-root.ensures.1
    (inr (ap Err (never_faulty bytes spells.root spells.content fault spells.document f)))

pub returns-in_err-root-clause-refused : goal.returns-in_err-root-clause-refused
returns-in_err-root-clause-refused c = λ at why.
    let bytes = c.args.bytes.now in
    let utf8 = c.in_ok-elements.ensures.utf8 in
    let fault = c.in_err-root.field-0.0 in
    let f : IsFaultFrom (length bytes) (first_point feed_depth bytes) fault =
    subst (λ n. IsFaultFrom n (first_point feed_depth bytes) fault) c.in_ok-elements.ensures.total
    (c.in_err-root.ensures.read (first_point feed_depth bytes) c.in_ok-elements.ensures.at) in
    err_is (λ r. r ≡ Err (NotRead at why) → IsFeedRefusedAt bytes c.args.address.now at why) (foreign_fault fault)
    c.from_residual-in_err-root.result c.from_residual-in_err-root.ensures.1
    (λ same. let e : foreign_fault fault ≡ NotRead at why = cc in
    fault_said bytes c.args.address.now fault at why utf8 f e)

pub document-requires-clause-reading : goal.document-requires-clause-reading
document-requires-clause-reading c =
    let bytes = c.args.bytes.now in
    let address = c.args.address.now in
    let utf8 = c.in_ok-elements.ensures.utf8 in
    let old = c.in_ok-elements.elements in
    let from = first_point feed_depth bytes in
    let none = c.in_ok-elements.ensures.none in
    let total = c.in_ok-elements.ensures.total in
    let mid = c.next.new.self in
    let is : c.in-Some-Begin.field-0 ≡ Begin c.in-Some-Begin.root = search rules in
    let x = root_led old.length (pending old) from c.in_ok-root.field-0 c.in-Some-Begin.root mid
    (c.in-Some-Begin.is ∙ ap (λ k. Some k) is) (c.in_ok-root.ensures.read from c.in_ok-elements.ensures.at) in
    (x.2.to, x.2.is_at)

pub returns-in_err-document-clause-only : goal.returns-in_err-document-clause-only
returns-in_err-document-clause-only c = λ d spells.
    let bytes = c.args.bytes.now in
    let address = c.args.address.now in
    let utf8 = c.in_ok-elements.ensures.utf8 in
    let old = c.in_ok-elements.elements in
    let from = first_point feed_depth bytes in
    let none = c.in_ok-elements.ensures.none in
    let total = c.in_ok-elements.ensures.total in
    let mid = c.next.new.self in
    let is : c.in-Some-Begin.field-0 ≡ Begin c.in-Some-Begin.root = search rules in
    let x = root_led old.length (pending old) from c.in_ok-root.field-0 c.in-Some-Begin.root mid
    (c.in-Some-Begin.is ∙ ap (λ k. Some k) is) (c.in_ok-root.ensures.read from c.in_ok-elements.ensures.at) in
    let fault = c.in_err-document.field-0.0 in
    let f = faulty bytes address utf8 old mid none total x.0 x.2 fault
    (c.in_err-document.ensures.read x.2.to x.0 x.2.is_at x.1) in
    err_is (λ r. (r ≡ Ok d) ⊎ (r ≡ Err NoMemory)) (foreign_fault fault)
    c.from_residual-in_err-document.result c.from_residual-in_err-document.ensures.1
    (inr (ap Err (never_faulty bytes spells.root spells.content fault spells.document f)))

pub returns-in_err-document-clause-refused : goal.returns-in_err-document-clause-refused
returns-in_err-document-clause-refused c = λ at why.
    let bytes = c.args.bytes.now in
    let address = c.args.address.now in
    let utf8 = c.in_ok-elements.ensures.utf8 in
    let old = c.in_ok-elements.elements in
    let from = first_point feed_depth bytes in
    let none = c.in_ok-elements.ensures.none in
    let total = c.in_ok-elements.ensures.total in
    let mid = c.next.new.self in
    let is : c.in-Some-Begin.field-0 ≡ Begin c.in-Some-Begin.root = search rules in
    let x = root_led old.length (pending old) from c.in_ok-root.field-0 c.in-Some-Begin.root mid
    (c.in-Some-Begin.is ∙ ap (λ k. Some k) is) (c.in_ok-root.ensures.read from c.in_ok-elements.ensures.at) in
    let fault = c.in_err-document.field-0.0 in
    let f = faulty bytes address utf8 old mid none total x.0 x.2 fault
    (c.in_err-document.ensures.read x.2.to x.0 x.2.is_at x.1) in
    err_is (λ r. r ≡ Err (NotRead at why) → IsFeedRefusedAt bytes address at why) (foreign_fault fault)
    c.from_residual-in_err-document.result c.from_residual-in_err-document.ensures.1
    (λ same. let e : foreign_fault fault ≡ NotRead at why = cc in fault_said bytes address fault at why utf8 f e)

pub returns-in-Ok-clause-found : goal.returns-in-Ok-clause-found
returns-in-Ok-clause-found c =
    let bytes = c.args.bytes.now in
    let address = c.args.address.now in
    let utf8 = c.in_ok-elements.ensures.utf8 in
    let old = c.in_ok-elements.elements in
    let from = first_point feed_depth bytes in
    let none = c.in_ok-elements.ensures.none in
    let total = c.in_ok-elements.ensures.total in
    let mid = c.next.new.self in
    let is : c.in-Some-Begin.field-0 ≡ Begin c.in-Some-Begin.root = search rules in
    let x = root_led old.length (pending old) from c.in_ok-root.field-0 c.in-Some-Begin.root mid
    (c.in-Some-Begin.is ∙ ap (λ k. Some k) is) (c.in_ok-root.ensures.read from c.in_ok-elements.ensures.at) in
    let new = c.document.new.elements in
    let read = subst (λ k. IsDocumentFrom (λ inner m. IsDocumentMade address x.0 inner m) mid.length (pending mid) x.2.to
    (Ok k) new) c.in-Ok.is (c.in_ok-document.ensures.read x.2.to x.0 x.2.is_at x.1) in
    let whole = made_whole bytes address utf8 old mid none total x.0 x.2 (Ok c.in-Ok.document) new read
    c.in_ok-document.ensures.over in
    (whole.2.1, spelled bytes address x.0 whole.0 c.in-Ok.document whole.1 whole.2)

pub returns-in-Ok-clause-only : goal.returns-in-Ok-clause-only
returns-in-Ok-clause-only c = λ d spells.
    let bytes = c.args.bytes.now in
    let address = c.args.address.now in
    let utf8 = c.in_ok-elements.ensures.utf8 in
    let old = c.in_ok-elements.elements in
    let from = first_point feed_depth bytes in
    let none = c.in_ok-elements.ensures.none in
    let total = c.in_ok-elements.ensures.total in
    let mid = c.next.new.self in
    let is : c.in-Some-Begin.field-0 ≡ Begin c.in-Some-Begin.root = search rules in
    let x = root_led old.length (pending old) from c.in_ok-root.field-0 c.in-Some-Begin.root mid
    (c.in-Some-Begin.is ∙ ap (λ k. Some k) is) (c.in_ok-root.ensures.read from c.in_ok-elements.ensures.at) in
    let new = c.document.new.elements in
    let read = subst (λ k. IsDocumentFrom (λ inner m. IsDocumentMade address x.0 inner m) mid.length (pending mid) x.2.to
    (Ok k) new) c.in-Ok.is (c.in_ok-document.ensures.read x.2.to x.0 x.2.is_at x.1) in
    let whole = made_whole bytes address utf8 old mid none total x.0 x.2 (Ok c.in-Ok.document) new read
    c.in_ok-document.ensures.over in
    let one = spelled bytes address x.0 whole.0 c.in-Ok.document whole.1 whole.2 in
    inl (ap Ok (one_feed bytes address c.in-Ok.document d one spells))

pub returns-clause-only : goal.returns-clause-only
returns-clause-only c = λ d spells.
    let bytes = c.args.bytes.now in
    let address = c.args.address.now in
    let utf8 = c.in_ok-elements.ensures.utf8 in
    let old = c.in_ok-elements.elements in
    let from = first_point feed_depth bytes in
    let none = c.in_ok-elements.ensures.none in
    let total = c.in_ok-elements.ensures.total in
    let mid = c.next.new.self in
    let is : c.in-Some-Begin.field-0 ≡ Begin c.in-Some-Begin.root = search rules in
    let x = root_led old.length (pending old) from c.in_ok-root.field-0 c.in-Some-Begin.root mid
    (c.in-Some-Begin.is ∙ ap (λ k. Some k) is) (c.in_ok-root.ensures.read from c.in_ok-elements.ensures.at) in
    let new = c.document.new.elements in
    let read = subst (λ k. IsDocumentFrom (λ inner m. IsDocumentMade address x.0 inner m) mid.length (pending mid) x.2.to
    (Ok k) new) c.in-Err.is (c.in_ok-document.ensures.read x.2.to x.0 x.2.is_at x.1) in
    let whole = made_whole bytes address utf8 old mid none total x.0 x.2 (Err (c.in-Err.at, c.in-Err.why)) new read
    c.in_ok-document.ensures.over in
    absurd (refused_never bytes address d x.0 whole.0 c.in-Err.at c.in-Err.why whole.1 whole.2 spells)

pub returns-clause-refused : goal.returns-clause-refused
returns-clause-refused c = λ at why stated.
    let bytes = c.args.bytes.now in
    let address = c.args.address.now in
    let utf8 = c.in_ok-elements.ensures.utf8 in
    let old = c.in_ok-elements.elements in
    let from = first_point feed_depth bytes in
    let none = c.in_ok-elements.ensures.none in
    let total = c.in_ok-elements.ensures.total in
    let mid = c.next.new.self in
    let is : c.in-Some-Begin.field-0 ≡ Begin c.in-Some-Begin.root = search rules in
    let x = root_led old.length (pending old) from c.in_ok-root.field-0 c.in-Some-Begin.root mid
    (c.in-Some-Begin.is ∙ ap (λ k. Some k) is) (c.in_ok-root.ensures.read from c.in_ok-elements.ensures.at) in
    let new = c.document.new.elements in
    let read = subst (λ k. IsDocumentFrom (λ inner m. IsDocumentMade address x.0 inner m) mid.length (pending mid) x.2.to
    (Ok k) new) c.in-Err.is (c.in_ok-document.ensures.read x.2.to x.0 x.2.is_at x.1) in
    let whole = made_whole bytes address utf8 old mid none total x.0 x.2 (Err (c.in-Err.at, c.in-Err.why)) new read
    c.in_ok-document.ensures.over in
    let here : c.in-Err.at ≡ at = cc in
    let cause : c.in-Err.why ≡ why = cc in
    subst (λ k. IsFeedRefusedAt bytes address k why) here
    (subst (λ k. IsFeedRefusedAt bytes address c.in-Err.at k) cause (inr (x.0, whole.0, whole.1, whole.2)))

pub returns-in-Some-End-clause-only : goal.returns-in-Some-End-clause-only
returns-in-Some-End-clause-only c = λ d spells.
    let bytes = c.args.bytes.now in
    let old = c.in_ok-elements.elements in
    let comes = root_comes old.length (pending old) (first_point feed_depth bytes) c.in_ok-root.field-0 c.next.new.self
    c.in_ok-elements.ensures.none refl
    (c.in_ok-root.ensures.read (first_point feed_depth bytes) c.in_ok-elements.ensures.at)
    (λ e. (c.in_ok-root.ensures.ended (ap Ok e)).0) in
    let is : c.in-Some-End.field-0 ≡ End = search rules in
    let bad : Some End ≡ Some (Begin comes.0) = sym (c.in-Some-End.is ∙ ap (λ k. Some k) is) ∙ comes.1 in
    absurd cc

pub returns-in-Some-End-clause-refused : goal.returns-in-Some-End-clause-refused
returns-in-Some-End-clause-refused c = λ at why stated.
    let bytes = c.args.bytes.now in
    let old = c.in_ok-elements.elements in
    let comes = root_comes old.length (pending old) (first_point feed_depth bytes) c.in_ok-root.field-0 c.next.new.self
    c.in_ok-elements.ensures.none refl
    (c.in_ok-root.ensures.read (first_point feed_depth bytes) c.in_ok-elements.ensures.at)
    (λ e. (c.in_ok-root.ensures.ended (ap Ok e)).0) in
    let is : c.in-Some-End.field-0 ≡ End = search rules in
    let bad : Some End ≡ Some (Begin comes.0) = sym (c.in-Some-End.is ∙ ap (λ k. Some k) is) ∙ comes.1 in
    absurd cc

pub returns-in-Some-Said-clause-only : goal.returns-in-Some-Said-clause-only
returns-in-Some-Said-clause-only c = λ d spells.
    let bytes = c.args.bytes.now in
    let old = c.in_ok-elements.elements in
    let comes = root_comes old.length (pending old) (first_point feed_depth bytes) c.in_ok-root.field-0 c.next.new.self
    c.in_ok-elements.ensures.none refl
    (c.in_ok-root.ensures.read (first_point feed_depth bytes) c.in_ok-elements.ensures.at)
    (λ e. (c.in_ok-root.ensures.ended (ap Ok e)).0) in
    let is : c.in-Some-Said.field-0 ≡ Said c.in-Some-Said.field-0-0 = search rules in
    let bad : Some (Said c.in-Some-Said.field-0-0) ≡ Some (Begin comes.0) = sym (c.in-Some-Said.is ∙ ap (λ k. Some k) is) ∙ comes.1 in
    absurd cc

pub returns-in-Some-Said-clause-refused : goal.returns-in-Some-Said-clause-refused
returns-in-Some-Said-clause-refused c = λ at why stated.
    let bytes = c.args.bytes.now in
    let old = c.in_ok-elements.elements in
    let comes = root_comes old.length (pending old) (first_point feed_depth bytes) c.in_ok-root.field-0 c.next.new.self
    c.in_ok-elements.ensures.none refl
    (c.in_ok-root.ensures.read (first_point feed_depth bytes) c.in_ok-elements.ensures.at)
    (λ e. (c.in_ok-root.ensures.ended (ap Ok e)).0) in
    let is : c.in-Some-Said.field-0 ≡ Said c.in-Some-Said.field-0-0 = search rules in
    let bad : Some (Said c.in-Some-Said.field-0-0) ≡ Some (Begin comes.0) = sym (c.in-Some-Said.is ∙ ap (λ k. Some k) is) ∙ comes.1 in
    absurd cc

pub returns-in-None-clause-only : goal.returns-in-None-clause-only
returns-in-None-clause-only c = λ d spells.
    let bytes = c.args.bytes.now in
    let old = c.in_ok-elements.elements in
    let comes = root_comes old.length (pending old) (first_point feed_depth bytes) c.in_ok-root.field-0 c.next.new.self
    c.in_ok-elements.ensures.none refl
    (c.in_ok-root.ensures.read (first_point feed_depth bytes) c.in_ok-elements.ensures.at)
    (λ e. (c.in_ok-root.ensures.ended (ap Ok e)).0) in
    let bad : None ≡ Some (Begin comes.0) = sym (c.in-None.is) ∙ comes.1 in
    absurd cc

pub returns-in-None-clause-refused : goal.returns-in-None-clause-refused
returns-in-None-clause-refused c = λ at why stated.
    let bytes = c.args.bytes.now in
    let old = c.in_ok-elements.elements in
    let comes = root_comes old.length (pending old) (first_point feed_depth bytes) c.in_ok-root.field-0 c.next.new.self
    c.in_ok-elements.ensures.none refl
    (c.in_ok-root.ensures.read (first_point feed_depth bytes) c.in_ok-elements.ensures.at)
    (λ e. (c.in_ok-root.ensures.ended (ap Ok e)).0) in
    let bad : None ≡ Some (Begin comes.0) = sym (c.in-None.is) ∙ comes.1 in
    absurd cc
