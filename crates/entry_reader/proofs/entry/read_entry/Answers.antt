use Rattle.std.proofs.Common.{◌≡◌, ◌⊎◌, Ok, Err, Some, None, refl, sym, ap, subst, ◌∙◌, inl, inr, rules, length}
use Rattle.xml_tokens.specs.declared.elements.Event.TheVariants.{Begin, End, Said}
use Rattle.entry_reader.specs.declared.fault.EntryFault.TheVariants.{NotRead, NoMemory}
use Rattle.entry_reader.specs.declared.fault.EarlyEnd.TheVariants.{Refused, Fault}
use Rattle.entry_reader.specs.Spells.{depth_limit}
use Rattle.entry_reader.specs.Refusal.{IsRefusedAt, entry_fault}
use Rattle.xml_tokens.specs.Progress.{IsFaultFrom, first_point, pending}
use Rattle.entry_reader.specs.Parts.{IsEntryFrom}
use Rattle.xml_tokens.proofs.DocumentLemmas.{root_comes, root_led}
use Rattle.entry_reader.proofs.DraftLemmas.{fault_said, later_faulty, faulty, never_faulty, no_entry, one_draft, refused_entry, spelled}
use Rattle.xml_tokens.proofs.OneDocumentLemmas.{never_broken}
use Rattle.xml_tokens.proofs.ProgressLemmas.{err_is}
use Rattle.entry_reader.proofs.entry.read_entry.Goals as goal

pub returns-in_err-elements-clause-only : goal.returns-in_err-elements-clause-only
returns-in_err-elements-clause-only c = λ draft spells.
    let f = c.in_err-elements.ensures in
    absurd (never_broken c.args.bytes.now f.0 spells.document.utf8 f.2)

pub returns-in_err-root-clause-only : goal.returns-in_err-root-clause-only
returns-in_err-root-clause-only c = λ draft spells.
    let bytes = c.args.bytes.now in
    let fault = c.in_err-root.field-0.0 in
    let f : IsFaultFrom (length bytes) (first_point depth_limit bytes) fault =
    subst (λ n. IsFaultFrom n (first_point depth_limit bytes) fault) c.in_ok-elements.ensures.total
    (c.in_err-root.ensures.read (first_point depth_limit bytes) c.in_ok-elements.ensures.at) in
    err_is (λ r. (r ≡ Ok draft) ⊎ (r ≡ Err NoMemory)) (entry_fault fault)
    c.from_residual-in_err-root.result c.from_residual-in_err-root.ensures.1
    (inr (ap Err (never_faulty bytes spells.root spells.content fault spells.document f)))

pub returns-in_err-root-clause-refused : goal.returns-in_err-root-clause-refused
returns-in_err-root-clause-refused c = λ at why.
    let bytes = c.args.bytes.now in
    let utf8 = c.in_ok-elements.ensures.utf8 in
    let fault = c.in_err-root.field-0.0 in
    let f : IsFaultFrom (length bytes) (first_point depth_limit bytes) fault =
    subst (λ n. IsFaultFrom n (first_point depth_limit bytes) fault) c.in_ok-elements.ensures.total
    (c.in_err-root.ensures.read (first_point depth_limit bytes) c.in_ok-elements.ensures.at) in
    err_is (λ r. r ≡ Err (NotRead at why) → IsRefusedAt bytes at why) (entry_fault fault)
    c.from_residual-in_err-root.result c.from_residual-in_err-root.ensures.1
    (λ same. let e : entry_fault fault ≡ NotRead at why = cc in fault_said bytes fault at why utf8 f e)

pub entry-requires-clause-reading : goal.entry-requires-clause-reading
entry-requires-clause-reading c =
    let bytes = c.args.bytes.now in
    let old = c.in_ok-elements.elements in
    let from = first_point depth_limit bytes in
    let mid = c.next.new.self in
    let is : c.in-Some-Begin.field-0 ≡ Begin c.in-Some-Begin.root = search rules in
    let x = root_led old.length (pending old) from c.in_ok-root.field-0 c.in-Some-Begin.root mid
    (c.in-Some-Begin.is ∙ ap (λ k. Some k) is) (c.in_ok-root.ensures.read from c.in_ok-elements.ensures.at) in
    (x.2.to, x.2.is_at)

pub returns-in-Ok-clause-found : goal.returns-in-Ok-clause-found
returns-in-Ok-clause-found c =
    let bytes = c.args.bytes.now in
    let utf8 = c.in_ok-elements.ensures.utf8 in
    let old = c.in_ok-elements.elements in
    let from = first_point depth_limit bytes in
    let none = c.in_ok-elements.ensures.none in
    let total = c.in_ok-elements.ensures.total in
    let mid = c.next.new.self in
    let is : c.in-Some-Begin.field-0 ≡ Begin c.in-Some-Begin.root = search rules in
    let x = root_led old.length (pending old) from c.in_ok-root.field-0 c.in-Some-Begin.root mid
    (c.in-Some-Begin.is ∙ ap (λ k. Some k) is) (c.in_ok-root.ensures.read from c.in_ok-elements.ensures.at) in (
      c.in-Ok.ensures.kept,
      spelled bytes utf8 old mid none total x.0 x.2 c.in-Ok.draft c.entry.new.elements
          (c.in-Ok.ensures.read x.2.to x.0 x.2.is_at x.1) c.in-Ok.ensures.over,
    )

pub returns-in-Ok-clause-only : goal.returns-in-Ok-clause-only
returns-in-Ok-clause-only c = λ draft spells.
    let bytes = c.args.bytes.now in
    let utf8 = c.in_ok-elements.ensures.utf8 in
    let old = c.in_ok-elements.elements in
    let from = first_point depth_limit bytes in
    let none = c.in_ok-elements.ensures.none in
    let total = c.in_ok-elements.ensures.total in
    let mid = c.next.new.self in
    let is : c.in-Some-Begin.field-0 ≡ Begin c.in-Some-Begin.root = search rules in
    let x = root_led old.length (pending old) from c.in_ok-root.field-0 c.in-Some-Begin.root mid
    (c.in-Some-Begin.is ∙ ap (λ k. Some k) is) (c.in_ok-root.ensures.read from c.in_ok-elements.ensures.at) in
    let one = spelled bytes utf8 old mid none total x.0 x.2 c.in-Ok.draft c.entry.new.elements
    (c.in-Ok.ensures.read x.2.to x.0 x.2.is_at x.1) c.in-Ok.ensures.over in
    inl (ap Ok (one_draft bytes c.in-Ok.draft draft one spells))

pub returns-in-Err-Fault-clause-only : goal.returns-in-Err-Fault-clause-only
returns-in-Err-Fault-clause-only c = λ draft spells.
    let bytes = c.args.bytes.now in
    let utf8 = c.in_ok-elements.ensures.utf8 in
    let old = c.in_ok-elements.elements in
    let from = first_point depth_limit bytes in
    let none = c.in_ok-elements.ensures.none in
    let total = c.in_ok-elements.ensures.total in
    let mid = c.next.new.self in
    let is : c.in-Some-Begin.field-0 ≡ Begin c.in-Some-Begin.root = search rules in
    let x = root_led old.length (pending old) from c.in_ok-root.field-0 c.in-Some-Begin.root mid
    (c.in-Some-Begin.is ∙ ap (λ k. Some k) is) (c.in_ok-root.ensures.read from c.in_ok-elements.ensures.at) in
    let fault = c.in-Err-Fault.fault in
    let same : c.in-Err-Fault.field-0 ≡ Fault fault = search rules in
    let z = subst (λ s. IsEntryFrom mid.length (pending mid) x.2.to x.0 (Err s) c.entry.new.elements) same
    (c.in-Err-Fault.ensures.read x.2.to x.0 x.2.is_at x.1) in
    let f = faulty bytes utf8 old mid none total x.0 x.2 fault z in
    inr (ap Err (c.from.ensures ∙ never_faulty bytes spells.root spells.content fault spells.document f))

pub returns-in-Err-Fault-clause-refused : goal.returns-in-Err-Fault-clause-refused
returns-in-Err-Fault-clause-refused c = λ at why stated.
    let bytes = c.args.bytes.now in
    let utf8 = c.in_ok-elements.ensures.utf8 in
    let old = c.in_ok-elements.elements in
    let from = first_point depth_limit bytes in
    let none = c.in_ok-elements.ensures.none in
    let total = c.in_ok-elements.ensures.total in
    let mid = c.next.new.self in
    let is : c.in-Some-Begin.field-0 ≡ Begin c.in-Some-Begin.root = search rules in
    let x = root_led old.length (pending old) from c.in_ok-root.field-0 c.in-Some-Begin.root mid
    (c.in-Some-Begin.is ∙ ap (λ k. Some k) is) (c.in_ok-root.ensures.read from c.in_ok-elements.ensures.at) in
    let fault = c.in-Err-Fault.fault in
    let same : c.in-Err-Fault.field-0 ≡ Fault fault = search rules in
    let z = subst (λ s. IsEntryFrom mid.length (pending mid) x.2.to x.0 (Err s) c.entry.new.elements) same
    (c.in-Err-Fault.ensures.read x.2.to x.0 x.2.is_at x.1) in
    let f = faulty bytes utf8 old mid none total x.0 x.2 fault z in
    let is : c.from.result ≡ NotRead at why = cc in
    fault_said bytes fault at why utf8 f (sym c.from.ensures ∙ is)

pub drain-requires : goal.drain-requires
drain-requires c =
    let bytes = c.args.bytes.now in
    let old = c.in_ok-elements.elements in
    let from = first_point depth_limit bytes in
    let mid = c.next.new.self in
    let is : c.in-Some-Begin.field-0 ≡ Begin c.in-Some-Begin.root = search rules in
    let x = root_led old.length (pending old) from c.in_ok-root.field-0 c.in-Some-Begin.root mid
    (c.in-Some-Begin.is ∙ ap (λ k. Some k) is) (c.in_ok-root.ensures.read from c.in_ok-elements.ensures.at) in
    let stop = c.entry.new.elements in
    let refused : c.in-Err-Refused.field-0 ≡ Refused c.in-Err-Refused.at c.in-Err-Refused.why = search rules in
    let z = subst (λ s. IsEntryFrom mid.length (pending mid) x.2.to x.0 (Err s) stop) refused
    (c.in-Err-Refused.ensures.read x.2.to x.0 x.2.is_at x.1) in
    (z.1.to, z.1.is_at)

pub returns-in_err-drain-in-Err-Refused-clause-only : goal.returns-in_err-drain-in-Err-Refused-clause-only
returns-in_err-drain-in-Err-Refused-clause-only c = λ draft spells.
    let bytes = c.args.bytes.now in
    let utf8 = c.in_ok-elements.ensures.utf8 in
    let old = c.in_ok-elements.elements in
    let from = first_point depth_limit bytes in
    let none = c.in_ok-elements.ensures.none in
    let total = c.in_ok-elements.ensures.total in
    let mid = c.next.new.self in
    let is : c.in-Some-Begin.field-0 ≡ Begin c.in-Some-Begin.root = search rules in
    let x = root_led old.length (pending old) from c.in_ok-root.field-0 c.in-Some-Begin.root mid
    (c.in-Some-Begin.is ∙ ap (λ k. Some k) is) (c.in_ok-root.ensures.read from c.in_ok-elements.ensures.at) in
    let stop = c.entry.new.elements in
    let refused : c.in-Err-Refused.field-0 ≡ Refused c.in-Err-Refused.at c.in-Err-Refused.why = search rules in
    let z = subst (λ s. IsEntryFrom mid.length (pending mid) x.2.to x.0 (Err s) stop) refused
    (c.in-Err-Refused.ensures.read x.2.to x.0 x.2.is_at x.1) in
    let fault = c.in_err-drain-in-Err-Refused.field-0.0 in
    let f = later_faulty bytes utf8 old mid none total x.0 x.2 c.in-Err-Refused.at c.in-Err-Refused.why stop
    c.drain.new.self z fault (c.in_err-drain-in-Err-Refused.ensures.read z.1.to z.1.is_at) in
    err_is (λ r. (r ≡ Ok draft) ⊎ (r ≡ Err NoMemory)) (entry_fault fault)
    c.from_residual-in_err-drain-in-Err-Refused.result c.from_residual-in_err-drain-in-Err-Refused.ensures.1
    (inr (ap Err (never_faulty bytes spells.root spells.content fault spells.document f)))

pub returns-in_err-drain-in-Err-Refused-clause-refused : goal.returns-in_err-drain-in-Err-Refused-clause-refused
returns-in_err-drain-in-Err-Refused-clause-refused c = λ at why.
    let bytes = c.args.bytes.now in
    let utf8 = c.in_ok-elements.ensures.utf8 in
    let old = c.in_ok-elements.elements in
    let from = first_point depth_limit bytes in
    let none = c.in_ok-elements.ensures.none in
    let total = c.in_ok-elements.ensures.total in
    let mid = c.next.new.self in
    let is : c.in-Some-Begin.field-0 ≡ Begin c.in-Some-Begin.root = search rules in
    let x = root_led old.length (pending old) from c.in_ok-root.field-0 c.in-Some-Begin.root mid
    (c.in-Some-Begin.is ∙ ap (λ k. Some k) is) (c.in_ok-root.ensures.read from c.in_ok-elements.ensures.at) in
    let stop = c.entry.new.elements in
    let refused : c.in-Err-Refused.field-0 ≡ Refused c.in-Err-Refused.at c.in-Err-Refused.why = search rules in
    let z = subst (λ s. IsEntryFrom mid.length (pending mid) x.2.to x.0 (Err s) stop) refused
    (c.in-Err-Refused.ensures.read x.2.to x.0 x.2.is_at x.1) in
    let fault = c.in_err-drain-in-Err-Refused.field-0.0 in
    let f = later_faulty bytes utf8 old mid none total x.0 x.2 c.in-Err-Refused.at c.in-Err-Refused.why stop
    c.drain.new.self z fault (c.in_err-drain-in-Err-Refused.ensures.read z.1.to z.1.is_at) in
    err_is (λ r. r ≡ Err (NotRead at why) → IsRefusedAt bytes at why) (entry_fault fault)
    c.from_residual-in_err-drain-in-Err-Refused.result c.from_residual-in_err-drain-in-Err-Refused.ensures.1
    (λ same. let e : entry_fault fault ≡ NotRead at why = cc in fault_said bytes fault at why utf8 f e)

pub returns-clause-only : goal.returns-clause-only
returns-clause-only c = λ draft spells.
    let bytes = c.args.bytes.now in
    let utf8 = c.in_ok-elements.ensures.utf8 in
    let old = c.in_ok-elements.elements in
    let from = first_point depth_limit bytes in
    let none = c.in_ok-elements.ensures.none in
    let total = c.in_ok-elements.ensures.total in
    let mid = c.next.new.self in
    let is : c.in-Some-Begin.field-0 ≡ Begin c.in-Some-Begin.root = search rules in
    let x = root_led old.length (pending old) from c.in_ok-root.field-0 c.in-Some-Begin.root mid
    (c.in-Some-Begin.is ∙ ap (λ k. Some k) is) (c.in_ok-root.ensures.read from c.in_ok-elements.ensures.at) in
    let stop = c.entry.new.elements in
    let refused : c.in-Err-Refused.field-0 ≡ Refused c.in-Err-Refused.at c.in-Err-Refused.why = search rules in
    let z = subst (λ s. IsEntryFrom mid.length (pending mid) x.2.to x.0 (Err s) stop) refused
    (c.in-Err-Refused.ensures.read x.2.to x.0 x.2.is_at x.1) in
    let e = refused_entry bytes utf8 old mid none total x.0 x.2 c.in-Err-Refused.at c.in-Err-Refused.why stop
    c.drain.new.self z (c.in_ok-drain-in-Err-Refused.ensures.read z.1.to z.1.is_at)
    c.in_ok-drain-in-Err-Refused.ensures.over in
    absurd (no_entry bytes x.0 e.0 c.in-Err-Refused.at c.in-Err-Refused.why draft e.1 e.2 spells)

pub returns-clause-refused : goal.returns-clause-refused
returns-clause-refused c = λ at why stated.
    let bytes = c.args.bytes.now in
    let utf8 = c.in_ok-elements.ensures.utf8 in
    let old = c.in_ok-elements.elements in
    let from = first_point depth_limit bytes in
    let none = c.in_ok-elements.ensures.none in
    let total = c.in_ok-elements.ensures.total in
    let mid = c.next.new.self in
    let is : c.in-Some-Begin.field-0 ≡ Begin c.in-Some-Begin.root = search rules in
    let x = root_led old.length (pending old) from c.in_ok-root.field-0 c.in-Some-Begin.root mid
    (c.in-Some-Begin.is ∙ ap (λ k. Some k) is) (c.in_ok-root.ensures.read from c.in_ok-elements.ensures.at) in
    let stop = c.entry.new.elements in
    let refused : c.in-Err-Refused.field-0 ≡ Refused c.in-Err-Refused.at c.in-Err-Refused.why = search rules in
    let z = subst (λ s. IsEntryFrom mid.length (pending mid) x.2.to x.0 (Err s) stop) refused
    (c.in-Err-Refused.ensures.read x.2.to x.0 x.2.is_at x.1) in
    let e = refused_entry bytes utf8 old mid none total x.0 x.2 c.in-Err-Refused.at c.in-Err-Refused.why stop
    c.drain.new.self z (c.in_ok-drain-in-Err-Refused.ensures.read z.1.to z.1.is_at)
    c.in_ok-drain-in-Err-Refused.ensures.over in
    let here : c.in-Err-Refused.at ≡ at = cc in
    let cause : c.in-Err-Refused.why ≡ why = cc in
    subst (λ k. IsRefusedAt bytes k why) here
    (subst (λ k. IsRefusedAt bytes c.in-Err-Refused.at k) cause (inr (x.0, e.0, e.1, e.2)))

pub returns-in-Some-End-clause-only : goal.returns-in-Some-End-clause-only
returns-in-Some-End-clause-only c = λ draft spells.
    let bytes = c.args.bytes.now in
    let old = c.in_ok-elements.elements in
    let comes = root_comes old.length (pending old) (first_point depth_limit bytes) c.in_ok-root.field-0 c.next.new.self
    c.in_ok-elements.ensures.none refl
    (c.in_ok-root.ensures.read (first_point depth_limit bytes) c.in_ok-elements.ensures.at)
    (λ e. (c.in_ok-root.ensures.ended (ap Ok e)).0) in
    let is : c.in-Some-End.field-0 ≡ End = search rules in
    let bad : Some End ≡ Some (Begin comes.0) = sym (c.in-Some-End.is ∙ ap (λ k. Some k) is) ∙ comes.1 in
    absurd cc

pub returns-in-Some-End-clause-refused : goal.returns-in-Some-End-clause-refused
returns-in-Some-End-clause-refused c = λ at why stated.
    let bytes = c.args.bytes.now in
    let old = c.in_ok-elements.elements in
    let comes = root_comes old.length (pending old) (first_point depth_limit bytes) c.in_ok-root.field-0 c.next.new.self
    c.in_ok-elements.ensures.none refl
    (c.in_ok-root.ensures.read (first_point depth_limit bytes) c.in_ok-elements.ensures.at)
    (λ e. (c.in_ok-root.ensures.ended (ap Ok e)).0) in
    let is : c.in-Some-End.field-0 ≡ End = search rules in
    let bad : Some End ≡ Some (Begin comes.0) = sym (c.in-Some-End.is ∙ ap (λ k. Some k) is) ∙ comes.1 in
    absurd cc

pub returns-in-Some-Said-clause-only : goal.returns-in-Some-Said-clause-only
returns-in-Some-Said-clause-only c = λ draft spells.
    let bytes = c.args.bytes.now in
    let old = c.in_ok-elements.elements in
    let comes = root_comes old.length (pending old) (first_point depth_limit bytes) c.in_ok-root.field-0 c.next.new.self
    c.in_ok-elements.ensures.none refl
    (c.in_ok-root.ensures.read (first_point depth_limit bytes) c.in_ok-elements.ensures.at)
    (λ e. (c.in_ok-root.ensures.ended (ap Ok e)).0) in
    let is : c.in-Some-Said.field-0 ≡ Said c.in-Some-Said.field-0-0 = search rules in
    let bad : Some (Said c.in-Some-Said.field-0-0) ≡ Some (Begin comes.0) =
    sym (c.in-Some-Said.is ∙ ap (λ k. Some k) is) ∙ comes.1 in
    absurd cc

pub returns-in-Some-Said-clause-refused : goal.returns-in-Some-Said-clause-refused
returns-in-Some-Said-clause-refused c = λ at why stated.
    let bytes = c.args.bytes.now in
    let old = c.in_ok-elements.elements in
    let comes = root_comes old.length (pending old) (first_point depth_limit bytes) c.in_ok-root.field-0 c.next.new.self
    c.in_ok-elements.ensures.none refl
    (c.in_ok-root.ensures.read (first_point depth_limit bytes) c.in_ok-elements.ensures.at)
    (λ e. (c.in_ok-root.ensures.ended (ap Ok e)).0) in
    let is : c.in-Some-Said.field-0 ≡ Said c.in-Some-Said.field-0-0 = search rules in
    let bad : Some (Said c.in-Some-Said.field-0-0) ≡ Some (Begin comes.0) =
    sym (c.in-Some-Said.is ∙ ap (λ k. Some k) is) ∙ comes.1 in
    absurd cc

pub returns-in-None-clause-only : goal.returns-in-None-clause-only
returns-in-None-clause-only c = λ draft spells.
    let bytes = c.args.bytes.now in
    let old = c.in_ok-elements.elements in
    let comes = root_comes old.length (pending old) (first_point depth_limit bytes) c.in_ok-root.field-0 c.next.new.self
    c.in_ok-elements.ensures.none refl
    (c.in_ok-root.ensures.read (first_point depth_limit bytes) c.in_ok-elements.ensures.at)
    (λ e. (c.in_ok-root.ensures.ended (ap Ok e)).0) in
    let bad : None ≡ Some (Begin comes.0) = sym (c.in-None.is) ∙ comes.1 in
    absurd cc

pub returns-in-None-clause-refused : goal.returns-in-None-clause-refused
returns-in-None-clause-refused c = λ at why stated.
    let bytes = c.args.bytes.now in
    let old = c.in_ok-elements.elements in
    let comes = root_comes old.length (pending old) (first_point depth_limit bytes) c.in_ok-root.field-0 c.next.new.self
    c.in_ok-elements.ensures.none refl
    (c.in_ok-root.ensures.read (first_point depth_limit bytes) c.in_ok-elements.ensures.at)
    (λ e. (c.in_ok-root.ensures.ended (ap Ok e)).0) in
    let bad : None ≡ Some (Begin comes.0) = sym (c.in-None.is) ∙ comes.1 in
    absurd cc
