use Rattle.std.proofs.Common.{◌≡◌, ◌+◌, ◌-◌, ℕ, List, ◌∷◌, ◌++◌, length, take, drop, Some, Err, sym, ap, ◌∙◌, subst, arith}
use Rattle.std.proofs.lemmas.Result.{err_from_is_err_and}
use Rattle.atom_values.specs.Ascii.{lf}
use Rattle.doc_source.specs.Intake.{IntakeState}
use Rattle.doc_source.specs.Line.{HasNoLf, IsLine}
use Rattle.doc_source.specs.Part.{HasHead, IsLineEnd, part_text, with_part}
use Rattle.doc_source.specs.Pile.{head_at}
use Rattle.doc_source.specs.declared.part.Part.{Part}
use Rattle.doc_source.proofs.IntakeLemmas.{takes_as, takes_both, takes_if}
use Rattle.doc_source.proofs.ReaderLemmas.{answer_before, line_no_lf, line_parts, line_used}
use Rattle.doc_source.proofs.SeenLemmas.{has_head_more, line_other, seen, seen_as, seen_part}
use Rattle.doc_source.proofs.part.begin.Goals as goal

pub returns-in_err-end-clause-takes : goal.returns-in_err-end-clause-takes
returns-in_err-end-clause-takes g c =
    let observable' = g.S.Source.observable in
    let used = c.args.used in
    let old = c.args.intake.now in
    let mid = c.read_head.new.intake in
    let now = c.find_line.new.intake in
    let s0 = g.S.Source.state c.args.source.now in
    let s1 = g.S.Source.state c.read_head.new.source in
    let s2 = g.S.Source.state c.find_line.new.source in
    let first = takes_if _ observable' old mid s0 s1 (λ t. (t, tt)) c.in_ok-head.ensures.takes in
    let p = err_from_is_err_and c.from_residual-in_err-end.result c.from_residual-in_err-end.ensures.1 in
    rw (p.1, p.2) (takes_both _ old mid now s0 s1 s2 (takes_if observable' _ old mid s0 s1 (λ t. t.0) first)
    c.in_err-end.ensures.takes)

pub returns-in_err-end-clause-refused : goal.returns-in_err-end-clause-refused
returns-in_err-end-clause-refused g c =
    let observable' = g.S.Source.observable in
    let used = c.args.used in
    let old = c.args.intake.now in
    let mid = c.read_head.new.intake in
    let now = c.find_line.new.intake in
    let s0 = g.S.Source.state c.args.source.now in
    let s1 = g.S.Source.state c.read_head.new.source in
    let s2 = g.S.Source.state c.find_line.new.source in
    let first = takes_if _ observable' old mid s0 s1 (λ t. (t, tt)) c.in_ok-head.ensures.takes in
    let p = err_from_is_err_and c.from_residual-in_err-end.result c.from_residual-in_err-end.ensures.1 in
    rw (p.1, p.2) (λ observable. answer_before observable' used old mid s0 s1 (Err c.in_err-end.field-0.0) observable first
    (c.in_err-end.ensures.refused observable))

pub parse_line-requires : goal.parse_line-requires
parse_line-requires g c =
    let observable' = g.S.Source.observable in
    let used = c.args.used in
    let old = c.args.intake.now in
    let mid = c.read_head.new.intake in
    let now = c.find_line.new.intake in
    let s0 = g.S.Source.state c.args.source.now in
    let s1 = g.S.Source.state c.read_head.new.source in
    let s2 = g.S.Source.state c.find_line.new.source in
    let first = takes_if _ observable' old mid s0 s1 (λ t. (t, tt)) c.in_ok-head.ensures.takes in
    let second = takes_if _ observable' mid now s1 s2 (λ t. (t, tt)) c.in_ok-end.ensures.takes in
    let both = takes_both observable' old mid now s0 s1 s2 first second in
    let head = c.in_ok-head.head in
    let end = c.in-Some.end in
    let bytes = c.ahead-ahead.ensures.bytes in
    let ends : IsLineEnd now.ahead head end = rw c.in-Some.is at c.in_ok-end.ensures.found in
    let has : HasHead used now.ahead = subst (HasHead used) (sym second.ahead)
    (has_head_more used mid.ahead second.read c.in_ok-head.ensures.head) in
    subst (λ (x : List ℕ). HasNoLf (take (end - head) (drop head x))) (sym bytes) (line_no_lf head end now.ahead ends)

pub returns-in_default-parse_line-clause-refused : goal.returns-in_default-parse_line-clause-refused
returns-in_default-parse_line-clause-refused g c = λ observable.
    let observable' = g.S.Source.observable in
    let used = c.args.used in
    let old = c.args.intake.now in
    let mid = c.read_head.new.intake in
    let now = c.find_line.new.intake in
    let s0 = g.S.Source.state c.args.source.now in
    let s1 = g.S.Source.state c.read_head.new.source in
    let s2 = g.S.Source.state c.find_line.new.source in
    let first = takes_if _ observable' old mid s0 s1 (λ t. (t, tt)) c.in_ok-head.ensures.takes in
    let second = takes_if _ observable' mid now s1 s2 (λ t. (t, tt)) c.in_ok-end.ensures.takes in
    let both = takes_both observable' old mid now s0 s1 s2 first second in
    let head = c.in_ok-head.head in
    let end = c.in-Some.end in
    let bytes = c.ahead-ahead.ensures.bytes in
    let ends : IsLineEnd now.ahead head end = rw c.in-Some.is at c.in_ok-end.ensures.found in
    let has : HasHead used now.ahead = subst (HasHead used) (sym second.ahead)
    (has_head_more used mid.ahead second.read c.in_ok-head.ensures.head) in
    let line = take (end - head) (drop head now.ahead) in
    let more = drop (end + 1) now.ahead in
    let saw = seen_part used head old s0 now.ahead s2.left c.in_ok-head.ensures.len has
    (seen observable' used old now s0 s2 observable both c.requires.sum c.ahead-ahead.ensures.within) in
    let parts = seen_as used old s0 (head_at used ++ drop head now.ahead)
    (head_at used ++ (line ++ (lf ∷ more))) s2.left
    (ap (λ (x : List ℕ). head_at used ++ x) (line_parts head end now.ahead ends)) saw in
    rw c.bad_offer.ensures (line_other used old s0 line more s2.left parts (line_no_lf head end now.ahead ends)
    (λ address count l. c.in_default-parse_line.ensures address count
    (subst (λ (x : List ℕ). IsLine (take (end - head) (drop head x)) address count) (sym bytes) l)))

pub returns-in_err-address-clause-takes : goal.returns-in_err-address-clause-takes
returns-in_err-address-clause-takes g c =
    let observable' = g.S.Source.observable in
    let used = c.args.used in
    let old = c.args.intake.now in
    let mid = c.read_head.new.intake in
    let now = c.find_line.new.intake in
    let s0 = g.S.Source.state c.args.source.now in
    let s1 = g.S.Source.state c.read_head.new.source in
    let s2 = g.S.Source.state c.find_line.new.source in
    let first = takes_if _ observable' old mid s0 s1 (λ t. (t, tt)) c.in_ok-head.ensures.takes in
    let second = takes_if _ observable' mid now s1 s2 (λ t. (t, tt)) c.in_ok-end.ensures.takes in
    let both = takes_both observable' old mid now s0 s1 s2 first second in
    let head = c.in_ok-head.head in
    let end = c.in-Some.end in
    let bytes = c.ahead-ahead.ensures.bytes in
    let ends : IsLineEnd now.ahead head end = rw c.in-Some.is at c.in_ok-end.ensures.found in
    let has : HasHead used now.ahead = subst (HasHead used) (sym second.ahead)
    (has_head_more used mid.ahead second.read c.in_ok-head.ensures.head) in
    let p = err_from_is_err_and c.from_residual-in_err-address.result c.from_residual-in_err-address.ensures.1 in
    rw (p.1, p.2) (takes_if observable' _ old now s0 s2 (λ t. t.0) both)

pub returns-clause-part : goal.returns-clause-part
returns-clause-part g c =
    let observable' = g.S.Source.observable in
    let used = c.args.used in
    let old = c.args.intake.now in
    let mid = c.read_head.new.intake in
    let now = c.find_line.new.intake in
    let s0 = g.S.Source.state c.args.source.now in
    let s1 = g.S.Source.state c.read_head.new.source in
    let s2 = g.S.Source.state c.find_line.new.source in
    let first = takes_if _ observable' old mid s0 s1 (λ t. (t, tt)) c.in_ok-head.ensures.takes in
    let second = takes_if _ observable' mid now s1 s2 (λ t. (t, tt)) c.in_ok-end.ensures.takes in
    let both = takes_both observable' old mid now s0 s1 s2 first second in
    let head = c.in_ok-head.head in
    let end = c.in-Some.end in
    let bytes = c.ahead-ahead.ensures.bytes in
    let ends : IsLineEnd now.ahead head end = rw c.in-Some.is at c.in_ok-end.ensures.found in
    let has : HasHead used now.ahead = subst (HasHead used) (sym second.ahead)
    (has_head_more used mid.ahead second.read c.in_ok-head.ensures.head) in
    let is : IsLine (take (end - head) (drop head now.ahead)) c.in_ok-address.address
    c.in-Some-parse_line.parsed.count =
    subst (λ (x : List ℕ). IsLine x c.in_ok-address.address c.in-Some-parse_line.parsed.count)
    (ap (λ (x : List ℕ). take (end - head) (drop head x)) bytes)
    (subst (λ (x : List ℕ). IsLine (take (end - head) (drop head c.ahead-ahead.result.now)) x
    c.in-Some-parse_line.parsed.count) (sym c.in_ok-address.ensures) c.in-Some-parse_line.ensures.1) in
    record { is_address = is.is_address; short = is.short; within = omega (arith, ap length c.new.ensures.items) }

pub returns-clause-takes : goal.returns-clause-takes
returns-clause-takes g c =
    let observable' = g.S.Source.observable in
    let used = c.args.used in
    let old = c.args.intake.now in
    let mid = c.read_head.new.intake in
    let now = c.find_line.new.intake in
    let s0 = g.S.Source.state c.args.source.now in
    let s1 = g.S.Source.state c.read_head.new.source in
    let s2 = g.S.Source.state c.find_line.new.source in
    let first = takes_if _ observable' old mid s0 s1 (λ t. (t, tt)) c.in_ok-head.ensures.takes in
    let second = takes_if _ observable' mid now s1 s2 (λ t. (t, tt)) c.in_ok-end.ensures.takes in
    let both = takes_both observable' old mid now s0 s1 s2 first second in
    let head = c.in_ok-head.head in
    let end = c.in-Some.end in
    let bytes = c.ahead-ahead.ensures.bytes in
    let ends : IsLineEnd now.ahead head end = rw c.in-Some.is at c.in_ok-end.ensures.found in
    let has : HasHead used now.ahead = subst (HasHead used) (sym second.ahead)
    (has_head_more used mid.ahead second.read c.in_ok-head.ensures.head) in
    let is : IsLine (take (end - head) (drop head now.ahead)) c.in_ok-address.address
    c.in-Some-parse_line.parsed.count =
    subst (λ (x : List ℕ). IsLine x c.in_ok-address.address c.in-Some-parse_line.parsed.count)
    (ap (λ (x : List ℕ). take (end - head) (drop head x)) bytes)
    (subst (λ (x : List ℕ). IsLine (take (end - head) (drop head c.ahead-ahead.result.now)) x
    c.in-Some-parse_line.parsed.count) (sym c.in_ok-address.ensures) c.in-Some-parse_line.ensures.1) in
    let part : Part = record {
      address = c.in_ok-address.address;
      count = c.in-Some-parse_line.parsed.count;
      behind = c.new.result;
    } in
    let after = c.consume.new.self in
    let rest : after.ahead ≡ drop (end + 1) now.ahead = ap (λ (x : IntakeState). x.ahead) c.consume.ensures in
    let text : part_text used part ++ after.ahead ≡ now.ahead =
    ap (λ (x : List ℕ). part_text used part ++ x) rest
    ∙ line_used used head end now.ahead part c.in_ok-head.ensures.len has ends is c.new.ensures.items in
    takes_if observable' _ old (with_part used (Some part) after) s0 s2 (λ t. t.0)
    (takes_as observable' old now (with_part used (Some part) after) s0 s2 both text
    (ap (λ (x : IntakeState). x.taken) c.consume.ensures) (ap (λ (x : IntakeState). x.limit) c.consume.ensures))
