use Rattle.std.proofs.Common.{◌≡◌, ◌-◌, ◌<◌, ℕ, List, length, take, drop, Result, Ok, sym, ap, ◌∙◌, subst, arith, length-append, length-drop}
use Rattle.std.proofs.lemmas.List.{take_at, take_rest}
use Rattle.std.proofs.lemmas.Bool.{false≢true}
use Rattle.atom_values.specs.declared.memory.Failed.{Failed}
use Rattle.doc_source.specs.Intake.{IntakeState}
use Rattle.doc_source.specs.Line.{BeginsLine, HasNoLf}
use Rattle.doc_source.specs.Part.{HasHead, IsLineEnd}
use Rattle.doc_source.specs.Pile.{IsOpen}
use Rattle.doc_source.specs.declared.intake.Filled.{Filled}
use Rattle.doc_source.specs.declared.intake.Filled.TheVariants.{End, Limit, More}
use Rattle.doc_source.proofs.IntakeLemmas.{rises_filled, takes_both, takes_if}
use Rattle.doc_source.proofs.PileLemmas.{line_short}
use Rattle.doc_source.proofs.SeenLemmas.{has_head_more, head_short, head_split, line_end_all, line_ends_amid, line_open, line_too_long, line_unfit, no_lf_all, seen, seen_all, seen_part}
use Rattle.doc_source.proofs.part.find_line.Goals as goal

pub returns-in-Some-clause-found : goal.returns-in-Some-clause-found
returns-in-Some-clause-found g c =
    line_end_all c.args.head c.loop-end.searched c.in-Some.end c.loop-end.intake.ahead c.loop-end.invariant.after
    c.loop-end.invariant.within c.loop-end.invariant.no_lf
    (subst (λ (x : List ℕ). IsLineEnd x c.loop-end.searched c.in-Some.end) c.ahead-ahead.ensures.bytes
    c.in-Some.ensures)

pub begins_line-requires : goal.begins_line-requires
begins_line-requires g c =
    let used = c.args.used in
    let head = c.args.head in
    let before = c.args.intake.now in
    let now = c.loop-end.intake in
    let source = g.S.Source.state c.args.source.now in
    let rest = g.S.Source.state c.loop-end.source in
    let bytes = c.ahead-ahead.ensures.bytes in
    let has : HasHead used now.ahead = subst (HasHead used) (sym c.loop-end.invariant.takes.ahead)
    (has_head_more used before.ahead c.loop-end.invariant.takes.read c.requires.head) in
    let no_lf : HasNoLf (drop head now.ahead) = no_lf_all head c.loop-end.searched now.ahead c.loop-end.invariant.after
    c.loop-end.invariant.within c.loop-end.invariant.no_lf
    (subst (λ (x : List ℕ). HasNoLf (drop c.loop-end.searched x)) bytes c.in_default.ensures) in
    let slice : take (length c.ahead-ahead.result.now - head) (drop head c.ahead-ahead.result.now)
    ≡ drop head now.ahead = take_rest c.ahead-ahead.result.now head ∙ ap (drop head) bytes in
    subst HasNoLf (sym slice) no_lf

pub returns-then-not-begins_line-clause-refused : goal.returns-then-not-begins_line-clause-refused
returns-then-not-begins_line-clause-refused g c = λ observable.
    let used = c.args.used in
    let head = c.args.head in
    let before = c.args.intake.now in
    let now = c.loop-end.intake in
    let source = g.S.Source.state c.args.source.now in
    let rest = g.S.Source.state c.loop-end.source in
    let bytes = c.ahead-ahead.ensures.bytes in
    let has : HasHead used now.ahead = subst (HasHead used) (sym c.loop-end.invariant.takes.ahead)
    (has_head_more used before.ahead c.loop-end.invariant.takes.read c.requires.head) in
    let no_lf : HasNoLf (drop head now.ahead) = no_lf_all head c.loop-end.searched now.ahead c.loop-end.invariant.after
    c.loop-end.invariant.within c.loop-end.invariant.no_lf
    (subst (λ (x : List ℕ). HasNoLf (drop c.loop-end.searched x)) bytes c.in_default.ensures) in
    let saw = seen_part used head before source now.ahead rest.left c.requires.len has
    (seen g.S.Source.observable used before now source rest observable c.loop-end.invariant.takes c.requires.sum
    c.ahead-ahead.ensures.within) in
    let slice : take (length c.ahead-ahead.result.now - head) (drop head c.ahead-ahead.result.now)
    ≡ drop head now.ahead = take_rest c.ahead-ahead.result.now head ∙ ap (drop head) bytes in
    rw c.bad_offer.ensures (line_unfit used before source (drop head now.ahead) rest.left saw no_lf
    (λ b. false≢true (sym c.if-not-begins_line.true ∙ c.begins_line.ensures.1 (subst BeginsLine (sym slice) b))))

pub fill-requires : goal.fill-requires
fill-requires g c =
    let used = c.args.used in
    let head = c.args.head in
    let before = c.args.intake.now in
    let now = c.loop-end.intake in
    let source = g.S.Source.state c.args.source.now in
    let rest = g.S.Source.state c.loop-end.source in
    let bytes = c.ahead-ahead.ensures.bytes in
    let has : HasHead used now.ahead = subst (HasHead used) (sym c.loop-end.invariant.takes.ahead)
    (has_head_more used before.ahead c.loop-end.invariant.takes.read c.requires.head) in
    let no_lf : HasNoLf (drop head now.ahead) = no_lf_all head c.loop-end.searched now.ahead c.loop-end.invariant.after
    c.loop-end.invariant.within c.loop-end.invariant.no_lf
    (subst (λ (x : List ℕ). HasNoLf (drop c.loop-end.searched x)) bytes c.in_default.ensures) in
    let slice : take (length c.ahead-ahead.result.now - head) (drop head c.ahead-ahead.result.now)
    ≡ drop head now.ahead = take_rest c.ahead-ahead.result.now head ∙ ap (drop head) bytes in
    let begins : BeginsLine (drop head now.ahead) =
    subst BeginsLine slice (c.begins_line.ensures.0 c.if-not-begins_line.false) in
    omega (
      arith,
      line_short (drop head now.ahead) begins,
      length-drop head now.ahead,
      c.requires.len,
      head_short used,
    )

pub returns-in_err-fill-clause-open : goal.returns-in_err-fill-clause-open
returns-in_err-fill-clause-open g c = λ _.
    let used = c.args.used in
    let head = c.args.head in
    let before = c.args.intake.now in
    let now = c.loop-end.intake in
    let source = g.S.Source.state c.args.source.now in
    let rest = g.S.Source.state c.loop-end.source in
    let bytes = c.ahead-ahead.ensures.bytes in
    let has : HasHead used now.ahead = subst (HasHead used) (sym c.loop-end.invariant.takes.ahead)
    (has_head_more used before.ahead c.loop-end.invariant.takes.read c.requires.head) in
    let no_lf : HasNoLf (drop head now.ahead) = no_lf_all head c.loop-end.searched now.ahead c.loop-end.invariant.after
    c.loop-end.invariant.within c.loop-end.invariant.no_lf
    (subst (λ (x : List ℕ). HasNoLf (drop c.loop-end.searched x)) bytes c.in_default.ensures) in
    let slice : take (length c.ahead-ahead.result.now - head) (drop head c.ahead-ahead.result.now)
    ≡ drop head now.ahead = take_rest c.ahead-ahead.result.now head ∙ ap (drop head) bytes in
    let begins : BeginsLine (drop head now.ahead) =
    subst BeginsLine slice (c.begins_line.ensures.0 c.if-not-begins_line.false) in
    let same : c.fill.new.self ≡ now = c.fill.ensures.stays (λ e. absurd (cc (e, c.in_err-fill.was))) in
    subst (λ (x : IntakeState). IsOpen used x.ahead) (sym same)
    (line_open used head now.ahead c.requires.len has no_lf begins)

pub returns-in-End-clause-refused : goal.returns-in-End-clause-refused
returns-in-End-clause-refused g c = λ observable.
    let used = c.args.used in
    let head = c.args.head in
    let before = c.args.intake.now in
    let now = c.loop-end.intake in
    let source = g.S.Source.state c.args.source.now in
    let rest = g.S.Source.state c.loop-end.source in
    let bytes = c.ahead-ahead.ensures.bytes in
    let has : HasHead used now.ahead = subst (HasHead used) (sym c.loop-end.invariant.takes.ahead)
    (has_head_more used before.ahead c.loop-end.invariant.takes.read c.requires.head) in
    let no_lf : HasNoLf (drop head now.ahead) = no_lf_all head c.loop-end.searched now.ahead c.loop-end.invariant.after
    c.loop-end.invariant.within c.loop-end.invariant.no_lf
    (subst (λ (x : List ℕ). HasNoLf (drop c.loop-end.searched x)) bytes c.in_default.ensures) in
    let len : length c.ahead-ahead.result.now ≡ length now.ahead = ap length bytes in
    let part : length (drop head now.ahead) ≡ length now.ahead - head = length-drop head now.ahead in
    let saw = seen_part used head before source now.ahead rest.left c.requires.len has
    (seen g.S.Source.observable used before now source rest observable c.loop-end.invariant.takes c.requires.sum
    c.ahead-ahead.ensures.within) in
    let is : c.fill.result ≡ Ok End = let r = c.in_ok-fill.was in let e = c.in-End.is in cc in
    let some : 0 < length (drop head now.ahead) =
    omega (arith, c.if-searched-head.false, len, part, c.loop-end.invariant.after, c.loop-end.invariant.within) in
    rw c.bad_offer-in-End.ensures (line_ends_amid used before source (drop head now.ahead) rest.left saw
    (c.fill.ensures.end is observable) no_lf some)

pub returns-in-Limit-clause-refused : goal.returns-in-Limit-clause-refused
returns-in-Limit-clause-refused g c = λ observable.
    let used = c.args.used in
    let head = c.args.head in
    let before = c.args.intake.now in
    let now = c.loop-end.intake in
    let source = g.S.Source.state c.args.source.now in
    let rest = g.S.Source.state c.loop-end.source in
    let bytes = c.ahead-ahead.ensures.bytes in
    let has : HasHead used now.ahead = subst (HasHead used) (sym c.loop-end.invariant.takes.ahead)
    (has_head_more used before.ahead c.loop-end.invariant.takes.read c.requires.head) in
    let no_lf : HasNoLf (drop head now.ahead) = no_lf_all head c.loop-end.searched now.ahead c.loop-end.invariant.after
    c.loop-end.invariant.within c.loop-end.invariant.no_lf
    (subst (λ (x : List ℕ). HasNoLf (drop c.loop-end.searched x)) bytes c.in_default.ensures) in
    let saw = seen_part used head before source now.ahead rest.left c.requires.len has
    (seen g.S.Source.observable used before now source rest observable c.loop-end.invariant.takes c.requires.sum
    c.ahead-ahead.ensures.within) in
    let slice : take (length c.ahead-ahead.result.now - head) (drop head c.ahead-ahead.result.now)
    ≡ drop head now.ahead = take_rest c.ahead-ahead.result.now head ∙ ap (drop head) bytes in
    let begins : BeginsLine (drop head now.ahead) =
    subst BeginsLine slice (c.begins_line.ensures.0 c.if-not-begins_line.false) in
    let is : c.fill.result ≡ Ok Limit = let r = c.in_ok-fill.was in let e = c.in-Limit.is in cc in
    let same : c.fill.new.self ≡ now =
    c.fill.ensures.stays (λ e. absurd (let f : ◌≡◌ {A = Result Filled Failed} (Ok Limit) (Ok More) = sym is
    ∙ e in cc)) in
    let all = seen_all g.S.Source.observable used before now source rest c.loop-end.invariant.takes c.requires.sum
    (c.fill.ensures.limit is) in (
      c.limit.ensures ∙ ap (λ (x : IntakeState). x.limit) same ∙ c.loop-end.invariant.takes.limit,
      line_too_long used before source (drop head now.ahead) rest.left saw
          (sym (ap length (head_split used head now.ahead c.requires.len has)) ∙ all)
          (c.fill.ensures.goes_on is observable) no_lf begins,
    )

pub loop-end-preserved : goal.loop-end-preserved
loop-end-preserved g c =
    let used = c.args.used in
    let head = c.args.head in
    let before = c.args.intake.now in
    let now = c.loop-end.intake in
    let source = g.S.Source.state c.args.source.now in
    let rest = g.S.Source.state c.loop-end.source in
    let bytes = c.ahead-ahead.ensures.bytes in
    let has : HasHead used now.ahead = subst (HasHead used) (sym c.loop-end.invariant.takes.ahead)
    (has_head_more used before.ahead c.loop-end.invariant.takes.read c.requires.head) in
    let no_lf : HasNoLf (drop head now.ahead) = no_lf_all head c.loop-end.searched now.ahead c.loop-end.invariant.after
    c.loop-end.invariant.within c.loop-end.invariant.no_lf
    (subst (λ (x : List ℕ). HasNoLf (drop c.loop-end.searched x)) bytes c.in_default.ensures) in
    let len : length c.ahead-ahead.result.now ≡ length now.ahead = ap length bytes in
    let part : length (drop head now.ahead) ≡ length now.ahead - head = length-drop head now.ahead in
    let is : c.fill.result ≡ Ok More = let r = c.in_ok-fill.was in let e = c.in-More.is in cc in
    let takes = c.fill.ensures.takes in
    let observable = g.S.Source.observable in
    let after = g.S.Source.state c.fill.new.source in
    let front : take (length c.ahead-ahead.result.now) c.fill.new.self.ahead ≡ now.ahead =
    ap (take (length c.ahead-ahead.result.now)) takes.ahead
    ∙ take_at now.ahead takes.read (length c.ahead-ahead.result.now) (sym len) in
    record {
      after = omega (arith, len, c.loop-end.invariant.after, c.loop-end.invariant.within);
      within = omega (arith, len, ap length takes.ahead, length-append now.ahead takes.read);
      no_lf = subst (λ (x : List ℕ). HasNoLf (drop head x)) (sym front) no_lf;
      takes = takes_both observable before now c.fill.new.self source rest after c.loop-end.invariant.takes
          (takes_if _ observable now c.fill.new.self rest after
          (λ t. (
            t,
            λ e. absurd (let f : ◌≡◌ {A = Result Filled Failed} (Ok More) (Ok Limit) = sym is
                ∙ e in cc),
          )) takes);
      read = rises_filled before.taken now.taken c.fill.new.self.taken source.bytes_read rest.bytes_read after.bytes_read
          c.fill.result (omega (arith, c.loop-end.invariant.takes.taken)) (omega (arith, takes.taken))
          c.loop-end.invariant.read is c.fill.ensures.read;
      faults = c.in_ok-fill.ensures.counts.worked ∙ c.loop-end.invariant.faults;
    }
