use Rattle.std.proofs.Common.{ℕ, List, [], ◌∷◌, ◌++◌, length, subst, ap, sym, refl, ◌∙◌, append-nil}
use Rattle.std.proofs.lemmas.Result.{on_ok_weaker}
use Rattle.atom_values.specs.Ascii.{lf}
use Rattle.doc_source.specs.Outside.{TakesPrefix}
use Rattle.doc_source.specs.Pile.{count_text}
use Rattle.doc_source.proofs.WriteLemmas.{before_lf, behind_address, takes_more, took_made, took_more}
use Rattle.doc_source.proofs.write.write_offer.Goals as goal

pub returns-in_err-write_all-clause-prefix : goal.returns-in_err-write_all-clause-prefix
returns-in_err-write_all-clause-prefix g c = λ observable.
    let before = g.K.Sink.state c.args.sink.now in
    takes_more before before (g.K.Sink.state c.write_all.new.sink) [] c.args.address.now _ _
    (behind_address c.args.address.now c.args.bytes.now) (sym (append-nil before.taken))
    (c.write_all.ensures.prefix observable)

pub returns-in_err-write_all-2-clause-prefix : goal.returns-in_err-write_all-2-clause-prefix
returns-in_err-write_all-2-clause-prefix g c = λ observable.
    takes_more (g.K.Sink.state c.args.sink.now) (g.K.Sink.state c.write_all.new.sink)
    (g.K.Sink.state c.write_all-2.new.sink) c.args.address.now _ _ _
    (behind_address c.args.address.now c.args.bytes.now) (c.in_ok-write_all.ensures.whole observable)
    (subst (TakesPrefix _ _) (c.as_bytes.ensures.value ∙ c.as_str.ensures.value ∙ c.count_line.ensures)
    (c.write_all-2.ensures.prefix observable))

pub returns-in_err-write_all-3-clause-prefix : goal.returns-in_err-write_all-3-clause-prefix
returns-in_err-write_all-3-clause-prefix g c = λ observable.
    let before = g.K.Sink.state c.args.sink.now in
    let line = g.K.Sink.state c.write_all-2.new.sink in
    takes_more before line (g.K.Sink.state c.write_all-3.new.sink)
    (c.args.address.now ++ count_text (length c.args.bytes.now)) c.args.bytes.now (lf ∷ []) _ refl
    (took_made before (g.K.Sink.state c.write_all.new.sink) line c.args.address.now _ _
    (c.as_bytes.ensures.value ∙ c.as_str.ensures.value ∙ c.count_line.ensures)
    (c.in_ok-write_all.ensures.whole observable) (c.in_ok-write_all-2.ensures.whole observable))
    (c.write_all-3.ensures.prefix observable)

pub returns-clause-prefix : goal.returns-clause-prefix
returns-clause-prefix g c = λ observable.
    let before = g.K.Sink.state c.args.sink.now in
    let line = g.K.Sink.state c.write_all-2.new.sink in
    let all = g.K.Sink.state c.write_all-3.new.sink in
    takes_more before all (g.K.Sink.state c.write_all-4.new.sink)
    ((c.args.address.now ++ count_text (length c.args.bytes.now)) ++ c.args.bytes.now) (lf ∷ []) [] _
    (before_lf c.args.address.now c.args.bytes.now)
    (took_more before line all _ c.args.bytes.now
    (took_made before (g.K.Sink.state c.write_all.new.sink) line c.args.address.now _ _
    (c.as_bytes.ensures.value ∙ c.as_str.ensures.value ∙ c.count_line.ensures)
    (c.in_ok-write_all.ensures.whole observable) (c.in_ok-write_all-2.ensures.whole observable))
    (c.in_ok-write_all-3.ensures.whole observable))
    (c.write_all-4.ensures.prefix observable)

pub returns-clause-whole : goal.returns-clause-whole
returns-clause-whole g c = on_ok_weaker c.write_all-4.result (λ last observable.
    let before = g.K.Sink.state c.args.sink.now in
    let line = g.K.Sink.state c.write_all-2.new.sink in
    let all = g.K.Sink.state c.write_all-3.new.sink in
    took_more before all (g.K.Sink.state c.write_all-4.new.sink) _ (lf ∷ [])
    (took_more before line all _ c.args.bytes.now
    (took_made before (g.K.Sink.state c.write_all.new.sink) line c.args.address.now _ _
    (c.as_bytes.ensures.value ∙ c.as_str.ensures.value ∙ c.count_line.ensures)
    (c.in_ok-write_all.ensures.whole observable) (c.in_ok-write_all-2.ensures.whole observable))
    (c.in_ok-write_all-3.ensures.whole observable))
    (last observable)
    ∙ ap (λ (x : List ℕ). before.taken ++ x) (sym (before_lf c.args.address.now c.args.bytes.now)))
    c.write_all-4.ensures.whole
