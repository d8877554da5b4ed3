use Rattle.std.proofs.Common.{◌≡◌, ℕ, ◌-◌, ◌<◌, ◌≤◌, List, [], ◌++◌, length, take, drop, Err, ap, sym, subst, ◌∙◌, refl, arith, append-nil}
use Rattle.std.proofs.Common.{length-append}
use Rattle.std.proofs.lemmas.List.{length-take-le}
use Rattle.atom_grammar.specs.Progress.{HasRead}
use Rattle.store_commands.specs.Show.{document_limit}
use Rattle.store_commands.proofs.CountLemmas.{counts-failed, counts-worked}
use Rattle.store_commands.proofs.ShowLemmas.{bytes_past, bytes_more, written_whole}
use Rattle.store_commands.proofs.show.read_to_end.Goals as goal

pub loop-count-init : goal.loop-count-init
loop-count-init g c = record {
  buffer = sym c.in_ok-buffer.buffer.ok.0 ∙ c.in_ok-buffer.ensures.len;
  within = omega (arith, c.new-reader.ensures.length);
  given = record { bytes = []; read = c.new-reader.ensures; left = λ _. refl };
  read = omega arith;
  faults = refl;
}

pub returns-in-Err-clause-within : goal.returns-in-Err-clause-within
returns-in-Err-clause-within g c = λ _ observable.
    let given = c.loop-count.invariant.given in
    record {
      read = given.bytes;
      from = given.left observable
          ∙ ap (λ (x : List ℕ). given.bytes ++ x) (sym (c.in-Err.ensures.err observable));
      within = omega (arith, given.read.length, c.loop-count.invariant.within);
    }

pub returns-then-count-eq0-clause-read : goal.returns-then-count-eq0-clause-read
returns-then-count-eq0-clause-read g c = λ observable.
    let given = c.loop-count.invariant.given in
    let some : 0 < c.min-room.result = omega (arith, c.min-room.ensures) in
    let all =
    given.left observable
    ∙ ap (λ (x : List ℕ). given.bytes ++ x) (c.in-Ok.ensures.end observable c.if-count-eq0.true some)
    ∙ append-nil given.bytes in
    subst (λ (bytes : List ℕ). HasRead c.loop-count.reader bytes) (sym all) given.read

pub returns-then-count-len-clause-past : goal.returns-then-count-len-clause-past
returns-then-count-len-clause-past g c = λ _ observable.
    let given = c.loop-count.invariant.given in
    let low : c.in-Ok.count ≤ length c.read_front.new.buffer = omega (arith, c.read_front.auto.buffer, c.in-Ok.ensures.within) in
    let past : document_limit - length given.bytes < c.in-Ok.count =
    omega (arith, c.if-count-len.true, c.len.ensures.length, given.read.length) in
    bytes_past document_limit c.in-Ok.count given.bytes c.read_front.new.buffer
    (g.I.Source.state c.args.input.now).left (g.I.Source.state c.loop-count.input).left
    (g.I.Source.state c.read_front.new.input).left
    (given.left observable) (c.in-Ok.ensures.bytes observable) low past
    (omega (arith, given.read.length, c.loop-count.invariant.within))

pub returns-then-count-eq0-clause-input_faults : goal.returns-then-count-eq0-clause-input_faults
returns-then-count-eq0-clause-input_faults g c =
    counts-worked c.loop-count.invariant.faults c.in-Ok.ensures.counts.worked (λ e. cc)

pub returns-then-count-len-clause-input_faults : goal.returns-then-count-len-clause-input_faults
returns-then-count-len-clause-input_faults g c =
    counts-worked c.loop-count.invariant.faults c.in-Ok.ensures.counts.worked (λ e. cc)

pub returns-in-Err-clause-input_faults : goal.returns-in-Err-clause-input_faults
returns-in-Err-clause-input_faults g c =
    counts-failed c.loop-count.invariant.faults c.in-Err.ensures.counts.later
    c.in-Err.ensures.counts.failed (ap Err c.from.ensures)

pub loop-count-preserved : goal.loop-count-preserved
loop-count-preserved g c =
    let given = c.loop-count.invariant.given in
    let into = c.read_front.new.buffer in
    let count = c.in-Ok.count in
    let buffer = c.loop-count.buffer in
    let left0 = (g.I.Source.state c.args.input.now).left in
    let left1 = (g.I.Source.state c.loop-count.input).left in
    let left2 = (g.I.Source.state c.read_front.new.input).left in
    let whole : length into ≡ buffer.len = c.read_front.auto.buffer ∙ c.deref_mut.ensures.len in
    let same : take buffer.len (into ++ drop (length into) buffer.items) ≡ into =
    written_whole buffer.len into buffer.items whole in
    let low : count ≤ length into = omega (arith, c.read_front.auto.buffer, c.in-Ok.ensures.within) in
    let piece = ap (take count) (c.deref.ensures.value ∙ same) in
    let read =
    subst (λ (bytes : List ℕ). HasRead c.feed.new.self (given.bytes ++ bytes)) piece
    (c.feed.ensures.read given.bytes given.read) in
    record {
      buffer = ap length same ∙ whole ∙ buffer.ok.0 ∙ c.loop-count.invariant.buffer;
      within = omega (
        arith,
        read.length,
        length-append given.bytes (take count into),
        length-take-le count into low,
        low,
        given.read.length,
        c.if-count-len.false,
        c.len.ensures.length,
        c.loop-count.invariant.within,
      );
      given = record {
        bytes = given.bytes ++ take count into;
        read = read;
        left = λ observable. bytes_more count given.bytes into left0 left1 left2 (given.left observable)
            (c.in-Ok.ensures.bytes observable);
      };
      read = omega (
        arith,
        read.length,
        length-append given.bytes (take count into),
        length-take-le count into low,
        low,
        given.read.length,
        c.loop-count.invariant.read,
        c.in-Ok.ensures.read,
      );
      faults = c.in-Ok.ensures.counts.worked ∙ c.loop-count.invariant.faults;
    }

pub loop-count-smaller : goal.loop-count-smaller
loop-count-smaller g c =
    let given = c.loop-count.invariant.given in
    let into = c.read_front.new.buffer in
    let count = c.in-Ok.count in
    let buffer = c.loop-count.buffer in
    let same : take buffer.len (into ++ drop (length into) buffer.items) ≡ into =
    written_whole buffer.len into buffer.items (c.read_front.auto.buffer ∙ c.deref_mut.ensures.len) in
    let low : count ≤ length into = omega (arith, c.read_front.auto.buffer, c.in-Ok.ensures.within) in
    let piece = ap (take count) (c.deref.ensures.value ∙ same) in
    let read = c.feed.ensures.read given.bytes given.read in
    omega (
      arith,
      read.length,
      ap length piece,
      length-append given.bytes (take count c.deref.result.now),
      length-take-le count into low,
      given.read.length,
      c.if-count-eq0.false,
      c.if-count-len.false,
      c.len.ensures.length,
      c.loop-count.invariant.within,
    )
