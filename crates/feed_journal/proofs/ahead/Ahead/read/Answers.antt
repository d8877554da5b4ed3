use Rattle.std.proofs.Common.{◌-◌, ◌≤◌, ◌++◌, List, ℕ, length, take, drop, min, refl, sym, ◌∙◌, ap, subst, arith}
use Rattle.feed_journal.specs.Ahead.{AheadValue, HasAhead, IsAhead}
use Rattle.feed_journal.proofs.AheadLemmas.{ahead_count, ahead_bytes}
use Rattle.feed_journal.proofs.ahead.Ahead.read.Goals as goal

pub returns-then-has-clause-bytes : goal.returns-then-has-clause-bytes
returns-then-has-clause-bytes g c = λ tells.
    let content = (g.D.Disk.state c.args.disk.now).content c.args.area in
    let buffer = c.self.inside.buffer.items in
    let from = c.self.inside.from in
    let len = c.self.inside.len in
    let n = length c.args.into.now in
    let is = subst (λ (v : AheadValue). IsAhead v content) (sym c.self.view_is) (c.requires.ahead tells) in
    let has = subst (λ (v : AheadValue). HasAhead v c.args.at n) (sym c.self.view_is) (c.if-has.ensures.0 refl) in
    let skip = c.args.at - from in
    let given = ap (λ (l : List ℕ). take (len - skip) (drop skip l)) c.deref.ensures.value in
    let most : c.copy_start.result ≤ n = omega (arith, c.copy_start.ensures.count) in (
      c.copy_start.ensures.count ∙ ap (λ (l : List ℕ). min n (length l)) given
          ∙ ahead_count buffer content from len c.args.at n is has,
      c.copy_start.ensures.bytes
          ∙ ap (λ (l : List ℕ). l ++ drop c.copy_start.result c.args.into.now)
          (ap (take c.copy_start.result) given
          ∙ ahead_bytes buffer content from len c.args.at n is has c.copy_start.result most),
    )
