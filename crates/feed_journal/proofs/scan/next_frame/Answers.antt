use Rattle.std.proofs.Common.{◌≡◌, ◌-◌, ◌++◌, ℕ, take, drop, [], ◌∷◌, ◌∙◌, ap, arith, length-drop}
use Rattle.std.proofs.lemmas.List.{append-nil}
use Rattle.feed_journal.proofs.ScanLemmas.{next_found}
use Rattle.feed_journal.proofs.scan.next_frame.Goals as goal

pub returns-clause-found : goal.returns-clause-found
returns-clause-found g c = λ tells.
    let content = (g.D.Disk.state c.args.disk.now).content c.args.area in
    let bytes = drop c.args.at content in
    let read = c.in_ok-count.ensures.bytes tells in
    let five : c.in_ok-count.count ≡ 5 = omega (arith, read.0, c.requires.fits, c.requires.size tells) in
    let header : c.read.new.into ≡ take 5 bytes = read.1
    ∙ ap (λ (n : ℕ). take n bytes ++ drop n (0 ∷ 0 ∷ 0 ∷ 0 ∷ 0 ∷ [])) five ∙ append-nil (take 5 bytes) in
    next_found bytes c.read.new.into (c.args.size - c.args.at - 5) header
    (omega (arith, length-drop c.args.at content, c.requires.size tells, c.requires.fits)) c.length_in.result
    c.length_in.ensures.header c.length_in.ensures.spelt
