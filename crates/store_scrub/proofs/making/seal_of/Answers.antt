use Rattle.std.proofs.Common.{◌≡◌, ◌+◌, length, ap, ◌∙◌, arith}
use Rattle.atom_writer.specs.Doc.{DocValue}
use Rattle.atom_writer.specs.Pieces.{text}
use Rattle.member_rules.specs.Documents.{archive}
use Rattle.member_rules.specs.Windows.{windows_of}
use Rattle.member_rules.proofs.ShortLemmas.{documents-short}
use Rattle.store_scrub.proofs.making.seal_of.Goals as goal

pub returns-then-len-gt-PAYLOAD_LIMIT-clause-refused : goal.returns-then-len-gt-PAYLOAD_LIMIT-clause-refused
returns-then-len-gt-PAYLOAD_LIMIT-clause-refused c = λ lawful.
    let head = c.args.head.now in
    let history = c.args.window.now.history in
    let next = (windows_of head history).sealed + 1 in
    let written : length c.in_ok-text.text.items ≡ length (text (archive head history next)) =
    ap length c.in_ok-text.ensures ∙ ap (λ (d : DocValue). length (text d)) c.in_ok-document.ensures in
    omega (
      arith,
      written,
      c.len.ensures,
      c.if-len-gt-PAYLOAD_LIMIT.true,
      (documents-short head history c.requires.head lawful).1 next (omega arith) (omega (arith, c.requires.full)),
    )
