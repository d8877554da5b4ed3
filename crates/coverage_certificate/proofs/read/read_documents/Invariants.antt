use Rattle.std.proofs.Common.{◌≡◌, ◌+◌, ◌≤◌, ◌++◌, length}
use Rattle.std.specs.Prelude.{All, map}
use Rattle.coverage_certificate.specs.Certificate.{CoverValue}
use Rattle.coverage_certificate.specs.Digest.{IsDigest}
use Rattle.coverage_certificate.specs.Reading.{AreLinesSoFar}
use Rattle.coverage_certificate.specs.Text.{document_line, text_of_lines}
use Rattle.coverage_certificate.proofs.read.read_documents.Given as goal

abbrev pub invariant-loop-line : goal.invariant-loop-line
invariant-loop-line l = record {
  split : l.text ≡ text_of_lines (map (document_line l.base) l.lines.items) ++ l.rest;
  placed : AreLinesSoFar l.lines.items;
  digests : All (λ (line : CoverValue). IsDigest line.digest) l.lines.items;
  short : length l.lines.items + length l.rest ≤ length l.text;
}

abbrev pub decreases-loop-line : goal.decreases-loop-line
decreases-loop-line l = length l.rest
