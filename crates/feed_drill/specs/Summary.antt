-- The summary of a drill.
use Rattle.std.specs.Prelude.{ℕ, ◌/◌, List, [], ◌∷◌, ◌++◌, codes, decimal, flat_map, length}
use Rattle.atom_values.specs.Ascii.{lf, space}
use Rattle.atom_values.specs.Entry.{EntryValue}
use Rattle.coverage_certificate.specs.Live.{live_digest_of}
use Rattle.hex.specs.Hex.{encode_lower}
use Rattle.member_rules.specs.Fold.{fold_of, live_count, made}
use Rattle.member_rules.specs.Head.{HeadValue}
use Rattle.member_rules.specs.Windows.{windows_of}
use Rattle.member_rules.specs.declared.operation.Op.{Op}
use Rattle.mirror_walk.specs.Listing.{entries_up_to}

-- how many turns the drill had; the numbers of operations, of sealed archives, and of crashes within requests and
-- within offers; the mirror's version; the number of live entries and the digest of their documents
pub record SummaryValue : Type 0 where
  pub operations : ℕ
  pub version : ℕ
  pub archives : ℕ
  pub stops : ℕ
  pub mirror_stops : ℕ
  pub complete : ℕ
  pub live_count : ℕ
  pub live_digest : List ℕ

-- the entries of the live members, in order of number
abbrev pub live_entries : List Op → List EntryValue
live_entries history = entries_up_to (fold_of history).live (made history)

-- the summary of a drill of `count` turns that made this history
unfoldable pub summary_of : HeadValue → List Op → ℕ → SummaryValue
summary_of head history count = record {
  operations = count;
  version = length history;
  archives = (windows_of head history).sealed;
  stops = count / 7;
  mirror_stops = count / 15;
  complete = length history;
  live_count = live_count history;
  live_digest = live_digest_of head.name (live_entries history);
}

-- the lines, each without its LF
unfoldable pub summary_lines : SummaryValue → List (List ℕ)
summary_lines s =
    (codes "operations " ++ decimal s.operations) ∷ (codes "version " ++ decimal s.version)
    ∷ (codes "archives " ++ decimal s.archives) ∷ (codes "stops " ++ decimal s.stops)
    ∷ (codes "mirror stops " ++ decimal s.mirror_stops)
    ∷ (codes "complete " ++ (decimal s.complete ++ space ∷ decimal s.live_count))
    ∷ (codes "live " ++ encode_lower s.live_digest) ∷ []

-- the text that is printed
unfoldable pub summary_text : SummaryValue → List ℕ
summary_text s = flat_map (λ line. line ++ lf ∷ []) (summary_lines s)
