-- The images that a crash during a session leaves, after one more connection was served.
use Rattle.std.proofs.Common.{inl, inr, ℕ, ◌+◌, ◌-◌, ◌^◌, ◌<◌, ◌≤◌, List, [], ◌∷◌, ◌++◌, length, All, arith}
use Rattle.std.proofs.Common.{sym, subst, length-append}
use Rattle.std.proofs.lemmas.Bool.{cases_lt}
use Rattle.std.proofs.lemmas.List.{take-append-le}
use Rattle.std.proofs.lemmas.List.Elements.{All-push, All-weaker}
use Rattle.atom_values.specs.Counts.{counter_limit}
use Rattle.feed_disk.specs.Disk.{DiskState, IsDisk}
use Rattle.feed_disk.specs.Moments.{LeavesOnlyBoth}
use Rattle.feed_disk.specs.declared.area.Area.TheVariants.{Journal, Sealed}
use Rattle.feed_disk.proofs.MomentLemmas.{leaves_join, leaves_over}
use Rattle.feed_recovery.specs.Opening.{Opens}
use Rattle.feed_recovery.specs.Settled.{OpensPast}
use Rattle.document_server.specs.Serving.{OpensAt}
use Rattle.document_server.specs.declared.line.Line.{Line}
use Rattle.member_rules.specs.Head.{HeadValue}
use Rattle.member_rules.specs.declared.operation.Op.{Op}

-- two runs, where what the first leaves holds until its end, and what the second leaves from there on
pub both-join-at : {observable : Type 0} (s m t : DiskState) (P Q R : ℕ → List ℕ → List ℕ → Type 0) → IsDisk observable t
    → LeavesOnlyBoth s m Journal Sealed P → LeavesOnlyBoth m t Journal Sealed Q
    → (t.clock < counter_limit → (c : ℕ) (i j : List ℕ) → c ≤ m.clock → P c i j → R c i j)
    → (t.clock < counter_limit → (c : ℕ) (i j : List ℕ) → m.clock < c → c ≤ t.clock → Q c i j → R c i j)
    → LeavesOnlyBoth s t Journal Sealed R
both-join-at s m t P Q R disk first second until from = record {
  first = leaves_join s m t Journal (λ _ _. Unit {0}) first.first second.first;
  second = leaves_join s m t Sealed (λ _ _. Unit {0}) first.second second.second;
  each = λ below c i j inside may may'. elim (cases_lt m.clock c) [
    | inl later ↦
        from below c i j later (disk.begun Journal c i may) (second.each below c i j later may may')
    | inr earlier ↦
        let short : m.clock < 2 ^ 64 - 1 = omega (arith, below, second.first.later) in
        until below c i j earlier
        (first.each short c i j inside (leaves_over m t Journal (λ _ _. Unit {0}) second.first short c i earlier may)
        (leaves_over m t Sealed (λ _ _. Unit {0}) second.second short c j earlier may'))
  ];
}

module _ (head : HeadValue) (history operations : List Op) (journal sealed : List ℕ) where
  -- a crash that leaves the first operations of a history
  abbrev past-longer : (least : ℕ) → OpensPast head history least journal sealed
      → OpensPast head (history ++ operations) least journal sealed
  past-longer least past = record {
    journal_whole = past.journal_whole;
    sealed_whole = past.sealed_whole;
    version = past.version;
    at_least = past.at_least;
    at_most = omega (arith, past.at_most, length-append history operations);
    seals = past.seals;
    opens = subst (λ (h : List Op). Opens journal sealed head h past.seals)
        (sym (take-append-le past.version history operations past.at_most)) past.opens;
  }

  abbrev past-fewer : (least : ℕ) → least ≤ length history
      → OpensPast head (history ++ operations) (length history) journal sealed
      → OpensPast head (history ++ operations) least journal sealed
  past-fewer least below past = record {
    journal_whole = past.journal_whole;
    sealed_whole = past.sealed_whole;
    version = past.version;
    at_least = omega (arith, below, past.at_least);
    at_most = past.at_most;
    seals = past.seals;
    opens = past.opens;
  }

  module _ (start c least : ℕ) (lines : List Line) (line : Line) where
    -- a crash before the connection was served
    pub opens-until : OpensAt start c head history least lines lines journal sealed → c ≤ start + line.calls
        → length history ≤ line.version
        → OpensAt start c head (history ++ operations) least (lines ++ line ∷ []) (lines ++ line ∷ []) journal sealed
    opens-until at early grown = record {
      past = past-longer least at.past;
      acknowledged = All-push (λ (l : Line). start + l.calls < c → l.version ≤ at.past.version) lines line
          at.acknowledged (λ late. absurd (omega (arith, late, early)));
      not_early = All-push (λ (l : Line). c ≤ start + l.calls → at.past.version ≤ l.version) lines line at.not_early
          (λ _. omega (arith, at.past.at_most, grown));
    }

    -- the same, where the connection was broken off
    pub opens-until-break : OpensAt start c head history least lines lines journal sealed → c ≤ start + line.calls
        → OpensAt start c head (history ++ operations) least (lines ++ line ∷ []) lines journal sealed
    opens-until-break at early = record {
      past = past-longer least at.past;
      acknowledged = All-push (λ (l : Line). start + l.calls < c → l.version ≤ at.past.version) lines line
          at.acknowledged (λ late. absurd (omega (arith, late, early)));
      not_early = at.not_early;
    }

    -- a crash while it was served
    module _ (past : OpensPast head (history ++ operations) (length history) journal sealed)
        (grown : least ≤ length history) (versions : All (λ (l : Line). l.version ≤ length history) lines)
        (over : All (λ (l : Line). start + l.calls < c) lines) (early : c ≤ start + line.calls) where
      acknowledged-amid : All (λ (l : Line). start + l.calls < c → l.version ≤ past.version) (lines ++ line ∷ [])
      acknowledged-amid = All-push (λ (l : Line). start + l.calls < c → l.version ≤ past.version) lines line
          (All-weaker (λ (l : Line). l.version ≤ length history)
          (λ (l : Line). start + l.calls < c → l.version ≤ past.version)
          (λ l within _. omega (arith, within, past.at_least)) lines versions)
          (λ late. absurd (omega (arith, late, early)))

      not-early-amid : All (λ (l : Line). c ≤ start + l.calls → past.version ≤ l.version) lines
      not-early-amid = All-weaker (λ (l : Line). start + l.calls < c)
          (λ (l : Line). c ≤ start + l.calls → past.version ≤ l.version)
          (λ l before after. absurd (omega (arith, before, after))) lines over

      pub opens-amid : length (history ++ operations) ≤ line.version
          → OpensAt start c head (history ++ operations) least (lines ++ line ∷ []) (lines ++ line ∷ []) journal sealed
      opens-amid has = record {
        past = past-fewer least grown past;
        acknowledged = acknowledged-amid;
        not_early = All-push (λ (l : Line). c ≤ start + l.calls → past.version ≤ l.version) lines line not-early-amid
            (λ _. omega (arith, past.at_most, has));
      }

      pub opens-amid-break
          : OpensAt start c head (history ++ operations) least (lines ++ line ∷ []) lines journal sealed
      opens-amid-break = record {
        past = past-fewer least grown past;
        acknowledged = acknowledged-amid;
        not_early = not-early-amid;
      }
