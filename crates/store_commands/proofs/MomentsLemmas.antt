-- The images of the two areas of a store after a run of device calls.
use Rattle.std.proofs.Common.{◌≡◌, inl, inr, refl, ℕ, ◌+◌, ◌-◌, ◌*◌, ◌^◌, ◌<◌, ◌≤◌, List, [], ◌∷◌, ◌++◌, length, subst, arith}
use Rattle.std.specs.Prelude.{Option, Some, None}
use Rattle.atom_values.specs.Counts.{counter_limit}
use Rattle.doc_source.specs.Outside.{SourceState}
use Rattle.feed_disk.specs.Disk.{DiskState, IsDisk}
use Rattle.feed_disk.specs.declared.area.Area.TheVariants.{Journal, Sealed}
use Rattle.feed_disk.proofs.MomentLemmas.{leaves_join, leaves_over}
use Rattle.feed_journal.specs.Log.{MakesCalls}
use Rattle.feed_recovery.specs.Opening.{OpensInOneWay}
use Rattle.feed_recovery.specs.Prepare.{commit_calls}
use Rattle.feed_recovery.specs.Settled.{AlwaysLeavesBoth, AreWhole, OpensPast, Settled}
use Rattle.feed_recovery.specs.Stored.{OpensTo, Stored}
use Rattle.feed_recovery.proofs.PastLemmas.{settled-head, settled-whole}
use Rattle.store_commands.specs.Applied.{IsMadeByFirst, IsMadeByRead}
use Rattle.store_commands.specs.Crash.{AppliesSafely, LeavesApplied}
use Rattle.store_commands.specs.Loaded.{LeavesLines}
use Rattle.store_commands.specs.Stored.{stored_step, with_operation}
use Rattle.member_rules.specs.Head.{HeadValue}
use Rattle.member_rules.specs.declared.operation.Op.{Op}

-- an operation takes four device calls or more
pub operation-calls : (s t : DiskState) (seal : Option (List ℕ)) (before after : ℕ)
    → MakesCalls s t before after (commit_calls seal) → t.clock < counter_limit → s.clock + 4 ≤ t.clock
operation-calls s t None before after makes below = omega (arith, makes.clock, below)
operation-calls s t (Some seal) before after makes below = omega (arith, makes.clock, below)

-- The lines that were applied so far

module _ (s t : DiskState) (moments : ℕ → ℕ) (input rest : SourceState) (seen failed stopped : Type 0)
    (opened made : Stored) (count : ℕ) (grown : (more : List Op) × (made.history ≡ opened.history ++ more))
    (calls : t.clock < counter_limit → s.clock + 4 * (length made.history - length opened.history) ≤ t.clock)
    (lines : seen → IsMadeByFirst (stored_step moments) opened input.left count made)
    (read : stopped → seen → IsMadeByRead (stored_step moments) opened input rest made) where
  pub lines-leave : AlwaysLeavesBoth s t (OpensPast opened.head made.history (length opened.history))
      → Settled t opened.head made.history (length made.history) → ¬ failed
      → LeavesLines s t moments input rest seen opened failed stopped
  lines-leave each settled works = record {
    made = made;
    history = made.history;
    lines = record {
      more = grown.0;
      grows = grown.1;
      one_more = inl refl;
      first = λ observable. record { count = count; makes = lines observable; adds = inl refl };
      cause = λ fails. absurd (works fails);
      read = read;
    };
    calls = calls;
    each = each;
    whole = λ worked. (refl, settled);
  }

  -- the operation of the next line failed on the disk
  pub lines-fail : (operation : Op) → failed
      → (seen → IsMadeByFirst (stored_step moments) opened input.left (count + 1) (with_operation made operation))
      → AlwaysLeavesBoth s t (OpensPast opened.head (made.history ++ operation ∷ []) (length opened.history))
      → LeavesLines s t moments input rest seen opened failed stopped
  lines-fail operation fails next each = record {
    made = made;
    history = made.history ++ operation ∷ [];
    lines = record {
      more = grown.0;
      grows = grown.1;
      one_more = inr (operation, refl);
      first = λ observable. record {
        count = count;
        makes = lines observable;
        adds = inr (with_operation made operation, next observable, refl);
      };
      cause = λ _ observable. record {
        count = count;
        makes = lines observable;
        next = with_operation made operation;
        adds = next observable;
        is = refl;
      };
      read = read;
    };
    calls = calls;
    each = each;
    whole = λ worked. absurd (worked fails);
  }

-- A store that is loaded, and the images that a crash leaves of its disk

-- the load, and then the lines
loaded-leaves : (s m t : DiskState) (moments : ℕ → ℕ) (input rest : SourceState) (seen : Type 0) (head : HeadValue)
    (operations : List Op) (least : ℕ) (lines_failed lines_stopped failed stopped : Type 0) (opened : Stored)
    → OpensTo s.content opened
    → opened.head ≡ head → AlwaysLeavesBoth s m (OpensPast head operations least)
    → LeavesLines m t moments input rest seen opened lines_failed lines_stopped → (lines_failed → failed)
    → (failed → lines_failed) → (stopped → lines_stopped)
    → LeavesApplied s t moments input rest seen head operations least failed stopped
loaded-leaves s m t moments input rest seen head operations least lines_failed lines_stopped failed stopped opened opens
    same first second fails caused stops =
    record {
      opened = opened;
      opens = opens;
      same = same;
      made = second.made;
      history = second.history;
      lines = record {
        more = second.lines.more;
        grows = second.lines.grows;
        one_more = second.lines.one_more;
        first = second.lines.first;
        cause = λ fail. second.lines.cause (caused fail);
        read = λ stop. second.lines.read (stops stop);
      };
      loaded = m.clock;
      before_lines = second.calls;
      each = record {
        first = leaves_join s m t Journal (λ _ _. Unit {0}) first.moments.first second.each.moments.first;
        second = leaves_join s m t Sealed (λ _ _. Unit {0}) first.moments.second second.each.moments.second;
        each = λ below c i j inside may may'. (
          (λ within.
              let short : m.clock < 2 ^ 64 - 1 = omega (arith, below, second.each.moments.first.later) in
              first.moments.each short c i j inside
              (leaves_over m t Journal (λ _ _. Unit {0}) second.each.moments.first short c i within may)
              (leaves_over m t Sealed (λ _ _. Unit {0}) second.each.moments.second short c j within may')),
          (λ later.
              subst (λ (h : HeadValue). OpensPast h second.history (length opened.history) i j) same
              (second.each.moments.each below c i j later may may')),
        );
      };
      now = λ i j may may'.
          subst (λ (h : HeadValue). OpensPast h second.history (length opened.history) i j) same
          (second.each.now i j may may');
      whole = λ worked. (
        (second.whole (λ e. worked (fails e))).0,
        λ i j may may'.
            subst (λ (h : HeadValue). OpensPast h second.history (length second.history) i j) same
            ((second.whole (λ e. worked (fails e))).1 i j may may'),
      );
    }

pub applies-safely : {observable : Type 0} (s m t : DiskState) (moments : ℕ → ℕ) (input rest : SourceState)
    (seen lines_failed lines_stopped failed stopped later : Type 0) (opened : Stored) → IsDisk observable s → observable
    → OpensInOneWay → OpensTo s.content opened
    → ((head : HeadValue) (operations : List Op) (least : ℕ) → Settled s head operations least
    → AlwaysLeavesBoth s m (OpensPast head operations least))
    → (AreWhole s → LeavesLines m t moments input rest seen opened lines_failed lines_stopped)
    → (lines_failed → failed) → (failed → lines_failed) → (stopped → lines_stopped)
    → AppliesSafely s t moments input rest seen failed stopped later
applies-safely s m t moments input rest seen lines_failed lines_stopped failed stopped later opened disk tells one opens
    first second fails caused stops =
    λ head operations least settled.
    inr (loaded-leaves s m t moments input rest seen head operations least lines_failed lines_stopped failed stopped
    opened opens
    (settled-head s head operations least disk tells one settled opened opens) (first head operations least settled)
    (second (settled-whole s head operations least disk tells settled)) fails caused stops)
