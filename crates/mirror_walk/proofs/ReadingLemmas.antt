-- The steps of a load, one after another.
use Rattle.std.proofs.Common.{◌≡◌, ◌≢◌, inl, inr, ℕ, suc, ◌+◌, List, [], ◌∷◌, ◌++◌, Some, length, take, sym}
use Rattle.std.proofs.Common.{refl}
use Rattle.std.proofs.Common.{◌∙◌, ap, subst, arith}
use Rattle.std.proofs.Common.{Result, Ok, Err}
use Rattle.std.specs.Prelude.{slice_get, IfErr}
use Rattle.std.proofs.Math.Seq.{take-suc}
use Rattle.std.proofs.lemmas.Option.{slice_get_within, get_or_from_slice_get}
use Rattle.atom_grammar.specs.Refusal.{IsNoDocument, IsPlaceOfRefusal}
use Rattle.atom_values.specs.Counts.{CountsFault}
use Rattle.feed_disk.specs.Disk.{DiskState}
use Rattle.feed_disk.specs.Moments.{AlwaysLeaves, LeavesAlone}
use Rattle.feed_disk.specs.declared.area.Area.{Area}
use Rattle.feed_disk.specs.declared.area.Area.TheVariants.{Mirror as MirrorArea}
use Rattle.feed_disk.proofs.MomentLemmas.{alone_begins, alone_joins, alone_leaves, always_joins}
use Rattle.feed_journal.specs.Log.{IsListed, IsLog, LogValue}
use Rattle.feed_journal.specs.Records.{records, StandsFor as ImageStandsFor}
use Rattle.feed_journal.specs.declared.fault.LogFault.{LogFault}
use Rattle.feed_journal.specs.declared.fault.LogFault.TheVariants.{Changed}
use Rattle.feed_journal.specs.declared.fault.LogFault.TheVariants.{DiskFault as LogDiskFault}
use Rattle.feed_journal.specs.declared.fault.LogFault.TheVariants.{NoMemory as LogNoMemory}
use Rattle.mirror_walk.specs.declared.mirror_fault.MirrorFault.{MirrorFault}
use Rattle.mirror_walk.specs.declared.mirror_fault.MirrorFault.TheVariants.{OtherBase, BadRecord, DiskFault}
use Rattle.mirror_walk.specs.declared.mirror_fault.MirrorFault.TheVariants.{NoMemory}
use Rattle.mirror_walk.specs.Accept.{IsKeptOf}
use Rattle.mirror_walk.specs.Holding.{KeptValue, payloads_of}
use Rattle.mirror_walk.specs.Loaded.{IsLoadedOf, IsMirrorFault}
use Rattle.mirror_walk.specs.Loading.{FailsBy, HasRaised, IsReadable, IsUnfit, OnlyReads, Worked, fault_of}

pub reads_begin : (s : DiskState) → OnlyReads s s
reads_begin s = record { areas = λ a. alone_begins s a; later = omega arith }

pub reads_join : (s t u : DiskState) → OnlyReads s t → OnlyReads t u → OnlyReads s u
reads_join s t u first second = record {
  areas = λ a. alone_joins s t u a (first.areas a) (second.areas a);
  later = omega (arith, first.later, second.later);
}

pub worked_join : (s t u : DiskState) (a b c : LogValue) → Worked s t a b → Worked t u b c → Worked s u a c
worked_join s t u a b c first second = record {
  log = second.log ∙ ap (λ (l : LogValue). record l { calls = c.calls }) first.log;
  faults = second.faults ∙ first.faults;
}

-- a log can still be read after a step that worked
pub readable_later : (observable : Type 0) (s t : DiskState) (before after : LogValue) → IsReadable observable s before
    → OnlyReads s t → Worked s t before after → IsReadable observable t after
readable_later observable s t before after readable reads worked = record {
  area = ap (λ (l : LogValue). l.area) worked.log ∙ readable.area;
  unspent = ap (λ (l : LogValue). l.spent) worked.log ∙ readable.unspent;
  rules = subst IsLog (sym worked.log) readable.rules;
  listed = λ tells.
      let here : IsListed before (t.content MirrorArea) =
      subst (IsListed before) (sym (reads.areas MirrorArea).content) (readable.listed tells) in
      subst (λ (l : LogValue). IsListed l (t.content MirrorArea)) (sym worked.log)
      (record { list = here.list; long = here.long });
}

-- a fault of a step is that of all steps until then
pub fails_later : (observable : Type 0) (base : List ℕ) (s t u : DiskState) (fault : MirrorFault) → OnlyReads s t
    → t.faults ≡ s.faults → FailsBy observable base t u fault → FailsBy observable base s u fault
fails_later observable base s t u fault reads same fails = record {
  cause = λ tells. subst (λ (l : List ℕ). IsMirrorFault base (records l) fault)
      (reads.areas MirrorArea).content
      (fails.cause tells);
  faults = subst (λ (n : ℕ). HasRaised n u.faults fault) same fails.faults;
}

-- a fault of the log
pub log_fails : {T : Type 0} (observable : Type 0) (base : List ℕ) (s t : DiskState) (log : LogFault)
    → (observable → (n : ℕ) → (let given : Result T LogFault = Err log in given) ≢ Err (Changed n))
    → CountsFault s.faults t.faults ((let given : Result T LogFault = Err log in given) ≡ Err LogDiskFault)
    → FailsBy observable base s t (fault_of log)
log_fails observable base s t LogDiskFault never counts =
    record { cause = λ tells. tt; faults = counts.failed refl }
log_fails observable base s t (Changed index) never counts =
    record { cause = λ tells. absurd (never tells index refl); faults = counts.unfailed (λ e. cc) }
log_fails observable base s t LogNoMemory never counts =
    record { cause = λ tells. tt; faults = counts.unfailed (λ e. cc) }

-- a payload that is no document, after others that were taken
pub unread_fails : (observable : Type 0) (base : List ℕ) (s t : DiskState) (kept : List KeptValue) (index at : ℕ)
    (payload : List ℕ) → IsLoadedOf base (payloads_of kept) kept
    → (observable → take index (records (s.content MirrorArea)) ≡ payloads_of kept)
    → (observable → slice_get (records (s.content MirrorArea)) index ≡ Some payload)
    → IsNoDocument payload × IsPlaceOfRefusal payload at → t.faults ≡ s.faults
    → FailsBy observable base s t (BadRecord index at)
unread_fails observable base s t kept index at payload loaded before there refused same = record {
  cause = λ tells. record {
    kept = kept;
    before = subst (λ (ps : List (List ℕ)). IsLoadedOf base ps kept) (sym (before tells)) loaded;
    payload = payload;
    there = there tells;
    bad = inl (record { no_document = refused.0; place = refused.1 });
  };
  faults = same;
}

-- a document that isn't taken
pub unfit_fails : (observable : Type 0) (base : List ℕ) (s t : DiskState) (kept : List KeptValue) (index : ℕ)
    (payload : List ℕ) (given : KeptValue) (fault : MirrorFault) → IsLoadedOf base (payloads_of kept) kept
    → (observable → take index (records (s.content MirrorArea)) ≡ payloads_of kept)
    → (observable → slice_get (records (s.content MirrorArea)) index ≡ Some payload)
    → IsKeptOf payload given → t.faults ≡ s.faults → IsUnfit base kept index given (length payload) fault
    → FailsBy observable base s t fault
unfit_fails observable base s t kept index payload given (OtherBase other) loaded before there read same unfit =
    record {
      cause = λ tells. record {
        payload = payload;
        given = given;
        there = subst (λ (n : ℕ). slice_get (records (s.content MirrorArea)) n ≡ Some payload) unfit.0
            (there tells);
        read = read;
        base_is = unfit.1;
        differs = unfit.2;
      };
      faults = same;
    }
unfit_fails observable base s t kept index payload given (BadRecord number at) loaded before there read same unfit
    = record {
      cause = λ tells. subst (λ (n : ℕ). IsMirrorFault base (records (s.content MirrorArea)) (BadRecord n at))
          (sym unfit.0) (record {
            kept = kept;
            before = subst (λ (ps : List (List ℕ)). IsLoadedOf base ps kept) (sym (before tells)) loaded;
            payload = payload;
            there = there tells;
            bad = inr (unfit.2, unfit.1, record { given = given; read = read; not_taken = unfit.3 });
          });
      faults = same;
    }
unfit_fails observable base s t kept index payload given DiskFault loaded before there read same unfit = absurd
    unfit
unfit_fails observable base s t kept index payload given NoMemory loaded before there read same unfit =
    record { cause = λ tells. tt; faults = same }

pub unfit_all : {T : Type 0} (observable : Type 0) (base : List ℕ) (s t : DiskState) (kept : List KeptValue) (index size : ℕ)
    (payload : List ℕ) (given : KeptValue) (result : Result T MirrorFault)
    → IsLoadedOf base (payloads_of kept) kept
    → (observable → take index (records (s.content MirrorArea)) ≡ payloads_of kept)
    → (observable → slice_get (records (s.content MirrorArea)) index ≡ Some payload)
    → IsKeptOf payload given → t.faults ≡ s.faults → size ≡ length payload
    → IfErr result (IsUnfit base kept index given size) → IfErr result (FailsBy observable base s t)
unfit_all observable base s t kept index size payload given (Ok admitted) loaded before there read same is unfit =
    tt
unfit_all observable base s t kept index size payload given (Err fault) loaded before there read same is unfit =
    unfit_fails observable base s t kept index payload given fault loaded before there read same
    (subst (λ (n : ℕ). IsUnfit base kept index given n fault) is unfit)

-- one more item of a list
pub take_next : {T : Type 0} (xs : List T) (n : ℕ) (x : T) → slice_get xs n ≡ Some x
    → take (n + 1) xs ≡ take n xs ++ x ∷ []
take_next {T = T} xs n x there =
    let next : n + 1 ≡ suc n = omega arith in
    ap (λ (k : ℕ). take k xs) next ∙ take-suc xs n x (slice_get_within xs n x there)
    ∙ ap (λ (y : T). take n xs ++ y ∷ []) (get_or_from_slice_get xs n x x there)

-- the mirror's area is loaded from s to t; what comes then only reads
pub stands_before : (s t u : DiskState) (a : Area) → AlwaysLeaves s t a (ImageStandsFor (s.image_now a))
    → LeavesAlone t u a → AlwaysLeaves s u a (ImageStandsFor (s.image_now a))
stands_before s t u a run alone = always_joins s t u a (ImageStandsFor (s.image_now a)) run
    (alone_leaves t u a (ImageStandsFor (s.image_now a)) run.now alone)
