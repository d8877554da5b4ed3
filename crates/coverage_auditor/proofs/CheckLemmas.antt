-- The result of all checks, from those of each.
use Rattle.std.proofs.Common.{◌≡◌, inl, inr, ℕ, ◌<◌, List, ◌∷◌, Option, Some, None, Result, Ok, Err, length, ap, sym, subst, ◌∙◌, arith}
use Rattle.std.specs.Prelude.{IsErrAnd}
use Rattle.atom_writer.specs.Doc.{DocValue}
use Rattle.coverage_certificate.specs.Certificate.{CertificateValue}
use Rattle.doc_source.specs.declared.offer.Offer.{Offer}
use Rattle.coverage_auditor.specs.Checks.{Checks, ChecksAll, ReadsLines}
use Rattle.coverage_auditor.specs.Links.{accepted, broken_chain, live_differs, not_the_first, oldest_of, verdict_on}
use Rattle.coverage_auditor.specs.Links.{version_differs}
use Rattle.coverage_auditor.specs.Verdict.{AreDocuments, IsVerdict, IsWhole}
use Rattle.coverage_auditor.specs.declared.halt.Halt.{Halt}
use Rattle.coverage_auditor.specs.declared.halt.Halt.TheVariants.{Refused, NoMemory}
use Rattle.coverage_auditor.specs.declared.verdict.Verdict.{Verdict}
use Rattle.coverage_auditor.proofs.VerdictLemmas.{by-first, by-links, by-live, by-none, by-version}

module _ (c : CertificateValue) (pile : List Offer) where
  -- results of functions that return nothing
  abbrev Ends : Result (Unit {0}) Halt → Type 0
  Ends result = ChecksAll c pile result

  abbrev NoChecks : Option Verdict → Result (Unit {0}) Halt → Type 0
  NoChecks verdict result = Checks verdict result

  -- a line has no document
  pub read-halted : (halt : Halt) (result : Result (Unit {0}) Halt) → IsErrAnd result (λ given. given ≡ halt)
      → ReadsLines c pile (Err halt) → ChecksAll c pile result
  read-halted halt (Ok x) is reads = absurd is
  read-halted halt (Err given) is reads =
      of given (subst (λ (h : Halt). ReadsLines c pile (Err h)) (sym is) reads)
    where
      of : (given : Halt) → ReadsLines c pile (Err given) → Ends (Err given)
      of (Refused verdict) reads = inl reads
      of NoMemory reads = tt

  -- a check refuses
  pub check-halted : (verdict : Option Verdict) (halt : Halt) (result : Result (Unit {0}) Halt)
      → IsErrAnd result (λ given. given ≡ halt) → NoChecks verdict (Err halt)
      → ((v : Verdict) → verdict ≡ Some v → IsVerdict c pile v) → ChecksAll c pile result
  check-halted verdict halt (Ok x) is checks decides = absurd is
  check-halted verdict halt (Err given) is checks decides =
      of given (subst (λ (h : Halt). NoChecks verdict (Err h)) (sym is) checks)
    where
      of : (given : Halt) → NoChecks verdict (Err given) → Ends (Err given)
      of (Refused found) checks = decides found checks
      of NoMemory checks = tt

  -- the last check
  pub check-ends : (verdict : Option Verdict) (result : Result (Unit {0}) Halt) → Checks verdict result
      → ((v : Verdict) → verdict ≡ Some v → IsVerdict c pile v)
      → (verdict ≡ None → IsVerdict c pile (accepted c)) → ChecksAll c pile result
  check-ends verdict (Ok x) checks decides passes = passes checks
  check-ends verdict (Err (Refused found)) checks decides passes = decides found checks
  check-ends verdict (Err NoMemory) checks decides passes = tt

  module _ (documents : List DocValue) (whole : IsWhole c pile documents) where
    pub some-line : 0 < length documents
    some-line = let size = ap (λ (ds : List DocValue). length ds) whole.split in omega (arith, size)

    decided-on : (v : Verdict) → v ≡ verdict_on c whole.newest whole.others → IsVerdict c pile v
    decided-on v e = inr (record {
      newest = whole.newest;
      others = whole.others;
      read = subst (λ (ds : List DocValue). AreDocuments c pile c.lines ds) whole.split whole.read;
      decided = e;
    })

    pub by-version-of : (v : Verdict) → version_differs c whole.newest ≡ Some v → IsVerdict c pile v
    by-version-of v e = decided-on v (by-version c whole.newest whole.others v e)

    -- the checks of the documents, at the documents
    split-chain : (o : Option Verdict) → broken_chain documents ≡ o → broken_chain (whole.newest ∷ whole.others) ≡ o
    split-chain o e = ap broken_chain (sym whole.split) ∙ e

    split-live : (o : Option Verdict) → live_differs c whole.newest documents ≡ o
        → live_differs c whole.newest (whole.newest ∷ whole.others) ≡ o
    split-live o e = ap (live_differs c whole.newest) (sym whole.split) ∙ e

    module _ (version : version_differs c whole.newest ≡ None) where
      pub by-links-of : (v : Verdict) → broken_chain documents ≡ Some v → IsVerdict c pile v
      by-links-of v e = decided-on v (by-links c whole.newest whole.others v version (split-chain (Some v) e))

      module _ (links : broken_chain documents ≡ None) where
        pub by-first-of : (v : Verdict) → not_the_first (oldest_of whole.newest whole.others) ≡ Some v
            → IsVerdict c pile v
        by-first-of v e =
            decided-on v (by-first c whole.newest whole.others v version (split-chain None links) e)

        module _ (first : not_the_first (oldest_of whole.newest whole.others) ≡ None) where
          pub by-live-of : (v : Verdict) → live_differs c whole.newest documents ≡ Some v → IsVerdict c pile v
          by-live-of v e = decided-on v
              (by-live c whole.newest whole.others v version (split-chain None links) first (split-live (Some v) e))

          pub by-none-of : live_differs c whole.newest documents ≡ None → IsVerdict c pile (accepted c)
          by-none-of e = decided-on (accepted c)
              (by-none c whole.newest whole.others version (split-chain None links) first (split-live None e))

-- the verdict of a refusal
pub refused-verdict : (c : CertificateValue) (pile : List Offer) (result : Result (Unit {0}) Halt) (halt : Halt)
    (verdict : Verdict) → ChecksAll c pile result → result ≡ Err halt → halt ≡ Refused verdict
    → IsVerdict c pile verdict
refused-verdict c pile result halt verdict checks is refused =
    subst (λ (r : Result (Unit {0}) Halt). ChecksAll c pile r) (is ∙ ap (λ (h : Halt). Err h) refused) checks
