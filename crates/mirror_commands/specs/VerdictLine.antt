-- `audit`: the addresses that a verdict names.
use Rattle.chain_links.specs.Address.{IsAddress}
use Rattle.coverage_auditor.specs.declared.verdict.Verdict.{Verdict}
use Rattle.coverage_auditor.specs.declared.verdict.Verdict.TheVariants.{Accepted, NoDocument, DigestDiffers}
use Rattle.coverage_auditor.specs.declared.verdict.Verdict.TheVariants.{NotADocument}
use Rattle.coverage_auditor.specs.declared.verdict.Verdict.TheVariants.{WrongDocument, VersionDiffers, BrokenChain}
use Rattle.coverage_auditor.specs.declared.verdict.Verdict.TheVariants.{NotTheFirst, LiveDiffers}

-- the address of a verdict has a number from 1
abbrev pub HasAddress : Verdict → Type 0
HasAddress (Accepted version live) = Unit {0}
HasAddress (NoDocument address) = IsAddress address
HasAddress (DigestDiffers address found) = IsAddress address
HasAddress (NotADocument address) = IsAddress address
HasAddress (WrongDocument address) = IsAddress address
HasAddress (VersionDiffers found) = Unit {0}
HasAddress (BrokenChain address) = IsAddress address
HasAddress (NotTheFirst first) = Unit {0}
HasAddress (LiveDiffers count found) = Unit {0}
