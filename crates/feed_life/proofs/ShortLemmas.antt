-- The documents of a store that stands for the content of a disk are no longer than an answer may be.
use Rattle.std.proofs.Common.{ℕ, ◌≤◌, length, arith}
use Rattle.atom_writer.specs.Pieces.{text}
use Rattle.doc_source.specs.Pile.{offer_limit}
use Rattle.feed_disk.specs.Disk.{DiskState}
use Rattle.feed_recovery.specs.Documents.{IsSealed}
use Rattle.feed_recovery.specs.Opening.{seal_of}
use Rattle.feed_recovery.specs.Store.{StandsFor, StoreValue}
use Rattle.member_rules.specs.Documents.{subscription}
use Rattle.member_rules.proofs.CutLemmas.{windows-sealed}
use Rattle.member_rules.proofs.ShortLemmas.{documents-short}

module _ (disk : DiskState) (store : StoreValue) (stands : StandsFor disk store) where
  pub subscription-fits : length (text (subscription store.head store.history)) ≤ offer_limit
  subscription-fits =
      let journal = stands.opens.is_journal in
      (documents-short store.head store.history journal.is_head journal.lawful).0

  pub seal-fits : (number : ℕ) → IsSealed store number → length (seal_of store.head store.history number) ≤ offer_limit
  seal-fits number sealed =
      let journal = stands.opens.is_journal in
      let within = windows-sealed store.head store.history journal.is_head in
      (documents-short store.head store.history journal.is_head journal.lawful).1 number sealed.0
      (omega (arith, sealed.1, within.full))
