-- The window and the length of the next seal.
use Rattle.std.proofs.Common.{◌≡◌, ◌+◌, ◌≤◌, ℕ, List, length, ap, sym, ◌∙◌, arith}
use Rattle.archive_sealer.specs.Window.{IsFull}
use Rattle.atom_writer.specs.Doc.{DocValue}
use Rattle.atom_writer.specs.Pieces.{text}
use Rattle.feed_recovery.specs.Opening.{seal_of}
use Rattle.feed_recovery.specs.Prepare.{IsMissing, next_seal}
use Rattle.feed_recovery.specs.Store.{KeepsStore, StoreValue, seal_count}
use Rattle.member_rules.specs.Coding.{payload_limit}
use Rattle.member_rules.specs.Documents.{archive}
use Rattle.member_rules.specs.Windows.{windows_of}
use Rattle.member_rules.proofs.CutLemmas.{windows-sealed}
use Rattle.member_rules.proofs.ShortLemmas.{documents-short}

module _ (store : StoreValue) (keeps : KeepsStore store) (missing : IsMissing store) where
  -- the window of the next seal is the open one, which is full
  pub next-full : IsFull store.head store.history
  next-full =
      let within = windows-sealed store.head store.history keeps.head in
      omega (arith, missing.0, within.full, within.all_but_one)

  pub next-short : length (next_seal store) ≤ payload_limit
  next-short =
      (documents-short store.head store.history keeps.head keeps.lawful).1 (seal_count store + 1) (omega arith)
      (omega (arith, next-full, missing.1))

  -- it is made from what the store holds
  pub seal-made : (document : DocValue) (written : List ℕ)
      → document ≡ archive store.head store.history ((windows_of store.head store.history).sealed + 1)
      → written ≡ text document → written ≡ next_seal store
  seal-made document written is_document is_text =
      is_text ∙ ap text is_document ∙ ap (λ (n : ℕ). seal_of store.head store.history (n + 1)) (sym missing.1)
