-- An item's piece is read in one way.
use Rattle.std.proofs.Common.{◌≡◌, ℕ, true, false, List, ◌++◌, sym, ap, ◌∙◌}
use Rattle.std.specs.Prelude.{codes}
use Rattle.deleted_entries.specs.FeedId.{IsFeedId}
use Rattle.deleted_entries.specs.Item.{IsItem}
use Rattle.deleted_entries.specs.declared.item.Item.{Item}
use Rattle.deleted_entries.specs.declared.item.Item.TheVariants.{Kept, Gone}
use Rattle.atom_writer.specs.Doc.{IsFeedName}
use Rattle.atom_writer.specs.Pieces.{item_piece, entry_piece, tombstone_piece}
use Rattle.atom_writer.specs.declared.doc.FeedName.{FeedName}
use Rattle.atom_values.specs.Entry.{EntryValue}
use Rattle.deleted_entries.specs.Tombstone.{TombstoneValue}
use Rattle.atom_grammar.specs.Parts.{IsReadAlone, IsFound, IsAbsent, lacks, starts}
use Rattle.atom_grammar.specs.Items.{item, entry, tombstone}
use Rattle.atom_writer.specs.Reading.{IsReadInOneWay}
use Rattle.atom_grammar.proofs.EntryLemmas.{entry_alone, tombstone_alone}
use Rattle.atom_grammar.proofs.NameLemmas.{base_lacks}

-- a tombstone's piece and an entry's differ
item_cases : (name : FeedName) → IsFeedId name.id → lacks 34 name.base ≡ true → (v w : Item) (rest left : List ℕ)
    → IsItem v → IsItem w → item_piece name v ++ rest ≡ item_piece name w ++ left → (v ≡ w) × (rest ≡ left)
unfolding entry tombstone entry_piece tombstone_piece
item_cases name id base (Kept v) (Kept w) rest left is_v is_w e =
    let p = entry_alone name id base v w rest left is_v is_w tt tt e in (ap (λ x. Kept x) p.0, p.1)
item_cases name id base (Kept v) (Gone w) rest left is_v is_w e =
    absurd (let h : true ≡ false = ap (starts (codes "<entry>")) e in cc)
item_cases name id base (Gone v) (Kept w) rest left is_v is_w e =
    absurd (let h : false ≡ true = ap (starts (codes "<entry>")) e in cc)
item_cases name id base (Gone v) (Gone w) rest left is_v is_w e =
    let p = tombstone_alone name id v w rest left is_v is_w tt tt e in (ap (λ x. Gone x) p.0, p.1)

-- the only reading of an item, by its kind
kept_only : (name : FeedName) (input rest : List ℕ) (e : EntryValue) → IsFound (entry name) input e rest
    → (other : Item) (left : List ℕ) → IsItem other → input ≡ item_piece name other ++ left
    → (Kept e ≡ other) × (rest ≡ left)
unfolding entry entry_piece tombstone_piece
kept_only name input rest e f (Kept w) left is same = let p = f.only w left is tt same in (ap (λ x. Kept x) p.0, p.1)
kept_only name input rest e f (Gone t) left is same =
    absurd (let h : true ≡ false = ap (starts (codes "<entry>")) (sym f.split ∙ same) in cc)

gone_only : (name : FeedName) (input rest : List ℕ) (t : TombstoneValue) → IsFound (tombstone name) input t rest
    → (other : Item) (left : List ℕ) → IsItem other → input ≡ item_piece name other ++ left
    → (Gone t ≡ other) × (rest ≡ left)
unfolding tombstone entry_piece tombstone_piece
gone_only name input rest t f (Kept w) left is same =
    absurd (let h : false ≡ true = ap (starts (codes "<entry>")) (sym f.split ∙ same) in cc)
gone_only name input rest t f (Gone w) left is same = let p = f.only w left is tt same in (ap (λ x. Gone x) p.0, p.1)

pub item_kept : (name : FeedName) (input rest : List ℕ) (e : EntryValue) → IsFound (entry name) input e rest
    → IsFound (item name) input (Kept e) rest
unfolding item entry
item_kept name input rest e f = record {
  lawful = f.lawful;
  split = f.split;
  only = λ other left is _ same. kept_only name input rest e f other left is same;
}

pub item_gone : (name : FeedName) (input rest : List ℕ) (t : TombstoneValue) → IsFound (tombstone name) input t rest
    → IsFound (item name) input (Gone t) rest
unfolding item tombstone
item_gone name input rest t f = record {
  lawful = f.lawful;
  split = f.split;
  only = λ other left is _ same. gone_only name input rest t f other left is same;
}

kept_absent : (name : FeedName) (input : List ℕ) → starts (codes "<entry>") input ≡ true → IsAbsent (entry name) input
    → (other : Item) (left : List ℕ) → IsItem other → input ≡ item_piece name other ++ left → ⊥
unfolding entry tombstone_piece
kept_absent name input there none (Kept w) left is same = none w left is tt same
kept_absent name input there none (Gone t) left is same = let h : true ≡ false =
    sym there ∙ ap (starts (codes "<entry>")) same in cc

gone_absent : (name : FeedName) (input : List ℕ) → starts (codes "<entry>") input ≡ false
    → IsAbsent (tombstone name) input → (other : Item) (left : List ℕ) → IsItem other
    → input ≡ item_piece name other ++ left → ⊥
unfolding tombstone entry_piece
gone_absent name input there none (Kept w) left is same = let h : false ≡ true =
    sym there ∙ ap (starts (codes "<entry>")) same in cc
gone_absent name input there none (Gone t) left is same = none t left is tt same

pub item_not_kept : (name : FeedName) (input : List ℕ) → starts (codes "<entry>") input ≡ true
    → IsAbsent (entry name) input → IsAbsent (item name) input
unfolding item
item_not_kept name input there none other left is _ same = kept_absent name input there none other left is same

pub item_not_gone : (name : FeedName) (input : List ℕ) → starts (codes "<entry>") input ≡ false
    → IsAbsent (tombstone name) input → IsAbsent (item name) input
unfolding item
item_not_gone name input there none other left is _ same = gone_absent name input there none other left is same

pub item_alone : (name : FeedName) → IsFeedName name → IsReadAlone (item name)
unfolding item
item_alone name is v w rest left is_v is_w _ _ e =
    item_cases name is.id (base_lacks name.base is.base) v w rest left is_v is_w e

pub item-one : (name : FeedName) → IsFeedName name → IsReadInOneWay IsItem (item_piece name)
unfolding item
item-one name is input one other rest left first second =
    item_alone name is one other rest left first.lawful second.lawful tt tt (sym first.split ∙ second.split)

-- the end of the feed is no item's piece, nor begins one
pub no_item_ends : (name : FeedName) (i : Item) (rest left : List ℕ)
    → codes "</feed>" ++ left ≡ item_piece name i ++ rest → ⊥
unfolding entry_piece tombstone_piece
no_item_ends name (Kept e) rest left same = let h : false ≡ true = ap (starts (codes "<entry>")) same in cc
no_item_ends name (Gone t) rest left same = let h : false ≡ true = ap (starts (codes "<at:")) same in cc
