-- for all clauses: how an operation at the end of a list changes the fold, the counts and the last moment
pub mod FoldLemmas
-- for all clauses: what each member is after one more operation
pub mod StateLemmas
-- serves `Members::live_count`
pub mod LiveCountLemmas
-- serves `Members::commit`, `table`, and callers of `Members::prepare`
pub mod TableLemmas
-- serves `decide`, `decision`
pub mod DecisionLemmas
-- serves `Members::may_follow`, `exact`
pub mod MayFollowLemmas
-- serves `Members::state` and `Members::edited`
pub mod MemberLemmas
-- serves `decide`, `follows` and `lawful`
pub mod LawfulLemmas
-- serves the plain functions
pub mod PlainLemmas
-- serves `versions_set_the_entry`
pub mod VersionLemmas
-- for the documents: the items of a list of operations by recursion, newest operation first
pub mod NewestItemsLemmas
-- serves `Members::commit`, `table`, and `Members::before`
pub mod RecentLemmas
-- serves `chain_shows_the_fold`, `cuts`: which item of a member is the last of a list of operations
pub mod ItemsLemmas
-- serves `chain_shows_the_fold`, `cuts`: what the items of a list of operations keep
pub mod ItemsKeptLemmas
-- for the windows and the title: where windows end, and what operations have set
pub mod WindowLemmas
-- serves `chain_shows_the_fold`, `windows`, `windows_seal_in_turn` and `sealed_windows_are_full`
pub mod CutLemmas
-- serves `chain_shows_the_fold`, `cuts`: the rules of documents
pub mod DocumentRulesLemmas
-- serves `documents_are_short`
pub mod ShortLemmas
-- serves `live_of_is_shown`
pub mod ShowsLemmas
-- serves `chain_shows_the_fold`, `cuts`: what the documents show
pub mod ChainShowsLemmas
-- serves `chain_shows_the_fold`, `cuts`: how the documents adjoin
pub mod ChainLinksLemmas
-- serves `chain_shows_the_fold`: the law from its parts
pub mod LawLemmas
-- serves `archives_stay`, `served_stays_served` and `served_are_documents`
pub mod ServedLemmas
-- serves `read_op` and `read_head`: each field has one value
pub mod FieldLemmas
-- serves `read_op`: the fields of persons, links and categories
pub mod PartLemmas
-- serves `read_op` and `read_head`: fields with more rules than others of the same bytes
pub mod RuledLemmas
-- serves `read_op` and `read_head`: lists of fields
pub mod SequenceLemmas
-- serves `read_op`: the fields of an entry, one after another
pub mod EntrySequences
-- serves `read_op`: the first byte tells what follows
pub mod KindLemmas
-- serves `read_op`: the kinds of settings
pub mod SettingLemmas
-- serves `read_op`: the kinds of operations
pub mod OperationLemmas
-- serves `op_bytes` and `head_bytes`, `bound`, and `operations_are_long`
pub mod PayloadLemmas
-- serves `read_head`: the fields of a head, one after another
pub mod HeadLemmas
