-- `foreign`: the addresses asked up to its end, and its answer to the chain of one of this project's own feeds.
use Rattle.std.proofs.Common.{◌≡◌, ◌⊎◌, inl, inr, ⊎_elim, ℕ, zero, suc, ◌+◌, List, [], ◌∷◌, ◌++◌, Ok, Option, length, map}
use Rattle.std.proofs.Common.{refl, subst, sym, ap, ◌∙◌, arith}
use Rattle.std.proofs.lemmas.List.{length-map}
use Rattle.atom_writer.specs.Doc.{DocValue}
use Rattle.chain_links.specs.Address.{printed}
use Rattle.chain_links.specs.declared.address.Address.TheVariants.{Feed}
use Rattle.command_ends.specs.Answer.{Answer}
use Rattle.command_ends.specs.Ends.{EndsAs, IsAnswered, IsDone}
use Rattle.command_ends.specs.declared.printed.Printed.{Printed}
use Rattle.command_ends.specs.Status.{code_of}
use Rattle.command_ends.specs.declared.status.Status.TheVariants.{FetchFault}
use Rattle.doc_source.specs.Fetch.{FetchState}
use Rattle.feed_reader.specs.Feed.{DocumentValue}
use Rattle.feed_reader.specs.declared.values.ForeignEntry.{ForeignEntry}
use Rattle.foreign_mirror.specs.declared.walk.ChainEnd.{ChainEnd}
use Rattle.foreign_mirror.specs.Walk.{WalksFrom}
use Rattle.foreign_mirror.specs.Walk.Ending.{over}
use Rattle.member_rules.specs.Chain.{chain, chain_of, down_from}
use Rattle.member_rules.specs.Documents.{archive_of}
use Rattle.member_rules.specs.Head.{HeadValue}
use Rattle.member_rules.specs.Windows.{windows_of}
use Rattle.member_rules.specs.declared.operation.Op.{Op}
use Rattle.canonical_feed.specs.Reading.{foreign_document}
use Rattle.own_chain.specs.Laws.{OwnChainsAreRead}
use Rattle.own_chain.specs.Served.{ServesChain}
use Rattle.foreign_command.specs.Answer.{IsForeignAnswer}
use Rattle.foreign_command.specs.Ends.{AsksInWalk, GoesWalk, IsOwnAnswer}
use Rattle.foreign_command.specs.Lines.{foreign_answer}

length_down : (f : ℕ → DocValue) (n : ℕ) → length (down_from f n) ≡ n
length_down f zero = refl
length_down f (suc n) = let e = length_down f n in omega (arith, e)

-- the subscription document and the sealed archives
chain_length : (head : HeadValue) (history : List Op) → length (chain head history) ≡ (windows_of head history).sealed + 1
unfolding chain chain_of
chain_length head history =
    let windows = windows_of head history in
    let e = length_down (archive_of windows.ends head history) windows.sealed in omega (arith, e)

-- a defined end isn't a failure of the source
not_fetch : (ended status : ℕ) → IsDone status → (ended ≡ status) ⊎ (ended ≡ 8) → ended ≡ code_of FetchFault → ⊥
not_fetch ended status (inl e) (inl s) f = omega (arith, e, s, f)
not_fetch ended status (inr e) (inl s) f = omega (arith, e, s, f)
not_fetch ended status done (inr s) f = omega (arith, s, f)

-- the walk came to its end
pub asks_over : (before after : FetchState) (from : List ℕ) (printed : Printed) (ended : ℕ)
    → GoesWalk before after from (Ok printed) → IsDone (code_of printed.status)
    → (ended ≡ code_of printed.status) ⊎ (ended ≡ 8) → AsksInWalk before after from ended
asks_over before after from printed ended goes done ends = record {
  asked = goes.asked;
  documents = goes.documents;
  ending = goes.ending;
  walks = goes.walks;
  addresses = goes.addresses;
  over = λ _. goes.ends;
  failed = λ f. absurd (not_fetch ended (code_of printed.status) done ends f);
}

-- the answer to the chain of an own feed
pub own_answer : OwnChainsAreRead → (answers : List ℕ → Option (List ℕ)) (from : List ℕ) (given : Answer)
    (head : HeadValue) (history : List Op) → IsForeignAnswer answers from given → ServesChain head history answers
    → from ≡ printed head.name.base Feed → IsOwnAnswer head history given
own_answer law answers from given head history x serves same =
    let walks : WalksFrom answers (printed head.name.base Feed) x.asked x.documents (over x.end) =
    subst (λ (f : List ℕ). WalksFrom answers f x.asked x.documents (over x.end)) same x.walks in
    let reads = law head history answers x.asked x.documents x.end serves walks in
    let count : length x.documents ≡ (windows_of head history).sealed + 1 =
    ap length reads.documents_are ∙ length-map (chain head history) foreign_document ∙ chain_length head history in
    record {
      live = x.live;
      are_live = reads.live x.live x.is_live;
      is = x.is ∙ ap (λ (n : ℕ). foreign_answer n x.live x.end) count
          ∙ ap (λ (e : ChainEnd). foreign_answer ((windows_of head history).sealed + 1) x.live e) reads.complete;
    }
