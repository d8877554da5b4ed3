-- `discover`: its end after a refused document or a fault, and its answer to the service document of this project's own.
use Rattle.std.proofs.Common.{◌≡◌, ◌⊎◌, inl, inr, ℕ, List, [], ◌∷◌, ◌++◌, Option, Some, true, refl, subst, sym, ap, ◌∙◌}
use Rattle.std.proofs.Common.{append-nil, arith, codes, Result, Ok, Err}
use Rattle.std.specs.Result.{IsErrAnd}
use Rattle.atom_writer.specs.Doc.{IsFeedName}
use Rattle.atom_writer.specs.declared.doc.FeedName.{FeedName}
use Rattle.chain_links.specs.Address.{printed}
use Rattle.chain_links.specs.Checked.{IsUrlText}
use Rattle.chain_links.specs.declared.address.Address.TheVariants.{Feed}
use Rattle.command_ends.specs.Answer.{Answer, Prints}
use Rattle.command_ends.specs.Ends.{EndsAs, IsAnswered, IsDone}
use Rattle.command_ends.specs.Status.{code_of}
use Rattle.command_ends.proofs.AnsweredLemmas.{ends-refused}
use Rattle.command_ends.specs.declared.printed.Printed.{Printed}
use Rattle.command_ends.specs.declared.status.Status.{Status}
use Rattle.command_ends.specs.declared.status.Status.TheVariants.{Done}
use Rattle.doc_source.specs.Fetch.{FetchState}
use Rattle.doc_source.specs.Outside.{SinkState}
use Rattle.own_service.specs.Laws.{ServiceDocIsRead}
use Rattle.service_face.specs.Service.{service_text}
use Rattle.service_reader.specs.ServiceDocument.{IsServiceRefusedAt}
use Rattle.service_reader.specs.declared.fault.ServiceRead.{ServiceRead}
use Rattle.service_reader.specs.declared.fault.ServiceRead.TheVariants.{NotRead, NoMemory as OutOfMemory}
use Rattle.service_reader.specs.declared.fault.ServiceWhy.{ServiceWhy}
use Rattle.discover_command.specs.Answer.{DiscoverHasOneAnswer, IsAnswerTo, IsDiscoverAnswer}
use Rattle.discover_command.specs.Ends.{AsksFor, fault_end, own_answer, read_fault}
use Rattle.discover_command.specs.Lines.{refused_answer}
use Rattle.discover_command.specs.declared.fault.DiscoverFault.{DiscoverFault}
use Rattle.discover_command.specs.declared.fault.DiscoverFault.TheVariants.{BadService, FetchFault, NoMemory}

-- statuses of faults of which none is an answer's
not_answered : (ended n : ℕ) → ended ≡ n → (n ≡ 5) ⊎ (n ≡ 7) → IsAnswered ended → ⊥
not_answered ended n e (inl k) (inl (inl h)) = omega (arith, e, k, h)
not_answered ended n e (inl k) (inl (inr (inl h))) = omega (arith, e, k, h)
not_answered ended n e (inl k) (inl (inr (inr (inl h)))) = omega (arith, e, k, h)
not_answered ended n e (inl k) (inl (inr (inr (inr (inl h))))) = omega (arith, e, k, h)
not_answered ended n e (inl k) (inl (inr (inr (inr (inr (inl h)))))) = omega (arith, e, k, h)
not_answered ended n e (inl k) (inl (inr (inr (inr (inr (inr h)))))) = omega (arith, e, k, h)
not_answered ended n e (inl k) (inr h) = omega (arith, e, k, h)
not_answered ended n e (inr k) (inl (inl h)) = omega (arith, e, k, h)
not_answered ended n e (inr k) (inl (inr (inl h))) = omega (arith, e, k, h)
not_answered ended n e (inr k) (inl (inr (inr (inl h)))) = omega (arith, e, k, h)
not_answered ended n e (inr k) (inl (inr (inr (inr (inl h))))) = omega (arith, e, k, h)
not_answered ended n e (inr k) (inl (inr (inr (inr (inr (inl h)))))) = omega (arith, e, k, h)
not_answered ended n e (inr k) (inl (inr (inr (inr (inr (inr h)))))) = omega (arith, e, k, h)
not_answered ended n e (inr k) (inr h) = omega (arith, e, k, h)

-- a document that is refused has its answer
pub fault_answered : (IsAnswer : Answer → Type 0) (observable : Type 0) (before after : SinkState)
    (fault : DiscoverFault) (ended : ℕ) → ended ≡ code_of (fault_end fault).status
    → ((at : ℕ) → fault ≡ BadService at → IsAnswer (refused_answer at))
    → (observable → Prints before after (fault_end fault).printed) → IsAnswered ended
    → EndsAs IsAnswer observable before after ended
fault_answered IsAnswer observable before after (BadService at) ended is refused prints answered =
    ends-refused IsAnswer observable before after (refused_answer at) ended (refused at refl) is undone prints
  where
    undone : IsDone (code_of (refused_answer at).status) → ⊥
    undone (inl e) = omega (arith, e)
    undone (inr e) = omega (arith, e)
fault_answered IsAnswer observable before after FetchFault ended is refused prints answered =
    absurd (not_answered ended 7 is (inr refl) answered)
fault_answered IsAnswer observable before after NoMemory ended is refused prints answered =
    absurd (not_answered ended 5 is (inl refl) answered)

-- the answer to the service document of this project's own
pub own_given : ServiceDocIsRead → DiscoverHasOneAnswer → (answers : List ℕ → Option (List ℕ)) (address : List ℕ)
    (name : FeedName) (given : Answer) → IsFeedName name → IsUrlText address → IsUrlText (printed name.base Feed)
    → answers address ≡ Some (service_text name) → IsDiscoverAnswer answers address given → given ≡ own_answer name
own_given read one answers address name given is_name url feed there is =
    one answers address given (own_answer name) is
    (subst (λ (found : Option (List ℕ)). IsAnswerTo address found (own_answer name)) (sym there) (inl record {
      collections = record { href = printed name.base Feed; entries = true } ∷ [];
      spelled = read name address is_name url feed;
      is = λ i. record { status = Done; printed = sym (append-nil line) i };
    }))
  where
    line : List ℕ
    line = codes "collection " ++ printed name.base Feed ++ codes " entries\n"

-- a document that is refused has its answer
pub refused_given : (answers : List ℕ → Option (List ℕ)) (address bytes : List ℕ) (fault : ServiceRead)
    (r : Result Printed DiscoverFault) (at : ℕ) → Some bytes ≡ answers address
    → IsErrAnd r (λ f. f ≡ read_fault fault)
    → ((place : ℕ) (why : ServiceWhy) → fault ≡ NotRead place why → IsServiceRefusedAt bytes address place why)
    → r ≡ Err (BadService at) → IsDiscoverAnswer answers address (refused_answer at)
refused_given answers address bytes (NotRead place why) (Err f) at there is refused e =
    let same : place ≡ at = cc in
    subst (λ (found : Option (List ℕ)). IsAnswerTo address found (refused_answer at)) there (inr record {
      at = at;
      why = why;
      refused = subst (λ (n : ℕ). IsServiceRefusedAt bytes address n why) same (refused place why refl);
      is = refl;
    })
refused_given answers address bytes OutOfMemory (Err f) at there is refused e = absurd (cc)
refused_given answers address bytes fault (Ok printed) at there is refused e = absurd is

-- the source was asked, or memory ran out
pub asks_weaker : (before after : FetchState) (address : List ℕ) (ran_out ended_so : Type 0)
    → AsksFor before after address ran_out → (ran_out → ended_so) → AsksFor before after address ended_so
asks_weaker before after address ran_out ended_so asks so = record {
  once = λ other. asks.once (λ out. other (so out));
  most = asks.most;
}

-- the status of a lack of memory
pub ran_out_status : (fault : DiscoverFault) (status : Status) → status ≡ (fault_end fault).status
    → ◌≡◌ {A = Result Printed DiscoverFault} (Err fault) (Err NoMemory) → code_of status ≡ 5
ran_out_status fault status is e =
    let same : fault ≡ NoMemory = cc in ap code_of is ∙ ap (λ (f : DiscoverFault). code_of (fault_end f).status) same
