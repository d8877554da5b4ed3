-- The reply to a connection, and what it says of the mirror afterwards.
use Rattle.std.proofs.Common.{◌≡◌, ◌≢◌, ◌⊎◌, inl, inr, ⊎_elim, refl, sym, ap, ◌∙◌, ℕ, List, true, false, arith}
use Rattle.std.specs.Prelude.{Option, Some, None, IfSome}
use Rattle.chain_links.specs.declared.address.Address.{Address}
use Rattle.chain_links.specs.declared.address.Address.TheVariants.{Feed, Archive, Member}
use Rattle.document_server.proofs.StepLemmas.{changed-undisk}
use Rattle.feed_disk.specs.Disk.{DiskState}
use Rattle.feed_relay.specs.Reply.{IsOfAddress, IsOfDocument, IsRelayed, IsShown, feed_reply}
use Rattle.http_face.specs.Heard.{IsMisheard}
use Rattle.http_face.specs.Reply.{disk_fault, fault_reply, no_memory, not_allowed, not_found, not_implemented}
use Rattle.http_face.specs.Request.{RequestValue}
use Rattle.http_face.specs.declared.fault.RequestFault.{RequestFault}
use Rattle.http_face.specs.declared.fault.RequestFault.TheVariants as fault
use Rattle.http_face.specs.declared.reply.Allow.TheVariants.{OfArchive}
use Rattle.http_face.specs.declared.reply.Reply.{Reply}
use Rattle.http_face.specs.declared.request.Verb.{Verb}
use Rattle.http_face.specs.declared.request.Verb.TheVariants.{Get, Head, Post, Put, Delete, Options, Patch, Other}
use Rattle.mirror_walk.specs.Holding.{KeptValue, text_at}
use Rattle.mirror_walk.specs.Mirror.{MirrorValue, StandsFor, is_spent}
use Rattle.mirror_walk.specs.Rereading.{HasReadBack}
use Rattle.relay_command.specs.Session.{IsReplyTo, SendsDocument}

-- A reply is that of a failed disk, or another

abbrev IsOrNot : Reply → Type 0
IsOrNot reply = (reply ≡ disk_fault) ⊎ (reply ≢ disk_fault)

-- a reply with another status
other-status : (reply other : Reply) → reply ≡ other → other.status ≢ 500 → IsOrNot reply
other-status reply other is differs =
    inr (λ e. differs (ap (λ (r : Reply). r.status) (sym is) ∙ ap (λ (r : Reply). r.status) e))

shown-or-not : (observable : Type 0) (text : Option (List ℕ)) (reply : Reply) → IsShown observable text reply
    → IsOrNot reply
shown-or-not observable None reply is = other-status reply not_found is (λ e. omega (arith, e))
shown-or-not observable (Some text) reply (inl sent) =
    other-status reply (feed_reply sent.bytes) sent.is (λ e. omega (arith, e))
shown-or-not observable (Some text) reply (inr (inl memory)) =
    other-status reply no_memory memory (λ e. omega (arith, e))
shown-or-not observable (Some text) reply (inr (inr (inl failed))) = inl failed
shown-or-not observable (Some text) reply (inr (inr (inr changed))) =
    inr (λ e. changed-undisk (sym changed.1 ∙ e))

of-document-or-not : (observable : Type 0) (text : Option (List ℕ)) (verb : Verb) (reply : Reply)
    → IsOfDocument observable text verb reply → IsOrNot reply
of-document-or-not observable text Get reply shown = shown-or-not observable text reply shown
of-document-or-not observable text Head reply is = other-status reply (not_allowed OfArchive) is (λ e. omega (arith, e))
of-document-or-not observable text Post reply is = other-status reply (not_allowed OfArchive) is (λ e. omega (arith, e))
of-document-or-not observable text Put reply is = other-status reply (not_allowed OfArchive) is (λ e. omega (arith, e))
of-document-or-not observable text Delete reply is = other-status reply (not_allowed OfArchive) is (λ e. omega (arith, e))
of-document-or-not observable text Options reply is = other-status reply (not_allowed OfArchive) is (λ e. omega (arith, e))
of-document-or-not observable text Patch reply is = other-status reply (not_allowed OfArchive) is (λ e. omega (arith, e))
of-document-or-not observable text Other reply is = other-status reply (not_allowed OfArchive) is (λ e. omega (arith, e))

of-address-or-not : (observable : Type 0) (kept : List KeptValue) (address : Address) (verb : Verb) (reply : Reply)
    → IsOfAddress observable kept address verb reply → IsOrNot reply
of-address-or-not observable kept Feed verb reply is = of-document-or-not observable (text_at kept Feed) verb reply is
of-address-or-not observable kept (Archive number) verb reply is =
    of-document-or-not observable (text_at kept (Archive number)) verb reply is
of-address-or-not observable kept (Member number) verb reply is =
    other-status reply not_found is (λ e. omega (arith, e))

relayed-or-not : (observable : Type 0) (base : List ℕ) (kept : List KeptValue) (request : RequestValue) (reply : Reply)
    → IsRelayed observable base kept request reply → IsOrNot reply
relayed-or-not observable base kept request reply (inl other) =
    other-status reply not_implemented other.1 (λ e. omega (arith, e))
relayed-or-not observable base kept request reply (inr (named, inl none)) =
    other-status reply not_found none.1 (λ e. omega (arith, e))
relayed-or-not observable base kept request reply (inr (named, inr (address, is_address, target, is))) =
    of-address-or-not observable kept address request.verb reply is

-- The mirror after a reply

pub some-same : (one other : Reply) → Some one ≡ Some other → one ≡ other
some-same one other same = cc

module _ (observable : Type 0) (disk : DiskState) (old new : MirrorValue) where
  -- the reply of a failed disk alone leaves a spent mirror
  pub spent-reply : (base : List ℕ) (kept : List KeptValue) (request : RequestValue) (reply : Reply)
      → IsRelayed observable base kept request reply → is_spent old ≡ false
      → HasReadBack observable disk old new (reply ≡ disk_fault) → is_spent new ≡ true → Some reply ≡ Some disk_fault
  spent-reply base kept request reply relayed unspent read spent =
      ap Some (⊎_elim (λ is. is)
      (λ other. absurd (let same : is_spent new ≡ false = ap is_spent (read.same other) ∙ unspent in cc))
      (relayed-or-not observable base kept request reply relayed))

  -- the same of a mirror by other words
  pub read-back-as : (part whole : Type 0) → (part → whole) → (whole → part) → HasReadBack observable disk old new part
      → HasReadBack observable disk old new whole
  read-back-as part whole to from read = record {
    same = λ works. read.same (λ fails. works (to fails));
    spent = λ fails. read.spent (from fails);
    stands = λ works. read.stands (λ fails. works (to fails));
  }

  pub read-back-spent : (failed : Type 0) → (is_spent new ≡ true → failed) → HasReadBack observable disk old new failed
      → HasReadBack observable disk old new (is_spent new ≡ true)
  read-back-spent failed only read = read-back-as failed (is_spent new ≡ true) (λ fails. ap is_spent (read.spent fails)) only read

-- nothing was read
pub read-none : (observable : Type 0) (disk : DiskState) (mirror : MirrorValue) (failed : Type 0) → ¬ failed
    → (observable → StandsFor disk mirror) → HasReadBack observable disk mirror mirror failed
read-none observable disk mirror failed worked stands = record {
  same = λ _. refl;
  spent = λ fails. absurd (worked fails);
  stands = λ _. stands;
}

-- The reply to bytes that are no request

pub fault-undisk : (reason : RequestFault) → fault_reply reason ≢ Some disk_fault
fault-undisk fault.ConnFault e = cc
fault-undisk fault.BadHead e = let same = ap (λ (r : Reply). r.status) (some-same _ _ e) in omega (arith, same)
fault-undisk fault.HeadTooLarge e = let same = ap (λ (r : Reply). r.status) (some-same _ _ e) in omega (arith, same)
fault-undisk (fault.EndedEarly read) e = let same = ap (λ (r : Reply). r.status) (some-same _ _ e) in omega (arith, same)
fault-undisk fault.NoLength e = let same = ap (λ (r : Reply). r.status) (some-same _ _ e) in omega (arith, same)
fault-undisk fault.TwoLengths e = let same = ap (λ (r : Reply). r.status) (some-same _ _ e) in omega (arith, same)
fault-undisk (fault.BodyTooLarge length) e = let same = ap (λ (r : Reply). r.status) (some-same _ _ e) in omega (arith, same)
fault-undisk fault.NoMemory e = let same = ap (λ (r : Reply). r.status) (some-same _ _ e) in omega (arith, same)

pub fault-replied : (observable : Type 0) (base : List ℕ) (kept : List KeptValue) (bytes : List ℕ)
    (reason : RequestFault) → (reason ≢ fault.ConnFault → reason ≢ fault.NoMemory → IsMisheard bytes reason)
    → IfSome (fault_reply reason) (IsReplyTo observable base kept bytes)
fault-replied observable base kept bytes fault.ConnFault misheard = tt
fault-replied observable base kept bytes fault.NoMemory misheard = inr (inr refl)
fault-replied observable base kept bytes fault.BadHead misheard =
    inl (record { fault = fault.BadHead; misheard = misheard (λ e. cc) (λ e. cc); is = refl })
fault-replied observable base kept bytes fault.HeadTooLarge misheard =
    inl (record { fault = fault.HeadTooLarge; misheard = misheard (λ e. cc) (λ e. cc); is = refl })
fault-replied observable base kept bytes (fault.EndedEarly read) misheard =
    inl (record { fault = fault.EndedEarly read; misheard = misheard (λ e. cc) (λ e. cc); is = refl })
fault-replied observable base kept bytes fault.NoLength misheard =
    inl (record { fault = fault.NoLength; misheard = misheard (λ e. cc) (λ e. cc); is = refl })
fault-replied observable base kept bytes fault.TwoLengths misheard =
    inl (record { fault = fault.TwoLengths; misheard = misheard (λ e. cc) (λ e. cc); is = refl })
fault-replied observable base kept bytes (fault.BodyTooLarge length) misheard =
    inl (record { fault = fault.BodyTooLarge length; misheard = misheard (λ e. cc) (λ e. cc); is = refl })

-- none of them is a document
pub fault-unsent : (base : List ℕ) (kept : List KeptValue) (bytes : List ℕ) (reason : RequestFault)
    → IfSome (fault_reply reason) (SendsDocument base kept bytes)
fault-unsent base kept bytes fault.ConnFault = tt
fault-unsent base kept bytes fault.NoMemory = λ e. absurd (omega (arith, e))
fault-unsent base kept bytes fault.BadHead = λ e. absurd (omega (arith, e))
fault-unsent base kept bytes fault.HeadTooLarge = λ e. absurd (omega (arith, e))
fault-unsent base kept bytes (fault.EndedEarly read) = λ e. absurd (omega (arith, e))
fault-unsent base kept bytes fault.NoLength = λ e. absurd (omega (arith, e))
fault-unsent base kept bytes fault.TwoLengths = λ e. absurd (omega (arith, e))
fault-unsent base kept bytes (fault.BodyTooLarge length) = λ e. absurd (omega (arith, e))
