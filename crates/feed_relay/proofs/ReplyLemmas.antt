-- The reply to a GET of an address.
use Rattle.std.proofs.Common.{◌≡◌, ◌≢◌, inl, inr, ℕ, List, Option, Some, None, refl, ap, sym, subst, ◌∙◌, arith}
use Rattle.chain_links.specs.Address.{IsAddress, IsTarget, printed}
use Rattle.chain_links.specs.declared.address.Address.{Address}
use Rattle.chain_links.specs.declared.address.Address.TheVariants.{Feed, Archive, Member}
use Rattle.feed_relay.specs.Reply.{feed_reply, IsOfAddress, IsRelayed, IsShown, SendsHeld, SendsServed}
use Rattle.http_face.specs.Reply.{HasPhrase, body_text, disk_changed, disk_fault, no_memory, not_found}
use Rattle.http_face.specs.Request.{RequestValue}
use Rattle.http_face.specs.declared.reply.Reply.{Reply}
use Rattle.http_face.specs.declared.request.Verb.{Verb}
use Rattle.http_face.specs.declared.request.Verb.TheVariants.{Get, Other}
use Rattle.member_rules.specs.Head.{HeadValue}
use Rattle.member_rules.specs.Served.{Served}
use Rattle.member_rules.specs.declared.operation.Op.{Op}
use Rattle.mirror_walk.specs.Holding.{KeptValue, text_at}

pub same-bytes : (one other : List ℕ) → feed_reply one ≡ feed_reply other → one ≡ other
same-bytes one other e = ap (λ (r : Reply). body_text r.body) e

module _ (observable : Type 0) (base : List ℕ) (kept : List KeptValue) (request : RequestValue) (reply : Reply)
    (address : Address) (get : request.verb ≡ Get) (is_address : IsAddress address)
    (target : IsTarget base address request.target) where
  of-address : (address : Address) → IsShown observable (text_at kept address) reply
      → IsOfAddress observable kept address Get reply
  of-address Feed shown = shown
  of-address (Archive number) shown = shown
  of-address (Member number) shown = shown

  not-other : request.verb ≢ Other
  not-other e = let same : Get ≡ Other = sym get ∙ e in cc

  pub get-relayed : IsShown observable (text_at kept address) reply → IsRelayed observable base kept request reply
  get-relayed shown =
      inr (
        not-other,
        inr (
          address,
          is_address,
          target,
          subst (λ (v : Verb). IsOfAddress observable kept address v reply) (sym get) (of-address address shown),
        ),
      )

  status-is : (other : Reply) → reply ≡ other → reply.status ≡ other.status
  status-is other e = ap (λ (r : Reply). r.status) e

  held-of : (text : Option (List ℕ)) → text_at kept address ≡ text → IsShown observable text reply → observable
      → reply.status ≡ 200 → SendsHeld base kept request reply
  held-of None is shown tells ok = absurd (omega (arith, sym (status-is not_found shown) ∙ ok))
  held-of (Some text) is (inl sent) tells ok = record {
    get = get;
    address = address;
    is_address = is_address;
    target = target;
    bytes = sent.bytes;
    held = is ∙ ap (λ (t : List ℕ). Some t) (sym (sent.seen tells));
    is = sent.is;
  }
  held-of (Some text) is (inr (inl e)) tells ok = absurd (omega (arith, sym (status-is no_memory e) ∙ ok))
  held-of (Some text) is (inr (inr (inl e))) tells ok = absurd (omega (arith, sym (status-is disk_fault e) ∙ ok))
  held-of (Some text) is (inr (inr (inr e))) tells ok = absurd (omega (arith, sym (status-is disk_changed e.1) ∙ ok))

  pub get-held : IsShown observable (text_at kept address) reply → observable → reply.status ≡ 200
      → SendsHeld base kept request reply
  get-held shown = held-of (text_at kept address) refl shown

  pub get-served : (head : HeadValue) (history : List Op) → IsShown observable (text_at kept address) reply → observable
      → reply.status ≡ 200
      → ((bytes : List ℕ) → reply ≡ feed_reply bytes → Served head history (printed base address) bytes)
      → SendsServed head history base request reply
  get-served head history shown tells ok served =
      let held = get-held shown tells ok in record {
        address = address;
        is_address = is_address;
        target = target;
        bytes = held.bytes;
        served = served held.bytes held.is;
        is = held.is;
      }

  changed-of : (text : Option (List ℕ)) → IsShown observable text reply → reply ≡ disk_changed → ¬ observable
  changed-of None shown e = absurd (omega (arith, sym (status-is not_found shown) ∙ status-is disk_changed e))
  changed-of (Some text) (inl sent) e =
      absurd (omega (arith, sym (status-is (feed_reply sent.bytes) sent.is) ∙ status-is disk_changed e))
  changed-of (Some text) (inr (inl is)) e =
      absurd (omega (arith, sym (status-is no_memory is) ∙ status-is disk_changed e))
  changed-of (Some text) (inr (inr (inl is))) e = absurd (let other = ap (λ (r : Reply). r.body) (sym is ∙ e) in cc)
  changed-of (Some text) (inr (inr (inr is))) e = is.0

  pub get-changed : IsShown observable (text_at kept address) reply → reply ≡ disk_changed → ¬ observable
  get-changed shown = changed-of (text_at kept address) shown

  memory-of : (text : Option (List ℕ)) → IsShown observable text reply → reply.status ≡ 503 → reply ≡ no_memory
  memory-of None shown e = absurd (omega (arith, sym (status-is not_found shown) ∙ e))
  memory-of (Some text) (inl sent) e =
      absurd (omega (arith, sym (status-is (feed_reply sent.bytes) sent.is) ∙ e))
  memory-of (Some text) (inr (inl is)) e = is
  memory-of (Some text) (inr (inr (inl is))) e = absurd (omega (arith, sym (status-is disk_fault is) ∙ e))
  memory-of (Some text) (inr (inr (inr is))) e = absurd (omega (arith, sym (status-is disk_changed is.1) ∙ e))

  pub get-memory : IsShown observable (text_at kept address) reply → reply.status ≡ 503 → reply ≡ no_memory
  get-memory shown = memory-of (text_at kept address) shown

  phrase-of : (other : Reply) → reply ≡ other → HasPhrase other.status → HasPhrase reply.status
  phrase-of other e phrase = subst (λ (r : Reply). HasPhrase r.status) (sym e) phrase

  status-of : (text : Option (List ℕ)) → IsShown observable text reply → HasPhrase reply.status
  status-of None shown = phrase-of not_found shown refl
  status-of (Some text) (inl sent) = phrase-of (feed_reply sent.bytes) sent.is refl
  status-of (Some text) (inr (inl is)) = phrase-of no_memory is refl
  status-of (Some text) (inr (inr (inl is))) = phrase-of disk_fault is refl
  status-of (Some text) (inr (inr (inr is))) = phrase-of disk_changed is.1 refl

  pub get-status : IsShown observable (text_at kept address) reply → HasPhrase reply.status
  get-status shown = status-of (text_at kept address) shown
