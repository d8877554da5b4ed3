-- Bytes are refused in one way, and not if they spell a draft.
use Rattle.std.proofs.Common.{◌≡◌, ℕ, [], sym, ap, subst, ◌∙◌, inl, inr}
use Rattle.xml_tokens.specs.Order.{all_placed}
use Rattle.xml_tokens.specs.Tree.{Element, Content}
use Rattle.xml_tokens.proofs.OneDocumentLemmas.{one_document}
use Rattle.xml_tokens.proofs.OneRefusalLemmas.{one_token_refusal, document_not_refused}
use Rattle.xml_tokens.proofs.OrderLemmas.{AreRanked, no_first, one_first}
use Rattle.entry_reader.specs.declared.fault.Why.{Why}
use Rattle.entry_reader.specs.Faults.{entry_rules}
use Rattle.entry_reader.specs.Faults.Within.{in_entry}
use Rattle.entry_reader.specs.Refusal.{IsNoEntryAt, why_of}
use Rattle.entry_reader.specs.Spells.{depth_limit}
use Rattle.entry_reader.specs.Laws.{BytesHaveOneRefusal, DraftsAreNotRefused}
use Rattle.entry_reader.proofs.DraftLemmas.{no_entry}
use Rattle.entry_reader.proofs.PlacedLemmas.{ranked, reason_ranked}

-- each reason of an element has a rank of its own
entry_ranked : AreRanked entry_rules
entry_ranked p why cause h g same =
    sym (reason_ranked p why h) ∙ ap ranked same ∙ reason_ranked p cause g

one_no_entry : (root : Element) (c : Content) (at place : ℕ) (why cause : Why) → IsNoEntryAt root c at why →
    IsNoEntryAt root c place cause → (at ≡ place) × (why ≡ cause)
one_no_entry root c at place why cause (inl (other, here, is)) (inl (other', there, is')) =
    (here ∙ sym there, is ∙ sym is')
one_no_entry root c at place why cause (inl (other, here, is)) (inr (entry, fault)) = absurd (other entry)
one_no_entry root c at place why cause (inr (entry, fault)) (inl (other, there, is)) = absurd (other entry)
one_no_entry root c at place why cause (inr (entry, inl first)) (inr (entry', inl first')) =
    one_first entry_rules entry_ranked (all_placed entry_rules in_entry [] c) at place why cause first first'
one_no_entry root c at place why cause (inr (entry, inl first)) (inr (entry', inr (none, untitled, there, is))) =
    absurd (no_first entry_rules (all_placed entry_rules in_entry [] c) at why none first)
one_no_entry root c at place why cause (inr (entry, inr (none, untitled, here, is))) (inr (entry', inl first)) =
    absurd (no_first entry_rules (all_placed entry_rules in_entry [] c) place cause none first)
one_no_entry root c at place why cause (inr (entry, inr (none, untitled, here, is)))
    (inr (entry', inr (none', untitled', there, is'))) = (here ∙ sym there, is ∙ sym is')

pub one_refusal : BytesHaveOneRefusal
one_refusal bytes at place why cause (inl (token, refused, is)) (inl (token', refused', is')) =
    let same = one_token_refusal depth_limit bytes at place token token' refused refused' in
    (same.0, is ∙ ap why_of same.1 ∙ sym is')
one_refusal bytes at place why cause (inl (token, refused, is)) (inr (root, c, document, fault)) =
    absurd (document_not_refused depth_limit bytes root c at token document refused)
one_refusal bytes at place why cause (inr (root, c, document, fault)) (inl (token, refused, is)) =
    absurd (document_not_refused depth_limit bytes root c place token document refused)
one_refusal bytes at place why cause (inr (root, c, document, fault)) (inr (root', c', document', fault')) =
    let same = one_document depth_limit bytes root root' c c' document document' in
    one_no_entry root' c' at place why cause
    (subst (λ k. IsNoEntryAt root' k at why) same.1 (subst (λ r. IsNoEntryAt r c at why) same.0 fault)) fault'

pub not_refused : DraftsAreNotRefused
not_refused bytes draft at why s (inl (token, refused, is)) =
    document_not_refused depth_limit bytes s.root s.content at token s.document refused
not_refused bytes draft at why s (inr (root, c, document, fault)) =
    no_entry bytes root c at why draft document fault s
