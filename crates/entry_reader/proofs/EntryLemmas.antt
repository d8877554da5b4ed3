-- An entry, child by child.
use Rattle.std.proofs.Common.{◌≡◌, ℕ, List, [], ◌∷◌, ◌++◌, map, refl, sym, ap, subst, ◌∙◌, append_assoc, inl}
use Rattle.std.proofs.Common.{inr, Some, None, option_map, codes, true, false}
use Rattle.std.specs.Prelude.{Ok, Err}
use Rattle.std.proofs.lemmas.Bool.{both_ways}
use Rattle.atom_values.specs.Entry.{DraftValue}
use Rattle.atom_values.specs.Space.{trimmed}
use Rattle.xml_tokens.specs.declared.elements.Elements.{Elements}
use Rattle.entry_reader.specs.declared.entry.Parts.{Parts}
use Rattle.xml_tokens.specs.declared.fault.TokenFault.{TokenFault}
use Rattle.entry_reader.specs.declared.fault.EarlyEnd.{EarlyEnd}
use Rattle.entry_reader.specs.declared.fault.EarlyEnd.TheVariants.{Refused, Fault}
use Rattle.entry_reader.specs.declared.fault.Why.{Why}
use Rattle.entry_reader.specs.declared.fault.Why.TheVariants.{Missing, NotAnEntry}
use Rattle.xml_tokens.specs.Tree.{Name, Element, Event, Content, contents, with_element}
use Rattle.xml_tokens.specs.Tree.Content.{element}
use Rattle.xml_tokens.specs.Tree.Event.{begin}
use Rattle.entry_reader.specs.Entry.{IsMoment, IsReadAs, category, construct}
use Rattle.xml_tokens.specs.Children.{Child, child, child_text, first_of}
use Rattle.xml_tokens.specs.Names.{atom}
use Rattle.entry_reader.specs.Entry.{link, person}
use Rattle.xml_tokens.specs.Children.{named, same_name}
use Rattle.xml_tokens.specs.Order.{IsFirst, IsFirstFault, all_placed}
use Rattle.entry_reader.specs.Faults.{IsRefusalIn, entry_rules}
use Rattle.entry_reader.specs.Faults.Within.{in_entry}
use Rattle.xml_tokens.specs.Progress.{IsDrainedFrom, IsFaultFrom, IsLed, Point, pending}
use Rattle.entry_reader.specs.Parts.{ArePartsFrom, IsEntryFrom, IsSoFar, IsStopped, elements_of}
use Rattle.xml_tokens.specs.Children.{joined}
use Rattle.xml_tokens.proofs.ContentLemmas.{ArePart, says, with_before}
use Rattle.entry_reader.proofs.FieldLemmas.{name_is, said_named}
use Rattle.entry_reader.proofs.PlacedLemmas.{said_placed}
use Rattle.xml_tokens.proofs.OrderLemmas.{fault_behind, placed_joined}
use Rattle.xml_tokens.proofs.ProgressLemmas.{fault_on, led_on}

-- characters between the children
pub parts_said : (b : Content) (said : List (List ℕ)) (parts : Parts) → IsSoFar b parts →
    IsSoFar (joined b (says said)) parts
parts_said b said parts are =
    let same : (name : Name) → named name b ≡ named name (joined b (says said)) =
    λ name. sym (said_named name b said) in
    let first : (name : Name) → first_of (named name b) ≡ first_of (named name (joined b (says said))) =
    λ name. ap (λ xs. first_of xs) (same name) in
    record {
      id = are.id ∙ ap (λ o. option_map (λ (c : Child). trimmed (child_text c)) o) (first (atom (codes "id")));
      title = are.title ∙ ap (λ o. option_map construct o) (first (atom (codes "title")));
      updated = subst (λ o. IsMoment o parts.updated) (first (atom (codes "updated"))) are.updated;
      published = subst (λ o. IsMoment o parts.published) (first (atom (codes "published"))) are.published;
      authors = are.authors ∙ ap (map person) (same (atom (codes "author")));
      contributors = are.contributors ∙ ap (map person) (same (atom (codes "contributor")));
      links = are.links ∙ ap (map link) (same (atom (codes "link")));
      categories = are.categories ∙ ap (map category) (same (atom (codes "category")));
      rights = are.rights ∙ ap (λ o. option_map construct o) (first (atom (codes "rights")));
      summary = are.summary ∙ ap (λ o. option_map construct o) (first (atom (codes "summary")));
      content = are.content ∙ ap (λ o. option_map construct o) (first (atom (codes "content")));
      faultless = subst (λ all. IsFirst entry_rules all None) (sym (said_placed in_entry b said)) are.faultless;
    }

-- a child of which more is read, after a content
child_begun : (b : Content) (e : Element) (stack : List Content) (inner rest : Content) (outer : List Content) →
    with_before b (with_element e stack) ≡ inner ∷ rest ∷ outer →
    (c : Content) × (k : Content) × (stack ≡ c ∷ k ∷ rest ∷ outer) × (joined b (element e c k) ≡ inner)
child_begun b e [] inner rest outer same = absurd (cc)
child_begun b e (c ∷ []) inner rest outer same = absurd (cc)
child_begun b e (c ∷ k ∷ later) inner rest outer same =
    let more : later ≡ rest ∷ outer = cc in
    let whole : joined b (element e c k) ≡ inner = cc in
    (c, k, ap (λ xs. c ∷ k ∷ xs) more, whole)

-- a child that is refused, after children that aren't
child_fault : (b : Content) (e : Element) (c k inner : Content) (at : ℕ) (why : Why) → IsRefusalIn in_entry [] b None →
    IsRefusalIn in_entry (elements_of b) (element e c k) (Some (at, why)) → joined b (element e c k) ≡ inner →
    IsRefusalIn in_entry [] inner (Some (at, why))
child_fault b e c k inner at why none fault same =
    let whole : IsRefusalIn in_entry [] (joined b (element e c k)) (Some (at, why)) =
    subst (λ all. IsFirstFault entry_rules all at why) (sym (placed_joined entry_rules in_entry [] b (element e c k)))
    (fault_behind entry_rules (all_placed entry_rules in_entry [] b)
    (all_placed entry_rules in_entry (elements_of b) (element e c k)) at why none fault) in
    subst (λ i. IsRefusalIn in_entry [] i (Some (at, why))) same whole

module _ (total : ℕ) (first : List Event) (from : Point) (told : List Event) (b : Content) (mid new last : Elements)
    (e : Element) (x : IsLed total first from told mid) (part : ArePart b [] told)
    (none : IsRefusalIn in_entry [] b None) (y : IsLed mid.length (pending mid) x.to (begin e ∷ []) new) where
  -- a child that ends the reading of an entry
  pub child_stopped : (stop : EarlyEnd) → IsStopped new.length (pending new) y.to in_entry (elements_of b) e stop last →
      ArePartsFrom total first from (Err stop) last
  child_stopped (Fault fault) s =
      fault_on total first from told mid x fault (fault_on mid.length (pending mid) x.to (begin e ∷ []) new y fault s)
  child_stopped (Refused at why) s = (
    told ++ (begin e ∷ s.0),
    led_on total first from told (begin e ∷ s.0) mid last x
        (led_on mid.length (pending mid) x.to (begin e ∷ []) s.0 new last y s.1),
    λ later inner rest outer same.
        let stack = contents (s.0 ++ later) in
        let all : with_before b (with_element e stack) ≡ inner ∷ rest ∷ outer =
        sym (part (begin e ∷ (s.0 ++ later))) ∙ ap contents (sym (append_assoc told (begin e ∷ s.0) later)) ∙ same in
        let c = child_begun b e stack inner rest outer all in
        child_fault b e c.0 c.1 inner at why none (s.2 later c.0 c.1 (rest ∷ outer) c.2) c.3,
  )

-- another root
pub other_root : (total : ℕ) (first : List Event) (from : Point) (root : Element) (new : Elements) →
    IsLed total first from [] new → same_name root.name (atom (codes "entry")) ≡ false →
    IsEntryFrom total first from root (Err (Refused root.place NotAnEntry)) new
other_root total first from root new led other = (
  [],
  led,
  λ later inner rest outer same.
      inl (
        (λ entry. both_ways (same_name root.name (atom (codes "entry"))) other
            (subst (λ n. same_name n (atom (codes "entry")) ≡ true) (sym entry) refl)),
        refl,
        refl,
      ),
)

module _ (total : ℕ) (first : List Event) (from : Point) (root : Element)
    (is : same_name root.name (atom (codes "entry")) ≡ true) where
  entry_name : root.name ≡ atom (codes "entry")
  entry_name = name_is root.name (atom (codes "entry")) is

  -- an entry of which a child is refused, or that ends early
  pub parts_stopped : (stop : EarlyEnd) (new : Elements) → ArePartsFrom total first from (Err stop) new →
      IsEntryFrom total first from root (Err stop) new
  parts_stopped (Fault fault) new s = s
  parts_stopped (Refused at why) new s =
      (s.0, s.1, λ later inner rest outer same. inr (entry_name, inl (s.2 later inner rest outer same)))

  module _ (parts : Parts) (mid new : Elements) (x : ArePartsFrom total first from (Ok parts) mid) where
    -- a fault after the entry
    pub end_faulty : (fault : TokenFault) → IsDrainedFrom mid.length (pending mid) x.2.to (Err fault) new →
        IsFaultFrom total from fault
    end_faulty fault z = fault_on total first from x.1 mid x.2 fault z

    module _ (z : IsDrainedFrom mid.length (pending mid) x.2.to (Ok tt) new) where
      -- the draft of an entry
      pub entry_read : (draft : DraftValue) → IsReadAs x.0 draft → IsEntryFrom total first from root (Ok draft) new
      entry_read draft read =
          (x.0, x.1, z.0, led_on total first from x.1 z.0 mid new x.2 z.1, x.3, entry_name, x.4.faultless, read)

      -- an entry without a title
      pub untitled : child (codes "title") x.0 ≡ None →
          IsEntryFrom total first from root (Err (Refused root.place Missing)) new
      untitled none = (
        x.1 ++ z.0,
        led_on total first from x.1 z.0 mid new x.2 z.1,
        λ later inner rest outer same.
            let whole : x.0 ∷ contents (z.0 ++ later) ≡ inner ∷ rest ∷ outer =
            sym (x.3 (z.0 ++ later)) ∙ ap contents (sym (append_assoc x.1 z.0 later)) ∙ same in
            let one : x.0 ≡ inner = cc in
            inr (
              entry_name,
              inr (
                subst (λ c. IsRefusalIn in_entry [] c None) one x.4.faultless,
                subst (λ c. child (codes "title") c ≡ None) one none,
                refl,
                refl,
              ),
            ),
      )
