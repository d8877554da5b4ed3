-- The pieces of a document up to the span, read one after another.
use Rattle.std.proofs.Common.{◌≡◌, ℕ, List, [], ◌∷◌, ◌++◌, ℤ, false, Result, Ok, Err, IsErrAnd, sym, ap, ◌∙◌, subst, refl, append_assoc}
use Rattle.atom_values.specs.Listed.{Listed}
use Rattle.chain_links.specs.declared.place.Span.{Span}
use Rattle.deleted_entries.specs.declared.item.Item.{Item}
use Rattle.atom_writer.specs.declared.doc.FeedName.{FeedName}
use Rattle.atom_writer.specs.declared.doc.Kind.{Kind}
use Rattle.atom_writer.specs.Pieces.{joined, span_piece}
use Rattle.atom_writer.proofs.PieceLemmas.{joined-append, joined-one}
use Rattle.atom_grammar.specs.declared.body.Body.{Body}
use Rattle.atom_grammar.specs.declared.part_fault.PartFault.{PartFault}
use Rattle.atom_grammar.specs.declared.part_fault.PartFault.TheVariants.{Mismatch, NoMemory}
use Rattle.atom_grammar.specs.FeedParts.{ReadsPiece, span_of}
use Rattle.atom_grammar.specs.Parts.{IsFound}
use Rattle.atom_grammar.specs.Progress.{ReadsHead, IsBegun}
use Rattle.atom_grammar.specs.Stages.{IsRefused, IsOpening, AreItems, ReadsOpening, ReadsLinks, ReadsPrev, opening_pieces, links_pieces, head_pieces}
use Rattle.atom_grammar.proofs.BodyLemmas.{body_text-begun}
use Rattle.atom_grammar.proofs.RefusalLemmas.{refused_behind}
use Rattle.atom_grammar.proofs.RefusedLemmas.{refused_span}
use Rattle.atom_grammar.proofs.StartLemmas.{no_items}

head_stopped : (input after : List ℕ) (e : PartFault) (r : Result Body PartFault) → IsErrAnd r (λ s. s ≡ e)
    → (e ≡ Mismatch → IsRefused [] input after) → ReadsHead input r after
head_stopped input after e (Ok x) same f = absurd same
head_stopped input after Mismatch (Err x) same f =
    let P : PartFault → Type 0 = λ stop. ReadsHead input (Err stop) after in
    subst P (sym same) (f refl)
head_stopped input after NoMemory (Err x) same f =
    let P : PartFault → Type 0 = λ stop. ReadsHead input (Err stop) after in
    subst P (sym same) tt

name_refused : (input after : List ℕ) (e : PartFault) → ReadsOpening input (Err e) after → e ≡ Mismatch
    → IsRefused [] input after
name_refused input after Mismatch r is = r
name_refused input after NoMemory r is = absurd cc

-- the name of the feed isn't there
pub no_name : (input after : List ℕ) (e : PartFault) (r : Result Body PartFault)
    → ReadsOpening input (Err e) after → IsErrAnd r (λ s. s ≡ e) → ReadsHead input r after
no_name input after e r s same = head_stopped input after e r same (name_refused input after e s)

module _ (name : FeedName) (kind : Kind) (updated : ℤ) (input m1 : List ℕ) (opening : IsOpening name kind updated)
    (first : input ≡ joined (opening_pieces name kind updated) ++ m1) where
  links_refused : (after : List ℕ) (e : PartFault) → ReadsLinks name kind m1 (Err e) after → e ≡ Mismatch
      → IsRefused [] input after
  links_refused after Mismatch r is =
      refused_behind [] (opening_pieces name kind updated) input m1 after first (r updated opening)
  links_refused after NoMemory r is = absurd cc

  -- the links aren't there
  pub no_links : (after : List ℕ) (e : PartFault) (r : Result Body PartFault)
      → ReadsLinks name kind m1 (Err e) after → IsErrAnd r (λ s. s ≡ e) → ReadsHead input r after
  no_links after e r s same = head_stopped input after e r same (links_refused after e s)

  module _ (prev : ℕ) (m2 : List ℕ) (second : ReadsPrev name kind m1 prev m2) where
    span_refused : (after : List ℕ) (e : PartFault) → ReadsPiece (span_of kind prev) m2 (Err e) after → e ≡ Mismatch
        → IsRefused [] input after
    span_refused after Mismatch s is =
        subst (λ z. IsRefused [] input z) (sym s.0)
        (refused_behind [] (opening_pieces name kind updated) input m1 m2 first
        (refused_span name kind updated prev opening second.small m1 m2 second.split second.is s.1))
    span_refused after NoMemory s is = absurd cc

    -- the span isn't there
    pub no_span : (after : List ℕ) (e : PartFault) (r : Result Body PartFault)
        → ReadsPiece (span_of kind prev) m2 (Err e) after → IsErrAnd r (λ s. s ≡ e) → ReadsHead input r after
    no_span after e r s same = head_stopped input after e r same (span_refused after e s)

    module _ (span : Span) (m3 : List ℕ) (third : IsFound (span_of kind prev) m2 span m3) where
      whole_head : input ≡ joined (head_pieces name kind updated prev span) ++ m3
      unfolding head_pieces
      whole_head =
          let a = opening_pieces name kind updated in
          let b = links_pieces name kind prev in
          let c = span_piece span in
          first ∙ ap (λ z. joined a ++ z) (second.split ∙ ap (λ z. joined b ++ z) third.split)
          ∙ sym (append_assoc (joined a) (joined b) (c ++ m3)) ∙ sym (append_assoc (joined a ++ joined b) c m3)
          ∙ ap (λ z. (z ++ c) ++ m3) (sym (joined-append a b))
          ∙ ap (λ z. (joined (a ++ b) ++ z) ++ m3) (sym (joined-one c))
          ∙ ap (λ z. z ++ m3) (sym (joined-append (a ++ b) (c ∷ [])))

      -- all pieces up to the span are there
      pub head_read : (items : Listed Item) → items.items ≡ []
          → IsBegun (record {
            name = name;
            kind = kind;
            updated = updated;
            prev = prev;
            span = span;
            items = items;
            ended = false;
          }) input m3
      head_read items none =
          let body : Body =
          record {
            name = name;
            kind = kind;
            updated = updated;
            prev = prev;
            span = span;
            items = items;
            ended = false;
          } in
          record {
            keeps = record {
              opening = opening;
              small = second.small;
              span = third.lawful;
              items = subst (λ z. AreItems span z) (sym none) (no_items span);
            };
            items = none;
            ended = refl;
            split = whole_head ∙ ap (λ z. z ++ m3) (sym (body_text-begun body none refl));
          }
