-- How the pieces read so far go on to a document.
use Rattle.std.proofs.Common.{◌≡◌, ℕ, zero, suc, ◌-◌, ◌<◌, ◌≤◌, ◌^◌, List, [], ◌∷◌, ◌++◌, ℤ, map, refl, sym, ap, ◌∙◌, arith, codes, append_assoc}
use Rattle.std.proofs.lemmas.Bool.Decides.{nat_tests}
use Rattle.std.proofs.lemmas.List.Elements.{All-nil}
use Rattle.std.specs.List.{IsDistinct}
use Rattle.chain_links.specs.declared.place.Span.{Span}
use Rattle.deleted_entries.specs.Item.{IsItem}
use Rattle.deleted_entries.specs.declared.item.Item.{Item}
use Rattle.atom_writer.specs.declared.doc.FeedName.{FeedName}
use Rattle.atom_writer.specs.declared.doc.Kind.{Kind}
use Rattle.atom_writer.specs.declared.doc.Kind.TheVariants.{Subscription, Archive as Sealed}
use Rattle.atom_writer.specs.Doc.{DocValue, IsDoc, archive_limit}
use Rattle.atom_writer.specs.Pieces.{pieces, span_piece, item_piece, current_pieces, prev_pieces, next_pieces}
use Rattle.atom_grammar.specs.FeedParts.{IsKind, IsSpanOf}
use Rattle.atom_grammar.specs.Stages.{IsOpening, opening_pieces, links_pieces, AreItems, head_pieces}
use Rattle.atom_grammar.proofs.PairLemmas.{pieces-is, tail_pieces, end_pieces}
use Rattle.atom_grammar.proofs.StuckLemmas.{opening-is}

abbrev pub document_of : FeedName → Kind → Span → ℕ → ℤ → List Item → DocValue
document_of name kind span prev updated items =
    record { name = name; kind = kind; span = span; prev = prev; updated = updated; items = items }

pub is_document : (name : FeedName) (kind : Kind) (span : Span) (prev : ℕ) (updated : ℤ) (items : List Item)
    → IsOpening name kind updated → prev < 2 ^ 32 → IsSpanOf kind prev span → AreItems span items
    → IsDoc (document_of name kind span prev updated items)
is_document name kind span prev updated items opening small is_span are = record {
  name = opening.is_name;
  first = is_span.bounds.first;
  last = is_span.bounds.last;
  prev = small;
  updated = opening.is_updated;
  items = are.each;
  rules = record { placed = is_span.placed; few = is_span.few; room = are.room; distinct = are.distinct };
}

pub no_items : (span : Span) → AreItems span []
unfolding IsDistinct
no_items span = record { each = All-nil IsItem; room = omega arith; distinct = tt }

pub first_span : IsSpanOf Subscription 0 (record { first = 1; last = 0 })
first_span = record { bounds = record { first = omega arith; last = omega arith }; placed = refl; few = omega arith }

abbrev pub second : Span
second = record { first = 2; last = 2 }

pub later_span : (prev : ℕ) → 1 ≤ prev → IsSpanOf Subscription prev second
later_span prev some =
    record {
      bounds = record { first = omega arith; last = omega arith };
      placed = grind (arith, nat_tests);
      few =
          omega arith;
    }

-- a span that an archive may have
abbrev pub archive_span : ℕ → Span
archive_span zero = second
archive_span (suc zero) = record { first = 1; last = 1 }
archive_span (suc (suc n)) = second

pub is_archive_span : (number : ℕ) → IsKind (Sealed number)
    → IsSpanOf (Sealed number) (number - 1) (archive_span number)
is_archive_span zero is = absurd (omega (arith, is.0))
is_archive_span (suc zero) is =
    record { bounds = record { first = omega arith; last = omega arith }; placed = refl; few = omega arith }
is_archive_span (suc (suc n)) is =
    record {
      bounds = record { first = omega arith; last = omega arith };
      placed = let low : 1 ≤ suc (suc n) = is.0 in
          let high : suc (suc n) ≤ archive_limit = is.1 in grind (arith, nat_tests);
      few = omega arith;
    }

pub head-is : (d : DocValue)
    → pieces d ≡ opening_pieces d.name d.kind d.updated ++ tail_pieces d.name d.kind d.span d.prev d.items
head-is d =
    pieces-is d
    ∙ ap (λ z. z ++ tail_pieces d.name d.kind d.span d.prev d.items) (sym (opening-is d.name d.kind d.updated))

pub tail-is : (name : FeedName) (kind : Kind) (span : Span) (prev : ℕ) (items : List Item)
    → tail_pieces name kind span prev items ≡ links_pieces name kind prev ++ span_piece span ∷ end_pieces name items
unfolding tail_pieces end_pieces links_pieces
tail-is name kind span prev items =
    let links = current_pieces name kind ++ prev_pieces name prev ++ next_pieces name kind in
    append_assoc (links ++ span_piece span ∷ []) (map (item_piece name) items) (codes "</feed>\n" ∷ [])
    ∙ append_assoc links (span_piece span ∷ []) (map (item_piece name) items ++ codes "</feed>\n" ∷ [])

pub whole-is : (d : DocValue)
    → pieces d ≡ head_pieces d.name d.kind d.updated d.prev d.span ++ end_pieces d.name d.items
unfolding head_pieces
whole-is d =
    let opening = opening_pieces d.name d.kind d.updated in
    let links = links_pieces d.name d.kind d.prev in
    head-is d ∙ ap (λ z. opening ++ z) (tail-is d.name d.kind d.span d.prev d.items)
    ∙ sym (append_assoc opening links (span_piece d.span ∷ end_pieces d.name d.items))
    ∙ sym (append_assoc (opening ++ links) (span_piece d.span ∷ []) (end_pieces d.name d.items))
