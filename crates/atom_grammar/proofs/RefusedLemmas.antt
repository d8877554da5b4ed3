-- Where each step of the reading is refused.
use Rattle.std.proofs.Common.{◌≡◌, ℕ, zero, suc, ◌-◌, ◌<◌, ◌≤◌, ◌^◌, List, [], ◌∷◌, ◌++◌, ℤ, pos, get_or, refl, sym, ap, ◌∙◌, subst, arith, IsTrue, append_assoc}
use Rattle.std.proofs.lemmas.Int.{ints}
use Rattle.std.proofs.lemmas.List.{append_cancel_left}
use Rattle.atom_values.specs.Stamp.{IsStamp}
use Rattle.atom_values.specs.XmlText.{IsAtomText}
use Rattle.chain_links.specs.declared.place.Span.{Span}
use Rattle.deleted_entries.specs.FeedId.{IsFeedId}
use Rattle.atom_writer.specs.declared.doc.FeedName.{FeedName}
use Rattle.atom_writer.specs.declared.doc.Kind.{Kind}
use Rattle.atom_writer.specs.declared.doc.Kind.TheVariants.{Subscription, Archive as Sealed}
use Rattle.atom_writer.specs.Doc.{DocValue, IsDoc, is_placed}
use Rattle.atom_writer.specs.Pieces.{pieces, joined, declaration_piece, open_piece, id_piece, updated_piece, span_piece, current_pieces, prev_pieces, next_pieces}
use Rattle.atom_grammar.specs.FeedParts.{feed_id, title, updated, author, own, own_piece, prev_piece, span_of, IsKind, IsArchiveNumber, IsSpanOf}
use Rattle.atom_grammar.specs.Parts.{IsAbsent, literal, alone, ended, behind, content, moment}
use Rattle.atom_grammar.specs.Stages.{IsRefused, IsOpening, IsPrev, opening_pieces, links_pieces}
use Rattle.atom_grammar.proofs.PairLemmas.{pieces-is, tail_pieces, end_pieces, tail-first, tail-later, own_of, is_own, is_span, placed_prev, span_prev-apart, prev_pieces-some}
use Rattle.atom_grammar.proofs.FeedPieceLemmas.{prev-one}
use Rattle.atom_grammar.proofs.StartLemmas.{document_of, is_document, no_items, first_span, second, later_span, archive_span, is_archive_span, head-is, tail-is}
use Rattle.atom_grammar.proofs.StuckLemmas.{start, refused, example_base, example_id, is_example_base, is_example_id, is_empty, behind_name, injective}
use Rattle.atom_grammar.proofs.ValueLemmas.{titled, authored}

example : List ℕ → List ℕ → List ℕ → FeedName
example id title author = record { base = example_base; id = id; title = title; author = author }

example_document : List ℕ → List ℕ → List ℕ → ℤ → DocValue
example_document id title author updated =
    document_of (example id title author) Subscription (record { first = 1; last = 0 }) 0 updated []

example-is : (id title author : List ℕ) (updated : ℤ)
    → pieces (example_document id title author updated) ≡ declaration_piece ∷ open_piece ∷ id_piece id ∷ titled title
    ∷ updated_piece updated ∷ authored author ∷ own_piece (record { base = example_base; kind = Subscription }) ∷
    tail_pieces (example id title author) Subscription (record { first = 1; last = 0 }) 0 []
unfolding example example_document
example-is id title author updated = pieces-is (example_document id title author updated)

is_example : (id title author : List ℕ) (updated : ℤ) → IsFeedId id → IsAtomText title → IsAtomText author
    → IsStamp updated → IsDoc (example_document id title author updated)
unfolding example example_document
is_example id title author updated is_id is_title is_author is_updated =
    is_document (example id title author) Subscription (record { first = 1; last = 0 }) 0 updated []
    (record {
      is_name = record { base = is_example_base; id = is_id; title = is_title; author = is_author };
      is_kind =
          tt;
      is_updated = is_updated;
    })
    (omega arith) first_span (no_items (record { first = 1; last = 0 }))

is_epoch : IsStamp (pos 0)
is_epoch = (omega (arith, ints), omega (arith, ints))

pub refused_declaration : (input : List ℕ) → IsAbsent (literal declaration_piece) input → IsRefused [] input input
unfolding literal
refused_declaration input none =
    refused (example_document example_id [] [] (pos 0))
    (is_example example_id [] [] (pos 0) is_example_id is_empty is_empty is_epoch)
    [] [] declaration_piece _ (example-is example_id [] [] (pos 0)) input input (start input)
    (λ other is p after left e at. let f = sym (pieces-is other) ∙ e in let same : p ≡ declaration_piece = cc in
    none tt after tt tt (at ∙ ap (λ z. z ++ after) same))

pub refused_open : (input rest : List ℕ) → input ≡ joined (declaration_piece ∷ []) ++ rest
    → IsAbsent (literal open_piece) rest → IsRefused [] input rest
unfolding literal
refused_open input rest split none =
    refused (example_document example_id [] [] (pos 0))
    (is_example example_id [] [] (pos 0) is_example_id is_empty is_empty is_epoch)
    [] (declaration_piece ∷ []) open_piece _ (example-is example_id [] [] (pos 0)) input rest split
    (λ other is p after left e at. let f = sym (pieces-is other) ∙ e in let same : p ≡ open_piece = cc in
    none tt after tt tt (at ∙ ap (λ z. z ++ after) same))

pub refused_id : (input rest : List ℕ) → input ≡ joined (declaration_piece ∷ open_piece ∷ []) ++ rest
    → IsAbsent feed_id rest → IsRefused [] input rest
refused_id input rest split none =
    refused (example_document example_id [] [] (pos 0))
    (is_example example_id [] [] (pos 0) is_example_id is_empty is_empty is_epoch)
    [] (declaration_piece ∷ open_piece ∷ []) (id_piece example_id) _ (example-is example_id [] [] (pos 0)) input rest
    split
    (λ other is p after left e at. let f = sym (pieces-is other) ∙ e in let same : p ≡ id_piece other.name.id = cc in
    none other.name.id after is.name.id tt (at ∙ ap (λ z. z ++ after) same))

pub refused_title : (input rest id : List ℕ) → IsFeedId id
    → input ≡ joined (declaration_piece ∷ open_piece ∷ id_piece id ∷ []) ++ rest → IsAbsent title rest
    → IsRefused [] input rest
unfolding alone ended behind content titled
refused_title input rest id is_id split none =
    refused (example_document id [] [] (pos 0)) (is_example id [] [] (pos 0) is_id is_empty is_empty is_epoch)
    [] (declaration_piece ∷ open_piece ∷ id_piece id ∷ []) (titled []) _ (example-is id [] [] (pos 0)) input rest split
    (λ other is p after left e at. let f = sym (pieces-is other) ∙ e in let same : p ≡ titled other.name.title = cc in
    none other.name.title after is.name.title tt (at ∙ ap (λ z. z ++ after) same))

pub refused_updated : (input rest id title : List ℕ) → IsFeedId id → IsAtomText title
    → input ≡ joined (declaration_piece ∷ open_piece ∷ id_piece id ∷ titled title ∷ []) ++ rest
    → IsAbsent updated rest → IsRefused [] input rest
unfolding alone ended behind moment updated_piece
refused_updated input rest id title is_id is_title split none =
    refused (example_document id title [] (pos 0)) (is_example id title [] (pos 0) is_id is_title is_empty is_epoch)
    [] (declaration_piece ∷ open_piece ∷ id_piece id ∷ titled title ∷ []) (updated_piece (pos 0)) _
    (example-is id title [] (pos 0)) input rest split
    (λ other is p after left e at. let f = sym (pieces-is other) ∙ e in let same : p ≡ updated_piece other.updated =
    cc in none other.updated after is.updated tt (at ∙ ap (λ z. z ++ after) same))

pub refused_author : (input rest id title : List ℕ) (updated : ℤ) → IsFeedId id → IsAtomText title → IsStamp updated
    → input ≡ joined (declaration_piece ∷ open_piece ∷ id_piece id ∷ titled title ∷ updated_piece updated ∷ [])
    ++ rest → IsAbsent author rest → IsRefused [] input rest
unfolding alone ended behind content authored
refused_author input rest id title updated is_id is_title is_updated split none =
    refused (example_document id title [] updated) (is_example id title [] updated is_id is_title is_empty is_updated)
    [] (declaration_piece ∷ open_piece ∷ id_piece id ∷ titled title ∷ updated_piece updated ∷ []) (authored []) _
    (example-is id title [] updated) input rest split
    (λ other is p after left e at. let f = sym (pieces-is other) ∙ e in let same : p ≡ authored other.name.author =
    cc in none other.name.author after is.name.author tt (at ∙ ap (λ z. z ++ after) same))

pub refused_own : (input rest id title author : List ℕ) (updated : ℤ) → IsFeedId id → IsAtomText title
    → IsAtomText author → IsStamp updated
    → input
    ≡ joined
    (declaration_piece ∷ open_piece ∷ id_piece id ∷ titled title ∷ updated_piece updated ∷ authored author ∷ [])
    ++ rest → IsAbsent own rest → IsRefused [] input rest
refused_own input rest id title author updated is_id is_title is_author is_updated split none =
    refused (example_document id title author updated)
    (is_example id title author updated is_id is_title is_author is_updated)
    [] (declaration_piece ∷ open_piece ∷ id_piece id ∷ titled title ∷ updated_piece updated ∷ authored author ∷ [])
    (own_piece (record { base = example_base; kind = Subscription })) _ (example-is id title author updated) input
    rest split
    (λ other is p after left e at. let f = sym (pieces-is other) ∙ e in let same : p ≡ own_piece (own_of other) =
    cc in none (own_of other) after (is_own other is) tt (at ∙ ap (λ z. z ++ after) same))

-- the archive before a document, in a document that goes on after these pieces
pub other_prev : (other : DocValue) → IsDoc other → (number : ℕ) → other.kind ≡ Sealed number → other.prev ≡ number - 1
other_prev other is number kind =
    placed_prev number other.span other.prev
    (subst (λ k. IsTrue (is_placed k other.span other.prev)) kind is.rules.placed)

-- a link of an archive
pub refused_link : (name : FeedName) (number : ℕ) (updated : ℤ) → IsOpening name (Sealed number) updated
    → (front : List (List ℕ)) (q : List ℕ) (back : List (List ℕ))
    → links_pieces name (Sealed number) (number - 1) ≡ front ++ q ∷ back → (input rest : List ℕ)
    → input ≡ joined front ++ rest → IsAbsent (literal q) rest
    → IsRefused (opening_pieces name (Sealed number) updated) input rest
unfolding literal
refused_link name number updated opening front q back links input rest split none =
    let kind = Sealed number in
    let read = opening_pieces name kind updated in
    let span = archive_span number in
    let d = document_of name kind span (number - 1) updated [] in
    let is_d =
    is_document name kind span (number - 1) updated [] opening (omega (arith, opening.is_kind.1))
    (is_archive_span number opening.is_kind) (no_items span) in
    let rest_of = span_piece span ∷ end_pieces name [] in
    refused d is_d read front q (back ++ rest_of)
    (head-is d
    ∙ ap (λ z. read ++ z) (tail-is name kind span (number - 1) [] ∙ ap (λ z. z ++ rest_of) links
    ∙ append_assoc front (q ∷ back) rest_of) ∙ sym (append_assoc read front (q ∷ (back ++ rest_of))))
    input rest split
    (λ other is p after left e at.
    let b =
    behind_name other is name kind updated opening (front ++ p ∷ left) (e ∙ append_assoc read front (p ∷ left)) in
    let end = span_piece other.span ∷ end_pieces name other.items in
    let f : front ++ q ∷ (back ++ end) ≡ front ++ p ∷ left =
    sym (append_assoc front (q ∷ back) end) ∙ ap (λ z. z ++ end) (sym links)
    ∙ ap (λ n. links_pieces name kind n ++ end) (sym (other_prev other is number b.same_kind))
    ∙ sym (tail-is name kind other.span other.prev other.items) ∙ b.tail in
    let g : q ∷ (back ++ end) ≡ p ∷ left = append_cancel_left front (q ∷ (back ++ end)) (p ∷ left) f in
    let same : p ≡ q = cc in
    none tt after tt tt (at ∙ ap (λ z. z ++ after) same))

-- some span that a document of this kind may have after that archive
abbrev some_span : Kind → ℕ → Span
some_span Subscription zero = record { first = 1; last = 0 }
some_span Subscription (suc prev) = second
some_span (Sealed number) prev = archive_span number

is_some_span : (name : FeedName) (kind : Kind) (prev : ℕ) (rest : List ℕ) → IsKind kind → IsPrev name kind prev rest
    → IsSpanOf kind prev (some_span kind prev)
is_some_span name Subscription zero rest is prev_is = first_span
is_some_span name Subscription (suc prev) rest is prev_is = later_span (suc prev) (omega arith)
is_some_span name (Sealed number) prev rest is prev_is =
    subst (λ p. IsSpanOf (Sealed number) p (archive_span number)) (sym prev_is) (is_archive_span number is)

pub links-first : (name : FeedName) → links_pieces name Subscription 0 ≡ []
unfolding links_pieces current_pieces prev_pieces next_pieces
links-first name = refl

pub links-later : (name : FeedName) (prev : ℕ) → 1 ≤ prev
    → links_pieces name Subscription prev ≡ prev_piece name.base prev ∷ []
unfolding links_pieces current_pieces next_pieces
links-later name prev some = rw (prev_pieces-some name prev some) refl

span_is : (other : DocValue) → IsDoc other → (kind : Kind) (prev : ℕ) → other.kind ≡ kind → other.prev ≡ prev
    → IsSpanOf kind prev other.span
span_is other is kind prev same_kind same_prev =
    subst (λ k. IsSpanOf k prev other.span) same_kind
    (subst (λ n. IsSpanOf other.kind n other.span) same_prev (record {
      bounds = is_span other is;
      placed =
          is.rules.placed;
      few = is.rules.few;
    }))

-- the piece after the links: the span, and in a subscription document a link too
at_span : (name : FeedName) (kind : Kind) (prev : ℕ) (rest after : List ℕ) (p : List ℕ) (left : List (List ℕ))
    (other : DocValue) → IsDoc other → other.kind ≡ kind → prev < 2 ^ 32 → IsPrev name kind prev rest
    → tail_pieces name kind other.span other.prev other.items ≡ links_pieces name kind prev ++ p ∷ left
    → IsAbsent (span_of kind prev) rest → rest ≡ p ++ after → (n : ℕ) → n ≡ other.prev → ⊥
at_span name Subscription zero rest after p left other is kind small prev_is e none at zero same_prev =
    let f : span_piece other.span ∷ end_pieces name other.items ≡ p ∷ left =
    sym (tail-first name other.span other.items)
    ∙ ap (λ n. tail_pieces name Subscription other.span n other.items) same_prev ∙ e
    ∙ ap (λ z. z ++ p ∷ left) (links-first name) in
    let same : p ≡ span_piece other.span = cc in
    none other.span after (span_is other is Subscription 0 kind (sym same_prev)) tt (at ∙ ap (λ z. z ++ after) same)
at_span name Subscription zero rest after p left other is kind small prev_is e none at (suc n) same_prev =
    let f : prev_piece name.base (suc n) ∷ span_piece other.span ∷ end_pieces name other.items ≡ p ∷ left =
    sym (tail-later name other.span (suc n) other.items (omega arith))
    ∙ ap (λ n. tail_pieces name Subscription other.span n other.items) same_prev ∙ e
    ∙ ap (λ z. z ++ p ∷ left) (links-first name) in
    let same : p ≡ prev_piece name.base (suc n) = cc in
    let fits = is.prev in
    prev_is refl (suc n) after (omega arith, omega arith) tt (at ∙ ap (λ z. z ++ after) same)
at_span name Subscription (suc prev) rest after p left other is kind small prev_is e none at zero same_prev =
    let f : span_piece other.span ∷ end_pieces name other.items ≡ prev_piece name.base (suc prev) ∷ p ∷ left =
    sym (tail-first name other.span other.items)
    ∙ ap (λ n. tail_pieces name Subscription other.span n other.items) same_prev ∙ e
    ∙ ap (λ z. z ++ p ∷ left) (links-later name (suc prev) (omega arith)) in
    let same : span_piece other.span ≡ prev_piece name.base (suc prev) = cc in
    (span_prev-apart name.base other.span (suc prev)).2 (ap (λ (x : List ℕ). get_or x 1 0) same)
at_span name Subscription (suc prev) rest after p left other is kind small prev_is e none at (suc n) same_prev =
    let f : prev_piece name.base (suc n) ∷ span_piece other.span ∷ end_pieces name other.items
    ≡ prev_piece name.base (suc prev) ∷ p ∷ left =
    sym (tail-later name other.span (suc n) other.items (omega arith))
    ∙ ap (λ n. tail_pieces name Subscription other.span n other.items) same_prev ∙ e
    ∙ ap (λ z. z ++ p ∷ left) (links-later name (suc prev) (omega arith)) in
    let links : prev_piece name.base (suc n) ≡ prev_piece name.base (suc prev) = cc in
    let fits = is.prev in
    let numbers : suc n ≡ suc prev =
    injective IsArchiveNumber (prev_piece name.base) (prev-one name.base) (suc n) (suc prev)
    (omega arith, omega arith) (omega arith, small) links in
    let same : p ≡ span_piece other.span = cc in
    none other.span after (span_is other is Subscription (suc prev) kind (sym same_prev ∙ numbers)) tt (at
    ∙ ap (λ z. z ++ after) same)
at_span name (Sealed number) prev rest after p left other is kind small prev_is e none at n same_prev =
    let same_prevs : other.prev ≡ prev = other_prev other is number kind ∙ sym prev_is in
    let end = span_piece other.span ∷ end_pieces name other.items in
    let f : links_pieces name (Sealed number) prev ++ end ≡ links_pieces name (Sealed number) prev ++ p ∷ left =
    ap (λ m. links_pieces name (Sealed number) m ++ end) (sym same_prevs)
    ∙ sym (tail-is name (Sealed number) other.span other.prev other.items) ∙ e in
    let g : end ≡ p ∷ left = append_cancel_left (links_pieces name (Sealed number) prev) end (p ∷ left) f in
    let same : p ≡ span_piece other.span = cc in
    none other.span after (span_is other is (Sealed number) prev kind same_prevs) tt (at ∙ ap (λ z. z ++ after) same)

pub refused_span : (name : FeedName) (kind : Kind) (updated : ℤ) (prev : ℕ) → IsOpening name kind updated
    → prev < 2 ^ 32 → (input rest : List ℕ) → input ≡ joined (links_pieces name kind prev) ++ rest
    → IsPrev name kind prev rest → IsAbsent (span_of kind prev) rest
    → IsRefused (opening_pieces name kind updated) input rest
refused_span name kind updated prev opening small input rest split prev_is none =
    let read = opening_pieces name kind updated in
    let links = links_pieces name kind prev in
    let span = some_span kind prev in
    let d = document_of name kind span prev updated [] in
    let is_d =
    is_document name kind span prev updated [] opening small
    (is_some_span name kind prev rest opening.is_kind prev_is) (no_items span) in
    refused d is_d read links (span_piece span) (end_pieces name [])
    (head-is d ∙ ap (λ z. read ++ z) (tail-is name kind span prev [])
    ∙ sym (append_assoc read links (span_piece span ∷ end_pieces name [])))
    input rest split
    (λ other is p after left e at.
    let b =
    behind_name other is name kind updated opening (links ++ p ∷ left) (e ∙ append_assoc read links (p ∷ left)) in
    at_span name kind prev rest after p left other is b.same_kind small prev_is b.tail none at other.prev refl)
