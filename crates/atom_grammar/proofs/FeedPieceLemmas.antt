-- Each piece before the items is read in one way.
use Rattle.std.proofs.Common.{◌≡◌, ℕ, ◌<◌, ◌^◌, List, ◌∷◌, ◌++◌, false, sym, ap, ◌∙◌, arith, codes, append_assoc, decimal}
use Rattle.std.proofs.lemmas.List.{append_cancel_left}
use Rattle.std.proofs.lemmas.Fmt.{decimal_injective}
use Rattle.atom_values.specs.Escape.{escaped}
use Rattle.atom_values.specs.Stamp.{IsStamp, printed}
use Rattle.atom_values.specs.XmlText.{IsAtomText}
use Rattle.deleted_entries.specs.FeedId.{IsFeedId, feed_text}
use Rattle.chain_links.specs.Address as address
use Rattle.chain_links.specs.declared.place.Span.{Span}
use Rattle.atom_writer.specs.Pieces.{id_piece, updated_piece, span_piece, link_piece, own_address}
use Rattle.atom_writer.specs.Reading.{IsReadInOneWay}
use Rattle.atom_grammar.specs.declared.opening.Own.{Own}
use Rattle.atom_grammar.specs.FeedParts.{own_piece, IsOwn, prev_piece, IsArchiveNumber, IsSpan}
use Rattle.atom_grammar.proofs.ValueLemmas.{titled, authored}
use Rattle.atom_grammar.proofs.BaseLemmas.{own_text, own_same, Lacks-base, Lacks-place}
use Rattle.atom_grammar.proofs.MomentLemmas.{printed_injective}
use Rattle.atom_grammar.proofs.UntilLemmas.{Lacks, until, Lacks-escaped, Lacks-printed, Lacks-feed_text, Lacks-append, Lacks-decimal_below, escaped_injective, feed_text_injective}

-- a value between fixed texts, where the text of none has the byte after it
between : {A : Type 0} (Is : A → Type 0) (text : A → List ℕ) (front back : List ℕ) (c : ℕ)
    → ((v : A) → Is v → Lacks c (text v)) → ((v w : A) → Is v → Is w → text v ≡ text w → v ≡ w)
    → (v w : A) (x y : List ℕ) → Is v → Is w
    → (front ++ text v) ++ (c ∷ back) ++ x ≡ (front ++ text w) ++ (c ∷ back) ++ y → (v ≡ w) × (x ≡ y)
between Is text front back c lacks injective v w x y is_v is_w e =
    let inner : text v ++ c ∷ (back ++ x) ≡ text w ++ c ∷ (back ++ y) =
    append_cancel_left front (text v ++ c ∷ (back ++ x)) (text w ++ c ∷ (back ++ y))
    (sym (append_assoc front (text v) (c ∷ (back ++ x))) ∙ sym (append_assoc (front ++ text v) (c ∷ back) x) ∙ e
    ∙ append_assoc (front ++ text w) (c ∷ back) y ∙ append_assoc front (text w) (c ∷ (back ++ y))) in
    let parts = until c (text v) (text w) (back ++ x) (back ++ y) (lacks v is_v) (lacks w is_w) inner in
    (injective v w is_v is_w parts.0, append_cancel_left back x y parts.1)

pub id-one : IsReadInOneWay IsFeedId id_piece
unfolding id_piece
id-one input v w x y a b =
    between IsFeedId feed_text (codes "<id>urn:uuid:") (codes "/id>\n") 60 Lacks-feed_text feed_text_injective v w x y
    a.lawful b.lawful (sym a.split ∙ b.split)

pub title-one : IsReadInOneWay IsAtomText titled
unfolding titled
title-one input v w x y a b =
    between IsAtomText (escaped false) (codes "<title>") (codes "/title>\n") 60 (λ t _. Lacks-escaped t)
    escaped_injective v w x y a.lawful b.lawful (sym a.split ∙ b.split)

pub updated-one : IsReadInOneWay IsStamp updated_piece
unfolding updated_piece
updated-one input v w x y a b =
    between IsStamp printed (codes "<updated>") (codes "/updated>\n") 60 (λ z _. Lacks-printed z) printed_injective v
    w x y a.lawful b.lawful (sym a.split ∙ b.split)

pub author-one : IsReadInOneWay IsAtomText authored
unfolding authored
author-one input v w x y a b =
    between IsAtomText (escaped false) (codes "<author><name>") (codes "/name></author>\n") 60
    (λ t _. Lacks-escaped t) escaped_injective v w x y a.lawful b.lawful (sym a.split ∙ b.split)

archive_front : List ℕ → List ℕ
archive_front base = codes "<link rel=\"prev-archive\" href=\"" ++ base ++ codes "archive/"

prev_piece-is : (base : List ℕ) (n : ℕ) → prev_piece base n ≡ (archive_front base ++ decimal n) ++ codes "\"/>\n"
unfolding prev_piece link_piece archive_front address.printed
prev_piece-is base n = simp append_assoc

pub prev-one : (base : List ℕ) → IsReadInOneWay IsArchiveNumber (prev_piece base)
prev-one base input v w x y a b =
    between IsArchiveNumber decimal (archive_front base) (codes "/>\n") 34
    (λ n is. Lacks-decimal_below 34 n (omega arith) is.1)
    (λ m n is_m is_n e. decimal_injective m n (omega (arith, is_m.1)) (omega (arith, is_n.1)) e) v w x y a.lawful
    b.lawful
    (ap (λ z. z ++ x) (sym (prev_piece-is base v)) ∙ sym a.split ∙ b.split ∙ ap (λ z. z ++ y) (prev_piece-is base w))

span_after : (span : Span) (x : List ℕ)
    → span_piece span ++ x
    ≡ codes
    "<sp:span first=\"" ++ (decimal span.first ++ 34 ∷ (codes " last=\""
    ++ (decimal span.last ++ 34 ∷ (codes "/>\n" ++ x))))
unfolding span_piece
span_after span x = simp append_assoc

pub span-one : IsReadInOneWay IsSpan span_piece
span-one input v w x y a b =
    let e = sym (span_after v x) ∙ sym a.split ∙ b.split ∙ span_after w y in
    let lacks = λ (n : ℕ) (small : n < 2 ^ 32). Lacks-decimal_below 34 n (omega arith) small in
    let first =
    until 34 (decimal v.first) (decimal w.first)
    (codes " last=\"" ++ (decimal v.last ++ 34 ∷ (codes "/>\n" ++ x))) (codes " last=\""
    ++ (decimal w.last ++ 34 ∷ (codes "/>\n" ++ y)))
    (lacks v.first a.lawful.first) (lacks w.first b.lawful.first)
    (append_cancel_left
    (codes
    "<sp:span first=\"") (decimal v.first ++ 34 ∷ (codes " last=\""
    ++ (decimal v.last ++ 34 ∷ (codes "/>\n" ++ x))))
    (decimal w.first ++ 34 ∷ (codes " last=\"" ++ (decimal w.last ++ 34 ∷ (codes "/>\n" ++ y)))) e) in
    let last = until 34 (decimal v.last) (decimal w.last) (codes "/>\n" ++ x) (codes "/>\n" ++ y)
    (lacks v.last a.lawful.last) (lacks w.last b.lawful.last)
    (append_cancel_left
    (codes
    " last=\"") (decimal v.last ++ 34 ∷ (codes "/>\n" ++ x)) (decimal w.last ++ 34 ∷ (codes "/>\n" ++ y)) first.1) in
    let firsts : v.first ≡ w.first =
    decimal_injective v.first w.first (omega (arith, a.lawful.first)) (omega (arith, b.lawful.first)) first.0 in
    let lasts : v.last ≡ w.last =
    decimal_injective v.last w.last (omega (arith, a.lawful.last)) (omega (arith, b.lawful.last)) last.0 in
    let make : ℕ → ℕ → Span = λ m n. record { first = m; last = n } in
    (ap (λ z. make z v.last) firsts ∙ ap (λ z. make w.first z) lasts, append_cancel_left (codes "/>\n") x y last.1)

own_after : (own : Own) (x : List ℕ)
    → own_piece own ++ x ≡ codes "<link rel=\"self\" href=\"" ++ (own_text own ++ 34 ∷ (codes "/>\n" ++ x))
unfolding own_piece link_piece address.printed
own_after own x = simp append_assoc

pub own-one : IsReadInOneWay IsOwn own_piece
own-one input v w x y a b =
    let e = sym (own_after v x) ∙ sym a.split ∙ b.split ∙ own_after w y in
    let lacks =
    λ (own : Own) (is : IsOwn own). Lacks-append 34 own.base (address.suffix_text (own_address own.kind))
    (Lacks-base own.base is.base) (Lacks-place own.kind is.kind) in
    let parts =
    until 34 (own_text v) (own_text w) (codes "/>\n" ++ x) (codes "/>\n" ++ y) (lacks v a.lawful)
    (lacks w b.lawful)
    (append_cancel_left
    (codes
    "<link rel=\"self\" href=\"") (own_text v ++ 34 ∷ (codes "/>\n" ++ x)) (own_text w ++ 34 ∷ (codes "/>\n" ++ y)) e)
    in
    (own_same v w a.lawful b.lawful parts.0, append_cancel_left (codes "/>\n") x y parts.1)
