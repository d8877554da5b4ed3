-- The pieces that may follow the items of a document, and none may follow its end.
use Rattle.std.proofs.Common.{◌≡◌, ◌≢◌, ◌⊎◌, inl, inr, ⊎_elim, ℕ, zero, suc, false, List, [], ◌∷◌, ◌++◌, ℤ, map, length, nat_eq, get_or, true, refl, sym, ap, ◌∙◌, subst, arith, codes, All, append-nil, append_assoc, length-append}
use Rattle.std.proofs.lemmas.Bool.{cases_Bool}
use Rattle.std.proofs.lemmas.List.{append_cancel_left, map-append, take_at}
use Rattle.std.proofs.lemmas.List.Elements.{All-head, All-tail, All-take}
use Rattle.std.specs.List.{IsDistinct, AllByRecursion}
use Rattle.chain_links.specs.declared.place.Span.{Span}
use Rattle.deleted_entries.specs.Item.{IsItem, item_number}
use Rattle.deleted_entries.specs.declared.item.Item.{Item}
use Rattle.atom_writer.specs.declared.doc.FeedName.{FeedName}
use Rattle.atom_writer.specs.declared.doc.Kind.{Kind}
use Rattle.atom_writer.specs.declared.doc.Kind.TheVariants.{Subscription, Archive as Sealed}
use Rattle.atom_writer.specs.Doc.{DocValue, IsDoc, IsFeedName}
use Rattle.atom_writer.specs.Pieces.{pieces, joined, text, span_piece, item_piece}
use Rattle.atom_writer.proofs.PieceLemmas.{joined-append}
use Rattle.atom_grammar.specs.declared.body.Body.{Body}
use Rattle.atom_grammar.specs.FeedParts.{prev_piece, IsSpanOf, IsSpan}
use Rattle.atom_grammar.specs.Progress.{KeepsBody, IsStuck, body_text, document_of}
use Rattle.atom_grammar.specs.Stages.{IsRefused, IsOpening, AreItems, opening_pieces, links_pieces, head_pieces}
use Rattle.atom_grammar.proofs.BodyLemmas.{IsReading, head_of, items_of, body_text-open, body_text-whole, all_pieces, is_body}
use Rattle.atom_grammar.proofs.PairLemmas.{chain, tail_pieces, end_pieces, tail-first, tail-later, is_span, placed_prev, span_prev-apart, item-second}
use Rattle.atom_grammar.proofs.FeedPieceLemmas.{span-one}
use Rattle.atom_grammar.proofs.ItemLemmas.{item-one}
use Rattle.atom_grammar.proofs.RefusedLemmas.{other_prev, links-first, links-later}
use Rattle.atom_grammar.proofs.StartLemmas.{tail-is}
use Rattle.atom_grammar.proofs.StuckLemmas.{refused, behind_name, injective}

record IsBehindSpan (name : FeedName) (span : Span) (more : List (List ℕ)) (other : DocValue) : Type 0 where
  same_span : other.span ≡ span
  tail : end_pieces name other.items ≡ more

behind_span : (name : FeedName) (other : DocValue) → IsDoc other → (span : Span) → IsSpan span
    → (more : List (List ℕ)) → span_piece other.span ∷ end_pieces name other.items ≡ span_piece span ∷ more
    → IsBehindSpan name span more other
behind_span name other is span bounds more e =
    let spans : span_piece other.span ≡ span_piece span = cc in
    record {
      same_span = injective IsSpan span_piece span-one other.span span (is_span other is) bounds spans;
      tail =
          cc;
    }

behind_links : (name : FeedName) (kind : Kind) (prev : ℕ) (span : Span) → IsSpanOf kind prev span
    → (more : List (List ℕ)) (other : DocValue) → IsDoc other → other.kind ≡ kind
    → tail_pieces name kind other.span other.prev other.items ≡ links_pieces name kind prev ++ span_piece span ∷ more
    → (n : ℕ) → n ≡ other.prev → IsBehindSpan name span more other
behind_links name Subscription zero span is_of more other is kind e zero same_prev =
    let f : span_piece other.span ∷ end_pieces name other.items ≡ span_piece span ∷ more =
    sym (tail-first name other.span other.items)
    ∙ ap (λ n. tail_pieces name Subscription other.span n other.items) same_prev ∙ e
    ∙ ap (λ z. z ++ span_piece span ∷ more) (links-first name) in
    behind_span name other is span is_of.bounds more f
behind_links name Subscription zero span is_of more other is kind e (suc n) same_prev =
    let f : prev_piece name.base (suc n) ∷ span_piece other.span ∷ end_pieces name other.items
    ≡ span_piece span ∷ more =
    sym (tail-later name other.span (suc n) other.items (omega arith))
    ∙ ap (λ n. tail_pieces name Subscription other.span n other.items) same_prev ∙ e
    ∙ ap (λ z. z ++ span_piece span ∷ more) (links-first name) in
    let same : span_piece span ≡ prev_piece name.base (suc n) = cc in
    absurd ((span_prev-apart name.base span (suc n)).2 (ap (λ (x : List ℕ). get_or x 1 0) same))
behind_links name Subscription (suc prev) span is_of more other is kind e zero same_prev =
    let f : span_piece other.span ∷ end_pieces name other.items ≡ prev_piece name.base (suc prev) ∷ span_piece span ∷
    more =
    sym (tail-first name other.span other.items)
    ∙ ap (λ n. tail_pieces name Subscription other.span n other.items) same_prev ∙ e
    ∙ ap (λ z. z ++ span_piece span ∷ more) (links-later name (suc prev) (omega arith)) in
    let same : span_piece other.span ≡ prev_piece name.base (suc prev) = cc in
    absurd ((span_prev-apart name.base other.span (suc prev)).2 (ap (λ (x : List ℕ). get_or x 1 0) same))
behind_links name Subscription (suc prev) span is_of more other is kind e (suc n) same_prev =
    let f : prev_piece name.base (suc n) ∷ span_piece other.span ∷ end_pieces name other.items
    ≡ prev_piece name.base (suc prev) ∷ span_piece span ∷ more =
    sym (tail-later name other.span (suc n) other.items (omega arith))
    ∙ ap (λ n. tail_pieces name Subscription other.span n other.items) same_prev ∙ e
    ∙ ap (λ z. z ++ span_piece span ∷ more) (links-later name (suc prev) (omega arith)) in
    let g : span_piece other.span ∷ end_pieces name other.items ≡ span_piece span ∷ more = cc in
    behind_span name other is span is_of.bounds more g
behind_links name (Sealed number) prev span is_of more other is kind e n same_prev =
    let same_prevs : other.prev ≡ prev =
    other_prev other is number kind ∙ sym (placed_prev number span prev is_of.placed) in
    let end = span_piece other.span ∷ end_pieces name other.items in
    let f : links_pieces name (Sealed number) prev ++ end ≡ links_pieces name (Sealed number) prev
    ++ span_piece span ∷ more =
    ap (λ m. links_pieces name (Sealed number) m ++ end) (sym same_prevs)
    ∙ sym (tail-is name (Sealed number) other.span other.prev other.items) ∙ e in
    behind_span name other is span is_of.bounds more
    (append_cancel_left (links_pieces name (Sealed number) prev) end (span_piece span ∷ more) f)

behind_head : (name : FeedName) (kind : Kind) (updated : ℤ) (prev : ℕ) (span : Span) → IsOpening name kind updated
    → IsSpanOf kind prev span → (more : List (List ℕ)) (other : DocValue) → IsDoc other
    → pieces other ≡ head_pieces name kind updated prev span ++ more → IsBehindSpan name span more other
unfolding head_pieces
behind_head name kind updated prev span opening is_of more other is e =
    let read = opening_pieces name kind updated in
    let links = links_pieces name kind prev in
    let b = behind_name other is name kind updated opening (links ++ span_piece span ∷ more)
    (e ∙ append_assoc (read ++ links) (span_piece span ∷ []) more ∙ append_assoc read links (span_piece span ∷ more)) in
    behind_links name kind prev span is_of more other is b.same_kind b.tail other.prev refl

-- the pieces that may follow these items
record IsOneMore (name : FeedName) (xs items : List Item) (p : List ℕ) : Type 0 where
  item : Item
  more : List Item
  all : xs ≡ items ++ item ∷ more
  piece : p ≡ item_piece name item

items_next : (name : FeedName) → IsFeedName name → (xs items : List Item) → All IsItem xs → All IsItem items
    → (p : List ℕ) (left : List (List ℕ)) → end_pieces name xs ≡ map (item_piece name) items ++ p ∷ left
    → IsOneMore name xs items p ⊎ (p ≡ codes "</feed>\n")
unfolding end_pieces
items_next name is [] [] are_xs are p left e = let same : p ≡ codes "</feed>\n" = cc in inr same
items_next name is (x ∷ xs) [] are_xs are p left e = let same : p ≡ item_piece name x = cc in
    inl (record { item = x; more = xs; all = refl; piece = same })
items_next name is [] (y ∷ ys) are_xs are p left e =
    let same : codes "</feed>\n" ≡ item_piece name y = cc in
    absurd ((item-second name y).1 (sym (ap (λ (x : List ℕ). get_or x 1 0) same)))
items_next name is (x ∷ xs) (y ∷ ys) are_xs are p left e =
    let heads : item_piece name x ≡ item_piece name y = cc in
    let same : x ≡ y =
    injective IsItem (item_piece name) (item-one name is) x y (All-head IsItem x xs are_xs)
    (All-head IsItem y ys are) heads in
    let tails : map (item_piece name) xs ++ codes "</feed>\n" ∷ [] ≡ map (item_piece name) ys ++ p ∷ left = cc in
    ⊎_elim
    (λ o. inl (record {
      item = o.item;
      more = o.more;
      all = ap (λ z. z ∷ xs) same ∙ ap (λ z. y ∷ z) o.all;
      piece =
          o.piece;
    }))
    (λ end. inr end)
    (items_next name is xs ys (All-tail IsItem x xs are_xs) (All-tail IsItem y ys are) p left tails)

each-front : {K : Type 0} (P : K → Type 0) (xs ys : List K) → AllByRecursion P (xs ++ ys) → AllByRecursion P xs
each-front P [] ys h = tt
each-front P (x ∷ xs) ys h = (h.0, each-front P xs ys h.1)

distinct-front : (xs ys : List ℕ) → IsDistinct nat_eq (xs ++ ys) → IsDistinct nat_eq xs
unfolding IsDistinct
distinct-front [] ys h = tt
distinct-front (x ∷ xs) ys h = (each-front (λ y. nat_eq x y ≡ false) xs ys h.0, distinct-front xs ys h.1)

are-front : (span : Span) (xs ys : List Item) → AreItems span (xs ++ ys) → AreItems span xs
are-front span xs ys are = record {
  each = subst (λ z. All IsItem z) (take_at xs ys (length xs) refl) (All-take IsItem (length xs) (xs ++ ys) are.each);
  room = omega (arith, are.room, length-append xs ys);
  distinct =
      distinct-front (map item_number xs) (map item_number ys)
      (subst (λ z. IsDistinct nat_eq z) (map-append item_number xs ys) are.distinct);
}

-- nothing may follow the end
refused_behind_end : (d : DocValue) → IsDoc d → (input rest : List ℕ) → input ≡ joined (pieces d) ++ rest
    → rest ≢ [] → IsRefused [] input rest
refused_behind_end d is input rest split some = record {
  more = pieces d;
  split = split;
  begins = record { value = d; lawful = is; later = []; begins = sym (append-nil (pieces d)) };
  unfinished = λ _ e. some e;
  stuck = λ p after begins at.
      let none : p ∷ begins.later ≡ [] =
      (chain begins.value d begins.lawful is).whole (p ∷ begins.later) (begins.begins
      ∙ append_assoc (pieces d) (p ∷ []) begins.later) in
      absurd cc;
}

refused_open : (body : Body) → KeepsBody body → body.ended ≡ false → (rest : List ℕ) → IsStuck body rest
    → IsRefused [] (body_text body ++ rest) rest
refused_open body keeps going rest stuck =
    let read = head_of body in
    let front = items_of body in
    let items = body.items.items in
    refused (document_of body) (is_body body keeps) [] (read ++ front) (codes "</feed>\n") [] (all_pieces body)
    (body_text body ++ rest) rest
    (ap (λ z. z ++ rest) (body_text-open body going ∙ sym (joined-append read front)))
    (λ other is p after left e at.
    let b =
    behind_head body.name body.kind body.updated body.prev body.span keeps.opening keeps.span (front ++ p ∷ left)
    other is (e ∙ append_assoc read front (p ∷ left)) in
    ⊎_elim
    (λ o.
    let whole : AreItems other.span other.items =
    record { each = is.items; room = is.rules.room; distinct = is.rules.distinct } in
    let all : AreItems body.span ((items ++ o.item ∷ []) ++ o.more) =
    subst (λ z. AreItems body.span z) (o.all ∙ sym (append_assoc items (o.item ∷ []) o.more))
    (subst (λ s. AreItems s other.items) b.same_span whole) in
    stuck.no_more going o.item after (are-front body.span (items ++ o.item ∷ []) o.more all) (at
    ∙ ap (λ z. z ++ after) o.piece))
    (λ end. stuck.no_end going after (at ∙ ap (λ z. z ++ after) end))
    (items_next body.name keeps.opening.is_name other.items items is.items keeps.items.each p left b.tail))

refused_ended : (body : Body) → KeepsBody body → body.ended ≡ true → (rest : List ℕ) → rest ≢ []
    → IsRefused [] (body_text body ++ rest) rest
unfolding text
refused_ended body keeps ended rest some =
    refused_behind_end (document_of body) (is_body body keeps) (body_text body ++ rest) rest
    (ap (λ z. z ++ rest) (body_text-whole body ended)) some

-- neither one more item nor the end is allowed next
pub refused_body : (body : Body) → KeepsBody body → (rest : List ℕ) → IsStuck body rest
    → IsRefused [] (body_text body ++ rest) rest
refused_body body keeps rest stuck =
    ⊎_elim
    (λ ended. refused_ended body keeps ended rest (stuck.unended ended))
    (λ going. refused_open body keeps going rest stuck)
    (cases_Bool body.ended)

-- no piece is allowed behind those that were read
pub refused_from : (start body : Body) (input rest left : List ℕ) → IsReading start input body rest → IsStuck body rest
    → left ≡ rest → IsRefused [] (body_text start ++ input) left
refused_from start body input rest left reading stuck same =
    subst (λ z. IsRefused [] z left) (sym reading.split)
    (subst (λ z. IsRefused [] (body_text body ++ rest) z) (sym same) (refused_body body reading.keeps rest stuck))
