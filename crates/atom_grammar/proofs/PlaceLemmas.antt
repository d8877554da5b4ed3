-- The pieces of items in a text: where they are, and how an entry's is read alone.
use Rattle.std.proofs.Common.{◌≡◌, ◌≢◌, ℕ, ◌+◌, ◌-◌, ◌<◌, ◌≤◌, ◌^◌, ◌==◌, ℤ, List, [], ◌∷◌, ◌++◌, All, map, length, take, drop, get_or, refl, sym, ap, ◌∙◌, subst, arith, append-nil, append_assoc, length-append, codes}
use Rattle.std.proofs.lemmas.Bool.{cond_both, eqb-false, eqb-true}
use Rattle.std.proofs.lemmas.List.{take_at, drop_at, drop-drop, drop_more, drop-take, take-take, take-append-drop, length-take-le}
use Rattle.std.proofs.lemmas.List.Elements.{All-head, All-tail}
use Rattle.atom_values.proofs.WalkLemmas.{take-one_more}
use Rattle.atom_values.specs.Entry.{EntryValue, IsEntry}
use Rattle.chain_links.specs.Base.{IsBase}
use Rattle.chain_links.specs.declared.address.Address.TheVariants.{Archive}
use Rattle.chain_links.specs.declared.place.Span.{Span}
use Rattle.deleted_entries.specs.Item.{item_number}
use Rattle.deleted_entries.specs.declared.item.Item.{Item}
use Rattle.deleted_entries.specs.declared.item.Item.TheVariants.{Kept, Gone}
use Rattle.atom_writer.specs.declared.doc.FeedName.{FeedName}
use Rattle.atom_writer.specs.declared.doc.Kind.{Kind}
use Rattle.atom_writer.specs.declared.doc.Kind.TheVariants.{Subscription, Archive as Sealed}
use Rattle.atom_writer.specs.Doc.{DocValue}
use Rattle.atom_writer.specs.Entries.{inner_text, front_text, back_text, edit_link}
use Rattle.atom_writer.specs.Pieces.{pieces, text, joined, item_piece, entry_piece, tombstone_piece, name_pieces, place_pieces, current_pieces, prev_pieces, next_pieces, link_piece, own_address, span_piece}
use Rattle.atom_writer.proofs.PieceLemmas.{joined-append, joined-none}
use Rattle.atom_grammar.specs.Cutting.{IsWhole, IsCut, IsUnfinished, IsLine}
use Rattle.atom_grammar.specs.Items.{entry}
use Rattle.atom_grammar.specs.Parts.{IsFound, IsAbsent}
use Rattle.atom_grammar.specs.Places.{HasPiece, AreItemOffsets, first_pieces, place_between}
use Rattle.atom_grammar.proofs.CuttingLemmas.{counted-cut, cut_alike, cut_line, unfinished_line}
use Rattle.atom_grammar.proofs.WholeLemmas.{joined-front}

-- of a feed's name an item's piece states the base and the identifier
pub item_piece-same : (one other : FeedName) → one.base ≡ other.base → one.id ≡ other.id → (i : Item)
    → item_piece one i ≡ item_piece other i
unfolding entry_piece tombstone_piece inner_text front_text back_text edit_link
item_piece-same one other base id (Kept e) =
    let piece : List ℕ → List ℕ → List ℕ =
    λ b f. entry_piece (record { base = b; id = f; title = codes ""; author = codes "" }) e in
    ap (λ b. piece b one.id) base ∙ ap (λ f. piece other.base f) id
item_piece-same one other base id (Gone t) =
    let piece : List ℕ → List ℕ =
    λ f. tombstone_piece (record { base = codes ""; id = f; title = codes ""; author = codes "" }) t in
    ap (λ f. piece f) id

-- a reading of the whole input
pub entry_found : (name : FeedName) (input : List ℕ) (found : EntryValue) (rest : List ℕ)
    → IsFound (entry name) input found rest → rest ≡ [] → IsEntry found × (input ≡ entry_piece name found)
unfolding entry
entry_found name input found rest f none =
    (f.lawful, f.split ∙ ap (λ z. entry_piece name found ++ z) none ∙ append-nil (entry_piece name found))

pub entry_only : (name : FeedName) (input : List ℕ) (found : EntryValue) (rest : List ℕ)
    → IsFound (entry name) input found rest → (other : EntryValue) → IsEntry other → input ≡ entry_piece name other
    → (found ≡ other) × (rest ≡ [])
unfolding entry
entry_only name input found rest f other is e = f.only other [] is tt (e ∙ sym (append-nil (entry_piece name other)))

pub entry_none : (name : FeedName) (input : List ℕ) → IsAbsent (entry name) input → (other : EntryValue) → IsEntry other
    → input ≡ entry_piece name other → ⊥
unfolding entry
entry_none name input none other is e = none other [] is tt (e ∙ sym (append-nil (entry_piece name other)))

-- a text that goes on
take_add : (n m : ℕ) (text : List ℕ) → take (n + m) text ≡ take n text ++ take m (drop n text)
take_add n m text =
    sym (take-append-drop n (take (n + m) text))
    ∙ ap (λ z. z ++ drop n (take (n + m) text)) (take-take n (n + m) text (omega arith))
    ∙ ap (λ z. take n text ++ z) (drop-take n m text)

-- one more line, behind which the text has not become whole
pub goes_on : (text : List ℕ) (n m : ℕ) → IsUnfinished (take n text) → IsLine (take m (drop n text))
    → (IsWhole (take (n + m) text) → ⊥) → IsUnfinished (take (n + m) text)
goes_on text n m unfinished line not_whole =
    let more = take_add n m text in
    subst IsUnfinished (sym more)
    (unfinished_line (take n text) (take m (drop n text)) unfinished line
    (λ whole. not_whole (subst IsWhole (sym more) whole)))

-- or has: then the piece that the text begins with ends there
pub ends_here : (text : List ℕ) (n m : ℕ) → IsUnfinished (take n text) → IsLine (take m (drop n text))
    → IsWhole (take (n + m) text) → n + m ≤ length text → (piece rest : List ℕ) → IsCut piece → text ≡ piece ++ rest
    → n + m ≡ length piece
ends_here text n m unfinished line whole within piece rest cut e =
    let more = take_add n m text in
    let here : IsCut (take (n + m) text) =
    subst IsCut (sym more)
    (cut_line (take n text) (take m (drop n text)) unfinished line (subst IsWhole more whole)) in
    let same =
    cut_alike (take (n + m) text) piece (drop (n + m) text) rest here cut (take-append-drop (n + m) text ∙ e) in
    sym (length-take-le (n + m) text within) ∙ ap length same.0

-- the length of the piece that begins at the offset is `n`
abbrev pub IsLengthAt : List ℕ → ℕ → ℕ → Type 0
IsLengthAt text at n = (piece rest : List ℕ) → IsCut piece → drop at text ≡ piece ++ rest → n ≡ length piece

-- behind the piece at an offset
behind_piece : (text : List ℕ) (at n : ℕ) (piece rest : List ℕ) → IsCut piece → IsLengthAt text at n
    → drop at text ≡ piece ++ rest → drop (at + n) text ≡ rest
behind_piece text at n piece rest cut is e =
    sym (drop-drop n at text) ∙ ap (λ z. drop n z) e ∙ drop_at piece rest n (sym (is piece rest cut e))

-- from the offset on, `left` pieces come, and then the rest
pub record HasLeft (text : List ℕ) (at left : ℕ) (rest : List ℕ) : Type 0 where
  pub pieces : List (List ℕ)
  pub cut : All IsCut pieces
  pub count : length pieces ≡ left
  pub split : drop at text ≡ joined pieces ++ rest

less_left : (text : List ℕ) (at left n : ℕ) (rest : List ℕ) (ps : List (List ℕ)) → All IsCut ps → length ps ≡ left
    → drop at text ≡ joined ps ++ rest → 1 ≤ left → IsLengthAt text at n → HasLeft text (at + n) (left - 1) rest
less_left text at left n rest [] cut count e some is = absurd (omega (arith, count))
less_left text at left n rest (p ∷ ps) cut count e some is = record {
  pieces = ps;
  cut = All-tail IsCut p ps cut;
  count = omega (arith, count);
  split = behind_piece text at n p (joined ps ++ rest) (All-head IsCut p ps cut) is (e ∙ joined-front p ps rest);
}

pub one_less : (text : List ℕ) (at left n : ℕ) (rest : List ℕ) → HasLeft text at left rest → 1 ≤ left
    → IsLengthAt text at n → HasLeft text (at + n) (left - 1) rest
one_less text at left n rest has some is = less_left text at left n rest has.pieces has.cut has.count has.split some is

pub none_left : (text : List ℕ) (at left : ℕ) (rest : List ℕ) → HasLeft text at left rest → left ≡ 0
    → drop at text ≡ rest
none_left text at left rest has none = behind has.pieces (has.count ∙ none) has.split
  where
    behind : (ps : List (List ℕ)) → length ps ≡ 0 → drop at text ≡ joined ps ++ rest → drop at text ≡ rest
    behind [] count e = e ∙ ap (λ z. z ++ rest) joined-none
    behind (p ∷ ps) count e = absurd (omega (arith, count))

-- the offsets of the first `count` items, and the text from the next one's piece on, whose offset is the last one
pub record HasPlaced (text : List ℕ) (name : FeedName) (items : List Item) (count : ℕ) (found : List ℕ)
    (at : ℕ) (rest : List ℕ) : Type 0 where
  pub before : List ℕ
  pub last : found ≡ before ++ at ∷ []
  pub offsets : AreItemOffsets text name (take count items) found
  pub left : drop at text ≡ joined (map (item_piece name) (drop count items)) ++ rest

offsets_push : (text : List ℕ) (name : FeedName) (items : List Item) (before : List ℕ) (at next : ℕ) (i : Item)
    → AreItemOffsets text name items (before ++ at ∷ []) → at ≤ next → HasPiece text name i (place_between at next)
    → AreItemOffsets text name (items ++ i ∷ []) ((before ++ at ∷ []) ++ next ∷ [])
offsets_push text name [] [] at next i are rises has = (rises, has, tt)
offsets_push text name [] (b ∷ []) at next i are rises has = absurd are
offsets_push text name [] (b ∷ c ∷ before) at next i are rises has = absurd are
offsets_push text name (x ∷ items) [] at next i are rises has = absurd are
offsets_push text name (x ∷ items) (b ∷ []) at next i are rises has =
    (are.0, are.1, offsets_push text name items [] at next i are.2 rises has)
offsets_push text name (x ∷ items) (b ∷ c ∷ before) at next i are rises has =
    (are.0, are.1, offsets_push text name items (c ∷ before) at next i are.2 rises has)

pub one_placed : (text : List ℕ) (name : FeedName) (items : List Item) (count : ℕ) (found : List ℕ)
    (at n : ℕ) (rest : List ℕ) (i : Item) → IsBase name.base → HasPlaced text name items count found at rest
    → count < length items → i ≡ get_or items count i → 1 ≤ item_number i → item_number i < 2 ^ 32
    → IsLengthAt text at n → at + n ≤ length text
    → HasPlaced text name items (count + 1) (found ++ (at + n) ∷ []) (at + n) rest
one_placed text name items count found at n rest i is_base has below is from_one small measured within =
    let piece = item_piece name i in
    let later = map (item_piece name) (drop (count + 1) items) in
    let cut = counted-cut name is_base i from_one small in
    let next : drop count items ≡ i ∷ drop (count + 1) items =
    drop_more items count i below ∙ ap (λ x. x ∷ drop (count + 1) items) (sym is) in
    let split : drop at text ≡ piece ++ (joined later ++ rest) =
    has.left ∙ ap (λ xs. joined (map (item_piece name) xs) ++ rest) next ∙ joined-front piece later rest in
    let same = measured piece (joined later ++ rest) cut split in
    let behind : n ≡ (at + n) - at = omega arith in
    let here : HasPiece text name i (record { at = at; length = n }) = record {
      within = within;
      piece = ap (λ z. take n z) split ∙ take_at piece (joined later ++ rest) n (sym same);
    } in
    let are = subst (AreItemOffsets text name (take count items)) has.last has.offsets in
    record {
      before = found;
      last = refl;
      offsets =
          subst (λ xs. AreItemOffsets text name xs (found ++ (at + n) ∷ [])) (sym (take-one_more items count i below is))
          (subst (λ ps. AreItemOffsets text name (take count items ++ i ∷ []) (ps ++ (at + n) ∷ [])) (sym has.last)
          (offsets_push text name (take count items) has.before at (at + n) i are (omega arith)
          (subst (λ k. HasPiece text name i (record { at = at; length = k })) behind here)));
      left = behind_piece text at n piece (joined later ++ rest) cut measured split;
    }

-- the text of a document: the pieces before the items, those of the items, and the end
pub text_parts : (d : DocValue) → text d
    ≡ joined (first_pieces d.name d.updated d.kind d.span d.prev)
    ++ (joined (map (item_piece d.name) d.items) ++ joined (codes "</feed>\n" ∷ []))
unfolding text pieces
text_parts d =
    let first = first_pieces d.name d.updated d.kind d.span d.prev in
    let items = map (item_piece d.name) d.items in
    let end : List (List ℕ) = codes "</feed>\n" ∷ [] in
    joined-append (first ++ items) end ∙ ap (λ z. z ++ joined end) (joined-append first items)
    ∙ append_assoc (joined first) (joined items) (joined end)

-- how many pieces come before the items, beside the link to the archive before the document
abbrev pub kind_count : Kind → ℕ
kind_count Subscription = 8
kind_count (Sealed number) = 11

place_count : (name : FeedName) (kind : Kind) (span : Span) (prev : ℕ)
    → length (place_pieces name kind span prev)
    ≡ length (current_pieces name kind) + length (prev_pieces name prev) + length (next_pieces name kind) + 2
unfolding place_pieces
place_count name kind span prev =
    let own = link_piece (codes "self") name (own_address kind) in
    let current = current_pieces name kind in
    let before = prev_pieces name prev in
    let next = next_pieces name kind in
    omega (
      arith,
      length-append (own ∷ current ++ before ++ next) (span_piece span ∷ []),
      length-append (own ∷ current ++ before) next,
      length-append (own ∷ current) before,
    )

link_count : (name : FeedName) (kind : Kind)
    → length (current_pieces name kind) + length (next_pieces name kind) + 8 ≡ kind_count kind
unfolding current_pieces next_pieces
link_count name Subscription = refl
link_count name (Sealed number) = refl

name_count : (name : FeedName) (updated : ℤ) → length (name_pieces name updated) ≡ 6
unfolding name_pieces
name_count name updated = refl

pub length-first_pieces : (name : FeedName) (updated : ℤ) (kind : Kind) (span : Span) (prev : ℕ)
    → length (first_pieces name updated kind span prev) ≡ kind_count kind + length (prev_pieces name prev)
length-first_pieces name updated kind span prev =
    omega (
      arith,
      length-append (name_pieces name updated) (place_pieces name kind span prev),
      name_count name updated,
      place_count name kind span prev,
      link_count name kind,
    )

pub no_prev_pieces : (name : FeedName) (prev : ℕ) → prev ≡ 0 → length (prev_pieces name prev) ≡ 0
unfolding prev_pieces
no_prev_pieces name prev zero =
    cond_both (prev == 0) [] (link_piece (codes "prev-archive") name (Archive prev) ∷ []) (λ ps. length ps ≡ 0)
    (λ _. refl) (λ other. absurd (eqb-false prev 0 other zero))

pub one_prev_piece : (name : FeedName) (prev : ℕ) → prev ≢ 0 → length (prev_pieces name prev) ≡ 1
unfolding prev_pieces
one_prev_piece name prev some =
    cond_both (prev == 0) [] (link_piece (codes "prev-archive") name (Archive prev) ∷ []) (λ ps. length ps ≡ 1)
    (λ zero. absurd (some (eqb-true prev 0 zero))) (λ _. refl)
