-- Which piece may come next, by the pieces before it, and how each beginning goes on to a document.
use Rattle.std.proofs.Common.{◌≡◌, ℕ, zero, suc, ◌<◌, List, [], ◌∷◌, ◌++◌, ℤ, replicate, None, refl, sym, ap, ◌∙◌, arith, IsTrue, codes, All, append-nil, append_assoc}
use Rattle.std.proofs.lemmas.List.Elements.{All-nil, All-cons}
use Rattle.chain_links.specs.Base.{IsBase, base_text, is_label_char, is_segment_char, IsWord}
use Rattle.deleted_entries.specs.FeedId.{IsFeedId}
use Rattle.atom_values.specs.XmlText.{IsAtomText}
use Rattle.atom_values.proofs.XmlTextLemmas.{IsXmlText-nil}
use Rattle.atom_writer.proofs.PieceLemmas.{joined-append, joined-none, joined-one}
use Rattle.atom_writer.specs.Reading.{IsReadInOneWay}
use Rattle.atom_writer.specs.declared.doc.FeedName.{FeedName}
use Rattle.atom_writer.specs.declared.doc.Kind.{Kind}
use Rattle.atom_writer.specs.Doc.{DocValue, IsDoc}
use Rattle.atom_writer.specs.Pieces.{pieces, joined, name_pieces, declaration_piece, open_piece, id_piece, updated_piece}
use Rattle.atom_grammar.specs.declared.opening.Own.{Own}
use Rattle.atom_grammar.specs.FeedParts.{own_piece, IsOwn}
use Rattle.atom_grammar.specs.Stages.{IsRefused, IsOpening, opening_pieces}
use Rattle.atom_grammar.proofs.PairLemmas.{pieces-is, tail_pieces, own_of, is_own, same_name}
use Rattle.atom_grammar.proofs.FeedPieceLemmas.{id-one, title-one, author-one, own-one}
use Rattle.atom_grammar.proofs.ValueLemmas.{titled, authored}

pub opening-is : (name : FeedName) (kind : Kind) (updated : ℤ)
    → opening_pieces name kind updated ≡ declaration_piece ∷ open_piece ∷ id_piece name.id ∷ titled name.title ∷
    updated_piece updated ∷ authored name.author ∷ own_piece (record { base = name.base; kind = kind }) ∷ []
unfolding opening_pieces name_pieces titled authored
opening-is name kind updated = refl

pub injective : {A : Type 0} (Is : A → Type 0) (text : A → List ℕ) → IsReadInOneWay Is text → (v w : A) → Is v → Is w
    → text v ≡ text w → v ≡ w
injective Is text one v w is_v is_w e =
    (one (text v) v w [] [] (record { lawful = is_v; split = sym (append-nil (text v)) })
    (record { lawful = is_w; split = e ∙ sym (append-nil (text w)) })).0

-- the pieces of a document after its own address
pub record IsBehindName (name : FeedName) (kind : Kind) (updated : ℤ) (more : List (List ℕ)) (d : DocValue) : Type 0
  where
    pub same_name : d.name ≡ name
    pub same_kind : d.kind ≡ kind
    pub tail : tail_pieces name kind d.span d.prev d.items ≡ more

pub behind_name : (d : DocValue) → IsDoc d → (name : FeedName) (kind : Kind) (updated : ℤ)
    → IsOpening name kind updated → (more : List (List ℕ)) → pieces d ≡ opening_pieces name kind updated ++ more
    → IsBehindName name kind updated more d
behind_name d is name kind updated is_named more e =
    let own : Own = record { base = name.base; kind = kind } in
    let tail_d = tail_pieces d.name d.kind d.span d.prev d.items in
    let f : declaration_piece ∷ open_piece ∷ id_piece d.name.id ∷ titled d.name.title ∷ updated_piece d.updated ∷
    authored d.name.author ∷ own_piece (own_of d) ∷ tail_d
    ≡ declaration_piece ∷ open_piece ∷ id_piece name.id ∷ titled name.title ∷ updated_piece updated ∷ authored
    name.author ∷ own_piece own ∷ more =
    sym (pieces-is d) ∙ e ∙ ap (λ z. z ++ more) (opening-is name kind updated) in
    let ids : id_piece d.name.id ≡ id_piece name.id = cc in
    let titles : titled d.name.title ≡ titled name.title = cc in
    let authors : authored d.name.author ≡ authored name.author = cc in
    let owns : own_piece (own_of d) ≡ own_piece own = cc in
    let tails : tail_d ≡ more = cc in
    let same_own : own_of d ≡ own =
    injective IsOwn own_piece own-one (own_of d) own (is_own d is) (record {
      base = is_named.is_name.base;
      kind =
          is_named.is_kind;
    }) owns in
    let names : d.name ≡ name = same_name d.name name (ap (λ (o : Own). o.base) same_own)
    (injective IsFeedId id_piece id-one d.name.id name.id is.name.id is_named.is_name.id ids)
    (injective IsAtomText titled title-one d.name.title name.title is.name.title is_named.is_name.title titles)
    (injective IsAtomText authored author-one d.name.author name.author is.name.author is_named.is_name.author
    authors) in
    let kinds : d.kind ≡ kind = ap (λ (o : Own). o.kind) same_own in
    record {
      same_name = names;
      same_kind = kinds;
      tail = ap (λ k. tail_pieces name k d.span d.prev d.items) (sym kinds)
          ∙ ap (λ n. tail_pieces n d.kind d.span d.prev d.items) (sym names) ∙ tails;
    }

-- one more piece is read
pub step : (more : List (List ℕ)) (p input rest left : List ℕ) → input ≡ joined more ++ rest → rest ≡ p ++ left
    → input ≡ joined (more ++ p ∷ []) ++ left
step more p input rest left e f =
    e ∙ ap (λ z. joined more ++ z) f ∙ sym (append_assoc (joined more) p left)
    ∙ ap (λ z. (joined more ++ z) ++ left) (sym (joined-one p))
    ∙ ap (λ z. z ++ left) (sym (joined-append more (p ∷ [])))

pub start : (input : List ℕ) → input ≡ joined [] ++ input
start input = ap (λ (z : List ℕ). z ++ input) (sym joined-none)

-- a refusal where a document goes on
pub refused : (d : DocValue) → IsDoc d → (read more : List (List ℕ)) (q : List ℕ) (later : List (List ℕ))
    → pieces d ≡ (read ++ more) ++ q ∷ later → (input rest : List ℕ) → input ≡ joined more ++ rest
    → ((other : DocValue) → IsDoc other → (p after : List ℕ) (left : List (List ℕ))
    → pieces other ≡ (read ++ more) ++ p ∷ left → rest ≡ p ++ after → ⊥) → IsRefused read input rest
refused d is read more q later goes_on input rest split none = record {
  more = more;
  split = split;
  begins = record { value = d; lawful = is; later = q ∷ later; begins = goes_on };
  unfinished = λ e _. absurd cc;
  stuck =
      λ p after begins e. none begins.value begins.lawful p after begins.later (begins.begins
      ∙ append_assoc (read ++ more) (p ∷ []) begins.later) e;
}

-- the names that a feed may have where nothing was read of it
pub example_base : List ℕ
example_base = codes "http://a/"

pub example_id : List ℕ
example_id = 0 ∷ 0 ∷ 0 ∷ 0 ∷ 0 ∷ 0 ∷ 0 ∷ 0 ∷ 0 ∷ 0 ∷ 0 ∷ 0 ∷ 0 ∷ 0 ∷ 0 ∷ 0 ∷ []

pub is_example_base : IsBase example_base
unfolding example_base base_text
is_example_base = record {
  short = omega arith;
  parts = record { labels = codes "a" ∷ []; port = None; segments = [] };
  rules = record {
    labels = (
      λ e. cc,
      All-cons (IsWord is_label_char) (codes "a") []
          (λ e. cc, All-cons (λ c. IsTrue (is_label_char c)) 97 [] refl (All-nil (λ c. IsTrue (is_label_char c))))
          (All-nil (IsWord is_label_char)),
    );
    port = tt;
    segments = All-nil (IsWord is_segment_char);
  };
  spelt = refl;
}

zeros : (n : ℕ) → All (λ b. b < 256) (replicate n 0)
zeros zero = All-nil (λ b. b < 256)
zeros (suc n) = All-cons (λ b. b < 256) 0 (replicate n 0) (omega arith) (zeros n)

pub is_example_id : IsFeedId example_id
unfolding example_id
is_example_id = record { size = refl; each = zeros 16; version = λ e. cc }

pub is_empty : IsAtomText []
is_empty = record { short = omega arith; xml = IsXmlText-nil [] refl }
