-- A UUID that is read, and how a document's own address is split into a base and a place.
use Rattle.std.proofs.Common.{◌≡◌, ◌≢◌, ℕ, ◌+◌, ◌-◌, ◌<◌, ◌≤◌, true, not, eqb, List, [], ◌∷◌, ◌++◌, length, get_or, take, drop, Some, None, inl, All, refl, sym, ap, subst, ◌∙◌, codes, decimal, append_assoc, arith, length-append, length-drop}
use Rattle.std.proofs.lemmas.Bool.{and_from, and_parts, ne_eqb, not_from_false}
use Rattle.std.proofs.lemmas.List.{take_at, drop_at, take_rest, take-append-drop, drop_more, get_or-drop}
use Rattle.std.proofs.lemmas.List.Elements.{All-head, All-tail, All-from_get_or}
use Rattle.uuid.proofs.RoundTrips.{parses_hyphenated}
use Rattle.uuid.specs.Text.{parsed, lower}
use Rattle.chain_links.specs.Address.{suffix_text, printed}
use Rattle.chain_links.specs.Base.{IsBase}
use Rattle.chain_links.proofs.AddressLemmas.{printed-is}
use Rattle.deleted_entries.specs.FeedId.{IsFeedId, feed_text}
use Rattle.atom_writer.specs.declared.doc.Kind.{Kind}
use Rattle.atom_writer.specs.declared.doc.Kind.TheVariants.{Subscription, Archive as Sealed}
use Rattle.atom_writer.specs.Pieces.{own_address}
use Rattle.atom_grammar.specs.declared.opening.Own.{Own}
use Rattle.atom_grammar.specs.FeedParts.{IsKind, IsOwn, uuid, own_address as own_part}
use Rattle.atom_grammar.specs.Parts.{IsFound, IsAbsent, IsCutAt, BeginsWithByte, lacks}
use Rattle.atom_grammar.proofs.BaseLemmas.{own_text, parts_same}
use Rattle.atom_grammar.proofs.FeedPartLemmas.{uuid_length}
use Rattle.atom_grammar.proofs.NameLemmas.{base_lacks, decimal_lacks}
use Rattle.atom_grammar.proofs.TextLemmas.{cut_same, lacks_append, no_cut, other_byte}
use Rattle.atom_grammar.proofs.UntilLemmas.{Lacks, Lacks-decimal_below, behind_last, feed_text_injective}

-- the identifier that a text is read as
pub id_is : (text id : List ℕ) → IsFeedId id → text ≡ feed_text id → parsed text ≡ Some id
id_is text id is e = ap parsed e ∙ sym (parses_hyphenated lower id (inl refl) is.size is.each)

pub id_same : (text one id : List ℕ) → parsed text ≡ Some one → IsFeedId id → text ≡ feed_text id → one ≡ id
id_same text one id read is e = let h : Some one ≡ Some id = sym read ∙ id_is text id is e in cc

pub uuid_short : (input : List ℕ) → length input < 36 → IsAbsent uuid input
uuid_short input short id left is _ e = omega (arith, ap length e, length-append (feed_text id) left, uuid_length id)

pub uuid_refused : (input text : List ℕ) → text ≡ take 36 input
    → ((id : List ℕ) → IsFeedId id → text ≡ feed_text id → None ≡ Some id) → IsAbsent uuid input
uuid_refused input text cut only id left is _ e =
    let h : None ≡ Some id = only id is (cut ∙ ap (take 36) e ∙ take_at (feed_text id) left 36 (uuid_length id)) in cc

pub uuid_found : (input text rest id : List ℕ) → text ≡ take 36 input → rest ≡ drop 36 input → IsFeedId id
    → text ≡ feed_text id → IsFound uuid input id rest
uuid_found input text rest id front back is e = record {
  lawful = is;
  split = sym (take-append-drop 36 input) ∙ ap (λ x. x ++ drop 36 input) (sym front ∙ e)
      ∙ ap (λ x. feed_text id ++ x) (sym back);
  only = λ other left law _ f.
      let size = uuid_length other in (
        feed_text_injective id other is law (sym e ∙ front ∙ ap (take 36) f ∙ take_at (feed_text other) left 36 size),
        back ∙ ap (drop 36) f ∙ drop_at (feed_text other) left 36 size,
      );
}

pub all_lack : (byte : ℕ) (xs : List ℕ) → All (λ x. x ≢ byte) xs → lacks byte xs ≡ true
all_lack byte [] none = refl
all_lack byte (x ∷ xs) none =
    and_from (not (eqb x byte)) (lacks byte xs)
    (not_from_false (eqb x byte) (ne_eqb x byte (All-head (λ x. x ≢ byte) x xs none)))
    (all_lack byte xs (All-tail (λ x. x ≢ byte) x xs none))

-- a text is split at the last `byte`
pub last_split : (byte : ℕ) (text : List ℕ) (at : ℕ) → at < length text → get_or text at 0 ≡ byte
    → ((k : ℕ) → at + 1 ≤ k → k < length text → get_or text k 0 ≢ byte)
    → (text ≡ take at text ++ byte ∷ take (length text - (at + 1)) (drop (at + 1) text))
    × (lacks byte (take (length text - (at + 1)) (drop (at + 1) text)) ≡ true)
last_split byte text at inside here after =
    let rest = take_rest text (at + 1) in
    let other : ℕ → Type 0 = λ x. x ≢ byte in
    let none : All (λ x. x ≢ byte) (drop (at + 1) text) = All-from_get_or (λ x. x ≢ byte) (drop (at + 1) text) 0
    (λ k below. subst other (sym (get_or-drop (at + 1) text k 0))
    (after (at + 1 + k) (omega arith) (omega (arith, length-drop (at + 1) text)))) in (
      sym (take-append-drop at text)
          ∙ ap (λ l. take at text ++ l) (drop_more text at 0 inside ∙ ap (λ b. b ∷ drop (at + 1) text) here)
          ∙ ap (λ l. take at text ++ byte ∷ l) (sym rest),
      ap (lacks byte) rest
          ∙ all_lack byte (drop (at + 1) text) none,
    )

lacked : (byte : ℕ) (xs : List ℕ) → lacks byte xs ≡ true → Lacks byte xs
lacked byte [] e = tt
lacked byte (x ∷ xs) e = (other_byte byte x xs e, lacked byte xs (and_parts (not (eqb x byte)) (lacks byte xs) e).1)

archive_split : (base : List ℕ) (n : ℕ)
    → base ++ suffix_text (own_address (Sealed n)) ≡ (base ++ codes "archive") ++ 47 ∷ decimal n
archive_split base n = sym (append_assoc base (codes "archive") (47 ∷ decimal n))

-- the kind and the base of an address that ends with `feed`, and of one that ends with the place of an archive
pub feed_is : (text x base : List ℕ) (kind : Kind) → text ≡ x ++ codes "feed" → IsKind kind
    → text ≡ base ++ suffix_text (own_address kind) → (x ≡ base) × (Subscription ≡ kind)
feed_is text x base kind found is e = parts_same x base Subscription kind tt is (sym found ∙ e)

pub archive_found : (text front digits base : List ℕ) (n : ℕ) → text ≡ front ++ 47 ∷ digits
    → front ≡ base ++ codes "archive" → digits ≡ decimal n → text ≡ base ++ suffix_text (own_address (Sealed n))
archive_found text front digits base n split a b =
    split ∙ ap (λ x. x ++ 47 ∷ digits) a ∙ ap (λ x. (base ++ codes "archive") ++ 47 ∷ x) b ∙ sym (archive_split base n)

pub archive_is : (text front digits x base : List ℕ) (n : ℕ) (kind : Kind) → text ≡ front ++ 47 ∷ digits
    → front ≡ x ++ codes "archive" → digits ≡ decimal n → IsKind (Sealed n) → IsKind kind
    → text ≡ base ++ suffix_text (own_address kind) → (x ≡ base) × (Sealed n ≡ kind)
archive_is text front digits x base n kind split a b is_n is e =
    parts_same x base (Sealed n) kind is_n is (sym (archive_found text front digits x n split a b) ∙ e)

-- a text that ends in neither way is no document's own address
pub no_own : (text base : List ℕ) (kind : Kind) → ((front : List ℕ) → text ≢ front ++ codes "feed")
    → ((n : ℕ) → IsKind (Sealed n) → text ≢ (base ++ codes "archive") ++ 47 ∷ decimal n) → IsKind kind
    → text ≡ base ++ suffix_text (own_address kind) → ⊥
no_own text base Subscription feed archive is e = feed base e
no_own text base (Sealed n) feed archive is e = archive n is (e ∙ archive_split base n)

pub no_slash : (text base : List ℕ) (n : ℕ) → lacks 47 text ≡ true → text ≢ (base ++ codes "archive") ++ 47 ∷ decimal n
no_slash text base n none e = no_cut 47 text (base ++ codes "archive") (47 ∷ decimal n) none (decimal n, refl) e

-- the parts of an archive's address
pub archive_parts : (text front digits base : List ℕ) (n : ℕ) → text ≡ front ++ 47 ∷ digits → lacks 47 digits ≡ true
    → IsKind (Sealed n) → text ≡ (base ++ codes "archive") ++ 47 ∷ decimal n
    → (front ≡ base ++ codes "archive") × (digits ≡ decimal n)
archive_parts text front digits base n split free is e =
    behind_last 47 front (base ++ codes "archive") digits (decimal n) (lacked 47 digits free)
    (Lacks-decimal_below 47 n (omega arith) (omega (arith, is.1))) (sym split ∙ e)

kind_lacks : (kind : Kind) → IsKind kind → lacks 34 (suffix_text (own_address kind)) ≡ true
kind_lacks Subscription is = refl
kind_lacks (Sealed n) is = decimal_lacks n (omega (arith, is.1))

own_lacks : (own : Own) → IsOwn own → lacks 34 (printed own.base (own_address own.kind)) ≡ true
own_lacks own is =
    ap (lacks 34) (printed-is own.base (own_address own.kind))
    ∙ lacks_append 34 own.base (suffix_text (own_address own.kind)) (base_lacks own.base is.base)
    (kind_lacks own.kind is.kind)

pub own_nowhere : (input : List ℕ) → lacks 34 input ≡ true → IsAbsent own_part input
own_nowhere input none other left is before e =
    no_cut 34 input (printed other.base (own_address other.kind)) left none before e

-- an address that comes next is the text before the quote
own_cut : (input front rest : List ℕ) → IsCutAt 34 input front rest → (other : Own) (left : List ℕ) → IsOwn other
    → BeginsWithByte 34 left → input ≡ printed other.base (own_address other.kind) ++ left
    → (front ≡ own_text other) × (rest ≡ left)
own_cut input front rest cut other left is before e =
    let p =
    cut_same 34 front (printed other.base (own_address other.kind)) rest left cut.free (own_lacks other is)
    cut.begins before (sym cut.split ∙ e) in
    (p.0 ∙ printed-is other.base (own_address other.kind), p.1)

pub own_unsplit : (input front rest : List ℕ) → IsCutAt 34 input front rest
    → ((base : List ℕ) (kind : Kind) → IsKind kind → front ≡ base ++ suffix_text (own_address kind) → ⊥)
    → IsAbsent own_part input
own_unsplit input front rest cut none other left is before e =
    none other.base other.kind is.kind (own_cut input front rest cut other left is before e).0

pub own_unlike : (input front rest base : List ℕ) (kind : Kind) → IsCutAt 34 input front rest → IsKind kind
    → front ≡ base ++ suffix_text (own_address kind) → ¬ IsBase base → IsAbsent own_part input
own_unlike input front rest base kind cut is_kind split foreign other left is before e =
    let p = own_cut input front rest cut other left is before e in
    foreign
    (subst (λ x. IsBase x) (parts_same other.base base other.kind kind is.kind is_kind (sym p.0 ∙ split)).0
    is.base)

pub own_read : (input front rest base : List ℕ) (kind : Kind) → IsCutAt 34 input front rest → IsBase base
    → IsKind kind → front ≡ base ++ suffix_text (own_address kind)
    → IsFound own_part input (record { base = base; kind = kind }) rest
own_read input front rest base kind cut is_base is_kind split =
    let make : List ℕ → Kind → Own = λ x k. record { base = x; kind = k } in
    record {
      lawful = record { base = is_base; kind = is_kind };
      split = cut.split ∙ ap (λ x. x ++ rest) (split ∙ sym (printed-is base (own_address kind)));
      only = λ other left is before e.
          let p = own_cut input front rest cut other left is before e in
          let parts = parts_same base other.base kind other.kind is_kind is.kind (sym split ∙ p.0) in
          (ap (λ x. make x kind) parts.0 ∙ ap (λ k. make other.base k) parts.1, p.1);
    }
