-- Attributes in which a text ends, and how they can go on.
use Rattle.std.proofs.Common.{◌≡◌, ◌≢◌, ℕ, zero, suc, true, List, [], ◌∷◌, ◌++◌}
use Rattle.std.proofs.Common.{length, IsTrue, refl, sym, ap, subst, ◌∙◌, inl, inr, ⊎_elim, codes, arith, append_assoc}
use Rattle.std.proofs.Common.{All}
use Rattle.std.specs.Prelude.{Err, flat_map}
use Rattle.std.specs.List.{list_all}
use Rattle.std.proofs.lemmas.Bool.{and_parts, and_from, not_from_false, cases_Bool}
use Rattle.std.proofs.lemmas.List.{append-nil, length-append}
use Rattle.std.proofs.lemmas.List.Elements.{All-head, All-tail}
use Rattle.std.proofs.lemmas.List.Folds.{list_all-append}
use Rattle.atom_values.specs.Ascii.{colon}
use Rattle.atom_values.specs.XmlText.{IsXmlText}
use Rattle.atom_values.specs.Space.{is_space}
use Rattle.xml_tokens.specs.declared.cursor.Lapse.TheVariants.{Cut}
use Rattle.xml_tokens.specs.Characters.{QName, IsQName, IsName, AreSpaces, begins_name, continues_name}
use Rattle.xml_tokens.specs.Characters.{name_text, written_name}
use Rattle.xml_tokens.specs.Tokens.{IsQuote, IsValue, Piece, piece_text, IsPiece}
use Rattle.xml_tokens.specs.Tokens.Piece.{byte, reference}
use Rattle.xml_tokens.specs.Reading.{IsFound, Starts, Reads, whole_qname, equals_sign, one_quote, value_behind}
use Rattle.xml_tokens.specs.Reading.{sign_behind}
use Rattle.xml_tokens.specs.Reading.{first_is_no, CanGrowName, CanEnd}
use Rattle.xml_tokens.proofs.PartLemmas.{splits, nil_front}
use Rattle.xml_tokens.proofs.CursorLemmas.{written, equals_part}
use Rattle.xml_tokens.proofs.AttributeLemmas.{qname_part}
use Rattle.xml_tokens.proofs.PlainLemmas.{Plain, plain_nil, plain_byte, plain_reference, plain_value, value_plain}
use Rattle.xml_tokens.proofs.XmlLemmas.{printable, printable_xml, printable_append, printable_rest}
use Rattle.xml_tokens.proofs.XmlLemmas.{printable_reference}

-- `n` letters
pub letters : ℕ → List ℕ
letters zero = []
letters (suc n) = 97 ∷ letters n

letters_continue : (n : ℕ) → list_all continues_name (letters n) ≡ true
unfolding letters
letters_continue zero = refl
letters_continue (suc n) = letters_continue n

pub letters_printable : (n : ℕ) → list_all printable (letters n) ≡ true
unfolding letters
letters_printable zero = refl
letters_printable (suc n) = letters_printable n

letters_long : (n : ℕ) → length (letters n) ≡ n
unfolding letters
letters_long zero = refl
letters_long (suc n) = ap suc (letters_long n)

grown_name : (name before m : List ℕ) → IsName name → name ≡ before ++ m → (n : ℕ) → IsName (before ++ letters (suc n))
unfolding letters
grown_name name [] m is e n = letters_continue n
grown_name name (b ∷ bs) m is e n =
    let N : List ℕ → Type 0 = IsName in
    let p = and_parts (begins_name b) (list_all continues_name (bs ++ m)) (subst N e is) in
    let all = and_parts (list_all continues_name bs) (list_all continues_name m)
    (sym (list_all-append continues_name bs m) ∙ p.1) in
    and_from (begins_name b) (list_all continues_name (bs ++ letters (suc n))) p.0
    (list_all-append continues_name bs (letters (suc n))
    ∙ and_from (list_all continues_name bs) (list_all continues_name (letters (suc n))) all.0 (letters_continue n))

-- the front of a qualified name, with its prefix whole
behind_prefix : (prefix local : List ℕ) → IsName prefix → IsName local → (before m k : List ℕ) → before ≡ prefix ++ k →
    colon ∷ local ≡ k ++ m → (n : ℕ) → (r : QName) × IsQName r × (before ++ letters (suc n) ≡ name_text r)
behind_prefix prefix local is named before m [] split e n = (
  record { prefix = []; local = before ++ letters (suc n) },
  (inl refl, grown_name prefix before [] is (sym (append-nil prefix) ∙ sym split ∙ sym (append-nil before)) n),
  refl,
)
behind_prefix prefix local is named before m (b ∷ k) split e n =
    let more = letters (suc n) in
    let heads : b ≡ 58 = cc in
    let tails : local ≡ k ++ m = cc in (
      record { prefix = prefix; local = k ++ more },
      (inr is, grown_name local k m named tails n),
      ap (λ xs. xs ++ more) (split ∙ ap (λ x. prefix ++ x ∷ k) heads) ∙ append_assoc prefix (58 ∷ k) more
          ∙ sym (written prefix (k ++ more) is),
    )

-- the front of a qualified name, with letters after it
prefix_qname : (q : QName) → IsQName q → (before m : List ℕ) → name_text q ≡ before ++ m → (n : ℕ) →
    (r : QName) × IsQName r × (before ++ letters (suc n) ≡ name_text r)
prefix_qname q is before m e n =
    let more = letters (suc n) in
    let W : List ℕ → Type 0 = λ p. written_name p q.local ≡ before ++ m in
    ⊎_elim
    (λ none. (
      record { prefix = []; local = before ++ more },
      (inl refl, grown_name q.local before m is.1 (subst W none e) n),
      refl,
    ))
    (λ name.
    let whole : q.prefix ++ colon ∷ q.local ≡ before ++ m = sym (written q.prefix q.local name) ∙ e in
    ⊎_elim
    (λ longer. behind_prefix q.prefix q.local name is.1 before m longer.0 longer.1 longer.2 n)
    (λ shorter. (
      record { prefix = []; local = before ++ more },
      (inl refl, grown_name q.prefix before shorter.0 name shorter.1 n),
      refl,
    ))
    (splits q.prefix (colon ∷ q.local) before m whole))
    is.0

name_grows : (text m : List ℕ) (q : QName) → IsQName q → name_text q ≡ text ++ m → CanGrowName text
name_grows text m q is e = λ n.
    let r = prefix_qname q is text m e n in
    let more = letters (suc n) in
    let name = text ++ more in
    let long = letters_long (suc n) in (
      name,
      omega (arith, length-append text more),
      more ++ codes "=\"\"",
      printable_xml (more ++ codes "=\"\"") (printable_append more (codes "=\"\"") (letters_printable (suc n)) refl),
      (
        name,
        name,
        codes "=\"\"",
        sym (append_assoc text more (codes "=\"\"")),
        (r.0, refl, r.2, r.1, refl, (λ _. refl)),
        (
          tt,
          codes "=",
          codes "\"\"",
          refl,
          ([], [], refl, refl, refl, refl),
          (
            34,
            codes "\"",
            codes "\"",
            refl,
            (inl refl, refl),
            ([], refl, (plain_value 34 (inl refl) [] (plain_nil 34), refl)),
          ),
        ),
      ),
    )

-- the name in which the text ends can go on
cut_name : {X : Type 0} (text end : List ℕ) → Reads whole_qname text (Err Cut) end →
    ((m : List ℕ) (q : QName) → IsQName q → name_text q ≡ text ++ m → X) → X
cut_name text end cut x =
    let more = cut.1.0 in
    let v = cut.1.1.0 in
    let rest = cut.1.1.1 in
    let f = cut.1.1.2 in
    ⊎_elim
    (λ longer. x longer.0 f.spelled.0 f.spelled.3 (sym f.spelled.2 ∙ sym f.spelled.1 ∙ longer.1))
    (λ shorter.
    let N : List ℕ → Type 0 = λ xs. whole_qname v f.front xs in
    absurd (cut.0 (
      v,
      shorter.0,
      record {
        front = f.front;
        split = shorter.1;
        spelled = qname_part.shrinks v f.front shorter.0 more (subst N shorter.2 f.spelled);
      },
    )))
    (splits text more f.front rest f.split)

-- the text ends within the name
pub name_cut : (text end : List ℕ) → Reads whole_qname text (Err Cut) end → CanGrowName text
name_cut text end cut = cut_name text end cut (name_grows text)

pub name_goes : (text end : List ℕ) → Reads whole_qname text (Err Cut) end → (n : ℕ) →
    (r : QName) × IsQName r × (text ++ letters (suc n) ≡ name_text r)
name_goes text end cut n = cut_name text end cut (λ m q is e. prefix_qname q is text m e n)

-- the text ends after the name
pub name_last : (text name named : List ℕ) → IsFound whole_qname text name named → named ≡ [] → CanGrowName text
name_last text name named f over =
    name_grows text [] f.spelled.0 f.spelled.3
    (sym f.spelled.2 ∙ sym f.spelled.1 ∙ sym (append-nil f.front) ∙ ap (λ xs. f.front ++ xs) (sym over) ∙ sym f.split
    ∙ sym (append-nil text))

-- after a name that is whole
can_end : (text name named : List ℕ) → IsFound whole_qname text name named → named ≢ [] → (value more : List ℕ) →
    IsXmlText more → sign_behind name (name, value) (named ++ more) [] → CanEnd name text
can_end text name named f some value more xml sign =
    let N : List ℕ → Type 0 = λ xs. whole_qname name f.front xs in (
      named,
      f,
      some,
      value,
      more,
      xml,
      (
        name,
        f.front,
        named ++ more,
        ap (λ xs. xs ++ more) f.split ∙ append_assoc f.front named more,
        subst N (sym (append-nil (named ++ more))) (qname_part.grows name f.front named more some f.spelled),
        sign,
      ),
    )

-- all white space at the front
longest : (text : List ℕ) → (s t : List ℕ) × (text ≡ s ++ t) × AreSpaces s × IsTrue (first_is_no is_space t)
longest [] = ([], [], refl, refl, refl)
longest (b ∷ text) =
    ⊎_elim
    (λ space.
    let r = longest text in
    (b ∷ r.0, r.1, ap (λ xs. b ∷ xs) r.2, and_from (is_space b) (list_all is_space r.0) space r.3, r.4))
    (λ other. ([], b ∷ text, refl, refl, not_from_false (is_space b) other))
    (cases_Bool (is_space b))

spaces_front : (s t : List ℕ) → AreSpaces (s ++ t) → AreSpaces s
spaces_front s t are =
    (and_parts (list_all is_space s) (list_all is_space t) (sym (list_all-append is_space s t) ∙ are)).0

-- `=` in the text is read
sign_there : (text more end before behind k : List ℕ) → AreSpaces before → ¬ Starts equals_sign text →
    text ≡ before ++ k → 61 ∷ behind ≡ k ++ more → AreSpaces text
sign_there text more end before behind [] are none split e =
    let A : List ℕ → Type 0 = AreSpaces in
    subst A (sym (split ∙ append-nil before)) are
sign_there text more end before behind (b ∷ k) are none split e =
    let heads : b ≡ 61 = cc in
    let r = longest k in
    absurd (none (
      tt,
      r.1,
      record {
        front = before ++ codes "=" ++ r.0;
        split = split ∙ (λ i. before ++ heads i ∷ r.2 i) ∙ simp append_assoc;
        spelled = (before, r.0, are, r.3, refl, r.4);
      },
    ))

-- the text ends before `=`
sign_spaces : (text end : List ℕ) → Reads equals_sign text (Err Cut) end → AreSpaces text
sign_spaces text end cut =
    let more = cut.1.0 in
    let rest = cut.1.1.1 in
    let f = cut.1.1.2 in
    let e = f.spelled in
    let whole : text ++ more ≡ e.0 ++ (61 ∷ (e.1 ++ rest)) =
    f.split ∙ ap (λ xs. xs ++ rest) e.4 ∙ simp append_assoc in
    ⊎_elim
    (λ longer.
    let A : List ℕ → Type 0 = AreSpaces in
    spaces_front text longer.0 (subst A longer.1 e.2))
    (λ shorter. sign_there text more end e.0 (e.1 ++ rest) shorter.0 e.2 cut.0 shorter.1 shorter.2)
    (splits text more e.0 (61 ∷ (e.1 ++ rest)) whole)

no_sign : (name named : List ℕ) → AreSpaces named → sign_behind name (name, []) (named ++ codes "=\"\"") []
no_sign name named are = (
  tt,
  named ++ codes "=",
  codes "\"\"",
  sym (append_assoc named (codes "=") (codes "\"\"")),
  (named, [], are, refl, sym (append-nil (named ++ codes "=")), refl),
  (34, codes "\"", codes "\"", refl, (inl refl, refl), ([], refl, (plain_value 34 (inl refl) [] (plain_nil 34), refl))),
)

pub sign_cut : (text name named end : List ℕ) → IsFound whole_qname text name named → named ≢ [] →
    Reads equals_sign named (Err Cut) end → CanEnd name text
sign_cut text name named end f some cut =
    can_end text name named f some [] (codes "=\"\"") (printable_xml (codes "=\"\"") refl)
    (no_sign name named (sign_spaces named end cut))

quote_nil : (text end : List ℕ) → Reads one_quote text (Err Cut) end → text ≡ []
quote_nil [] end cut = refl
quote_nil (b ∷ text) end cut =
    let f = cut.1.1.2 in
    let same : b ∷ (text ++ cut.1.0) ≡ cut.1.1.0 ∷ cut.1.1.1 = f.split ∙ ap (λ xs. xs ++ cut.1.1.1) f.spelled.1 in
    let heads : cut.1.1.0 ≡ b = cc in
    let Q : ℕ → Type 0 = IsQuote in
    absurd (cut.0 (b, text, record { front = b ∷ []; split = refl; spelled = (subst Q heads f.spelled.0, refl) }))

pub quote_cut : (text name named signed end : List ℕ) → IsFound whole_qname text name named → named ≢ [] →
    IsFound equals_sign named tt signed → Reads one_quote signed (Err Cut) end → CanEnd name text
quote_cut text name named signed end f some sign cut =
    let none = quote_nil signed end cut in
    let e = sign.spelled in
    can_end text name named f some [] (codes "\"\"") (printable_xml (codes "\"\"") refl) (
      tt,
      sign.front,
      codes "\"\"",
      ap (λ xs. xs ++ codes "\"\"") (sign.split ∙ ap (λ xs. sign.front ++ xs) none ∙ append-nil sign.front),
      (e.0, e.1, e.2, e.3, e.4, refl),
      (
        34,
        codes "\"",
        codes "\"",
        refl,
        (inl refl, refl),
        ([], refl, (plain_value 34 (inl refl) [] (plain_nil 34), refl)),
      ),
    )

-- the front of a value, finished
plain_cut : (q : ℕ) (ps : List Piece) → All (IsPiece q) ps → (text m : List ℕ) → flat_map piece_text ps ≡ text ++ m →
    (tail : List ℕ) × (list_all printable tail ≡ true) × Plain q (text ++ tail)
plain_cut q ps each [] m e = ([], refl, plain_nil q)
plain_cut q [] each (b ∷ text) m e = absurd (let g : [] ≡ b ∷ (text ++ m) = e in cc)
plain_cut q (byte d ∷ ps) each (b ∷ text) m e =
    let g : d ∷ flat_map piece_text ps ≡ b ∷ (text ++ m) = e in
    let heads : d ≡ b = cc in
    let tails : flat_map piece_text ps ≡ text ++ m = cc in
    let P : ℕ → Type 0 = λ k. IsPiece q (byte k) in
    let r = plain_cut q ps (All-tail (IsPiece q) (byte d) ps each) text m tails in
    (r.0, r.1, plain_byte q b (text ++ r.0) (subst P heads (All-head (IsPiece q) (byte d) ps each)) r.2)
plain_cut q (reference c t ∷ ps) each (b ∷ text) m e =
    let is = All-head (IsPiece q) (reference c t) ps each in
    let N : List ℕ → Type 0 = Plain q in
    let R : List ℕ → Type 0 = λ xs. list_all printable xs ≡ true in
    ⊎_elim
    (λ longer.
    let r = plain_cut q ps (All-tail (IsPiece q) (reference c t) ps each) longer.0 m longer.2 in (
      r.0,
      r.1,
      subst N (sym (append_assoc t longer.0 r.0) ∙ ap (λ xs. xs ++ r.0) (sym longer.1))
          (plain_reference q c t (longer.0 ++ r.0) is r.2),
    ))
    (λ shorter. (
      shorter.0,
      printable_rest (b ∷ text) shorter.0 (subst R shorter.1 (printable_reference c t is)),
      subst N (append-nil t ∙ shorter.1) (plain_reference q c t [] is (plain_nil q)),
    ))
    (splits t (flat_map piece_text ps) (b ∷ text) m e)

quote_printable : (q : ℕ) → IsQuote q → list_all printable (q ∷ []) ≡ true
quote_printable q is =
    let N : ℕ → Type 0 = λ k. list_all printable (k ∷ []) ≡ true in
    ⊎_elim (λ e. subst N (sym e) refl) (λ e. subst N (sym e) refl) is

-- a whole value, or one that lacks its quote
whole_value : {X : Type 0} (q : ℕ) → IsQuote q → (text v more rest m k : List ℕ) → ¬ Starts (value_behind q) text →
    ((value : List ℕ) × IsValue q value v) → text ≡ v ++ k → q ∷ [] ≡ k ++ m → (v ≡ text ++ [] → X) → X
whole_value q is text v more rest m [] none value split e x =
    x (sym (append-nil v) ∙ sym split ∙ sym (append-nil text))
whole_value q is text v more rest m (b ∷ k) none value split e x =
    let heads : b ≡ q = cc in
    let g : q ∷ [] ≡ b ∷ (k ++ m) = e in
    let tails : [] ≡ k ++ m = cc in
    let over : k ≡ [] = nil_front k m (sym tails) in
    absurd (none (
      v,
      [],
      record {
        front = v ++ q ∷ [];
        split = split ∙ (λ i. v ++ heads i ∷ over i) ∙ sym (append-nil (v ++ q ∷ []));
        spelled = (value, refl);
      },
    ))

value_cut : (q : ℕ) → IsQuote q → (text end : List ℕ) → Reads (value_behind q) text (Err Cut) end →
    (w : List ℕ) × (more : List ℕ) × IsXmlText more × value_behind q w (text ++ more) []
value_cut q is text end cut =
    let more = cut.1.0 in
    let v = cut.1.1.0 in
    let rest = cut.1.1.1 in
    let f = cut.1.1.2 in
    let p = value_plain q is v f.spelled.0.0 f.spelled.0.1 in
    let ended : (m : List ℕ) → v ≡ text ++ m →
    (w : List ℕ) × (more : List ℕ) × IsXmlText more × value_behind q w (text ++ more) [] = λ m e.
    let r = plain_cut q p.pieces p.each text m (sym p.spelled ∙ e) in (
      text ++ r.0,
      r.0 ++ q ∷ [],
      printable_xml (r.0 ++ q ∷ []) (printable_append r.0 (q ∷ []) r.1 (quote_printable q is)),
      (plain_value q is (text ++ r.0) r.2, sym (append_assoc text r.0 (q ∷ []))),
    ) in
    ⊎_elim
    (λ longer. ⊎_elim
    (λ inner. ended inner.0 inner.1)
    (λ inner. whole_value q is text v more rest longer.0 inner.0 cut.0 f.spelled.0 inner.1 inner.2 (ended []))
    (splits text longer.0 v (q ∷ []) (sym longer.1 ∙ f.spelled.1)))
    (λ shorter. absurd (cut.0 (v, shorter.0, record { front = f.front; split = shorter.1; spelled = f.spelled })))
    (splits text more f.front rest f.split)

pub value_ends : (text name named signed quoted end : List ℕ) (q : ℕ) → IsFound whole_qname text name named
    → named ≢ [] →
    IsFound equals_sign named tt signed → IsFound one_quote signed q quoted →
    Reads (value_behind q) quoted (Err Cut) end → CanEnd name text
value_ends text name named signed quoted end q f some sign quote cut =
    let v = value_cut q quote.spelled.0 quoted end cut in
    let more = v.1 in
    let start : signed ≡ q ∷ quoted = quote.split ∙ ap (λ xs. xs ++ quoted) quote.spelled.1 in
    let some_signed : signed ≢ [] = λ e. let g : q ∷ quoted ≡ [] = sym start ∙ e in cc in
    let N : List ℕ → Type 0 = λ xs. equals_sign tt sign.front xs in
    can_end text name named f some v.0 more v.2 (
      tt,
      sign.front,
      signed ++ more,
      ap (λ xs. xs ++ more) sign.split ∙ append_assoc sign.front signed more,
      subst N (sym (append-nil (signed ++ more)))
          (equals_part.grows tt sign.front signed more some_signed sign.spelled),
      (q, q ∷ [], quoted ++ more, ap (λ xs. xs ++ more) start, (quote.spelled.0, refl), (v.0, refl, v.3)),
    )
