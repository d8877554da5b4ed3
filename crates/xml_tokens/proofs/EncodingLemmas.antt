-- The encoding in a declaration, and what is after it.
use Rattle.std.proofs.Common.{◌≡◌, ◌≢◌, ℕ, Bool, true, false, not, ◌||◌, ◌==◌, List, [], ◌∷◌, ◌++◌, length}
use Rattle.std.proofs.Common.{IsTrue, Some, refl, sym, ap, subst, ◌∙◌, inl, inr, ⊎_elim, codes, arith, append_assoc}
use Rattle.std.proofs.Common.{nat_lt, eqb-true, drop}
use Rattle.std.specs.Prelude.{Result, Err}
use Rattle.std.specs.List.{list_all}
use Rattle.std.specs.Int.{is_in_range}
use Rattle.std.specs.Char.{is_ascii_alphabetic, is_ascii_alphanumeric}
use Rattle.std.proofs.lemmas.Bool.{and_parts, and_from, both_ways, not-true, not_from_false, cases_Bool, lt-ltb, eq-eqb}
use Rattle.std.proofs.lemmas.List.{append-nil}
use Rattle.atom_values.specs.Ascii.{minus, point, underscore}
use Rattle.atom_values.specs.Space.{is_space}
use Rattle.xml_tokens.specs.declared.cursor.Lapse.{Lapse}
use Rattle.xml_tokens.specs.declared.cursor.Lapse.TheVariants.{Broken, Cut, NoMemory}
use Rattle.xml_tokens.specs.declared.declaration.Encoding.{Encoding}
use Rattle.xml_tokens.specs.declared.declaration.Encoding.TheVariants.{Utf8, Foreign}
use Rattle.xml_tokens.specs.Characters.{IsGap, begins}
use Rattle.xml_tokens.specs.Tokens.{IsQuote, is_encoding_name, is_utf8_name}
use Rattle.xml_tokens.specs.Reading.{seq, exactly, equals_sign, one_quote, first_is_no, a_gap, any_spaces}
use Rattle.xml_tokens.specs.Reading.{IsSpaceRead}
use Rattle.xml_tokens.specs.Reading.{IsFound, Starts, Continues, Reads, StartsAs, ContinuesAs, ReadsEncoding}
use Rattle.xml_tokens.specs.Reading.{encoding_name, an_encoding, behind_encoding, behind_version, declaration_end}
use Rattle.xml_tokens.specs.Reading.{is_utf8}
use Rattle.xml_tokens.specs.Reading.{lapse_of}
use Rattle.xml_tokens.proofs.BeginLemmas.{begins_from, begins_split}
use Rattle.xml_tokens.proofs.PartLemmas.{IsPart, Joins, joins_leads, joins_fails, found_whole, seq_part}
use Rattle.xml_tokens.proofs.RunLemmas.{run_unique, first_grows, first_shrinks}
use Rattle.xml_tokens.proofs.DeclarationLemmas.{exactly_joins, equals_joins, quote_joins, no_space}
use Rattle.xml_tokens.proofs.EncodingReadLemmas.{leads_encoding, chosen_encoding}

-- no white space begins the text
pub no_gap : (text more s rest : List ℕ) → text ≢ [] → IsTrue (first_is_no is_space text) → text ++ more ≡ s ++ rest →
    IsGap s → ⊥
no_gap [] more s rest some first e is = some refl
no_gap (b ∷ text) more [] rest some first e is = is.1 refl
no_gap (b ∷ text) more (a ∷ s) rest some first e is =
    let heads : a ≡ b = cc in
    both_ways (is_space b) (not-true (is_space b) first)
    (ap is_space (sym heads) ∙ (and_parts (is_space a) (list_all is_space s) is.0).0)

pub gap_part : IsPart a_gap
gap_part = record {
  unique = λ a b s x t y is_s is_t e. (refl, run_unique is_space s x t y is_s.0.0 is_s.1 is_t.0.0 is_t.1 e);
  grows = λ a s x more some is. (is.0, first_grows is_space x more some is.1);
  shrinks = λ a s x more is. (is.0, first_shrinks is_space x more is.1);
}

pub any_part : IsPart any_spaces
any_part = record {
  unique = λ a b s x t y is_s is_t e.
      let one = run_unique is_space s x t y is_s.0 is_s.1 is_t.0 is_t.1 e in
      (is_s.2 ∙ ap (λ xs. nat_lt 0 (length xs)) one ∙ sym is_t.2, one);
  grows = λ a s x more some is. (is.0, first_grows is_space x more some is.1, is.2);
  shrinks = λ a s x more is. (is.0, first_shrinks is_space x more is.1, is.2);
}

some_spaces : (any : Bool) (spaces : List ℕ) → (any ≡ true → length spaces ≡ 0 → ⊥) →
    (any ≡ false → length spaces ≡ 0) → any ≡ nat_lt 0 (length spaces)
some_spaces true [] some none = absurd (some refl refl)
some_spaces false [] some none = refl
some_spaces true (b ∷ bs) some none = sym (lt-ltb 0 (length (b ∷ bs)) (omega arith))
some_spaces false (b ∷ bs) some none = absurd (let e = none refl in omega arith)

-- white space as it was read
pub any_found : (before : List ℕ) (any : Bool) (after : List ℕ) → IsSpaceRead before any after →
    IsFound any_spaces before any after
any_found before any after read = record {
  front = read.spaces;
  split = read.split;
  spelled = (read.are_spaces, read.longest, some_spaces any read.spaces read.some read.none);
}

-- a byte of the name of an encoding
continues_name : ℕ → Bool
continues_name c = is_ascii_alphanumeric c || (c == point) || (c == underscore) || (c == minus)

-- a byte before the quote that ends a value
abbrev pub apart : ℕ → ℕ → Bool
apart q b = not ((b == q) || (b == q))

no_quote : (q b : ℕ) → IsQuote q → continues_name b ≡ true → apart q b ≡ true
unfolding continues_name
no_quote q b is e =
    let N : ℕ → Type 0 = λ k. continues_name k ≡ true in
    let differs : (k : ℕ) → continues_name k ≡ false → q ≡ k → apart q b ≡ true = λ k absent same.
    ap (λ t. not (t || t)) (⊎_elim
    (λ (one : (b == q) ≡ true). absurd (both_ways (continues_name k) absent (subst N (eqb-true b q one ∙ same) e)))
    (λ other. other) (cases_Bool (b == q))) in
    ⊎_elim (λ same. differs 34 refl same) (λ same. differs 39 refl same) is

no_quotes : (q : ℕ) → IsQuote q → (bs : List ℕ) → list_all continues_name bs ≡ true → list_all (apart q) bs ≡ true
no_quotes q is [] e = refl
no_quotes q is (b ∷ bs) e =
    let p = and_parts (continues_name b) (list_all continues_name bs) e in
    and_from (apart q b) (list_all (apart q) bs) (no_quote q b is p.0) (no_quotes q is bs p.1)

other_ways : (d u l p q r : Bool) → (u || l) ≡ true → (d || u || l || p || q || r) ≡ true
other_ways true u l p q r e = refl
other_ways false true l p q r e = refl
other_ways false false true p q r e = refl
other_ways false false false p q r e = absurd (both_ways false refl e)

alphabetic : (b : ℕ) → is_ascii_alphabetic b ≡ true → continues_name b ≡ true
unfolding continues_name
alphabetic b e =
    other_ways (is_in_range 48 57 b) (is_in_range 65 90 b) (is_in_range 97 122 b) (b == point) (b == underscore)
    (b == minus) e

-- no quote is in the name of an encoding
pub name_free : (q : ℕ) → IsQuote q → (name : List ℕ) → is_encoding_name name ≡ true →
    IsTrue (list_all (apart q) name)
unfolding continues_name
name_free q is [] e = refl
name_free q is (b ∷ bs) e =
    let p = and_parts (is_ascii_alphabetic b) (list_all continues_name bs) e in
    no_quotes q is (b ∷ bs)
    (and_from (continues_name b) (list_all continues_name bs) (alphabetic b p.0) p.1)

pub ends_first : (q : ℕ) (rest : List ℕ) → IsTrue (first_is_no (apart q) (q ∷ rest))
ends_first q rest = ap (λ t. not (not (t || t))) (eq-eqb q q refl)

pub encoding_name_part : (q : ℕ) → IsPart (encoding_name q)
encoding_name_part q = record {
  unique = λ a b s x t y is_s is_t e.
      let n = is_s.1 in
      let m = is_t.1 in
      let same : n.0 ++ q ∷ x ≡ m.0 ++ q ∷ y =
      sym (append_assoc n.0 (q ∷ []) x) ∙ ap (λ xs. xs ++ x) (sym n.3) ∙ e ∙ ap (λ xs. xs ++ y) m.3
      ∙ append_assoc m.0 (q ∷ []) y in
      let one = run_unique (apart q) n.0 (q ∷ x) m.0 (q ∷ y) (name_free q is_s.0 n.0 n.1) (ends_first q x)
      (name_free q is_s.0 m.0 m.1) (ends_first q y) same in
      (n.2 ∙ ap (λ xs. is_utf8_name (Some xs)) one ∙ sym m.2, n.3 ∙ ap (λ xs. xs ++ q ∷ []) one ∙ sym m.3);
  grows = λ a s x more some is. is;
  shrinks = λ a s x more is. is;
}

abbrev pub utf8_name : List ℕ
utf8_name = codes "utf-8"

pub name_goes : (q : ℕ) → IsQuote q → (t : List ℕ) × encoding_name q true t []
name_goes q is = (utf8_name ++ q ∷ [], (is, (utf8_name, refl, refl, refl)))

some_name : (q : ℕ) → IsQuote q → (v : Bool) × (t : List ℕ) × encoding_name q v t []
some_name q is = let g = name_goes q is in (true, g.0, g.1)

pub encoding_quote : Joins one_quote encoding_name
encoding_quote = quote_joins encoding_name some_name

pub encoding_equals : Joins equals_sign (λ (_ : Unit {0}). seq one_quote encoding_name)
encoding_equals = equals_joins encoding_name some_name

pub quote_goes : (q : ℕ) (s : List ℕ) → one_quote q s [] → (t : List ℕ) × encoding_name q true t []
quote_goes q s is = name_goes q is.0

pub equals_goes : (b : Unit {0}) (s : List ℕ) → equals_sign b s [] →
    (t : List ℕ) × seq one_quote encoding_name true t []
equals_goes b s is =
    let g = name_goes 34 (inl refl) in
    (34 ∷ g.0, (34, 34 ∷ [], g.0, refl, (inl refl, refl), g.1))

one_encoding : seq equals_sign (λ (_ : Unit {0}). seq one_quote encoding_name) true (codes "=\"utf-8\"") []
one_encoding = (
  tt,
  codes "=",
  codes "\"utf-8\"",
  refl,
  ([], [], refl, refl, refl, refl),
  (34, codes "\"", codes "utf-8\"", refl, (inl refl, refl), (inl refl, (utf8_name, refl, refl, refl))),
)

pub encoding_word : Joins (exactly (codes "encoding")) (λ (_ : Unit {0}). seq equals_sign (λ _. seq one_quote
    encoding_name))
encoding_word = exactly_joins (codes "encoding") (seq equals_sign (λ _. seq one_quote encoding_name)) true
    (codes "=\"utf-8\"") one_encoding

pub word_goes : (b : Unit {0}) (s : List ℕ) → exactly (codes "encoding") b s [] →
    (t : List ℕ) × seq equals_sign (λ _. seq one_quote encoding_name) true t []
word_goes b s is = (codes "=\"utf-8\"", one_encoding)

pub encoding_part : IsPart an_encoding
encoding_part = seq_part encoding_word (λ _. seq_part encoding_equals (λ _. seq_part encoding_quote encoding_name_part))

-- nothing after an encoding matters
pub encoding_closed : (v : Bool) (s x rest : List ℕ) → an_encoding v s x → an_encoding v s rest
encoding_closed v s x rest is =
    let sign = is.5 in
    let quoted = sign.5 in
    let same : sign.2 ≡ quoted.0 ∷ quoted.2 = quoted.3 ∙ ap (λ xs. xs ++ quoted.2) quoted.4.1 in
    let N : List ℕ → Type 0 = λ xs. IsTrue (first_is_no is_space (xs ++ rest)) in (
      is.0,
      is.1,
      is.2,
      is.3,
      is.4,
      (
        sign.0,
        sign.1,
        sign.2,
        sign.3,
        (
          sign.4.0,
          sign.4.1,
          sign.4.2,
          sign.4.3,
          sign.4.4,
          subst N (sym same) (no_space quoted.0 quoted.4.0
              (quoted.2 ++ rest)),
        ),
        (quoted.0, quoted.1, quoted.2, quoted.3, quoted.4, quoted.5),
      ),
    )

-- the first byte of the end of a declaration
pub end_first : (spaced : Bool) (v : Unit {0}) (t rest : List ℕ) → declaration_end spaced v t rest →
    (b : ℕ) × (u : List ℕ) × (t ≡ b ∷ u) × (is_space b ≡ false) × ((101 == b) ≡ false)
end_first spaced v t rest is =
    ⊎_elim
    (λ alone.
    let a = alone.1.4 in (
      115,
      codes "tandalone" ++ a.2 ++ alone.1.2,
      alone.1.3 ∙ ap (λ xs. xs ++ alone.1.2) (a.3 ∙ ap (λ xs. xs ++ a.2) a.4),
      refl,
      refl,
    ))
    (λ over. (63, codes ">", over, refl, refl))
    is

pub any_end : Joins any_spaces declaration_end
any_end = record {
  part = any_part;
  lives = (false, [], (refl, refl, refl));
  follows = λ b s v t rest is r.
      let f = end_first b v t rest r in
      let N : List ℕ → Type 0 = λ xs. IsTrue (first_is_no is_space (xs ++ rest)) in
      (is.0, subst N (sym f.2) (not_from_false (is_space f.0) f.3), is.2);
  goes = λ b s is. (tt, codes "?>", inr refl);
}

encoding_ends : (named : Bool) → behind_encoding named named (codes "?>") []
encoding_ends named = (refl, (false, [], codes "?>", refl, (refl, refl, refl), inr refl))

pub encoding_joins : Joins an_encoding behind_encoding
encoding_joins = record {
  part = encoding_part;
  lives = (true, codes "encoding=\"utf-8\"", (tt, codes "encoding", codes "=\"utf-8\"", refl, refl, one_encoding));
  follows = λ b s v t rest is r. encoding_closed b s [] (t ++ rest) is;
  goes = λ b s is. (b, codes "?>", encoding_ends b);
}

-- after an encoding that was read
pub encoding_then : (before : List ℕ) (b : Bool) (after : List ℕ) → IsFound an_encoding before b after →
    (r : Result Encoding Lapse) (end : List ℕ) → ReadsEncoding (behind_encoding b) after r end →
    ReadsEncoding (seq an_encoding behind_encoding) before r end
encoding_then before b after f = leads_encoding (joins_leads encoding_joins before b after f)
    (λ more rest e found.
    let q = found.spelled in
    let same : f.front ++ (after ++ more) ≡ q.1 ++ (q.2 ++ rest) =
    sym (append_assoc f.front after more) ∙ ap (λ xs. xs ++ more) (sym f.split) ∙ found.split
    ∙ ap (λ xs. xs ++ rest) q.3 ∙ append_assoc q.1 q.2 rest in
    let one = encoding_part.unique b q.0 f.front (after ++ more) q.1 (q.2 ++ rest)
    (encoding_closed b f.front after (after ++ more) f.spelled) q.4 same in
    let E : Bool → Type 0 = λ k. behind_encoding b k (codes "?>") [] in (
      codes "?>",
      (
        [],
        record {
          front = codes "?>";
          split = refl;
          spelled = subst E (one.0 ∙ sym q.5.0) (encoding_ends b);
        },
      ),
    ))

-- the encodings of UTF-8 alone
abbrev pub utf8_encoding : Unit {0} → List ℕ → List ℕ → Type 0
utf8_encoding _ = an_encoding true

utf8_encoding_joins : Joins utf8_encoding (λ (_ _ : Unit {0}). behind_encoding true true)
utf8_encoding_joins = record {
  part = record {
    unique = λ a b s x t y is_s is_t e. (refl, (encoding_part.unique true true s x t y is_s is_t e).1);
    grows = λ a s x more some is. encoding_part.grows true s x more some is;
    shrinks = λ a s x more is. encoding_part.shrinks true s x more is;
  };
  lives = (
    tt,
    codes "encoding=\"utf-8\"",
    (tt, codes "encoding", codes "=\"utf-8\"", refl, refl, one_encoding),
  );
  follows = λ b s v t rest is r. encoding_closed true s [] (t ++ rest) is;
  goes = λ b s is. (tt, codes "?>", encoding_ends true);
}

same_encoding : (b : Bool) (text v rest : List ℕ) (s front back : List ℕ) → an_encoding b front (back ++ rest) →
    s ≡ front ++ back →
    text ≡ s ++ rest → IsFound an_encoding text b (back ++ rest)
same_encoding b text v rest s front back is split whole =
    record { front = front; split = whole ∙ ap (λ xs. xs ++ rest) split ∙ append_assoc front back rest; spelled = is }

encoding_starts : (v : Bool) (text rest : List ℕ) → IsFound (seq an_encoding behind_encoding) text v rest →
    StartsAs an_encoding v text
encoding_starts v text rest f =
    let q = f.spelled in
    let S : Bool → Type 0 = λ b. IsFound an_encoding text b (q.2 ++ rest) in
    (q.2 ++ rest, subst S (sym q.5.0) (same_encoding q.0 text [] rest f.front q.1 q.2 q.4 q.3 f.split))

pub encoding_fails : (before : List ℕ) (e : Lapse) (end last : List ℕ) → ReadsEncoding an_encoding before (Err e) end →
    ReadsEncoding (seq an_encoding behind_encoding) before (Err e) last
encoding_fails before Broken end last none = (
  (λ (some : ContinuesAs (seq an_encoding behind_encoding) true before).
      none.0 (some.0, encoding_starts true (before ++ some.0) some.1.0 some.1.1)),
  (λ (some : StartsAs (seq an_encoding behind_encoding) false before).
      none.1 (encoding_starts false before some.0 some.1)),
)
encoding_fails before Cut end last cut =
    let U = utf8_encoding in
    let f = cut.1.1.1 in
    let read : Reads U before (Err Cut) end = (
      (λ (some : Starts U before). cut.0 (
        some.1,
        record { front = some.2.front; split = some.2.split; spelled = some.2.spelled },
      )),
      (cut.1.0, (tt, cut.1.1.0, record { front = f.front; split = f.split; spelled = f.spelled })),
    ) in
    let c = joins_fails utf8_encoding_joins before Cut end last read in
    let g = c.1.1.2 in (
      (λ (some : StartsAs (seq an_encoding behind_encoding) true before).
          cut.0 (encoding_starts true before some.0 some.1)),
      (
        c.1.0,
        (
          c.1.1.1,
          record {
            front = g.front;
            split = g.split;
            spelled = (true, g.spelled.1, g.spelled.2, g.spelled.3, g.spelled.4, g.spelled.5);
          },
        ),
      ),
    )
encoding_fails before NoMemory end last none = tt

-- the end of a declaration, after its encoding
pub end_found : (named : Bool) (text end : List ℕ) → IsFound (seq any_spaces declaration_end) text tt end →
    IsFound (behind_encoding named) text named end
end_found named text end f = record { front = f.front; split = f.split; spelled = (refl, f.spelled) }

end_starts : (named v : Bool) (text rest : List ℕ) → IsFound (behind_encoding named) text v rest →
    Starts (seq any_spaces declaration_end) text
end_starts named v text rest f =
    (tt, rest, record { front = f.front; split = f.split; spelled = f.spelled.1 })

utf8_only : (named : Bool) (text rest : List ℕ) → named ≡ false → IsFound (behind_encoding named) text true rest → ⊥
utf8_only named text rest e f = both_ways true (f.spelled.0 ∙ e) refl

pub end_fails : (k : Encoding) (text : List ℕ) (e : Lapse) (end : List ℕ) →
    Reads (seq any_spaces declaration_end) text (Err e) end →
    ReadsEncoding (behind_encoding (is_utf8 k)) text (Err (lapse_of k e)) end
end_fails Utf8 text Broken end none = (
  (λ (some : ContinuesAs (behind_encoding true) true text).
      none (some.0, end_starts true true (text ++ some.0) some.1.0 some.1.1)),
  (λ (some : StartsAs (behind_encoding true) false text). both_ways true (sym some.1.spelled.0) refl),
)
end_fails Utf8 text Cut end cut =
    let f = cut.1.1.2 in (
      (λ (some : StartsAs (behind_encoding true) true text). cut.0 (end_starts true true text some.0 some.1)),
      (cut.1.0, (cut.1.1.1, record { front = f.front; split = f.split; spelled = (refl, f.spelled) })),
    )
end_fails Utf8 text NoMemory end none = tt
end_fails Foreign text Broken end none = (
  (λ (some : ContinuesAs (behind_encoding false) true text).
      utf8_only false (text ++ some.0) some.1.0 refl some.1.1),
  (λ (some : StartsAs (behind_encoding false) false text).
      let s = end_starts false false text some.0 some.1 in
      none ([], (s.0, s.1, found_whole (seq any_spaces declaration_end) text s.0 s.1 s.2))),
)
end_fails Foreign text Cut end cut = (
  (λ (some : ContinuesAs (behind_encoding false) true text).
      utf8_only false (text ++ some.0) some.1.0 refl some.1.1),
  (λ (some : StartsAs (behind_encoding false) false text). cut.0 (end_starts false false text some.0 some.1)),
)
end_fails Foreign text NoMemory end none = tt

encoding_first : (v : Bool) (s rest : List ℕ) → seq an_encoding behind_encoding v s rest →
    (u : List ℕ) × (s ≡ 101 ∷ u)
encoding_first v s rest p =
    let a = p.4 in
    (codes "ncoding" ++ a.2 ++ p.2, p.3 ∙ ap (λ xs. xs ++ p.2) (a.3 ∙ ap (λ xs. xs ++ a.2) a.4))

-- the text begins with the first byte of `encoding`
pub version_encoding : (spaced : Bool) (text : List ℕ) → spaced ≡ true → begins (codes "e") text ≡ true →
    (r : Result Encoding Lapse) (end : List ℕ) → ReadsEncoding (seq an_encoding behind_encoding) text r end →
    ReadsEncoding (behind_version spaced) text r end
version_encoding spaced text is begun = chosen_encoding (behind_version spaced) (seq an_encoding behind_encoding) text
    (λ v s rest p. inl (is, p))
    (λ v more s rest e p. ⊎_elim (λ named. named.1)
    (λ over. absurd (
    let f = end_first spaced tt s rest over.1 in
    let same : 101 ∷ (drop 1 text ++ more) ≡ f.0 ∷ (f.1 ++ rest) =
    ap (λ xs. xs ++ more) (sym (begins_split (codes "e") text begun)) ∙ e ∙ ap (λ xs. xs ++ rest) f.2 in
    let heads : f.0 ≡ 101 = cc in
    let N : ℕ → Type 0 = λ b. (101 == b) ≡ false in
    both_ways false refl (sym (subst N heads f.4)))) p)

-- no encoding is in the text
no_encoding : (spaced v : Bool) (text more s rest : List ℕ) → (spaced ≡ true → begins (codes "e") text ≡ false) →
    text ≢ [] → text ++ more ≡ s ++ rest → spaced ≡ true → seq an_encoding behind_encoding v s rest → ⊥
no_encoding spaced v [] more s rest none some e is p = some refl
no_encoding spaced v (b ∷ text) more s rest none some e is p =
    let f = encoding_first v s rest p in
    let same : b ∷ (text ++ more) ≡ 101 ∷ (f.0 ++ rest) = e ∙ ap (λ xs. xs ++ rest) f.1 in
    let heads : b ≡ 101 = cc in
    both_ways (begins (codes "e") (b ∷ text)) (none is)
    (begins_from (codes "e") (b ∷ text) text (ap (λ x. x ∷ text) heads))

end_lives : (spaced : Bool) → Continues (declaration_end spaced) []
end_lives spaced = (codes "?>", (tt, [], record { front = codes "?>"; split = refl; spelled = inr refl }))

-- the text doesn't begin with an encoding
pub version_end : (spaced : Bool) (text : List ℕ) → (spaced ≡ true → begins (codes "e") text ≡ false) → (e : Lapse)
    (end : List ℕ) → Reads (declaration_end spaced) text (Err e) end →
    ReadsEncoding (behind_version spaced) text (Err e) end
version_end spaced text absent Broken end none =
    let C : List ℕ → Type 0 = Continues (declaration_end spaced) in
    let some_text : text ≢ [] = λ e. none (subst C (sym e) (end_lives spaced)) in (
      (λ (some : ContinuesAs (behind_version spaced) true text).
          let f = some.1.1 in
          ⊎_elim
          (λ named. no_encoding spaced true text some.0 f.front some.1.0 absent some_text f.split named.0 named.1)
          (λ over. none (some.0, (tt, some.1.0, record { front = f.front; split = f.split; spelled = over.1 })))
          f.spelled),
      (λ (some : StartsAs (behind_version spaced) false text).
          let f = some.1 in
          ⊎_elim
          (λ named. no_encoding spaced false text [] f.front some.0 absent some_text (append-nil text ∙ f.split) named.0
          named.1)
          (λ over. both_ways false refl over.0)
          f.spelled),
    )
version_end spaced text absent Cut end cut =
    let f = cut.1.1.2 in (
      (λ (some : StartsAs (behind_version spaced) true text).
          let f = some.1 in
          ⊎_elim
          (λ named.
          let first = encoding_first true f.front some.0 named.1 in
          both_ways (begins (codes "e") text) (absent named.0)
          (begins_from (codes "e") text (first.0 ++ some.0) (f.split ∙ ap (λ xs. xs ++ some.0) first.1)))
          (λ over. cut.0 (tt, some.0, record { front = f.front; split = f.split; spelled = over.1 }))
          f.spelled),
      (cut.1.0, (cut.1.1.1, record { front = f.front; split = f.split; spelled = inr (refl, f.spelled) })),
    )
version_end spaced text absent NoMemory end none = tt
