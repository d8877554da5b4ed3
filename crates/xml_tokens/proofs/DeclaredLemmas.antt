-- A declaration, part by part.
use Rattle.std.proofs.Common.{◌≡◌, ℕ, Bool, true, false, List, [], ◌∷◌, ◌++◌, length, IsTrue, Option, Some, None}
use Rattle.std.proofs.Common.{refl, sym, ap, subst, ◌∙◌, inl, inr, ⊎_elim, codes, arith, append_assoc, nat_lt, ltb-true}
use Rattle.std.specs.Prelude.{Result, Ok, Err}
use Rattle.std.proofs.lemmas.Bool.{both_ways, lt-ltb, not_from_false}
use Rattle.atom_values.specs.Space.{is_space}
use Rattle.xml_tokens.specs.declared.cursor.Lapse.{Lapse}
use Rattle.xml_tokens.specs.declared.cursor.Lapse.TheVariants.{Broken, Cut, NoMemory}
use Rattle.xml_tokens.specs.declared.declaration.Encoding.{Encoding}
use Rattle.xml_tokens.specs.declared.declaration.Encoding.TheVariants.{Utf8, Foreign}
use Rattle.xml_tokens.specs.Characters.{IsGap, AreSpaces}
use Rattle.xml_tokens.specs.Tokens.{IsQuote, IsSetting, IsOptionalSetting, IsOptionalEncoding, IsStandalone}
use Rattle.xml_tokens.specs.Tokens.{IsDeclaration}
use Rattle.xml_tokens.specs.Tokens.{is_utf8_name}
use Rattle.xml_tokens.specs.Reading.{seq, exactly, equals_sign, one_quote, first_is_no, a_gap, any_spaces, a_version}
use Rattle.xml_tokens.specs.Reading.{IsFound, Starts, Continues, ReadsEncoding, ReadsDeclaration}
use Rattle.xml_tokens.specs.Reading.{encoding_name, an_encoding, behind_encoding, behind_version, declaration_end}
use Rattle.xml_tokens.specs.Reading.{a_standalone, spaced_end, utf8_declaration, foreign_declaration}
use Rattle.xml_tokens.proofs.PartLemmas.{IsPart, Joins, seq_part, choice_part}
use Rattle.xml_tokens.proofs.CursorLemmas.{exactly_part}
use Rattle.xml_tokens.proofs.DeclarationLemmas.{exactly_joins, no_space, number_behind, answer_behind, version_name}
use Rattle.xml_tokens.proofs.DeclarationLemmas.{version_equals, version_quote, number_joins}
use Rattle.std.specs.Result.{IsErrAnd}
use Rattle.xml_tokens.proofs.EncodingReadLemmas.{err_encoding}
use Rattle.xml_tokens.proofs.EncodingLemmas.{gap_part, any_part, any_end, end_first, encoding_joins}
use Rattle.xml_tokens.proofs.DeclarationLemmas.{standalone_joins, end_joins}
use Rattle.std.proofs.Common.{◌==◌}

abbrev pub behind_gap : Bool → List ℕ → List ℕ → Type 0
behind_gap = seq a_version (λ _. seq any_spaces behind_version)

abbrev pub declaration_parts : Bool → List ℕ → List ℕ → Type 0
declaration_parts = seq (exactly (codes "<?xml")) (λ _. seq a_gap (λ _. behind_gap))

one_version : (x : List ℕ) → a_version tt (codes "version=\"1.0\"") x
one_version x = (
  tt,
  codes "version",
  codes "=\"1.0\"",
  refl,
  refl,
  (
    tt,
    codes "=",
    codes "\"1.0\"",
    refl,
    ([], [], refl, refl, refl, refl),
    (34, codes "\"", codes "1.0\"", refl, (inl refl, refl), (tt, codes "1.0", codes "\"", refl, refl, refl)),
  ),
)

one_end : seq any_spaces behind_version true (codes "?>") []
one_end = (false, [], codes "?>", refl, (refl, refl, refl), inr (refl, inr refl))

one_behind_gap : behind_gap true (codes "version=\"1.0\"?>") []
one_behind_gap = (tt, codes "version=\"1.0\"", codes "?>", refl, one_version (codes "?>"), one_end)

version_part : IsPart a_version
version_part =
    seq_part version_name (λ _. seq_part version_equals (λ _. seq_part version_quote
    (λ q. seq_part (number_joins q) (λ _. exactly_part (q ∷ [])))))

-- nothing after a version matters
version_closed : (v : Unit {0}) (s x rest : List ℕ) → a_version v s x → a_version v s rest
version_closed v s x rest is =
    let sign = is.5 in
    let quoted = sign.5 in
    let same : sign.2 ≡ quoted.0 ∷ quoted.2 = quoted.3 ∙ ap (λ xs. xs ++ quoted.2) quoted.4.1 in
    let N : List ℕ → Type 0 = λ xs. IsTrue (first_is_no is_space (xs ++ rest)) in (
      is.0,
      is.1,
      is.2,
      is.3,
      is.4,
      (
        sign.0,
        sign.1,
        sign.2,
        sign.3,
        (
          sign.4.0,
          sign.4.1,
          sign.4.2,
          sign.4.3,
          sign.4.4,
          subst N (sym same) (no_space quoted.0 quoted.4.0
              (quoted.2 ++ rest)),
        ),
        (quoted.0, quoted.1, quoted.2, quoted.3, quoted.4, quoted.5),
      ),
    )

behind_first : (spaced v : Bool) (t rest : List ℕ) → behind_version spaced v t rest →
    IsTrue (first_is_no is_space (t ++ rest))
behind_first spaced v t rest is =
    let N : List ℕ → Type 0 = λ xs. IsTrue (first_is_no is_space (xs ++ rest)) in
    ⊎_elim
    (λ named.
    let a = named.1.4 in
    subst N (sym (named.1.3 ∙ ap (λ xs. xs ++ named.1.2) (a.3 ∙ ap (λ xs. xs ++ a.2) a.4))) refl)
    (λ over.
    let f = end_first spaced tt t rest over.1 in
    subst N (sym f.2) (not_from_false (is_space f.0) f.3))
    is

version_first : (s tail rest x : List ℕ) → a_version tt s x → IsTrue (first_is_no is_space ((s ++ tail) ++ rest))
version_first s tail rest x is =
    let N : List ℕ → Type 0 = λ xs. IsTrue (first_is_no is_space ((xs ++ tail) ++ rest)) in
    subst N (sym (is.3 ∙ ap (λ xs. xs ++ is.2) is.4)) refl

pub any_joins : Joins any_spaces behind_version
any_joins = record {
  part = any_part;
  lives = (false, [], (refl, refl, refl));
  follows = λ b s v t rest is r. (is.0, behind_first b v t rest r, is.2);
  goes = λ b s is. (true, codes "?>", inr (refl, inr refl));
}

pub any_goes : (b : Bool) (s : List ℕ) → any_spaces b s [] → (t : List ℕ) × behind_version b true t []
any_goes b s is = (codes "?>", inr (refl, inr refl))

pub version_joins : Joins a_version (λ (_ : Unit {0}). seq any_spaces behind_version)
version_joins = record {
  part = version_part;
  lives = (tt, codes "version=\"1.0\"", one_version []);
  follows = λ b s v t rest is r. version_closed b s [] (t ++ rest) is;
  goes = λ b s is. (true, codes "?>", one_end);
}

pub version_goes : (b : Unit {0}) (s : List ℕ) → a_version b s [] →
    (t : List ℕ) × seq any_spaces behind_version true t []
version_goes b s is = (codes "?>", one_end)

pub gap_joins : Joins a_gap (λ (_ : Unit {0}). behind_gap)
gap_joins = record {
  part = gap_part;
  lives = (tt, 32 ∷ [], ((refl, (λ (e : 32 ∷ [] ≡ []). cc)), refl));
  follows = λ b s v t rest is r.
      let N : List ℕ → Type 0 = λ xs. IsTrue (first_is_no is_space (xs ++ rest)) in
      let a = r.4 in
      (is.0, subst N (sym (r.3 ∙ ap (λ xs. xs ++ r.2) (a.3 ∙ ap (λ xs. xs ++ a.2) a.4))) refl);
  goes = λ b s is. (true, codes "version=\"1.0\"?>", one_behind_gap);
}

pub gap_goes : (b : Unit {0}) (s : List ℕ) → a_gap b s [] → (t : List ℕ) × behind_gap true t []
gap_goes b s is = (codes "version=\"1.0\"?>", one_behind_gap)

one_gap : seq a_gap (λ (_ : Unit {0}). behind_gap) true (codes " version=\"1.0\"?>") []
one_gap = (
  tt,
  codes " ",
  codes "version=\"1.0\"?>",
  refl,
  ((refl, (λ (e : 32 ∷ [] ≡ []). cc)), refl),
  one_behind_gap,
)

pub start_joins : Joins (exactly (codes "<?xml")) (λ (_ : Unit {0}). seq a_gap (λ _. behind_gap))
start_joins = exactly_joins (codes "<?xml") (seq a_gap (λ _. behind_gap)) true (codes " version=\"1.0\"?>") one_gap

pub start_goes : (b : Unit {0}) (s : List ℕ) → exactly (codes "<?xml") b s [] →
    (t : List ℕ) × seq a_gap (λ _. behind_gap) true t []
start_goes b s is = (codes " version=\"1.0\"?>", one_gap)

-- a setting, without the white space before it
abbrev setting_behind : {A : Type 0} → List ℕ → (ℕ → A → List ℕ → List ℕ → Type 0) → A → List ℕ → List ℕ → Type 0
setting_behind name X = seq (exactly name) (λ _. seq equals_sign (λ _. seq one_quote X))

-- a setting by its parts
record IsSettingRead {A : Type 0} (name : List ℕ) (X : ℕ → A → List ℕ → List ℕ → Type 0) (v : A) (s x : List ℕ)
    : Type 0 where
  q : ℕ
  value : List ℕ
  is_quote : IsQuote q
  read : X q v value x
  whole : (gap inside : List ℕ) → IsGap gap → value ≡ inside ++ q ∷ [] → IsSetting q name inside (gap ++ s)

to_setting : {A : Type 0} (name : List ℕ) (X : ℕ → A → List ℕ → List ℕ → Type 0) (v : A) (s x : List ℕ) →
    setting_behind name X v s x → IsSettingRead name X v s x
to_setting name X v s x p =
    let sign = p.5 in
    let quoted = sign.5 in
    let e = sign.4 in
    record {
      q = quoted.0;
      value = quoted.2;
      is_quote = quoted.4.0;
      read = quoted.5;
      whole = λ gap inside is_gap is.
          record {
            gap = gap;
            before = e.0;
            behind = e.1;
            is_gap = is_gap;
            is_before = e.2;
            is_behind = e.3;
            is_quote = quoted.4.0;
            spelled = ap (λ xs. gap ++ xs)
                (p.3 ∙ (λ i. p.4 i ++ (sign.3 ∙ (λ k. e.4 k ++ (quoted.3 ∙ (λ j. quoted.4.1 j ++ is j)) k)) i))
                ∙ simp append_assoc;
          };
    }

from_setting : {A : Type 0} (name : List ℕ) (X : ℕ → A → List ℕ → List ℕ → Type 0) (v : A) (q : ℕ)
    (inside text x : List ℕ) → (set : IsSetting q name inside text) → X q v (inside ++ q ∷ []) x →
    (s : List ℕ) × (text ≡ set.gap ++ s) × setting_behind name X v s x
from_setting name X v q inside text x set is =
    let sign = set.before ++ codes "=" ++ set.behind in
    let value = q ∷ (inside ++ q ∷ []) in (
      name ++ (sign ++ value),
      set.spelled ∙ simp append_assoc,
      (
        tt,
        name,
        sign ++ value,
        refl,
        refl,
        (
          tt,
          sign,
          value,
          refl,
          (
            set.before,
            set.behind,
            set.is_before,
            set.is_behind,
            refl,
            no_space q set.is_quote ((inside ++ q ∷ []) ++ x),
          ),
          (q, q ∷ [], inside ++ q ∷ [], refl, (set.is_quote, refl), is),
        ),
      ),
    )

-- the end of a declaration, with the white space before it
record EndOf (text : List ℕ) : Type 0 where
  alone : List ℕ
  spaces : List ℕ
  standalone : Option (List ℕ)
  is_alone : IsOptionalSetting (codes "standalone") standalone alone
  is_standalone : IsStandalone standalone
  are_spaces : AreSpaces spaces
  spelled : text ≡ alone ++ spaces ++ codes "?>"

a_gap_of : (any : Bool) (spaces : List ℕ) → AreSpaces spaces → any ≡ nat_lt 0 (length spaces) → any ≡ true →
    IsGap spaces
a_gap_of any spaces are is some =
    (are, (λ e. let n = ltb-true 0 (length spaces) (sym is ∙ some) in let none = ap length e in omega arith))

some_gap : (gap : List ℕ) → IsGap gap → true ≡ nat_lt 0 (length gap)
some_gap [] is = absurd (is.1 refl)
some_gap (b ∷ gap) is = sym (lt-ltb 0 (length (b ∷ gap)) (omega arith))

end_to : (any : Bool) (spaces tail rest : List ℕ) → AreSpaces spaces → any ≡ nat_lt 0 (length spaces) →
    declaration_end any tt tail rest → EndOf (spaces ++ tail)
end_to any spaces tail rest are is d =
    ⊎_elim
    (λ alone.
    let p = alone.1 in
    let set = to_setting (codes "standalone") answer_behind p.0 p.1 (p.2 ++ rest) p.4 in
    let answer = set.read in
    let end = p.5 in
    record {
      alone = spaces ++ p.1;
      spaces = end.1;
      standalone = Some answer.1;
      is_alone = (
        set.q,
        set.whole spaces answer.1 (a_gap_of any spaces are is alone.0) (answer.3 ∙ ap (λ xs. answer.1 ++ xs) answer.5),
      );
      is_standalone = answer.4;
      are_spaces = end.4.0;
      spelled = ap (λ xs. spaces ++ xs) (p.3 ∙ ap (λ xs. p.1 ++ xs) (end.3 ∙ ap (λ xs. end.1 ++ xs) end.5))
          ∙ simp append_assoc;
    })
    (λ over. record {
      alone = [];
      spaces = spaces;
      standalone = None;
      is_alone = refl;
      is_standalone = tt;
      are_spaces = are;
      spelled = ap (λ xs. spaces ++ xs) over;
    })
    d

-- the rest of a declaration after its version
record TailOf (utf8 : Bool) (text : List ℕ) : Type 0 where
  encoding : Option (List ℕ)
  encoded : List ℕ
  end : List ℕ
  is_encoded : IsOptionalSetting (codes "encoding") encoding encoded
  is_encoding : IsOptionalEncoding encoding
  is_end : EndOf end
  spelled : text ≡ encoded ++ end
  is_utf8 : is_utf8_name encoding ≡ utf8

tail_to : (utf8 any : Bool) (spaces tail rest : List ℕ) → AreSpaces spaces → any ≡ nat_lt 0 (length spaces) →
    behind_version any utf8 tail rest → TailOf utf8 (spaces ++ tail)
tail_to utf8 any spaces tail rest are is t =
    ⊎_elim
    (λ named.
    let p = named.1 in
    let set = to_setting (codes "encoding") encoding_name p.0 p.1 (p.2 ++ rest) p.4 in
    let name = set.read.1 in
    let end = p.5.1 in
    record {
      encoding = Some name.0;
      encoded = spaces ++ p.1;
      end = end.1 ++ end.2;
      is_encoded = (set.q, set.whole spaces name.0 (a_gap_of any spaces are is named.0) name.3);
      is_encoding = name.1;
      is_end = end_to end.0 end.1 end.2 rest end.4.0 end.4.2 end.5;
      spelled = ap (λ xs. spaces ++ xs) (p.3 ∙ ap (λ xs. p.1 ++ xs) end.3) ∙ simp append_assoc;
      is_utf8 = sym name.2 ∙ sym p.5.0;
    })
    (λ over. record {
      encoding = None;
      encoded = [];
      end = spaces ++ tail;
      is_encoded = refl;
      is_encoding = tt;
      is_end = end_to any spaces tail rest are is over.1;
      spelled = refl;
      is_utf8 = sym over.0;
    })
    t

to_declaration : (utf8 : Bool) (s rest : List ℕ) → declaration_parts utf8 s rest →
    (name : Option (List ℕ)) × IsDeclaration name s × (is_utf8_name name ≡ utf8)
to_declaration utf8 s rest p =
    let g = p.5 in
    let v = g.5 in
    let a = v.5 in
    let set = to_setting (codes "version") number_behind v.0 v.1 (v.2 ++ rest) v.4 in
    let n = set.read in
    let tail = tail_to utf8 a.0 a.1 a.2 rest a.4.0 a.4.2 a.5 in
    let end = tail.is_end in (
      tail.encoding,
      record {
        version = g.1 ++ v.1;
        encoded = tail.encoded;
        alone = end.alone;
        spaces = end.spaces;
        standalone = end.standalone;
        is_version = (set.q, set.whole g.1 (codes "1.0") g.4.0 (n.3 ∙ (λ i. n.4 i ++ n.5 i)));
        is_encoded = tail.is_encoded;
        is_alone = end.is_alone;
        is_encoding = tail.is_encoding;
        is_standalone = end.is_standalone;
        are_spaces = end.are_spaces;
        spelled = p.3 ∙ (λ i. p.4 i ++ (g.3 ∙ ap (λ xs. g.1 ++ xs) (v.3 ∙ ap (λ xs. v.1 ++ xs)
            (a.3 ∙ tail.spelled ∙ ap (λ xs. tail.encoded ++ xs) end.spelled))) i)
            ∙ simp append_assoc;
      },
      tail.is_utf8,
    )

pub end_from : (standalone : Option (List ℕ)) (alone spaces rest : List ℕ) →
    IsOptionalSetting (codes "standalone") standalone alone → IsStandalone standalone → AreSpaces spaces →
    seq any_spaces declaration_end tt (alone ++ spaces ++ codes "?>") rest
end_from None alone spaces rest is_alone is_standalone are = (
  nat_lt 0 (length spaces),
  spaces,
  codes "?>",
  ap (λ xs. xs ++ spaces ++ codes "?>") is_alone,
  (are, refl, refl),
  inr refl,
)
end_from (Some value) alone spaces rest is_alone is_standalone are =
    let q = is_alone.0 in
    let set = is_alone.1 in
    let back = spaces ++ codes "?>" in
    let s = from_setting (codes "standalone") answer_behind tt q value alone (back ++ rest) set
    (tt, value, q ∷ [], refl, is_standalone, refl) in
    let d : declaration_end true tt (s.0 ++ back) rest =
    inl (refl, (tt, s.0, back, refl, s.2, (tt, spaces, codes "?>", refl, (are, refl), refl))) in
    let f = end_first true tt (s.0 ++ back) rest d in
    let N : List ℕ → Type 0 = λ xs. IsTrue (first_is_no is_space (xs ++ rest)) in (
      true,
      set.gap,
      s.0 ++ back,
      ap (λ xs. xs ++ spaces ++ codes "?>") s.1 ∙ simp append_assoc,
      (set.is_gap.0, subst N (sym f.2) (not_from_false (is_space f.0) f.3), some_gap set.gap set.is_gap),
      d,
    )

tail_from : (encoding : Option (List ℕ)) (encoded end rest : List ℕ) →
    IsOptionalSetting (codes "encoding") encoding encoded → IsOptionalEncoding encoding →
    seq any_spaces declaration_end tt end rest →
    seq any_spaces behind_version (is_utf8_name encoding) (encoded ++ end) rest
tail_from None encoded end rest is_encoded is_encoding d =
    (d.0, d.1, d.2, ap (λ xs. xs ++ end) is_encoded ∙ d.3, d.4, inr (refl, d.5))
tail_from (Some name) encoded end rest is_encoded is_encoding d =
    let q = is_encoded.0 in
    let set = is_encoded.1 in
    let utf8 = is_utf8_name (Some name) in
    let s = from_setting (codes "encoding") encoding_name utf8 q name encoded (end ++ rest) set
    (set.is_quote, (name, is_encoding, refl, refl)) in
    let b : behind_version true utf8 (s.0 ++ end) rest = inl (refl, (utf8, s.0, end, refl, s.2, (refl, d))) in (
      true,
      set.gap,
      s.0 ++ end,
      ap (λ xs. xs ++ end) s.1 ∙ append_assoc set.gap s.0 end,
      (set.is_gap.0, behind_first true utf8 (s.0 ++ end) rest b, some_gap set.gap set.is_gap),
      b,
    )

pub from_declaration : (name : Option (List ℕ)) (s rest : List ℕ) → IsDeclaration name s →
    declaration_parts (is_utf8_name name) s rest
from_declaration name s rest is =
    let q = is.is_version.0 in
    let set = is.is_version.1 in
    let end = is.alone ++ is.spaces ++ codes "?>" in
    let tail = is.encoded ++ end in
    let v = from_setting (codes "version") number_behind tt q (codes "1.0") is.version (tail ++ rest) set
    (tt, codes "1.0", q ∷ [], refl, refl, refl) in
    let b : behind_gap (is_utf8_name name) (v.0 ++ tail) rest = (
      tt,
      v.0,
      tail,
      refl,
      v.2,
      tail_from name is.encoded end rest is.is_encoded is.is_encoding
          (end_from is.standalone is.alone is.spaces rest is.is_alone is.is_standalone is.are_spaces),
    ) in (
      tt,
      codes "<?xml",
      set.gap ++ (v.0 ++ tail),
      is.spelled ∙ ap (λ xs. codes "<?xml" ++ xs ++ is.encoded ++ is.alone ++ is.spaces ++ codes "?>") v.1
          ∙ simp append_assoc,
      refl,
      (tt, set.gap, v.0 ++ tail, refl, (set.is_gap, version_first v.0 tail rest (tail ++ rest) v.2), b),
    )

utf8_found : (text rest : List ℕ) → IsFound declaration_parts text true rest → IsFound utf8_declaration text tt rest
utf8_found text rest f =
    let d = to_declaration true f.front rest f.spelled in
    record { front = f.front; split = f.split; spelled = (d.0, d.1, d.2) }

foreign_found : (text rest : List ℕ) → IsFound declaration_parts text false rest →
    IsFound foreign_declaration text tt rest
foreign_found text rest f =
    let d = to_declaration false f.front rest f.spelled in
    record { front = f.front; split = f.split; spelled = (d.0, d.1, d.2) }

utf8_parts : (text rest : List ℕ) (v : Unit {0}) → IsFound utf8_declaration text v rest →
    IsFound declaration_parts text true rest
utf8_parts text rest v f =
    let D : Bool → Type 0 = λ b. declaration_parts b f.front rest in
    record {
      front = f.front;
      split = f.split;
      spelled = subst D f.spelled.2 (from_declaration f.spelled.0 f.front rest f.spelled.1);
    }

foreign_parts : (text rest : List ℕ) (v : Unit {0}) → IsFound foreign_declaration text v rest →
    IsFound declaration_parts text false rest
foreign_parts text rest v f =
    let D : Bool → Type 0 = λ b. declaration_parts b f.front rest in
    record {
      front = f.front;
      split = f.split;
      spelled = subst D f.spelled.2 (from_declaration f.spelled.0 f.front rest f.spelled.1);
    }

-- a declaration that is read by its parts
pub declaration_reads : (text : List ℕ) (r : Result Encoding Lapse) (end : List ℕ) →
    ReadsEncoding declaration_parts text r end → ReadsDeclaration text r end
declaration_reads text (Ok Utf8) end f = utf8_found text end f
declaration_reads text (Ok Foreign) end f = foreign_found text end f
declaration_reads text (Err Broken) end none = (
  (λ (some : Continues utf8_declaration text).
      none.0 (some.0, (some.1.1, utf8_parts (text ++ some.0) some.1.1 some.1.0 some.1.2))),
  (λ (some : Starts foreign_declaration text). none.1 (some.1, foreign_parts text some.1 some.0 some.2)),
)
declaration_reads text (Err Cut) end cut = (
  (λ (some : Starts utf8_declaration text). cut.0 (some.1, utf8_parts text some.1 some.0 some.2)),
  (cut.1.0, (tt, cut.1.1.0, utf8_found (text ++ cut.1.0) cut.1.1.0 cut.1.1.1)),
)
declaration_reads text (Err NoMemory) end none = tt

pub declaration_fails : (text end : List ℕ) (e : Lapse) (r : Result Encoding Lapse) → IsErrAnd r (λ s. s ≡ e) →
    ReadsEncoding declaration_parts text (Err e) end → ReadsDeclaration text r end
declaration_fails text end e r same read =
    declaration_reads text r end (err_encoding declaration_parts text end e r same read)

-- a part with a fact of its value
guard_part : (C : Bool → Type 0) (P : Bool → List ℕ → List ℕ → Type 0) → IsPart P →
    IsPart (λ (v : Bool) (s x : List ℕ). C v × P v s x)
guard_part C P part = record {
  unique = λ a b s x t y is_s is_t e. part.unique a b s x t y is_s.1 is_t.1 e;
  grows = λ a s x more some is. (is.0, part.grows a s x more some is.1);
  shrinks = λ a s x more is. (is.0, part.shrinks a s x more is.1);
}

-- a part without a value, whose value a fact tells
valued_part : (b : Bool) (P : Unit {0} → List ℕ → List ℕ → Type 0) → IsPart P →
    IsPart (λ (v : Bool) (s x : List ℕ). (v ≡ b) × P tt s x)
valued_part b P part = record {
  unique = λ u v s x t y is_s is_t e. (is_s.0 ∙ sym is_t.0, (part.unique tt tt s x t y is_s.1 is_t.1 e).1);
  grows = λ a s x more some is. (is.0, part.grows tt s x more some is.1);
  shrinks = λ a s x more is. (is.0, part.shrinks tt s x more is.1);
}

guard_unit : (C : Type 0) (P : Unit {0} → List ℕ → List ℕ → Type 0) → IsPart P →
    IsPart (λ (v : Unit {0}) (s x : List ℕ). C × P v s x)
guard_unit C P part = record {
  unique = λ a b s x t y is_s is_t e. part.unique a b s x t y is_s.1 is_t.1 e;
  grows = λ a s x more some is. (is.0, part.grows a s x more some is.1);
  shrinks = λ a s x more is. (is.0, part.shrinks a s x more is.1);
}

heads_of : (a b : ℕ) (s t : List ℕ) → a ∷ s ≡ b ∷ t → a ≡ b
heads_of a b s t e = cc

end_part : (spaced : Bool) → IsPart (declaration_end spaced)
end_part spaced = choice_part (λ (v : Unit {0}) (s x : List ℕ). (spaced ≡ true)
    × seq a_standalone (λ (_ : Unit {0}). spaced_end) v s x)
    (exactly (codes "?>"))
    (guard_unit (spaced ≡ true) (seq a_standalone (λ (_ : Unit {0}). spaced_end))
    (seq_part standalone_joins (λ _. seq_part end_joins (λ _. exactly_part (codes "?>")))))
    (exactly_part (codes "?>"))
    (λ a b s x t y alone over e.
    let p = alone.1 in
    let n = p.4 in
    let u = codes "tandalone" ++ n.2 ++ p.2 in
    let starts : s ≡ 115 ∷ u = p.3 ∙ ap (λ xs. xs ++ p.2) (n.3 ∙ ap (λ xs. xs ++ n.2) n.4) in
    omega (
      arith,
      heads_of 115 63 (u ++ x) (codes ">" ++ y)
          (ap (λ xs. xs ++ x) (sym starts) ∙ e ∙ ap (λ xs. xs ++ y) over),
    ))

version_behind_part : (spaced : Bool) → IsPart (behind_version spaced)
version_behind_part spaced =
    choice_part (λ (v : Bool) (s x : List ℕ). (spaced ≡ true) × seq an_encoding behind_encoding v s x)
    (λ (v : Bool) (s x : List ℕ). (v ≡ true) × declaration_end spaced tt s x)
    (guard_part (λ _. spaced ≡ true) (seq an_encoding behind_encoding)
    (seq_part encoding_joins (λ named. valued_part named (seq any_spaces declaration_end) (seq_part any_end end_part))))
    (valued_part true (declaration_end spaced) (end_part spaced))
    (λ a b s x t y named over e.
    let p = named.1 in
    let n = p.4 in
    let u = codes "ncoding" ++ n.2 ++ p.2 in
    let starts : s ≡ 101 ∷ u = p.3 ∙ ap (λ xs. xs ++ p.2) (n.3 ∙ ap (λ xs. xs ++ n.2) n.4) in
    let f = end_first spaced tt t y over.1 in
    let same = heads_of 101 f.0 (u ++ x) (f.1 ++ y)
    (ap (λ xs. xs ++ x) (sym starts) ∙ e ∙ ap (λ xs. xs ++ y) f.2) in
    let N : ℕ → Type 0 = λ k. (101 == k) ≡ false in
    both_ways false refl (sym (subst N (sym same) f.4)))

pub declaration_part : IsPart declaration_parts
declaration_part =
    seq_part start_joins
    (λ _. seq_part gap_joins (λ _. seq_part version_joins (λ _. seq_part any_joins version_behind_part)))

-- no text begins a declaration of UTF-8, and goes on from one of another encoding
pub one_encoding : (text more : List ℕ) → Starts foreign_declaration text → Starts utf8_declaration (text ++ more) → ⊥
one_encoding text more foreign utf8 =
    let f = foreign.2 in
    let u = utf8.2 in
    let D : List ℕ → Bool → Type 0 = λ s b. declaration_parts b s [] in
    let a = from_declaration f.spelled.0 f.front (foreign.1 ++ more) f.spelled.1 in
    let b = from_declaration u.spelled.0 u.front utf8.1 u.spelled.1 in
    let one = declaration_part.unique (is_utf8_name f.spelled.0) (is_utf8_name u.spelled.0) f.front (foreign.1 ++ more)
    u.front utf8.1 a b
    (sym (append_assoc f.front foreign.1 more) ∙ ap (λ xs. xs ++ more) (sym f.split) ∙ u.split) in
    both_ways (is_utf8_name f.spelled.0) f.spelled.2 (one.0 ∙ u.spelled.2)
