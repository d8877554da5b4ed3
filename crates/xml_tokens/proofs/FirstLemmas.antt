-- The beginning of a document, and the texts of its elements.
use Rattle.std.proofs.Common.{◌≡◌, ◌≤◌, ◌<◌, ℕ, suc, ◌+◌, List, [], ◌∷◌, ◌++◌, length, reverse, take, drop, true, false}
use Rattle.std.proofs.Common.{refl, sym, ap, subst, ◌∙◌}
use Rattle.std.proofs.Common.{append_assoc, arith, inl, ⊎_elim, Some, None, ◌&&◌, bytes_eq}
use Rattle.std.specs.Prelude.{chars, ◌^◌}
use Rattle.std.specs.List.{AllZip, list_all}
use Rattle.std.specs.Str.{IsUtf8}
use Rattle.std.proofs.lemmas.Bool.{and_parts, cases_Bool, cond-true, cond-false, false_from_ne_true}
use Rattle.std.proofs.lemmas.List.{length-append, length-take, take-append-drop, append_cancel_left}
use Rattle.std.proofs.lemmas.List.{nil_from_length}
use Rattle.std.proofs.lemmas.List.Folds.{list_all-append}
use Rattle.std.proofs.lemmas.Str.{IsUtf8-drop, IsUtf8-from_is_utf8, is_utf8-from_IsUtf8, IsCharBoundary-from_take}
use Rattle.std.proofs.lemmas.Str.{chars-append, IsUtf8-encode, chars-encodes}
use Rattle.std.proofs.lemmas.Slice.Eq.{bytes_eq-Decides}
use Rattle.atom_values.specs.XmlText.{IsXmlText, IsLongestXmlPrefix, is_xml_char}
use Rattle.atom_values.proofs.XmlTextLemmas.{IsXmlText-refused}
use Rattle.xml_tokens.specs.declared.tag.Attribute.{Attribute as Raw}
use Rattle.xml_tokens.specs.Characters.{QName, IsQName, IsName, begins, name_text}
use Rattle.xml_tokens.specs.Tokens.{Attribute}
use Rattle.xml_tokens.specs.Tree.{mark, mark_of}
use Rattle.xml_tokens.specs.Children.{attribute_in}
use Rattle.xml_tokens.specs.Scopes.{IsLawfulOf}
use Rattle.std.proofs.Common.{get_or, add-one}
use Rattle.std.proofs.Math.Seq.{drop-cons, take-suc}
use Rattle.std.proofs.lemmas.List.{length-drop}
use Rattle.xml_tokens.specs.declared.elements.Elements.{Elements}
use Rattle.xml_tokens.specs.declared.elements.Stage.TheVariants.{Start}
use Rattle.xml_tokens.specs.Stages.Stage.{start}
use Rattle.xml_tokens.specs.Scopes.{AreScopesOf}
use Rattle.xml_tokens.specs.Progress.{IsAt, IsBehindXml, IsNameOfOpen, IsStageOf, first_point}
use Rattle.xml_tokens.proofs.BeginLemmas.{begins_from, begins_split}
use Rattle.xml_tokens.proofs.EventLemmas.{same_name}
use Rattle.xml_tokens.proofs.PartLemmas.{splits, same_front}
use Rattle.xml_tokens.proofs.SuffixLemmas.{begins_more}
use Rattle.xml_tokens.proofs.XmlLemmas.{xml_append, xml_from, xml_parts, xml_rest}

-- the name of an attribute, as it is written, is a name without a prefix
pub name_matches : (a : QName) (name : List ℕ) → IsQName a → IsName name →
    bytes_eq (name_text a) name ≡ (bytes_eq a.prefix [] && bytes_eq a.local name)
name_matches a name lawful is =
    let G : List ℕ → Type 0 = λ p. IsQName (record { prefix = p; local = a.local }) →
    bytes_eq (name_text (record { prefix = p; local = a.local })) name ≡ (bytes_eq p [] && bytes_eq a.local name) in
    let at : (p : List ℕ) → G p = λ p. elim p as G [
      | [] ↦ λ q. refl
      | b ∷ bs ↦ λ q. false_from_ne_true _ (λ e.
          let same = (bytes_eq-Decides (name_text (record { prefix = b ∷ bs; local = a.local })) name).0 e in
          let one = same_name (record { prefix = b ∷ bs; local = a.local }) (record { prefix = []; local = name }) q
          (inl refl, is) same in
          let bad : b ∷ bs ≡ [] = ap (λ q. q.prefix) one in cc)
    ] in at a.prefix lawful

zip_before : (raw : Raw) (rest raws : List Raw) (read : List Attribute) → AllZip IsLawfulOf read (raws ++ raw ∷ rest) →
    (front : List Attribute) × AllZip IsLawfulOf front raws
zip_before raw rest [] read zip = ([], tt)
zip_before raw rest (r ∷ raws) [] zip = absurd zip
zip_before raw rest (r ∷ raws) (a ∷ read) zip =
    let more = zip_before raw rest raws read zip.1 in (a ∷ more.0, (zip.0, more.1))

-- the attributes before one that has the name
pub attribute_step : (name : List ℕ) (raws : List Raw) (raw : Raw) → IsName name →
    ((read : List Attribute) → AllZip IsLawfulOf read raws → attribute_in name read ≡ None) →
    bytes_eq raw.name.now name ≡ false →
    (read : List Attribute) → AllZip IsLawfulOf read (raws ++ raw ∷ []) → attribute_in name read ≡ None
attribute_step name [] raw is none other [] zip = absurd zip
attribute_step name [] raw is none other (a ∷ []) zip =
    let e = sym (name_matches a.name name zip.0.0 is) ∙ ap (λ t. bytes_eq t name) (sym zip.0.1.0) ∙ other in
    cond-false _ (Some a.value) None e
attribute_step name [] raw is none other (a ∷ b ∷ read) zip = absurd zip.1
attribute_step name (r ∷ raws) raw is none other [] zip = absurd zip
attribute_step name (r ∷ raws) raw is none other (a ∷ read) zip =
    let M = bytes_eq a.name.prefix [] && bytes_eq a.name.local name in
    ⊎_elim
    (λ here.
    let front = zip_before raw [] raws read zip.1 in
    let bad = none (a ∷ front.0) (zip.0, front.1) in
    let some = cond-true M (Some a.value) (attribute_in name front.0) here in
    let clash : Some a.value ≡ None = sym some ∙ bad in absurd cc)
    (λ away.
    cond-false M (Some a.value) (attribute_in name read) away
    ∙ attribute_step name raws raw is
    (λ bs all. sym (cond-false M (Some a.value) (attribute_in name bs) away) ∙ none (a ∷ bs) (zip.0, all))
    other read zip.1)
    (cases_Bool M)

-- the attribute that has the name
pub attribute_here : (name : List ℕ) (raws : List Raw) (raw : Raw) (rest : List Raw) (value : List ℕ) → IsName name →
    ((read : List Attribute) → AllZip IsLawfulOf read raws → attribute_in name read ≡ None) →
    bytes_eq raw.name.now name ≡ true →
    ((a : Attribute) → IsLawfulOf a raw → value ≡ a.value) →
    (read : List Attribute) → AllZip IsLawfulOf read (raws ++ raw ∷ rest) → Some value ≡ attribute_in name read
attribute_here name [] raw rest value is none same val [] zip = absurd zip
attribute_here name [] raw rest value is none same val (a ∷ read) zip =
    let e = sym (name_matches a.name name zip.0.0 is) ∙ ap (λ t. bytes_eq t name) (sym zip.0.1.0) ∙ same in
    ap (λ v. Some v) (val a zip.0) ∙ sym (cond-true _ (Some a.value) (attribute_in name read) e)
attribute_here name (r ∷ raws) raw rest value is none same val [] zip = absurd zip
attribute_here name (r ∷ raws) raw rest value is none same val (a ∷ read) zip =
    let M = bytes_eq a.name.prefix [] && bytes_eq a.name.local name in
    ⊎_elim
    (λ here.
    let front = zip_before raw rest raws read zip.1 in
    let bad = none (a ∷ front.0) (zip.0, front.1) in
    let some = cond-true M (Some a.value) (attribute_in name front.0) here in
    let clash : Some a.value ≡ None = sym some ∙ bad in absurd cc)
    (λ away.
    attribute_here name raws raw rest value is
    (λ bs all. sym (cond-false M (Some a.value) (attribute_in name bs) away) ∙ none (a ∷ bs) (zip.0, all))
    same val read zip.1
    ∙ sym (cond-false M (Some a.value) (attribute_in name read) away))
    (cases_Bool M)

-- the mark is XML text
mark_xml : IsXmlText mark
unfolding lib.Utf8.encode
mark_xml = xml_from mark (is_utf8-from_IsUtf8 mark (IsUtf8-encode 0xFEFF refl))
    (ap (list_all is_xml_char) (chars-encodes (0xFEFF ∷ []) refl))

-- the text after the mark
pub behind_mark : (t tail : List ℕ) → IsXmlText t → IsBehindXml tail →
    (mark_of (t ++ tail) ≡ mark_of t) × IsXmlText (drop (length (mark_of t)) t)
    × (drop (length (mark_of t)) (t ++ tail) ≡ drop (length (mark_of t)) t ++ tail)
    × (length (mark_of t) + length (drop (length (mark_of t)) t) ≡ length t)
behind_mark t tail xml behind =
    ⊎_elim
    (λ is.
    let split = begins_split mark t is in
    let whole = begins_from mark (t ++ tail) (drop (length mark) t ++ tail)
    (ap (λ k. k ++ tail) split ∙ append_assoc mark (drop (length mark) t) tail) in
    let here : mark_of t ≡ mark = cond-true (begins mark t) mark [] is in
    let there : mark_of (t ++ tail) ≡ mark = cond-true (begins mark (t ++ tail)) mark [] whole in
    let rest = xml_rest mark (drop (length mark) t) mark_xml (subst IsXmlText split xml) in
    let far : drop (length mark) (t ++ tail) ≡ drop (length mark) t ++ tail =
    append_cancel_left mark (drop (length mark) (t ++ tail)) (drop (length mark) t ++ tail)
    (sym (begins_split mark (t ++ tail) whole) ∙ ap (λ k. k ++ tail) split
    ∙ append_assoc mark (drop (length mark) t) tail) in
    let long = ap length split in
    let parts = length-append mark (drop (length mark) t) in (
      there ∙ sym here,
      subst (λ m. IsXmlText (drop (length m) t)) (sym here) rest,
      subst (λ m. drop (length m) (t ++ tail) ≡ drop (length m) t ++ tail) (sym here) far,
      subst (λ m. length m + length (drop (length m) t) ≡ length t) (sym here) (omega arith),
    ))
    (λ none.
    let whole = begins_more mark t tail mark_xml xml behind none in
    let here : mark_of t ≡ [] = cond-false (begins mark t) mark [] none in
    let there : mark_of (t ++ tail) ≡ [] = cond-false (begins mark (t ++ tail)) mark [] whole in (
      there ∙ sym here,
      subst (λ m. IsXmlText (drop (length m) t)) (sym here) xml,
      subst (λ m. drop (length m) (t ++ tail) ≡ drop (length m) t ++ tail) (sym here) refl,
      subst (λ m. length m + length (drop (length m) t) ≡ length t) (sym here) (omega arith),
    ))
    (cases_Bool (begins mark t))

-- after the longest XML text
pub behind_longest : (bytes : List ℕ) (n : ℕ) → IsUtf8 bytes → IsLongestXmlPrefix bytes n → IsBehindXml (drop n bytes)
behind_longest bytes n utf8 longest front back more some e xml =
    let t = take n bytes in
    let tail = drop n bytes in
    let whole : t ++ tail ≡ bytes = take-append-drop n bytes in
    let p = xml_parts t longest.is_text in
    let u = IsUtf8-from_is_utf8 t p.0 in
    let low = longest.before_end in
    let bound = IsCharBoundary-from_take bytes n utf8 (omega arith) u in
    let rest = IsUtf8-drop bytes n utf8 bound in
    let long = length-take n bytes in
    let total = ap length whole in
    let sizes = length-append t tail in
    let longer : (m : List ℕ) → front ≡ tail ++ m → ⊥ = λ m same.
    let q = xml_parts (tail ++ m) (subst IsXmlText same xml) in
    let all = and_parts (list_all is_xml_char (chars tail)) (list_all is_xml_char (chars m))
    (sym (ap (list_all is_xml_char) (chars-append tail m rest)
    ∙ list_all-append is_xml_char (chars tail) (chars m)) ∙ q.1) in
    let tail_xml = xml_from tail (is_utf8-from_IsUtf8 tail rest) all.0 in
    IsXmlText-refused bytes n longest (subst IsXmlText whole (xml_append t tail longest.is_text tail_xml)) in
    let shorter : (m : List ℕ) → tail ≡ front ++ m → 0 < length front → ⊥ = λ m same size.
    let parts = length-append front m in
    let tail_long = ap length same in
    let k = n + length front in
    let joined : bytes ≡ (t ++ front) ++ m =
    sym whole ∙ ap (λ k. t ++ k) same ∙ sym (append_assoc t front m) in
    let front_long = length-append t front in
    let within : k ≤ length bytes = omega arith in
    let cut = same_front (take k bytes) (drop k bytes) (t ++ front) m (take-append-drop k bytes ∙ joined)
    (let size = length-take k bytes in omega arith) in
    longest.longest k (omega arith) within
    (subst IsXmlText (sym cut.0) (xml_append t front longest.is_text xml)) in
    let at : (f : List ℕ) → front ≡ f → front ≡ [] = λ f. elim f as (λ f. front ≡ f → front ≡ []) [
      | [] ↦ λ same. same
      | b ∷ bs ↦ λ same.
          let size : 0 < length front = let k = ap length same in omega arith in
          absurd (⊎_elim (λ l. longer l.0 l.1) (λ s. shorter s.0 s.1 size) (splits tail more front back e))
    ] in at front refl

-- after XML text there is nothing
pub behind_whole : (bytes : List ℕ) → IsBehindXml (drop (length bytes) bytes)
behind_whole bytes front back more some e xml =
    absurd (some (nil_from_length (drop (length bytes) bytes) (let size = length-drop (length bytes) bytes in
    omega arith)))

-- the reader at the beginning of a document
pub first_at : (most : ℕ) (input : List ℕ) (n : ℕ) (e : Elements) → n ≤ length input → IsXmlText (take n input) →
    IsBehindXml (drop n input) → e.most ≡ most → (1 ≤ most) × (most < 2 ^ 64) → e.stage ≡ Start → e.empty ≡ false → e.names.items ≡ [] →
    AreScopesOf [] e.scopes → e.end ≡ n → e.length ≡ length input →
    e.cursor.rest.now ≡ drop (length (mark_of (take n input))) (take n input) → IsAt e (first_point most input)
first_at most input n e within xml behind same_most range stage empty items levels end total rest =
    let t = take n input in
    let tail = drop n input in
    let m = behind_mark t tail xml behind in
    let whole : t ++ tail ≡ input = take-append-drop n input in
    let same : mark_of input ≡ mark_of t = ap mark_of (sym whole) ∙ m.0 in
    let long = length-take n input in
    let sizes = length-append t tail in
    let all = ap length whole in
    let spelled : drop (length (mark_of input)) input ≡ drop (length (mark_of t)) t ++ tail =
    ap (λ k. drop (length k) input) same ∙ ap (drop (length (mark_of t))) (sym whole) ∙ m.2 in
    record {
      opened = [];
      tail = tail;
      most = same_most;
      range = range;
      stage = subst (λ b. IsStageOf e.stage b [] start) (sym empty)
          (subst (λ s. IsStageOf s false [] start) (sym stage) refl);
      names = subst (λ k. AllZip IsNameOfOpen [] (reverse k)) (sym items) tt;
      scopes = levels;
      depth = omega arith;
      text = spelled ∙ ap (λ r. r ++ tail) (sym rest);
      xml = subst IsXmlText (sym rest) m.1;
      behind = behind;
      at =
          let marks = ap length same in
          let lengths = ap length rest in
          let sum = m.3 in
          omega arith;
      whole = omega arith;
    }

-- no attributes are read
pub attribute_none : (name : List ℕ) (read : List Attribute) → AllZip IsLawfulOf read [] → attribute_in name read ≡ None
attribute_none name [] zip = refl
attribute_none name (a ∷ read) zip = absurd zip

-- an attribute that hasn't the name
pub attribute_turn : (name : List ℕ) (shown items : List Raw) (i : ℕ) (d : Raw) → shown ≡ items → i < length shown →
    IsName name →
    ((read : List Attribute) → AllZip IsLawfulOf read (take i items) → attribute_in name read ≡ None) →
    bytes_eq (get_or shown i d).name.now name ≡ false →
    (read : List Attribute) → AllZip IsLawfulOf read (take (i + 1) items) → attribute_in name read ≡ None
attribute_turn name shown items i d same low is none other =
    let grown : take (i + 1) items ≡ take i items ++ get_or shown i d ∷ [] =
    subst (λ xs. take (i + 1) xs ≡ take i xs ++ get_or shown i d ∷ []) same
    (ap (λ n. take n shown) (add-one i) ∙ take-suc shown i d low) in
    subst (λ xs. (read : List Attribute) → AllZip IsLawfulOf read xs → attribute_in name read ≡ None) (sym grown)
    (attribute_step name (take i items) (get_or shown i d) is none other)

-- the attribute that has the name, by its index
pub attribute_found : (name : List ℕ) (shown items : List Raw) (i : ℕ) (d : Raw) (value : List ℕ) → shown ≡ items →
    i < length shown → IsName name →
    ((read : List Attribute) → AllZip IsLawfulOf read (take i items) → attribute_in name read ≡ None) →
    bytes_eq (get_or shown i d).name.now name ≡ true →
    ((a : Attribute) → IsLawfulOf a (get_or shown i d) → value ≡ a.value) →
    (read : List Attribute) → AllZip IsLawfulOf read items → Some value ≡ attribute_in name read
attribute_found name shown items i d value same low is none here val read zip =
    let whole : items ≡ take i items ++ get_or shown i d ∷ drop (suc i) items =
    subst (λ xs. xs ≡ take i xs ++ get_or shown i d ∷ drop (suc i) xs) same
    (sym (take-append-drop i shown) ∙ ap (λ k. take i shown ++ k) (drop-cons shown i d low)) in
    attribute_here name (take i items) (get_or shown i d) (drop (suc i) items) value is none here val read
    (subst (AllZip IsLawfulOf read) whole zip)
