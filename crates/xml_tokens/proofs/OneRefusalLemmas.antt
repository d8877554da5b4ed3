-- Bytes are refused for one token, and not if they are a document.
use Rattle.std.proofs.Common.{◌≡◌, ◌⊎◌, ℕ, ◌<◌, ◌-◌, List, [], ◌∷◌, ◌++◌, length, drop, IsTrue}
use Rattle.std.proofs.Common.{refl, sym, ap, subst, ◌∙◌, inl, inr, append_assoc, arith, codes}
use Rattle.std.specs.Str.{IsValidUpTo}
use Rattle.std.proofs.lemmas.Bool.{both_ways}
use Rattle.std.proofs.lemmas.List.{append_cancel_left}
use Rattle.xml_tokens.specs.declared.fault.TokenWhy.{TokenWhy}
use Rattle.xml_tokens.specs.declared.fault.TokenWhy.TheVariants.{NotWellFormed}
use Rattle.xml_tokens.specs.Characters.{begins}
use Rattle.xml_tokens.specs.Tokens.{Token}
use Rattle.xml_tokens.specs.Tokens.Token.{opening}
use Rattle.xml_tokens.specs.Stages.{CanAllStand, Lexeme, Stage, last_stage, lexemes_text, stage_after}
use Rattle.xml_tokens.specs.Stages.Stage.{start}
use Rattle.xml_tokens.specs.Tree.{Element, Content, IsDocument, mark_of}
use Rattle.xml_tokens.specs.Refusal.{Begins, CanGoOn, IsInUtf8, IsNotTokensAt, IsNotUtf8At, IsStuckAt}
use Rattle.xml_tokens.specs.Refusal.{IsTokenFault, IsTokenRefusedAt, IsTooDeep}
use Rattle.xml_tokens.proofs.BeginLemmas.{begins_split}
use Rattle.xml_tokens.proofs.BehindNameLemmas.{not_name}
use Rattle.xml_tokens.proofs.OneDocumentLemmas.{behind_mark, foreign_never, foreign_starts, never_broken}
use Rattle.xml_tokens.proofs.OneDocumentLemmas.{never_stuck}
use Rattle.xml_tokens.proofs.OneTokenLemmas.{one_token}
use Rattle.xml_tokens.proofs.TokenFirstLemmas.{heads_of, tails_of, token_begins}

-- bytes are UTF-8 up to one offset at most
valid_one : (bytes : List ℕ) (m n : ℕ) → IsValidUpTo bytes m → IsValidUpTo bytes n → m ≡ n
valid_one bytes m n x y =
    let low : m < n → ⊥ = λ less. x.longest n less y.front in
    let high : n < m → ⊥ = λ less. y.longest m less x.front in
    omega (arith, low, high)

utf8_one : (bytes : List ℕ) (at place : ℕ) → IsNotUtf8At bytes at → IsNotUtf8At bytes place → at ≡ place
utf8_one bytes at place (inl bad) (inl other) = valid_one bytes at place bad other
utf8_one bytes at place (inl bad) (inr (utf8, foreign, is)) = absurd (never_broken bytes at utf8 bad)
utf8_one bytes at place (inr (utf8, foreign, is)) (inl bad) = absurd (never_broken bytes place utf8 bad)
utf8_one bytes at place (inr (utf8, foreign, is)) (inr (utf8', foreign', is')) = is ∙ sym is'

not_in_utf8 : (bytes : List ℕ) (at : ℕ) → IsNotUtf8At bytes at → IsInUtf8 bytes → ⊥
not_in_utf8 bytes at (inl bad) (utf8, native) = never_broken bytes at utf8 bad
not_in_utf8 bytes at (inr (utf8, foreign, is)) (utf8', native) = native foreign

-- where no token follows, the text has one list of lexemes
one_path : (most : ℕ) (s : Stage) (ks ls : List Lexeme) (r q : List ℕ) → CanAllStand most s ks r →
    CanAllStand most s ls q → lexemes_text ks ++ r ≡ lexemes_text ls ++ q →
    (Begins most (last_stage s ks) r → ⊥) → (Begins most (last_stage s ls) q → ⊥) →
    (last_stage s ks ≡ last_stage s ls) × (r ≡ q)
one_path most s [] [] r q x y e end last = (refl, e)
one_path most s [] (l ∷ ls) r q x y e end last = absurd (end (record {
  token = l.token;
  front = l.text;
  rest = lexemes_text ls ++ q;
  split = e ∙ append_assoc l.text (lexemes_text ls) q;
  spelled = y.0;
  stands = y.1;
}))
one_path most s (k ∷ ks) [] r q x y e end last = absurd (last (record {
  token = k.token;
  front = k.text;
  rest = lexemes_text ks ++ r;
  split = sym e ∙ append_assoc k.text (lexemes_text ks) r;
  spelled = x.0;
  stands = x.1;
}))
one_path most s (k ∷ ks) (l ∷ ls) r q x y e end last =
    let here = lexemes_text ks ++ r in
    let there = lexemes_text ls ++ q in
    let far : k.text ++ here ≡ l.text ++ there =
    sym (append_assoc k.text (lexemes_text ks) r) ∙ e ∙ append_assoc l.text (lexemes_text ls) q in
    let one = one_token k.token l.token k.text here l.text there x.0 y.0 far in
    let text : here ≡ there =
    append_cancel_left k.text here there (far ∙ ap (λ t. t ++ there) (sym one.1)) in
    let P : Token → Type 0 = λ t. CanAllStand most (stage_after s t) ls q in
    let Q : Token → Type 0 = λ t. Begins most (last_stage (stage_after s t) ls) q → ⊥ in
    let more = one_path most (stage_after s k.token) ks ls r q x.2 (subst P (sym one.0) y.2) text end
    (subst Q (sym one.0) last) in
    (more.0 ∙ ap (λ t. last_stage (stage_after s t) ls) one.0, more.1)

-- no tag begins as a document type declaration does
doctype_shallow : (most : ℕ) (stage : Stage) (text : List ℕ) → IsTrue (begins (codes "<!DOCTYPE") text) →
    IsTooDeep most stage text → ⊥
doctype_shallow most stage text is deep =
    let r = drop (length (codes "<!DOCTYPE")) text in
    let f = token_begins (opening deep.tag) deep.front deep.rest (deep.xml, deep.is_tag) in
    let front = f.0 ∷ (f.1 ++ deep.rest) in
    let doctype = 33 ∷ ((codes "DOCTYPE" ++ r) ++ deep.more) in
    let same : 60 ∷ front ≡ 60 ∷ doctype =
    ap (λ xs. xs ++ deep.rest) (sym f.2) ∙ sym deep.split
    ∙ ap (λ xs. xs ++ deep.more) (begins_split (codes "<!DOCTYPE") text is) in
    not_name 33 f.0 refl f.3
    (heads_of f.0 33 (f.1 ++ deep.rest) ((codes "DOCTYPE" ++ r) ++ deep.more) (tails_of 60 60 front doctype same))

one_token_fault : (most : ℕ) (stage : Stage) (text : List ℕ) (why cause : TokenWhy) → IsTokenFault most stage text why →
    IsTokenFault most stage text cause → why ≡ cause
one_token_fault most stage text why cause (inl (doctype, is)) (inl (doctype', is')) = is ∙ sym is'
one_token_fault most stage text why cause (inl (doctype, is)) (inr (inl (deep, is'))) =
    absurd (doctype_shallow most stage text doctype deep)
one_token_fault most stage text why cause (inl (doctype, is)) (inr (inr (none, shallow, is'))) =
    absurd (both_ways (begins (codes "<!DOCTYPE") text) none doctype)
one_token_fault most stage text why cause (inr (inl (deep, is))) (inl (doctype, is')) =
    absurd (doctype_shallow most stage text doctype deep)
one_token_fault most stage text why cause (inr (inl (deep, is))) (inr (inl (deep', is'))) = is ∙ sym is'
one_token_fault most stage text why cause (inr (inl (deep, is))) (inr (inr (none, shallow, is'))) = absurd (shallow deep)
one_token_fault most stage text why cause (inr (inr (none, shallow, is))) (inl (doctype, is')) =
    absurd (both_ways (begins (codes "<!DOCTYPE") text) none doctype)
one_token_fault most stage text why cause (inr (inr (none, shallow, is))) (inr (inl (deep, is'))) = absurd (shallow deep)
one_token_fault most stage text why cause (inr (inr (none, shallow, is))) (inr (inr (none', shallow', is'))) = is ∙ sym is'

-- where and why the text is refused whose rest begins with no token
abbrev IsPlace : ℕ → Stage → List ℕ → ℕ → ℕ → TokenWhy → Type 0
IsPlace most stage rest end at why =
    (CanGoOn most stage rest × (at ≡ end) × (why ≡ NotWellFormed))
    ⊎ (¬ CanGoOn most stage rest × (at ≡ end - length rest) × IsTokenFault most stage rest why)

one_place : (most : ℕ) (stage : Stage) (rest : List ℕ) (end at place : ℕ) (why cause : TokenWhy) → IsPlace most stage rest end at why →
    IsPlace most stage rest end place cause → (at ≡ place) × (why ≡ cause)
one_place most stage rest end at place why cause (inl (goes, here, is)) (inl (goes', there, is')) =
    (here ∙ sym there, is ∙ sym is')
one_place most stage rest end at place why cause (inl (goes, here, is)) (inr (stops, there, fault)) = absurd (stops goes)
one_place most stage rest end at place why cause (inr (stops, here, fault)) (inl (goes, there, is)) = absurd (stops goes)
one_place most stage rest end at place why cause (inr (stops, here, fault)) (inr (stops', there, fault')) =
    (here ∙ sym there, one_token_fault most stage rest why cause fault fault')

one_stuck : (most : ℕ) (text : List ℕ) (end at place : ℕ) (why cause : TokenWhy) → IsStuckAt most start text end at why →
    IsStuckAt most start text end place cause → (at ≡ place) × (why ≡ cause)
one_stuck most text end at place why cause x y =
    let path = one_path most start x.lexemes y.lexemes x.rest y.rest x.stuck.stand y.stuck.stand
    (sym x.stuck.split ∙ y.stuck.split) x.stuck.no_more y.stuck.no_more in
    one_place most (last_stage start y.lexemes) y.rest end at place why cause
    (subst (λ s. IsPlace most s y.rest end at why) path.0
    (subst (λ r. IsPlace most (last_stage start x.lexemes) r end at why) path.1 x.place))
    y.place

one_tokens : (most : ℕ) (bytes : List ℕ) (at place : ℕ) (why cause : TokenWhy) → IsNotTokensAt most bytes at why →
    IsNotTokensAt most bytes place cause → (at ≡ place) × (why ≡ cause)
one_tokens most bytes at place why cause (text, split, stuck) (text', split', stuck') =
    let same : text ≡ text' = behind_mark bytes text split ∙ sym (behind_mark bytes text' split') in
    one_stuck most text' (length bytes) at place why cause
    (subst (λ t. IsStuckAt most start t (length bytes) at why) same stuck) stuck'

module _ (most : ℕ) (bytes : List ℕ) (root : Element) (c : Content) (x : IsDocument most bytes root c) (at : ℕ) where
  whole_text : drop (length (mark_of bytes)) bytes ≡ lexemes_text x.lexemes
  whole_text = sym (behind_mark bytes x.text x.marked) ∙ x.whole.spelled

  -- a document is in UTF-8
  document_utf8 : IsNotUtf8At bytes at → ⊥
  document_utf8 (inl bad) = never_broken bytes at x.utf8 bad
  document_utf8 (inr (utf8, foreign, is)) =
      foreign_never most (drop (length (mark_of bytes)) bytes) x.lexemes whole_text x.whole.stand x.whole.ended
      (foreign_starts bytes foreign)

  -- each token of a document is allowed
  document_tokens : (why : TokenWhy) → IsNotTokensAt most bytes at why → ⊥
  document_tokens why (text, split, s) =
      let stuck = s.stuck in
      never_stuck most start x.lexemes s.lexemes s.rest x.whole.stand x.whole.ended stuck.stand
      (sym whole_text ∙ sym (behind_mark bytes text split) ∙ stuck.split) stuck.no_more stuck.unfinished

-- bytes are refused for one reason at one offset
pub one_token_refusal : (most : ℕ) (bytes : List ℕ) (at place : ℕ) (why cause : TokenWhy) →
    IsTokenRefusedAt most bytes at why → IsTokenRefusedAt most bytes place cause →
    (at ≡ place) × (why ≡ cause)
one_token_refusal most bytes at place why cause (inl (bad, is)) (inl (bad', is')) =
    (utf8_one bytes at place bad bad', is ∙ sym is')
one_token_refusal most bytes at place why cause (inl (bad, is)) (inr (utf8, tokens)) = absurd (not_in_utf8 bytes at bad utf8)
one_token_refusal most bytes at place why cause (inr (utf8, tokens)) (inl (bad, is)) =
    absurd (not_in_utf8 bytes place bad utf8)
one_token_refusal most bytes at place why cause (inr (utf8, tokens)) (inr (utf8', tokens')) =
    one_tokens most bytes at place why cause tokens tokens'

-- no token of a document is refused
pub document_not_refused : (most : ℕ) (bytes : List ℕ) (root : Element) (c : Content) (at : ℕ) (why : TokenWhy) →
    IsDocument most bytes root c → IsTokenRefusedAt most bytes at why → ⊥
document_not_refused most bytes root c at why document (inl (bad, is)) = document_utf8 most bytes root c document at bad
document_not_refused most bytes root c at why document (inr (utf8, tokens)) =
    document_tokens most bytes root c document at why tokens
