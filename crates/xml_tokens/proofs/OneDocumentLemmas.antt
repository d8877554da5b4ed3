-- The bytes of a document are read in one way, and no token of them is refused.
use Rattle.std.proofs.Common.{◌≡◌, ℕ, List, [], ◌∷◌, ◌++◌, length, drop, IsTrue, refl, sym, ap, subst, ◌∙◌, inl, inr}
use Rattle.std.proofs.Common.{⊎_elim, append_assoc, arith, ◌≤◌}
use Rattle.std.specs.Str.{IsUtf8, IsValidUpTo, is_utf8}
use Rattle.std.proofs.lemmas.Bool.{cases_Bool, cond-true, cond-false}
use Rattle.std.proofs.lemmas.List.{append-nil, append_cancel_left, take_all}
use Rattle.std.proofs.lemmas.Str.{IsUtf8-from_is_utf8}
use Rattle.xml_tokens.specs.declared.fault.TokenWhy.{TokenWhy}
use Rattle.xml_tokens.specs.declared.fault.TokenFault.{TokenFault}
use Rattle.xml_tokens.specs.declared.fault.TokenFault.TheVariants.{NotRead, NoMemory}
use Rattle.xml_tokens.specs.Characters.{begins}
use Rattle.xml_tokens.specs.Tokens.{Token}
use Rattle.xml_tokens.specs.Stages.{CanAllStand, Lexeme, Stage, last_stage, lexemes_text, stage_after}
use Rattle.xml_tokens.specs.Stages.Stage.{start, epilog}
use Rattle.xml_tokens.specs.Tree.{Element, Event, Content, IsDocument, contents, events, mark, mark_of, with_element}
use Rattle.xml_tokens.specs.Tree.Content.{nothing, element}
use Rattle.xml_tokens.specs.Tree.Event.{begin}
use Rattle.xml_tokens.specs.Refusal.{Begins, IsForeign, IsTokenRefusedAt}
use Rattle.xml_tokens.specs.Reading.{Starts, foreign_declaration}
use Rattle.xml_tokens.specs.Progress.{IsFaultFrom, IsRefusal, Leads, Point, first_point}
use Rattle.xml_tokens.proofs.BeginLemmas.{begins_split}
use Rattle.xml_tokens.proofs.DocumentLemmas.{whole_told}
use Rattle.xml_tokens.proofs.OneTokenLemmas.{one_token}
use Rattle.xml_tokens.proofs.PartLemmas.{nil_front}
use Rattle.xml_tokens.proofs.ProgressLemmas.{not_foreign}
use Rattle.xml_tokens.proofs.StepLemmas.{spelled_some}

-- text after a token, where nothing follows it
last_text : (l : Lexeme) (ls : List Lexeme) → l.text ++ (lexemes_text ls ++ []) ≡ lexemes_text (l ∷ ls)
last_text l ls = ap (λ r. l.text ++ r) (append-nil (lexemes_text ls))

-- a whole text has one list of lexemes
one_list : (most : ℕ) (s : Stage) (ks ls : List Lexeme) → CanAllStand most s ks [] → CanAllStand most s ls [] →
    lexemes_text ks ≡ lexemes_text ls → ks ≡ ls
one_list most s [] [] x y e = refl
one_list most s [] (l ∷ ls) x y e = absurd (spelled_some l.token l.text _ y.0 (nil_front l.text (lexemes_text ls) (sym e)))
one_list most s (k ∷ ks) [] x y e = absurd (spelled_some k.token k.text _ x.0 (nil_front k.text (lexemes_text ks) e))
one_list most s (k ∷ ks) (l ∷ ls) x y e =
    let one = one_token k.token l.token k.text (lexemes_text ks ++ []) l.text (lexemes_text ls ++ []) x.0 y.0
    (last_text k ks ∙ e ∙ sym (last_text l ls)) in
    let text : lexemes_text ks ≡ lexemes_text ls =
    append_cancel_left k.text (lexemes_text ks) (lexemes_text ls)
    (e ∙ ap (λ t. t ++ lexemes_text ls) (sym one.1)) in
    let more = one_list most (stage_after s k.token) ks ls x.2
    (subst (λ t. CanAllStand most (stage_after s t) ls []) (sym one.0) y.2) text in
    λ i. record { token = one.0 i; text = one.1 i } ∷ more i

-- a document isn't stuck at a token
pub never_stuck : (most : ℕ) (s : Stage) (ls ks : List Lexeme) (rest : List ℕ) → CanAllStand most s ls [] →
    last_stage s ls ≡ epilog → CanAllStand most s ks rest → lexemes_text ls ≡ lexemes_text ks ++ rest →
    (Begins most (last_stage s ks) rest → ⊥) → (rest ≡ [] → last_stage s ks ≡ epilog → ⊥) → ⊥
never_stuck most s [] [] rest x end y e none more = more (sym e) end
never_stuck most s (l ∷ ls) [] rest x end y e none more =
    none (record {
      token = l.token;
      front = l.text;
      rest = lexemes_text ls ++ [];
      split = sym e ∙ sym (last_text l ls);
      spelled = x.0;
      stands = x.1;
    })
never_stuck most s [] (k ∷ ks) rest x end y e none more =
    spelled_some k.token k.text _ y.0
    (nil_front k.text (lexemes_text ks) (nil_front (lexemes_text (k ∷ ks)) rest (sym e)))
never_stuck most s (l ∷ ls) (k ∷ ks) rest x end y e none more =
    let far : lexemes_text (k ∷ ks) ++ rest ≡ k.text ++ (lexemes_text ks ++ rest) =
    append_assoc k.text (lexemes_text ks) rest in
    let one = one_token l.token k.token l.text (lexemes_text ls ++ []) k.text (lexemes_text ks ++ rest) x.0 y.0
    (last_text l ls ∙ e ∙ far) in
    let text : lexemes_text ls ≡ lexemes_text ks ++ rest =
    append_cancel_left l.text (lexemes_text ls) (lexemes_text ks ++ rest)
    (e ∙ far ∙ ap (λ t. t ++ (lexemes_text ks ++ rest)) (sym one.1)) in
    let P : Token → Type 0 = λ t. CanAllStand most (stage_after s t) ks rest in
    let Q : Token → Type 0 = λ t. Begins most (last_stage (stage_after s t) ks) rest → ⊥ in
    let R : Token → Type 0 = λ t. rest ≡ [] → last_stage (stage_after s t) ks ≡ epilog → ⊥ in
    never_stuck most (stage_after s l.token) ls ks rest x.2 end (subst P (sym one.0) y.2) text (subst Q (sym one.0) none)
    (subst R (sym one.0) more)

-- the mark, and the text after it
pub marked : (bytes : List ℕ) → bytes ≡ mark_of bytes ++ drop (length (mark_of bytes)) bytes
marked bytes =
    let G : List ℕ → Type 0 = λ m. bytes ≡ m ++ drop (length m) bytes in
    ⊎_elim
    (λ is. subst G (sym (cond-true (begins mark bytes) mark [] is)) (begins_split mark bytes is))
    (λ none. subst G (sym (cond-false (begins mark bytes) mark [] none)) refl)
    (cases_Bool (begins mark bytes))

pub behind_mark : (bytes text : List ℕ) → bytes ≡ mark_of bytes ++ text → text ≡ drop (length (mark_of bytes)) bytes
behind_mark bytes text e =
    append_cancel_left (mark_of bytes) text (drop (length (mark_of bytes)) bytes) (sym e ∙ marked bytes)

-- a document has one root and one content
pub one_document : (most : ℕ) (bytes : List ℕ) (r p : Element) (c k : Content) → IsDocument most bytes r c →
    IsDocument most bytes p k → (r ≡ p) × (c ≡ k)
one_document most bytes r p c k x y =
    let text : x.text ≡ y.text = behind_mark bytes x.text x.marked ∙ sym (behind_mark bytes y.text y.marked) in
    let ls : x.lexemes ≡ y.lexemes =
    one_list most start x.lexemes y.lexemes x.whole.stand y.whole.stand (sym x.whole.spelled ∙ text ∙ y.whole.spelled) in
    let tree : element r c nothing ∷ [] ≡ element p k nothing ∷ [] =
    sym x.tree ∙ ap (λ l. contents (events start (length (mark_of bytes)) l)) ls ∙ y.tree in
    let root : r ≡ p = cc in
    let content : c ≡ k = cc in
    (root, content)

pub foreign_never : (most : ℕ) (text : List ℕ) (ls : List Lexeme) → text ≡ lexemes_text ls → CanAllStand most start ls [] →
    last_stage start ls ≡ epilog → Starts foreign_declaration text → ⊥
foreign_never most text [] e stand end foreign = let bad : start ≡ epilog = end in cc
foreign_never most text (l ∷ ls) e stand end foreign =
    not_foreign most text l (lexemes_text ls ++ []) (e ∙ sym (last_text l ls)) stand.0 stand.1 foreign

-- no token of a document is refused
pub never_refused : (most : ℕ) (bytes : List ℕ) (root : Element) (c : Content) (total at : ℕ) (why : TokenWhy) →
    IsDocument most bytes root c → IsRefusal total (first_point most bytes) at why → ⊥
never_refused most bytes root c total at why x r =
    let text : drop (length (mark_of bytes)) bytes ≡ lexemes_text x.lexemes =
    sym (behind_mark bytes x.text x.marked) ∙ x.whole.spelled in
    ⊎_elim
    (λ s.
    let stuck = s.0.stuck in
    never_stuck most start x.lexemes s.0.lexemes s.0.rest x.whole.stand x.whole.ended stuck.stand
    (sym text ∙ stuck.split) stuck.no_more stuck.unfinished)
    (λ f. foreign_never most (drop (length (mark_of bytes)) bytes) x.lexemes text x.whole.stand x.whole.ended f.1)
    r

-- a document is UTF-8
pub never_broken : (bytes : List ℕ) (at : ℕ) → IsTrue (is_utf8 bytes) → IsValidUpTo bytes at → ⊥
never_broken bytes at utf8 valid =
    let long : length bytes ≤ length bytes = omega arith in
    valid.longest (length bytes) valid.short
    (subst IsUtf8 (sym (take_all (length bytes) bytes long)) (IsUtf8-from_is_utf8 bytes utf8))

-- a whole document, by what a reader told of it
pub document_of : (most : ℕ) (bytes : List ℕ) (to : Point) (root : Element) (told : List Event) → IsTrue (is_utf8 bytes) →
    Leads (first_point most bytes) (begin root ∷ told) to → to.text ≡ [] → to.stage ≡ epilog →
    (inner : Content) × (contents told ≡ inner ∷ nothing ∷ []) × IsDocument most bytes root inner
document_of most bytes to root told utf8 path text stage =
    let whole = whole_told (first_point most bytes) to root told path refl stage in (
      whole.0,
      whole.1,
      record {
        utf8 = utf8;
        text = drop (length (mark_of bytes)) bytes;
        lexemes = path.lexemes;
        marked = marked bytes;
        whole = record {
          spelled = path.split ∙ ap (λ t. lexemes_text path.lexemes ++ t) text ∙ append-nil (lexemes_text path.lexemes);
          stand = subst (CanAllStand most start path.lexemes) text path.stand;
          ended = sym path.stage ∙ stage;
        };
        tree = ap contents (sym path.adds) ∙ ap (with_element root) whole.1;
      },
    )

-- the declaration of another encoding begins the text after the mark
pub foreign_starts : (bytes : List ℕ) → IsForeign bytes →
    Starts foreign_declaration (drop (length (mark_of bytes)) bytes)
foreign_starts bytes f = (
  tt,
  f.rest,
  record {
    front = f.text;
    split = sym (behind_mark bytes (f.text ++ f.rest) (f.split ∙ append_assoc (mark_of bytes) f.text f.rest));
    spelled = (f.encoding, f.declared, f.foreign);
  },
)

-- a refusal of a token, in the words of the whole document
pub token_refused : (most : ℕ) (bytes : List ℕ) (at : ℕ) (why : TokenWhy) → IsTrue (is_utf8 bytes) →
    IsRefusal (length bytes) (first_point most bytes) at why → IsTokenRefusedAt most bytes at why
token_refused most bytes at why utf8 r =
    let text = drop (length (mark_of bytes)) bytes in
    ⊎_elim
    (λ s.
    let native : IsForeign bytes → ⊥ = λ f. s.1 refl (foreign_starts bytes f) in
    inr ((utf8, native), (text, marked bytes, s.0)))
    (λ f.
    let found = f.1.2 in
    let foreign : IsForeign bytes = record {
      encoding = found.spelled.0;
      text = found.front;
      rest = f.1.1;
      split = marked bytes ∙ ap (λ t. mark_of bytes ++ t) found.split
          ∙ sym (append_assoc (mark_of bytes) found.front f.1.1);
      declared = found.spelled.1;
      foreign = found.spelled.2;
    } in
    inl (inr (utf8, foreign, f.2), f.3))
    r

-- a fault of a reader that began with the document
pub fault_refused : (most : ℕ) (bytes : List ℕ) (fault : TokenFault) (at : ℕ) (why : TokenWhy) → IsTrue (is_utf8 bytes) →
    IsFaultFrom (length bytes) (first_point most bytes) fault → fault ≡ NotRead at why → IsTokenRefusedAt most bytes at why
fault_refused most bytes fault at why utf8 f same =
    token_refused most bytes at why utf8 (subst (IsFaultFrom (length bytes) (first_point most bytes)) same f)

pub fault_only : (most : ℕ) (bytes : List ℕ) (root : Element) (c : Content) (fault : TokenFault) →
    IsDocument most bytes root c →
    IsFaultFrom (length bytes) (first_point most bytes) fault → fault ≡ NoMemory
fault_only most bytes root c (NotRead at why) x f = absurd (never_refused most bytes root c (length bytes) at why x f)
fault_only most bytes root c NoMemory x f = refl
