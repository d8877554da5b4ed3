-- Why bytes are no text of tokens that is read, and where: the first of two steps that finds a fault.
use Rattle.std.specs.Prelude.{◌≡◌, ◌≢◌, ◌⊎◌, ℕ, ◌-◌, List, [], ◌++◌, length, false, IsTrue, Option, codes}
use Rattle.std.specs.Str.{is_utf8, IsValidUpTo}
use Rattle.atom_values.specs.XmlText.{IsXmlText}
use Rattle.xml_tokens.specs.declared.fault.TokenWhy.{TokenWhy}
use Rattle.xml_tokens.specs.declared.fault.TokenWhy.TheVariants.{NotUtf8, Doctype, NotWellFormed, TooDeep}
use Rattle.xml_tokens.specs.Characters.{begins}
use Rattle.xml_tokens.specs.Tokens.{Tag, Token, IsDeclaration, IsSpelled, IsTag, is_utf8_name}
use Rattle.xml_tokens.specs.Stages.{Stage, Lexeme, CanStand, CanAllStand, last_stage, lexemes_text, open_in}
use Rattle.xml_tokens.specs.Stages.Stage.{start, epilog}
use Rattle.xml_tokens.specs.Tree.{mark_of}

-- the text begins with a declaration of an encoding whose texts aren't UTF-8
pub record IsForeign (bytes : List ℕ) : Type 0 where
  pub encoding : Option (List ℕ)
  pub text : List ℕ
  pub rest : List ℕ
  pub split : bytes ≡ mark_of bytes ++ text ++ rest
  pub declared : IsDeclaration encoding text
  pub foreign : is_utf8_name encoding ≡ false

-- step 1: the first sequence that isn't UTF-8, also where the end cuts it, or else the declaration
abbrev pub IsNotUtf8At : List ℕ → ℕ → Type 0
IsNotUtf8At bytes at =
    IsValidUpTo bytes at ⊎ (IsTrue (is_utf8 bytes) × IsForeign bytes × (at ≡ length (mark_of bytes)))

abbrev pub IsInUtf8 : List ℕ → Type 0
IsInUtf8 bytes = IsTrue (is_utf8 bytes) × ¬ IsForeign bytes

-- a token that is allowed at the stage begins the text
pub record Begins (most : ℕ) (stage : Stage) (text : List ℕ) : Type 0 where
  pub token : Token
  pub front : List ℕ
  pub rest : List ℕ
  pub split : text ≡ front ++ rest
  pub spelled : IsSpelled token front rest
  pub stands : CanStand most stage token

-- some continuation of the text begins with a token that is allowed at the stage
abbrev pub CanGoOn : ℕ → Stage → List ℕ → Type 0
CanGoOn most stage text = (more : List ℕ) × Begins most stage (text ++ more)

-- the text, or some continuation of it, begins with a tag one level too deep
pub record IsTooDeep (most : ℕ) (stage : Stage) (text : List ℕ) : Type 0 where
  pub deep : length (open_in stage) ≡ most
  pub more : List ℕ
  pub tag : Tag
  pub front : List ℕ
  pub rest : List ℕ
  pub split : text ++ more ≡ front ++ rest
  pub xml : IsXmlText front
  pub is_tag : IsTag tag front

-- why the token that the text begins with isn't allowed
abbrev pub IsTokenFault : ℕ → Stage → List ℕ → TokenWhy → Type 0
IsTokenFault most stage text why =
    (IsTrue (begins (codes "<!DOCTYPE") text) × (why ≡ Doctype))
    ⊎ (IsTooDeep most stage text × (why ≡ TooDeep))
    ⊎ ((begins (codes "<!DOCTYPE") text ≡ false) × ¬ IsTooDeep most stage text × (why ≡ NotWellFormed))

-- from this stage on the text is these lexemes and then `rest`, where no token is allowed
pub record IsStuck (most : ℕ) (stage : Stage) (text : List ℕ) (lexemes : List Lexeme) (rest : List ℕ) : Type 0 where
  pub split : text ≡ lexemes_text lexemes ++ rest
  pub stand : CanAllStand most stage lexemes rest
  pub no_more : ¬ Begins most (last_stage stage lexemes) rest
  pub unfinished : rest ≡ [] → last_stage stage lexemes ≢ epilog

-- The first token of the text that isn't allowed, from this stage on. If the text ends within a token that could still
-- stand, the offset is `end`, at which the text ends, and else that of the token.
pub record IsStuckAt (most : ℕ) (stage : Stage) (text : List ℕ) (end at : ℕ) (why : TokenWhy) : Type 0 where
  pub lexemes : List Lexeme
  pub rest : List ℕ
  pub stuck : IsStuck most stage text lexemes rest
  pub place :
      (CanGoOn most (last_stage stage lexemes) rest × (at ≡ end) × (why ≡ NotWellFormed))
      ⊎ (¬ CanGoOn most (last_stage stage lexemes) rest × (at ≡ end - length rest)
      × IsTokenFault most (last_stage stage lexemes) rest why)

-- step 2: the first token of the input that isn't allowed
abbrev pub IsNotTokensAt : ℕ → List ℕ → ℕ → TokenWhy → Type 0
IsNotTokensAt most bytes at why =
    (text : List ℕ) × (bytes ≡ mark_of bytes ++ text) × IsStuckAt most start text (length bytes) at why

-- the bytes are refused for their encoding or a token, with this offset and reason; `most` is the greatest depth
abbrev pub IsTokenRefusedAt : ℕ → List ℕ → ℕ → TokenWhy → Type 0
IsTokenRefusedAt most bytes at why =
    (IsNotUtf8At bytes at × (why ≡ NotUtf8)) ⊎ (IsInUtf8 bytes × IsNotTokensAt most bytes at why)
