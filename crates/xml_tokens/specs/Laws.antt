-- Laws that the crates above cite. Each is a clause of the function of laws.rt.
use Rattle.std.specs.Prelude.{◌≡◌, ℕ, List}
use Rattle.xml_tokens.specs.declared.fault.TokenWhy.{TokenWhy}
use Rattle.xml_tokens.specs.Tree.{Element, Content, IsDocument}
use Rattle.xml_tokens.specs.Refusal.{IsTokenRefusedAt}

-- bytes are a document with one root and one content at most
abbrev pub BytesHaveOneTree : Type 0
BytesHaveOneTree =
    (most : ℕ) (bytes : List ℕ) (root other : Element) (content inner : Content) → IsDocument most bytes root content
    → IsDocument most bytes other inner → (root ≡ other) × (content ≡ inner)

-- bytes are refused for one reason of a token at one offset at most
abbrev pub TokensHaveOneRefusal : Type 0
TokensHaveOneRefusal =
    (most : ℕ) (bytes : List ℕ) (at place : ℕ) (why cause : TokenWhy) → IsTokenRefusedAt most bytes at why
    → IsTokenRefusedAt most bytes place cause → (at ≡ place) × (why ≡ cause)

-- no token of a document is refused
abbrev pub DocumentsAreNotRefused : Type 0
DocumentsAreNotRefused =
    (most : ℕ) (bytes : List ℕ) (root : Element) (content : Content) (at : ℕ) (why : TokenWhy)
    → IsDocument most bytes root content → ¬ IsTokenRefusedAt most bytes at why
