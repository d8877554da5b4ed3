-- A request of a client.
use Rattle.std.specs.Prelude.{ℕ, ◌≤◌, List, Option, length}
use Rattle.http_face.specs.declared.request.Verb.{Verb}

-- the method, the target as it is written, the media type of the body if the request states one, and the body
pub record RequestValue : Type 0 where
  pub verb : Verb
  pub target : List ℕ
  pub media : Option (List ℕ)
  pub body : List ℕ

-- the most bytes of a body
abbrev pub body_limit : ℕ
body_limit = 65_536

-- the rule of a request
abbrev pub IsRequest : RequestValue → Type 0
IsRequest request = length request.body ≤ body_limit
