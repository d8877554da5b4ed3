-- The first bytes of a connection that decide what `read_request` returns, whatever bytes follow.
use Rattle.std.specs.Prelude.{◌≡◌, ◌⊎◌, ℕ, List, ◌++◌, Err}
use Rattle.httparse.specs.Grammar.{EndsInTarget}
use Rattle.http_face.specs.Request.{RequestValue}
use Rattle.http_face.specs.Heard.{IsHeard, IsMisheard, body_of}
use Rattle.http_face.specs.declared.fault.RequestFault.{RequestFault}
use Rattle.http_face.specs.declared.fault.RequestFault.TheVariants.{EndedEarly}

-- one request is heard, whatever follows
abbrev pub IsSurelyHeard : List ℕ → Type 0
IsSurelyHeard bytes = (request : RequestValue) × ((more : List ℕ) → IsHeard (bytes ++ more) request)

-- one fault fits, whatever follows
abbrev pub IsSurelyMisheard : List ℕ → Type 0
IsSurelyMisheard bytes = (fault : RequestFault) × ((more : List ℕ) → IsMisheard (bytes ++ more) fault)

-- Nothing more has to be read. A target is tested for UTF-8 at its end, so bytes that end within one aren't settled by
-- a fault.
abbrev pub IsSettled : List ℕ → Type 0
IsSettled bytes = IsSurelyHeard bytes ⊎ (IsSurelyMisheard bytes × ¬ EndsInTarget bytes)

abbrev pub IsUnsettled : List ℕ → Type 0
IsUnsettled bytes = ¬ IsSettled bytes

-- the body that a head states has more bytes than `behind`, where it states one
abbrev pub EndsWithinBody : List ℕ → List (List ℕ × List ℕ) → List ℕ → Type 0
EndsWithinBody method fields behind = (all : ℕ) → body_of method fields all behind ≡ Err (EndedEarly all)
