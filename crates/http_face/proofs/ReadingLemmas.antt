-- The bytes of a connection have one reading.
use Rattle.std.proofs.Common.{◌≡◌, ◌≢◌, ℕ, List, length, codes, inl, inr, refl, sym, ap, ◌∙◌}
use Rattle.std.specs.Prelude.{◌⊎◌, Option, Result, Ok, Err, IfOk, IfErr}
use Rattle.httparse.specs.Grammar.{RequestHead}
use Rattle.httparse.proofs.GrammarLemmas.{request_unique}
use Rattle.http_face.specs.declared.fault.RequestFault.{RequestFault}
use Rattle.http_face.specs.declared.fault.RequestFault.TheVariants.{ConnFault, BadHead, HeadTooLarge, EndedEarly, NoLength, TwoLengths, BodyTooLarge, NoMemory}
use Rattle.http_face.specs.Heard.{IsHeard, IsMisheard, body_of, fields_of, verb_of, first_of, values_of, RequestsHaveOneReading, RequestsAreNotRefused, HeadsDecideTheFault}
use Rattle.http_face.specs.Request.{RequestValue}
use Rattle.http_face.specs.declared.request.Verb.{Verb}

-- the body depends on the head and on the bytes after it alone
same_body : (all : ℕ) (h k : RequestHead) (p q : List ℕ) → h ≡ k → p ≡ q →
    body_of h.method (fields_of h) all p ≡ body_of k.method (fields_of k) all q
same_body all h k p q e d =
    ap (λ (x : RequestHead). body_of x.method (fields_of x) all p) e
    ∙ ap (λ (x : List ℕ). body_of k.method (fields_of k) all x) d

abbrev request_of : Verb → List ℕ → Option (List ℕ) → List ℕ → RequestValue
request_of verb target media body = record { verb = verb; target = target; media = media; body = body }

same_request : (one other : RequestValue) → one.verb ≡ other.verb → one.target ≡ other.target →
    one.media ≡ other.media → one.body ≡ other.body → one ≡ other
same_request one other verb target media body =
    ap (λ (x : Verb). request_of x one.target one.media one.body) verb
    ∙ ap (λ (x : List ℕ). request_of other.verb x one.media one.body) target
    ∙ ap (λ (x : Option (List ℕ)). request_of other.verb other.target x one.body) media
    ∙ ap (λ (x : List ℕ). request_of other.verb other.target other.media x) body

same_ok : (a b : List ℕ) → ◌≡◌ {A = Result (List ℕ) RequestFault} (Ok a) (Ok b) → a ≡ b
same_ok a b e = cc

pub one_reading : RequestsHaveOneReading
one_reading bytes one other x y =
    let same = request_unique bytes x.head y.head x.behind y.behind x.begins.reads y.begins.reads in
    same_request one other
    (x.verb ∙ ap (λ (h : RequestHead). verb_of h.method) same.0 ∙ sym y.verb)
    (x.target ∙ ap (λ (h : RequestHead). h.target) same.0 ∙ sym y.target)
    (x.media ∙ ap (λ (h : RequestHead). first_of (values_of (codes "content-type") (fields_of h))) same.0
    ∙ sym y.media)
    (same_ok one.body other.body
    (sym x.body ∙ same_body (length bytes) x.head y.head x.behind y.behind same.0 same.1 ∙ y.body))

pub unrefused : RequestsAreNotRefused
unrefused bytes request fault x (inl (head, behind, begins, body)) =
    let same = request_unique bytes x.head head x.behind behind x.begins.reads begins.reads in
    let both : ◌≡◌ {A = Result (List ℕ) RequestFault} (Ok request.body) (Err fault) =
    sym x.body ∙ same_body (length bytes) x.head head x.behind behind same.0 same.1 ∙ body in
    cc
unrefused bytes request fault x (inr (none, why)) = none x.head x.behind x.begins

pub decided_fault : HeadsDecideTheFault
decided_fault bytes head behind fault x (inl (k, rest, begins, body)) =
    let same = request_unique bytes head k behind rest x.reads begins.reads in
    same_body (length bytes) head k behind rest same.0 same.1 ∙ body
decided_fault bytes head behind fault x (inr (none, why)) = absurd (none head behind x)

-- a result that is exact in both directions
pub only_request : (observable : Type 0) (left : List ℕ) (r : Result RequestValue RequestFault) →
    IfOk r (λ request. observable → IsHeard left request) →
    IfErr r (λ fault. fault ≢ ConnFault → fault ≢ NoMemory → observable → IsMisheard left fault) →
    (request : RequestValue) → IsHeard left request → observable →
    (r ≡ Ok request) ⊎ ((r ≡ Err ConnFault) ⊎ (r ≡ Err NoMemory))
only_request observable left (Ok found) heard refused request spelt seen =
    inl (ap Ok (one_reading left found request (heard seen) spelt))
only_request observable left (Err ConnFault) heard refused request spelt seen = inr (inl refl)
only_request observable left (Err NoMemory) heard refused request spelt seen = inr (inr refl)
only_request observable left (Err BadHead) heard refused request spelt seen =
    absurd (unrefused left request BadHead spelt (refused (λ e. cc) (λ e. cc) seen))
only_request observable left (Err HeadTooLarge) heard refused request spelt seen =
    absurd (unrefused left request HeadTooLarge spelt (refused (λ e. cc) (λ e. cc) seen))
only_request observable left (Err (EndedEarly n)) heard refused request spelt seen =
    absurd (unrefused left request (EndedEarly n) spelt (refused (λ e. cc) (λ e. cc) seen))
only_request observable left (Err NoLength) heard refused request spelt seen =
    absurd (unrefused left request NoLength spelt (refused (λ e. cc) (λ e. cc) seen))
only_request observable left (Err TwoLengths) heard refused request spelt seen =
    absurd (unrefused left request TwoLengths spelt (refused (λ e. cc) (λ e. cc) seen))
only_request observable left (Err (BodyTooLarge n)) heard refused request spelt seen =
    absurd (unrefused left request (BodyTooLarge n) spelt (refused (λ e. cc) (λ e. cc) seen))
