-- The end of a drill: the summary is made.
use Rattle.std.proofs.Common.{◌≡◌, inl, inr, ℕ, List, [], ◌∷◌, Option, Some, None, false, length, take, refl, sym, ap}
use Rattle.std.proofs.Common.{subst, ◌∙◌, arith}
use Rattle.std.specs.Prelude.{slice_get}
use Rattle.std.proofs.Math.Seq.{take-length}
use Rattle.document_server.specs.declared.line.Line.{Line}
use Rattle.coverage_certificate.specs.Certificate.{CertificateValue}
use Rattle.coverage_certificate.specs.Live.{live_digest_of}
use Rattle.coverage_certificate.specs.Served.{served_certificate}
use Rattle.feed_drill.specs.Drilled.{IsDrilled, IsDrilledTo, drill_events, first_of, operations, turns_events}
use Rattle.feed_drill.specs.Drilled.{walk_events}
use Rattle.feed_drill.specs.Effects.{IsLived, IsWalked}
use Rattle.feed_drill.specs.Events.{Goes, Moment, moment_of}
use Rattle.feed_drill.specs.Summary.{SummaryValue, live_entries, summary_of}
use Rattle.feed_drill.proofs.OfferLemmas.{one-mirror}
use Rattle.feed_drill.proofs.PathLemmas.{goes-append, goes-lives, step-goes, turns-go}
use Rattle.feed_life.specs.Events.{IsStep, StepsAnyMirror}
use Rattle.feed_life.specs.Life.{LifeValue, Lives}
use Rattle.feed_life.specs.Mirrors.{IsCertified, IsWalk}
use Rattle.feed_life.specs.declared.event.Event.TheVariants.{Walk}
use Rattle.member_rules.specs.Fold.{live_count}
use Rattle.member_rules.specs.Head.{HeadValue}
use Rattle.member_rules.specs.Windows.{windows_of}
use Rattle.member_rules.specs.declared.operation.Op.{Op}
use Rattle.mirror_walk.specs.Holding.{KeptValue}
use Rattle.mirror_walk.specs.declared.answer.Outcome.TheVariants.{Complete}

-- The walk

walk-done : (head : HeadValue) (seed count : ℕ) (old new : LifeValue) (line : Option Line)
    (lived : IsLived head seed count old)
    (step : IsStep old new (Walk 0 None) (operations head seed count) (lived.kept ∷ []) line) → new.lost ≡ false
    → StepsAnyMirror old new (operations head seed count) step.later (lived.kept ∷ []) step.left 0 None
    (IsWalk old.head (operations head seed count) None)
    → IsWalked head seed count new
walk-done head seed count old new line lived step alive (inl (few, nothing)) =
    let one = one-mirror old.head (operations head seed count) old.mirrors lived.kept lived.drilled.lives.mirrors in
    absurd (omega (arith, one, few))
walk-done head seed count old new line lived step alive (inr steps) =
    let history = operations head seed count in
    let held = steps.changed.after in
    let had = lived.had in
    let turned : Moment = moment_of old history (lived.kept ∷ []) in
    let last : Moment = moment_of new history (held ∷ []) in
    let walked : Goes turned walk_events last
    = step-goes old new (Walk 0 None) history (lived.kept ∷ []) line step history (held ∷ []) (sym steps.history_is)
    (sym steps.changed.left_is) in
    record {
      kept = held;
      drilled = record {
        head_is = ap (λ (l : LifeValue). l.head) steps.stays ∙ lived.drilled.head_is;
        lives = subst (λ (h : List (List KeptValue)). Lives new history h) steps.changed.left_is
            (subst (λ (l : List Op). Lives new l step.left) steps.history_is step.lives);
        whole = lived.drilled.whole;
        stops = ap (λ (l : LifeValue). l.stops) steps.stays ∙ lived.drilled.stops;
        mirror_stops = ap (λ (l : LifeValue). l.mirror_stops) steps.stays ∙ lived.drilled.mirror_stops;
        sent = ap (λ (l : LifeValue). l.sent) steps.stays ∙ lived.drilled.sent;
      };
      had = record {
        turned = turned;
        turns = had;
        last = last;
        walked = walked;
        life_is = refl;
        lived = record {
          begun = had.begun;
          born = had.born;
          lived = goes-lives (first_of had.begun) last (drill_events head seed had.keeps)
              (goes-append (first_of had.begun) turned last (turns_events head seed had.keeps) walk_events
              (turns-go head seed had.keeps (first_of had.begun) turned had.turns) walked);
        };
      };
      alive = alive;
    }

pub walk-drilled : (head : HeadValue) (seed count : ℕ) (old new : LifeValue) (line : Option Line)
    → ((history : List Op) (held : List (List KeptValue)) → Lives old history held
    → IsStep old new (Walk 0 None) history held line) → new.lost ≡ false
    → IsLived head seed count old → IsWalked head seed count new
walk-drilled head seed count old new line stepped alive lived =
    let step = stepped (operations head seed count) (lived.kept ∷ []) lived.drilled.lives in
    walk-done head seed count old new line lived step alive step.steps.1

-- The certificate

-- the certificate of the mirror
abbrev pub Certifies : LifeValue → CertificateValue → Type 0
Certifies life certificate =
    (history : List Op) (held : List (List KeptValue)) (kept : List KeptValue) → Lives life history held
    → slice_get held 0 ≡ Some kept → IsCertified life.head history kept (Some certificate)

pub certifies-found : (life : LifeValue) (found : Option CertificateValue) (certificate : CertificateValue)
    → found ≡ Some certificate
    → ((history : List Op) (held : List (List KeptValue)) (kept : List KeptValue) → Lives life history held
    → slice_get held 0 ≡ Some kept → IsCertified life.head history kept found)
    → Certifies life certificate
certifies-found life found certificate is certified history held kept lives there =
    subst (λ (f : Option CertificateValue). IsCertified life.head history kept f) is
    (certified history held kept lives there)

module _ (head : HeadValue) (seed count : ℕ) (old new : LifeValue) (certificate : CertificateValue)
    (lived : IsWalked head seed count old) (certifies : Certifies old certificate)
    (lives : (history : List Op) (held : List (List KeptValue)) → Lives old history held → Lives new history held)
    (same : new ≡ record old { mirrors = new.mirrors }) (whole : certificate.version ≡ count) where
  abbrev history : List Op
  history = operations head seed count

  is : IsDrilledTo head seed count old lived.kept
  is = lived.drilled

  certified : IsCertified old.head history lived.kept (Some certificate)
  certified = certifies history (lived.kept ∷ []) lived.kept is.lives refl

  taken : take certificate.version history ≡ history
  taken = ap (λ (n : ℕ). take n history) (whole ∙ sym is.whole) ∙ take-length history

  served : certificate ≡ served_certificate head history
  served =
      certified.1 ∙ ap (λ (h : HeadValue). served_certificate h (take certificate.version history)) is.head_is
      ∙ ap (served_certificate head) taken

  served-count : (served_certificate head history).live_count ≡ live_count history
  unfolding served_certificate
  served-count = refl

  served-digest : (served_certificate head history).live_digest ≡ live_digest_of head.name (live_entries history)
  unfolding served_certificate
  served-digest = refl

  count-is : certificate.live_count ≡ live_count history
  count-is = ap (λ (c : CertificateValue). c.live_count) served ∙ served-count

  later : IsDrilledTo head seed count new lived.kept
  later = record {
    head_is = ap (λ (l : LifeValue). l.head) same ∙ is.head_is;
    lives = lives history (lived.kept ∷ []) is.lives;
    whole = is.whole;
    stops = ap (λ (l : LifeValue). l.stops) same ∙ is.stops;
    mirror_stops = ap (λ (l : LifeValue). l.mirror_stops) same ∙ is.mirror_stops;
    sent = ap (λ (l : LifeValue). l.sent) same ∙ is.sent;
  }

  pub drilled-whole : IsDrilled head seed count new
  drilled-whole = record {
    kept = lived.kept;
    drilled = later;
    complete = certified.0 ∙ ap (λ (n : ℕ). Complete n certificate.live_count) whole
        ∙ ap (λ (n : ℕ). Complete count n) count-is;
    before = old;
    had = lived.had;
    same = same;
    alive = ap (λ (l : LifeValue). l.lost) same ∙ lived.alive;
  }

  pub summary-is : (version archives stops mirror_stops : ℕ) → version ≡ new.version → archives ≡ new.sealed
      → stops ≡ new.stops → mirror_stops ≡ new.mirror_stops
      → ◌≡◌ {A = SummaryValue} (record {
        operations = count;
        version = version;
        archives = archives;
        stops = stops;
        mirror_stops = mirror_stops;
        complete = certificate.version;
        live_count = certificate.live_count;
        live_digest = certificate.live_digest;
      }) (summary_of head history count)
  unfolding summary_of
  summary-is version archives stops mirror_stops a b c d =
      let version_is : version ≡ length history = a ∙ later.lives.version in
      let archives_is : archives ≡ (windows_of head history).sealed
      = b ∙ later.lives.sealed ∙ ap (λ (h : HeadValue). (windows_of h history).sealed) later.head_is in
      let stops_is = c ∙ later.stops in
      let mirror_stops_is = d ∙ later.mirror_stops in
      let complete_is : certificate.version ≡ length history = whole ∙ sym is.whole in
      let digest_is : certificate.live_digest ≡ live_digest_of head.name (live_entries history)
      = ap (λ (c : CertificateValue). c.live_digest) served ∙ served-digest in
      same-summary version_is archives_is stops_is mirror_stops_is complete_is count-is digest_is
    where
      same-summary : {v v' a a' s s' m m' k k' l l' : ℕ} {g g' : List ℕ} → v ≡ v' → a ≡ a' → s ≡ s' → m ≡ m' → k ≡ k'
          → l ≡ l' → g ≡ g'
          → ◌≡◌ {A = SummaryValue} (record {
            operations = count;
            version = v;
            archives = a;
            stops = s;
            mirror_stops = m;
            complete = k;
            live_count = l;
            live_digest = g;
          }) (record {
            operations = count;
            version = v';
            archives = a';
            stops = s';
            mirror_stops = m';
            complete = k';
            live_count = l';
            live_digest = g';
          })
      same-summary e1 e2 e3 e4 e5 e6 e7 = cc
