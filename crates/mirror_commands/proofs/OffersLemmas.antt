-- `mirror` from a pile: its offers, one after another, and the report of their answers.
use Rattle.std.proofs.Common.{◌≡◌, inl, inr, ℕ, ◌+◌, ◌<◌, ◌≤◌, List, [], ◌∷◌, ◌++◌, Bool, true, false}
use Rattle.std.proofs.Common.{Option, None, Some, Result, Ok}
use Rattle.std.proofs.Common.{Err, length, map, refl, sym, ap, ap₂, subst, ◌∙◌, append_assoc, append-nil, arith, length-append}
use Rattle.std.proofs.lemmas.List.{map-append}
use Rattle.std.proofs.lemmas.List.Elements.{All-nil}
use Rattle.std.proofs.lemmas.List.Sums.{fold-append}
use Rattle.doc_source.specs.Laws.{HasRead}
use Rattle.doc_source.specs.Outside.{SourceState}
use Rattle.doc_source.specs.Pile.{IsAnswer as IsPileAnswer, IsOffer, IsOpen, PileState, head_at, offer_text, unused}
use Rattle.doc_source.specs.Pile.{used_text}
use Rattle.doc_source.specs.declared.fault.PileFault.{PileFault}
use Rattle.doc_source.specs.declared.fault.PileFault.TheVariants as piles
use Rattle.doc_source.specs.declared.offer.Offer.{Offer}
use Rattle.doc_source.proofs.OneReading.{offer_some}
use Rattle.doc_source.proofs.RunLemmas.{in_order}
use Rattle.mirror_walk.specs.Accept.{Answer as MirrorAnswer, IsAnswerWithin}
use Rattle.mirror_walk.specs.Holding.{KeptValue}
use Rattle.mirror_walk.specs.Offers.{Offering}
use Rattle.mirror_walk.specs.declared.answer.Accepted.TheVariants.{Taken, Known, Stale}
use Rattle.mirror_walk.specs.declared.answer.Offered.TheVariants.{Full as NoRoom}
use Rattle.mirror_commands.specs.declared.report.Counts.{Counts}
use Rattle.mirror_commands.specs.declared.report.Report.{Report}
use Rattle.command_ends.specs.declared.fault.Fault.TheVariants.{Input}
use Rattle.command_ends.specs.Answer.{Answer}
use Rattle.command_ends.specs.Fault.{IsRefusal, fault_answer}
use Rattle.mirror_commands.specs.Mirror.{HasAnswered, IsMirrored, ReadsOffers, ReadsTo, ReadsWithinPile, offering}
use Rattle.command_ends.specs.Fault.{pile_fault}
use Rattle.mirror_commands.specs.Mirror.{StopsAmidOffers, pile_limit}
use Rattle.mirror_commands.specs.MirrorFaults.{full_fault}
use Rattle.mirror_commands.specs.Report.{AreAnsweredWithin, EndsReport, HasAdded, IsReportable, Reports, counted}
use Rattle.mirror_commands.specs.Report.{counts_of}
use Rattle.mirror_commands.specs.Report.{ending_in, no_counts, refused_line, refused_line_in, refused_lines}
use Rattle.mirror_commands.specs.Report.{refused_lines_in, report_of, total}
use Rattle.mirror_commands.proofs.AnswersLemmas.{answers-push}
use Rattle.mirror_commands.proofs.AmidLemmas.{stops-amid}

-- one more offer

pub refused_lines-push : (capacity : ℕ) (base : List ℕ) (start : List KeptValue) (offers : List Offering)
    (answers : List MirrorAnswer) (kept : List KeptValue) (offer : Offering) (answer : MirrorAnswer)
    → AreAnsweredWithin capacity base start offers answers kept
    → refused_lines (offers ++ offer ∷ []) (answers ++ answer ∷ [])
    ≡ refused_lines offers answers ++ refused_line offer.address answer
refused_lines-push capacity base start [] [] kept offer answer is = append-nil (refused_line offer.address answer)
refused_lines-push capacity base start [] (a ∷ answers) kept offer answer is = absurd is
refused_lines-push capacity base start (o ∷ offers) [] kept offer answer is = absurd is
refused_lines-push capacity base start (o ∷ offers) (a ∷ answers) kept offer answer (fits, (middle, first, more)) =
    ap (λ bytes. refused_line o.address a ++ bytes)
    (refused_lines-push capacity base middle offers answers kept offer answer more)
    ∙ sym (append_assoc (refused_line o.address a) (refused_lines offers answers) (refused_line offer.address answer))

-- the same in the form that is printed
line-in : (address : List ℕ) (answer : MirrorAnswer) → refused_line_in true address answer ≡ refused_line address answer
line-in address (Ok accepted) = refl
line-in address (Err refusal) = refl

line-left_out : (address : List ℕ) (answer : MirrorAnswer) → refused_line_in false address answer ≡ []
line-left_out address (Ok accepted) = refl
line-left_out address (Err refusal) = refl

refused_lines_in-push : (detailed : Bool) (capacity : ℕ) (base : List ℕ) (start : List KeptValue)
    (offers : List Offering) (answers : List MirrorAnswer) (kept : List KeptValue) (offer : Offering)
    (answer : MirrorAnswer) → AreAnsweredWithin capacity base start offers answers kept
    → refused_lines_in detailed (offers ++ offer ∷ []) (answers ++ answer ∷ [])
    ≡ refused_lines_in detailed offers answers ++ refused_line_in detailed offer.address answer
refused_lines_in-push true capacity base start offers answers kept offer answer is =
    refused_lines-push capacity base start offers answers kept offer answer is
    ∙ ap (λ (line : List ℕ). refused_lines offers answers ++ line) (sym (line-in offer.address answer))
refused_lines_in-push false capacity base start offers answers kept offer answer is =
    sym (line-left_out offer.address answer)

no-lines : (detailed : Bool) → [] ≡ refused_lines_in detailed [] []
no-lines true = refl
no-lines false = refl

pub reports-push : (detailed : Bool) (capacity : ℕ) (base : List ℕ) (start : List KeptValue) (offers : List Offering)
    (kept : List KeptValue) (report : Report) (offer : Offering) (answer : MirrorAnswer) (left : List KeptValue)
    (after : Report) → Reports detailed capacity base start offers kept report → IsReportable answer
    → IsAnswerWithin capacity base kept offer.address offer.bytes answer left
    → HasAdded report after offer.address answer
    → Reports detailed capacity base start (offers ++ offer ∷ []) left after
reports-push detailed capacity base start offers kept report offer answer left after h fits next added = record {
  detailed = added.detailed ∙ h.detailed;
  answers = h.answers ++ answer ∷ [];
  answered = answers-push capacity base start offers h.answers kept offer answer left h.answered fits next;
  text = added.text
      ∙ ap₂ (λ (bytes : List ℕ) (form : Bool). bytes ++ refused_line_in form offer.address answer) h.text h.detailed
      ∙ sym (refused_lines_in-push detailed capacity base start offers h.answers kept offer answer h.answered);
  counts = added.counts ∙ ap (λ counts. counted counts answer) h.counts
      ∙ sym (fold-append counted no_counts h.answers (answer ∷ []));
}

pub reports-none : (detailed : Bool) (capacity : ℕ) (base : List ℕ) (kept : List KeptValue) (report : Report)
    → report.detailed ≡ detailed → report.text.items ≡ [] → report.counts ≡ no_counts
    → Reports detailed capacity base kept [] kept report
reports-none detailed capacity base kept report form text counts = record {
  detailed = form;
  answers = [];
  answered = refl;
  text = text ∙ no-lines detailed;
  counts = counts;
}

total-counted : (counts : Counts) (answer : MirrorAnswer) → total (counted counts answer) ≡ total counts + 1
total-counted counts (Ok Taken) = omega arith
total-counted counts (Ok Known) = omega arith
total-counted counts (Ok Stale) = omega arith
total-counted counts (Err refusal) = omega arith

-- a mirror between two offers of a pile; `observable` is whether contracts can see the pile
pub record IsAmid (observable : Type 0) (detailed : Bool) (capacity : ℕ) (base : List ℕ) (start : List KeptValue)
    (pile : List ℕ)
    (offers : List Offer) (reader : PileState) (source : SourceState) (kept : List KeptValue) (report : Report)
    : Type 0 where
  pub fresh : reader.refusal ≡ None
  pub limit : reader.limit ≡ pile_limit
  pub within : reader.used ≤ pile_limit
  pub few : total report.counts ≤ reader.used
  pub read : observable → HasRead pile offers reader.used (unused reader source)
  pub reports : Reports detailed capacity base start (map offering offers) kept report

pub amid-start : (observable : Type 0) (detailed : Bool) (capacity : ℕ) (base : List ℕ) (reader : PileState)
    (source : SourceState)
    (kept : List KeptValue) (report : Report)
    → reader ≡ record { ahead = []; used = 0; limit = pile_limit; refusal = None } → report.detailed ≡ detailed
    → report.text.items ≡ []
    → report.counts ≡ no_counts → IsAmid observable detailed capacity base kept source.left [] reader source kept report
amid-start observable detailed capacity base reader source kept report start form text counts = record {
  fresh = ap (λ (r : PileState). r.refusal) start;
  limit = ap (λ (r : PileState). r.limit) start;
  within = omega (arith, ap (λ (r : PileState). r.used) start);
  few = omega (arith, ap total counts);
  read = λ _. record {
    are = All-nil IsOffer;
    whole = ap (λ (r : PileState). r.ahead ++ source.left) (sym start);
    counted = ap (λ (r : PileState). r.used) start;
  };
  reports = reports-none detailed capacity base kept report form text counts;
}

-- the next offer of the pile was read
pub next-read : (observable : Type 0) (detailed : Bool) (capacity : ℕ) (base : List ℕ) (start : List KeptValue)
    (pile : List ℕ)
    (offers : List Offer) (reader after : PileState) (source rest : SourceState) (kept : List KeptValue)
    (report : Report) (offer : Offer) → IsAmid observable detailed capacity base start pile offers reader source kept report
    → after.used ≡ reader.used + length (used_text reader.used (Ok (Some offer)))
    → (observable → IsPileAnswer reader.used reader.limit (unused reader source) (Ok (Some offer)))
    → (observable → unused reader source ≡ used_text reader.used (Ok (Some offer)) ++ unused after rest)
    → observable → HasRead pile (offers ++ offer ∷ []) after.used (unused after rest)
next-read observable detailed capacity base start pile offers reader after source rest kept report offer h used begins
    stays t =
    subst (λ (n : ℕ). HasRead pile (offers ++ offer ∷ []) n (unused after rest)) (sym used)
    (in_order pile offers reader.used reader.limit (unused reader source) offer (unused after rest)
    (h.read t) (begins t) (stays t))

-- the next offer of the pile was answered
pub amid-next : (observable : Type 0) (detailed : Bool) (capacity : ℕ) (base : List ℕ) (start : List KeptValue)
    (pile : List ℕ)
    (offers : List Offer) (reader after : PileState) (source rest : SourceState) (kept left : List KeptValue)
    (report added : Report) (offer : Offer) (answer : MirrorAnswer)
    → IsAmid observable detailed capacity base start pile offers reader source kept report → after.refusal ≡ None
    → after.limit ≡ reader.limit → after.used ≤ after.limit
    → after.used ≡ reader.used + length (used_text reader.used (Ok (Some offer))) → IsOffer offer
    → (observable → HasRead pile (offers ++ offer ∷ []) after.used (unused after rest)) → IsReportable answer
    → IsAnswerWithin capacity base kept offer.address offer.bytes answer left
    → HasAdded report added offer.address answer
    → IsAmid observable detailed capacity base start pile (offers ++ offer ∷ []) after rest left added
amid-next observable detailed capacity base start pile offers reader after source rest kept left report added offer answer
    h fresh limit
    bound used is read fits next has =
    let more : 0 < length (used_text reader.used (Ok (Some offer))) =
    omega (arith, length-append (head_at reader.used) (offer_text offer), offer_some offer is) in
    record {
      fresh = fresh;
      limit = limit ∙ h.limit;
      within = omega (arith, bound, limit, h.limit);
      few = omega (arith, h.few, used, more, ap total has.counts, total-counted report.counts answer);
      read = read;
      reports = subst (λ (os : List Offering). Reports detailed capacity base start os left added)
          (sym (map-append offering offers (offer ∷ [])))
          (reports-push detailed capacity base start (map offering offers) kept report (offering offer)
          answer left added h.reports
          fits next has);
    }

pub amid-few : (observable : Type 0) (detailed : Bool) (capacity : ℕ) (base : List ℕ) (start : List KeptValue) (pile : List ℕ)
    (offers : List Offer) (reader : PileState) (source : SourceState) (kept : List KeptValue) (report : Report)
    → IsAmid observable detailed capacity base start pile offers reader source kept report → total report.counts ≤ pile_limit
amid-few observable detailed capacity base start pile offers reader source kept report h = omega (arith, h.few, h.within)

-- the offers so far
module _ (observable : Type 0) (detailed : Bool) (capacity : ℕ) (base : List ℕ) (start : List KeptValue) (pile : List ℕ)
    (offers : List Offer)
    (reader : PileState) (source : SourceState) (kept : List KeptValue) (report : Report)
    (h : IsAmid observable detailed capacity base start pile offers reader source kept report) where
  pub has-answered : HasAnswered capacity base start offers kept
  has-answered = record { answers = h.reports.answers; answered = h.reports.answered }

  pub reads-offers : observable → ReadsOffers pile offers
  reads-offers t = record { used = reader.used; bytes = unused reader source; read = h.read t; within = h.within }

  pub reads-to : (last : Result (Option Offer) PileFault) → observable
      → IsPileAnswer reader.used reader.limit (unused reader source) last → ReadsTo pile offers last
  reads-to last t is = record {
    used = reader.used;
    bytes = unused reader source;
    read = h.read t;
    within = h.within;
    answer = subst (λ (n : ℕ). IsPileAnswer reader.used n (unused reader source) last) h.limit is;
  }

  -- the reader gives another answer than an offer
  pub mirrored-fault : (fault : PileFault) → observable
      → IsPileAnswer reader.used reader.limit (unused reader source) (Err fault) → IsRefusal (pile_fault fault)
      → IsMirrored detailed capacity base start pile (fault_answer (pile_fault fault))
  mirrored-fault (piles.BadPile at) t is refusal = inr (inr (inl record {
    offers = offers;
    at = at;
    read = reads-to (Err (piles.BadPile at)) t is;
    left = kept;
    has = has-answered;
    is = refl;
  }))
  mirrored-fault (piles.TooLong limit) t is refusal =
      let same : limit ≡ pile_limit = is.0 ∙ h.limit in
      inr (inr (inr record {
        offers = offers;
        read = subst (λ (n : ℕ). ReadsTo pile offers (Err (piles.TooLong n))) same
            (reads-to (Err (piles.TooLong limit)) t is);
        left = kept;
        has = has-answered;
        is = refl;
      }))
  mirrored-fault piles.SourceFault t is refusal = absurd refusal
  mirrored-fault piles.NoMemory t is refusal = absurd refusal

  -- the next offer doesn't fit
  pub mirrored-full : (offer : Offer) (size needed : ℕ) → ReadsOffers pile (offers ++ offer ∷ [])
      → IsAnswerWithin capacity base kept offer.address offer.bytes (Err (NoRoom size needed capacity)) kept
      → IsMirrored detailed capacity base start pile (fault_answer (full_fault size needed capacity))
  mirrored-full offer size needed read full = inr (inl record {
    offers = offers;
    offer = offer;
    read = read;
    left = kept;
    has = has-answered;
    size = size;
    needed = needed;
    full = full;
    is = refl;
  })

  pub within-fault : (after : PileState) (before rest : SourceState) → observable → before.left ≡ pile
      → after.limit ≡ reader.limit → after.used + length after.ahead ≤ after.limit
      → after.used ≡ reader.used → unused reader source ≡ unused after rest → IsOpen reader.used after.ahead
      → ReadsWithinPile capacity base start before rest
  within-fault after before rest t is limit bound used same going = record {
    offers = offers;
    stops = subst (λ (bytes : List ℕ). StopsAmidOffers pile_limit bytes rest.left offers) (sym is)
        (stops-amid pile_limit pile rest.left offers reader.used (unused reader source) after.ahead (h.read t) same
        (omega (arith, bound, used, limit, h.limit)) going);
    left = kept;
    has = has-answered;
  }

-- the fault of the input is that of a failed call
pub input-of_pile : (fault : PileFault) → pile_fault fault ≡ Input → fault ≡ piles.SourceFault
input-of_pile (piles.BadPile at) e = cc
input-of_pile (piles.TooLong limit) e = cc
input-of_pile piles.SourceFault e = refl
input-of_pile piles.NoMemory e = cc

-- the report at the end
pub ends-observable : (observable : Type 0) (base : List ℕ) (made : Report) (kept : List KeptValue) (given : Answer) → observable
    → EndsReport observable base made kept given → EndsReport (Unit {0}) base made kept given
ends-observable observable base made kept given t ends = record { status = ends.status; printed = λ _. ends.printed t }

pub report-is : (detailed : Bool) (capacity : ℕ) (base : List ℕ) (start : List KeptValue) (offers : List Offering)
    (kept : List KeptValue) (made : Report) (given : Answer) (h : Reports detailed capacity base start offers kept made)
    → EndsReport (Unit {0}) base made kept given → given ≡ report_of detailed base offers h.answers kept
unfolding report_of
report-is detailed capacity base start offers kept made given h ends =
    let status = ends.status in
    let printed : given.printed ≡ refused_lines_in detailed offers h.answers
    ++ ending_in detailed base (counts_of h.answers) kept =
    ends.printed tt
    ∙ ap₂ (λ (bytes : List ℕ) (form : Bool). bytes ++ ending_in form base made.counts kept) h.text h.detailed
    ∙ ap (λ (counts : Counts). refused_lines_in detailed offers h.answers ++ ending_in detailed base counts kept)
    h.counts in
    λ i. record { status = status i; printed = printed i }

-- and what the text of a certificate begins with: no line
pub certificate-lines : (detailed : Bool) (capacity : ℕ) (base : List ℕ) (start : List KeptValue)
    (offers : List Offering) (kept : List KeptValue) (made : Report)
    → Reports detailed capacity base start offers kept made → made.detailed ≡ false → made.text.items ≡ []
certificate-lines detailed capacity base start offers kept made h plain =
    h.text ∙ ap (λ (form : Bool). refused_lines_in form offers h.answers) (sym h.detailed ∙ plain)
