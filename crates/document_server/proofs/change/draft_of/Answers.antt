use Rattle.std.proofs.Common.{◌≡◌, true, Err, inr, sym, ap, subst, ◌∙◌, List, ℕ}
use Rattle.entry_reader.specs.Refusal.{IsRefusedAt}
use Rattle.http_face.specs.Request.{RequestValue}
use Rattle.document_server.specs.Reply.{is_entry_media}
use Rattle.document_server.proofs.change.draft_of.Goals as goal

pub returns-in_ok-refused_entry-in-Err-NotRead-clause-read :
    goal.returns-in_ok-refused_entry-in-Err-NotRead-clause-read
returns-in_ok-refused_entry-in-Err-NotRead-clause-read c =
    let at = c.in-Err-NotRead.at in
    let why = c.in-Err-NotRead.why in
    let refused = c.in-Err-NotRead.ensures.refused at why (ap Err c.in-Err-NotRead.field-0-is) in
    let media = subst (λ (r : RequestValue). is_entry_media r.media ≡ true) c.request.view_is
    (sym c.is_entry_media.ensures ∙ c.if-not-is_entry_media.false) in
    let body = c.slice.ensures ∙ ap (λ (r : RequestValue). r.body) c.request.view_is in
    inr (
      media,
      (
        at,
        why,
        subst (λ (b : List ℕ). IsRefusedAt b at why) body refused,
        c.in_ok-refused_entry-in-Err-NotRead.ensures.reply,
      ),
    )
