use Rattle.std.proofs.Common.{◌≡◌, ◌++◌, ℕ, List, [], true, length, take, ◌-◌, min, refl, sym, ap, subst, ◌∙◌}
use Rattle.std.proofs.Common.{append_assoc, arith}
use Rattle.std.proofs.lemmas.List.{length-append, append-nil}
use Rattle.xml_tokens.specs.Characters.{lacks}
use Rattle.xml_tokens.specs.Reading.{up_to_end, Starts, IsFirstPlace}
use Rattle.xml_tokens.proofs.PartLemmas.{err_matches, found_reads, same_front}
use Rattle.xml_tokens.proofs.FindLemmas.{has_first, lacks_not}
use Rattle.xml_tokens.proofs.cursor.Cursor.up_to.Goals as goal

pub returns-in_default : goal.returns-in_default
returns-in_default c =
    let text = c.args.self.now.rest.now in
    let end = c.args.end.now in
    let L : List ℕ → Type 0 = λ xs. lacks end xs ≡ true in
    let h = has_first end text [] c.requires in (
      (λ (some : Starts (up_to_end end) text).
          let f = some.2 in
          lacks_not end some.0 some.1 c.requires (subst L (f.split ∙ ap (λ xs. xs ++ some.1) f.spelled.0
          ∙ append_assoc some.0 end some.1) c.in_default.ensures)),
      (
        end,
        (
          h.front,
          h.behind,
          record {
            front = h.front ++ end;
            split = ap (λ xs. text ++ xs) (sym (append-nil end)) ∙ h.split ∙ sym (append_assoc h.front end h.behind);
            spelled = (refl, h.first);
          },
        ),
      ),
    )

cut_there : (end text front middle : List ℕ) (at : ℕ) → (p : IsFirstPlace end text at) → text ≡ front ++ middle →
    length front ≡ min at (length text) → (front ≡ p.front) × (middle ≡ end ++ p.rest)
cut_there end text front middle at p split long =
    let whole : text ≡ p.front ++ (end ++ p.rest) = p.split ∙ append_assoc p.front end p.rest in
    let total = ap length whole ∙ length-append p.front (end ++ p.rest) in
    let place = p.place in
    same_front front middle p.front (end ++ p.rest) (sym split ∙ whole) (omega arith)

pub returns-in_err-literal : goal.returns-in_err-literal
returns-in_err-literal c =
    let text = c.args.self.now.rest.now in
    let end = c.args.end.now in
    let middle = c.take-front.new.self.rest.now in
    let last = c.literal.new.self.rest.now in
    let e = c.in_err-literal.field-0.0 in
    let p = c.in-Some.ensures in
    let there = cut_there end text c.take-front.result.now middle c.in-Some.at p c.take-front.ensures.split
    c.take-front.ensures.length in
    err_matches (up_to_end end) text last e c.from_residual.result c.from_residual.ensures.1
    (found_reads (up_to_end end) middle tt p.rest (record { front = end; split = there.1; spelled = refl }) e last text
    last c.in_err-literal.ensures)

pub returns : goal.returns
returns c =
    let text = c.args.self.now.rest.now in
    let end = c.args.end.now in
    let front = c.take-front.result.now in
    let middle = c.take-front.new.self.rest.now in
    let last = c.literal.new.self.rest.now in
    let p = c.in-Some.ensures in
    let there = cut_there end text front middle c.in-Some.at p c.take-front.ensures.split c.take-front.ensures.length in
    let f = c.in_ok-literal.ensures in
    let L : List ℕ → Type 0 = λ xs. lacks end (xs ++ take (length end - 1) end) ≡ true in
    record {
      front = front ++ end;
      split = c.take-front.ensures.split ∙ ap (λ xs. front ++ xs) (f.split ∙ ap (λ xs. xs ++ last) f.spelled)
          ∙ sym (append_assoc front end last);
      spelled = (refl, subst L (sym there.0) p.first);
    }
