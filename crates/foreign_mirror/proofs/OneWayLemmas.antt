-- The answers of a source determine a walk.
use Rattle.std.proofs.Common.{◌≡◌, ℕ, true, false, cond, List, [], ◌∷◌, ◌++◌, Option, Some, None}
use Rattle.std.proofs.Common.{refl, sym, ap, subst, ◌∙◌, length, bytes_eq, arith}
use Rattle.std.specs.Prelude.{Contains}
use Rattle.std.specs.List.{list_any}
use Rattle.std.specs.Prelude.{◌==◌}
use Rattle.std.proofs.lemmas.Bool.{cond-true, cond-false, eq-eqb, ne_eqb, false_from_ne_true}
use Rattle.feed_reader.specs.Feed.{DocumentValue}
use Rattle.feed_reader.specs.declared.fault.FeedWhy.{FeedWhy}
use Rattle.feed_reader.specs.FeedDocument.{IsFeedRefusedAt, SpellsFeed}
use Rattle.feed_reader.proofs.FeedLawLemmas.{feed_not_refused, one_feed, one_feed_refusal}
use Rattle.foreign_mirror.specs.declared.walk.ChainEnd.{ChainEnd}
use Rattle.foreign_mirror.specs.declared.walk.ChainEnd.TheVariants.{Complete, Again, NotHttp, TooMany, Missing, NotRead}
use Rattle.foreign_mirror.specs.declared.walk.ChainEnd.TheVariants.{OtherFeed}
use Rattle.foreign_mirror.specs.Laws.{IsSameWalk, WalksEndInOneWay}
use Rattle.foreign_mirror.specs.Walk.{EndsAt, EndsBefore, IsAskable, IsOfFeed, IsReadAt, IsRefusedAt, Walks}
use Rattle.foreign_mirror.specs.Walk.{document_limit, feed_after, is_http}
use Rattle.foreign_mirror.specs.Walk.Ending.{over}
use Rattle.foreign_mirror.proofs.KnownLemmas.{asked-Decides}

-- the end of a walk before it asks its next address, by tests
abbrev end_at : List (List ℕ) → List ℕ → Option ChainEnd
end_at before address =
    cond (list_any (bytes_eq address) before) (Some (Again address))
    (cond (is_http address) (cond (length before == document_limit) (Some TooMany) None) (Some (NotHttp address)))

abbrev end_before : List (List ℕ) → Option (List ℕ) → Option ChainEnd
end_before before None = Some Complete
end_before before (Some address) = end_at before address

not-there : (before : List (List ℕ)) (address : List ℕ) → ¬ Contains before address
    → list_any (bytes_eq address) before ≡ false
not-there before address new =
    false_from_ne_true (list_any (bytes_eq address) before) (λ there. new ((asked-Decides before address).0 there))

at-new : (before : List (List ℕ)) (address : List ℕ) → ¬ Contains before address
    → end_at before address
    ≡ cond (is_http address) (cond (length before == document_limit) (Some TooMany) None) (Some (NotHttp address))
at-new before address new =
    cond-false (list_any (bytes_eq address) before) (Some (Again address)) _ (not-there before address new)

at-http : (before : List (List ℕ)) (address : List ℕ) → ¬ Contains before address → is_http address ≡ true
    → end_at before address ≡ cond (length before == document_limit) (Some TooMany) None
at-http before address new http =
    at-new before address new
    ∙ cond-true (is_http address) (cond (length before == document_limit) (Some TooMany) None) (Some (NotHttp address))
    http

end_before-is : (before : List (List ℕ)) (next : Option (List ℕ)) (end : ChainEnd) → EndsBefore before next (over end)
    → end_before before next ≡ Some end
end_before-is before next Complete is = ap (end_before before) is
end_before-is before next (Again address) (is, there) =
    ap (end_before before) is
    ∙ cond-true (list_any (bytes_eq address) before) (Some (Again address)) _ ((asked-Decides before address).1 there)
end_before-is before next (NotHttp address) (is, new, other) =
    ap (end_before before) is
    ∙ at-new before address new
    ∙ cond-false (is_http address) (cond (length before == document_limit) (Some TooMany) None) (Some (NotHttp address))
    (false_from_ne_true (is_http address) other)
end_before-is before next TooMany (address, is, new, http, full) =
    ap (end_before before) is
    ∙ at-http before address new http
    ∙ cond-true (length before == document_limit) (Some TooMany) None (eq-eqb (length before) document_limit full)
end_before-is before next _ ends = absurd ends

askable-never : (before : List (List ℕ)) (next : Option (List ℕ)) (address : List ℕ) (end : ChainEnd)
    → EndsBefore before next (over end) → next ≡ Some address → IsAskable before address → ⊥
askable-never before next address end ends is askable =
    let few = askable.few in
    let none : end_at before address ≡ None =
    at-http before address askable.new askable.http
    ∙ cond-false (length before == document_limit) (Some TooMany) None
    (ne_eqb (length before) document_limit (λ full. absurd (omega (arith, few, full)))) in
    let clash : Some end ≡ None =
    sym (end_before-is before next end ends) ∙ ap (end_before before) is ∙ none in
    cc

one-end : (before : List (List ℕ)) (next : Option (List ℕ)) (one other : ChainEnd) → EndsBefore before next (over one)
    → EndsBefore before next (over other) → one ≡ other
one-end before next one other ends ends' =
    let e : Some one ≡ Some other =
    sym (end_before-is before next one ends) ∙ end_before-is before next other ends' in
    cc

module _ (answers : List ℕ → Option (List ℕ)) where
  same-bytes : (address b c : List ℕ) → answers address ≡ Some b → answers address ≡ Some c → b ≡ c
  same-bytes address b c there there' = let e : Some b ≡ Some c = sym there ∙ there' in cc

  never-none : (address b : List ℕ) → answers address ≡ None → answers address ≡ Some b → ⊥
  never-none address b none there =
      let e : (let o : Option (List ℕ) = None in o) ≡ Some b = sym none ∙ there in
      cc

  one-read : (address : List ℕ) (d e : DocumentValue) → IsReadAt answers address d → IsReadAt answers address e → d ≡ e
  one-read address d e read read' =
      one_feed read'.bytes address d e
      (subst (λ (b : List ℕ). SpellsFeed b address d) (same-bytes address read.bytes read'.bytes read.there read'.there)
      read.spelled)
      read'.spelled

  refused-never : (address : List ℕ) (d : DocumentValue) (at : ℕ) (why : FeedWhy) → IsReadAt answers address d
      → IsRefusedAt answers address at why → ⊥
  refused-never address d at why read refused =
      feed_not_refused refused.bytes address d at why
      (subst (λ (b : List ℕ). SpellsFeed b address d)
      (same-bytes address read.bytes refused.bytes read.there refused.there) read.spelled)
      refused.refused

  -- a walk ends at an address in one way
  one-end_at : (feed : Option (List ℕ)) (address : List ℕ) (one other : ChainEnd)
      → EndsAt answers feed address (over one) → EndsAt answers feed address (over other) → one ≡ other
  one-end_at feed address (Missing a) (Missing b) (is, none) (is', none') = ap Missing (is ∙ sym is')
  one-end_at feed address (Missing a) (NotRead b at why) (is, none) (is', refused) =
      absurd (never-none address refused.bytes none refused.there)
  one-end_at feed address (Missing a) (OtherFeed b) (is, none) (is', (d, read, other)) =
      absurd (never-none address read.bytes none read.there)
  one-end_at feed address (NotRead a at why) (Missing b) (is, refused) (is', none) =
      absurd (never-none address refused.bytes none refused.there)
  one-end_at feed address (NotRead a at why) (NotRead b place cause) (is, refused) (is', refused') =
      let one = one_feed_refusal refused'.bytes address at place why cause
      (subst (λ (l : List ℕ). IsFeedRefusedAt l address at why)
      (same-bytes address refused.bytes refused'.bytes refused.there refused'.there) refused.refused)
      refused'.refused in
      let same = is ∙ sym is' in
      λ i. NotRead (same i) (one.0 i) (one.1 i)
  one-end_at feed address (NotRead a at why) (OtherFeed b) (is, refused) (is', (d, read, other)) =
      absurd (refused-never address d at why read refused)
  one-end_at feed address (OtherFeed a) (Missing b) (is, (d, read, other)) (is', none) =
      absurd (never-none address read.bytes none read.there)
  one-end_at feed address (OtherFeed a) (NotRead b at why) (is, (d, read, other)) (is', refused) =
      absurd (refused-never address d at why read refused)
  one-end_at feed address (OtherFeed a) (OtherFeed b) (is, one) (is', two) = ap OtherFeed (is ∙ sym is')
  one-end_at feed address (Missing a) _ ends ends' = absurd ends'
  one-end_at feed address (NotRead a at why) _ ends ends' = absurd ends'
  one-end_at feed address (OtherFeed a) _ ends ends' = absurd ends'
  one-end_at feed address _ other ends ends' = absurd ends

  taken-never : (feed : Option (List ℕ)) (address : List ℕ) (end : ChainEnd) (d : DocumentValue)
      → EndsAt answers feed address (over end) → IsReadAt answers address d → IsOfFeed feed d → ⊥
  taken-never feed address (Missing a) d (is, none) read of_feed = never-none address read.bytes none read.there
  taken-never feed address (NotRead a at why) d (is, refused) read of_feed =
      refused-never address d at why read refused
  taken-never feed address (OtherFeed a) d (is, (e, read', other)) read of_feed =
      other (subst (IsOfFeed feed) (one-read address d e read read') of_feed)
  taken-never feed address _ d ends read of_feed = absurd ends

  same-some : (next : Option (List ℕ)) (a b : List ℕ) → next ≡ Some a → next ≡ Some b → a ≡ b
  same-some next a b is is' = let e : Some a ≡ Some b = sym is ∙ is' in cc

  same-walk : (before : List (List ℕ)) (feed next : Option (List ℕ)) (asked asked' : List (List ℕ))
      (documents documents' : List DocumentValue) (end end' : ChainEnd)
      → Walks answers before feed next asked documents (over end)
      → Walks answers before feed next asked' documents' (over end')
      → IsSameWalk asked asked' documents documents' end end'
  same-walk before feed next [] [] [] [] end end' walks walks' =
      record { asked = refl; documents = refl; end = one-end before next end end' walks walks' }
  same-walk before feed next [] (a ∷ asked') [] [] end end' walks (is, last, askable, ends) =
      absurd (askable-never before next a end walks is askable)
  same-walk before feed next [] (a ∷ asked') [] (d ∷ documents') end end' walks (is, askable, read, of_feed, more) =
      absurd (askable-never before next a end walks is askable)
  same-walk before feed next [] [] [] (d ∷ documents') end end' walks walks' = absurd walks'
  same-walk before feed next [] asked' (d ∷ documents) documents' end end' walks walks' = absurd walks
  same-walk before feed next (a ∷ asked) [] [] [] end end' (is, last, askable, ends) walks' =
      absurd (askable-never before next a end' walks' is askable)
  same-walk before feed next (a ∷ asked) [] (d ∷ documents) [] end end' (is, askable, read, of_feed, more) walks' =
      absurd (askable-never before next a end' walks' is askable)
  same-walk before feed next (a ∷ asked) [] documents (d' ∷ documents') end end' walks walks' = absurd walks'
  same-walk before feed next (a ∷ asked) (b ∷ asked') [] [] end end' (is, last, askable, ends)
      (is', last', askable', ends') =
      let same = same-some next a b is is' in
      let tail = last ∙ sym last' in
      record {
        asked = λ i. same i ∷ tail i;
        documents = refl;
        end = one-end_at feed a end end' ends
            (subst (λ (l : List ℕ). EndsAt answers feed l (over end')) (sym same) ends');
      }
  same-walk before feed next (a ∷ asked) (b ∷ asked') [] (d' ∷ documents') end end' (is, last, askable, ends)
      (is', askable', read', of_feed', more') =
      absurd (taken-never feed b end d'
      (subst (λ (l : List ℕ). EndsAt answers feed l (over end)) (same-some next a b is is') ends) read' of_feed')
  same-walk before feed next (a ∷ asked) (b ∷ asked') (d ∷ documents) [] end end' (is, askable, read, of_feed, more)
      (is', last', askable', ends') =
      absurd (taken-never feed a end' d
      (subst (λ (l : List ℕ). EndsAt answers feed l (over end')) (same-some next b a is' is) ends') read of_feed)
  same-walk before feed next (a ∷ asked) (b ∷ asked') (d ∷ documents) (d' ∷ documents') end end'
      (is, askable, read, of_feed, more) (is', askable', read', of_feed', more') =
      let back = same-some next b a is' is in
      let one = one-read a d' d (subst (λ (l : List ℕ). IsReadAt answers l d') back read') read in
      let rest = same-walk (before ++ a ∷ []) (feed_after feed d) d.prev asked asked' documents documents' end end' more
      (subst (λ (e : DocumentValue). Walks answers (before ++ a ∷ []) (feed_after feed e) e.prev asked' documents'
      (over end')) one
      (subst (λ (l : List ℕ). Walks answers (before ++ l ∷ []) (feed_after feed d') d'.prev asked' documents'
      (over end')) back more')) in
      let same = sym back in
      let value = sym one in
      record {
        asked = λ i. same i ∷ rest.asked i;
        documents = λ i. value i ∷ rest.documents i;
        end = rest.end;
      }

pub walks_end_one_way : WalksEndInOneWay
walks_end_one_way answers from asked other_asked documents other_documents end other_end walks other_walks =
    same-walk answers [] None (Some from) asked other_asked documents other_documents end other_end walks other_walks
