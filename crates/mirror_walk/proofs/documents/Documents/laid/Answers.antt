use Rattle.std.proofs.Common.{◌≡◌, ◌≤◌, ℕ, List, ◌∷◌, None, Some, get_or, length, ap, sym, subst, ◌∙◌, arith}
use Rattle.std.proofs.lemmas.Option.{get_or_from_slice_get, slice_get_within}
use Rattle.atom_writer.specs.Doc.{DocValue}
use Rattle.mirror_walk.specs.Holding.{HeldValue, KeptValue, archives_from, best_of, first_missing}
use Rattle.mirror_walk.specs.Index.{HasBest, HasEntries, IsBestOf}
use Rattle.mirror_walk.proofs.MissingLemmas.{whole-held}
use Rattle.mirror_walk.proofs.OutcomeLemmas.{best-place, best_of-some, chain_of-best}
use Rattle.mirror_walk.proofs.documents.Documents.laid.Goals as goal
use Rattle.mirror_walk.proofs.documents.Documents.laid.Goals.{After-unwrap-best, After-prev-prev}

-- the best subscription document, and its place
best : (c : After-unwrap-best)
    → (document : KeptValue) × (best_of c.args.self.now.kept ≡ Some document)
    × IsBestOf c.args.self.now.kept c.unwrap-best.result document
best c =
    let kept = c.args.self.now.kept in
    best_of-some kept c.self.inside.best c.unwrap-best.result (best_of kept)
    (subst (λ (v : HeldValue). HasBest v.kept c.self.inside.best (best_of v.kept)) c.self.view_is
    c.self.invariant.best_there)
    c.unwrap-best.ensures

-- the archive before it
prev : (c : After-prev-prev) → c.prev-prev.result ≡ (best (goal.at.After-prev-prev c).After-unwrap-best).0.document.prev
prev c =
    let newest = best (goal.at.After-prev-prev c).After-unwrap-best in
    let at = c.unwrap-best.result.at in
    let found = c.index.result.now in
    let same : found ≡ newest.0 = c.index.ensures
    ∙ ap (λ (v : HeldValue). get_or v.kept at found) c.self.view_is
    ∙ get_or_from_slice_get c.args.self.now.kept at newest.0 found newest.2.there in
    c.prev-prev.ensures ∙ ap (λ (k : KeptValue). k.document.prev) same

pub unwrap-best-requires : goal.unwrap-best-requires
unwrap-best-requires c =
    best-place c.self.inside.kept.items c.self.inside.best c.self.invariant.best_there
    (subst (λ (v : HeldValue). first_missing v.kept ≡ None) (sym c.self.view_is) c.requires.whole)

pub index-requires : goal.index-requires
index-requires c =
    let newest = best (goal.at.index-requires c).After-unwrap-best in
    let within = slice_get_within c.args.self.now.kept c.unwrap-best.result.at newest.0 newest.2.there in
    omega (arith, within, c.self.inside.kept.ok, ap (λ (v : HeldValue). length v.kept) c.self.view_is)

pub lay_archives-requires-clause-held : goal.lay_archives-requires-clause-held
lay_archives-requires-clause-held c =
    let d = goal.at.lay_archives-requires-clause-held c in
    let newest = best d.After-unwrap-best in
    λ number one within. whole-held c.args.self.now.kept newest.0 c.requires.whole newest.1 number one
    (subst (λ (n : ℕ). number ≤ n) (prev d.After-prev-prev) within)

pub lay_best-requires-clause-within : goal.lay_best-requires-clause-within
lay_best-requires-clause-within c =
    let newest = best (goal.at.lay_best-requires-clause-within c).After-unwrap-best in
    slice_get_within c.args.self.now.kept c.unwrap-best.result.at newest.0 newest.2.there

pub returns-clause-listing : goal.returns-clause-listing
returns-clause-listing c =
    let d = goal.at.returns-clause-listing c in
    let kept = c.args.self.now.kept in
    let newest = best d.After-unwrap-best in
    let laid = c.in_ok-lay_best.ensures in
    let all = c.in_ok-lay_archives.ensures.last ∙ prev d.After-prev-prev in
    record {
      whole = c.requires.whole;
      entries = subst (λ (documents : List DocValue). HasEntries kept documents c.lay_best.new.map.entries)
          (ap (λ (n : ℕ). newest.0.document ∷ archives_from kept n) all
          ∙ sym (chain_of-best kept newest.0 newest.1))
          (laid.entries newest.0 newest.2.there);
      members = laid.members;
    }
