-- `mirror`: the lines of the live entries, which are read back from the disk one after another.
use Rattle.std.proofs.Common.{◌≡◌, ℕ, List, ◌++◌, IsTrue, Some, flat_map, append-nil, refl, sym, ap, subst, ◌∙◌}
use Rattle.std.proofs.lemmas.List.{flat_map_more}
use Rattle.atom_values.specs.Entry.{EntryValue}
use Rattle.feed_disk.specs.Disk.{DiskState}
use Rattle.feed_disk.specs.Moments.{LeavesAlone}
use Rattle.feed_disk.specs.declared.area.Area.{Area}
use Rattle.feed_disk.proofs.MomentLemmas.{alone_begins, alone_joins}
use Rattle.mirror_walk.specs.Holding.{KeptValue}
use Rattle.mirror_walk.specs.Listing.{IsLastLive, IsNextLive, entries_up_to, live_at, live_entries}
use Rattle.mirror_walk.specs.Mirror.{MirrorValue}
use Rattle.mirror_commands.specs.Reporting.{IsUsable}
use Rattle.command_ends.specs.Summary.{entry_line}
use Rattle.mirror_walk.proofs.InOrderLemmas.{entries-last, entries-next}

-- the lines of the entries up to this number were added; `observable` is whether contracts can see the disk
pub record IsListing (observable : Type 0) (first : MirrorValue) (s now : DiskState) (mirror : MirrorValue)
    (before text : List ℕ) (after : ℕ) : Type 0 where
  pub kept : mirror.kept ≡ first.kept
  pub listed : IsTrue mirror.listed
  pub usable : IsUsable observable now mirror
  pub entries : observable → text ≡ before ++ flat_map entry_line (entries_up_to (live_at first.kept) after)
  pub areas : (a : Area) → LeavesAlone s now a
  pub faults : now.faults ≡ s.faults

module _ (observable : Type 0) (first : MirrorValue) (s : DiskState) (before : List ℕ) where
  pub listing-start : IsTrue first.listed → IsUsable observable s first → IsListing observable first s s first before before 0
  listing-start listed usable = record {
    kept = refl;
    listed = listed;
    usable = usable;
    entries = λ t. sym (append-nil before);
    areas = alone_begins s;
    faults = refl;
  }

  module _ (now : DiskState) (mirror : MirrorValue) (text : List ℕ) (after : ℕ)
      (h : IsListing observable first s now mirror before text after) where
    pub listing-next : (later : DiskState) (left : MirrorValue) (more : List ℕ) (number : ℕ) (entry : EntryValue)
        → IsNextLive mirror.kept after number → (observable → live_at mirror.kept number ≡ Some entry)
        → more ≡ text ++ entry_line entry → left.kept ≡ mirror.kept → IsTrue left.listed → IsUsable observable later left
        → ((a : Area) → LeavesAlone now later a) → later.faults ≡ now.faults
        → IsListing observable first s later left before more number
    listing-next later left more number entry next there line same listed usable areas faults =
        let found : IsNextLive first.kept after number =
        subst (λ (ks : List KeptValue). IsNextLive ks after number) h.kept next in
        record {
          kept = same ∙ h.kept;
          listed = listed;
          usable = usable;
          entries = λ t.
              let at : live_at first.kept number ≡ Some entry =
              subst (λ (ks : List KeptValue). live_at ks number ≡ Some entry) h.kept (there t) in
              let is : found.entry ≡ entry = let both = sym found.live ∙ at in cc in
              line
              ∙ ap (λ (bytes : List ℕ). bytes ++ entry_line entry) (h.entries t)
              ∙ ap (λ (e : EntryValue). (before ++ flat_map entry_line (entries_up_to (live_at first.kept) after))
              ++ entry_line e)
              (sym is)
              ∙ flat_map_more entry_line before (entries_up_to (live_at first.kept) after) found.entry
              ∙ ap (λ (entries : List EntryValue). before ++ flat_map entry_line entries)
              (sym (entries-next first.kept after number found));
          areas = λ a. alone_joins s now later a (h.areas a) (areas a);
          faults = faults ∙ h.faults;
        }

    pub listing-ends : IsLastLive mirror.kept after → observable
        → text ≡ before ++ flat_map entry_line (live_entries first.kept)
    listing-ends last t =
        h.entries t
        ∙ ap (λ (entries : List EntryValue). before ++ flat_map entry_line entries)
        (entries-last first.kept after (subst (λ (ks : List KeptValue). IsLastLive ks after) h.kept last))
