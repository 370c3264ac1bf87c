-- What is stored of a column that is to be given, and stated of it.
use Rattle.std.proofs.Common.{◌≡◌, ℕ, ◌<◌, ◌≤◌, option_map, List, [], ◌∷◌, length, map, Option, Some, None, sym, ap, subst, ◌∙◌, arith}
use Rattle.std.specs.List.{AllByRecursion as Each}
use Rattle.std.proofs.lemmas.List.{length-map}
use Rattle.shredding.proofs.Pieces.{pieces_are_rows}
use Rattle.shredding.specs.Shred.{Triple, column}
use Rattle.shredding.specs.Slot.{Slot}
use Rattle.dictionary_pages.specs.Entries.{stored_entry}
use Rattle.page_statistics.proofs.Exist.{statistics_exist}
use Rattle.page_statistics.specs.Spelled.{IsExact}
use Rattle.pq_files.specs.Layout.{bounded, plain_length, rows_per_page}
use Rattle.pq_files.specs.Page.{values_in}
use Rattle.pq_files.specs.Room.{max_count}
use Rattle.pq_files.specs.Statistics.{Statistics, HasStatistics}
use Rattle.pq_files.specs.Stored.{AreStored}
use Rattle.pq_files.specs.Written.{statistics_of}
use Rattle.write_file.specs.Pages.{entry_count}
use Rattle.write_pages.specs.Entries.{AreStatedWith, Entries, stored_list}
use Rattle.write_pages.specs.Holds.{ArePieces, HaveBytes, ToGive}
use Rattle.write_pages.specs.Rule.{page_limit}
use Rattle.write_groups.proofs.Pieces.{HasStated, each_some, joined, joined_whole, one_piece, some_pieces, whole_each, whole_some}

pub record Kept (g : ToGive) : Type 0 where
  pub stored : List Triple
  pub are_stored : AreStored g.type g.physical (column g.way g.rows) stored
  pub have_bytes : HaveBytes g.type stored
  pub whole : joined g.pieces ≡ g.rows
  pub each : Each (λ p. 0 < length p) g.pieces
  pub some : 0 < length g.rows → 0 < length g.pieces
  pub told : Each (HasStated g) g.pieces
  pub out : Option Statistics
  pub has : HasStatistics g.options.write_statistics g.type g.physical out (column g.way g.rows) (bounded g.entries (column g.way g.rows))
  pub are : length (column g.way g.rows) ≤ max_count → entry_count (stored_list g.type g.physical g.entries) ≤ max_count → g.statistics ≡ option_map statistics_of out

every : {A : Type 0} (P : A → Type 0) (xs : List A) → ((x : A) → P x) → Each P xs
every P [] h = tt
every P (x ∷ xs) h = (h x, every P xs h)

at_least : (limit size n : ℕ) → 0 < rows_per_page limit size n
at_least limit size n = omega arith

module _ (g : ToGive) where
  -- there are statistics of these rows, with these entries
  abbrev Told : List Slot → Entries → Type 0
  Told p es =
      (st : Option Statistics) × HasStatistics g.options.write_statistics g.type g.physical st (column g.way p) (bounded es (column g.way p)) × IsExact g.type g.physical (bounded es (column g.way p)) st

  abbrev HasAll : Option Statistics → Entries → Type 0
  HasAll st es = HasStatistics g.options.write_statistics g.type g.physical st (column g.way g.rows) (bounded es (column g.way g.rows))

  pub kept : (limit : Option ℕ) (es : Entries) → g.entries ≡ es → ArePieces es limit g.type g.physical (column g.way g.rows) g.rows g.pieces → AreStatedWith g.options.write_statistics g.type g.physical es (column g.way g.rows) g.statistics → Kept g
  kept limit None e h s =
      let size = plain_length g.physical (values_in h.stored) in
      let k = rows_per_page (page_limit limit) size (length g.rows) in
      let least : 0 < k = at_least (page_limit limit) size (length g.rows) in
      record {
        stored = h.stored;
        are_stored = h.are_stored;
        have_bytes = h.have_bytes;
        whole = ap (λ (ps : List (List Slot)). joined ps) h.by_rule ∙ pieces_are_rows g.rows k least;
        each = subst (λ (ps : List (List Slot)). Each (λ p. 0 < length p) ps) (sym h.by_rule) (each_some k g.rows least);
        some = λ n. let q = some_pieces k g.rows n in omega (arith, ap length h.by_rule, q);
        told = every (HasStated g) g.pieces (λ p ts a b. subst (Told p) (sym e) (statistics_exist g.options.write_statistics g.type g.physical (column g.way p) ts a b));
        out = s.out;
        has = subst (HasAll s.out) (sym e) s.has;
        are = λ few fewer. s.are few;
      }
  kept limit (Some es) e h s =
      record {
        stored = h.stored;
        are_stored = h.are_stored;
        have_bytes = h.have_bytes;
        whole = ap (λ (ps : List (List Slot)). joined ps) h.one ∙ joined_whole g.rows;
        each = subst (λ (ps : List (List Slot)). Each (λ p. 0 < length p) ps) (sym h.one) (whole_some g.rows);
        some = λ n. let q = one_piece g.rows n in omega (arith, ap length h.one, q);
        told = subst (λ (ps : List (List Slot)). Each (HasStated g) ps) (sym h.one) (whole_each (HasStated g) g.rows (λ ts a b. subst (Told g.rows) (sym e) (s.out, s.has, s.exact)));
        out = s.out;
        has = subst (HasAll s.out) (sym e) s.has;
        are = λ few fewer.
            let f : length (map (stored_entry g.type g.physical) es) ≤ max_count = subst (λ (x : Entries). entry_count (stored_list g.type g.physical x) ≤ max_count) e fewer in
            s.are few (omega (arith, f, length-map es (stored_entry g.type g.physical)));
      }
