-- The chunk that given pages hold is the one in the file.
use Rattle.std.proofs.Common.{ℕ, List, [], ◌∷◌, map, Option, None, Some, sym, subst}
use Rattle.std.specs.Prelude.{IfSome}
use Rattle.std.specs.List.{AllZip}
use Rattle.shredding.specs.Slot.{Value}
use Rattle.pq_metadata.specs.Header.{Header, data_page, data_page_2, dictionary_page}
use Rattle.pq_tree.specs.Tree.{Leaf}
use Rattle.pq_files.specs.Chunk.{RawPage, Page, Chunk, AreEntriesOf, HasEntries, Holds, IsChunk, IsPageIn, count_in}
use Rattle.pq_files.specs.PageReasons.{EncodingOfEntries}
use Rattle.pq_pages.specs.Held.{AreEntriesIn, ArePagesIn, HoldsChunk}
use Rattle.pq_pages.specs.Outcomes.{Levels, Outcome, gives_page, outcomes_of}
use Rattle.pq_pages.specs.ReadsChunk.{AreItsPages}

pages_are : (l : Leaf) (entries : Option (List Value)) (levels : Levels) (ps : List RawPage) (qs : List Page) → ArePagesIn l entries (map (λ p. gives_page p levels) ps) qs → AllZip (IsPageIn l entries) ps qs
pages_are l entries levels [] [] h = tt
pages_are l entries levels [] (q ∷ qs) h = absurd h
pages_are l entries levels (p ∷ ps) [] h = absurd h
pages_are l entries levels (p ∷ ps) (q ∷ qs) h = (h.0, pages_are l entries levels ps qs h.1)

entries_are : (l : Leaf) (h : Header) (body : List ℕ) (entries : List Value) → EncodingOfEntries h → AreEntriesIn l (count_in h) body entries → AreEntriesOf l h body entries
entries_are l (dictionary_page h) body entries e x = (x.count, e, x.plain)
entries_are l (data_page h) body entries e x = absurd e
entries_are l (data_page_2 h) body entries e x = absurd e

holds_of : (l : Leaf) (levels : Levels) (dict : Option RawPage) (pages : List RawPage) (c : Chunk) → IfSome dict (λ p. EncodingOfEntries p.header) → HoldsChunk l (outcomes_of levels dict pages) c → Holds l dict pages c
holds_of l levels (Some d) pages c e x =
    record {
      entries = subst (HasEntries l (Some d)) (sym x.1) (entries_are l d.header d.body x.0 e x.2);
      are = pages_are l c.entries levels pages c.pages x.3;
    }
holds_of l levels None [] c e x = record { entries = subst (HasEntries l None) (sym x.0) tt; are = pages_are l c.entries levels [] c.pages x.1 }
holds_of l levels None (p ∷ ps) c e x = record { entries = subst (HasEntries l None) (sym x.0) tt; are = pages_are l c.entries levels (p ∷ ps) c.pages x.1 }

pub chunk_held : (levels : Levels) (n : ℕ) (text : List ℕ) (os : List Outcome) (l : Leaf) (c : Chunk) → AreItsPages levels n text os → HoldsChunk l os c → IsChunk l n text c
chunk_held levels n text os l c are x =
    record {
      dictionary = are.dict;
      pages = are.pages;
      has = are.has;
      holds = holds_of l levels are.dict are.pages c are.entries (subst (λ (xs : List Outcome). HoldsChunk l xs c) are.are x);
    }
