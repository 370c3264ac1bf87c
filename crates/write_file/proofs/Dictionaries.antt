-- The dictionary page of a column, where there is one.
use Rattle.std.proofs.Common.{◌≡◌, ◌⊎◌, ◌<◌, ◌≤◌, ◌^◌, inl, inr, ℕ, List, [], length, pos, Option, Some, None, refl, sym, ap, subst, arith}
use Rattle.std.specs.Prelude.{cond, is_some, option_map}
use Rattle.shredding.specs.Slot.{Value}
use Rattle.pq_tree.specs.Tree.{Leaf}
use Rattle.pq_files.specs.Packed.{HasDictionary, IsWrittenDictionary}
use Rattle.pq_files.specs.Room.{max_count}
use Rattle.pq_pages.specs.Denotes.{IsDictFor, PagesAreWritten}
use Rattle.pq_pages.specs.HeaderValue.{IsTooLong}
use Rattle.pq_pages.specs.declared.page.DictPage.{DictPage}
use Rattle.pq_pages.specs.declared.page.Page.TheVariants.{Dict}
use Rattle.write_file.specs.Pages.{IsDictionaryOf, IsHeaded, entry_count}

pub is_none : (l : Leaf) (entries : Option (List Value)) → IsDictionaryOf l entries None → HasDictionary l entries []
is_none l None h = refl
is_none l (Some es) h = cc h.1

pub is_page : (l : Leaf) (entries : Option (List Value)) (page : DictPage) (text : List ℕ) → PagesAreWritten → IsDictionaryOf l entries (Some page) → IsHeaded (Dict page) text → HasDictionary l entries text
is_page l None page text law h is = cc h
is_page l (Some es) page text law h is =
    let same : h.0 ≡ page = sym (cc h.1) in
    subst (IsWrittenDictionary l es) (sym is.parts) (law.dictionary_pages l es page is.head (subst (λ (q : DictPage). IsDictFor l.physical es q) same h.2) is.is)

-- its header has fields for its numbers
pub is_short : (l : Leaf) (entries : Option (List Value)) (page : DictPage) → IsDictionaryOf l entries (Some page) → IsTooLong (Dict page) → ⊥
is_short l None page h p = cc h
is_short l (Some es) page h p =
    let same : h.0 ≡ page = sym (cc h.1) in
    of (subst (λ (q : DictPage). q.num_values < 2 ^ 31) same h.3) (subst (λ (q : DictPage). length q.buffer.items < 2 ^ 31) same h.4) p
  where
    of : page.num_values < 2 ^ 31 → length page.buffer.items < 2 ^ 31 → IsTooLong (Dict page) → ⊥
    of few small (inl q) = absurd (omega (arith, few, q))
    of few small (inr q) = absurd (omega (arith, small, q))

-- the text of the dictionary page passes, where its header has fields for its numbers
pub passes_of : (l : Leaf) (entries : Option (List Value)) (d : Option DictPage) (page : DictPage) → PagesAreWritten → d ≡ Some page → IsDictionaryOf l entries d → IsTooLong (Dict page) ⊎ ((text : List ℕ) × IsHeaded (Dict page) text × (max_count < length text)) → (text : List ℕ) × HasDictionary l entries text × (max_count < length text)
passes_of l entries d page law e h (inl p) = absurd (is_short l entries page (subst (λ (x : Option DictPage). IsDictionaryOf l entries x) e h) p)
passes_of l entries d page law e h (inr (text, is, p)) = (text, is_page l entries page text law (subst (λ (x : Option DictPage). IsDictionaryOf l entries x) e h) is, p)

-- the fields of its header count its entries
pub few_entries : (l : Leaf) (entries : Option (List Value)) (d : Option DictPage) → IsDictionaryOf l entries d → entry_count entries ≤ max_count
few_entries l None d h = omega arith
few_entries l (Some es) d h = omega (arith, h.2.count, h.3)

pub has_entries : (l : Leaf) (entries : Option (List Value)) (d : Option DictPage) → IsDictionaryOf l entries d → is_some d ≡ is_some entries
has_entries l None d h = ap is_some h
has_entries l (Some es) d h = ap is_some h.1

pub offset_is : (start : ℕ) (entries : Option (List Value)) → cond (is_some entries) (Some (pos start)) None ≡ option_map (λ (es : List Value). pos start) entries
offset_is start None = refl
offset_is start (Some es) = refl
