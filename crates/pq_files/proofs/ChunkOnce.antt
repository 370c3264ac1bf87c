-- A chunk has one reading.
use Rattle.std.proofs.Common.{◌≡◌, ℕ, ◌<◌, List, [], ◌∷◌, ◌++◌, Option, Some, None, refl, sym, ap, subst, ◌∙◌, arith}
use Rattle.std.specs.List.{AllZip}
use Rattle.shredding.specs.Slot.{Value}
use Rattle.pq_files.specs.Chunk.{RawPage, IsPageText, IsData, IsDictionary, Pages, here, page, HasPages, Page, Chunk, AreEntriesOf, HasEntries, IsPageIn, IsChunk, count_in}
use Rattle.pq_metadata.specs.Header.{Header, data_page, data_page_2, dictionary_page}
use Rattle.pq_tree.specs.Tree.{Leaf}
use Rattle.pq_files.proofs.HeaderOnce.{page_text_same}
use Rattle.pq_files.proofs.PageOnce.{page_same}
use Rattle.pq_files.proofs.PlainOnce.{plain_same}

-- ---- pages by their headers

append_nothing : (p : RawPage) (text bytes : List ℕ) → IsPageText text p → (other : List ℕ) → bytes ≡ other → text ++ bytes ≡ text ++ other
append_nothing p text bytes h other e = ap (λ (z : List ℕ). text ++ z) e

pub pages_same : (n n' : ℕ) (bytes bytes' : List ℕ) (ps qs : List RawPage) (m m' : ℕ) (rest rest' : List ℕ) → m ≡ 0 → m' ≡ 0 → n ≡ n' → bytes ≡ bytes' → Pages n bytes ps m rest → Pages n' bytes' qs m' rest' → ps ≡ qs
pages_same _ _ _ _ _ _ _ _ _ _ z z' n e (here m rest) (here m' rest') = refl
pages_same _ _ _ _ _ _ _ _ _ _ z z' n e (here m rest) (page n' m' text bytes rest' p more is is_data some others) = absurd (omega (arith, z, n, some))
pages_same _ _ _ _ _ _ _ _ _ _ z z' n e (page n' m' text bytes rest' p more is is_data some others) (here m rest) = absurd (omega (arith, z', n, some))
pages_same _ _ _ _ _ _ _ _ _ _ z z' n e (page k m text bytes rest p more is is_data some others) (page k' m' text' bytes' rest' q more' is' is_data' some' others') =
    let s = page_text_same text text' bytes bytes' p q is is' e in
    let counts : count_in p.header ≡ count_in q.header = ap (λ (x : RawPage). count_in x.header) s.pages in
    ap (λ x. x ∷ more) s.pages ∙ ap (λ xs. q ∷ xs) (pages_same k k' bytes bytes' more more' m m' rest rest' z z' (omega (arith, n, counts)) s.rests others others')

-- a dictionary page is no data page
first_is_data : (n m : ℕ) (bytes rest : List ℕ) (ps : List RawPage) → m ≡ 0 → 0 < n → Pages n bytes ps m rest → (p : RawPage) (text behind : List ℕ) → IsPageText text p → IsDictionary p.header → bytes ≡ text ++ behind → ⊥
first_is_data _ _ _ _ _ z some (here m rest) p text behind is dict e = omega (arith, z, some)
first_is_data _ _ _ _ _ z some (page k m text' bytes rest q more is' is_data some' others) p text behind is dict e =
    let s = page_text_same text' text bytes behind q p is' is e in
    both p.header (subst (λ (x : RawPage). IsData x.header) s.pages is_data) dict
  where
    both : (h : Header) → IsData h → IsDictionary h → ⊥
    both (data_page h) a b = b
    both (data_page_2 h) a b = b
    both (dictionary_page h) a b = a

pub record SameRaw (d c : Option RawPage) (ps qs : List RawPage) : Type 0 where
  pub dictionaries : d ≡ c
  pub pages : ps ≡ qs

has_pages_same : (n : ℕ) (bytes : List ℕ) (d c : Option RawPage) (ps qs : List RawPage) → HasPages n bytes d ps → HasPages n bytes c qs → SameRaw d c ps qs
has_pages_same n bytes None None ps qs a b =
    record { dictionaries = refl; pages = pages_same n n a.behind b.behind ps qs 0 0 a.surplus b.surplus refl refl refl (sym a.starts ∙ b.starts) a.are b.are }
has_pages_same n bytes (Some p) (Some q) ps qs a b =
    let s = page_text_same a.starts.0 b.starts.0 a.behind b.behind p q a.starts.1 b.starts.1 (sym a.starts.4 ∙ b.starts.4) in
    record { dictionaries = ap Some s.pages; pages = pages_same n n a.behind b.behind ps qs 0 0 a.surplus b.surplus refl refl refl s.rests a.are b.are }
has_pages_same n bytes None (Some q) ps qs a b = absurd (first_is_data n 0 a.behind a.surplus ps refl b.starts.3 a.are q b.starts.0 b.behind b.starts.1 b.starts.2 (sym a.starts ∙ b.starts.4))
has_pages_same n bytes (Some p) None ps qs a b = absurd (first_is_data n 0 b.behind b.surplus qs refl a.starts.3 b.are p a.starts.0 a.behind a.starts.1 a.starts.2 (sym b.starts ∙ a.starts.4))

-- ---- what they hold

entries_of_same : (l : Leaf) (h : Header) (body : List ℕ) (xs ys : List Value) → AreEntriesOf l h body xs → AreEntriesOf l h body ys → xs ≡ ys
entries_of_same l (dictionary_page h) body xs ys a b = plain_same l.physical body body xs ys refl a.2 b.2 (sym a.0 ∙ b.0)
entries_of_same l (data_page h) body xs ys a b = absurd a
entries_of_same l (data_page_2 h) body xs ys a b = absurd a

entries_same : (l : Leaf) (d : Option RawPage) (x y : Option (List Value)) → HasEntries l d x → HasEntries l d y → x ≡ y
entries_same l None None None a b = refl
entries_same l (Some p) (Some xs) (Some ys) a b = ap Some (entries_of_same l p.header p.body xs ys a b)
entries_same l None None (Some ys) a b = absurd b
entries_same l None (Some xs) y a b = absurd a
entries_same l (Some p) None y a b = absurd a
entries_same l (Some p) (Some xs) None a b = absurd b

page_in_same : (l : Leaf) (entries : Option (List Value)) (raw : RawPage) (p q : Page) → IsPageIn l entries raw p → IsPageIn l entries raw q → p ≡ q
page_in_same l entries raw p q a b =
    let h : p.header ≡ q.header = a.header ∙ sym b.header in
    let t : p.triples ≡ q.triples = page_same l entries raw.header raw.body p.triples q.triples a.is b.is in
    λ i. record { header = h i; triples = t i }

pages_in_same : (l : Leaf) (entries : Option (List Value)) (raws : List RawPage) (ps qs : List Page) → AllZip (IsPageIn l entries) raws ps → AllZip (IsPageIn l entries) raws qs → ps ≡ qs
pages_in_same l entries [] [] [] a b = refl
pages_in_same l entries [] [] (q ∷ qs) a b = absurd b
pages_in_same l entries [] (p ∷ ps) qs a b = absurd a
pages_in_same l entries (r ∷ rs) [] qs a b = absurd a
pages_in_same l entries (r ∷ rs) (p ∷ ps) [] a b = absurd b
pages_in_same l entries (r ∷ rs) (p ∷ ps) (q ∷ qs) a b =
    ap (λ x. x ∷ ps) (page_in_same l entries r p q a.0 b.0) ∙ ap (λ xs. q ∷ xs) (pages_in_same l entries rs ps qs a.1 b.1)

pub chunk_same : (l : Leaf) (n : ℕ) (bytes : List ℕ) (c d : Chunk) → IsChunk l n bytes c → IsChunk l n bytes d → c ≡ d
chunk_same l n bytes c d a b =
    let raw = has_pages_same n bytes a.dictionary b.dictionary a.pages b.pages a.has b.has in
    let es : c.entries ≡ d.entries = entries_same l b.dictionary c.entries d.entries (subst (λ (x : Option RawPage). HasEntries l x c.entries) raw.dictionaries a.holds.entries) b.holds.entries in
    let zs : AllZip (IsPageIn l d.entries) b.pages c.pages = subst (λ (x : Option (List Value)). AllZip (IsPageIn l x) b.pages c.pages) es (subst (λ (x : List RawPage). AllZip (IsPageIn l c.entries) x c.pages) raw.pages a.holds.are) in
    let ps : c.pages ≡ d.pages = pages_in_same l d.entries b.pages c.pages d.pages zs b.holds.are in
    λ i. record { entries = es i; pages = ps i }
