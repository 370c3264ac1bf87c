-- What a reader gives of a chunk without a dictionary page that is there: its pages, and no error.
use Rattle.std.proofs.Common.{◌≡◌, ◌⊎◌, ◌<◌, ◌≤◌, ℕ, zero, suc, ℤ, pos, negsuc, List, [], ◌∷◌, ◌++◌, All, map, length, length-append, append_assoc, get_or, Option, Some, None, refl, sym, ap, subst, ◌∙◌, inl, inr, arith, ne_eqb}
use Rattle.std.specs.List.{AllZip}
use Rattle.columns_base.specs.declared.error.Error.{Error}
use Rattle.columns_base.specs.declared.error.Error.TheVariants.{OutOfSpec, NotYetImplemented}
use Rattle.columns_base.specs.declared.error.S.TheVariants.{S3}
use Rattle.columns_base.specs.declared.error.N.TheVariants.{N4}
use Rattle.shredding.specs.Shred.{Triple}
use Rattle.shredding.specs.Slot.{Value}
use Rattle.pq_thrift.specs.Value.{Value as Thrift, int32, struct, Fields}
use Rattle.pq_thrift.proofs.OneReading.{same_reading}
use Rattle.pq_metadata.specs.Header.{Header, data_page, data_page_2, dictionary_page, HasHeader, HasPageHeader, SpellsHeader}
use Rattle.pq_metadata.specs.HeaderText.{IsOfOtherType, IsOtherType}
use Rattle.pq_metadata.specs.Ids.{get}
use Rattle.pq_tree.specs.Tree.{Leaf}
use Rattle.pq_files.specs.Chunk.{Chunk, HasEntries, HasPages, IsChunk, IsData, IsDictionary, IsPageIn, IsPageText, Page, Pages, RawPage, StartsWith, count_in, here, page}
use Rattle.pq_files.specs.Page.{Encoding, HasEncoding, IsCounted, IsSpelled, dictionary, encoding_numbered}
use Rattle.pq_files.specs.PageReasons.{IsOutOfPlace, N4Next, Reaches, S3 as PagesAreWrong}
use Rattle.pq_files.proofs.ChunkOnce.{pages_same}
use Rattle.pq_files.proofs.HeaderOnce.{page_text_same}
use Rattle.pq_files.proofs.PageOnce.{encoding_same}
use Rattle.pq_numbers.specs.Texts.{Begins}
use Rattle.pq_pages.specs.DataPages.{IsEncodingNumber}
use Rattle.pq_pages.specs.Outcomes.{IsGiven, Levels, Outcome, fails, gives_dictionary, gives_page, outcomes_of}
use Rattle.pq_pages.specs.ReadsChunk.{HasUnnamed, HeaderIsLong, IsUnnamed, ReadsChunk}

-- ---- pages go on where others end

record GoOn (m : ℕ) (rest : List ℕ) (ps qs : List RawPage) (surplus : List ℕ) : Type 0 where
  pub more : List RawPage
  pub parts : qs ≡ ps ++ more
  pub are : Pages m rest more 0 surplus

go_on : (n n' : ℕ) (bytes bytes' : List ℕ) (ps qs : List RawPage) (m m' : ℕ) (rest surplus : List ℕ) → m' ≡ 0 → n ≡ n' → bytes ≡ bytes' → Pages n bytes ps m rest → Pages n' bytes' qs m' surplus → GoOn m rest ps qs surplus
go_on _ n' _ bytes' _ qs _ m' _ surplus z e same (here m rest) others = record {
  more = qs;
  parts = refl;
  are = subst (λ (k : ℕ). Pages m rest qs k surplus) z (subst (λ (s : List ℕ). Pages m s qs m' surplus) (sym same) (subst (λ (k : ℕ). Pages k bytes' qs m' surplus) (sym e) others));
}
go_on _ _ _ _ _ _ _ _ _ _ z e same (page k m text bytes rest p more is is_data some others) (here m' surplus) = absurd (omega (arith, z, e, some))
go_on _ _ _ _ _ _ _ _ _ _ z e same (page k m text bytes rest p more is is_data some others) (page k' m' text' bytes' surplus q more' is' is_data' some' others') =
    let s = page_text_same text text' bytes bytes' p q is is' same in
    let counts : count_in p.header ≡ count_in q.header = ap (λ (x : RawPage). count_in x.header) s.pages in
    let on = go_on k k' bytes bytes' more more' m m' rest surplus z (omega (arith, e, counts)) s.rests others others' in
    record { more = on.more; parts = ap (λ x. x ∷ more') (sym s.pages) ∙ ap (λ xs. p ∷ xs) on.parts; are = on.are }

-- the next page, where values are to come
record HasNext (m : ℕ) (rest : List ℕ) (pages : List RawPage) : Type 0 where
  pub next : RawPage
  pub others : List RawPage
  pub are : pages ≡ next ∷ others
  pub text : List ℕ
  pub behind : List ℕ
  pub parts : rest ≡ text ++ behind
  pub is : IsPageText text next
  pub is_data : IsData next.header
  pub fits : count_in next.header ≤ m

has_next : (m : ℕ) (rest : List ℕ) (pages : List RawPage) (k : ℕ) (surplus : List ℕ) → k ≡ 0 → 0 < m → Pages m rest pages k surplus → HasNext m rest pages
has_next _ _ _ _ _ z some (here m rest) = absurd (omega (arith, z, some))
has_next _ _ _ _ _ z some (page n m text bytes rest p more is is_data count others) =
    record { next = p; others = more; are = refl; text = text; behind = bytes; parts = refl; is = is; is_data = is_data; fits = omega arith }

-- a data page is no dictionary page
not_both : (h : Header) → IsData h → IsDictionary h → ⊥
not_both (data_page h) a b = b
not_both (data_page_2 h) a b = b
not_both (dictionary_page h) a b = a

first_is_data : (n m : ℕ) (bytes rest : List ℕ) (ps : List RawPage) → m ≡ 0 → 0 < n → Pages n bytes ps m rest → (p : RawPage) (text behind : List ℕ) → IsPageText text p → IsDictionary p.header → bytes ≡ text ++ behind → ⊥
first_is_data n m bytes rest ps z some pages p text behind is dict e =
    let x = has_next n bytes ps m rest z some pages in
    let s = page_text_same x.text text x.behind behind x.next p x.is is (sym x.parts ∙ e) in
    not_both p.header (subst (λ (q : RawPage). IsData q.header) s.pages x.is_data) dict

-- ---- a chunk without a dictionary page

record Plain (l : Leaf) (n : ℕ) (text : List ℕ) (pages : List Page) : Type 0 where
  pub raws : List RawPage
  pub surplus : List ℕ
  pub are : Pages n text raws 0 surplus
  pub hold : AllZip (IsPageIn l None) raws pages

pub no_front : (l : Leaf) (d : Option RawPage) (entries : Option (List Value)) → entries ≡ None → HasEntries l d entries → d ≡ None
no_front l None entries e h = refl
no_front l (Some d) None e h = absurd h
no_front l (Some d) (Some vs) e h = absurd (cc e)

plain_of : (l : Leaf) (n : ℕ) (text : List ℕ) (c : Chunk) → c.entries ≡ None → IsChunk l n text c → Plain l n text c.pages
plain_of l n text c e is =
    let none : is.dictionary ≡ None = no_front l is.dictionary c.entries e is.holds.entries in
    let starts : StartsWith n text None is.has.behind = subst (λ (d : Option RawPage). StartsWith n text d is.has.behind) none is.has.starts in
    record {
      raws = is.pages;
      surplus = is.has.surplus;
      are = subst (λ (s : List ℕ). Pages n s is.pages 0 is.has.surplus) (sym starts) is.has.are;
      hold = subst (λ (d : Option (List Value)). AllZip (IsPageIn l d) is.pages c.pages) e is.holds.are;
    }

-- a page of it holds no indices, and its encoding has a name
pub not_indexed : (l : Leaf) (raw : RawPage) (q : Page) → IsPageIn l None raw q → HasEncoding raw.header dictionary → ⊥
not_indexed l raw q h e =
    let same : h.is.encoding ≡ dictionary = encoding_same raw.header h.is.encoding dictionary h.is.has_encoding e in
    (subst (λ (k : Encoding). Begins (IsSpelled k l None) h.is.sections.values _) same h.is.values).spells

named : (z : ℤ) (e : Encoding) → encoding_numbered z ≡ Some e → IsEncodingNumber z
named (pos zero) e h = refl
named (pos (suc zero)) e h = absurd (cc h)
named (pos (suc (suc zero))) e h = refl
named (pos (suc (suc (suc zero)))) e h = refl
named (pos (suc (suc (suc (suc zero))))) e h = refl
named (pos (suc (suc (suc (suc (suc zero)))))) e h = refl
named (pos (suc (suc (suc (suc (suc (suc zero))))))) e h = refl
named (pos (suc (suc (suc (suc (suc (suc (suc zero)))))))) e h = refl
named (pos (suc (suc (suc (suc (suc (suc (suc (suc zero))))))))) e h = refl
named (pos (suc (suc (suc (suc (suc (suc (suc (suc (suc n)))))))))) e h =
    let k : ℕ = suc (suc (suc (suc (suc (suc (suc (suc (suc n)))))))) in
    let none : None ≡ Some e = rw (ne_eqb k 0 (λ q. omega (arith, q)), ne_eqb k 2 (λ q. omega (arith, q)), ne_eqb k 8 (λ q. omega (arith, q)), ne_eqb k 5 (λ q. omega (arith, q)), ne_eqb k 6 (λ q. omega (arith, q))) at h in
    absurd (cc none)
named (negsuc n) e h = absurd (cc h)

has_name : (h : Header) (e : Encoding) → IsData h → HasEncoding h e → IsUnnamed h → ⊥
has_name (data_page h) e d k u = u (named h.encoding e k)
has_name (data_page_2 h) e d k u = u (named h.encoding e k)
has_name (dictionary_page h) e d k u = d

-- the header counts its triples
pub counted_as : (h : Header) (e : Encoding) (ts : List Triple) → HasEncoding h e → IsCounted h ts → length ts ≡ count_in h
counted_as (data_page h) e ts d c = sym c
counted_as (data_page_2 h) e ts d c = sym c.0
counted_as (dictionary_page h) e ts d c = absurd d

-- ---- what is reached of it

record Comes (l : Leaf) (dict : Option RawPage) (m : ℕ) (rest : List ℕ) : Type 0 where
  pub none : dict ≡ None
  pub pages : List RawPage
  pub has : HasNext m rest pages
  pub held : Page
  pub holds : IsPageIn l None has.next held

held_behind : (l : Leaf) (ps : List RawPage) (p : RawPage) (others : List RawPage) (qs : List Page) → AllZip (IsPageIn l None) (ps ++ p ∷ others) qs → (q : Page) × IsPageIn l None p q
held_behind l [] p others [] h = absurd h
held_behind l [] p others (q ∷ qs) h = (q, h.0)
held_behind l (x ∷ ps) p others [] h = absurd h
held_behind l (x ∷ ps) p others (q ∷ qs) h = held_behind l ps p others qs h.1

comes : (l : Leaf) (n : ℕ) (text : List ℕ) (qs : List Page) (dict : Option RawPage) (pages : List RawPage) (m : ℕ) (rest : List ℕ) → Plain l n text qs → Reaches n text dict pages m rest → 0 < m → Comes l dict m rest
comes l n text qs None pages m rest c r some =
    let on = go_on n n r.behind text pages c.raws m 0 rest c.surplus refl refl (sym r.starts) r.are c.are in
    let next = has_next m rest on.more 0 c.surplus refl some on.are in
    let parts : c.raws ≡ pages ++ next.next ∷ next.others = on.parts ∙ ap (λ xs. pages ++ xs) next.are in
    let held = held_behind l pages next.next next.others qs (subst (λ (xs : List RawPage). AllZip (IsPageIn l None) xs qs) parts c.hold) in
    record { none = refl; pages = on.more; has = next; held = held.0; holds = held.1 }
comes l n text qs (Some d) pages m rest c r some = absurd (first_is_data n 0 text c.surplus c.raws refl r.starts.3 c.are d r.starts.0 r.behind r.starts.1 r.starts.2 r.starts.4)

same_next : (l : Leaf) (dict : Option RawPage) (m : ℕ) (rest : List ℕ) (p : RawPage) (c : Comes l dict m rest) → Begins IsPageText rest p → c.has.next ≡ p
same_next l dict m rest p c b = (page_text_same c.has.text b.text c.has.behind b.rest c.has.next p c.has.is b.spells (sym c.has.parts ∙ b.parts)).pages

-- ---- so nothing is wrong

in_place : (l : Leaf) (dict : Option RawPage) (pages : List RawPage) (m : ℕ) (rest : List ℕ) (p : RawPage) (c : Comes l dict m rest) → c.has.next ≡ p → IsOutOfPlace dict pages m p → ⊥
in_place l dict pages m rest p c e (inl x) = not_both p.header (subst (λ (q : RawPage). IsData q.header) e c.has.is_data) x.0
in_place l dict pages m rest p c e (inr (d, inl few)) = omega (arith, few, c.has.fits, ap (λ (q : RawPage). count_in q.header) e)
in_place l dict pages m rest p c e (inr (d, inr x)) = not_indexed l c.has.next c.held c.holds (subst (λ (q : RawPage). HasEncoding q.header dictionary) (sym e) x.1)

no_wrong : (l : Leaf) (n : ℕ) (text : List ℕ) (qs : List Page) → Plain l n text qs → PagesAreWrong n text → ⊥
no_wrong l n text qs c w = by w.wrong
  where
    x : Comes l w.dict w.m w.rest
    x = comes l n text qs w.dict w.pages w.m w.rest c w.reaches w.some

    by : (((p : RawPage) → Begins IsPageText w.rest p → ⊥) × (¬ IsOfOtherType w.rest)) ⊎ ((p : RawPage) × Begins IsPageText w.rest p × IsOutOfPlace w.dict w.pages w.m p) → ⊥
    by (inl none) = none.0 x.has.next (record { text = x.has.text; rest = x.has.behind; parts = x.has.parts; spells = x.has.is })
    by (inr out) = in_place l w.dict w.pages w.m w.rest out.0 x (same_next l w.dict w.m w.rest out.0 x out.1) out.2

behind_pages : (n m : ℕ) (bytes rest : List ℕ) (pages : List RawPage) → Pages n bytes pages m rest → length rest ≤ length bytes
behind_pages _ _ _ _ _ (here m rest) = omega arith
behind_pages _ _ _ _ _ (page n m text bytes rest p more is is_data some others) = omega (arith, behind_pages n m bytes rest more others, length-append text bytes)

behind_front : (n : ℕ) (bytes behind : List ℕ) (dict : Option RawPage) → StartsWith n bytes dict behind → length behind ≤ length bytes
behind_front n bytes behind None e = omega (arith, ap length e)
behind_front n bytes behind (Some p) s = omega (arith, ap length s.4, length-append s.0 behind)

no_long : (max n : ℕ) (text : List ℕ) → length text ≤ max → HeaderIsLong max n text → ⊥
no_long max n text fits x =
    omega (arith, fits, behind_front n text x.reaches.behind x.dict x.reaches.starts, behind_pages n x.m x.reaches.behind x.rest x.pages x.reaches.are, ap length x.parts, length-append x.head x.behind, x.long)

page_type : (fs : Fields) (h : Header) (t : ℤ) → HasHeader fs h → get 1 fs ≡ Some (int32 t) → IsOtherType t → ⊥
page_type fs (data_page h) t has e o = o.0 (cc (has.0, e))
page_type fs (dictionary_page h) t has e o = o.1 (cc (has.0, e))
page_type fs (data_page_2 h) t has e o = o.2 (cc (has.0, e))

no_other_type : (rest text behind : List ℕ) (p : RawPage) → rest ≡ text ++ behind → IsPageText text p → IsOfOtherType rest → ⊥
no_other_type rest text behind p e is o =
    let whole : is.head ++ (p.body ++ behind) ≡ o.spells.text ++ o.spells.rest = sym (append_assoc is.head p.body behind) ∙ ap (λ (s : List ℕ). s ++ behind) (sym is.parts) ∙ sym e ∙ o.spells.parts in
    let read = same_reading is.head o.spells.text (p.body ++ behind) o.spells.rest is.value (struct o.fields) is.spells o.spells.spells whole in
    let header : HasPageHeader o.fields (record { header = p.header; size = length p.body }) = subst (λ (v : Thrift). SpellsHeader v (record { header = p.header; size = length p.body })) read.1 is.is_header in
    page_type o.fields p.header o.type header.header o.has_type o.other

no_other : (l : Leaf) (n : ℕ) (text : List ℕ) (qs : List Page) → Plain l n text qs → N4Next n text → ⊥
no_other l n text qs c w =
    let x = comes l n text qs w.dict w.pages w.m w.rest c w.reaches w.some in
    no_other_type w.rest x.has.text x.has.behind x.has.next x.has.parts x.has.is w.other

no_unnamed : (l : Leaf) (n : ℕ) (text : List ℕ) (qs : List Page) → Plain l n text qs → HasUnnamed n text → ⊥
no_unnamed l n text qs c w =
    let x = comes l n text qs w.dict w.pages w.m w.rest c w.reaches w.some in
    let e = same_next l w.dict w.m w.rest w.page x w.next in
    has_name x.has.next.header x.holds.is.encoding x.has.is_data x.holds.is.has_encoding (subst (λ (p : RawPage). IsUnnamed p.header) (sym e) w.unnamed)

-- ---- the pages are given

one_given : (max : ℕ) (l : Leaf) (n : ℕ) (text : List ℕ) (qs : List Page) → length text ≤ max → Plain l n text qs → (o : Outcome)
    → (o ≡ fails (OutOfSpec S3) → PagesAreWrong n text ⊎ HeaderIsLong max n text) → (o ≡ fails (NotYetImplemented N4) → N4Next n text ⊎ HasUnnamed n text) → ((e : Error) → o ≡ fails e → (e ≡ OutOfSpec S3) ⊎ (e ≡ NotYetImplemented N4)) → IsGiven o
one_given max l n text qs fits c (gives_page p levels) wrong unread other = tt
one_given max l n text qs fits c (gives_dictionary k body) wrong unread other = tt
one_given max l n text qs fits c (fails e) wrong unread other = by (other e refl)
  where
    not_wrong : PagesAreWrong n text ⊎ HeaderIsLong max n text → ⊥
    not_wrong (inl w) = no_wrong l n text qs c w
    not_wrong (inr w) = no_long max n text fits w

    not_unread : N4Next n text ⊎ HasUnnamed n text → ⊥
    not_unread (inl w) = no_other l n text qs c w
    not_unread (inr w) = no_unnamed l n text qs c w

    by : (e ≡ OutOfSpec S3) ⊎ (e ≡ NotYetImplemented N4) → ⊥
    by (inl is) = not_wrong (wrong (ap (λ (x : Error). fails x) is))
    by (inr is) = not_unread (unread (ap (λ (x : Error). fails x) is))

-- The outcomes are the pages of the chunk.
pub record AreGiven (l : Leaf) (levels : Levels) (outcomes : List Outcome) (pages : List Page) : Type 0 where
  pub raws : List RawPage
  pub are : outcomes ≡ map (λ p. gives_page p levels) raws
  pub hold : AllZip (IsPageIn l None) raws pages

same_pages : (l : Leaf) (levels : Levels) (n : ℕ) (text : List ℕ) (qs : List Page) (outcomes : List Outcome) (dict : Option RawPage) (pages : List RawPage) → Plain l n text qs → HasPages n text dict pages → outcomes ≡ outcomes_of levels dict pages → AreGiven l levels outcomes qs
same_pages l levels n text qs outcomes None pages c has e =
    let same : pages ≡ c.raws = pages_same n n has.behind text pages c.raws 0 0 has.surplus c.surplus refl refl refl (sym has.starts) has.are c.are in
    record { raws = pages; are = e; hold = subst (λ (xs : List RawPage). AllZip (IsPageIn l None) xs qs) (sym same) c.hold }
same_pages l levels n text qs outcomes (Some d) pages c has e = absurd (first_is_data n 0 text c.surplus c.raws refl has.starts.3 c.are d has.starts.0 has.behind has.starts.1 has.starts.2 has.starts.4)

pub given : (max : ℕ) (l : Leaf) (levels : Levels) (n : ℕ) (text : List ℕ) (c : Chunk) (outcomes : List Outcome) → length text ≤ max → c.entries ≡ None → IsChunk l n text c → ReadsChunk max levels n text outcomes → AreGiven l levels outcomes c.pages
given max l levels n text c outcomes fits e is r =
    let own = plain_of l n text c e is in
    let all : All IsGiven outcomes = λ k d lt. one_given max l n text c.pages fits own (get_or outcomes k d) (r.wrong k d lt) (r.unread k d lt) (r.no_other k d lt) in
    let pages = r.pages all in
    same_pages l levels n text c.pages outcomes pages.dict pages.pages own pages.has pages.are
