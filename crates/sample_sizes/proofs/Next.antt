-- What a source of pages gives of a chunk that holds a column without a dictionary: all its pages, and no error.
use Rattle.std.proofs.Common.{◌≡◌, ◌⊎◌, ℕ, ◌≤◌, ◌<◌, ℤ, pos, negsuc, List, [], ◌∷◌, ◌++◌, length, map, Option, Some, None, inl, inr, refl, sym, subst, ap, ◌∙◌, arith}
use Rattle.std.specs.List.{AllByRecursion, AllZip}
use Rattle.std.proofs.lemmas.Bool.Decides.{nat_tests}
use Rattle.std.proofs.lemmas.List.{append_assoc, length-append}
use Rattle.std.proofs.lemmas.List.Elements.{All-from_recursion, recursion_from_All}
use Rattle.columns_base.specs.declared.error.Error.{Error}
use Rattle.columns_base.specs.declared.error.Error.TheVariants.{NotYetImplemented, OutOfSpec}
use Rattle.columns_base.specs.declared.error.N.TheVariants.{N4}
use Rattle.columns_base.specs.declared.error.S.TheVariants.{S3}
use Rattle.pq_files.proofs.HeaderOnce.{page_text_same}
use Rattle.pq_files.proofs.PageOnce.{encoding_same}
use Rattle.pq_files.specs.Chunk.{Chunk, HasEntries, IsChunk, IsData, IsDictionary, IsPageIn, IsPageText, Page, Pages, RawPage, StartsWith, count_in, here, page}
use Rattle.pq_files.specs.Page.{Encoding, HasEncoding, IsSpelled, dictionary, encoding_numbered}
use Rattle.pq_files.specs.PageReasons.{IsNext, IsOutOfPlace, N4Next, Reaches, S3 as PagesAreWrong}
use Rattle.pq_metadata.specs.Header.{Header, SpellsHeader, data_page, data_page_2, dictionary_page, HasHeader}
use Rattle.pq_metadata.specs.HeaderText.{IsOfOtherType, IsOtherType}
use Rattle.pq_metadata.specs.Ids.{get}
use Rattle.pq_pages.specs.DataPages.{IsEncodingNumber}
use Rattle.pq_pages.specs.Outcomes.{IsGiven, Levels, Outcome, fails, gives_dictionary, gives_page, outcomes_of}
use Rattle.pq_pages.specs.ReadsChunk.{HasUnnamed, HeaderIsLong, IsUnnamed, ReadsChunk}
use Rattle.pq_thrift.proofs.OneReading.{same_reading}
use Rattle.pq_thrift.specs.Value.{Fields, Value, int32, struct}
use Rattle.pq_tree.specs.Tree.{Leaf}
use Rattle.shredding.specs.Slot.{Value as Stored}

-- ---- the next page of a chunk, where values are to come
abbrev pub IsAmong : RawPage → List RawPage → Type 0
IsAmong p [] = ⊥
IsAmong p (q ∷ qs) = (q ≡ p) ⊎ IsAmong p qs

pub record Found (ps : List RawPage) (m : ℕ) (rest : List ℕ) : Type 0 where
  pub page : RawPage
  pub among : IsAmong page ps
  pub text : List ℕ
  pub behind : List ℕ
  pub is : IsPageText text page
  pub parts : rest ≡ text ++ behind
  pub is_data : IsData page.header
  pub fits : count_in page.header ≤ m

pub found : (n n' : ℕ) (bytes bytes' : List ℕ) (ps qs : List RawPage) (z m : ℕ) (surplus rest : List ℕ) → z ≡ 0 → 0 < m → n ≡ n' → bytes ≡ bytes' → Pages n bytes ps z surplus → Pages n' bytes' qs m rest → Found ps m rest
found _ _ _ _ _ _ _ _ _ _ z some n e (here k rest) (here k' rest') = absurd (omega (arith, z, some, n))
found _ _ _ _ _ _ _ _ _ _ z some n e (here k rest) (page k' m' text' bytes' rest' q more' is' is_data' some' others') = absurd (omega (arith, z, some', n))
found _ _ _ _ _ _ _ _ _ _ z some n e (page k m text bytes rest p more is is_data some' others) (here k' rest') =
    record { page = p; among = inl refl; text = text; behind = bytes; is = is; parts = sym e; is_data = is_data; fits = omega (arith, n) }
found _ _ _ _ _ _ _ _ _ _ z some n e (page k m text bytes rest p more is is_data some' others) (page k' m' text' bytes' rest' q more' is' is_data' some'' others') =
    let s = page_text_same text text' bytes bytes' p q is is' e in
    let counts : count_in p.header ≡ count_in q.header = ap (λ (x : RawPage). count_in x.header) s.pages in
    let f = found k k' bytes bytes' more more' m m' rest rest' z some (omega (arith, n, counts)) s.rests others others' in
    record { page = f.page; among = inr f.among; text = f.text; behind = f.behind; is = f.is; parts = f.parts; is_data = f.is_data; fits = f.fits }

-- ---- a chunk without a dictionary
pub record IsPaged (l : Leaf) (n : ℕ) (text : List ℕ) (c : Chunk) : Type 0 where
  pub pages : List RawPage
  pub surplus : List ℕ
  pub are : Pages n text pages 0 surplus
  pub hold : AllZip (IsPageIn l None) pages c.pages

no_dictionary : (l : Leaf) (dict : Option RawPage) (es : Option (List Stored)) → es ≡ None → HasEntries l dict es → dict ≡ None
no_dictionary l None es e h = refl
no_dictionary l (Some p) None e h = absurd h
no_dictionary l (Some p) (Some es) e h = absurd (cc e)

pub paged : (l : Leaf) (n : ℕ) (text : List ℕ) (c : Chunk) → c.entries ≡ None → IsChunk l n text c → IsPaged l n text c
paged l n text c e h =
    let none : h.dictionary ≡ None = no_dictionary l h.dictionary c.entries e h.holds.entries in
    let starts : text ≡ h.has.behind = subst (λ d. StartsWith n text d h.has.behind) none h.has.starts in
    record {
      pages = h.pages;
      surplus = h.has.surplus;
      are = subst (λ t. Pages n t h.pages 0 h.has.surplus) (sym starts) h.has.are;
      hold = subst (λ es. AllZip (IsPageIn l es) h.pages c.pages) e h.holds.are;
    }

-- one of its pages holds triples
is_page : (l : Leaf) (p : RawPage) (ps : List RawPage) (qs : List Page) → AllZip (IsPageIn l None) ps qs → IsAmong p ps → (q : Page) × IsPageIn l None p q
is_page l p [] [] h a = absurd a
is_page l p [] (q ∷ qs) h a = absurd h
is_page l p (r ∷ rs) [] h a = absurd h
is_page l p (r ∷ rs) (q ∷ qs) h (inl e) = (q, subst (λ x. IsPageIn l None x q) e h.0)
is_page l p (r ∷ rs) (q ∷ qs) h (inr a) = is_page l p rs qs h.1 a

-- ---- no dictionary stands in front
not_both : (h : Header) → IsData h → IsDictionary h → ⊥
not_both (data_page h) a b = b
not_both (data_page_2 h) a b = b
not_both (dictionary_page h) a b = a

starts_none : (l : Leaf) (n : ℕ) (text behind : List ℕ) (c : Chunk) (dict : Option RawPage) → IsPaged l n text c → StartsWith n text dict behind → dict ≡ None
starts_none l n text behind c None h s = refl
starts_none l n text behind c (Some d) h s =
    let f = found n n text text h.pages [] 0 n h.surplus text refl s.3 refl refl h.are (here n text) in
    let same = page_text_same f.text s.0 f.behind behind f.page d f.is s.1 (sym f.parts ∙ s.4) in
    absurd (not_both d.header (subst (λ (x : RawPage). IsData x.header) same.pages f.is_data) s.2)

record IsReached (ps : List RawPage) (dict : Option RawPage) (m : ℕ) (rest : List ℕ) : Type 0 where
  none : dict ≡ None
  next : Found ps m rest

reached : (l : Leaf) (n : ℕ) (text : List ℕ) (c : Chunk) (dict : Option RawPage) (pages : List RawPage) (m : ℕ) (rest : List ℕ) → (h : IsPaged l n text c) → 0 < m → Reaches n text dict pages m rest → IsReached h.pages dict m rest
reached l n text c dict pages m rest h some r =
    let none = starts_none l n text r.behind c dict h r.starts in
    let starts : text ≡ r.behind = subst (λ d. StartsWith n text d r.behind) none r.starts in
    record { none = none; next = found n n text r.behind h.pages pages 0 m h.surplus rest refl some refl starts h.are r.are }

-- ---- no error
not_indexed : (l : Leaf) (p : RawPage) (q : Page) → IsPageIn l None p q → HasEncoding p.header dictionary → ⊥
not_indexed l p q h e =
    let same : h.is.encoding ≡ dictionary = encoding_same p.header h.is.encoding dictionary h.is.has_encoding e in
    subst (λ k. IsSpelled k l None h.is.values.text _) same h.is.values.spells

not_wrong : (l : Leaf) (n : ℕ) (text : List ℕ) (c : Chunk) → IsPaged l n text c → PagesAreWrong n text → ⊥
not_wrong l n text c h w = by (reached l n text c w.dict w.pages w.m w.rest h w.some w.reaches).next w.wrong
  where
    out : (f : Found h.pages w.m w.rest) (p : RawPage) → f.page ≡ p → IsOutOfPlace w.dict w.pages w.m p → ⊥
    out f p e (inl k) = not_both p.header (subst (λ (x : RawPage). IsData x.header) e f.is_data) k.0
    out f p e (inr (k, inl many)) = absurd (omega (arith, many, f.fits, ap (λ (x : RawPage). count_in x.header) e))
    out f p e (inr (k, inr i)) =
        let q = is_page l f.page h.pages c.pages h.hold f.among in
        not_indexed l f.page q.0 q.1 (subst (λ (x : RawPage). HasEncoding x.header dictionary) (sym e) i.1)

    by : Found h.pages w.m w.rest → (((p : RawPage) → IsNext w.rest p → ⊥) × (¬ IsOfOtherType w.rest)) ⊎ ((p : RawPage) × IsNext w.rest p × IsOutOfPlace w.dict w.pages w.m p) → ⊥
    by f (inl k) = k.0 f.page (record { text = f.text; rest = f.behind; parts = f.parts; spells = f.is })
    by f (inr k) = out f k.0 (page_text_same f.text k.1.text f.behind k.1.rest f.page k.0 f.is k.1.spells (sym f.parts ∙ k.1.parts)).pages k.2

-- a header is not longer than the chunk
behind_pages : (n m : ℕ) (bytes rest : List ℕ) (ps : List RawPage) → Pages n bytes ps m rest → length rest ≤ length bytes
behind_pages _ _ _ _ _ (here m rest) = omega arith
behind_pages _ _ _ _ _ (page n m text bytes rest p more is is_data some others) = omega (arith, behind_pages n m bytes rest more others, length-append text bytes)

not_long : (l : Leaf) (n max : ℕ) (text : List ℕ) (c : Chunk) → IsPaged l n text c → length text ≤ max → HeaderIsLong max n text → ⊥
not_long l n max text c h fits w =
    let none = starts_none l n text w.reaches.behind c w.dict h w.reaches.starts in
    let starts : text ≡ w.reaches.behind = subst (λ d. StartsWith n text d w.reaches.behind) none w.reaches.starts in
    absurd (omega (arith, fits, ap length starts, behind_pages n w.m w.reaches.behind w.rest w.pages w.reaches.are, ap length w.parts, length-append w.head w.behind, w.long))

-- its type is known
same_number : (o : Option Value) (s t : ℤ) → o ≡ Some (int32 s) → o ≡ Some (int32 t) → s ≡ t
same_number o s t a b = ap (number_in s) (sym a ∙ b)
  where
    number_in : ℤ → Option Value → ℤ
    number_in d (Some (int32 z)) = z
    number_in d v = d

type_known : (fs : Fields) (h : Header) (t : ℤ) → HasHeader fs h → get 1 fs ≡ Some (int32 t) → IsOtherType t → ⊥
type_known fs (data_page h) t a e o = o.0 (same_number (get 1 fs) t (pos 0) e a.0)
type_known fs (dictionary_page h) t a e o = o.1 (same_number (get 1 fs) t (pos 2) e a.0)
type_known fs (data_page_2 h) t a e o = o.2 (same_number (get 1 fs) t (pos 3) e a.0)

not_other : (l : Leaf) (n : ℕ) (text : List ℕ) (c : Chunk) → IsPaged l n text c → N4Next n text → ⊥
not_other l n text c h w =
    let r = reached l n text c w.dict w.pages w.m w.rest h w.some w.reaches in
    let p = r.next.is in
    let s = w.other.spells in
    let whole : p.head ++ (r.next.page.body ++ r.next.behind) ≡ s.text ++ s.rest = sym (append_assoc p.head r.next.page.body r.next.behind) ∙ ap (λ (t : List ℕ). t ++ r.next.behind) (sym p.parts) ∙ sym r.next.parts ∙ s.parts in
    let same = same_reading p.head s.text (r.next.page.body ++ r.next.behind) s.rest p.«value» (struct w.other.fields) p.spells s.spells whole in
    let own = subst (λ v. SpellsHeader v (record { header = r.next.page.header; size = length r.next.page.body })) same.1 p.is_header in
    type_known w.other.fields r.next.page.header w.other.type own.header w.other.has_type w.other.other

-- its encoding has a name
named : (z : ℤ) (e : Encoding) → encoding_numbered z ≡ Some e → IsEncodingNumber z
named (pos n) e h = grind (arith, nat_tests)
named (negsuc n) e h = absurd (cc h)

is_named_page : (h : Header) (e : Encoding) → HasEncoding h e → IsUnnamed h → ⊥
is_named_page (data_page h) e a u = u (named h.encoding e a)
is_named_page (data_page_2 h) e a u = u (named h.encoding e a)
is_named_page (dictionary_page h) e a u = absurd a

not_unnamed : (l : Leaf) (n : ℕ) (text : List ℕ) (c : Chunk) → IsPaged l n text c → HasUnnamed n text → ⊥
not_unnamed l n text c h w =
    let r = reached l n text c w.dict w.pages w.m w.rest h w.some w.reaches in
    let same = page_text_same r.next.text w.next.text r.next.behind w.next.rest r.next.page w.page r.next.is w.next.spells (sym r.next.parts ∙ w.next.parts) in
    let q = is_page l r.next.page h.pages c.pages h.hold r.next.among in
    is_named_page r.next.page.header q.1.is.encoding q.1.is.has_encoding (subst (λ (x : RawPage). IsUnnamed x.header) (sym same.pages) w.unnamed)

-- ---- all pages are given
given : (l : Leaf) (n max : ℕ) (text : List ℕ) (c : Chunk) (os : List Outcome) → IsPaged l n text c → length text ≤ max
    → AllByRecursion (λ o. o ≡ fails (OutOfSpec S3) → PagesAreWrong n text ⊎ HeaderIsLong max n text) os
    → AllByRecursion (λ o. o ≡ fails (NotYetImplemented N4) → N4Next n text ⊎ HasUnnamed n text) os
    → AllByRecursion (λ o. (e : Error) → o ≡ fails e → (e ≡ OutOfSpec S3) ⊎ (e ≡ NotYetImplemented N4)) os
    → AllByRecursion IsGiven os
given l n max text c [] h fits a b k = tt
given l n max text c (gives_page p levels ∷ os) h fits a b k = (tt, given l n max text c os h fits a.1 b.1 k.1)
given l n max text c (gives_dictionary m body ∷ os) h fits a b k = (tt, given l n max text c os h fits a.1 b.1 k.1)
given l n max text c (fails e ∷ os) h fits a b k = absurd (of (k.0 e refl))
  where
    wrong : PagesAreWrong n text ⊎ HeaderIsLong max n text → ⊥
    wrong (inl w) = not_wrong l n text c h w
    wrong (inr w) = not_long l n max text c h fits w

    unread : N4Next n text ⊎ HasUnnamed n text → ⊥
    unread (inl w) = not_other l n text c h w
    unread (inr w) = not_unnamed l n text c h w

    of : (e ≡ OutOfSpec S3) ⊎ (e ≡ NotYetImplemented N4) → ⊥
    of (inl s) = wrong (a.0 (ap fails s))
    of (inr s) = unread (b.0 (ap fails s))

-- the pages of the chunk, and nothing in front of them
pub record AreGiven (levels : Levels) (n : ℕ) (text : List ℕ) (os : List Outcome) : Type 0 where
  pub pages : List RawPage
  pub surplus : List ℕ
  pub are : os ≡ map (λ p. gives_page p levels) pages
  pub stand : Pages n text pages 0 surplus

pub are_given : (l : Leaf) (levels : Levels) (n max : ℕ) (text : List ℕ) (c : Chunk) (os : List Outcome) → IsPaged l n text c → length text ≤ max → ReadsChunk max levels n text os → AreGiven levels n text os
are_given l levels n max text c os h fits r =
    let all = given l n max text c os h fits (recursion_from_All _ os r.wrong) (recursion_from_All _ os r.unread) (recursion_from_All _ os r.no_other) in
    let p = r.pages (All-from_recursion IsGiven os all) in
    let none = starts_none l n text p.has.behind c p.dict h p.has.starts in
    let starts : text ≡ p.has.behind = subst (λ d. StartsWith n text d p.has.behind) none p.has.starts in
    record {
      pages = p.pages;
      surplus = p.has.surplus;
      are = p.are ∙ ap (λ d. outcomes_of levels d p.pages) none;
      stand = subst (λ t. Pages n t p.pages 0 p.has.surplus) (sym starts) p.has.are;
    }
