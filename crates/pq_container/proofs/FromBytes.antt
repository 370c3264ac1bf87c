-- From the Thrift value in front of bytes to what it says.
use Rattle.std.proofs.Common.{◌≡◌, ◌↔◌, ℕ, ℤ, pos, ◌≤◌, List, ◌++◌, take, drop, Some, refl, sym, ap, subst, inl, inr}
use Rattle.std.specs.Prelude.{◌⊎◌, Result, Ok, Err}
use Rattle.std.proofs.lemmas.List.{take-append-drop}
use Rattle.columns_base.specs.declared.error.Error.{Error}
use Rattle.columns_base.specs.declared.error.Error.TheVariants.{ReadFault, WriteFault, InputLimit, OutOfSpec, NotYetImplemented, InvalidArgumentError, Overflow, Memory}
use Rattle.columns_base.specs.declared.error.S.TheVariants.{S1, S3}
use Rattle.columns_base.specs.declared.error.N.TheVariants.{N4, N7}
use Rattle.pq_numbers.specs.Texts.{Begins}
use Rattle.pq_thrift.specs.declared.fault.Fault.{Fault}
use Rattle.pq_thrift.specs.declared.fault.Fault.TheVariants.{Deep}
use Rattle.pq_thrift.specs.declared.value.Thrift.{Thrift}
use Rattle.pq_thrift.specs.Grammar.{Spells, depth}
use Rattle.pq_thrift.specs.Outcome.{ReadsAs}
use Rattle.pq_thrift.specs.Reading.{max_depth, thrift_at}
use Rattle.pq_thrift.specs.Value.{Value, int32, struct, Fields, view}
use Rattle.pq_metadata.specs.FlatFooter.{FlatFooter, SpellsFlatFooter, SpellsFlatRecord}
use Rattle.pq_metadata.specs.FooterReads.{NestsTooDeep, RefusesFooter}
use Rattle.pq_metadata.specs.Header.{Header, data_page, data_page_2, dictionary_page, PageHeader, HasHeader, SpellsHeader}
use Rattle.pq_metadata.specs.HeaderText.{IsHeaderText, IsOfOtherType, IsOtherType, SpellsOtherType, TellsType, header_reason_of}
use Rattle.pq_metadata.specs.Ids.{get}
use Rattle.pq_tree.specs.Reads.{HasNone, Refuses}
use Rattle.pq_metadata.proofs.Injective.{i32_same}

-- what a call of `read_thrift` says of the bytes
pub record Told (bytes : List ℕ) (r : Result (Thrift × ℕ) Error) : Type 0 where
  pub complete : (v : Value) (text rest : List ℕ) → Spells text v → depth v ≤ max_depth → bytes ≡ text ++ rest → ReadsAs bytes r (Ok (v, rest))
  pub only_deep : r ≡ Err (NotYetImplemented N7) → NestsTooDeep bytes
  pub deep : NestsTooDeep bytes → ReadsAs bytes r (Err Deep)
  pub exact : ReadsAs bytes r (thrift_at bytes)

-- ---- no value is read

-- the texts of what a value says
abbrev pub Says : {A : Type 0} → (Value → A → Type 0) → List ℕ → A → Type 0
Says R text a = (v : Value) × Spells text v × (depth v ≤ max_depth) × R v a

pub nothing_read : {A : Type 0} (R : Value → A → Type 0) (bytes : List ℕ) (e : Error) → Told bytes (Err e) → (e ≡ Memory) ⊎ HasNone (Begins (Says R) bytes)
nothing_read R bytes Memory t = inl refl
nothing_read R bytes (OutOfSpec s) t = inr (λ a b. let h = t.complete b.spells.0 b.text b.rest b.spells.1 b.spells.2 b.parts in cc h.1)
nothing_read R bytes (NotYetImplemented n) t = inr (λ a b. let h = t.complete b.spells.0 b.text b.rest b.spells.1 b.spells.2 b.parts in cc h.1)
nothing_read R bytes ReadFault t = absurd t.exact
nothing_read R bytes WriteFault t = absurd t.exact
nothing_read R bytes (InputLimit l) t = absurd t.exact
nothing_read R bytes (InvalidArgumentError a) t = absurd t.exact
nothing_read R bytes (Overflow v) t = absurd t.exact

-- ---- a value is read

abbrev Reading : Type 0
Reading = Result (Value × List ℕ) Fault

ok_of : Value × List ℕ → Reading → Value × List ℕ
ok_of d (Ok x) = x
ok_of d (Err e) = d

same_ok : (x y : Value × List ℕ) → (let r : Reading = Ok x in r) ≡ Ok y → x ≡ y
unfolding ok_of
same_ok x y e = ap (ok_of x) e

pub read_none : {A : Type 0} (R : Value → A → Type 0) (bytes : List ℕ) (x : Thrift × ℕ) → Told bytes (Ok x) → HasNone (R (view x.0)) → HasNone (Begins (Says R) bytes)
read_none R bytes x t n a b =
    let same : b.spells.0 ≡ view x.0 = ap (λ z. z.0) (same_ok (b.spells.0, b.rest) (view x.0, drop x.1 bytes) (t.complete b.spells.0 b.text b.rest b.spells.1 b.spells.2 b.parts)) in
    n a (subst (λ (v : Value). R v a) same b.spells.3)

pub not_deep : (bytes : List ℕ) (x : Thrift × ℕ) → Told bytes (Ok x) → ¬ NestsTooDeep bytes
not_deep bytes x t h = cc (t.deep h)

-- ---- footers

pub footer_nothing : (bytes : List ℕ) (e : Error) → Told bytes (Err e) → RefusesFooter bytes e
footer_nothing bytes Memory t = inl refl
footer_nothing bytes (OutOfSpec s) t = elim (nothing_read SpellsFlatFooter bytes (OutOfSpec s) t) [ inl m ↦ cc m | inr n ↦ inr (n, inl (ap OutOfSpec t.exact.0, λ h. cc (t.deep h).1)) ]
footer_nothing bytes (NotYetImplemented n) t = elim (nothing_read SpellsFlatFooter bytes (NotYetImplemented n) t) [ inl m ↦ cc m | inr k ↦ inr (k, inr (ap NotYetImplemented t.exact.0, t.only_deep (ap (λ m. Err (NotYetImplemented m)) t.exact.0))) ]
footer_nothing bytes ReadFault t = absurd t.exact
footer_nothing bytes WriteFault t = absurd t.exact
footer_nothing bytes (InputLimit l) t = absurd t.exact
footer_nothing bytes (InvalidArgumentError a) t = absurd t.exact
footer_nothing bytes (Overflow v) t = absurd t.exact

pub footer_none : (bytes : List ℕ) (x : Thrift × ℕ) (e : Error) → Told bytes (Ok x) → Refuses (OutOfSpec S1) (SpellsFlatFooter (view x.0)) e → RefusesFooter bytes e
footer_none bytes x e t r = elim r [ inl m ↦ inl m | inr n ↦ inr (read_none SpellsFlatFooter bytes x t n.1, inl (n.0, not_deep bytes x t)) ]

pub footer_found : (bytes : List ℕ) (x : Thrift × ℕ) (f : FlatFooter) → Spells (take x.1 bytes) (view x.0) → depth (view x.0) ≤ max_depth → SpellsFlatFooter (view x.0) f → Begins SpellsFlatRecord bytes f
footer_found bytes x f s d h = record { text = take x.1 bytes; rest = drop x.1 bytes; parts = sym (take-append-drop x.1 bytes); spells = (view x.0, s, d, h) }

-- ---- headers

-- why no header is read, as the clauses say it
pub record RefusesHeader (bytes : List ℕ) (e : Error) : Type 0 where
  pub none : (e ≡ Memory) ⊎ HasNone (Begins IsHeaderText bytes)
  pub other_type : (e ≡ Memory) ⊎ ((e ≡ NotYetImplemented N4) ↔ IsOfOtherType bytes)
  pub refused : (e ≡ Memory) ⊎ ((e ≡ OutOfSpec S3) ↔ (HasNone (Begins IsHeaderText bytes) × (¬ IsOfOtherType bytes)))

by_memory : (bytes : List ℕ) → RefusesHeader bytes Memory
by_memory bytes = record { none = inl refl; other_type = inl refl; refused = inl refl }

by_text : (bytes : List ℕ) → HasNone (Begins IsHeaderText bytes) → ¬ IsOfOtherType bytes → RefusesHeader bytes (OutOfSpec S3)
by_text bytes n o = record { none = inr n; other_type = inr ((λ e. cc e), λ i. absurd (o i)); refused = inr ((λ e. (n, o)), λ b. refl) }

by_type : (bytes : List ℕ) → HasNone (Begins IsHeaderText bytes) → IsOfOtherType bytes → RefusesHeader bytes (NotYetImplemented N4)
by_type bytes n o = record { none = inr n; other_type = inr ((λ e. o), λ i. refl); refused = inr ((λ e. cc e), λ b. absurd (b.1 o)) }

no_other : (bytes : List ℕ) → HasNone (Begins (Says SpellsOtherType) bytes) → ¬ IsOfOtherType bytes
no_other bytes n o = n o.type (record { text = o.spells.text; rest = o.spells.rest; parts = o.spells.parts; spells = (struct o.fields, o.spells.spells, o.nests, (o.has_type, o.other)) })

is_other : (bytes text rest : List ℕ) (v : Value) (t : ℤ) → bytes ≡ text ++ rest → Spells text v → depth v ≤ max_depth → SpellsOtherType v t → IsOfOtherType bytes
is_other bytes text rest (struct fs) t p s d h = record { fields = fs; spells = record { text = text; rest = rest; parts = p; spells = s }; nests = d; type = t; has_type = h.0; other = h.1 }
is_other bytes text rest _ t p s d h = absurd h

-- a header is of a type that is known
type_known : (fs : Fields) (h : Header) (t : ℤ) → HasHeader fs h → get 1 fs ≡ Some (int32 t) → IsOtherType t → ⊥
type_known fs (data_page h) t a e o = o.0 (i32_same (get 1 fs) t (pos 0) e a.0)
type_known fs (dictionary_page h) t a e o = o.1 (i32_same (get 1 fs) t (pos 2) e a.0)
type_known fs (data_page_2 h) t a e o = o.2 (i32_same (get 1 fs) t (pos 3) e a.0)

pub known : (v : Value) (h : PageHeader) → SpellsHeader v h → HasNone (SpellsOtherType v)
known (struct fs) h s t o = type_known fs h.header t s.header o.0 o.1
known _ h s t o = absurd s

pub header_nothing : (bytes : List ℕ) (e : Error) → Told bytes (Err e) → RefusesHeader bytes (header_reason_of e)
header_nothing bytes Memory t = by_memory bytes
header_nothing bytes (OutOfSpec s) t = elim (nothing_read SpellsHeader bytes (OutOfSpec s) t) [ inl m ↦ cc m | inr n ↦ elim (nothing_read SpellsOtherType bytes (OutOfSpec s) t) [ inl m ↦ cc m | inr o ↦ by_text bytes n (no_other bytes o) ] ]
header_nothing bytes (NotYetImplemented k) t = elim (nothing_read SpellsHeader bytes (NotYetImplemented k) t) [ inl m ↦ cc m | inr n ↦ elim (nothing_read SpellsOtherType bytes (NotYetImplemented k) t) [ inl m ↦ cc m | inr o ↦ by_text bytes n (no_other bytes o) ] ]
header_nothing bytes ReadFault t = absurd t.exact
header_nothing bytes WriteFault t = absurd t.exact
header_nothing bytes (InputLimit l) t = absurd t.exact
header_nothing bytes (InvalidArgumentError a) t = absurd t.exact
header_nothing bytes (Overflow v) t = absurd t.exact

pub header_none : (bytes : List ℕ) (x : Thrift × ℕ) (e : Error) → Told bytes (Ok x) → Spells (take x.1 bytes) (view x.0) → depth (view x.0) ≤ max_depth → HasNone (SpellsHeader (view x.0)) → TellsType (view x.0) e → RefusesHeader bytes e
header_none bytes x e t s d n tells =
    let none : HasNone (Begins IsHeaderText bytes) = read_none SpellsHeader bytes x t n in
    elim tells [
      | inl o ↦ subst (λ (r : Error). RefusesHeader bytes r) (sym o.0) (by_type bytes none (is_other bytes (take x.1 bytes) (drop x.1 bytes) (view x.0) o.1 (sym (take-append-drop x.1 bytes)) s d o.2))
      | inr o ↦ subst (λ (r : Error). RefusesHeader bytes r) (sym o.0) (by_text bytes none (no_other bytes (read_none SpellsOtherType bytes x t o.1)))
    ]

pub header_known : (bytes : List ℕ) (x : Thrift × ℕ) (h : PageHeader) → Told bytes (Ok x) → SpellsHeader (view x.0) h → ¬ IsOfOtherType bytes
header_known bytes x h t s = no_other bytes (read_none SpellsOtherType bytes x t (known (view x.0) h s))

pub header_there : (bytes : List ℕ) (x : Thrift × ℕ) (h : PageHeader) → Spells (take x.1 bytes) (view x.0) → depth (view x.0) ≤ max_depth → SpellsHeader (view x.0) h → ¬ HasNone (Begins IsHeaderText bytes)
header_there bytes x h s d said n = n h (record { text = take x.1 bytes; rest = drop x.1 bytes; parts = sym (take-append-drop x.1 bytes); spells = (view x.0, s, d, said) })
